-- A request put together at the start of a buffer: its head, its body and its check. By the tests of the definitions, and by the laws of
-- `over` and `placed`. Assumes nothing.
use mathlib.Core.Path.{◌≡◌, refl, sym, ap, ◌∙◌}
use mathlib.Core.Bool.{true}
use mathlib.Core.List.{List, [], ◌∷◌}
use Prim.Native.Nat.{ℕ, ◌+◌, ◌≤◌}
use native.Mathlib.Omega.{arith}
use borrow.Author.Tests.{le-leb, eq-eqb, ne_eqb}
use borrow.Rule.Slice.PartMut.{put_mid}
use lib.Dec.{leb}
use lib.IntN.{ℤ, pos}
use lib.ListN.{length, take, set, length-set}
use Rattle.std.specs.Prelude.{Result, Ok}
use Rattle.refusals.specs.declared.Refusal.{Refusal}
use Rattle.refusals.specs.Number.{number_back}
use Rattle.lent.specs.Lent.{over, placed}
use Rattle.lent.specs.Puts.{Puts, PutsAt}
use Rattle.lent.proofs.Over.{over_placed, over_over, take_over, length_over}
use Rattle.lent.proofs.Puts.{puts_byte, puts_bytes, puts_then, puts_start}
use Rattle.crc.specs.Check.{check_bytes, sealed}
use Rattle.frames.specs.Field.{field_bytes, PutsField}
use Rattle.frames.specs.Frame.{seal_answer, seal_leaves, Seals}
use Rattle.frames.proofs.Fields.{length_field_bytes}
use Rattle.frames.proofs.Ways.{puts_field_fits}
use Rattle.reader.specs.declared.Request.{Request}
use Rattle.reader.specs.Steps.{Passes}
use Rattle.reader.specs.Request.{is_addressed, flags, address, body, message, frame, make_refusal, make_answer, make_leaves, Makes}
use Rattle.reader.proofs.MakeWays.{refusal_of_passes}
use Rattle.reader.proofs.Copy.{copied}
use Rattle.reader.proofs.Lengths.{length_address_most, length_message, length_frame, length_frame_most}

-- ---- the head

pub puts_unaddressed : (q : Request) (e : List ℕ) {f : ℕ} → f ≡ flags q → (q.mode ≡ 1 → ⊥) → 10 ≤ length e
    → Puts (flags q ∷ q.command ∷ address q) e 2 (set (set e 0 f) 1 q.command)
unfolding address is_addressed
puts_unaddressed q e {f} is h k = rw (ne_eqb q.mode 1 h, is) (puts_start (puts_bytes 0 (flags q) q.command e (omega arith)))

pub puts_addressed : (q : Request) (e : List ℕ) {f : ℕ} {r : Result ℕ Refusal} {n : ℕ} {left : List ℕ} → f ≡ flags q → q.mode ≡ 1 → r ≡ Ok n
    → PutsField (set (set e 0 f) 1 q.command) 2 8 q.uid (number_back r) left → 10 ≤ length e → Puts (flags q ∷ q.command ∷ address q) e n left
unfolding address is_addressed
puts_addressed q e {f} {r} {n} {left} is h all field k =
    let start : List ℕ = set (set e 0 (flags q)) 1 q.command in
    let long : length (field_bytes 8 q.uid) ≡ 8 = length_field_bytes 8 q.uid in
    let same : length start ≡ length e = length-set (set e 0 (flags q)) 1 q.command ∙ length-set e 0 (flags q) in
    let put : PutsField start 2 8 q.uid (number_back r) left = rw is at field in
    let fits = puts_field_fits r put (omega arith) in
    let ten : Ok n ≡ Ok 10 = sym all ∙ fits.0 in
    let uid : PutsAt 2 (field_bytes 8 q.uid) start n left = record { next = cc long; leaves = fits.1 } in
    rw (eq-eqb q.mode 1 h) (puts_start (puts_then (puts_bytes 0 (flags q) q.command e (omega arith)) uid (omega arith)))

pub length_head_most : (q : Request) → length (flags q ∷ q.command ∷ address q) ≤ 10
length_head_most q = omega (arith, length_address_most q)

-- ---- the body of 21, and of the commands that have none

pub puts_written : (q : Request) (written e : List ℕ) (at n : ℕ) {left : List ℕ} → at + 1 + length written ≤ length e → q.command ≡ 0x21 → n ≡ length written
    → left ≡ written → PutsAt at (body q written) e (at + 1 + length written) (put_mid (at + 1) n (set e at q.first) left)
unfolding body
puts_written q written e at n room is long same =
    let rest : PutsAt (at + 1) written (set e at q.first) (at + 1 + length written) (placed (at + 1) written (set e at q.first)) =
    record { next = refl; leaves = refl } in
    rw (is, copied (at + 1) n (set e at q.first) written same long) (puts_then (puts_byte at q.first e (omega arith)) rest (omega arith))

-- what is none of them all has no body
pub no_body : (q : Request) (written : List ℕ) → (q.command ≡ 0x20 → ⊥) → (q.command ≡ 0x21 → ⊥) → (q.command ≡ 0x22 → ⊥) → (q.command ≡ 0x23 → ⊥)
    → (q.command ≡ 0x27 → ⊥) → (q.command ≡ 0x29 → ⊥) → (q.command ≡ 0x2c → ⊥) → body q written ≡ []
unfolding body
no_body q written a b d f g h k =
    rw (
      ne_eqb q.command 0x20 a,
      ne_eqb q.command 0x21 b,
      ne_eqb q.command 0x22 d,
      ne_eqb q.command 0x23 f,
      ne_eqb q.command 0x27 g,
      ne_eqb q.command 0x29 h,
      ne_eqb q.command 0x2c k,
    )

-- ---- the whole

-- the check after bytes at the start
over_check : (s e : List ℕ) → over (sealed (take (length s) (over s e))) (over s e) ≡ over (sealed s) e
unfolding sealed
over_check s e = rw (take_over s e) (over_over s (check_bytes s) e)

pub makes_served : (q : Request) (written e : List ℕ) {at n : ℕ} {head whole left : List ℕ} {r : ℤ}
    → Puts (flags q ∷ q.command ∷ address q) e at head → PutsAt at (body q written) head n whole → Seals whole n r left
    → Passes q (length written) (length e) → Makes q written e r left
unfolding make_answer make_leaves message frame seal_answer seal_leaves
makes_served q written e {at} {n} {head} {whole} {left} {r} first second seal passes =
    let s : List ℕ = message q written in
    let short : length (frame q written) ≤ 45 = length_frame_most q written passes.asked passes.fits in
    let long : length (frame q written) ≡ length s + 2 = length_frame q written in
    let parts : length s ≡ 2 + length (address q) + length (body q written) = length_message q written in
    let end : n ≡ length s = omega (arith, first.count, second.next) in
    let put : whole ≡ over s e =
    second.leaves ∙ rw first.leaves (over_placed at (flags q ∷ q.command ∷ address q) (body q written) e (sym first.count)) in
    let same : length whole ≡ length e = ap length put ∙ length_over s e (omega (arith, passes.enough)) in
    let room : leb (n + 2) (length whole) ≡ true = le-leb (n + 2) (length whole) (omega (arith, passes.enough)) in
    let none = eq-eqb (make_refusal q (length written) (length e)) 0 (refusal_of_passes q (length written) (length e) passes) in
    let told : r ≡ pos (n + 2) = rw room at seal.answer in
    let left_is : left ≡ over (sealed (take n whole)) whole = rw room at seal.leaves in
    record { answer = told ∙ rw (none, long, end); leaves = left_is ∙ rw (none, end, put) (over_check s e) }
