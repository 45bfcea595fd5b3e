-- What the bench prints into a part of the room stands in the room. By the laws of lists.
-- Assumes nothing.
use mathlib.Core.Path.{◌≡◌, refl, sym, ap, ◌∙◌}
use Prim.Native.Nat.{ℕ, ◌+◌, ◌-◌, ◌≤◌}
use native.Mathlib.Omega.{arith}
use mathlib.Core.List.{List, ◌++◌, append_assoc}
use borrow.Author.Tests.{le-leb}
use borrow.Rule.Slice.PartMut.{mid_of, put_mid, mid_len}
use lib.IntN.{ℤ}
use lib.ListN.{length, take, drop, length-append, take-append-drop}
use lib.Seq.{drop-append-le, drop-drop}
use Rattle.std.specs.Prelude.{Result, Ok}
use Rattle.refusals.specs.declared.Refusal.{Refusal}
use Rattle.refusals.specs.Number.{number_back}
use Rattle.refusals.proofs.Numbers.{number_back_tells}
use Rattle.lent.specs.Lent.{over, placed}
use Rattle.report.specs.Bench.{printed, most_printed, bench_answer, bench_leaves, Prints}

-- ---- the bytes

-- what is over the start of a part is placed in the whole
mid_placed : (at k : ℕ) (s e : List ℕ) → length s ≤ length (mid_of at k e) → put_mid at k e (over s (mid_of at k e)) ≡ placed at s e
unfolding over placed
mid_placed at k s e h =
    let rest : List ℕ = drop at e in
    let back : drop (length s) (take k rest) ++ drop k rest ≡ drop (at + length s) e =
    sym (drop-append-le (length s) (take k rest) (drop k rest) h)
    ∙ ap (drop (length s)) (take-append-drop k rest)
    ∙ drop-drop (length s) at e in
    ap (λ (l : List ℕ). take at e ++ l) (append_assoc s (drop (length s) (take k rest)) (drop k rest) ∙ ap (λ (l : List ℕ). s ++ l) back)
    ∙ sym (append_assoc (take at e) s (drop (at + length s) e))

-- a buffer that kept its length has room for what is over its start
over_within : (s e left : List ℕ) → left ≡ over s e → length left ≡ length e → length s ≤ length e
unfolding over
over_within s e left is same =
    let whole : length (over s e) ≡ length s + length (drop (length s) e) = length-append s (drop (length s) e) in
    omega (arith, ap length is, same, whole)

-- what is printed into a room for it
pub printed_ok : {input room left : List ℕ} (r : Result ℕ Refusal) → Prints input room (number_back r) left → 1200 ≤ length room
    → r ≡ Ok (length (printed input))
unfolding bench_answer most_printed number_back
printed_ok {input} {room} r p h = number_back_tells r (Ok (length (printed input))) (p.answer ∙ rw (le-leb 1200 (length room) h) refl)

printed_over : {input room left : List ℕ} {r : ℤ} → Prints input room r left → 1200 ≤ length room → left ≡ over (printed input) room
unfolding bench_leaves most_printed
printed_over {input} {room} p h = p.leaves ∙ rw (le-leb 1200 (length room) h) refl

-- the rest of a buffer, from a place on that leaves room for it
pub printed_room : (at : ℕ) (e : List ℕ) → at ≤ 16743 → 17943 ≤ length e → 1200 ≤ length (mid_of at (length e - at) e)
printed_room at e h k = omega (arith, mid_len at (length e) e (omega arith))

-- what is printed there
pub record PrintedAt (at n : ℕ) (input e left : List ℕ) : Type 0 where
  pub count : n ≡ length (printed input)
  pub within : at + n ≤ length e
  pub leaves : put_mid at (length e - at) e left ≡ placed at (printed input) e

pub printed_at : (at n : ℕ) (input e left : List ℕ) (r : Result ℕ Refusal) → at ≤ 16743 → 17943 ≤ length e
    → Prints input (mid_of at (length e - at) e) (number_back r) left → length left ≡ length (mid_of at (length e - at) e) → r ≡ Ok n
    → PrintedAt at n input e left
printed_at at n input e left r h k p same is =
    let part : List ℕ = mid_of at (length e - at) e in
    let room = printed_room at e h k in
    let long = mid_len at (length e) e (omega arith) in
    let fine = printed_ok r p room in
    let count : n ≡ length (printed input) = cc in
    let all = printed_over p room in
    let most = over_within (printed input) part left all same in
    record {
      count = count;
      within = omega (arith, count, most, long);
      leaves = ap (put_mid at (length e - at) e) all ∙ mid_placed at (length e - at) (printed input) e most;
    }
