-- A round's request put together at the start of a buffer: its head, its mask, its check; and its length.
-- By the laws of `over` and `placed`. Assumes nothing.
use mathlib.Core.Path.{◌≡◌, refl, sym, ap, ◌∙◌}
use mathlib.Core.Bool.{Bool, true, false, cond}
use mathlib.Core.List.{List, [], ◌∷◌, ◌++◌}
use Prim.Native.Nat.{ℕ, ◌+◌, ◌*◌, ◌≤◌, ◌<◌}
use native.Mathlib.Omega.{arith}
use borrow.Author.Tests.{ltb-true}
use lib.IntN.{ℤ}
use lib.ListN.{length, take, set, length-append, length-set}
use lib.Seq.{set_comm, append_snoc}
use Rattle.lent.specs.Lent.{over, placed}
use Rattle.lent.specs.Puts.{Puts}
use Rattle.lent.proofs.Over.{sets_over, placed_start, placed_placed, set_placed, length_over, over_over, take_over}
use Rattle.crc.specs.Check.{check_bytes, sealed}
use Rattle.crc.proofs.Seal.{length_sealed}
use Rattle.frames.specs.Field.{field_bytes, PutsField}
use Rattle.frames.specs.Frame.{Seals}
use Rattle.frames.proofs.Fields.{length_field_bytes}
use Rattle.frames.proofs.Ways.{puts_served, seals_served, placed_check}
use Rattle.frames.proofs.Unique.{put_field_unique, seal_unique}
use Rattle.slots.specs.Fits.{mask_bytes}
use Rattle.walk.specs.declared.Walk.{Walk}
use Rattle.walk.specs.Record.{mask_length, whole_mask, has_family}
use Rattle.walk.specs.Ask.{request_head, request_body, request}

-- bytes at the start leave the buffer its length
pub length_puts : {s e left : List ℕ} {r : ℕ} → Puts s e r left → length s ≤ length e → length left ≡ length e
length_puts {s} {e} puts h = ap length puts.leaves ∙ length_over s e h

-- ---- the head

pub family_is_byte : (w : Walk) → has_family w ≡ true → w.family < 256
unfolding has_family
family_is_byte w e = ltb-true w.family 256 e

pub puts_family : (w : Walk) (e : List ℕ) → has_family w ≡ true → 3 ≤ length e
    → Puts (request_head w) e 3 (set (set (set e 1 0x01) 0 0x16) 2 w.family)
unfolding request_head
puts_family w e h k =
    let order : set (set e 1 0x01) 0 0x16 ≡ set (set e 0 0x16) 1 0x01 = set_comm e 1 0 0x01 0x16 (λ i. omega arith) in
    record {
      count = rw h;
      leaves = rw (h, order) (sets_over (0x16 ∷ 0x01 ∷ w.family ∷ []) e k);
    }

pub puts_no_family : (w : Walk) (e : List ℕ) → has_family w ≡ false → 3 ≤ length e → Puts (request_head w) e 2 (set (set e 1 0x01) 0 0x06)
unfolding request_head
puts_no_family w e h k =
    let order : set (set e 1 0x01) 0 0x06 ≡ set (set e 0 0x06) 1 0x01 = set_comm e 1 0 0x01 0x06 (λ i. omega arith) in
    record {
      count = rw h;
      leaves = rw (h, order) (sets_over (0x06 ∷ 0x01 ∷ []) e (omega arith));
    }

-- ---- lengths

length_head : (w : Walk) → length (request_head w) ≡ cond (has_family w) 3 2
unfolding request_head
length_head w = go (has_family w)
  where
    go : (t : Bool) → length (cond t (0x16 ∷ 0x01 ∷ w.family ∷ []) (0x06 ∷ 0x01 ∷ [])) ≡ cond t 3 2
    go true = refl
    go false = refl

either_within : (t : Bool) → (2 ≤ cond t 3 2) × (cond t 3 2 ≤ 3)
either_within true = (omega arith, omega arith)
either_within false = (omega arith, omega arith)

pub length_head_least : (w : Walk) → 2 ≤ length (request_head w)
length_head_least w = rw (length_head w) (either_within (has_family w)).0

pub length_head_most : (w : Walk) → length (request_head w) ≤ 3
length_head_most w = rw (length_head w) (either_within (has_family w)).1

pub mask_bytes_most : (level : ℕ) → level < 16 → mask_bytes (4 * level) ≤ 8
unfolding mask_bytes
mask_bytes_most level h = omega arith

pub length_body : (w : Walk) → length (request_body w) ≡ length (request_head w) + 1 + mask_bytes (mask_length w.level)
unfolding request_body
length_body w =
    let n : ℕ = mask_bytes (mask_length w.level) in
    length-append (request_head w) (mask_length w.level ∷ field_bytes n (whole_mask w)) ∙ rw (length_field_bytes n (whole_mask w)) (omega arith)

pub length_request : (w : Walk) → length (request w) ≡ length (request_head w) + 3 + mask_bytes (mask_length w.level)
unfolding request
length_request w = length_sealed (request_body w) ∙ omega (arith, length_body w)

pub length_request_most : (w : Walk) → w.level < 16 → length (request w) ≤ 14
unfolding mask_length
length_request_most w h = omega (arith, length_request w, length_head_most w, mask_bytes_most w.level h)

pub length_with_family : (w : Walk) → has_family w ≡ true → length (request w) ≡ mask_bytes (mask_length w.level) + 6
length_with_family w h = length_request w ∙ rw (length_head w, h) (omega arith)

pub length_no_family : (w : Walk) → has_family w ≡ false → length (request w) ≡ mask_bytes (mask_length w.level) + 5
length_no_family w h = length_request w ∙ rw (length_head w, h) (omega arith)

-- ---- the whole request

-- bytes, one byte and more bytes, one after another at the start
over_rest : (s v e : List ℕ) (b : ℕ) → length s + 1 + length v ≤ length e
    → placed (length s + 1) v (set (over s e) (length s) b) ≡ over (s ++ b ∷ v) e
over_rest s v e b h =
    let place : 0 + length s ≡ length s = omega arith in
    let one : set (over s e) (length s) b ≡ placed 0 (s ++ b ∷ []) e =
    rw (← placed_start s e) (ap (λ (n : ℕ). set (placed 0 s e) n b) (sym place) ∙ set_placed 0 s e b (omega arith)) in
    let next : length s + 1 ≡ 0 + length (s ++ b ∷ []) = rw (length-append s (b ∷ [])) (omega arith) in
    rw (one, next, ← append_snoc s b v, ← placed_start (s ++ b ∷ [] ++ v) e) (placed_placed 0 (s ++ b ∷ []) v e (omega arith))

-- the check after bytes at the start
over_check : (s e : List ℕ) → over (sealed (take (length s) (over s e))) (over s e) ≡ over (sealed s) e
unfolding sealed
over_check s e = rw (take_over s e) (over_over s (check_bytes s) e)

pub puts_body : (w : Walk) (e : List ℕ) {at bytes : ℕ} {first second : List ℕ} {r : ℤ} → Puts (request_head w) e at first
    → bytes ≡ mask_bytes (4 * w.level) → PutsField (set first at (4 * w.level)) (at + 1) bytes (whole_mask w) r second → w.level < 16 → 14 ≤ length e
    → Puts (request_body w) e (at + 1 + bytes) second
unfolding request_body mask_length
puts_body w e {at} {bytes} {first} {second} head is field h k =
    let s : List ℕ = request_head w in
    let v : List ℕ = field_bytes bytes (whole_mask w) in
    let n : length v ≡ bytes = length_field_bytes bytes (whole_mask w) in
    let short : length s ≤ 3 = length_head_most w in
    let few : bytes ≤ 8 = rw is (mask_bytes_most w.level h) in
    let place : at ≡ length s = head.count in
    let room : length (set first at (4 * w.level)) ≡ length e =
    length-set first at (4 * w.level) ∙ ap length head.leaves ∙ length_over s e (omega arith) in
    let left : second ≡ over (s ++ 4 * w.level ∷ v) e =
    (put_field_unique field (puts_served (set first at (4 * w.level)) (at + 1) bytes (whole_mask w) (omega arith))).1
    ∙ rw (head.leaves, place) (over_rest s v e (4 * w.level) (omega arith)) in
    record { count = rw (← is) (omega (arith, length-append s (4 * w.level ∷ v))); leaves = left ∙ rw is }

pub seals_body : (w : Walk) (e : List ℕ) {n : ℕ} {body left : List ℕ} {r : ℤ} → Puts (request_body w) e n body → Seals body n r left
    → w.level < 16 → 14 ≤ length e → left ≡ over (request w) e
unfolding request
seals_body w e {n} {body} puts seal h k =
    let most : length (request w) ≤ 14 = length_request_most w h in
    let long : length (request w) ≡ length (request_body w) + 2 = length_sealed (request_body w) in
    let same : length body ≡ length e = length_puts puts (omega arith) in
    let room : n + 2 ≤ length body = omega (arith, puts.count) in
    (seal_unique seal (seals_served body n room)).1 ∙ placed_check body n (omega arith) ∙ rw (puts.count, puts.leaves) (over_check (request_body w) e)
