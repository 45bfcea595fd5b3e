-- Bytes put one after another at the start of a buffer. By the laws of `over` and `placed`. Assumes nothing.
use mathlib.Core.Path.{◌≡◌, refl, sym, ap, ◌∙◌}
use mathlib.Core.List.{List, [], ◌∷◌, ◌++◌}
use Prim.Native.Nat.{ℕ, suc, ◌+◌, ◌-◌, ◌≤◌}
use native.Mathlib.Omega.{arith}
use lib.ListN.{length, set, length-append}
use lib.IntN.{ℤ}
use lib.Seq.{sets}
use Rattle.lent.specs.Lent.{over, placed}
use Rattle.lent.proofs.Over.{sets_placed, sets_over, over_placed, length_over}
use Rattle.frames.specs.Field.{field_bytes, PutsField}
use Rattle.frames.proofs.Fields.{length_field_bytes}
use Rattle.frames.proofs.Ways.{puts_served}
use Rattle.frames.proofs.Unique.{put_field_unique}
use Rattle.card.specs.declared.Card.{Card}
use Rattle.play.specs.Answer.{information, presence}
use Rattle.lent.specs.Puts.{Puts}

-- the first byte, and bytes after it
pub first_placed : (b : ℕ) (v e : List ℕ) → 1 + length v ≤ length e → placed 1 v (set e 0 b) ≡ over (b ∷ v) e
first_placed b v e h = rw (sets_over (b ∷ []) e (omega arith)) (over_placed 1 (b ∷ []) v e refl)

-- bytes that stores at the start make
pub puts_sets : (s e : List ℕ) → length s ≤ length e → Puts s e (length s) (sets e 0 s)
puts_sets s e h = record { count = refl; leaves = sets_over s e h }

-- the first byte, and copied bytes after it
pub puts_first : (b n : ℕ) (v e : List ℕ) → length v ≡ n → 1 + n ≤ length e → Puts (b ∷ v) e (1 + n) (placed 1 v (set e 0 b))
puts_first b n v e is h = record { count = omega arith; leaves = first_placed b v e (omega arith) }

-- a field after the bytes at the start
field_over : (s e : List ℕ) {left : List ℕ} {at value : ℕ} {r : ℤ} → PutsField (over s e) at 8 value r left → length s ≡ at → at + 8 ≤ length e
    → left ≡ over (s ++ field_bytes 8 value) e
field_over s e {left} {at} {value} puts is h =
    let same : length (over s e) ≡ length e = length_over s e (omega arith) in
    (put_field_unique puts (puts_served (over s e) at 8 value (rw same h))).1
    ∙ over_placed at s (field_bytes 8 value) e is

pub length_presence : (c : Card) → length (presence c) ≡ 9
unfolding presence
length_presence c = ap suc (length_field_bytes 8 c.uid)

-- step 3's answer
pub puts_presence : (c : Card) (e : List ℕ) {left : List ℕ} {r : ℤ} → PutsField (set (set e 0 0x00) 1 c.dsfid) 2 8 c.uid r left → 10 ≤ length e
    → Puts (0x00 ∷ presence c) e 10 left
unfolding presence
puts_presence c e puts h =
    let s : List ℕ = 0x00 ∷ c.dsfid ∷ [] in
    let start : sets e 0 s ≡ over s e = sets_over s e (omega arith) in
    record {
      count = sym (ap suc (length_presence c));
      leaves = field_over s e (rw start at puts) refl h;
    }

pub length_information : (c : Card) → length (information c) ≡ 14
unfolding information
length_information c =
    let f : List ℕ = field_bytes 8 c.uid in
    let n : length f ≡ 8 = length_field_bytes 8 c.uid in
    ap suc (length-append f (c.dsfid ∷ c.afi ∷ (c.blocks - 1) ∷ (c.size - 1) ∷ c.ic_reference ∷ [])) ∙ omega arith

-- 2B's answer
pub puts_information : (c : Card) (e : List ℕ) {left : List ℕ} {r : ℤ} → PutsField (set (set e 0 0x00) 1 0x0f) 2 8 c.uid r left → 15 ≤ length e
    → Puts (0x00 ∷ information c) e 15
    (sets left 10 (c.dsfid ∷ c.afi ∷ (c.blocks - 1) ∷ (c.size - 1) ∷ c.ic_reference ∷ []))
unfolding information
puts_information c e {left} puts h =
    let f : List ℕ = field_bytes 8 c.uid in
    let s : List ℕ = 0x00 ∷ 0x0f ∷ [] in
    let v : List ℕ = c.dsfid ∷ c.afi ∷ (c.blocks - 1) ∷ (c.size - 1) ∷ c.ic_reference ∷ [] in
    let start : sets e 0 s ≡ over s e = sets_over s e (omega arith) in
    let front : left ≡ over (s ++ f) e = field_over s e (rw start at puts) refl (omega arith) in
    let ten : length (s ++ f) ≡ 10 = ap (λ (n : ℕ). suc (suc n)) (length_field_bytes 8 c.uid) in
    let same : length (over (s ++ f) e) ≡ length e = length_over (s ++ f) e (omega arith) in
    record {
      count = sym (ap suc (length_information c));
      leaves =
          ap (λ (t : List ℕ). sets t 10 v) front ∙ sets_placed 10 v (over (s ++ f) e) (rw same h) ∙ over_placed 10 (s ++ f) v e ten;
    }
