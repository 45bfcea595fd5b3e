-- A card put back into the bytes of its record: three fields, the bytes of its state, and the mask. By the laws of `over` and `placed`.
-- Assumes nothing.
use mathlib.Core.Path.{◌≡◌, refl, ap, ◌∙◌}
use mathlib.Core.Bool.{Bool, true, false}
use mathlib.Core.List.{List, [], ◌∷◌, ◌++◌, append_assoc}
use Prim.Native.Nat.{ℕ, ◌+◌, ◌≤◌}
use native.Mathlib.Omega.{arith}
use lib.ListN.{length, length-append}
use lib.IntN.{ℤ}
use lib.Seq.{drop-drop}
use borrow.Rule.Slice.PartMut.{put_mid}
use Rattle.std.specs.Int.{from_bool}
use Rattle.lent.specs.Lent.{over, placed}
use Rattle.lent.proofs.Over.{placed_start, placed_placed, length_over, length_placed}
use Rattle.frames.specs.Field.{field_bytes, PutsField}
use Rattle.frames.proofs.Fields.{length_field_bytes}
use Rattle.frames.proofs.Ways.{puts_served}
use Rattle.frames.proofs.Unique.{put_field_unique}
use Rattle.card.specs.declared.Card.{Card}
use Rattle.record.specs.declared.bytes.Fields.{Fields}
use Rattle.record.specs.Record.{flag_byte, mode_byte, fields_of, held_byte, state_bytes, front_bytes, record_of}

flag_from : (b : Bool) → from_bool b ≡ flag_byte b
unfolding flag_byte
flag_from true = refl
flag_from false = refl

-- the ten bytes of the state, by what each is made of
pub state_made : (c : Card) {t : Fields} {f g m h : ℕ} → t ≡ fields_of c.sequence → f ≡ from_bool c.afi_locked → g ≡ from_bool c.dsfid_locked
    → m ≡ mode_byte c.mode → h ≡ held_byte c.held
    → ◌≡◌ {A = List ℕ} (c.afi ∷ c.dsfid ∷ f ∷ g ∷ c.ic_reference ∷ m ∷ t.running ∷ t.slot ∷ t.length ∷ h ∷ []) (state_bytes c)
unfolding state_bytes
state_made c s p q u v =
    let f = p ∙ flag_from c.afi_locked in
    let g = q ∙ flag_from c.dsfid_locked in
    λ i. c.afi ∷ c.dsfid ∷ f i ∷ g i ∷ c.ic_reference ∷ u i ∷ (s i).running ∷ (s i).slot ∷ (s i).length ∷ v i ∷ []

-- a field that has room
field_put : (e : List ℕ) {at count value : ℕ} {r : ℤ} {left : List ℕ} → PutsField e at count value r left → at + count ≤ length e
    → left ≡ placed at (field_bytes count value) e
field_put e {at} {count} {value} p h = (put_field_unique p (puts_served e at count value h)).1

-- bytes right after the bytes s at the start
after : (at : ℕ) (s v e : List ℕ) → length s ≡ at → at + length v ≤ length e → placed at v (placed 0 s e) ≡ placed 0 (s ++ v) e
after at s v e is h =
    let place : 0 + length s ≡ at = omega arith in
    rw (← place) (placed_placed 0 s v e (omega arith))

field_after : (s e : List ℕ) {at count value : ℕ} {r : ℤ} {left : List ℕ} → PutsField (placed 0 s e) at count value r left → length s ≡ at
    → at + count ≤ length e → left ≡ placed 0 (s ++ field_bytes count value) e
field_after s e {at} {count} {value} p is h =
    let same : length (placed 0 s e) ≡ length e = length_placed 0 s e (omega arith) in
    let n : length (field_bytes count value) ≡ count = length_field_bytes count value in
    field_put (placed 0 s e) p (omega arith) ∙ after at s (field_bytes count value) e is (omega arith)

length_state : (c : Card) → length (state_bytes c) ≡ 10
unfolding state_bytes
length_state c = refl

-- a copy of them
pub state_copied : (c : Card) (e : List ℕ) {s : List ℕ} → s ≡ state_bytes c → put_mid 16 10 e s ≡ placed 16 (state_bytes c) e
unfolding placed
state_copied c e is = rw (is, length_state c, drop-drop, append_assoc) refl

pub length_copied : (c : Card) (e : List ℕ) {s : List ℕ} → s ≡ state_bytes c → length e ≡ 40 → length (put_mid 16 10 e s) ≡ 40
length_copied c e is h = ap length (state_copied c e is) ∙ length_placed 16 (state_bytes c) e (omega (arith, length_state c)) ∙ h

pub length_front : (c : Card) → length (front_bytes c) ≡ 26
unfolding front_bytes state_bytes
length_front c = simp (length-append, length_field_bytes) refl

pub card_put : (c : Card) (e : List ℕ) {p q u v : ℤ} {l1 l2 l3 l4 l5 : List ℕ} {t : Fields} → length e ≡ 40 → PutsField e 0 8 c.uid p l1
    → PutsField l1 8 4 c.blocks q l2 → PutsField l2 12 4 c.size u l3 → l4 ≡ placed 16 (state_bytes c) l3 → t ≡ fields_of c.sequence
    → PutsField l4 32 8 t.mask v l5 → l5 ≡ record_of c e
unfolding record_of front_bytes
card_put c e {l1} {l2} {l3} {l4} {l5} is a b d s m k =
    let one : List ℕ = field_bytes 8 c.uid in
    let two : List ℕ = one ++ field_bytes 4 c.blocks in
    let three : List ℕ = two ++ field_bytes 4 c.size in
    let n1 : length one ≡ 8 = length_field_bytes 8 c.uid in
    let n2 : length two ≡ 12 = length-append one (field_bytes 4 c.blocks) ∙ omega (arith, length_field_bytes 4 c.blocks) in
    let n3 : length three ≡ 16 = length-append two (field_bytes 4 c.size) ∙ omega (arith, length_field_bytes 4 c.size) in
    let f1 : l1 ≡ placed 0 one e = field_put e a (omega arith) in
    let f2 : l2 ≡ placed 0 two e = field_after one e (rw f1 at b) n1 (omega arith) in
    let f3 : l3 ≡ placed 0 three e = field_after two e (rw f2 at d) n2 (omega arith) in
    let f4 : l4 ≡ over (front_bytes c) e =
    s ∙ ap (λ (l : List ℕ). placed 16 (state_bytes c) l) f3 ∙ after 16 three (state_bytes c) e n3 (omega (arith, length_state c)) ∙ placed_start (front_bytes c) e in
    let same : length (over (front_bytes c) e) ≡ length e = length_over (front_bytes c) e (omega (arith, length_front c)) in
    field_put (over (front_bytes c) e) (rw (f4, m) at k) (omega arith)
