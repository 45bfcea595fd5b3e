-- A line's head, what a slot adds, and the twins' line, each put together of its pieces. By the pieces placed one after the other.
-- Assumes nothing.
use mathlib.Core.Path.{◌≡◌, ap, subst, ◌∙◌}
use mathlib.Core.Bool.{Bool, true, cond, not, ◌||◌}
use Prim.Native.Nat.{ℕ, ◌+◌, ◌*◌, ◌%◌, ◌^◌, ◌≤◌, ◌<◌}
use native.Mathlib.Omega.{arith}
use mathlib.Core.List.{List, [], ◌∷◌, ◌++◌}
use borrow.Author.Tests.{eq-eqb, ne_eqb}
use lib.Dec.{eqb}
use lib.ListN.{length}
use lib.Pow.{pow_mono}
use lib.Seq.{append_snoc}
use Rattle.lent.specs.Puts.{PutsAt}
use Rattle.walk.specs.declared.Walk.{Walk}
use Rattle.walk.specs.Record.{mask_length, whole_mask, is_running, is_accepted}
use Rattle.walk.proofs.Limits.{Accepted, accepted_of_is_accepted}
use Rattle.row.specs.declared.Air.{Air}
use Rattle.row.specs.declared.Desk.{Desk}
use Rattle.digits.specs.Digits.{hex_digits}
use Rattle.picture.specs.Drawn.{sign, round_shown, tail_shown, line_head, slot_drawn, twins_uid, twins_line}
use Rattle.lent.proofs.Puts.{puts_none, puts_then}
use Rattle.picture.proofs.Lengths.{sign_most}

-- ---- before slot 0

pub head_none : (w : Walk) (at : ℕ) (e : List ℕ) → (w.slot ≡ 0 → ⊥) → PutsAt at (cond (eqb w.slot 0) (line_head w) []) e at e
head_none w at e h = rw (ne_eqb w.slot 0 h) (puts_none at e)

pub head_puts : (w : Walk) {at m k r mask : ℕ} {number e f g h : List ℕ} → w.slot ≡ 0 → number ≡ round_shown w.rounds ++ 0x20 ∷ []
    → mask ≡ whole_mask w → PutsAt at number e m f → PutsAt m (tail_shown w.level mask) f k g → PutsAt k (0x20 ∷ []) g r h → r ≤ length e
    → PutsAt at (cond (eqb w.slot 0) (line_head w) []) e r h
unfolding line_head
head_puts w {at} {m} {k} {r} {mask} {number} {e} {f} {g} {h} first n is p q t room =
    let shown : List ℕ = round_shown w.rounds in
    let calls : List ℕ = tail_shown w.level mask in
    let whole : number ++ calls ++ 0x20 ∷ [] ≡ shown ++ 0x20 ∷ calls ++ 0x20 ∷ [] =
    ap (λ (l : List ℕ). l ++ calls ++ 0x20 ∷ []) n ∙ ap (λ (l : List ℕ). l ++ 0x20 ∷ []) (append_snoc shown 0x20 calls) in
    let puts = puts_then (puts_then p q (omega (arith, q.next, t.next))) t (omega (arith, t.next)) in
    rw (eq-eqb w.slot 0 first, ← is) (subst (λ (s : List ℕ). PutsAt at s e r h) whole puts)

-- ---- a slot

pub slot_puts : (w next : Walk) (air : Air) {at m r a : ℕ} {ends : Bool} {e f g : List ℕ} → a ≡ sign air
    → ends ≡ (eqb w.slot 15 || not (is_running next)) → PutsAt at (cond (eqb w.slot 0) (line_head w) []) e m f
    → PutsAt m (a ∷ cond ends (0x0a ∷ []) []) f r g → m + 2 ≤ length e → PutsAt at (slot_drawn w air next) e r g
unfolding slot_drawn
slot_puts w next air {at} {m} {r} {a} {ends} {e} {f} {g} s t p q h =
    subst (λ (l : List ℕ). PutsAt at l e r g) (λ i. cond (eqb w.slot 0) (line_head w) [] ++ s i ∷ cond (t i) (0x0a ∷ []) [])
    (puts_then p q (omega (arith, h, sign_most a ends)))

-- ---- the twins' line

-- E0 above the slot digit above thirteen digits: 64 bits
pub record Above (w : Walk) : Type 0 where
  pub shifted : w.slot * 2 ^ 52 % 2 ^ 64 ≡ w.slot * 2 ^ 52
  pub fits : twins_uid w < 2 ^ 64

pub digits_above : (w : Walk) → is_accepted w ≡ true → length w.marks ≤ 14 → Above w
unfolding mask_length twins_uid
digits_above w e few =
    let a : Accepted w = accepted_of_is_accepted w e in
    let most : 2 ^ (4 * w.level) ≤ 2 ^ 52 = pow_mono {i = 4 * w.level} {j = 52} (omega (arith, a.level, few)) in
    let mask : whole_mask w < 2 ^ 52 = omega (arith, most, a.mask) in
    record { shifted = omega (arith, a.slot); fits = omega (arith, mask, a.slot) }

pub twins_none : (d : Desk) (at : ℕ) (e : List ℕ) → (d.walk.ending ≡ 2 → ⊥) → PutsAt at (twins_line d) e at e
unfolding twins_line
twins_none d at e h = rw (ne_eqb d.walk.ending 2 h) (puts_none at e)

pub twins_puts : (d : Desk) {at m k r uid : ℕ} {e f g h : List ℕ} → d.walk.ending ≡ 2
    → uid ≡ twins_uid d.walk → PutsAt at (0x74 ∷ 0x77 ∷ 0x69 ∷ 0x6e ∷ 0x73 ∷ 0x20 ∷ []) e m f
    → PutsAt m (hex_digits 16 uid) f k g → PutsAt k (0x0a ∷ []) g r h → r ≤ length e → PutsAt at (twins_line d) e r h
unfolding twins_line tail_shown
twins_puts d twins is p q t room =
    rw (eq-eqb d.walk.ending 2 twins, ← is)
    (puts_then (puts_then p q (omega (arith, q.next, t.next))) t (omega (arith, t.next)))
