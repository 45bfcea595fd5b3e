-- The card's test of an asked AFI is Table 1 of the standard, and who answers, row by row of that table. By the digits asked. Assumes nothing.
use mathlib.Core.Path.{◌≡◌, refl, sym, ap₂, ◌∙◌}
use mathlib.Core.Bool.{true, false, ◌&&◌, and_comm, and-true}
use Prim.Native.Nat.{ℕ, zero, suc, ◌+◌, ◌*◌, ◌/◌, ◌%◌, ◌≤◌, ◌<◌}
use native.Mathlib.Nat.{mod-lt}
use native.Mathlib.Omega.{arith}
use borrow.Author.Tests.{eq-eqb, ne_eqb, le-leb, lt-leb}
use lib.Dec.{eqb}
use Rattle.tails.proofs.Digits.{parts_fit}
use Rattle.card.specs.declared.Card.{Card}
use Rattle.card.specs.declared.Mode.TheVariants.{Ready, Quiet, Selected}
use Rattle.card.specs.Inventory.{fits_family}
use Rattle.field.specs.Field.{listens, table_one, family_fits, answers}

-- two numbers are equal exactly if their last digits are, and what stands above these
both_digits : (a b : ℕ) → eqb a b ≡ (eqb (a / 16) (b / 16) && eqb (a % 16) (b % 16))
both_digits a b =
    let whole-a : a ≡ a % 16 + a / 16 * 16 = omega arith in
    let whole-b : b ≡ b % 16 + b / 16 * 16 = omega arith in
    ap₂ eqb whole-a whole-b
    ∙ parts_fit 16 (a % 16) (a / 16) (b % 16) (b / 16) (mod-lt a (omega arith)) (mod-lt b (omega arith))
    ∙ and_comm (eqb (a % 16) (b % 16)) (eqb (a / 16) (b / 16))

-- rows X Y and 0 Y: both digits
low_asked : (x y high low : ℕ) → 1 ≤ y → table_one x y high low ≡ (eqb x high && eqb y low)
unfolding table_one
low_asked x zero high low h = absurd (omega arith)
low_asked zero (suc y) high low h = refl
low_asked (suc x) (suc y) high low h = refl

other_asked : (asked own : ℕ) → 1 ≤ asked % 16 → table_one (asked / 16) (asked % 16) (own / 16) (own % 16) ≡ eqb asked own
other_asked asked own h = low_asked (asked / 16) (asked % 16) (own / 16) (own % 16) h ∙ sym (both_digits asked own)

-- the card's test
pub fits_table : (asked own : ℕ) → fits_family asked own ≡ table_one (asked / 16) (asked % 16) (own / 16) (own % 16)
unfolding fits_family table_one
fits_table asked own = go (asked / 16) (asked % 16) refl refl
  where
    go : (x y : ℕ) → asked / 16 ≡ x → asked % 16 ≡ y → fits_family asked own ≡ table_one (asked / 16) (asked % 16) (own / 16) (own % 16)
    go zero zero h l = rw (h, l, eq-eqb asked 0 (omega (arith, h, l)))
    go (suc x) zero h l = rw (h, l, ne_eqb asked 0 (λ e. omega (arith, h, e)))
    go x (suc y) h l = rw (ne_eqb (asked % 16) 0 (λ e. omega (arith, l, e))) (sym (other_asked asked own (omega (arith, l))))

-- ---- who answers

-- Ready and Selected listen, Quiet does not
pub modes_heard : (listens Ready ≡ true) × (listens Selected ≡ true) × (listens Quiet ≡ false)
unfolding listens
modes_heard = (refl, refl, refl)

-- no family
pub none_asked : (family : ℕ) → 256 ≤ family → (c : Card) → answers family c ≡ listens c.mode
unfolding answers family_fits
none_asked family h c = rw (le-leb 256 family h) (and-true (listens c.mode))

-- row 0 0
pub all_asked : (c : Card) → answers 0x00 c ≡ listens c.mode
unfolding answers family_fits table_one
all_asked c = and-true (listens c.mode)

-- row X 0
pub family_asked : (x : ℕ) → 1 ≤ x → x ≤ 15 → (c : Card) → answers (16 * x) c ≡ (listens c.mode && eqb x (c.afi / 16))
unfolding answers family_fits table_one
family_asked zero least most c = absurd (omega arith)
family_asked (suc x) least most c =
    let high : (16 * suc x) / 16 ≡ suc x = omega arith in
    let low : (16 * suc x) % 16 ≡ 0 = omega arith in
    rw (lt-leb 256 (16 * suc x) (omega arith), high, low)

-- rows X Y and 0 Y
pub only_asked : (asked : ℕ) → asked < 256 → 1 ≤ asked % 16 → (c : Card) → answers asked c ≡ (listens c.mode && eqb asked c.afi)
unfolding answers family_fits
only_asked asked most low c = rw (lt-leb 256 asked most, other_asked asked c.afi low)
