-- The ways out of the functions that read lines, by the tests of the definitions: a line that ends or is longer, a byte, and the end.
-- Assumes nothing.
use mathlib.Core.Path.{◌≡◌, refl}
use mathlib.Core.Bool.{Bool, true, false, cond, not, ◌&&◌, and-eq-true_iff}
use Prim.Native.Nat.{ℕ, ◌≤◌, ◌<◌}
use native.Mathlib.Omega.{arith}
use borrow.Author.Tests.{ltb-true, lt-ltb, le-ltb, not-true, eq-eqb, ne_eqb}
use lib.Dec.{ltb, eqb}
use Rattle.digits.specs.Digits.{digit_of}
use Rattle.lines.specs.declared.Lines.{Lines}
use Rattle.lines.specs.Input.{begins_e0}
use Rattle.lines.specs.Lines.{wrong, listed, pushed, longer, line_ended, stepped, closed}

-- ---- the line ends

-- no line 101, 16 digits, the first two E0
abbrev pub is_whole : Lines → Bool
is_whole s = ltb s.count 100 && (eqb s.digits 16 && begins_e0 s.number)

pub whole_count : (s : Lines) → is_whole s ≡ true → s.count < 100
whole_count s on = ltb-true s.count 100 ((and-eq-true_iff (ltb s.count 100) _).0 on).0

pub ended_uid : (s : Lines) → is_whole s ≡ true → listed s ≡ line_ended s
unfolding line_ended
ended_uid s on = rw on

pub ended_wrong : (s : Lines) → is_whole s ≡ false → wrong s ≡ line_ended s
unfolding line_ended
ended_wrong s off = rw off

-- ---- a byte more in the line

-- no line 101, no 17th byte, and a digit
abbrev pub fits : Lines → ℕ → Bool
fits s d = ltb s.count 100 && (ltb s.digits 16 && ltb d 16)

pub fits_digits : (s : Lines) (d : ℕ) → fits s d ≡ true → (s.digits < 16) × (d < 16)
fits_digits s d on =
    let both = (and-eq-true_iff (ltb s.digits 16) (ltb d 16)).0 ((and-eq-true_iff (ltb s.count 100) _).0 on).1 in
    (ltb-true s.digits 16 both.0, ltb-true d 16 both.1)

pub longer_digit : (s : Lines) (b d : ℕ) → d ≡ digit_of b → fits s d ≡ true → pushed s d ≡ longer s b
unfolding longer
longer_digit s b d is on = rw (← is, on)

pub longer_wrong : (s : Lines) (b d : ℕ) → d ≡ digit_of b → fits s d ≡ false → wrong s ≡ longer s b
unfolding longer
longer_wrong s b d is off = rw (← is, off)

-- ---- a byte

pub stepped_end : (s : Lines) (b : ℕ) → b ≡ 0x0a → line_ended s ≡ stepped s b
unfolding stepped
stepped_end s b h = rw (eq-eqb b 0x0a h)

pub stepped_longer : (s : Lines) (b : ℕ) → (b ≡ 0x0a → ⊥) → longer s b ≡ stepped s b
unfolding stepped
stepped_longer s b h = rw (ne_eqb b 0x0a h)

-- line 101, a 17th byte, or no digit
pub longer_101 : (s : Lines) (b : ℕ) → 100 ≤ s.count → wrong s ≡ longer s b
unfolding longer
longer_101 s b h = rw (le-ltb s.count 100 h)

pub longer_17 : (s : Lines) (b : ℕ) → s.count < 100 → 16 ≤ s.digits → wrong s ≡ longer s b
unfolding longer
longer_17 s b h k = rw (lt-ltb s.count 100 h, le-ltb s.digits 16 k)

pub longer_other : (s : Lines) (b : ℕ) → 16 ≤ digit_of b → wrong s ≡ longer s b
unfolding longer
longer_other s b h = rw (le-ltb (digit_of b) 16 h) (by (ltb s.count 100) (ltb s.digits 16))
  where
    by : (t u : Bool) → wrong s ≡ cond (t && (u && false)) (pushed s (digit_of b)) (wrong s)
    by true true = refl
    by true false = refl
    by false u = refl

-- ---- the end

abbrev pub is_open : Lines → Bool
is_open s = eqb s.bad 0 && not (eqb s.digits 0)

pub closed_open : (s : Lines) → is_open s ≡ true → line_ended s ≡ closed s
unfolding closed
closed_open s on =
    let both = (and-eq-true_iff (eqb s.bad 0) _).0 on in
    let begun : eqb s.digits 0 ≡ false = not-true (eqb s.digits 0) both.1 in
    rw (both.0, begun)

pub closed_shut : (s : Lines) → is_open s ≡ false → s ≡ closed s
unfolding closed
closed_shut s off = by (eqb s.bad 0) (eqb s.digits 0) off
  where
    by : (t u : Bool) → (t && not u) ≡ false → s ≡ cond t (cond u s (line_ended s)) s
    by true true e = refl
    by true false e = let never : ◌≡◌ {A = ℕ} 0 1 = cc in absurd (omega arith)
    by false u e = refl
