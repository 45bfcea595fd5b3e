-- A number in decimal: its last digit after those of its tenth part, how many there are, and its digits from the last on in an array of twenty.
-- By induction over the count of digits. Assumes nothing.
use mathlib.Core.Path.{◌≡◌, refl}
use mathlib.Core.Bool.{cond}
use mathlib.Core.List.{List, [], ◌∷◌, ◌++◌}
use Prim.Native.Nat.{ℕ, zero, suc, ◌-◌, ◌/◌, ◌%◌, ◌^◌, ◌≤◌, ◌<◌}
use native.Mathlib.Nat.{pow-succ'}
use native.Mathlib.Decide.{dec_lt}
use native.Mathlib.Omega.{arith}
use borrow.Author.Tests.{lt-ltb, le-ltb, eq-eqb, ne_eqb}
use lib.Dec.{eqb}
use lib.ListN.{length, take, drop, set, length-append, length-drop}
use lib.Seq.{append_snoc, take_all}
use Rattle.digits.specs.Digits.{digit}
use Rattle.digits.specs.Decimal.{decimal_of, decimal}
use Rattle.digits.proofs.Put.{drop_set}

-- ---- digit by digit

-- any count that is no less than the number
enough : (k m n : ℕ) → n ≤ k → n ≤ m → decimal_of k n ≡ decimal_of m n
unfolding decimal_of
enough zero zero n h l = refl
enough zero (suc m) n h l = rw (lt-ltb n 10 (omega arith))
enough (suc k) zero n h l = rw (lt-ltb n 10 (omega arith))
enough (suc k) (suc m) n h l = go (dec_lt n 10) (enough k m (n / 10) (omega arith) (omega arith))
  where
    go : Dec (n < 10) → decimal_of k (n / 10) ≡ decimal_of m (n / 10) → decimal_of (suc k) n ≡ decimal_of (suc m) n
    go (yes few) tenth = rw (lt-ltb n 10 few)
    go (no more) tenth = rw (le-ltb n 10 (omega arith), tenth)

pub decimal_one : (n : ℕ) → n < 10 → decimal n ≡ digit n ∷ []
unfolding decimal decimal_of
decimal_one zero h = refl
decimal_one (suc n) h = rw (lt-ltb (suc n) 10 h)

pub decimal_more : (n : ℕ) → 10 ≤ n → decimal n ≡ decimal (n / 10) ++ digit (n % 10) ∷ []
unfolding decimal decimal_of
decimal_more zero h = absurd (omega arith)
decimal_more (suc n) h = rw (le-ltb (suc n) 10 h, enough n (suc n / 10) (suc n / 10) (omega arith) (omega arith))

-- k digits hold a number below 10 ^ k
pub length_decimal : (k n : ℕ) → n < 10 ^ suc k → length (decimal n) ≤ suc k
length_decimal zero n h = rw (decimal_one n (omega arith)) (omega arith)
length_decimal (suc k) n h = go (dec_lt n 10) (length_decimal k (n / 10) (omega (arith, pow-succ' 10 (suc k))))
  where
    go : Dec (n < 10) → length (decimal (n / 10)) ≤ suc k → length (decimal n) ≤ suc (suc k)
    go (yes few) tenth = rw (decimal_one n few) (omega arith)
    go (no more) tenth = rw (decimal_more n (omega arith), length-append) (omega arith)

-- ---- put from the last digit on

-- the digits above those that stand there
unfoldable pub above : ℕ → List ℕ
above rest = cond (eqb rest 0) [] (decimal rest)

above_none : (rest : ℕ) → rest ≡ 0 → above rest ≡ []
unfolding above
above_none rest h = rw (eq-eqb rest 0 h)

pub above_some : (rest : ℕ) → 0 < rest → above rest ≡ decimal rest
unfolding above
above_some rest h = rw (ne_eqb rest 0 (λ e. absurd (omega arith)))

pub decimal_last : (n : ℕ) → above (n / 10) ++ digit (n % 10) ∷ [] ≡ decimal n
decimal_last n = go (dec_lt n 10)
  where
    go : Dec (n < 10) → above (n / 10) ++ digit (n % 10) ∷ [] ≡ decimal n
    go (yes few) =
        let same : n % 10 ≡ n = omega arith in
        rw (above_none (n / 10) (omega arith), decimal_one n few, same)
    go (no more) = rw (above_some (n / 10) (omega arith), decimal_more n (omega arith))

pub above_more : (first rest d : ℕ) (digits whole : List ℕ) → 0 < rest → 0 < first → first ≤ length digits → d ≡ digit (rest % 10)
    → above rest ++ drop first digits ≡ whole → above (rest / 10) ++ drop (first - 1) (set digits (first - 1) d) ≡ whole
above_more first rest d digits whole some h room is left =
    let place : suc (first - 1) ≡ first = omega arith in
    rw (
      drop_set digits (first - 1) d (omega arith),
      place,
      ← (append_snoc (above (rest / 10)) d (drop first digits)),
      is,
      decimal_last rest,
      ← (above_some rest some),
    ) left

pub above_over : (rest : ℕ) (s : List ℕ) → rest ≡ 0 → above rest ++ s ≡ s
above_over rest s h = rw (above_none rest h)

-- a number below 10 ^ k has k digits at the most
pub digits_left : (k rest : ℕ) → 0 < rest → rest < 10 ^ k → 0 < k
digits_left zero rest some h = absurd (omega arith)
digits_left (suc k) rest some h = omega arith

pub tenth_below : (k rest : ℕ) → 0 < k → rest < 10 ^ k → rest / 10 < 10 ^ (k - 1)
tenth_below zero rest some h = absurd (omega arith)
tenth_below (suc k) rest some h =
    let one : suc k - 1 ≡ k = omega arith in
    rw one (omega (arith, pow-succ' 10 k))

-- the part of the array that has the digits
pub put_part : (first : ℕ) (digits : List ℕ) → length digits ≡ 20 → take (20 - first) (drop first digits) ≡ drop first digits
put_part first digits all = take_all (20 - first) (drop first digits) (rw length-drop (omega arith))
