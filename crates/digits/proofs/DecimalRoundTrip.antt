-- Both ways: a number in decimal has digits alone, with no 0 in front unless it is 0, and stands for the number; and it is the only such text that does.
-- By induction over the digits. Assumes nothing.
use mathlib.Core.Path.{◌≡◌, refl, sym, ◌∙◌}
use mathlib.Core.Bool.{true, and-eq-true_iff}
use mathlib.Core.List.{List, [], ◌∷◌, ◌++◌, append-nil}
use Prim.Native.Nat.{ℕ, zero, suc, ◌+◌, ◌*◌, ◌/◌, ◌%◌, ◌≤◌, ◌<◌}
use native.Mathlib.Decide.{dec_lt}
use native.Mathlib.Omega.{arith}
use borrow.Author.Tests.{lt-ltb, le-ltb, ltb-true}
use lib.Dec.{ltb}
use lib.ListN.{length, get_or, length-append, get_or-append}
use lib.Seq.{append_snoc}
use Rattle.digits.specs.Digits.{digit_of, digit}
use Rattle.digits.specs.Decimal.{decimal_of, decimal, is_decimal, decimal_after, decimal_value}
use Rattle.digits.proofs.Digits.{digit_decimal}
use Rattle.digits.proofs.RoundTrip.{value_of_digit, digit_of_value}
use Rattle.digits.proofs.Decimal.{decimal_one, decimal_more}

-- ---- one digit more

is_decimal_append : (s v : List ℕ) → is_decimal s ≡ true → is_decimal v ≡ true → is_decimal (s ++ v) ≡ true
unfolding is_decimal
is_decimal_append [] v p q = q
is_decimal_append (b ∷ s) v p q =
    let both = (and-eq-true_iff (ltb (digit_of b) 10) (is_decimal s)).0 p in
    rw (both.0, is_decimal_append s v both.1 q)

value_append : (n : ℕ) (s v : List ℕ) → decimal_after n (s ++ v) ≡ decimal_after (decimal_after n s) v
unfolding decimal_after
value_append n [] v = refl
value_append n (b ∷ s) v = value_append (10 * n + digit_of b) s v

one_decimal : (n : ℕ) → n < 10 → is_decimal (digit n ∷ []) ≡ true
unfolding is_decimal
one_decimal n h = rw (value_of_digit n, lt-ltb (n % 16) 10 (omega arith))

-- what is shown of a number's digits
record Reads (n : ℕ) (s : List ℕ) : Type 0 where
  digits : is_decimal s ≡ true
  value : decimal_after 0 s ≡ n
  front : 0 < n → 0x30 < get_or s 0 0
  some : 0 < length s

reads_one : (n : ℕ) → n < 10 → Reads n (digit n ∷ [])
unfolding decimal_after
reads_one n h =
    let byte : 0x30 + n % 16 ≡ digit n = digit_decimal n (omega arith) in
    record { digits = one_decimal n h; value = rw (value_of_digit n) (omega arith); front = λ p. omega arith; some = omega arith }

reads_more : (n : ℕ) (s : List ℕ) → 10 ≤ n → Reads (n / 10) s → Reads n (s ++ digit (n % 10) ∷ [])
unfolding decimal_after
reads_more n s h r =
    record {
      digits = is_decimal_append s (digit (n % 10) ∷ []) r.digits (one_decimal (n % 10) (omega arith));
      value = value_append 0 s (digit (n % 10) ∷ []) ∙ rw (r.value, value_of_digit (n % 10)) (omega arith);
      front = λ p. rw (get_or-append s (digit (n % 10) ∷ []) 0 0 r.some) (r.front (omega arith));
      some = rw length-append (omega arith);
    }

reads_of : (k n : ℕ) → n ≤ k → Reads n (decimal_of k n)
unfolding decimal_of
reads_of zero n h = reads_one n (omega arith)
reads_of (suc k) n h = go (dec_lt n 10) (reads_of k (n / 10) (omega arith))
  where
    go : Dec (n < 10) → Reads (n / 10) (decimal_of k (n / 10)) → Reads n (decimal_of (suc k) n)
    go (yes few) r = rw (lt-ltb n 10 few) (reads_one n few)
    go (no more) r = rw (le-ltb n 10 (omega arith)) (reads_more n (decimal_of k (n / 10)) (omega arith) r)

-- ---- a number's digits

pub decimal_of_number : (n : ℕ) → is_decimal (decimal n) ≡ true
unfolding decimal
decimal_of_number n = (reads_of n n (omega arith)).digits

pub number_of_decimal : (n : ℕ) → decimal_value (decimal n) ≡ n
unfolding decimal decimal_value
number_of_decimal n = (reads_of n n (omega arith)).value

pub decimal_zero : decimal 0 ≡ 0x30 ∷ []
unfolding decimal decimal_of digit
decimal_zero = refl

pub decimal_front : (n : ℕ) → 0 < n → 0x30 < get_or (decimal n) 0 0
unfolding decimal
decimal_front n = (reads_of n n (omega arith)).front

-- ---- and no other text

digit_back : (b : ℕ) → digit_of b < 10 → digit (digit_of b) ≡ b
digit_back b h = digit_of_value b (digit_of b) (lt-ltb (digit_of b) 16 (omega arith)) (omega arith)

-- digits after those of a number
decimal_after_lem : (n : ℕ) (s : List ℕ) → 0 < n → is_decimal s ≡ true → decimal (decimal_after n s) ≡ decimal n ++ s
unfolding is_decimal decimal_after
decimal_after_lem n [] h p = sym (append-nil (decimal n))
decimal_after_lem n (b ∷ s) h p =
    let both = (and-eq-true_iff (ltb (digit_of b) 10) (is_decimal s)).0 p in
    let few : digit_of b < 10 = ltb-true (digit_of b) 10 both.0 in
    let tenth : (10 * n + digit_of b) / 10 ≡ n = omega arith in
    let last : (10 * n + digit_of b) % 10 ≡ digit_of b = omega arith in
    decimal_after_lem (10 * n + digit_of b) s (omega arith) both.1
    ∙ rw (decimal_more (10 * n + digit_of b) (omega arith), tenth, last, digit_back b few, append_snoc)

pub decimal_of_its_number : (s : List ℕ) → is_decimal s ≡ true → 0x30 < get_or s 0 0 → decimal (decimal_value s) ≡ s
unfolding is_decimal decimal_value decimal_after
decimal_of_its_number [] p h = absurd (omega arith)
decimal_of_its_number (b ∷ s) p h =
    let both = (and-eq-true_iff (ltb (digit_of b) 10) (is_decimal s)).0 p in
    let few : digit_of b < 10 = ltb-true (digit_of b) 10 both.0 in
    let byte : 0x30 + digit_of b % 16 ≡ b = digit_decimal (digit_of b) (omega arith) ∙ digit_back b few in
    let alone : 10 * 0 + digit_of b ≡ digit_of b = omega arith in
    rw alone (decimal_after_lem (digit_of b) s (omega arith) both.1 ∙ rw (decimal_one (digit_of b) few, digit_back b few))
