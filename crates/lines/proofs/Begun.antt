-- A line that has begun: its digits, its length and the number that they stand for are kept of it. By the laws of appending a digit.
-- Assumes nothing.
use mathlib.Core.Path.{◌≡◌, refl, sym, ap, ◌∙◌}
use mathlib.Core.Bool.{true, ◌&&◌}
use Prim.Native.Nat.{ℕ, ◌+◌, ◌*◌, ◌%◌, ◌^◌, ◌≤◌, ◌<◌}
use native.Mathlib.Numerals.{add-one}
use native.Mathlib.Omega.{arith}
use mathlib.Core.List.{List, [], ◌∷◌, ◌++◌}
use borrow.Author.Tests.{lt-ltb}
use lib.Dec.{leb}
use lib.ListN.{length, take, set, length-append, length-set}
use lib.Pow.{shl_exact, pow-add}
use lib.Seq.{take-suc-set}
use Rattle.digits.specs.Digits.{digit_of}
use Rattle.lines.specs.declared.Lines.{Lines}
use Rattle.lines.specs.Input.{all_digits, is_uid, number_from, uid_of}
use Rattle.lines.specs.Lines.{no_lines, fresh_lines, listed, pushed}
use Rattle.lines.proofs.LineWays.{is_whole}
use Rattle.lines.proofs.WrongLines.{all_digits_append}

number_append : (n : ℕ) (xs ys : List ℕ) → number_from n (xs ++ ys) ≡ number_from (number_from n xs) ys
unfolding number_from
number_append n [] ys = refl
number_append n (x ∷ xs) ys = number_append (16 * n + digit_of x) xs ys

-- what a state keeps of it
pub record Reading (s : Lines) (line : List ℕ) : Type 0 where
  pub fine : s.bad ≡ 0
  pub count : s.count ≤ 100
  pub room : length s.uids ≡ 100
  pub digits : s.digits ≡ length line
  pub short : length line ≤ 16
  pub all : all_digits line ≡ true
  pub number : s.number ≡ number_from 0 line
  pub small : s.number < 2 ^ (4 * length line)

pub reading_fresh : Reading fresh_lines []
unfolding fresh_lines no_lines all_digits number_from
reading_fresh =
    record {
      fine = refl;
      count = omega arith;
      room = refl;
      digits = refl;
      short = omega arith;
      all = refl;
      number = refl;
      small = omega arith;
    }

pub reading_listed : (s : Lines) (line : List ℕ) → Reading s line → s.count < 100 → Reading (listed s) []
unfolding listed all_digits number_from
reading_listed s line k h =
    record {
      fine = refl;
      count = omega arith;
      room = rw (length-set, k.room);
      digits = refl;
      short = omega arith;
      all = refl;
      number = refl;
      small = omega arith;
    }

pub reading_pushed : (s : Lines) (line : List ℕ) (b : ℕ) → Reading s line → s.digits < 16 → digit_of b < 16
    → Reading (pushed s (digit_of b)) (line ++ b ∷ [])
unfolding pushed all_digits number_from
reading_pushed s line b k h l =
    let n : ℕ = length line in
    let more : length (line ++ b ∷ []) ≡ n + 1 = length-append line (b ∷ []) in
    let below : 4 * n + 4 ≤ 64 = omega (arith, k.digits) in
    let shifted : s.number * 2 ^ 4 % 2 ^ 64 ≡ s.number * 2 ^ 4 = shl_exact (4 * n) 4 64 k.small below in
    let place : 4 * (n + 1) ≡ 4 * n + 4 = omega arith in
    let power : 2 ^ (4 * n + 4) ≡ 2 ^ (4 * n) * 2 ^ 4 = pow-add 2 (4 * n) 4 in
    let was : number_from 0 line ≡ s.number = sym k.number in
    let small = k.small in
    record {
      fine = refl;
      count = k.count;
      room = k.room;
      digits = ap (λ (i : ℕ). i + 1) k.digits ∙ sym more;
      short = omega (arith, more, k.digits);
      all = rw (all_digits_append, k.all, lt-ltb (digit_of b) 16 l);
      number = rw (number_append, was, shifted) (omega arith);
      small = rw (more, place, shifted) (omega (arith, power, small));
    }

-- one UID more
pub list_more : (s : Lines) (line : List ℕ) → Reading s line → s.count < 100
    → take (s.count + 1) (set s.uids s.count s.number) ≡ take s.count s.uids ++ uid_of line ∷ []
unfolding uid_of
list_more s line k h = rw (add-one, take-suc-set s.uids s.count s.number (rw k.room h), k.number)

-- the state tells whether it is a UID with a place
pub whole_line : (s : Lines) (line : List ℕ) → Reading s line → (leb (s.count + 1) 100 && is_uid line) ≡ is_whole s
unfolding is_uid uid_of
whole_line s line k = rw (add-one, ← k.digits, k.all, ← k.number)
