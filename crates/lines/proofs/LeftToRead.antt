-- What is left to read of an input, from a place on: a byte more, the end, a wrong line; and no more than 100 lines are counted.
-- By the ways of the definitions. Assumes nothing.
use mathlib.Core.Path.{◌≡◌, refl}
use mathlib.Core.Bool.{Bool, true, false, cond, ◌&&◌, and-eq-true_iff}
use Prim.Native.Nat.{ℕ, zero, suc, ◌+◌, ◌≤◌, ◌<◌}
use native.Mathlib.Numerals.{add-one}
use native.Mathlib.Decide.{dec_lt}
use native.Mathlib.Omega.{arith}
use mathlib.Core.List.{List, [], ◌∷◌}
use borrow.Author.Tests.{ltb-true, eqb-true, le-ltb, eq-eqb, ne_eqb}
use lib.Dec.{ltb, eqb}
use lib.ListN.{length, drop, get_or}
use lib.Seq.{drop-cons, drop-nil}
use Rattle.digits.specs.Digits.{digit_of}
use Rattle.lines.specs.declared.Lines.{Lines}
use Rattle.lines.specs.Lines.{fresh_lines, wrong, listed, pushed, longer, line_ended, stepped, closed, read_from}
use Rattle.lines.proofs.LineWays.{is_whole, closed_shut}

-- a wrong line stops the reading
pub read_stopped : (s : Lines) (bs : List ℕ) → (s.bad ≡ 0 → ⊥) → read_from s bs ≡ s
unfolding read_from closed
read_stopped s [] h = rw (ne_eqb s.bad 0 h)
read_stopped s (b ∷ bs) h = rw (ne_eqb s.bad 0 h)

pub wrong_bad : (s : Lines) → (wrong s).bad ≡ 0 → ⊥
unfolding wrong
wrong_bad s e = omega arith

closed_listed : (s : Lines) → listed s ≡ closed (listed s)
unfolding listed closed
closed_listed s = refl

-- the end of a line closes it
pub ended_closed : (s : Lines) → line_ended s ≡ closed (line_ended s)
unfolding line_ended
ended_closed s = by (is_whole s)
  where
    by : (t : Bool) → cond t (listed s) (wrong s) ≡ closed (cond t (listed s) (wrong s))
    by true = closed_listed s
    by false = closed_shut (wrong s) (rw (ne_eqb (wrong s).bad 0 (wrong_bad s)))

-- ---- from place i on

pub step_left : (s t : Lines) (input : List ℕ) (i : ℕ) → i < length input → s.bad ≡ 0 → t ≡ stepped s (get_or input i 0)
    → read_from t (drop (i + 1) input) ≡ read_from s (drop i input)
unfolding read_from
step_left s t input i h e is = rw (drop-cons input i 0 h, eq-eqb s.bad 0 e, add-one, is)

drop_past : (l : List ℕ) (i : ℕ) → length l ≤ i → drop i l ≡ []
drop_past [] i h = drop-nil i
drop_past (x ∷ l) zero h = absurd (omega arith)
drop_past (x ∷ l) (suc i) h = drop_past l i (omega arith)

pub end_left : (s : Lines) (input : List ℕ) (i : ℕ) → length input ≤ i → closed s ≡ read_from s (drop i input)
unfolding read_from
end_left s input i h = rw (drop_past input i h)

-- there is a byte more, and no line was wrong
abbrev pub goes_on : Lines → List ℕ → ℕ → Bool
goes_on s input i = ltb i (length input) && eqb s.bad 0

pub goes_on_lem : (s : Lines) (input : List ℕ) (i : ℕ) → goes_on s input i ≡ true → (i < length input) × (s.bad ≡ 0)
goes_on_lem s input i on =
    let both = (and-eq-true_iff (ltb i (length input)) _).0 on in
    (ltb-true i (length input) both.0, eqb-true s.bad 0 both.1)

pub fine_fresh : fresh_lines.bad ≡ 0
unfolding fresh_lines
fine_fresh = refl

-- a line counted is one of 100
pub count_fresh : fresh_lines.count ≤ 100
unfolding fresh_lines
count_fresh = omega arith

count_either : (t : Bool) (x y : Lines) → x.count ≤ 100 → y.count ≤ 100 → (cond t x y).count ≤ 100
count_either true x y h k = h
count_either false x y h k = k

count_ended : (s : Lines) → s.count ≤ 100 → (line_ended s).count ≤ 100
unfolding line_ended listed wrong
count_ended s h = go (dec_lt s.count 100)
  where
    go : Dec (s.count < 100) → (cond (is_whole s) (listed s) (wrong s)).count ≤ 100
    go (yes l) = count_either (is_whole s) (listed s) (wrong s) (omega arith) h
    go (no l) = rw (le-ltb s.count 100 (omega arith)) h

pub count_stepped : (s : Lines) (b : ℕ) → s.count ≤ 100 → (stepped s b).count ≤ 100
unfolding stepped longer pushed wrong
count_stepped s b h =
    count_either (eqb b 0x0a) (line_ended s) (longer s b) (count_ended s h)
    (count_either (ltb s.count 100 && (ltb s.digits 16 && ltb (digit_of b) 16)) (pushed s (digit_of b)) (wrong s) h h)
