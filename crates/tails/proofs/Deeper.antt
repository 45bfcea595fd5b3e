-- A shared tail of i digits that ends in a tail of j: all of these, over the lengths below a limit, are counted by the shared tails below that one.
-- By induction over the digits between, each tail having one digit above the shorter one. Assumes nothing.
use mathlib.Core.Path.{◌≡◌, refl, sym, ap, ◌∙◌}
use Prim.Native.Nat.{ℕ, zero, suc, ◌+◌, ◌*◌, ◌/◌, ◌%◌, ◌^◌, ◌≤◌, ◌<◌}
use native.Mathlib.Decide.{ℕ_discrete, dec_lt}
use native.Mathlib.Nat.{le_trans, le_of_eq, add-le-add, mul-one, zero-mul, mul-zero, mul-le-mul_left, mod-eq_of_lt}
use native.Mathlib.Omega.{arith}
use mathlib.Core.List.{List}
use borrow.Author.Tests.{eq-eqb, ne_eqb, le-leb, lt-leb}
use lib.Dec.{leb, eqb}
use Rattle.tails.specs.Sum.{tot, one}
use Rattle.tails.specs.Tails.{is_shared}
use Rattle.tails.proofs.Sums.{tot_cong, tot_le, term_le, tot_zero, tot_add, tot_mul, tot_swap, tot_at_most}
use Rattle.tails.proofs.Digits.{tail_suc}
use Rattle.tails.proofs.Below.{below}

-- the shared tail t of i digits ends in the tail m of j digits
unfoldable pub deeper : List ℕ → ℕ → ℕ → ℕ → ℕ → ℕ
deeper us i t j m = one (leb j i) * (one (eqb (t % 16 ^ j) m) * one (is_shared us i t))

-- it does
pub deeper_here : (us : List ℕ) (i t j m : ℕ) → j ≤ i → t % 16 ^ j ≡ m → deeper us i t j m ≡ one (is_shared us i t)
unfolding deeper one
deeper_here us i t j m h e = rw (le-leb j i h, eq-eqb (t % 16 ^ j) m e) (omega arith)

-- it is shorter, or ends in another one
deeper_short : (us : List ℕ) (i t j m : ℕ) → i < j → deeper us i t j m ≡ 0
unfolding deeper one
deeper_short us i t j m h = rw (lt-leb j i h) (zero-mul (one (eqb (t % 16 ^ j) m) * one (is_shared us i t)))

deeper_other : (us : List ℕ) (i t j m : ℕ) → (t % 16 ^ j ≡ m → ⊥) → deeper us i t j m ≡ 0
unfolding deeper one
deeper_other us i t j m h = rw (ne_eqb (t % 16 ^ j) m h, zero-mul (one (is_shared us i t))) (mul-zero (one (leb j i)))

-- it is the tail m itself, counted where i is j and t is m
itself : List ℕ → ℕ → ℕ → ℕ → ℕ → ℕ
itself us j m i t = one (is_shared us j m) * one (eqb i j) * one (eqb t m)

-- or it ends in a tail of a digit more
further : List ℕ → ℕ → ℕ → ℕ → ℕ → ℕ → ℕ
further us j m i t s = deeper us i t (suc j) (m + s * 16 ^ j)

itself_here : (us : List ℕ) (j m i t : ℕ) → i ≡ j → t ≡ m → itself us j m i t ≡ one (is_shared us i t)
unfolding itself one
itself_here us j m i t e f = rw (eq-eqb i j e, eq-eqb t m f, ← e, ← f) (omega arith)

further_here : (us : List ℕ) (j m i t : ℕ) → j < i → t % 16 ^ j ≡ m → further us j m i t (t / 16 ^ j % 16) ≡ one (is_shared us i t)
unfolding further
further_here us j m i t h e =
    deeper_here us i t (suc j) (m + t / 16 ^ j % 16 * 16 ^ j) h (tail_suc t j ∙ ap (λ (k : ℕ). k + t / 16 ^ j % 16 * 16 ^ j) e)

deeper_digit : (us : List ℕ) (j m i t : ℕ) → t < 16 ^ i → deeper us i t j m ≤ itself us j m i t + tot 16 0 (further us j m i t)
deeper_digit us j m i t h = go (dec_lt i j) (ℕ_discrete i j) (ℕ_discrete (t % 16 ^ j) m)
  where
    go : Dec (i < j) → Dec (i ≡ j) → Dec (t % 16 ^ j ≡ m) → deeper us i t j m ≤ itself us j m i t + tot 16 0 (further us j m i t)
    go (yes a) b c = rw (deeper_short us i t j m a) (omega arith)
    go (no a) b (no c) = rw (deeper_other us i t j m c) (omega arith)
    go (no a) (yes b) (yes c) =
        let whole : t % 16 ^ j ≡ t = ap (λ (k : ℕ). t % 16 ^ k) (sym b) ∙ mod-eq_of_lt h in
        let here : deeper us i t j m ≡ one (is_shared us i t) = deeper_here us i t j m (omega arith) c in
        let same : itself us j m i t ≡ one (is_shared us i t) = itself_here us j m i t b (sym whole ∙ c) in
        omega arith
    go (no a) (no b) (yes c) =
        let here : deeper us i t j m ≡ one (is_shared us i t) = deeper_here us i t j m (omega arith) c in
        let digit : further us j m i t (t / 16 ^ j % 16) ≡ one (is_shared us i t) = further_here us j m i t (omega arith) c in
        let most : further us j m i t (t / 16 ^ j % 16) ≤ tot 16 0 (further us j m i t) =
        term_le 16 0 (further us j m i t) (t / 16 ^ j % 16) (omega arith) (omega arith) in
        omega arith

-- a number times a sum of at most 1
times_most : (c x : ℕ) → x ≤ 1 → c * x ≤ c
times_most c x h = le_trans (mul-le-mul_left c h) (le_of_eq (mul-one c))

-- the tail itself is counted once
itself_once : (us : List ℕ) (j m a b : ℕ) → tot a b (λ i. tot (16 ^ i) 0 (itself us j m i)) ≤ one (is_shared us j m)
unfolding itself
itself_once us j m a b =
    let c : ℕ = one (is_shared us j m) in
    let each : (i : ℕ) → tot (16 ^ i) 0 (λ t. c * one (eqb i j) * one (eqb t m)) ≤ c * one (eqb i j) = λ i.
    le_trans (le_of_eq (tot_mul (16 ^ i) 0 (c * one (eqb i j)) (λ t. one (eqb t m))))
    (times_most (c * one (eqb i j)) (tot (16 ^ i) 0 (λ t. one (eqb t m))) (tot_at_most (16 ^ i) 0 m))
    in
    le_trans (tot_le a b (λ i. tot (16 ^ i) 0 (λ t. c * one (eqb i j) * one (eqb t m))) (λ i. c * one (eqb i j)) (λ i p q. each i))
    (le_trans (le_of_eq (tot_mul a b c (λ i. one (eqb i j)))) (times_most c (tot a b (λ i. one (eqb i j))) (tot_at_most a b j)))

-- digits first
further_digits : (us : List ℕ) (j m a b : ℕ)
    → tot a b (λ i. tot (16 ^ i) 0 (λ t. tot 16 0 (further us j m i t))) ≡ tot 16 0 (λ s. tot a b (λ i. tot (16 ^ i) 0 (λ t. further us j m i t s)))
further_digits us j m a b =
    tot_cong a b (λ i. tot (16 ^ i) 0 (λ t. tot 16 0 (further us j m i t))) (λ i. tot 16 0 (λ s. tot (16 ^ i) 0 (λ t. further us j m i t s)))
    (λ i p q. tot_swap (16 ^ i) 0 16 0 (further us j m i))
    ∙ tot_swap a b 16 0 (λ i s. tot (16 ^ i) 0 (λ t. further us j m i t s))

deeper_parts : (us : List ℕ) (j m a b : ℕ)
    → tot a b (λ i. tot (16 ^ i) 0 (λ t. deeper us i t j m))
    ≤ one (is_shared us j m) + tot 16 0 (λ s. tot a b (λ i. tot (16 ^ i) 0 (λ t. further us j m i t s)))
deeper_parts us j m a b =
    let own : ℕ → ℕ = λ i. tot (16 ^ i) 0 (itself us j m i) in
    let more : ℕ → ℕ = λ i. tot (16 ^ i) 0 (λ t. tot 16 0 (further us j m i t)) in
    let each : (i : ℕ) → tot (16 ^ i) 0 (λ t. deeper us i t j m) ≤ own i + more i = λ i.
    le_trans (tot_le (16 ^ i) 0 (λ t. deeper us i t j m) (λ t. itself us j m i t + tot 16 0 (further us j m i t))
    (λ t p q. deeper_digit us j m i t (omega arith)))
    (le_of_eq (tot_add (16 ^ i) 0 (itself us j m i) (λ t. tot 16 0 (further us j m i t))))
    in
    le_trans (tot_le a b (λ i. tot (16 ^ i) 0 (λ t. deeper us i t j m)) (λ i. own i + more i) (λ i p q. each i))
    (le_trans (le_of_eq (tot_add a b own more)) (add-le-add (itself_once us j m a b) (le_of_eq (further_digits us j m a b))))

-- tails of b to b + a - 1 digits that end in m
pub deeper_below : (us : List ℕ) (a b n j m : ℕ) → b + a ≤ n + j → tot a b (λ i. tot (16 ^ i) 0 (λ t. deeper us i t j m)) ≤ below us n j m
unfolding below further
deeper_below us a b zero j m h =
    le_of_eq (tot_zero a b (λ i. tot (16 ^ i) 0 (λ t. deeper us i t j m)) (λ i p q.
    tot_zero (16 ^ i) 0 (λ t. deeper us i t j m) (λ t x y. deeper_short us i t j m (omega arith))))
deeper_below us a b (suc n) j m h =
    let above : ℕ → ℕ = λ s. tot a b (λ i. tot (16 ^ i) 0 (λ t. deeper us i t (suc j) (m + s * 16 ^ j))) in
    let next : ℕ → ℕ = λ s. below us n (suc j) (m + s * 16 ^ j) in
    le_trans (deeper_parts us j m a b)
    (add-le-add (le_of_eq refl) (tot_le 16 0 above next (λ s p q. deeper_below us a b n (suc j) (m + s * 16 ^ j) (omega arith))))
