-- Laws of sums over a stretch of numbers. By induction over the number of terms.
-- Assumes nothing.
use mathlib.Core.Path.{◌≡◌, refl, sym, ap, ap₂, ◌∙◌}
use Prim.Native.Nat.{ℕ, zero, suc, ◌+◌, ◌*◌, ◌≤◌, ◌<◌}
use native.Mathlib.Decide.{ℕ_discrete, dec_lt, dec_le}
use native.Mathlib.Nat.{add-zero, zero-add, suc-add, mul-add, suc-mul, mul-suc}
use native.Mathlib.Omega.{arith}
use borrow.Author.Tests.{eq-eqb, ne_eqb}
use lib.Dec.{eqb}
use Rattle.tails.specs.Sum.{tot, one}

pub tot_none : (t : ℕ) (f : ℕ → ℕ) → tot 0 t f ≡ 0
unfolding tot
tot_none t f = refl

pub tot_cong : (n t : ℕ) (f g : ℕ → ℕ) → ((i : ℕ) → t ≤ i → i < t + n → f i ≡ g i) → tot n t f ≡ tot n t g
unfolding tot
tot_cong zero t f g h = refl
tot_cong (suc n) t f g h = ap₂ (λ (a b : ℕ). a + b) (h t (omega arith) (omega arith)) (tot_cong n (suc t) f g (λ i a b. h i (omega arith) (omega arith)))

pub tot_le : (n t : ℕ) (f g : ℕ → ℕ) → ((i : ℕ) → t ≤ i → i < t + n → f i ≤ g i) → tot n t f ≤ tot n t g
unfolding tot
tot_le zero t f g h = omega arith
tot_le (suc n) t f g h =
    let here : f t ≤ g t = h t (omega arith) (omega arith) in
    let rest : tot n (suc t) f ≤ tot n (suc t) g = tot_le n (suc t) f g (λ i a b. h i (omega arith) (omega arith)) in
    omega arith

-- a term is at most the sum
pub term_le : (n t : ℕ) (f : ℕ → ℕ) (i : ℕ) → t ≤ i → i < t + n → f i ≤ tot n t f
unfolding tot
term_le zero t f i a b = absurd (omega arith)
term_le (suc n) t f i a b = go (ℕ_discrete i t) (λ p. term_le n (suc t) f i p (omega arith))
  where
    go : Dec (i ≡ t) → (t < i → f i ≤ tot n (suc t) f) → f i ≤ f t + tot n (suc t) f
    go (yes e) later = rw e (omega arith)
    go (no e) later =
        let rest : f i ≤ tot n (suc t) f = later (omega arith) in
        omega arith

-- a sum is 0 exactly if each term is
pub tot_zero : (n t : ℕ) (f : ℕ → ℕ) → ((i : ℕ) → t ≤ i → i < t + n → f i ≡ 0) → tot n t f ≡ 0
unfolding tot
tot_zero zero t f h = refl
tot_zero (suc n) t f h =
    let here : f t ≡ 0 = h t (omega arith) (omega arith) in
    let rest : tot n (suc t) f ≡ 0 = tot_zero n (suc t) f (λ i a b. h i (omega arith) (omega arith)) in
    omega arith

pub zero_of_tot : (n t : ℕ) (f : ℕ → ℕ) → tot n t f ≡ 0 → (i : ℕ) → t ≤ i → i < t + n → f i ≡ 0
zero_of_tot n t f h i a b = omega (arith, term_le n t f i a b)

pub tot_add : (n t : ℕ) (f g : ℕ → ℕ) → tot n t (λ i. f i + g i) ≡ tot n t f + tot n t g
unfolding tot
tot_add zero t f g = refl
tot_add (suc n) t f g = omega (arith, tot_add n (suc t) f g)

pub tot_mul : (n t c : ℕ) (f : ℕ → ℕ) → tot n t (λ i. c * f i) ≡ c * tot n t f
unfolding tot
tot_mul zero t c f = omega arith
tot_mul (suc n) t c f = ap (λ (r : ℕ). c * f t + r) (tot_mul n (suc t) c f) ∙ sym (mul-add c (f t) (tot n (suc t) f))

pub tot_const : (n t c : ℕ) → tot n t (λ i. c) ≡ n * c
unfolding tot
tot_const zero t c = omega arith
tot_const (suc n) t c = rw (suc-mul n c) (omega (arith, tot_const n (suc t) c))

-- two stretches, one after the other
pub tot_join : (n m t : ℕ) (f : ℕ → ℕ) → tot (n + m) t f ≡ tot n t f + tot m (t + n) f
unfolding tot
tot_join zero m t f = rw (zero-add m, add-zero t, zero-add)
tot_join (suc n) m t f =
    let next : t + suc n ≡ suc t + n = omega arith in
    let rest : tot (n + m) (suc t) f ≡ tot n (suc t) f + tot m (suc t + n) f = tot_join n m (suc t) f in
    rw (suc-add n m, next, rest) (omega arith)

-- the last term apart
pub tot_last : (n t : ℕ) (f : ℕ → ℕ) → tot (suc n) t f ≡ tot n t f + f (t + n)
unfolding tot
tot_last zero t f = rw (add-zero t) (omega arith)
tot_last (suc n) t f =
    let next : t + suc n ≡ suc t + n = omega arith in
    let rest : f (suc t) + tot n (suc (suc t)) f ≡ tot n (suc t) f + f (suc t + n) = tot_last n (suc t) f in
    rw next (omega arith)

-- the same terms, counted from another start
pub tot_shift : (n t d : ℕ) (f : ℕ → ℕ) → tot n t (λ i. f (i + d)) ≡ tot n (t + d) f
unfolding tot
tot_shift zero t d f = refl
tot_shift (suc n) t d f = ap (λ (r : ℕ). f (t + d) + r) (tot_shift n (suc t) d f ∙ ap (λ (s : ℕ). tot n s f) (suc-add t d))

-- one term changes
pub tot_change : (n t k : ℕ) (f g : ℕ → ℕ) → t ≤ k → k < t + n → ((i : ℕ) → (i ≡ k → ⊥) → f i ≡ g i) → tot n t f + g k ≡ tot n t g + f k
unfolding tot
tot_change zero t k f g a b h = absurd (omega arith)
tot_change (suc n) t k f g a b h = go (ℕ_discrete k t) (λ p. tot_change n (suc t) k f g p (omega arith) h)
  where
    go : Dec (k ≡ t) → (t < k → tot n (suc t) f + g k ≡ tot n (suc t) g + f k) → f t + tot n (suc t) f + g k ≡ g t + tot n (suc t) g + f k
    go (yes e) later =
        let rest : tot n (suc t) f ≡ tot n (suc t) g = tot_cong n (suc t) f g (λ i p q. h i (λ r. absurd (omega arith))) in
        rw e (omega arith)
    go (no e) later =
        let here : f t ≡ g t = h t (λ r. e (sym r)) in
        let rest : tot n (suc t) f + g k ≡ tot n (suc t) g + f k = later (omega arith) in
        omega arith

pub tot_swap : (n t m s : ℕ) (f : ℕ → ℕ → ℕ) → tot n t (λ i. tot m s (λ k. f i k)) ≡ tot m s (λ k. tot n t (λ i. f i k))
unfolding tot
tot_swap zero t m s f = sym (tot_zero m s (λ k. 0) (λ k p q. refl))
tot_swap (suc n) t m s f =
    ap (λ (r : ℕ). tot m s (λ k. f t k) + r) (tot_swap n (suc t) m s f)
    ∙ sym (tot_add m s (λ k. f t k) (λ k. tot n (suc t) (λ i. f i k)))

-- one of the numbers is k, or none
pub tot_at : (n t k : ℕ) → t ≤ k → k < t + n → tot n t (λ i. one (eqb i k)) ≡ 1
unfolding one
tot_at n t k a b =
    let none : tot n t (λ i. 0) ≡ 0 = tot_zero n t (λ i. 0) (λ i p q. refl) in
    let here : one (eqb k k) ≡ 1 = rw (eq-eqb k k refl) in
    let all : tot n t (λ i. one (eqb i k)) + 0 ≡ tot n t (λ i. 0) + one (eqb k k) =
    tot_change n t k (λ i. one (eqb i k)) (λ i. 0) a b (λ i h. rw (ne_eqb i k h)) in
    omega arith

pub tot_at_most : (n t k : ℕ) → tot n t (λ i. one (eqb i k)) ≤ 1
unfolding one
tot_at_most n t k = go (dec_le t k) (dec_lt k (t + n))
  where
    none : ((i : ℕ) → t ≤ i → i < t + n → i ≡ k → ⊥) → tot n t (λ i. one (eqb i k)) ≤ 1
    none h =
        let all : tot n t (λ i. one (eqb i k)) ≡ 0 = tot_zero n t (λ i. one (eqb i k)) (λ i p q. rw (ne_eqb i k (h i p q))) in
        omega arith

    go : Dec (t ≤ k) → Dec (k < t + n) → tot n t (λ i. one (eqb i k)) ≤ 1
    go (yes a) (yes b) = rw (tot_at n t k a b) (omega arith)
    go (yes a) (no b) = none (λ i p q e. absurd (omega arith))
    go (no a) b = none (λ i p q e. absurd (omega arith))

-- numbers below 16 n by their low digit s and the rest
pub tot_digits : (n : ℕ) (f : ℕ → ℕ) → tot (16 * n) 0 f ≡ tot 16 0 (λ s. tot n 0 (λ t. f (s + 16 * t)))
tot_digits zero f = tot_none 0 f ∙ sym (tot_zero 16 0 (λ s. tot 0 0 (λ t. f (s + 16 * t))) (λ s p q. tot_none 0 (λ t. f (s + 16 * t))))
tot_digits (suc n) f =
    let low : ℕ → ℕ = λ s. tot n 0 (λ t. f (s + 16 * t)) in
    let last : ℕ → ℕ = λ s. f (s + 16 * n) in
    ap (λ (k : ℕ). tot k 0 f) (mul-suc 16 n)
    ∙ tot_join (16 * n) 16 0 f
    ∙ ap₂ (λ (a b : ℕ). a + b) (tot_digits n f) (sym (tot_shift 16 0 (16 * n) f))
    ∙ sym (tot_add 16 0 low last)
    ∙ tot_cong 16 0 (λ s. low s + last s) (λ s. tot (suc n) 0 (λ t. f (s + 16 * t))) (λ s p q. sym (tot_last n 0 (λ t. f (s + 16 * t)) ∙ rw (zero-add n)))
