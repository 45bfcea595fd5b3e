-- The slots that wait, weighed: each has the weight f of its tail. One slot more or less changes the sum by its weight, and sums of
-- weights can be taken apart. By changing one term of a sum. Assumes nothing.
use mathlib.Core.Path.{◌≡◌, refl, sym, ◌∙◌}
use mathlib.Core.Bool.{Bool, true, false}
use Prim.Native.Nat.{ℕ, suc, ◌+◌, ◌*◌, ◌%◌, ◌^◌, ◌≤◌, ◌<◌}
use native.Mathlib.Omega.{arith}
use mathlib.Core.List.{List}
use lib.ListN.{length, get_or}
use native.Mathlib.Nat.{zero-mul, one-mul}
use native.Mathlib.Decide.{dec_le}
use Rattle.tails.specs.Sum.{tot, one}
use Rattle.tails.proofs.Sums.{tot_cong, tot_zero, zero_of_tot, tot_mul, tot_change, tot_swap}
use Rattle.walk.specs.Marks.{waits}
use Rattle.field.proofs.Waiting.{wait}

-- the tail of slot s above a mask of j digits
abbrev pub slot_tail : ℕ → ℕ → ℕ → ℕ
slot_tail j m s = m + s * 16 ^ j

-- slots that wait, level by level
unfoldable pub waiting : (ℕ → ℕ → ℕ) → List ℕ → ℕ → ℕ
waiting f marks mask = tot (length marks) 0 (λ j. tot 16 0 (λ s. wait marks j s * f (suc j) (slot_tail j (mask % 16 ^ j) s)))

pub waiting_none : (f : ℕ → ℕ → ℕ) (marks : List ℕ) (mask : ℕ) → ((j s : ℕ) → wait marks j s ≡ 0) → waiting f marks mask ≡ 0
unfolding waiting
waiting_none f marks mask h =
    let weight : ℕ → ℕ → ℕ = λ j s. f (suc j) (slot_tail j (mask % 16 ^ j) s) in
    let term : ℕ → ℕ → ℕ = λ j s. wait marks j s * weight j s in
    let zeros : (j s : ℕ) → term j s ≡ 0 = λ j s. rw (h j s) (zero-mul (weight j s)) in
    tot_zero (length marks) 0 (λ j. tot 16 0 (term j)) (λ j a b. tot_zero 16 0 (term j) (λ s p q. zeros j s))

-- slot t of level k waits in one and not in the other, all others alike
pub waiting_more : (f : ℕ → ℕ → ℕ) (marks more : List ℕ) (mask k t : ℕ) → length more ≡ length marks → k < length marks → t < 16 → wait marks k t ≡ 0
    → wait more k t ≡ 1
    → ((s : ℕ) → (s ≡ t → ⊥) → wait marks k s ≡ wait more k s) → ((j s : ℕ) → (j ≡ k → ⊥) → wait marks j s ≡ wait more j s)
    → waiting f more mask ≡ f (suc k) (slot_tail k (mask % 16 ^ k) t) + waiting f marks mask
unfolding waiting
waiting_more f marks more mask k t long a b none one slots levels =
    let n : ℕ = length marks in
    let weight : ℕ → ℕ → ℕ = λ j s. f (suc j) (slot_tail j (mask % 16 ^ j) s) in
    let old : ℕ → ℕ → ℕ = λ j s. wait marks j s * weight j s in
    let new : ℕ → ℕ → ℕ = λ j s. wait more j s * weight j s in
    let slot : tot 16 0 (old k) + new k t ≡ tot 16 0 (new k) + old k t =
    tot_change 16 0 t (old k) (new k) (omega arith) (omega arith) (λ s e. rw (slots s e)) in
    let level : tot n 0 (λ j. tot 16 0 (old j)) + tot 16 0 (new k) ≡ tot n 0 (λ j. tot 16 0 (new j)) + tot 16 0 (old k) =
    tot_change n 0 k (λ j. tot 16 0 (old j)) (λ j. tot 16 0 (new j)) (omega arith) (omega arith)
    (λ j e. tot_cong 16 0 (old j) (new j) (λ s p q. rw (levels j s e))) in
    let before : old k t ≡ 0 = rw none (zero-mul (weight k t)) in
    let after : new k t ≡ weight k t = rw one (one-mul (weight k t)) in
    rw long (omega arith)

-- the mask changes above its low j digits, and no slot waits deeper
pub waiting_mask : (f : ℕ → ℕ → ℕ) (marks : List ℕ) (mask next j : ℕ) → ((i : ℕ) → i ≤ j → mask % 16 ^ i ≡ next % 16 ^ i)
    → ((i s : ℕ) → j < i → wait marks i s ≡ 0) → waiting f marks mask ≡ waiting f marks next
unfolding waiting
waiting_mask f marks mask next j same none =
    let old : ℕ → ℕ → ℕ = λ i s. wait marks i s * f (suc i) (slot_tail i (mask % 16 ^ i) s) in
    let new : ℕ → ℕ → ℕ = λ i s. wait marks i s * f (suc i) (slot_tail i (next % 16 ^ i) s) in
    tot_cong (length marks) 0 (λ i. tot 16 0 (old i)) (λ i. tot 16 0 (new i)) (λ i a b. tot_cong 16 0 (old i) (new i) (λ s p q. go i s (dec_le i j)))
  where
    go : (i s : ℕ) → Dec (i ≤ j)
        → wait marks i s * f (suc i) (slot_tail i (mask % 16 ^ i) s) ≡ wait marks i s * f (suc i) (slot_tail i (next % 16 ^ i) s)
    go i s (yes e) = rw (same i e)
    go i s (no e) = rw (none i s (omega arith), zero-mul (f (suc i) (slot_tail i (mask % 16 ^ i) s)), zero-mul (f (suc i) (slot_tail i (next % 16 ^ i) s)))

-- once or not at all
zero_times : (b : Bool) (x y : ℕ) → (one b ≡ 1 → x ≡ 0 → y ≡ 0) → one b * x ≡ 0 → one b * y ≡ 0
unfolding one
zero_times true x y h e = rw (h refl (sym (one-mul x) ∙ e))
zero_times false x y h e = zero-mul y

-- a weight that is 0 wherever another one is, on slots that wait
pub waiting_zero : (f g : ℕ → ℕ → ℕ) (marks : List ℕ) (mask : ℕ)
    → ((j s : ℕ) → wait marks j s ≡ 1 → f (suc j) (slot_tail j (mask % 16 ^ j) s) ≡ 0 → g (suc j) (slot_tail j (mask % 16 ^ j) s) ≡ 0)
    → waiting f marks mask ≡ 0 → waiting g marks mask ≡ 0
unfolding waiting wait
waiting_zero f g marks mask h z =
    let old : ℕ → ℕ → ℕ = λ j s. f (suc j) (slot_tail j (mask % 16 ^ j) s) in
    let new : ℕ → ℕ → ℕ = λ j s. g (suc j) (slot_tail j (mask % 16 ^ j) s) in
    let term : (ℕ → ℕ → ℕ) → ℕ → ℕ → ℕ = λ v j s. wait marks j s * v j s in
    let none : (j s : ℕ) → j < length marks → s < 16 → term old j s ≡ 0 =
    λ j s a b. zero_of_tot 16 0 (term old j) (zero_of_tot (length marks) 0 (λ i. tot 16 0 (term old i)) z j (omega arith) (omega arith)) s (omega arith) (omega arith) in
    let too : (j s : ℕ) → j < length marks → s < 16 → term new j s ≡ 0 =
    λ j s a b. zero_times (waits (get_or marks j 0) s) (old j s) (new j s) (h j s) (none j s a b) in
    tot_zero (length marks) 0 (λ j. tot 16 0 (term new j)) (λ j a b. tot_zero 16 0 (term new j) (λ s p q. too j s (omega arith) (omega arith)))

-- sums of weights
pub waiting_tot : (n t : ℕ) (f : ℕ → ℕ → ℕ → ℕ) (marks : List ℕ) (mask : ℕ)
    → waiting (λ j m. tot n t (λ i. f i j m)) marks mask ≡ tot n t (λ i. waiting (f i) marks mask)
unfolding waiting
waiting_tot n t f marks mask =
    let weight : ℕ → ℕ → ℕ → ℕ = λ j s i. f i (suc j) (slot_tail j (mask % 16 ^ j) s) in
    let term : ℕ → ℕ → ℕ → ℕ = λ j s i. wait marks j s * weight j s i in
    let inner : (j : ℕ) → tot 16 0 (λ s. wait marks j s * tot n t (weight j s)) ≡ tot n t (λ i. tot 16 0 (λ s. term j s i)) =
    λ j. tot_cong 16 0 (λ s. wait marks j s * tot n t (weight j s)) (λ s. tot n t (term j s)) (λ s p q. sym (tot_mul n t (wait marks j s) (weight j s)))
    ∙ tot_swap 16 0 n t (term j) in
    tot_cong (length marks) 0 (λ j. tot 16 0 (λ s. wait marks j s * tot n t (weight j s))) (λ j. tot n t (λ i. tot 16 0 (λ s. term j s i))) (λ j a b. inner j)
    ∙ tot_swap (length marks) 0 n t (λ j i. tot 16 0 (λ s. term j s i))
