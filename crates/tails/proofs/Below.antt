-- The shared tails that end in a given one, counted digit by digit, are those of the flat count.
-- By induction over the number of digits more. Assumes nothing.
use mathlib.Core.Path.{◌≡◌, refl, sym, ap, ap₂, ◌∙◌}
use mathlib.Core.Bool.{false}
use Prim.Native.Nat.{ℕ, zero, suc, ◌+◌, ◌*◌, ◌%◌, ◌^◌, ◌≤◌, ◌<◌}
use native.Mathlib.Nat.{add-zero, zero-add, zero-mul, mul-one, add_assoc, add-mul, mul_assoc, mul_comm, add_left_cancel, pow-succ', le_refl, mod-eq_of_lt}
use native.Mathlib.Omega.{arith}
use mathlib.Core.List.{List}
use borrow.Author.Tests.{leb-false, lt-leb}
use lib.ListN.{length}
use Rattle.tails.specs.Sum.{tot, one}
use Rattle.tails.specs.Tails.{ending, is_shared, shared_of, shared_tails_to}
use Rattle.tails.proofs.Sums.{tot_cong, tot_zero, tot_shift, tot_swap, tot_digits}
use Rattle.tails.proofs.Digits.{above_below, above_tail}
use Rattle.tails.proofs.Parts.{ending_shorter}

-- shared tails of j to j + n - 1 digits that end in m
unfoldable pub below : List ℕ → ℕ → ℕ → ℕ → ℕ
below us zero j m = 0
below us (suc n) j m = one (is_shared us j m) + tot 16 0 (λ s. below us n (suc j) (m + s * 16 ^ j))

-- a digit s above m, and t above both
above_above : (j m s t : ℕ) → m + s * 16 ^ j + t * 16 ^ suc j ≡ m + (s + 16 * t) * 16 ^ j
above_above j m s t =
    let more : t * 16 ^ suc j ≡ 16 * t * 16 ^ j = rw (pow-succ' 16 j, ← mul_assoc t 16 (16 ^ j), mul_comm t 16) in
    rw (more, add-mul s (16 * t) (16 ^ j), add_assoc m (s * 16 ^ j) (16 * t * 16 ^ j))

-- tails of i + 1 digits more, by the first of these
flat_digits : (us : List ℕ) (i j m : ℕ)
    → tot 16 0 (λ s. tot (16 ^ i) 0 (λ t. one (is_shared us (suc j + i) (m + s * 16 ^ j + t * 16 ^ suc j))))
    ≡ tot (16 ^ (i + 1)) 0 (λ t. one (is_shared us (j + (i + 1)) (m + t * 16 ^ j)))
flat_digits us i j m =
    let flat : ℕ → ℕ = λ t. one (is_shared us (j + (i + 1)) (m + t * 16 ^ j)) in
    let above : ℕ → ℕ → ℕ = λ s t. one (is_shared us (suc j + i) (m + s * 16 ^ j + t * 16 ^ suc j)) in
    let long : suc j + i ≡ j + (i + 1) = omega arith in
    let next : i + 1 ≡ suc i = omega arith in
    let power : 16 * 16 ^ i ≡ 16 ^ (i + 1) = rw (next, pow-succ' 16 i) in
    let each : (s t : ℕ) → above s t ≡ flat (s + 16 * t) = λ s t. ap₂ (λ (k p : ℕ). one (is_shared us k p)) long (above_above j m s t) in
    tot_cong 16 0 (λ s. tot (16 ^ i) 0 (above s)) (λ s. tot (16 ^ i) 0 (λ t. flat (s + 16 * t)))
    (λ s a b. tot_cong (16 ^ i) 0 (above s) (λ t. flat (s + 16 * t)) (λ t c d. each s t))
    ∙ sym (tot_digits (16 ^ i) flat)
    ∙ ap (λ (n : ℕ). tot n 0 flat) power

-- the tail itself: no digit more
flat_none : (us : List ℕ) (j m : ℕ) → tot (16 ^ 0) 0 (λ t. one (is_shared us (j + 0) (m + t * 16 ^ j))) ≡ one (is_shared us j m)
unfolding tot
flat_none us j m = rw (add-zero j, zero-mul (16 ^ j), add-zero m) (add-zero (one (is_shared us j m)))

-- of i digits more: flat
pub below_flat : (us : List ℕ) (n j m : ℕ) → below us n j m ≡ tot n 0 (λ i. tot (16 ^ i) 0 (λ t. one (is_shared us (j + i) (m + t * 16 ^ j))))
unfolding below tot
below_flat us zero j m = refl
below_flat us (suc n) j m =
    let flat : ℕ → ℕ = λ i. tot (16 ^ i) 0 (λ t. one (is_shared us (j + i) (m + t * 16 ^ j))) in
    let above : ℕ → ℕ → ℕ = λ s i. tot (16 ^ i) 0 (λ t. one (is_shared us (suc j + i) (m + s * 16 ^ j + t * 16 ^ suc j))) in
    ap₂ (λ (a b : ℕ). a + b) (sym (flat_none us j m))
    (tot_cong 16 0 (λ s. below us n (suc j) (m + s * 16 ^ j)) (λ s. tot n 0 (λ i. above s i)) (λ s a b. below_flat us n (suc j) (m + s * 16 ^ j))
    ∙ tot_swap 16 0 n 0 above
    ∙ tot_cong n 0 (λ i. tot 16 0 (λ s. above s i)) (λ i. flat (i + 1)) (λ i a b. flat_digits us i j m)
    ∙ tot_shift n 0 1 flat)

-- no digit to begin with: flat over all tails of i digits
flat_shared : (us : List ℕ) (i : ℕ) → tot (16 ^ i) 0 (λ t. one (is_shared us (0 + i) (0 + t * 16 ^ 0))) ≡ shared_of us i
unfolding shared_of
flat_shared us i =
    let whole : (t : ℕ) → 0 + t * 16 ^ 0 ≡ t = λ t. zero-add (t * 1) ∙ mul-one t in
    tot_cong (16 ^ i) 0 (λ t. one (is_shared us (0 + i) (0 + t * 16 ^ 0))) (λ t. one (is_shared us i t))
    (λ t a b. ap₂ (λ (k p : ℕ). one (is_shared us k p)) (zero-add i) (whole t))

-- all of them
pub below_all : (us : List ℕ) (n : ℕ) → tot 16 0 (λ s. below us n 1 (0 + s * 16 ^ 0)) ≡ shared_tails_to n us
unfolding below tot shared_tails_to
below_all us n =
    let flat : ℕ → ℕ = λ i. tot (16 ^ i) 0 (λ t. one (is_shared us (0 + i) (0 + t * 16 ^ 0))) in
    let whole : one (is_shared us 0 0) + tot 16 0 (λ s. below us n 1 (0 + s * 16 ^ 0)) ≡ flat 0 + tot n 1 flat = below_flat us (suc n) 0 0 in
    add_left_cancel (one (is_shared us 0 0)) (whole ∙ ap (λ (a : ℕ). a + tot n 1 flat) (flat_none us 0 0))
    ∙ tot_cong n 1 flat (shared_of us) (λ i a b. flat_shared us i)

-- a tail that is not shared, with a digit above it
above_unshared : (us : List ℕ) (j m s : ℕ) → m < 16 ^ j → is_shared us j m ≡ false → is_shared us (suc j) (m + s * 16 ^ j) ≡ false
unfolding is_shared
above_unshared us j m s h g =
    let long : ℕ = m + s * 16 ^ j in
    let few : length (ending j m us) < 2 = leb-false 2 (length (ending j m us)) g in
    let tail : long % 16 ^ j ≡ m = above_tail j m s j h (le_refl j) ∙ mod-eq_of_lt h in
    let same : length (ending j (long % 16 ^ j) us) ≡ length (ending j m us) = ap (λ (k : ℕ). length (ending j k us)) tail in
    let fewer : length (ending (suc j) long us) ≤ length (ending j (long % 16 ^ j) us) = ending_shorter us j (suc j) long (omega arith) in
    lt-leb 2 (length (ending (suc j) long us)) (omega (arith, few, fewer, same))

-- none where the tail is not shared
pub below_none : (us : List ℕ) (n j m : ℕ) → m < 16 ^ j → is_shared us j m ≡ false → below us n j m ≡ 0
unfolding below one
below_none us zero j m h g = refl
below_none us (suc n) j m h g =
    let above : ℕ → ℕ = λ s. below us n (suc j) (m + s * 16 ^ j) in
    let each : (s : ℕ) → s < 16 → above s ≡ 0 = λ s k.
    below_none us n (suc j) (m + s * 16 ^ j) (above_below j m s h k) (above_unshared us j m s h g)
    in
    rw (g, tot_zero 16 0 above (λ s a b. each s (omega arith)))
