-- The sixteen slots of a mask part the UIDs that end in it.
-- By summing over the list, each UID having one digit above the mask. Assumes nothing.
use mathlib.Core.Path.{◌≡◌, refl, sym, ap, ◌∙◌}
use mathlib.Core.Bool.{Bool, true, false, ◌&&◌}
use Prim.Native.Nat.{ℕ, suc, ◌+◌, ◌*◌, ◌/◌, ◌%◌, ◌^◌, ◌≤◌, ◌<◌}
use native.Mathlib.Nat.{one-mul, zero-mul, mul-one, mul_comm, mod-lt, mod-one}
use native.Mathlib.Decide.{ℕ_discrete}
use native.Mathlib.Omega.{arith}
use mathlib.Core.List.{List, [], ◌∷◌}
use borrow.Author.Tests.{eq-eqb, ne_eqb, eqb-true}
use lib.Dec.{eqb}
use lib.ListN.{length}
use Rattle.tails.specs.Sum.{tot, one, tally}
use Rattle.tails.specs.Tails.{ending}
use Rattle.tails.proofs.Sums.{tot_cong, tot_zero, tot_mul, tot_at}
use Rattle.tails.proofs.Tally.{tally_cong, tally_le, tally_tot, tally_ending, length_ending}
use Rattle.tails.proofs.Digits.{power_positive, tail_tail, above_fits}

-- a test that holds where another does
one_le : (a b : Bool) → (a ≡ true → b ≡ true) → one a ≤ one b
unfolding one
one_le true b h = rw (h refl) (omega arith)
one_le false b h = omega arith

eqb_turned : (a b : ℕ) → eqb a b ≡ eqb b a
eqb_turned a b = go (ℕ_discrete a b)
  where
    go : Dec (a ≡ b) → eqb a b ≡ eqb b a
    go (yes e) = rw (eq-eqb a b e, eq-eqb b a (sym e))
    go (no e) = rw (ne_eqb a b e, ne_eqb b a (λ q. e (sym q)))

-- what weighs w at k and nothing elsewhere
tot_pick : (n k w : ℕ) → k < n → tot n 0 (λ i. one (eqb k i) * w) ≡ w
tot_pick n k w h =
    let turned : (i : ℕ) → one (eqb k i) * w ≡ w * one (eqb i k) = λ i. rw (eqb_turned k i) (mul_comm (one (eqb i k)) w) in
    tot_cong n 0 (λ i. one (eqb k i) * w) (λ i. w * one (eqb i k)) (λ i a b. turned i)
    ∙ tot_mul n 0 w (λ i. one (eqb i k))
    ∙ rw (tot_at n 0 k (omega arith) (omega arith)) (mul-one w)

tot_pick_of : (a : Bool) (n k w : ℕ) → k < n → tot n 0 (λ i. one (a && eqb k i) * w) ≡ one a * w
unfolding one
tot_pick_of true n k w h = tot_pick n k w h ∙ sym (one-mul w)
tot_pick_of false n k w h = tot_zero n 0 (λ i. 0 * w) (λ i a b. zero-mul w) ∙ sym (zero-mul w)

-- no digit: all of them
pub ending_all : (us : List ℕ) → ending 0 0 us ≡ us
unfolding ending
ending_all [] = refl
ending_all (u ∷ us) = rw (eq-eqb (u % 16 ^ 0) 0 (mod-one u)) (ap (λ (t : List ℕ). u ∷ t) (ending_all us))

-- a UID has one digit above the mask
digit_parts : (v : ℕ → ℕ) (u j m : ℕ) → m < 16 ^ j
    → one (eqb (u % 16 ^ j) m) * v u ≡ tot 16 0 (λ s. one (eqb (u % 16 ^ suc j) (m + s * 16 ^ j)) * v u)
digit_parts v u j m h =
    let fits : ℕ → ℕ = λ s. one (eqb (u % 16 ^ j) m && eqb (u / 16 ^ j % 16) s) * v u in
    sym (tot_pick_of (eqb (u % 16 ^ j) m) 16 (u / 16 ^ j % 16) (v u) (omega arith))
    ∙ tot_cong 16 0 fits (λ s. one (eqb (u % 16 ^ suc j) (m + s * 16 ^ j)) * v u)
    (λ s a b. ap (λ (t : Bool). one t * v u) (sym (above_fits u j m s h (omega arith))))

pub ending_parts : (v : ℕ → ℕ) (us : List ℕ) (j m : ℕ) → m < 16 ^ j
    → tally v (ending j m us) ≡ tot 16 0 (λ s. tally v (ending (suc j) (m + s * 16 ^ j) us))
ending_parts v us j m h =
    let at : ℕ → ℕ → ℕ = λ s u. one (eqb (u % 16 ^ suc j) (m + s * 16 ^ j)) * v u in
    tally_ending v j m us
    ∙ tally_cong (λ u. one (eqb (u % 16 ^ j) m) * v u) (λ u. tot 16 0 (λ s. at s u)) us (λ u. digit_parts v u j m h)
    ∙ tally_tot 16 0 at us
    ∙ tot_cong 16 0 (λ s. tally (at s) us) (λ s. tally v (ending (suc j) (m + s * 16 ^ j) us))
    (λ s a b. sym (tally_ending v (suc j) (m + s * 16 ^ j) us))

-- all tails of a length
pub ending_tails : (v : ℕ → ℕ) (us : List ℕ) (j : ℕ) → tot (16 ^ j) 0 (λ m. tally v (ending j m us)) ≡ tally v us
ending_tails v us j =
    let at : ℕ → ℕ → ℕ = λ m u. one (eqb (u % 16 ^ j) m) * v u in
    tot_cong (16 ^ j) 0 (λ m. tally v (ending j m us)) (λ m. tally (at m) us) (λ m a b. tally_ending v j m us)
    ∙ sym (tally_tot (16 ^ j) 0 at us)
    ∙ tally_cong (λ u. tot (16 ^ j) 0 (λ m. at m u)) v us (λ u. tot_pick (16 ^ j) (u % 16 ^ j) (v u) (mod-lt u (power_positive j)))

-- a shorter tail of those that end in a longer one
pub ending_shorter : (us : List ℕ) (i j m : ℕ) → i ≤ j → length (ending j m us) ≤ length (ending i (m % 16 ^ i) us)
ending_shorter us i j m h =
    let shorter : (u : ℕ) → eqb (u % 16 ^ j) m ≡ true → eqb (u % 16 ^ i) (m % 16 ^ i) ≡ true = λ u e.
    eq-eqb (u % 16 ^ i) (m % 16 ^ i) (sym (tail_tail u i j h) ∙ ap (λ (t : ℕ). t % 16 ^ i) (eqb-true (u % 16 ^ j) m e))
    in
    rw (length_ending j m us, length_ending i (m % 16 ^ i) us)
    (tally_le (λ u. one (eqb (u % 16 ^ j) m)) (λ u. one (eqb (u % 16 ^ i) (m % 16 ^ i))) us
    (λ u. one_le (eqb (u % 16 ^ j) m) (eqb (u % 16 ^ i) (m % 16 ^ i)) (shorter u)))
