-- Each shared tail of a length takes two UIDs of its own, so there are at most half as many as UIDs.
-- By summing over the tails. Assumes nothing.
use mathlib.Core.Path.{◌≡◌, refl, ◌∙◌}
use mathlib.Core.Bool.{Bool, true, false}
use Prim.Native.Nat.{ℕ, ◌*◌, ◌/◌, ◌^◌, ◌≤◌}
use native.Mathlib.Nat.{le_trans, le_of_eq}
use native.Mathlib.Omega.{arith}
use mathlib.Core.List.{List}
use borrow.Author.Tests.{leb-true}
use lib.Dec.{leb}
use lib.ListN.{length}
use Rattle.tails.specs.Sum.{tot, one, tally}
use Rattle.tails.specs.Tails.{ending, is_shared, shared_of, shared_tails_to}
use Rattle.tails.proofs.Sums.{tot_le, tot_mul, tot_const}
use Rattle.tails.proofs.Tally.{tally_one}
use Rattle.tails.proofs.Parts.{ending_tails}

one_at_most : (b : Bool) → one b ≤ 1
unfolding one
one_at_most true = omega arith
one_at_most false = omega arith

-- two of n, or none
one_two : (n : ℕ) (b : Bool) → leb 2 n ≡ b → 2 * one b ≤ n
unfolding one
one_two n true h = leb-true 2 n h
one_two n false h = omega arith

pub shared_of_half : (us : List ℕ) (j : ℕ) → 2 * shared_of us j ≤ length us
unfolding shared_of is_shared
shared_of_half us j =
    let shared : ℕ → ℕ = λ m. one (leb 2 (length (ending j m us))) in
    let many : ℕ → ℕ = λ m. tally (λ u. 1) (ending j m us) in
    let each : (m : ℕ) → 2 * shared m ≤ many m = λ m.
    rw (tally_one (ending j m us)) (one_two (length (ending j m us)) (leb 2 (length (ending j m us))) refl)
    in
    let twice : tot (16 ^ j) 0 (λ m. 2 * shared m) ≡ 2 * tot (16 ^ j) 0 shared = tot_mul (16 ^ j) 0 2 shared in
    let all : tot (16 ^ j) 0 many ≡ length us = ending_tails (λ u. 1) us j ∙ tally_one us in
    rw (← twice, ← all) (tot_le (16 ^ j) 0 (λ m. 2 * shared m) many (λ m a b. each m))

pub shared_of_one : (us : List ℕ) → shared_of us 1 ≤ 16
unfolding shared_of
shared_of_one us =
    let most : shared_of us 1 ≤ tot 16 0 (λ m. 1) = tot_le 16 0 (λ m. one (is_shared us 1 m)) (λ m. 1) (λ m a b. one_at_most (is_shared us 1 m)) in
    le_trans most (le_of_eq (tot_const 16 0 1))

pub shared_tails_half : (us : List ℕ) (k : ℕ) → shared_tails_to k us ≤ k * (length us / 2)
unfolding shared_tails_to
shared_tails_half us k =
    let half : (j : ℕ) → 2 * shared_of us j ≤ length us = shared_of_half us in
    let each : (j : ℕ) → shared_of us j ≤ length us / 2 = λ j. omega (arith, half j) in
    rw (← tot_const k 1 (length us / 2)) (tot_le k 1 (shared_of us) (λ j. length us / 2) (λ j a b. each j))
