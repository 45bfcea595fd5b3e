-- Of the tails of a length that a field shares, each one is shared by the UIDs listed, or has a waiting slot above it, or is the mask's own.
-- By weighing the UIDs that end in the tail. Assumes nothing.
use mathlib.Core.Path.{◌≡◌, refl, sym, ap, ◌∙◌}
use mathlib.Core.Bool.{Bool, true, false}
use Prim.Native.Nat.{ℕ, suc, ◌+◌, ◌*◌, ◌%◌, ◌^◌, ◌≤◌}
use native.Mathlib.Decide.{ℕ_discrete, dec_le}
use native.Mathlib.Nat.{le_trans, le_of_eq, add-le-add, zero-mul, mod-lt}
use native.Mathlib.Omega.{arith}
use mathlib.Core.List.{List}
use borrow.Author.Tests.{eq-eqb, ne_eqb}
use lib.Dec.{leb, eqb}
use Rattle.tails.specs.Sum.{tot, one, tally}
use Rattle.tails.specs.Tails.{is_shared, shared_of}
use Rattle.tails.proofs.Sums.{tot_le, tot_add, tot_at_most}
use Rattle.tails.proofs.Tally.{tally_cong, tally_zero, tally_ending, length_ending}
use Rattle.tails.proofs.Digits.{power_positive, tail_tail, above_tail}
use Rattle.tails.proofs.Deeper.{deeper, deeper_here}
use Rattle.field.proofs.WaitSums.{slot_tail, waiting, waiting_zero, waiting_tot}
use Rattle.field.proofs.Weights.{weigh}

-- 1 for a UID that ends in the tail t of i digits
ends : ℕ → ℕ → ℕ → ℕ
ends i t u = one (eqb (u % 16 ^ i) t)

-- no UID that ends in t ends in b
weigh_none : (us : List ℕ) (i t j b : ℕ) → ((u : ℕ) → u % 16 ^ i ≡ t → u % 16 ^ j ≡ b → ⊥) → weigh (ends i t) us j b ≡ 0
unfolding weigh ends one
weigh_none us i t j b h =
    tally_ending (ends i t) j b us
    ∙ tally_cong (λ u. one (eqb (u % 16 ^ j) b) * ends i t u) (λ u. 0) us (λ u. go u (ℕ_discrete (u % 16 ^ j) b) (ℕ_discrete (u % 16 ^ i) t))
    ∙ tally_zero us
  where
    go : (u : ℕ) → Dec (u % 16 ^ j ≡ b) → Dec (u % 16 ^ i ≡ t) → one (eqb (u % 16 ^ j) b) * one (eqb (u % 16 ^ i) t) ≡ 0
    go u (yes e) (yes f) = absurd (h u f e)
    go u (yes e) (no f) = rw (ne_eqb (u % 16 ^ i) t f) (omega arith)
    go u (no e) f = rw (ne_eqb (u % 16 ^ j) b e) (zero-mul (one (eqb (u % 16 ^ i) t)))

-- the tail of a waiting slot, above the mask m
slot_apart : (us : List ℕ) (m i t j s : ℕ) → is_shared us i t ≡ true → (t ≡ m % 16 ^ i → ⊥)
    → deeper us i t (suc j) (slot_tail j (m % 16 ^ j) s) ≡ 0 → weigh (ends i t) us (suc j) (slot_tail j (m % 16 ^ j) s) ≡ 0
unfolding one
slot_apart us m i t j s shared other none = weigh_none us i t (suc j) (slot_tail j (m % 16 ^ j) s) (λ u. go u (dec_le (suc j) i))
  where
    b : ℕ
    b = slot_tail j (m % 16 ^ j) s

    go : (u : ℕ) → Dec (suc j ≤ i) → u % 16 ^ i ≡ t → u % 16 ^ suc j ≡ b → ⊥
    go u (yes h) e f =
        let tail : t % 16 ^ suc j ≡ b = ap (λ (k : ℕ). k % 16 ^ suc j) (sym e) ∙ tail_tail u (suc j) i h ∙ f in
        let here : deeper us i t (suc j) b ≡ one (is_shared us i t) = deeper_here us i t (suc j) b h tail in
        let one_of : one (is_shared us i t) ≡ 1 = ap (λ (k : Bool). one k) shared in
        absurd (omega (arith, here, one_of, none))
    go u (no h) e f =
        let short : i ≤ j = omega arith in
        other (sym e
        ∙ sym (tail_tail u i (suc j) (omega arith))
        ∙ ap (λ (k : ℕ). k % 16 ^ i) f
        ∙ above_tail j (m % 16 ^ j) s i (mod-lt m (power_positive j)) short
        ∙ tail_tail m i j short)

-- the UIDs listed, and those that wait, are all
listed_shares : (us ls marks : List ℕ) (m i t : ℕ) → ((v : ℕ → ℕ) → tally v ls + waiting (weigh v us) marks m ≡ tally v us)
    → is_shared us i t ≡ true → (t ≡ m % 16 ^ i → ⊥) → waiting (deeper us i t) marks m ≡ 0 → is_shared ls i t ≡ true
unfolding is_shared ends
listed_shares us ls marks m i t weighed shared other none =
    let no_more : waiting (weigh (ends i t) us) marks m ≡ 0 =
    waiting_zero (deeper us i t) (weigh (ends i t) us) marks m (λ j s c d. slot_apart us m i t j s shared other d) none in
    let all : tally (ends i t) ls + waiting (weigh (ends i t) us) marks m ≡ tally (ends i t) us = weighed (ends i t) in
    let same : tally (ends i t) ls ≡ tally (ends i t) us = omega (arith, no_more, all) in
    ap (λ (k : ℕ). leb 2 k) (length_ending i t ls ∙ same ∙ sym (length_ending i t us)) ∙ shared

shared_opened : (us ls marks : List ℕ) (m i t : ℕ) → ((v : ℕ → ℕ) → tally v ls + waiting (weigh v us) marks m ≡ tally v us)
    → one (is_shared us i t) ≤ one (is_shared ls i t) + waiting (deeper us i t) marks m + one (eqb t (m % 16 ^ i))
unfolding one
shared_opened us ls marks m i t weighed = go (is_shared us i t) refl (ℕ_discrete t (m % 16 ^ i)) (ℕ_discrete (waiting (deeper us i t) marks m) 0)
  where
    go : (b : Bool) → is_shared us i t ≡ b → Dec (t ≡ m % 16 ^ i) → Dec (waiting (deeper us i t) marks m ≡ 0)
        → one b ≤ one (is_shared ls i t) + waiting (deeper us i t) marks m + one (eqb t (m % 16 ^ i))
    go false a b c = omega arith
    go true a (yes b) c = rw (eq-eqb t (m % 16 ^ i) b) (omega arith)
    go true a (no b) (no c) = omega arith
    go true a (no b) (yes c) = rw (listed_shares us ls marks m i t weighed a b c) (omega arith)

-- the shared tails of i digits that end in the tail m of j
unfoldable pub deeper_of : List ℕ → ℕ → ℕ → ℕ → ℕ
deeper_of us i j m = tot (16 ^ i) 0 (λ t. deeper us i t j m)

pub shared_of_opened : (us ls marks : List ℕ) (m i : ℕ) → ((v : ℕ → ℕ) → tally v ls + waiting (weigh v us) marks m ≡ tally v us)
    → shared_of us i ≤ shared_of ls i + waiting (deeper_of us i) marks m + 1
unfolding shared_of deeper_of
shared_of_opened us ls marks m i weighed =
    let listed : ℕ → ℕ = λ t. one (is_shared ls i t) in
    let waits : ℕ → ℕ = λ t. waiting (deeper us i t) marks m in
    let own : ℕ → ℕ = λ t. one (eqb t (m % 16 ^ i)) in
    let each : tot (16 ^ i) 0 (λ t. one (is_shared us i t)) ≤ tot (16 ^ i) 0 (λ t. listed t + waits t + own t) =
    tot_le (16 ^ i) 0 (λ t. one (is_shared us i t)) (λ t. listed t + waits t + own t) (λ t a b. shared_opened us ls marks m i t weighed) in
    let parts : tot (16 ^ i) 0 (λ t. listed t + waits t + own t) ≡ tot (16 ^ i) 0 listed + tot (16 ^ i) 0 waits + tot (16 ^ i) 0 own =
    tot_add (16 ^ i) 0 (λ t. listed t + waits t) own ∙ ap (λ (k : ℕ). k + tot (16 ^ i) 0 own) (tot_add (16 ^ i) 0 listed waits) in
    let slots : waiting (λ j k. tot (16 ^ i) 0 (λ t. deeper us i t j k)) marks m ≡ tot (16 ^ i) 0 waits = waiting_tot (16 ^ i) 0 (deeper us i) marks m in
    let most : tot (16 ^ i) 0 own ≤ 1 = tot_at_most (16 ^ i) 0 (m % 16 ^ i) in
    le_trans each (le_trans (le_of_eq parts) (add-le-add (add-le-add (le_of_eq refl) (le_of_eq (sym slots))) most))
