-- A walk of a fixed field never needs a round over its limit, 417 for fourteen levels and 481 for sixteen, whatever the number of cards: of each length at most 33 shared
-- tails were opened, and of length 1 at most 16. By weighing what is ahead against the UIDs listed. Assumes nothing.
use mathlib.Core.Path.{◌≡◌, refl, sym, ap, ◌∙◌}
use Prim.Native.Nat.{ℕ, suc, ◌+◌, ◌-◌, ◌*◌, ◌%◌, ◌^◌, ◌≤◌, ◌<◌}
use native.Mathlib.Nat.{add-zero, mul-le-mul_left}
use native.Mathlib.Omega.{arith}
use mathlib.Core.List.{List}
use lib.ListN.{length}
use Rattle.tails.specs.Sum.{tot, tally}
use Rattle.tails.specs.Tails.{shared_of, shared_tails_to}
use Rattle.tails.proofs.Sums.{tot_none, tot_le, tot_add, tot_const}
use Rattle.tails.proofs.Bounds.{shared_of_half, shared_of_one}
use Rattle.tails.proofs.Deeper.{deeper_below}
use Rattle.walk.specs.declared.Walk.{Walk}
use Rattle.walk.specs.Record.{whole_mask, most_rounds}
use Rattle.field.proofs.Waiting.{wait}
use Rattle.field.proofs.WaitSums.{slot_tail, waiting, waiting_tot}
use Rattle.field.proofs.Ahead.{to_hear, ahead}
use Rattle.field.proofs.Weights.{weigh, below_at}
use Rattle.field.proofs.Opened.{deeper_of, shared_of_opened}

-- after slot 15 only what waits is ahead
ahead_last : (f : ℕ → ℕ → ℕ) (w : Walk) → ahead f w 16 ≡ waiting f w.marks (whole_mask w)
unfolding ahead to_hear
ahead_last f w =
    let at : ℕ → ℕ = λ s. f (suc w.level) (slot_tail w.level (whole_mask w) s) in
    let rest : tot 0 16 at ≡ 0 = tot_none 16 at in
    rw rest (add-zero (waiting f w.marks (whole_mask w)))

-- a weight that is at most another one
waiting_le : (f g : ℕ → ℕ → ℕ) (marks : List ℕ) (mask : ℕ) → ((j m : ℕ) → f j m ≤ g j m) → waiting f marks mask ≤ waiting g marks mask
unfolding waiting
waiting_le f g marks mask h =
    let term : (ℕ → ℕ → ℕ) → ℕ → ℕ → ℕ = λ e j s. wait marks j s * e (suc j) (slot_tail j (mask % 16 ^ j) s) in
    tot_le (length marks) 0 (λ j. tot 16 0 (term f j)) (λ j. tot 16 0 (term g j))
    (λ j a b. tot_le 16 0 (term f j) (term g j) (λ s c d. mul-le-mul_left (wait marks j s) (h (suc j) (slot_tail j (mask % 16 ^ j) s))))

tot_first : (n t : ℕ) (f : ℕ → ℕ) → tot (suc n) t f ≡ f t + tot n (suc t) f
unfolding tot
tot_first n t f = refl

shared_first : (us : List ℕ) (k : ℕ) → shared_tails_to (suc k) us ≡ shared_of us 1 + tot k 2 (shared_of us)
unfolding shared_tails_to
shared_first us k = tot_first k 1 (shared_of us)

-- the shared tails of 1 to k digits that end in a waiting slot's tail are those below it
below_most : (us : List ℕ) (k j m : ℕ) → tot k 1 (λ i. deeper_of us i j m) ≤ below_at (suc k) us j m
unfolding deeper_of below_at
below_most us k j m = deeper_below us k 1 (suc k - j) j m (omega arith)

-- at most 33 of a length beyond what waits: 32 that the listed UIDs share, and the mask's own
shared_of_most : (us ls marks : List ℕ) (mask i : ℕ) → length ls ≤ 64 → ((v : ℕ → ℕ) → tally v ls + waiting (weigh v us) marks mask ≡ tally v us)
    → shared_of us i ≤ 33 + waiting (deeper_of us i) marks mask
shared_of_most us ls marks mask i few weighed = omega (arith, few, shared_of_half ls i, shared_of_opened us ls marks mask i weighed)

-- of 1 to k + 1 digits
shared_most : (us ls marks : List ℕ) (mask k : ℕ) → length ls ≤ 64 → ((v : ℕ → ℕ) → tally v ls + waiting (weigh v us) marks mask ≡ tally v us)
    → shared_tails_to (suc k) us ≤ 16 + 33 * k + waiting (below_at (suc (suc k)) us) marks mask
shared_most us ls marks mask k few weighed =
    let waits : ℕ → ℕ = λ i. waiting (deeper_of us i) marks mask in
    let first : shared_tails_to (suc k) us ≡ shared_of us 1 + tot k 2 (shared_of us) = shared_first us k in
    let sixteen : shared_of us 1 ≤ 16 = shared_of_one us in
    let most : tot k 2 (shared_of us) ≤ tot k 2 (λ i. 33 + waits i) =
    tot_le k 2 (shared_of us) (λ i. 33 + waits i) (λ i a b. shared_of_most us ls marks mask i few weighed) in
    let parts : tot k 2 (λ i. 33 + waits i) ≡ tot k 2 (λ i. 33) + tot k 2 waits = tot_add k 2 (λ i. 33) waits in
    let each : tot k 2 (λ i. 33) ≡ k * 33 = tot_const k 2 33 in
    let all : waiting (λ j m. tot (suc k) 1 (λ i. deeper_of us i j m)) marks mask ≡ tot (suc k) 1 waits = waiting_tot (suc k) 1 (deeper_of us) marks mask in
    let split : tot (suc k) 1 waits ≡ waits 1 + tot k 2 waits = tot_first k 1 waits in
    let below : waiting (λ j m. tot (suc k) 1 (λ i. deeper_of us i j m)) marks mask ≤ waiting (below_at (suc (suc k)) us) marks mask =
    waiting_le (λ j m. tot (suc k) 1 (λ i. deeper_of us i j m)) (below_at (suc (suc k)) us) marks mask (below_most us (suc k)) in
    omega (arith, first, sixteen, most, parts, each, all, split, below)

-- us the UIDs of the field, ls those listed, after slot 15 of a round
pub rounds_most : (us ls : List ℕ) (w : Walk) (k : ℕ) → length ls ≤ 64 → ((v : ℕ → ℕ) → tally v ls + ahead (weigh v us) w 16 ≡ tally v us)
    → w.rounds + ahead (below_at (suc (suc k)) us) w 16 ≡ 1 + shared_tails_to (suc k) us → w.rounds ≤ 17 + 33 * k
rounds_most us ls w k few weighed counted =
    let most : shared_tails_to (suc k) us ≤ 16 + 33 * k + waiting (below_at (suc (suc k)) us) w.marks (whole_mask w) =
    shared_most us ls w.marks (whole_mask w) k few (λ v. ap (λ (x : ℕ). tally v ls + x) (sym (ahead_last (weigh v us) w)) ∙ weighed v) in
    omega (arith, most, counted, ahead_last (below_at (suc (suc k)) us) w)

-- for up to sixteen levels that is below the limit: 413 of 417 for fourteen, 479 of 481 for sixteen
pub rounds_below : (us ls : List ℕ) (w : Walk) (levels : ℕ) → 2 ≤ levels → levels ≤ 16 → length ls ≤ 64
    → ((v : ℕ → ℕ) → tally v ls + ahead (weigh v us) w 16 ≡ tally v us)
    → w.rounds + ahead (below_at levels us) w 16 ≡ 1 + shared_tails_to (levels - 1) us → w.rounds < most_rounds levels
unfolding most_rounds
rounds_below us ls w levels least most few weighed counted =
    let k : ℕ = levels - 2 in
    let deep : levels ≡ suc (suc k) = omega arith in
    let long : levels - 1 ≡ suc k = omega arith in
    let rounds : w.rounds ≤ 17 + 33 * k =
    rounds_most us ls w k few weighed
    (ap (λ (n : ℕ). w.rounds + ahead (below_at n us) w 16) (sym deep) ∙ counted ∙ ap (λ (n : ℕ). 1 + shared_tails_to n us) long) in
    omega arith
