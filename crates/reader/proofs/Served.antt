-- What the tests of numbers 7, 8 and 11 show where none refuses, and what is read then: an error's code, or what the part shows.
-- By the cases of the tests. Assumes nothing.
use mathlib.Core.Path.{◌≡◌, refl, sym}
use mathlib.Core.Bool.{Bool, true, false, cond, and-eq-true_iff, ◌&&◌, ◌||◌}
use mathlib.Core.List.{List, [], ◌∷◌}
use Prim.Native.Nat.{ℕ, zero, suc, ◌+◌, ◌-◌, ◌≤◌}
use native.Mathlib.Omega.{arith}
use borrow.Author.Tests.{eq-eqb, ne_eqb, leb-true, eqb-true}
use lib.Dec.{leb, eqb}
use lib.ListN.{length, take, drop, get_or}
use Rattle.std.specs.Prelude.{Some, None, Ok, Err}
use Rattle.refusals.specs.declared.Refusal.{Refusal}
use Rattle.refusals.specs.Number.{number, number_of}
use Rattle.refusals.proofs.Numbers.{number_is_some}
use Rattle.crc.specs.Check.{is_sealed}
use Rattle.frames.specs.Frame.{shortest_answer}
use Rattle.reader.specs.declared.Request.{Request}
use Rattle.reader.specs.declared.Reading.{Reading}
use Rattle.reader.specs.declared.Reading.TheVariants.{Error}
use Rattle.reader.specs.Request.{is_request}
use Rattle.reader.specs.Reading.{block_bytes, lock_bytes, earned, is_error, is_success, is_answer, read_refusal, part_of, Outcome, outcome, shown_in, reading, Reads}
use Rattle.reader.specs.Steps.{Unrefused, Hands}
use Rattle.reader.proofs.Taken.{length_part}

-- the first bytes of a list, one by one
pub take_one : (n : ℕ) (s : List ℕ) → 1 ≤ length s → take (suc n) s ≡ get_or s 0 0 ∷ take n (drop 1 s)
take_one n [] h = absurd (omega arith)
take_one n (b ∷ s) h = refl

pub take_two : (s : List ℕ) → 2 ≤ length s → take 2 s ≡ get_or s 0 0 ∷ get_or s 1 0 ∷ []
take_two [] h = absurd (omega arith)
take_two (b ∷ []) h = absurd (omega arith)
take_two (b ∷ c ∷ s) h = refl

pub record Sealed (q : Request) (answer : List ℕ) : Type 0 where
  pub long : 3 ≤ length answer
  pub seal : is_sealed answer ≡ true
  pub either : (is_error answer || is_success q answer) ≡ true

pub sealed_answer : (q : Request) (answer : List ℕ) → is_answer q answer ≡ true → Sealed q answer
unfolding is_answer shortest_answer
sealed_answer q answer h =
    let long = (and-eq-true_iff (leb 3 (length answer)) (is_sealed answer && (is_error answer || is_success q answer))).0 h in
    let seal = (and-eq-true_iff (is_sealed answer) (is_error answer || is_success q answer)).0 long.1 in
    record { long = leb-true 3 (length answer) long.0; seal = seal.0; either = seal.1 }

-- no number refuses
pub unrefused : (q : Request) (answer : List ℕ) (blocks locks : ℕ) → read_refusal q answer blocks locks ≡ 0 → Unrefused q answer blocks locks
unfolding read_refusal
unrefused q answer blocks locks = go (is_request q) (leb (block_bytes q) blocks) (leb (lock_bytes q) locks) (is_answer q answer) refl refl refl refl
  where
    go : (a b l t : Bool) → is_request q ≡ a → leb (block_bytes q) blocks ≡ b → leb (lock_bytes q) locks ≡ l → is_answer q answer ≡ t
        → ◌≡◌ {A = ℕ} (cond a (cond (b && l) (cond t 0 11) 8) 7) 0 → Unrefused q answer blocks locks
    go true true true true x y z w h =
        record {
          request = x;
          blocks_room = leb-true (block_bytes q) blocks y;
          locks_room = leb-true (lock_bytes q) locks z;
          answered = w;
          long = (sealed_answer q answer w).long;
        }
    go true true true false x y z w h = absurd (omega arith)
    go true true false t x y z w h = absurd (omega arith)
    go true false l t x y z w h = absurd (omega arith)
    go false b l t x y z w h = absurd (omega arith)

-- flags 00 tell a success, and its length
pub success_length : (q : Request) (answer : List ℕ) → is_answer q answer ≡ true → get_or answer 0 0 ≡ 0 → length answer ≡ earned q
unfolding is_error is_success
success_length q answer h flags =
    let either = rw flags at (sealed_answer q answer h).either in
    let both = (and-eq-true_iff (eqb (length answer) (earned q)) _).0 either in
    eqb-true (length answer) (earned q) both.0

-- the part, as it is cut out of the answer
pub part_cut : (answer : List ℕ) → take (length answer - 2 - 1) (drop 1 answer) ≡ part_of answer
unfolding part_of
part_cut answer =
    let same : length answer - 2 - 1 ≡ length answer - 3 = omega arith in
    rw same refl

-- the number is the refusal's
pub number_read : (q : Request) (answer blocks locks : List ℕ)
    → (reading q answer blocks locks).number ≡ read_refusal q answer (length blocks) (length locks)
unfolding reading shown_in outcome
number_read q answer blocks locks = go (read_refusal q answer (length blocks) (length locks)) (eqb (get_or answer 0 0) 0x00)
  where
    shown : Bool → Outcome
    shown t = cond t (shown_in q (part_of answer) blocks locks) (outcome 0 (Some (Error (get_or answer 1 0))) blocks locks)

    go : (n : ℕ) (t : Bool) → (cond (eqb n 0) (shown t) (outcome n None blocks locks)).number ≡ n
    go zero true = refl
    go zero false = refl
    go (suc n) t = rw (ne_eqb (suc n) 0 (λ h. omega arith)) refl

-- ---- what is read

module _ (q : Request) (answer blocks locks : List ℕ) where
  pub reads_refused : (refusal : Refusal) → number refusal ≡ read_refusal q answer (length blocks) (length locks)
      → Reads (reading q answer blocks locks) (Err refusal) blocks locks
  unfolding reading outcome number_of
  reads_refused refusal is =
      let same : reading q answer blocks locks ≡ outcome (number refusal) None blocks locks =
      rw (← is, ne_eqb (number refusal) 0 (number_is_some refusal)) refl in
      rw same (record { number = refl; reading = refl; blocks_left = refl; locks_left = refl })

  module _ (served : 0 ≡ read_refusal q answer (length blocks) (length locks)) where
    pub none_refuses : Unrefused q answer (length blocks) (length locks)
    none_refuses = unrefused q answer (length blocks) (length locks) (sym served)

    pub answer_long : 3 ≤ length answer
    answer_long = (sealed_answer q answer none_refuses.answered).long

    pub part_earned : get_or answer 0 0 ≡ 0 → {part : List ℕ} → part ≡ part_of answer → length part + 3 ≡ earned q
    unfolding part_of
    part_earned flags same =
        let long : 3 ≤ length answer = answer_long in
        let all : length answer ≡ earned q = success_length q answer none_refuses.answered flags in
        rw (same, length_part 1 (length answer - 3) answer (omega arith)) (omega arith)

    pub reads_error : (get_or answer 0 0 ≡ 0 → ⊥) → Reads (reading q answer blocks locks) (Ok (Error (get_or answer 1 0))) blocks locks
    unfolding reading outcome number_of
    reads_error flags =
        let same : reading q answer blocks locks ≡ outcome 0 (Some (Error (get_or answer 1 0))) blocks locks =
        rw (← served, ne_eqb (get_or answer 0 0) 0 flags) refl in
        rw same (record { number = refl; reading = refl; blocks_left = refl; locks_left = refl })

    pub reads_shown : {part : List ℕ} {r : Reading} {b l : List ℕ} → get_or answer 0 0 ≡ 0 → part ≡ part_of answer
        → Hands (shown_in q part blocks locks) r b l → Reads (reading q answer blocks locks) (Ok r) b l
    unfolding reading shown_in outcome number_of
    reads_shown {part} flags at p =
        let same : reading q answer blocks locks ≡ shown_in q part blocks locks =
        rw (← served, eq-eqb (get_or answer 0 0) 0 flags, at) refl in
        rw same (record { number = refl; reading = p.reading; blocks_left = p.blocks_left; locks_left = p.locks_left })
