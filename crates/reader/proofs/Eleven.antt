-- Number 11 in the words of the request: what is read is exactly a sealed error of one code, or a sealed success of the length that the request earns.
-- By the law that sealed messages are those with their check appended, and the cases of the tests. Assumes nothing.
use mathlib.Core.Path.{◌≡◌, refl, sym, ap, ◌∙◌}
use mathlib.Core.Bool.{Bool, true, false, cond, and-eq-true_iff, ◌&&◌, ◌||◌}
use mathlib.Core.List.{List, ◌∷◌}
use Prim.Native.Nat.{ℕ, suc, ◌+◌, ◌-◌, ◌≤◌}
use native.Mathlib.Omega.{arith}
use borrow.Author.Tests.{eq-eqb, le-leb, eqb-true}
use lib.Dec.{eqb}
use lib.ListN.{length, take, drop, get_or}
use lib.Seq.{get_or-take, get_or-drop}
use Rattle.std.specs.Prelude.{None}
use Rattle.crc.specs.Check.{sealed}
use Rattle.crc.proofs.Seal.{length_sealed, sealed_of_is_sealed}
use Rattle.reader.specs.declared.Request.{Request}
use Rattle.reader.specs.Request.{is_request}
use Rattle.reader.specs.Reading.{reads_blocks, block_bytes, lock_bytes, earned, is_error, is_success, is_answer, IsAnswer, read_refusal, outcome, reading}
use Rattle.reader.specs.Reading.IsAnswer.{AnError, ASuccess}
use Rattle.reader.proofs.AnswerRead.{is_answer_of_part, is_answer_of_code}
use Rattle.reader.proofs.Served.{take_one, take_two, unrefused, sealed_answer, number_read}

-- ---- the test and the words

-- 2B earns its fourteen bytes
earned_2b : (q : Request) → q.command ≡ 0x2b → earned q ≡ 17
unfolding earned reads_blocks
earned_2b q is = rw is refl

is_answer_true : (q : Request) (answer : List ℕ) → IsAnswer q answer → is_answer q answer ≡ true
is_answer_true q answer (AnError code is) = rw is (is_answer_of_code q code)
is_answer_true q answer (ASuccess part is long flags) =
    let whole : length answer ≡ length part + 3 = ap length is ∙ length_sealed (0x00 ∷ part) ∙ omega arith in
    rw is (is_answer_of_part q part (sym whole ∙ long) flags)

-- ---- and back

module _ (q : Request) (answer : List ℕ) (seal : answer ≡ sealed (take (length answer - 2) answer)) (long : 3 ≤ length answer) where
  of_error : is_error answer ≡ true → IsAnswer q answer
  unfolding is_error
  of_error h =
      let both = (and-eq-true_iff (eqb (get_or answer 0 0) 0x01) (eqb (length answer) 4)).0 h in
      let flags : get_or answer 0 0 ≡ 0x01 = eqb-true (get_or answer 0 0) 0x01 both.0 in
      let four : length answer ≡ 4 = eqb-true (length answer) 4 both.1 in
      let two : length answer - 2 ≡ 2 = omega arith in
      AnError (get_or answer 1 0) (seal ∙ ap sealed (rw (two, take_two answer (omega arith), flags) refl))

  of_success : is_success q answer ≡ true → IsAnswer q answer
  unfolding is_success
  of_success h =
      let rest : Bool = cond (eqb q.command 0x2b) (eqb (get_or answer 1 0) 0x0f) true in
      let first = (and-eq-true_iff (eqb (get_or answer 0 0) 0x00) (eqb (length answer) (earned q) && rest)).0 h in
      let second = (and-eq-true_iff (eqb (length answer) (earned q)) rest).0 first.1 in
      let flags : get_or answer 0 0 ≡ 0x00 = eqb-true (get_or answer 0 0) 0x00 first.0 in
      let all : length answer ≡ earned q = eqb-true (length answer) (earned q) second.0 in
      let part : List ℕ = take (length answer - 3) (drop 1 answer) in
      let one : length answer - 2 ≡ suc (length answer - 3) = omega arith in
      let information : q.command ≡ 0x2b → get_or part 0 0 ≡ 0x0f =
      λ c. get_or-take (length answer - 3) (drop 1 answer) 0 0 (omega (arith, earned_2b q c)) ∙ get_or-drop 1 answer 0 0
      ∙ eqb-true (get_or answer 1 0) 0x0f (rw (eq-eqb q.command 0x2b c) at second.1) in
      ASuccess part (seal ∙ ap sealed (rw (one, take_one (length answer - 3) answer (omega arith), flags) refl)) all information

is_answer_words : (q : Request) (answer : List ℕ) → is_answer q answer ≡ true → IsAnswer q answer
is_answer_words q answer h =
    let good = sealed_answer q answer h in
    let seal = sealed_of_is_sealed answer good.seal in
    go seal good.long (is_error answer) refl good.either
  where
    go : answer ≡ sealed (take (length answer - 2) answer) → 3 ≤ length answer → (t : Bool) → is_error answer ≡ t
        → (is_error answer || is_success q answer) ≡ true → IsAnswer q answer
    go seal long true is either = of_error q answer seal long is
    go seal long false is either = of_success q answer seal long (rw is at either)

-- ---- the three laws

module _ (q : Request) (answer blocks locks : List ℕ) (asked : is_request q ≡ true) (b : block_bytes q ≤ length blocks) (l : lock_bytes q ≤ length locks)
  where
    refusal_is : read_refusal q answer (length blocks) (length locks) ≡ cond (is_answer q answer) 0 11
    unfolding read_refusal
    refusal_is = rw (asked, le-leb (block_bytes q) (length blocks) b, le-leb (lock_bytes q) (length locks) l) refl

    -- what the words say is read
    pub read_of_answer : IsAnswer q answer → (reading q answer blocks locks).number ≡ 0
    read_of_answer is = number_read q answer blocks locks ∙ refusal_is ∙ rw (is_answer_true q answer is) refl

    -- and nothing else is
    pub answer_of_read : (reading q answer blocks locks).number ≡ 0 → IsAnswer q answer
    answer_of_read h =
        let good = unrefused q answer (length blocks) (length locks) (sym (number_read q answer blocks locks) ∙ h) in
        is_answer_words q answer good.answered

    pub else_eleven : (IsAnswer q answer → ⊥) → reading q answer blocks locks ≡ outcome 11 None blocks locks
    unfolding reading
    else_eleven h = go (is_answer q answer) refl
      where
        go : (t : Bool) → is_answer q answer ≡ t → reading q answer blocks locks ≡ outcome 11 None blocks locks
        go true is = absurd (h (is_answer_words q answer is))
        go false is = rw (refusal_is, is) refl
