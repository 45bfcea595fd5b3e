-- A refusal and what is told of a result, by number: no two refusals share one and none has 0, so the number tells which it was.
use Rattle.std.specs.Prelude.{◌≡◌, refl, ℕ, pos, [], ◌∷◌, List, get_or, Result, Ok, Err, IsOk}
use Rattle.std.proofs.Common.{arith, ap, sym, ◌∙◌}
use Rattle.std.proofs.Math.IntN.{neg_ℤ-neg_ℤ}
use Rattle.lent.specs.Lent.{refused}
use Rattle.refusals.specs.declared.Refusal.{Refusal}
use Rattle.refusals.specs.declared.Refusal.TheVariants.{CardRecord, Lengths, LockByte, AnswerRoom, List as Short, Ended, Unfit, Room, NoTrack, WalkRecord, NoAnswer, NoAnswerTrack, Rack}
use Rattle.refusals.specs.Number.{number, number_of, number_back}

-- in the order of their numbers, which begin with 1
in_order : List Refusal
in_order =
    CardRecord ∷ CardRecord ∷ Lengths ∷ LockByte ∷ AnswerRoom ∷ Short ∷ Ended ∷ Unfit ∷ Room ∷ NoTrack ∷ WalkRecord ∷ NoAnswer ∷ NoAnswerTrack ∷ Rack ∷ []

named : (r : Refusal) → get_or in_order (number r) CardRecord ≡ r
unfolding in_order number
named CardRecord = refl
named Lengths = refl
named LockByte = refl
named AnswerRoom = refl
named Short = refl
named Ended = refl
named Unfit = refl
named Room = refl
named NoTrack = refl
named WalkRecord = refl
named NoAnswer = refl
named NoAnswerTrack = refl
named Rack = refl

-- no two refusals have one number
pub number_tells : (r s : Refusal) → number r ≡ number s → r ≡ s
number_tells r s same = sym (named r) ∙ ap (λ n. get_or in_order n CardRecord) same ∙ named s

-- none has 0
pub number_is_some : (r : Refusal) → number r ≡ 0 → ⊥
unfolding number
number_is_some CardRecord same = omega arith
number_is_some Lengths same = omega arith
number_is_some LockByte same = omega arith
number_is_some AnswerRoom same = omega arith
number_is_some Short same = omega arith
number_is_some Ended same = omega arith
number_is_some Unfit same = omega arith
number_is_some Room same = omega arith
number_is_some NoTrack same = omega arith
number_is_some WalkRecord same = omega arith
number_is_some NoAnswer same = omega arith
number_is_some NoAnswerTrack same = omega arith
number_is_some Rack same = omega arith

-- a result of which 0 is told is no refusal
pub served_is_ok : {A : Type 0} → (r : Result A Refusal) → number_of r ≡ 0 → IsOk r
unfolding number_of
served_is_ok (Ok x) same = refl
served_is_ok (Err refusal) same = absurd (number_is_some refusal same)

-- no length is minus a refusal's number
not_refused : (n : ℕ) (r : Refusal) → pos n ≡ refused (number r) → ⊥
unfolding number
not_refused n CardRecord same = cc
not_refused n Lengths same = cc
not_refused n LockByte same = cc
not_refused n AnswerRoom same = cc
not_refused n Short same = cc
not_refused n Ended same = cc
not_refused n Unfit same = cc
not_refused n Room same = cc
not_refused n NoTrack same = cc
not_refused n WalkRecord same = cc
not_refused n NoAnswer same = cc
not_refused n NoAnswerTrack same = cc
not_refused n Rack same = cc

minus_tells : (r s : Refusal) → refused (number r) ≡ refused (number s) → number r ≡ number s
minus_tells r s same = cc (neg_ℤ-neg_ℤ (pos (number r)), neg_ℤ-neg_ℤ (pos (number s)))

-- what is told of a length or a refusal tells which result it was
pub number_back_tells : (r s : Result ℕ Refusal) → number_back r ≡ number_back s → r ≡ s
unfolding number_back
number_back_tells (Ok n) (Ok k) same = cc
number_back_tells (Ok n) (Err r) same = absurd (not_refused n r same)
number_back_tells (Err r) (Ok n) same = absurd (not_refused n r (sym same))
number_back_tells (Err r) (Err s) same = ap Err (number_tells r s (minus_tells r s same))
