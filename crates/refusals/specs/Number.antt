-- 01, Numbers of refused calls, and the numbers that 02 adds: which number each refusal has, and what one number tells of a result.
use Rattle.std.specs.Prelude.{ℕ, ℤ, pos, Result, Ok, Err}
use Rattle.lent.specs.Lent.{refused}
use Rattle.refusals.specs.declared.Refusal.{Refusal}
use Rattle.refusals.specs.declared.Refusal.TheVariants.{CardRecord, Lengths, LockByte, AnswerRoom, List, Ended, Unfit, Room, NoTrack, WalkRecord, NoAnswer, NoAnswerTrack, Rack}

unfoldable pub number : Refusal → ℕ
number CardRecord = 1
number Lengths = 2
number LockByte = 3
number AnswerRoom = 4
number List = 5
number Ended = 6
number Unfit = 7
number Room = 8
number NoTrack = 9
number WalkRecord = 10
number NoAnswer = 11
number NoAnswerTrack = 12
number Rack = 13

-- the number of the refusal, or 0 where the call is served
unfoldable pub number_of : {A : Type 0} → Result A Refusal → ℕ
number_of (Ok given) = 0
number_of (Err refusal) = number refusal

-- where one number tells a length or a refusal: the length, or minus the number
unfoldable pub number_back : Result ℕ Refusal → ℤ
number_back (Ok length) = pos length
number_back (Err refusal) = refused (number refusal)
