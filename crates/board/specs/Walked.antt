-- 01, The walk: "The board keeps one walk record that is changed where it stands." What C is told by each of its calls, and what they leave.
use Rattle.std.specs.Prelude.{ℕ, cond, List, ◌≡◌, eqb, ℤ, pos}
use Rattle.lent.specs.Lent.{refused}
use Rattle.walk.specs.declared.Walk.{Walk}
use Rattle.walk.specs.declared.Send.{Send}
use Rattle.walk.specs.declared.Send.TheVariants.{Nothing, Mark, Request}
use Rattle.walk.specs.Hear.{Hearing}
use Rattle.walk.specs.Ask.{Asking}

-- ---- hearing: 0, or minus the number of the refusal

-- what the calls in place promise: the number r, the walk where it stands, and every place of the list
pub record HearsInPlace (h : Hearing) (r : ℤ) (walk : Walk) (list : List ℕ) : Type 0 where
  pub answer : r ≡ refused h.number
  pub walk_left : walk ≡ h.walk
  pub list_left : list ≡ h.list

-- ---- asking: "request, slot mark or nothing"

-- by its length: a request has 5 to 13 bytes, a slot mark is one, and nothing is none
unfoldable pub length_of : Send → ℕ
length_of Nothing = 0
length_of Mark = 1
length_of (Request n) = n

-- minus the number of the refusal, or what to send
unfoldable pub ask_answer : Asking → ℤ
ask_answer a = cond (eqb a.number 0) (pos (length_of a.send)) (refused a.number)

-- what the call promises, of a walk that is lent to be read: the number r, and every byte of the room
pub record AsksInPlace (a : Asking) (r : ℤ) (room : List ℕ) : Type 0 where
  pub answer : r ≡ ask_answer a
  pub room_left : room ≡ a.room
