-- 02, W1: the reading of an answer as C is told it. "Where an answer is an enum, a definition sets out this paper's number and values for each of its cases."
use Rattle.std.specs.Prelude.{ℕ, ◌+◌, ◌*◌, cond, List, ◌≡◌, eqb, ℤ, pos, Option, None, Some}
use Rattle.lent.specs.Lent.{refused}
use Rattle.reader.specs.declared.Information.{Information}
use Rattle.reader.specs.declared.Reading.{Reading}
use Rattle.reader.specs.declared.Reading.TheVariants.{Error, Done, Blocks, Locks, System}
use Rattle.reader.specs.Reading.{Outcome}
use Rattle.board.specs.declared.answers.Shown.{Shown}

-- "block bytes, lock bytes, system information or an error code", or success alone: the kind; 0 where nothing was read
unfoldable pub kind_of : Option Reading → ℕ
kind_of None = 0
kind_of (Some Done) = 1
kind_of (Some (Blocks n)) = 2
kind_of (Some (Locks n)) = 3
kind_of (Some (System information)) = 4
kind_of (Some (Error code)) = 5

-- and the value: how many bytes, or the code
unfoldable pub value_of : Option Reading → ℕ
value_of None = 0
value_of (Some Done) = 0
value_of (Some (Blocks n)) = n
value_of (Some (Locks n)) = n
value_of (Some (System information)) = 0
value_of (Some (Error code)) = code

-- minus the number of the refusal, or both in one number
unfoldable pub read_answer : ℕ → Option Reading → ℤ
read_answer number reading = cond (eqb number 0) (pos (65536 * kind_of reading + value_of reading)) (refused number)

-- the system information, and zeros where there is none: "An error answer never shows data."
unfoldable pub no_information : Information
no_information = record { uid = 0; blocks = 0; size = 0; dsfid = 0; afi = 0; ic_reference = 0; flags = 0 }

unfoldable pub information_of : Option Reading → Information
information_of None = no_information
information_of (Some Done) = no_information
information_of (Some (Blocks n)) = no_information
information_of (Some (Locks n)) = no_information
information_of (Some (System information)) = information
information_of (Some (Error code)) = no_information

-- what the call promises: what is returned, and every byte of both buffers
pub record ReadsByValue (o : Outcome) (r : Shown) (blocks locks : List ℕ) : Type 0 where
  pub answer : r.answer ≡ read_answer o.number o.reading
  pub information : r.information ≡ information_of o.reading
  pub blocks_left : blocks ≡ o.blocks
  pub locks_left : locks ≡ o.locks
