-- Steps of private functions: nothing here has to be held against the rules page.
use Rattle.std.specs.Prelude.{List, ◌≡◌, ℕ, ℤ, Result, Ok, Err}
use Rattle.refusals.specs.declared.Refusal.{Refusal}
use Rattle.refusals.specs.Number.{number_of}
use Rattle.play.specs.declared.Served.{Served}
use Rattle.play.specs.Events.{length_of}
use Rattle.record.specs.Record.{write_leaves}
use Rattle.board.specs.Calls.{back_of}

-- the record that an event leaves, of whatever length; refused, it stays
unfoldable pub written : Result Served Refusal → List ℕ → List ℕ
written (Ok served) found = write_leaves served.card found
written (Err refusal) found = found

-- what `settle` promises: the number back and the record alone
pub record Settles (s : Result Served Refusal) (found : List ℕ) (r : ℤ) (bytes : List ℕ) : Type 0 where
  pub back : r ≡ back_of (number_of s) (length_of s)
  pub bytes_left : bytes ≡ written s found
