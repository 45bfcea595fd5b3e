-- Steps of private functions: nothing here has to be held against the rules page.
use Rattle.std.specs.Prelude.{ℕ, ◌*◌, ◌≤◌, true, List, ◌≡◌, length, Some}
use Rattle.lent.specs.Lent.{over}
use Rattle.reader.specs.declared.Reading.{Reading}
use Rattle.reader.specs.declared.Reading.TheVariants.{Blocks, Locks}
use Rattle.reader.specs.declared.Request.{Request}
use Rattle.reader.specs.Request.{is_request, data_fits}
use Rattle.reader.specs.Reading.{Outcome, block_bytes, lock_bytes, is_answer, leads_in, blocks_in}

-- what holds where no number refuses to make a request, with data and room of these lengths
pub record Passes (q : Request) (written room : ℕ) : Type 0 where
  pub asked : is_request q ≡ true
  pub fits : data_fits q written ≡ true
  pub enough : 45 ≤ room

-- and where none refuses to read an answer, with buffers of these lengths
pub record Unrefused (q : Request) (answer : List ℕ) (blocks locks : ℕ) : Type 0 where
  pub request : is_request q ≡ true
  pub blocks_room : block_bytes q ≤ blocks
  pub locks_room : lock_bytes q ≤ locks
  pub answered : is_answer q answer ≡ true
  pub long : 3 ≤ length answer

-- what the reader of 20 and 23 promises: the first n blocks of the part, and their lead bytes
pub record Splits (part : List ℕ) (lead size n : ℕ) (blocks locks : List ℕ) (r : Reading) (blocksLeft locksLeft : List ℕ) : Type 0 where
  pub reading : r ≡ Blocks (n * size)
  pub blocks_left : blocksLeft ≡ over (blocks_in part lead size n) blocks
  pub locks_left : locksLeft ≡ over (leads_in part lead size n) locks

-- and that of 2C: the whole part
pub record Copies (part locks : List ℕ) (r : Reading) (left : List ℕ) : Type 0 where
  pub reading : r ≡ Locks (length part)
  pub leaves : left ≡ over part locks

-- what handing the part over promises: what was read, and both buffers
pub record Hands (o : Outcome) (r : Reading) (blocks locks : List ℕ) : Type 0 where
  pub reading : Some r ≡ o.reading
  pub blocks_left : blocks ≡ o.blocks
  pub locks_left : locks ≡ o.locks
