-- 02, W1: "a request made here, served by our card, is read back as what the card holds, where the card has that block size and answers at all".
use Rattle.std.specs.Prelude.{ℕ, ◌*◌, ◌≤◌, ◌<◌, ◌^◌, true, false, not, ◌||◌, List, ◌≡◌, eqb, pos, length, take, Result, Ok}
use Rattle.lent.specs.Lent.{over, placed}
use Rattle.refusals.specs.declared.Refusal.{Refusal}
use Rattle.card.specs.declared.Card.{Card}
use Rattle.play.specs.declared.Served.{Served}
use Rattle.play.specs.Refusal.{Accepted}
use Rattle.play.specs.Events.{frame_event, mark_event, card_after, length_of, Leaves}
use Rattle.reader.specs.declared.Request.{Request}
use Rattle.reader.specs.declared.Reading.TheVariants.{Done, Blocks}
use Rattle.reader.specs.declared.Reading.{Reading}
use Rattle.reader.specs.Request.{Makes}
use Rattle.reader.specs.Reading.{block_bytes, lock_bytes, reading, Reads}
use Rattle.reader.specs.Shown.{moves_blocks, is_called, is_held, code_of, Shows, Does}

-- "the card has that block size": a card that numbers 1 to 4 accept, and, for a request that moves blocks, their size; UIDs have 64 bits
pub record Fits (c : Card) (memory locks found : List ℕ) (q : Request) : Type 0 where
  pub accepted : Accepted c memory locks found
  pub same_size : moves_blocks q ≡ true → q.size ≡ c.size
  pub card_uid : c.uid < 2 ^ 64
  pub asked_uid : q.uid < 2 ^ 64

-- "a request made here, served by our card": whatever `make` allows to be left at the start of a room, and whatever the card's promise allows for it:
-- what is returned, and its memory, lock bytes and answer after it
pub record Sent (q : Request) (written : List ℕ) (c : Card) (memory locks found : List ℕ) (r : Result Served Refusal) (memoryLeft locksLeft answer : List ℕ) : Type 0 where
  pub room : List ℕ
  pub made : List ℕ
  pub n : ℕ
  pub makes : Makes q written room (pos n) made
  pub leaves : Leaves c (frame_event c (take n made) memory locks found) r memoryLeft locksLeft answer

-- "is read back as what the card holds": whatever the reader's promise allows for an answer, into any two buffers with room for what was asked, shows it:
-- the code that was found before the request, or what card, memory and lock bytes hold after it
abbrev pub ReadAs : Request → List ℕ → ℕ → Card → List ℕ → List ℕ → Type 0
ReadAs q answer code c memory locks =
    (blocksFound locksFound : List ℕ) → block_bytes q ≤ length blocksFound → lock_bytes q ≤ length locksFound → (r : Result Reading Refusal) (blocksLeft locksLeft : List ℕ)
    → Reads (reading q answer blocksFound locksFound) r blocksLeft locksLeft → Shows code c memory locks q blocksFound locksFound r blocksLeft locksLeft

-- c, memory and locks are the card, its memory and its lock bytes before the request; r is what its call returned, the rest what it left
pub record Exchange (q : Request) (written : List ℕ) (c : Card) (memory locks : List ℕ) (r : Result Served Refusal) (memoryLeft locksLeft answer : List ℕ) : Type 0 where
  -- "answers at all": it is silent exactly if it is not called or its answer is held
  pub silent : eqb (length_of r) 0 ≡ (not (is_called c q) || is_held q)
  -- its answer is read
  pub read : is_called c q ≡ true → is_held q ≡ false → ReadAs q (take (length_of r) answer) (code_of c locks q) (card_after c r) memoryLeft locksLeft
  -- and so is one that was held: whatever the card's promise allows for a slot mark, with any room that it accepts (numbers 1 to 3 always do:
  -- `served_after_a_frame` on the front page). It is not silent
  pub held : is_called c q ≡ true → is_held q ≡ true → (found : List ℕ) → Accepted (card_after c r) memoryLeft locksLeft found
      → (s : Result Served Refusal) (memoryMarked locksMarked released : List ℕ) → Leaves (card_after c r) (mark_event (card_after c r) memoryLeft locksLeft found) s memoryMarked locksMarked released
      → (eqb (length_of s) 0 ≡ false) × ReadAs q (take (length_of s) released) (code_of c locks q) (card_after c r) memoryLeft locksLeft
  -- what it did, where it was called and found no fault; else memory and lock bytes are as they were
  pub does : is_called c q ≡ true → code_of c locks q ≡ 0 → Does q written c memory locks (card_after c r) memoryLeft locksLeft
  pub refused_leaves : is_called c q ≡ true → (code_of c locks q ≡ 0 → ⊥) → (memoryLeft ≡ memory) × (locksLeft ≡ locks)
  pub others_leave : is_called c q ≡ false → (memoryLeft ≡ memory) × (locksLeft ≡ locks)

-- ---- written, then read

-- 21 was answered with success, at once or at a slot mark: whatever the reader's promise allows for that answer, into any two buffers, is success.
-- c is the card before it; then come the card, its memory and its lock bytes after it
pub data Succeeds (q : Request) (c : Card) (r : Result Served Refusal) (memory locks answer : List ℕ) : Card → List ℕ → List ℕ → Type 0 where
  AtOnce : (blocksFound locksFound : List ℕ) (t : Result Reading Refusal) (blocksLeft locksLeft : List ℕ)
      → Reads (reading q (take (length_of r) answer) blocksFound locksFound) t blocksLeft locksLeft → t ≡ Ok Done
      → Succeeds q c r memory locks answer (card_after c r) memory locks
  AtMark : (found : List ℕ) → Accepted (card_after c r) memory locks found
      → (s : Result Served Refusal) (memoryMarked locksMarked released : List ℕ) → Leaves (card_after c r) (mark_event (card_after c r) memory locks found) s memoryMarked locksMarked released
      → (blocksFound locksFound : List ℕ) (t : Result Reading Refusal) (blocksLeft locksLeft : List ℕ)
      → Reads (reading q (take (length_of s) released) blocksFound locksFound) t blocksLeft locksLeft → t ≡ Ok Done
      → Succeeds q c r memory locks answer (card_after (card_after c r) s) memoryMarked locksMarked

-- 20 of that block, made here, in any mode, with Option or without: where the card answers, whatever the reader's promise allows shows the data
abbrev pub ReadsBack : Request → List ℕ → Card → List ℕ → List ℕ → Type 0
ReadsBack w written c memory locks =
    (q : Request) (unused found : List ℕ) → Fits c memory locks found q → q.command ≡ 0x20 → q.first ≡ w.first
    → (r : Result Served Refusal) (memoryLeft locksLeft answer : List ℕ) → Sent q unused c memory locks found r memoryLeft locksLeft answer → eqb (length_of r) 0 ≡ false
    → (blocksFound locksFound : List ℕ) → block_bytes q ≤ length blocksFound → lock_bytes q ≤ length locksFound
    → (t : Result Reading Refusal) (blocksLeft locksLeft : List ℕ) → Reads (reading q (take (length_of r) answer) blocksFound locksFound) t blocksLeft locksLeft
    → (t ≡ Ok (Blocks q.size)) × (blocksLeft ≡ over written blocksFound)

-- the data stand in that block, all other bytes of the memory and all lock bytes are as before, and the data come back
pub record Written (w : Request) (written memory locks : List ℕ) (next : Card) (memoryNext locksNext : List ℕ) : Type 0 where
  pub stored : memoryNext ≡ placed (w.first * w.size) written memory
  pub locks_kept : locksNext ≡ locks
  pub comes_back : ReadsBack w written next memoryNext locksNext
