-- 02, W1: "read back as what the card holds": what a request shows of a card, its memory and its lock bytes, with no word of frames and answers.
use Rattle.std.specs.Prelude.{ℕ, ◌+◌, ◌*◌, Bool, true, false, cond, not, ◌&&◌, ◌||◌, List, [], ◌≡◌, leb, eqb, take, drop, get_or, set, Result, Ok}
use Rattle.lent.specs.Lent.{over, placed}
use Rattle.refusals.specs.declared.Refusal.{Refusal}
use Rattle.card.specs.declared.Card.{Card}
use Rattle.card.specs.declared.Mode.{Mode}
use Rattle.card.specs.declared.Mode.TheVariants.{Ready, Quiet, Selected}
use Rattle.reader.specs.declared.Request.{Request}
use Rattle.reader.specs.declared.Information.{Information}
use Rattle.reader.specs.declared.Reading.{Reading}
use Rattle.reader.specs.declared.Reading.TheVariants.{Error, Done, Blocks, Locks, System}
use Rattle.reader.specs.Request.{is_addressed, is_for_selected, has_option}

-- 02: "where the card has that block size": 20, 21 and 23, whose blocks have it
unfoldable pub moves_blocks : Request → Bool
moves_blocks q = eqb q.command 0x20 || (eqb q.command 0x21 || eqb q.command 0x23)

-- ---- whether it answers

-- 01, The card, step 4, neither addressed nor selected: "Ready and Selected go on, Quiet is silent"
unfoldable pub is_listening : Mode → Bool
is_listening Ready = true
is_listening Quiet = false
is_listening Selected = true

-- selected: "only a Selected card goes on"
unfoldable pub is_chosen : Mode → Bool
is_chosen Ready = false
is_chosen Quiet = false
is_chosen Selected = true

-- addressed: "only an equal UID goes on"
unfoldable pub is_called : Card → Request → Bool
is_called c q = cond (is_addressed q) (eqb q.uid c.uid) (cond (is_for_selected q) (is_chosen c.mode) (is_listening c.mode))

-- "With Option on 21, 22, 27 to 2A .. the answer .. is held."
unfoldable pub is_held : Request → Bool
is_held q = has_option q && (eqb q.command 0x21 || (eqb q.command 0x22 || (leb 0x27 q.command && leb q.command 0x2a)))

-- ---- step 6: the error, of the card and its lock bytes as they were before the request

-- "Option set on 25, 26, 2B, 2C 03"
unfoldable pub mistakes_option : Request → Bool
mistakes_option q =
    has_option q && (eqb q.command 0x25 || (eqb q.command 0x26 || (eqb q.command 0x2b || eqb q.command 0x2c)))

-- "block outside 10": the last block that it asks for, of 20 to 22, and of 23 and 2C, "first, n"
unfoldable pub is_outside : Card → Request → Bool
is_outside c q =
    cond (eqb q.command 0x20 || (eqb q.command 0x21 || eqb q.command 0x22)) (leb c.blocks q.first)
    ((eqb q.command 0x23 || eqb q.command 0x2c) && leb c.blocks (q.first + q.n))

-- "lock faults": the lock byte of the first block, or the AFI's lock, or the DSFID's
unfoldable pub is_block_locked : List ℕ → Request → Bool
is_block_locked locks q = not (eqb (get_or locks q.first 0) 0)

-- 22, 28, 2A: "already locked is 11", "locked is 11"
unfoldable pub relocks : Card → List ℕ → Request → Bool
relocks c locks q =
    (eqb q.command 0x22 && is_block_locked locks q)
    || ((eqb q.command 0x28 && c.afi_locked) || (eqb q.command 0x2a && c.dsfid_locked))

-- 21, 27, 29: "locked is 12"
unfoldable pub writes_locked : Card → List ℕ → Request → Bool
writes_locked c locks q =
    (eqb q.command 0x21 && is_block_locked locks q)
    || ((eqb q.command 0x27 && c.afi_locked) || (eqb q.command 0x29 && c.dsfid_locked))

-- "in this order": the code, or 0 for none
unfoldable pub code_of : Card → List ℕ → Request → ℕ
code_of c locks q =
    cond (mistakes_option q) 0x03
    (cond (is_outside c q) 0x10
    (cond (relocks c locks q) 0x11
    (cond (writes_locked c locks q) 0x12
    0)))

-- ---- what is shown where there is none, of the card as it is after the request

-- "first to first + n"
unfoldable pub blocks_held : List ℕ → Request → ℕ → List ℕ
blocks_held memory q n = take (n * q.size) (drop (q.first * q.size) memory)

unfoldable pub locks_held : List ℕ → Request → ℕ → List ℕ
locks_held locks q n = take n (drop q.first locks)

-- 2B: "UID, DSFID, AFI, blocks .., block size .., IC reference", and the flags that tell that all are there
unfoldable pub information_held : Card → Information
information_held c =
    record {
      uid = c.uid;
      blocks = c.blocks;
      size = c.size;
      dsfid = c.dsfid;
      afi = c.afi;
      ic_reference = c.ic_reference;
      flags = 0x0f;
    }

-- what is read, command by command
unfoldable pub reading_held : Card → Request → Reading
reading_held c q =
    cond (eqb q.command 0x20) (Blocks q.size)
    (cond (eqb q.command 0x23) (Blocks ((q.n + 1) * q.size))
    (cond (eqb q.command 0x2b) (System (information_held c))
    (cond (eqb q.command 0x2c) (Locks (q.n + 1))
    Done)))

-- the block bytes
unfoldable pub bytes_held : List ℕ → Request → List ℕ
bytes_held memory q = cond (eqb q.command 0x20) (blocks_held memory q 1) (cond (eqb q.command 0x23) (blocks_held memory q (q.n + 1)) [])

-- the lock bytes: of 20 and 23 with Option, and of 2C
unfoldable pub marks_held : List ℕ → Request → List ℕ
marks_held locks q =
    cond (eqb q.command 0x20 && has_option q) (locks_held locks q 1)
    (cond ((eqb q.command 0x23 && has_option q) || eqb q.command 0x2c) (locks_held locks q (q.n + 1)) [])

-- ---- the whole: a code shows nothing but itself; else the two buffers are filled from their start, and past that as found

unfoldable pub shown_reading : ℕ → Card → Request → Reading
shown_reading code c q = cond (eqb code 0) (reading_held c q) (Error code)

unfoldable pub shown_bytes : ℕ → List ℕ → List ℕ → List ℕ
shown_bytes code held found = cond (eqb code 0) (over held found) found

-- what reading returns, and what it leaves in the buffers
pub record Shows (code : ℕ) (c : Card) (memory locks : List ℕ) (q : Request) (blocksFound locksFound : List ℕ) (r : Result Reading Refusal) (blocksLeft locksLeft : List ℕ)
    : Type 0 where
  pub reading : r ≡ Ok (shown_reading code c q)
  pub blocks_left : blocksLeft ≡ shown_bytes code (bytes_held memory q) blocksFound
  pub locks_left : locksLeft ≡ shown_bytes code (marks_held locks q) locksFound

-- ---- what a request does where there is no code: the table's column of effects, on the card, its memory and its lock bytes

-- 21: "write"
unfoldable pub memory_written : Request → List ℕ → List ℕ → List ℕ
memory_written q written memory = cond (eqb q.command 0x21) (placed (q.first * q.size) written memory) memory

-- 22: "lock"
unfoldable pub locks_set : Request → List ℕ → List ℕ
locks_set q locks = cond (eqb q.command 0x22) (set locks q.first 1) locks

-- 25 / 26: "mode Selected / Ready"
unfoldable pub mode_gone : Request → Mode → Mode
mode_gone q mode = cond (eqb q.command 0x25) Selected (cond (eqb q.command 0x26) Ready mode)

-- 27 / 29: "write AFI / DSFID"; 28 / 2A: "lock AFI / DSFID": the byte, and its lock
unfoldable pub byte_written : Request → ℕ → ℕ → ℕ
byte_written q command byte = cond (eqb q.command command) q.value byte

unfoldable pub lock_set : Request → ℕ → Bool → Bool
lock_set q command locked = cond (eqb q.command command) true locked

-- c, memory and locks are those before the request, d, m and l those after it
pub record Does (q : Request) (written : List ℕ) (c : Card) (memory locks : List ℕ) (d : Card) (m l : List ℕ) : Type 0 where
  pub memory_written : m ≡ memory_written q written memory
  pub locks_set : l ≡ locks_set q locks
  pub mode_gone : d.mode ≡ mode_gone q c.mode
  pub afi_written : d.afi ≡ byte_written q 0x27 c.afi
  pub dsfid_written : d.dsfid ≡ byte_written q 0x29 c.dsfid
  pub afi_lock : d.afi_locked ≡ lock_set q 0x28 c.afi_locked
  pub dsfid_lock : d.dsfid_locked ≡ lock_set q 0x2a c.dsfid_locked
