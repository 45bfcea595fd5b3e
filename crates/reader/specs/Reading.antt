-- 02, W1: "the reading of its answer into block bytes, lock bytes, system information or an error code. An error answer never shows data."
use Rattle.std.specs.Prelude.{ℕ, zero, suc, ◌+◌, ◌-◌, ◌*◌, Bool, true, false, cond, ◌&&◌, ◌||◌, List, [], ◌∷◌, ◌++◌, ◌≡◌, leb, eqb, length, take, drop, get_or, Option, Some, None, Result, Ok}
use Rattle.std.specs.Result.{result_ok}
use Rattle.lent.specs.Lent.{over}
use Rattle.refusals.specs.declared.Refusal.{Refusal}
use Rattle.refusals.specs.Number.{number_of}
use Rattle.crc.specs.Check.{sealed, is_sealed}
use Rattle.frames.specs.Field.{field_at}
use Rattle.frames.specs.Frame.{shortest_answer}
use Rattle.reader.specs.declared.Request.{Request}
use Rattle.reader.specs.declared.Information.{Information}
use Rattle.reader.specs.declared.Reading.{Reading}
use Rattle.reader.specs.declared.Reading.TheVariants.{Error, Done, Blocks, Locks, System}
use Rattle.reader.specs.Request.{has_option, is_request}

-- ---- what a request asks for

-- 20 and 23: "block; Option puts its lock byte first", "n+1 blocks, each as 20"
unfoldable pub reads_blocks : Request → Bool
reads_blocks q = eqb q.command 0x20 || eqb q.command 0x23

-- "first, n": n blocks and one more, else one
unfoldable pub count : Request → ℕ
count q = cond (eqb q.command 0x23 || eqb q.command 0x2c) (q.n + 1) 1

-- the bytes that come before each block: its lock byte with Option, else none
unfoldable pub lead_of : Request → ℕ
lead_of q = cond (has_option q) 1 0

-- "room for every block and lock byte asked"
unfoldable pub block_bytes : Request → ℕ
block_bytes q = cond (reads_blocks q) (count q * q.size) 0

unfoldable pub lock_bytes : Request → ℕ
lock_bytes q = cond (reads_blocks q) (count q * lead_of q) (cond (eqb q.command 0x2c) (count q) 0)

-- "a success .. of the length its request earns": flags, what the table says, and check
unfoldable pub earned : Request → ℕ
earned q =
    3
    + cond (reads_blocks q) (count q * (lead_of q + q.size))
    (cond (eqb q.command 0x2c) (count q)
    (cond (eqb q.command 0x2b) 14
    0))

-- ---- 11: "wrong check, flags not 00 or 01, an error not of 4 bytes, a success not of the length its request earns, 2B without 0F"

unfoldable pub is_error : List ℕ → Bool
is_error answer = eqb (get_or answer 0 0) 0x01 && eqb (length answer) 4

unfoldable pub is_success : Request → List ℕ → Bool
is_success q answer =
    eqb (get_or answer 0 0) 0x00
    && (eqb (length answer) (earned q) && cond (eqb q.command 0x2b) (eqb (get_or answer 1 0) 0x0f) true)

unfoldable pub is_answer : Request → List ℕ → Bool
is_answer q answer = leb shortest_answer (length answer) && (is_sealed answer && (is_error answer || is_success q answer))

-- in the order 7, 8, 11: the number of the refusal, or 0
unfoldable pub read_refusal : Request → List ℕ → ℕ → ℕ → ℕ
read_refusal q answer blocks locks =
    cond (is_request q)
    (cond (leb (block_bytes q) blocks && leb (lock_bytes q) locks) (cond (is_answer q answer) 0 11) 8)
    7

-- ---- what a success shows

-- "The part of an answer after its flags", without the check
unfoldable pub part_of : List ℕ → List ℕ
part_of answer = take (length answer - 3) (drop 1 answer)

-- blocks, each after so many lead bytes: the lead bytes of the first i of them, one after another, and the blocks
unfoldable pub leads_in : List ℕ → ℕ → ℕ → ℕ → List ℕ
leads_in part lead size zero = []
leads_in part lead size (suc i) = leads_in part lead size i ++ take lead (drop (i * (lead + size)) part)

unfoldable pub blocks_in : List ℕ → ℕ → ℕ → ℕ → List ℕ
blocks_in part lead size zero = []
blocks_in part lead size (suc i) = blocks_in part lead size i ++ take size (drop (i * (lead + size) + lead) part)

-- 2B: "0F, UID, DSFID, AFI, blocks less 1, block size less 1, IC reference"
unfoldable pub information_in : List ℕ → Information
information_in part =
    record {
      uid = field_at part 1 8;
      blocks = get_or part 11 0 + 1;
      size = get_or part 12 0 + 1;
      dsfid = get_or part 9 0;
      afi = get_or part 10 0;
      ic_reference = get_or part 13 0;
      flags = get_or part 0 0;
    }

-- the reading, and the bytes for each of the two buffers, of the part that a request has earned
unfoldable pub reading_in : Request → List ℕ → Reading
reading_in q part =
    cond (reads_blocks q) (Blocks (block_bytes q))
    (cond (eqb q.command 0x2c) (Locks (lock_bytes q))
    (cond (eqb q.command 0x2b) (System (information_in part))
    Done))

unfoldable pub block_bytes_in : Request → List ℕ → List ℕ
block_bytes_in q part = cond (reads_blocks q) (blocks_in part (lead_of q) q.size (count q)) []

unfoldable pub lock_bytes_in : Request → List ℕ → List ℕ
lock_bytes_in q part = cond (reads_blocks q) (leads_in part (lead_of q) q.size (count q)) (cond (eqb q.command 0x2c) part [])

-- ---- the whole

-- all that reading leaves behind: number is the refusal, 0 where it is served, and then there is a reading
pub record Outcome : Type 0 where
  pub number : ℕ
  pub reading : Option Reading
  pub blocks : List ℕ
  pub locks : List ℕ

unfoldable pub outcome : ℕ → Option Reading → List ℕ → List ℕ → Outcome
outcome number reading blocks locks = record { number = number; reading = reading; blocks = blocks; locks = locks }

-- "into block bytes, lock bytes, system information": each buffer filled from its start, and past that as found
unfoldable pub shown_in : Request → List ℕ → List ℕ → List ℕ → Outcome
shown_in q part blocks locks = outcome 0 (Some (reading_in q part)) (over (block_bytes_in q part) blocks) (over (lock_bytes_in q part) locks)

-- "An error answer never shows data."; a refusal changes nothing
unfoldable pub reading : Request → List ℕ → List ℕ → List ℕ → Outcome
reading q answer blocks locks =
    let number : ℕ = read_refusal q answer (length blocks) (length locks) in
    cond (eqb number 0)
    (cond (eqb (get_or answer 0 0) 0x00) (shown_in q (part_of answer) blocks locks) (outcome 0 (Some (Error (get_or answer 1 0))) blocks locks))
    (outcome number None blocks locks)

-- what `read` promises: what is returned, the refusal of that number or the reading, and every byte of both buffers
pub record Reads (o : Outcome) (r : Result Reading Refusal) (blocks locks : List ℕ) : Type 0 where
  pub number : number_of r ≡ o.number
  pub reading : result_ok r ≡ o.reading
  pub blocks_left : blocks ≡ o.blocks
  pub locks_left : locks ≡ o.locks

-- ---- number 11 in other words: the answers that are read

pub data IsAnswer (q : Request) (answer : List ℕ) : Type 0 where
  AnError : (code : ℕ) → answer ≡ sealed (0x01 ∷ code ∷ []) → IsAnswer q answer
  ASuccess : (part : List ℕ) → answer ≡ sealed (0x00 ∷ part) → length answer ≡ earned q → (q.command ≡ 0x2b → get_or part 0 0 ≡ 0x0f)
      → IsAnswer q answer

-- "An error answer never shows data": what any bytes at all leave. Anything but an error is read from flags 00 alone, and an error shows its code
unfoldable pub shows_data : Option Reading → Bool
shows_data None = false
shows_data (Some (Error code)) = false
shows_data (Some Done) = true
shows_data (Some (Blocks n)) = true
shows_data (Some (Locks n)) = true
shows_data (Some (System information)) = true

pub record ErrorShowsNothing (answer blocks locks : List ℕ) (r : Result Reading Refusal) (blocks' locks' : List ℕ) : Type 0 where
  pub data_of_success : shows_data (result_ok r) ≡ true → take 1 answer ≡ 0x00 ∷ []
  pub code_of_error : (code : ℕ) → r ≡ Ok (Error code) → take 2 answer ≡ 0x01 ∷ code ∷ []
  pub nothing_shown : shows_data (result_ok r) ≡ false → (blocks' ≡ blocks) × (locks' ≡ locks)
