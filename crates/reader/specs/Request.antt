-- 02, W1: "a request for each of 20 to 23 and 25 to 2C, in all three modes (25 only addressed), for a stated block size". Its bytes, and which are refused.
use Rattle.std.specs.Prelude.{ℕ, ◌+◌, Bool, true, cond, not, ◌&&◌, ◌||◌, List, [], ◌∷◌, ◌++◌, ◌≡◌, leb, ltb, eqb, ℤ, pos, length}
use Rattle.lent.specs.Lent.{over, refused}
use Rattle.crc.specs.Check.{sealed}
use Rattle.frames.specs.Field.{field_bytes}
use Rattle.reader.specs.declared.Request.{Request}

-- ---- "in all three modes": the values of the field mode. 0 is neither, and what is not 0 or 1 is selected

unfoldable pub is_addressed : Request → Bool
is_addressed q = eqb q.mode 1

unfoldable pub is_for_selected : Request → Bool
is_for_selected q = ltb 1 q.mode

-- 01, The card, step 2: "b7 Option": 0 is not set, all else is
unfoldable pub has_option : Request → Bool
has_option q = not (eqb q.option 0)

-- ---- the bytes

-- 01, The card, step 2: "b5 Select, b6 Address, b7 Option", over the radio's b1 and b2 of the walk, "flags 06", without its b3
unfoldable pub flags : Request → ℕ
flags q = 0x02 + cond (is_addressed q) 0x20 (cond (is_for_selected q) 0x10 0x00) + cond (has_option q) 0x40 0x00

-- 01, The card, step 4: "eight UID bytes follow the command"
unfoldable pub address : Request → List ℕ
address q = cond (is_addressed q) (field_bytes 8 q.uid) []

-- 01, The card, the table's column of bodies: "block", "block, data", "first, n", "byte" and "none"
unfoldable pub body : Request → List ℕ → List ℕ
body q written =
    cond (eqb q.command 0x20 || eqb q.command 0x22) (q.first ∷ [])
    (cond (eqb q.command 0x21) (q.first ∷ written)
    (cond (eqb q.command 0x23 || eqb q.command 0x2c) (q.first ∷ q.n ∷ [])
    (cond (eqb q.command 0x27 || eqb q.command 0x29) (q.value ∷ [])
    [])))

-- without the check, and with it
unfoldable pub message : Request → List ℕ → List ℕ
message q written = flags q ∷ q.command ∷ (address q ++ body q written)

unfoldable pub frame : Request → List ℕ → List ℕ
frame q written = sealed (message q written)

-- ---- Refusals: "7 also for another command, an unaddressed 25, a block size outside 1 to 32 or data not of it; 8 asks 45 for a request"

-- "20 to 23 and 25 to 2C"
unfoldable pub is_asked : ℕ → Bool
is_asked command = leb 0x20 command && (leb command 0x2c && not (eqb command 0x24))

-- 7, but for the data: making and reading have it in common
unfoldable pub is_request : Request → Bool
is_request q = is_asked q.command && (cond (eqb q.command 0x25) (is_addressed q) true && (leb 1 q.size && leb q.size 32))

-- "data not of it": 21 has data, of the size of a block; for any other command they are not looked at
unfoldable pub data_fits : Request → ℕ → Bool
data_fits q written = cond (eqb q.command 0x21) (eqb written q.size) true

-- "8 asks 45": 21, addressed, of 32 bytes
unfoldable pub room_asked : ℕ
room_asked = 45

-- in the order 7, 8: the number of the refusal, or 0; of the lengths of data and room
unfoldable pub make_refusal : Request → ℕ → ℕ → ℕ
make_refusal q written room = cond (is_request q && data_fits q written) (cond (leb room_asked room) 0 8) 7

-- the request's length, or minus the number of the refusal; and its bytes at the start of the room
unfoldable pub make_answer : Request → List ℕ → List ℕ → ℤ
make_answer q written room =
    let number : ℕ = make_refusal q (length written) (length room) in
    cond (eqb number 0) (pos (length (frame q written))) (refused number)

unfoldable pub make_leaves : Request → List ℕ → List ℕ → List ℕ
make_leaves q written room = cond (eqb (make_refusal q (length written) (length room)) 0) (over (frame q written) room) room

-- what `make` promises: its answer r, and the room that it leaves
pub record Makes (q : Request) (written room : List ℕ) (r : ℤ) (left : List ℕ) : Type 0 where
  pub answer : r ≡ make_answer q written room
  pub leaves : left ≡ make_leaves q written room
