-- 01, The card, steps 4 to 6, where b3=0. A definition stands before its use, so the page runs backwards here: read from the end up, step 4
-- (`requested`, `addressed`, `unaddressed`, `passed_by`), step 5 (`sorted`, `quieted`), step 6 (`judged`, with `is_listed`, `body_asked`,
-- `refuses_option`), then the table (`commanded`, and each command by its name).
use Rattle.std.specs.Prelude.{ℕ, zero, suc, ◌+◌, ◌-◌, Bool, true, false, cond, not, ◌&&◌, ◌||◌, List, leb, ltb, eqb, length, get_or}
use Rattle.frames.specs.declared.Flags.{Flags}
use Rattle.frames.specs.Flags.{selects, addresses, has_option}
use Rattle.frames.specs.Field.{field_at}
use Rattle.card.specs.declared.Card.{Card}
use Rattle.card.specs.declared.Mode.TheVariants.{Ready, Quiet, Selected}
use Rattle.card.specs.declared.Held.TheVariants.{Success, Code}
use Rattle.card.specs.declared.Reply.{Reply}
use Rattle.card.specs.declared.Reply.TheVariants.{Silence, Error, Done, Blocks, Status, Information}
use Rattle.commands.specs.declared.Effect.{Effect}
use Rattle.commands.specs.declared.Effect.TheVariants.{Leave, Write, Lock}
use Rattle.commands.specs.declared.Deed.{Deed}
use Rattle.card.specs.Record.{is_quiet, is_selected, in_mode, holding, with_afi, with_dsfid}

abbrev pub deed : Card → Effect → Reply → Deed
deed c effect reply = record { card = c; effect = effect; reply = reply }

abbrev pub silent : Card → Deed
silent c = deed c Leave Silence

abbrev pub fault : Card → ℕ → Deed
fault c code = deed c Leave (Error code)

-- ---- the table: the request after its tests, command by command. "block outside 10" is looked for first, then "lock faults" 11 and 12

-- "With Option on 21, 22, 27 to 2A the effect is at once and the answer, success or error 02, 10, 11 or 12, is held."
unfoldable pub done : Bool → Card → Effect → Deed
done true c effect = deed (holding Success c) effect Silence
done false c effect = deed c effect Done

unfoldable pub failed : Bool → Card → ℕ → Deed
failed true c code = silent (holding (Code code) c)
failed false c code = fault c code

unfoldable pub is_locked : List ℕ → ℕ → Bool
is_locked locks block = not (eqb (get_or locks block 0) 0)

-- some lock byte of n from the first on is not 0
unfoldable pub any_locked : List ℕ → ℕ → ℕ → Bool
any_locked locks first zero = false
any_locked locks first (suc n) = any_locked locks first n || is_locked locks (first + n)

-- 20: "block; Option puts its lock byte first"; 23: "n+1 blocks, each as 20"; the last of them is to be inside, else "block outside 10"
unfoldable pub reads : Card → Bool → ℕ → ℕ → Deed
reads c option first n = cond (ltb (first + n) c.blocks) (deed c Leave (Blocks first (n + 1) option)) (fault c 0x10)

-- 21: "write; locked is 12": n + 1 blocks from the first on, and 21 has n = 0. place is where their data begin in the frame
unfoldable pub writes : Card → List ℕ → Bool → ℕ → ℕ → ℕ → Deed
writes c locks option first n place =
    cond (ltb (first + n) c.blocks)
    (cond (any_locked locks first (n + 1)) (failed option c 0x12) (done option c (Write first (n + 1) place)))
    (failed option c 0x10)

-- 22: "lock; already locked is 11"
unfoldable pub locks_block : Card → List ℕ → Bool → ℕ → Deed
locks_block c locks option block =
    cond (ltb block c.blocks) (cond (is_locked locks block) (failed option c 0x11) (done option c (Lock block))) (failed option c 0x10)

-- 27 / 29: "write AFI / DSFID; locked is 12"
unfoldable pub writes_afi : Card → Bool → ℕ → Deed
writes_afi c option value = cond c.afi_locked (failed option c 0x12) (done option (with_afi value false c) Leave)

unfoldable pub writes_dsfid : Card → Bool → ℕ → Deed
writes_dsfid c option value = cond c.dsfid_locked (failed option c 0x12) (done option (with_dsfid value false c) Leave)

-- 28 / 2A: "lock AFI / DSFID; locked is 11"
unfoldable pub locks_afi : Card → Bool → Deed
locks_afi c option = cond c.afi_locked (failed option c 0x11) (done option (with_afi c.afi true c) Leave)

unfoldable pub locks_dsfid : Card → Bool → Deed
locks_dsfid c option = cond c.dsfid_locked (failed option c 0x11) (done option (with_dsfid c.dsfid true c) Leave)

-- 2C: "n+1 lock bytes"
unfoldable pub tells_locks : Card → ℕ → ℕ → Deed
tells_locks c first n = cond (ltb (first + n) c.blocks) (deed c Leave (Status first (n + 1))) (fault c 0x10)

-- "block", "first, n": how many bytes each of these numbers has, in the frames of a command
unfoldable pub width : ℕ → ℕ
width command = 1

-- each command; 25 / 26: "mode Selected / Ready"; 2B: the answer is in crates/play. at is the place of the body in the frame
unfoldable pub commanded : Card → List ℕ → Bool → List ℕ → ℕ → ℕ → Deed
commanded c locks option frame at command =
    let w : ℕ = width command in
    let first : ℕ = field_at frame at w in
    let second : ℕ = field_at frame (at + w) w in
    let value : ℕ = get_or frame at 0 in
    cond (eqb command 0x20) (reads c option first 0)
    (cond (eqb command 0x21) (writes c locks option first 0 (at + w))
    (cond (eqb command 0x22) (locks_block c locks option first)
    (cond (eqb command 0x23) (reads c option first second)
    (cond (eqb command 0x25) (deed (in_mode Selected c) Leave Done)
    (cond (eqb command 0x26) (deed (in_mode Ready c) Leave Done)
    (cond (eqb command 0x27) (writes_afi c option value)
    (cond (eqb command 0x28) (locks_afi c option)
    (cond (eqb command 0x29) (writes_dsfid c option value)
    (cond (eqb command 0x2a) (locks_dsfid c option)
    (cond (eqb command 0x2b) (deed c Leave Information)
    (tells_locks c first second)))))))))))

-- ---- step 6: "Then, in this order, error answers (01, code, check)"

-- "command not listed 01": the table has 20 to 2C without 24; "custom and proprietary commands, Write multiple blocks (24) .. are not in the base"
unfoldable pub is_listed : ℕ → Bool
is_listed command = leb 0x20 command && (leb command 0x2c && not (eqb command 0x24))

-- "wrong body length 02": the table's column of bodies: "block", "block, data", "first, n", "byte" and "none"; data has the size of a block.
-- It is asked of a frame and a place: of the body that stands there
unfoldable pub body_asked : List ℕ → ℕ → ℕ → ℕ → ℕ
body_asked frame at command size =
    let w : ℕ = width command in
    cond (eqb command 0x20 || eqb command 0x22) w
    (cond (eqb command 0x21) (w + size)
    (cond (eqb command 0x23 || eqb command 0x2c) (w + w)
    (cond (eqb command 0x27 || eqb command 0x29) 1
    0)))

-- "Option set on 25, 26, 2B, 2C 03"
unfoldable pub refuses_option : ℕ → Bool
refuses_option command = eqb command 0x25 || (eqb command 0x26 || (eqb command 0x2b || eqb command 0x2c))

-- "With Option on 21, 22, 27 to 2A": these hold their answer
unfoldable pub holds_answer : ℕ → Bool
holds_answer command = eqb command 0x21 || (eqb command 0x22 || (leb 0x27 command && leb command 0x2a))

-- the bytes between the body's place and the check
unfoldable pub body_length : List ℕ → ℕ → ℕ
body_length frame at = length frame - (at + 2)

-- the errors 01, 02 and 03 in this order, then what the command itself finds
unfoldable pub judged : Card → List ℕ → Flags → List ℕ → ℕ → ℕ → Deed
judged c locks f frame at command =
    cond (is_listed command)
    (cond (eqb (body_length frame at) (body_asked frame at command c.size))
    (cond (has_option f && refuses_option command) (fault c 0x03) (commanded c locks (has_option f) frame at command))
    (failed (has_option f && holds_answer command) c 0x02))
    (fault c 0x01)

-- ---- step 5

-- "02, addressed, no body: mode Quiet, silence. Any other 02 ..: silence, no change."
unfoldable pub quieted : Card → Flags → List ℕ → ℕ → Deed
quieted c f frame at = silent (cond (addresses f && eqb (body_length frame at) 0) (in_mode Quiet c) c)

-- "Any other 02, and an unaddressed 25: silence, no change."
unfoldable pub sorted : Card → List ℕ → Flags → List ℕ → ℕ → Deed
sorted c locks f frame at =
    let command : ℕ = get_or frame 1 0 in
    cond (eqb command 0x02) (quieted c f frame at)
    (cond (eqb command 0x25 && not (addresses f)) (silent c)
    (judged c locks f frame at command))

-- ---- step 4

-- "Exception: command 25 addressed to another UID turns Selected into Ready, silently."
unfoldable pub passed_by : Card → ℕ → Deed
passed_by c command = silent (cond (eqb command 0x25 && is_selected c.mode) (in_mode Ready c) c)

-- "Address: eight UID bytes follow the command, fewer is silence; only an equal UID goes on."
unfoldable pub addressed : Card → List ℕ → Flags → List ℕ → Deed
addressed c locks f frame =
    cond (ltb (length frame) 12) (silent c)
    (cond (eqb (field_at frame 2 8) c.uid) (sorted c locks f frame 10)
    (passed_by c (get_or frame 1 0)))

-- "Select: only a Selected card goes on. Neither: Ready and Selected go on, Quiet is silent."
unfoldable pub unaddressed : Card → List ℕ → Flags → List ℕ → Deed
unaddressed c locks f frame =
    cond (cond (selects f) (is_selected c.mode) (not (is_quiet c.mode))) (sorted c locks f frame 2) (silent c)

-- "b3=0: Select and Address both set: silence."
unfoldable pub requested : Card → List ℕ → Flags → List ℕ → Deed
requested c locks f frame = cond (addresses f) (cond (selects f) (silent c) (addressed c locks f frame)) (unaddressed c locks f frame)
