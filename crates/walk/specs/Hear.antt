-- 01, The walk: what a slot makes of the walk and of its list.
use Rattle.std.specs.Prelude.{Result, Ok, Err, ℕ, zero, suc, ◌+◌, ◌/◌, ◌^◌, Bool, cond, ◌&&◌, List, ◌≡◌, leb, ltb, eqb, length, get_or, set}
use Rattle.crc.specs.Check.{is_sealed}
use Rattle.frames.specs.Field.{field_at}
use Rattle.slots.specs.Fits.{fits_slot}
use Rattle.refusals.specs.declared.Refusal.{Refusal}
use Rattle.refusals.specs.Number.{number_of}
use Rattle.walk.specs.declared.Walk.{Walk}
use Rattle.walk.specs.declared.Kind.{Kind}
use Rattle.walk.specs.declared.Kind.TheVariants.{Silence, Clash, Bytes}
use Rattle.walk.specs.declared.Slot.{Slot}
use Rattle.walk.specs.declared.Slot.TheVariants.{Silent, Clashed, Clean}
use Rattle.walk.specs.Marks.{deepest}
use Rattle.walk.specs.Record.{places, most_rounds, levels_of, mask_length, whole_mask, running, complete, twins, full, overrun, is_running, is_accepted, ended, counted, marked, at_next_slot, opened}

-- ---- what is heard in a slot

-- the UID of an answer "00, DSFID, UID, check"
unfoldable pub uid_of : List ℕ → ℕ
uid_of bytes = field_at bytes 2 8

-- 02, W6: "All UIDs begin with E0": above its n low digits a UID has what E0 00 00 00 00 00 00 00 has there. Of fourteen digits it is the byte E0; of
-- sixteen nothing is above them
unfoldable pub starts_e0 : ℕ → ℕ → Bool
starts_e0 n uid = eqb (uid / 16 ^ n) (0xe000000000000000 / 16 ^ n)

-- "Bytes are clean if they are 12, checked, flags 00, and the UID fits mask and slot"; 02, W6: "a clean reply whose UID doesn't start with E0 is a clash"
unfoldable pub is_clean : Walk → List ℕ → Bool
is_clean w bytes =
    eqb (length bytes) 12
    && (is_sealed bytes && (eqb (get_or bytes 0 0) 0x00 && (fits_slot (uid_of bytes) (mask_length w.level) (whole_mask w) w.slot
    && starts_e0 (levels_of w) (uid_of bytes))))

-- "Each is silent, a clash, or bytes."; of bytes that are not clean, "all else is a clash"
unfoldable pub judged : Walk → Kind → List ℕ → Slot
judged w Silence bytes = Silent
judged w Clash bytes = Clashed
judged w Bytes bytes = cond (is_clean w bytes) (Clean (uid_of bytes)) Clashed

-- ---- what a slot leaves behind

-- "full (a clean UID with 64 listed, at once)": whether there is a place for one more in the walk's own list
unfoldable pub has_place : Walk → Bool
has_place w = ltb w.count places

-- "twins (a clash at k=15, at once), full (a clean UID with 64 listed, at once)"; 02, W6: "a clash at mask length 34 is twins", the last level's. The
-- ending, or 0, where there is a place for a clean UID, or none
unfoldable pub ends_at_once : Walk → Slot → Bool → ℕ
ends_at_once w Silent place = running
ends_at_once w Clashed place = cond (ltb (w.level + 1) (levels_of w)) running twins
ends_at_once w (Clean uid) place = cond place running full

-- a clash is marked and a clean UID counted
unfoldable pub noted : Walk → Slot → Walk
noted w Silent = w
noted w Clashed = marked w
noted w (Clean uid) = counted w

-- and listed at the place that is given
unfoldable pub list_noted : Slot → ℕ → List ℕ → List ℕ
list_noted Silent at list = list
list_noted Clashed at list = list
list_noted (Clean uid) at list = set list at uid

-- "After slot 15 the walk opens the lowest unopened clash of the deepest level that has one"; "complete (no clash waits)",
-- "overrun (round 482 would be needed)": a round above the walk's limit. The second argument is one more than that level, or 0 where no clash waits
unfoldable pub turned : Walk → ℕ → Walk
turned w zero = ended complete w
turned w (suc j) = cond (ltb w.rounds (most_rounds (levels_of w))) (opened w j) (ended overrun w)

unfoldable pub passed : Walk → Walk
passed w = cond (ltb w.slot 15) (at_next_slot w) (turned w (deepest w.marks))

-- the walk and its list after a slot: "save that a clean UID in slot 15 of the last round is listed and a clash there is marked before complete
-- or overrun", since a slot is noted before the walk turns; at twins and full it is not
unfoldable pub walk_after : Walk → Slot → Bool → Walk
walk_after w slot place = cond (eqb (ends_at_once w slot place) running) (passed (noted w slot)) (ended (ends_at_once w slot place) w)

unfoldable pub list_after : Walk → Slot → Bool → ℕ → List ℕ → List ℕ
list_after w slot place at list = cond (eqb (ends_at_once w slot place) running) (list_noted slot at list) list

-- ---- the call

-- "hearing 10, 6, 5": 10 is the record, 6 "hearing after an ending", 5 "list of fewer than 64 places"; 0 where the call is served
unfoldable pub refusal : Walk → ℕ → ℕ
refusal w room = cond (is_accepted w) (cond (is_running w) (cond (leb places room) 0 5) 6) 10

-- all that hearing leaves behind; "All change nothing.". "Clean UIDs are listed as heard.": the next one after those that the walk counts
pub record Hearing : Type 0 where
  pub walk : Walk
  pub list : List ℕ
  pub number : ℕ

unfoldable pub hearing : Walk → Kind → List ℕ → List ℕ → Hearing
hearing w kind bytes list =
    let n : ℕ = refusal w (length list) in
    cond (eqb n 0)
    (record {
      walk = walk_after w (judged w kind bytes) (has_place w);
      list = list_after w (judged w kind bytes) (has_place w) w.count list;
      number = 0;
    })
    (record { walk = w; list = list; number = n })

-- the walk that a call leaves: the next one, or the one that the caller has where it is refused
unfoldable pub walk_of : Walk → Result Walk Refusal → Walk
walk_of w (Ok next) = next
walk_of w (Err refusal) = w

-- what `hear` promises: what is returned, and every place of the list
pub record Hears (w : Walk) (h : Hearing) (r : Result Walk Refusal) (list : List ℕ) : Type 0 where
  pub walk : walk_of w r ≡ h.walk
  pub number : number_of r ≡ h.number
  pub list_left : list ≡ h.list
