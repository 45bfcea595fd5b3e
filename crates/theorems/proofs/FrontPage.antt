-- What is proved of Espenknoten, in one place: each statement in full, each proof one citation. Assumes nothing.
-- The definitions stand in the folders specs/ of the crates, each under the sentence of the rules page that it says. That every function
-- meets its promise, never leaves what it was lent, and always returns, is what the gate's last line says of the crates themselves.
use mathlib.Core.Path.{◌≡◌}
use mathlib.Core.Bool.{true, false, cond, ◌&&◌}
use mathlib.Core.List.{List, [], ◌∷◌, ◌++◌}
use Prim.Native.Nat.{ℕ, suc, ◌+◌, ◌-◌, ◌*◌, ◌/◌, ◌%◌, ◌^◌, ◌≤◌, ◌<◌}
use lib.Dec.{eqb}
use lib.IntN.{ℤ, pos}
use lib.ListN.{length, take, get_or, replicate}
use Rattle.lent.specs.Bytes.{Bytes}
use Rattle.lent.specs.Lent.{over}
use Rattle.crc.specs.Check.{preset, shifts, taken, register, sealed, is_sealed}
use Rattle.crc.specs.Table.{table, taken_by_table}
use Rattle.crc.specs.Examples.{Checks}
use Rattle.crc.proofs.Entries.{table_length, table_rule, taken_by_table_lem}
use Rattle.crc.proofs.Seal.{is_sealed_of_sealed, sealed_of_is_sealed}
use Rattle.crc.proofs.Residue.{residue}
use Rattle.crc.proofs.Examples.{checks}
use Rattle.frames.specs.Flags.{flags_of, asks_inventory}
use Rattle.frames.specs.Frame.{shortest, longest, longest_answer, is_sound, Sound}
use Rattle.frames.proofs.Sound.{sound_of_sealed, sealed_of_sound}
use Rattle.digits.specs.Decimal.{decimal, is_decimal, decimal_value}
use Rattle.digits.specs.Rows.{is_row, row_bytes, row_text}
use Rattle.digits.proofs.RoundTrip.{row_of_bytes, bytes_of_row, row_of_its_bytes}
use Rattle.digits.proofs.DecimalRoundTrip.{decimal_of_number, number_of_decimal, decimal_zero, decimal_front, decimal_of_its_number}
use Rattle.tracks.specs.Track.{track_of, slot_mark}
use Rattle.tracks.specs.Coder.{Codes}
use Rattle.tracks.specs.Decoder.{told, Decodes}
use Rattle.tracks.specs.Examples.{Tracks}
use Rattle.tracks.proofs.Different.{mark_no_track}
use Rattle.tracks.proofs.Inverse.{decode_of_code, decode_answers}
use Rattle.tracks.proofs.Examples.{tracks}
use Rattle.coil.specs.Track.{answer_track}
use Rattle.coil.specs.Coder.{CodesAnswer}
use Rattle.coil.specs.Decoder.{DecodesAnswer}
use Rattle.coil.specs.Decoder as coil
use Rattle.coil.specs.Read.{TrackReads, Tells}
use Rattle.coil.specs.Overlay.{Answers, Overlays}
use Rattle.coil.specs.Examples.{Coil}
use Rattle.coil.proofs.Back.{answer_coded, answer_of_code}
use Rattle.coil.proofs.Read as coil_read
use Rattle.coil.proofs.Overlay.{overlays}
use Rattle.coil.proofs.Examples as coil_examples
use Rattle.card.specs.declared.Card.{Card}
use Rattle.card.specs.declared.Mode.TheVariants.{Ready, Quiet, Selected}
use Rattle.card.specs.Record.{cleared}
use Rattle.card.specs.Frame.{heard_inventory}
use Rattle.record.specs.Fits.{Fits}
use Rattle.record.specs.Record.{card_read, write_leaves}
use Rattle.record.proofs.RoundTrip.{read_of_write}
use Rattle.commands.specs.Frame.{leaving, decided}
use Rattle.commands.proofs.Rules.{inventory_frame}
use Rattle.std.specs.Prelude.{None, Some, Result}
use Rattle.refusals.specs.declared.Refusal.{Refusal}
use Rattle.play.specs.declared.Served.{Served}
use Rattle.play.specs.Refusal.{refusal, Accepted}
use Rattle.play.specs.Fits.{DeedFits}
use Rattle.play.specs.Events.{Outcome, unserved, frame_event, mark_event, off_event, AcceptedNext}
use Rattle.play.specs.Life.{Tag, AcceptedTag, Event, met, tag_after, lived}
use Rattle.play.specs.Examples.{CardExamples}
use Rattle.play.proofs.Deeds.{decided_fits}
use Rattle.play.proofs.Outcomes.{frame_refused, mark_refused, off_refused, frame_damaged}
use Rattle.play.proofs.Stays.{frame_stays, mark_stays, off_stays}
use Rattle.play.proofs.Life.{lived_stays, lived_one, lived_append}
use Rattle.play.proofs.Examples.{card_examples}
use Rattle.board.specs.Calls.{frame_call, mark_call, off_call}
use Rattle.board.proofs.ReadBack.{frame_reads_back, mark_reads_back, off_reads_back, frame_leaves_bytes, mark_leaves_bytes, off_leaves_bytes}
use Rattle.reader.specs.declared.Request.{Request}
use Rattle.reader.specs.declared.Reading.TheVariants.{Error}
use Rattle.reader.specs.declared.Reading.{Reading}
use Rattle.reader.specs.Request.{frame, is_request, data_fits}
use Rattle.reader.specs.Reading.{block_bytes, lock_bytes, earned, outcome, shown_in, reading, Reads, IsAnswer, shows_data, ErrorShowsNothing}
use Rattle.reader.specs.Exchange.{Fits as fits_card, Sent, Exchange, Succeeds, Written}
use Rattle.reader.proofs.Lengths.{length_frame_least, length_frame_most, frame_sound, longest_request, longest_made}
use Rattle.reader.proofs.AnswerRead.{part_read, code_read}
use Rattle.reader.proofs.Eleven.{read_of_answer, answer_of_read, else_eleven}
use Rattle.reader.proofs.Errors.{error_shows_nothing}
use Rattle.reader.proofs.Exchange.{exchange}
use Rattle.reader.proofs.Written.{written_then_read}
use Rattle.board.specs.declared.answers.Shown.{Shown}
use Rattle.board.specs.Answers.{no_information, ReadsByValue}
use Rattle.board.proofs.ErrorShown.{error_shows_c_nothing}
use Rattle.walk.specs.declared.Walk.{Walk}
use Rattle.walk.specs.declared.Kind.{Kind}
use Rattle.walk.specs.declared.Slot.TheVariants.{Clean}
use Rattle.walk.specs.Record.{started, is_running, complete, twins}
use Rattle.walk.specs.Hear.{judged}
use Rattle.walk.specs.Shared as shared
use Rattle.walk.specs.Shared.{start_refusal, starting, SharedHearing, shared_hearing}
use Rattle.walk.specs.Examples.{Walks}
use Rattle.walk.proofs.Examples.{walks}
use Rattle.field.specs.Field.{Arrival, Obeys, arrives, listens, answers, answering}
use Rattle.field.specs.Played.{Play, played_for_by, played_for, fresh_of, fresh}
use Rattle.field.specs.Found.{BeginE0, Found}
use Rattle.field.specs.Answering.{is_heard, HeardOnce}
use Rattle.field.specs.Replies.{FitsClean, heard_all, Holds, AnyReplies}
use Rattle.field.specs.Demand.{AllObey, Demand3In, Demand3, Demand3Always, RoundsCounted, RoundsKept}
use Rattle.field.specs.TwoLevels.{LowBitsTell, SixteenLevels, TwoLevelsTooMany, SameFound, NothingLost}
use Rattle.field.specs.Foreign.{FoundAny, AnyUids}
use Rattle.field.specs.Examples.{FieldOfThree}
use Rattle.field.specs.Families.{Calling, calling, took_part, passed_over, Families}
use Rattle.field.proofs.AnyWalk.{judged_clean, walk_of_any_replies}
use Rattle.tails.specs.Tails.{shared_tails}
use Rattle.field.proofs.Demand3.{walk_of_a_field, found_rounds}
use Rattle.field.proofs.Rounds.{rounds_of_a_field, rounds_after_a_field}
use Rattle.field.proofs.TwoLevels.{low_bits_tell, walk_of_sixteen_levels, two_levels_too_many, nothing_lost}
use Rattle.field.proofs.Foreign.{walk_of_any_uids}
use Rattle.field.proofs.Answering.{card_heard_once}
use Rattle.field.proofs.TableOne.{modes_heard, none_asked, all_asked, family_asked, only_asked}
use Rattle.field.proofs.Calling.{family_requested}
use Rattle.field.proofs.Families.{families}
use Rattle.field.proofs.Examples.{field_of_three}
use Rattle.racks.specs.Calls.{OneList, Shareable, owned, rows_of, Call, list_after_call}
use Rattle.racks.specs.OneCall.{FullExactly, FullExactlyAlways, TheRow, TheRowAlways, Frees, StartFrees, Keeps, OtherKeeps, RefusedAsBefore, ServedAfterStart, ServedAfterStartAlways, Alike, SameHeard, FreeRowsAlone}
use Rattle.racks.specs.Rack.{Desk, Happening, own_events, played_on, started_on, DemandOn, FoundAnyOn, RackDemand3, RackAnyUids}
use Rattle.racks.specs.Replies.{RackWalk, fresh_on, happens_all, HoldsOn, AnyRepliesOn, TwoRacks, starts, turned, Move, turned_all, BothGoOn, BothGoOnAlways, BothGoOnLater}
use Rattle.racks.specs.Examples.{MayEndFull, OneRowEach, SharedNumbers}
use Rattle.racks.proofs.Demand.{demand_on_a_rack, any_uids_on_a_rack}
use Rattle.racks.proofs.OneCall.{full_exactly, the_row, start_frees}
use Rattle.racks.proofs.Other.{other_keeps, refused_as_before, served_after_start, free_rows_alone}
use Rattle.racks.proofs.Replies.{any_replies_on, both_go_on, both_go_on_later}
use Rattle.racks.proofs.Examples.{may_end_full, one_row_each, shared_numbers}
use Rattle.chorus.specs.Air.{heard_as, coil_air, heard_by, NumberHeard, different_rows, CoilArrives}
use Rattle.chorus.specs.Different.{different_answers, uids_of, EachOnce}
use Rattle.chorus.specs.Demand.{DsfidsFit, on_coil_played, CoilDemand3, CoilAnyUids, TwinsMean, CoilTwins}
use Rattle.chorus.specs.Examples.{CoilFields}
use Rattle.chorus.proofs.Air.{number_heard, coil_arrives}
use Rattle.chorus.proofs.Different.{each_once}
use Rattle.chorus.proofs.Apart.{coil_demand3, coil_any_uids}
use Rattle.chorus.proofs.Twins.{coil_twins}
use Rattle.chorus.proofs.Examples.{coil_fields}
use Rattle.row.specs.Row.{cards_of}
use Rattle.row.specs.Row as row
use Rattle.row.specs.Play.{fresh_desk, ended}
use Rattle.lines.specs.Input.{bad_line, uids}
use Rattle.lines.specs.Lines.{fresh_lines, read_from}
use Rattle.lines.specs.Lines as reading
use Rattle.lines.proofs.Reading.{reads_input}
use Rattle.report.specs.Output.{report}
use Rattle.report.specs.Bench.{printed}
use Rattle.report.proofs.Start.{printed_of_start}
use Rattle.picture.specs.Drawn.{pictured}
use Rattle.picture.proofs.Start.{pictured_of_start}
use Rattle.meaning.specs.Bench.{Meaning, MeaningAlways, TwinsShown, TwinsNamed}
use Rattle.meaning.specs.Signs.{Signs, SignsAlways}
use Rattle.meaning.specs.Examples.{Bench, ThreeDrawn}
use Rattle.meaning.proofs.Bench.{bench_meets_demand3}
use Rattle.meaning.proofs.Printed.{input_begins, printed_meets_demand3}
use Rattle.meaning.proofs.Signs.{every_sign}
use Rattle.meaning.proofs.Twins.{twins_named}
use Rattle.meaning.proofs.ThreePrinted.{bench}
use Rattle.meaning.proofs.ThreeDrawn.{picture_of_three}

-- ---- The check

-- A message with its check appended is taken for sealed, and nothing else is.
sealing : (m : List ℕ) → is_sealed (sealed m) ≡ true
sealing = is_sealed_of_sealed

sealing_only : (m : List ℕ) → is_sealed m ≡ true → m ≡ sealed (take (length m - 2) m)
sealing_only = sealed_of_is_sealed

-- The code goes by a table of 256 entries, a byte at a time. Every entry is what the annex's calculation makes of its place in eight steps, one for each bit;
-- and for every register and byte the step by the table is the annex's eight.
table_of_bytes : length table ≡ 256
table_of_bytes = table_length

table_entries : (i : ℕ) → i < length table → get_or table i 0 ≡ shifts 8 i
table_entries = table_rule

table_step : (x b : ℕ) → taken_by_table x b ≡ taken x b
table_step = taken_by_table_lem

-- The annex's receiver takes the check's two bytes into the register as well and looks for F0B8. In every message of bytes it finds that exactly if the last
-- two are the check of the rest.
receiving : (m : List ℕ) → Bytes m → is_sealed m ≡ eqb (register preset m) 0xf0b8
receiving = residue

-- A frame is sound exactly if it is a message with its check appended, of 4 to 64 bytes in all.
soundness : (m : List ℕ) → shortest ≤ length m + 2 → length m + 2 ≤ longest → is_sound (sealed m) ≡ true
soundness = sound_of_sealed

soundness_only : (frame : List ℕ) → is_sound frame ≡ true → Sound frame
soundness_only = sealed_of_sound

-- ---- Pulse tracks (demand 2: "frame to track and track to frame")

-- Decoding what was coded gives the frame and its coding back: wherever the coder answers a length n, the decoder reads the first n bytes that
-- it left as that frame in that coding.
decoding_what_was_coded : {frame : List ℕ} {coding : ℕ} {room : List ℕ} {n : ℕ} {track : List ℕ} → Codes frame coding room (pos n) track
    → {found : List ℕ} {r : ℤ} {left : List ℕ} → Bytes frame → longest ≤ length found → Decodes (take n track) found r left
    → (r ≡ told coding (length frame)) × (left ≡ over frame found)
decoding_what_was_coded = decode_of_code

-- Whatever bytes are read, the decoder has an answer: the frame whose track they are, the slot mark, or number 8 or 9.
reading_anything : (t found : List ℕ) → (r : ℤ) × (left : List ℕ) × Decodes t found r left
reading_anything = decode_answers

-- The slot mark is no frame's track.
mark_alone : (coding : ℕ) (frame : List ℕ) → track_of coding frame ≡ slot_mark → ⊥
mark_alone = mark_no_track

-- ---- The card (demand 2: "request to answer, next state and memory")

-- A call that is refused changes nothing: record, memory, lock bytes and room stay, and its number is told (demand 1).
a_refused_frame : (c : Card) (frame memory locks found : List ℕ) → (Accepted c memory locks found → ⊥)
    → frame_event c frame memory locks found ≡ unserved c memory locks found (refusal c (length memory) locks (length found))
a_refused_frame = frame_refused

a_refused_mark : (c : Card) (memory locks found : List ℕ) → (Accepted c memory locks found → ⊥)
    → mark_event c memory locks found ≡ unserved c memory locks found (refusal c (length memory) locks (length found))
a_refused_mark = mark_refused

a_refused_power_off : (c : Card) (memory locks found : List ℕ) → (Accepted c memory locks found → ⊥)
    → off_event c memory locks found ≡ unserved c memory locks found (refusal c (length memory) locks (length found))
a_refused_power_off = off_refused

-- A frame that is not sound gets silence, and the next state is fixed: sequence ended, held answer dropped, all else as found (demand 1).
a_damaged_frame : (c : Card) (frame memory locks found : List ℕ) → Accepted c memory locks found → is_sound frame ≡ false
    → ◌≡◌ {A = Outcome} (frame_event c frame memory locks found)
    (record { card = cleared c; memory = memory; locks = locks; answer = found; number = 0; told = 0 })
a_damaged_frame = frame_damaged

-- A card that is served is served again: whatever event it hears, numbers 1 to 4 accept what is left.
served_after_a_frame : (c : Card) (frame memory locks found : List ℕ) → Accepted c memory locks found → AcceptedNext (frame_event c frame memory locks found)
served_after_a_frame = frame_stays

served_after_a_mark : (c : Card) (memory locks found : List ℕ) → Accepted c memory locks found → AcceptedNext (mark_event c memory locks found)
served_after_a_mark = mark_stays

served_after_power_off : (c : Card) (memory locks found : List ℕ) → Accepted c memory locks found → AcceptedNext (off_event c memory locks found)
served_after_power_off = off_stays

-- So it is through any list of events, in any order. Such a list is lived event by event: one leaves what that event leaves, and the rest begins there.
served_through_a_life : (events : List Event) (t : Tag) → AcceptedTag t → AcceptedTag (lived events t)
served_through_a_life = lived_stays

a_life_of_one_event : (e : Event) (t : Tag) → lived (e ∷ []) t ≡ tag_after (met e t)
a_life_of_one_event = lived_one

a_life_in_parts : (events later : List Event) (t : Tag) → lived (events ++ later) t ≡ lived later (lived events t)
a_life_in_parts = lived_append

-- What an inventory frame does to a card is what it does to the record alone.
an_inventory_frame : (c : Card) (locks frame : List ℕ) → asks_inventory (flags_of (get_or frame 0 0)) ≡ true
    → decided c locks frame ≡ leaving (heard_inventory c frame)
an_inventory_frame = inventory_frame

-- Whatever frame arrives, what is decided stays within the card's blocks and within the frame; shape, UID and IC reference stay.
within_the_card : (card : Card) (locks frame : List ℕ) → DeedFits card frame (decided card locks frame)
within_the_card = decided_fits

-- ---- The card from C

-- A card that is written into its record of forty bytes is read back from it.
reading_what_was_written : (c : Card) (found : List ℕ) → length found ≡ 40 → Fits c → card_read (write_leaves c found) ≡ c
reading_what_was_written = read_of_write

-- After a call from C the record's bytes mean the card of the event's outcome, so that a call after a call is the card's event after its event.
reading_after_a_frame : (bytes frame memory locks found : List ℕ) → Bytes bytes
    → card_read (frame_call bytes frame memory locks found).bytes ≡ (frame_event (card_read bytes) frame memory locks found).card
reading_after_a_frame = frame_reads_back

reading_after_a_mark : (bytes memory locks found : List ℕ) → Bytes bytes
    → card_read (mark_call bytes memory locks found).bytes ≡ (mark_event (card_read bytes) memory locks found).card
reading_after_a_mark = mark_reads_back

reading_after_power_off : (bytes memory locks found : List ℕ) → Bytes bytes
    → card_read (off_call bytes memory locks found).bytes ≡ (off_event (card_read bytes) memory locks found).card
reading_after_power_off = off_reads_back

-- And they are bytes again, as many.
bytes_after_a_frame : (bytes frame memory locks found : List ℕ) → Bytes bytes → Bytes frame
    → Bytes (frame_call bytes frame memory locks found).bytes × (length (frame_call bytes frame memory locks found).bytes ≡ length bytes)
bytes_after_a_frame = frame_leaves_bytes

bytes_after_a_mark : (bytes memory locks found : List ℕ) → Bytes bytes
    → Bytes (mark_call bytes memory locks found).bytes × (length (mark_call bytes memory locks found).bytes ≡ length bytes)
bytes_after_a_mark = mark_leaves_bytes

bytes_after_power_off : (bytes memory locks found : List ℕ) → Bytes bytes
    → Bytes (off_call bytes memory locks found).bytes × (length (off_call bytes memory locks found).bytes ≡ length bytes)
bytes_after_power_off = off_leaves_bytes

-- ---- The reader: tool data on the rack screen

-- A request made here, served by a card, is read back as what the card holds. Any card whose record, memory, lock bytes and room are not refused, in any mode, with
-- anything running or held (`fits_card`); any request that 7 does not refuse, for 20, 21 and 23 of the card's block size; whatever the promises of `make` and of the card's call
-- allow (`Sent`). The card is silent exactly if it is not called or its answer is held. Else whatever the promise of `read` allows for its answer, into any two buffers with
-- room, shows the code that the rules page gives for the card and its lock bytes before the request, or what card, memory and lock bytes hold after it; and so
-- for a held answer at the slot mark that releases it. What the request does to the card is said too. All this is `Exchange`, crates/reader/specs/Exchange.antt with Shown.antt beside it.
an_exchange : (q : Request) (written : List ℕ) (c : Card) (memory locks found : List ℕ) → fits_card c memory locks found q
    → (r : Result Served Refusal) (memoryLeft locksLeft answer : List ℕ) → Sent q written c memory locks found r memoryLeft locksLeft answer
    → Exchange q written c memory locks r memoryLeft locksLeft answer
an_exchange = exchange

-- An error answer never shows data, whatever bytes arrive: anything but an error is read from flags 00 alone, and an error shows the byte after flags 01 and leaves
-- both buffers as they were.
an_error_shows_nothing : (q : Request) (answer blocks locks : List ℕ) (r : Result Reading Refusal) (blocksLeft locksLeft : List ℕ)
    → Reads (reading q answer blocks locks) r blocksLeft locksLeft → ErrorShowsNothing answer blocks locks r blocksLeft locksLeft
an_error_shows_nothing = error_shows_nothing

-- From C: where no data are read, of an error or of bytes that are refused, the information is all zeros too.
an_error_shows_c_nothing : (q : Request) (answer blocks locks : List ℕ) (r : Shown) (blocksLeft locksLeft : List ℕ)
    → ReadsByValue (reading q answer blocks locks) r blocksLeft locksLeft → shows_data (reading q answer blocks locks).reading ≡ false
    → (r.information ≡ no_information) × (blocksLeft ≡ blocks) × (locksLeft ≡ locks)
an_error_shows_c_nothing = error_shows_c_nothing

-- Where 7 and 8 do not refuse, bytes are read exactly if they are 01 and a code, sealed, or 00 and a part, sealed, of the length that the request earned, for 2B beginning
-- with 0F (`IsAnswer`); all else is number 11 and changes nothing.
an_answer_is_read : (q : Request) (answer blocks locks : List ℕ) → is_request q ≡ true → block_bytes q ≤ length blocks → lock_bytes q ≤ length locks
    → IsAnswer q answer → (reading q answer blocks locks).number ≡ 0
an_answer_is_read = read_of_answer

only_an_answer_is_read : (q : Request) (answer blocks locks : List ℕ) → is_request q ≡ true → block_bytes q ≤ length blocks → lock_bytes q ≤ length locks
    → (reading q answer blocks locks).number ≡ 0 → IsAnswer q answer
only_an_answer_is_read = answer_of_read

all_else_is_eleven : (q : Request) (answer blocks locks : List ℕ) → is_request q ≡ true → block_bytes q ≤ length blocks → lock_bytes q ≤ length locks
    → (IsAnswer q answer → ⊥) → reading q answer blocks locks ≡ outcome 11 None blocks locks
all_else_is_eleven = else_eleven

-- And as what they are read: a success as its part, and an error as its code.
a_success_is_its_part : (q : Request) → is_request q ≡ true → (blocks locks : List ℕ) → block_bytes q ≤ length blocks → lock_bytes q ≤ length locks
    → (part : List ℕ) → length part + 3 ≡ earned q → (q.command ≡ 0x2b → get_or part 0 0 ≡ 0x0f)
    → reading q (sealed (0x00 ∷ part)) blocks locks ≡ shown_in q part blocks locks
a_success_is_its_part = part_read

an_error_is_its_code : (q : Request) → is_request q ≡ true → (blocks locks : List ℕ) → block_bytes q ≤ length blocks → lock_bytes q ≤ length locks
    → (code : ℕ) → reading q (sealed (0x01 ∷ code ∷ [])) blocks locks ≡ outcome 0 (Some (Error code)) blocks locks
an_error_is_its_code = code_read

-- What was written comes back: 21, answered with success at once or at a slot mark, then 20 of that block, answered.
what_was_written : (w : Request) (written : List ℕ) (c : Card) (memory locks found : List ℕ) → fits_card c memory locks found w → w.command ≡ 0x21
    → (r : Result Served Refusal) (memoryLeft locksLeft answer : List ℕ) → Sent w written c memory locks found r memoryLeft locksLeft answer
    → (next : Card) (memoryNext locksNext : List ℕ) → Succeeds w c r memoryLeft locksLeft answer next memoryNext locksNext
    → Written w written memory locks next memoryNext locksNext
what_was_written = written_then_read

-- A request has 4 to 45 bytes and is sound; 45 is met.
a_request_has_4_bytes : (q : Request) (written : List ℕ) → 4 ≤ length (frame q written)
a_request_has_4_bytes = length_frame_least

a_request_has_45_bytes : (q : Request) (written : List ℕ) → is_request q ≡ true → data_fits q (length written) ≡ true → length (frame q written) ≤ 45
a_request_has_45_bytes = length_frame_most

a_request_is_sound : (q : Request) (written : List ℕ) → is_request q ≡ true → data_fits q (length written) ≡ true → is_sound (frame q written) ≡ true
a_request_is_sound = frame_sound

the_longest_request : (is_request longest_request ≡ true) × (data_fits longest_request (length (replicate {A = ℕ} 32 0)) ≡ true)
    × (length (frame longest_request (replicate 32 0)) ≡ 45)
the_longest_request = longest_made

-- ---- The walk

-- Whatever a walk hears from its start on, true or false (`Holds`): its record is always one that number 10 accepts, no UID is listed twice, each that is
-- listed begins with E0, while it runs its round count is that of the slots heard, and it has ended after 16 × 417 slots.
walking_over_any_replies : (family : ℕ) (list : List ℕ) (arrivals : List Arrival) → 64 ≤ length list
    → Holds (length arrivals) (heard_all arrivals (record { walk = started family; list = list }))
unfolding AnyReplies
walking_over_any_replies = walk_of_any_replies

-- A UID that is taken for clean fits the mask and the slot that it was heard in, and begins with E0 where the walk has fourteen levels (`FitsClean`).
clean_fits : (w : Walk) (k : Kind) (bytes : List ℕ) (u : ℕ) → judged w k bytes ≡ Clean u → FitsClean w u
clean_fits = judged_clean

-- ---- Demand 3

-- Any cards whose records, memory, lock bytes and room are not refused (`AllObey`), in any mode and with anything held or running; any family; a list
-- of 64 places or more; the UIDs of the cards that answer begin with E0, those of the others with anything. Each thing that a fresh walk sends reaches
-- every card, one reply arrives whole, two or more arrive as a clash. Then the walk ends within 16 × 417 slots. It ends complete exactly if at most 64
-- cards answer its family and no two of these share a UID; the list then holds each of them once and the walk counts as many; the round count is one more
-- than the number of tails of 1 to 13 digits that two or more of them share. Otherwise it ends twins, and then two that answer share a UID whose last
-- fourteen digits mask and slot tell, or full, and then more than 64 answer. Every card keeps all but its sequence and its held answer. All this is
-- `Demand3`, crates/field/specs/Demand.antt with Found.antt beside it.
demand_three : (family : ℕ) (tags : List Tag) (list room : List ℕ) → AllObey tags → BeginE0 (answering family tags) → 64 ≤ length list → 14 ≤ length room
    → Demand3 family tags (answering family tags) (played_for (16 * 417) (fresh family list room tags))
unfolding Demand3Always
demand_three = walk_of_a_field

-- What it says of the rounds, in demand 3's words: one more than the tails of 1 to 13 digits that two or more share.
rounds_and_tails : (us : List ℕ) (w : Walk) (list : List ℕ) → Found us w list → w.ending ≡ complete → w.rounds ≡ 1 + shared_tails us
rounds_and_tails = found_rounds

-- The round count is the count of rounds: after n slots a walk that still runs is in the round and in the slot that n gives.
counting_rounds : (family : ℕ) (tags : List Tag) (list room : List ℕ) → AllObey tags → 64 ≤ length list → 14 ≤ length room → (n : ℕ)
    → let w : Walk = (played_for n (fresh family list room tags)).walk in
    is_running w ≡ true → 16 * w.rounds + w.slot ≡ 16 + n
unfolding RoundsCounted
counting_rounds = rounds_of_a_field

-- And an ending, whichever it is, leaves the round count as that slot found it.
rounds_at_the_end : (family : ℕ) (tags : List Tag) (list room : List ℕ) → AllObey tags → 64 ≤ length list → 14 ≤ length room → (n : ℕ)
    → is_running (played_for (suc n) (fresh family list room tags)).walk ≡ false
    → (played_for (suc n) (fresh family list room tags)).walk.rounds ≡ (played_for n (fresh family list room tags)).walk.rounds
unfolding RoundsKept
rounds_at_the_end = rounds_after_a_field

-- ---- Fourteen levels in place of sixteen (02)

-- Two different UIDs that begin with E0 differ within their low 56 bits.
fifty_six_bits_tell : (u v : ℕ) → u / 2 ^ 56 ≡ 0xe0 → v / 2 ^ 56 ≡ 0xe0 → u % 2 ^ 56 ≡ v % 2 ^ 56 → u ≡ v
unfolding LowBitsTell
fifty_six_bits_tell = low_bits_tell

-- Two levels too many: 01's walk of sixteen levels over cards as in demand 3, those that answer having UIDs that begin with E0. If it ends complete, then
-- after every number of slots its level is 13 at the most: it never opens mask length 38 or 3C.
two_levels_never_opened : (family : ℕ) (tags : List Tag) (list room : List ℕ) → AllObey tags → BeginE0 (answering family tags) → 64 ≤ length list
    → 14 ≤ length room → (m : ℕ) → (played_for m (fresh_of 16 family list room tags)).walk.ending ≡ complete
    → (n : ℕ) → (played_for n (fresh_of 16 family list room tags)).walk.level ≤ 13
unfolding TwoLevelsTooMany
two_levels_never_opened = two_levels_too_many

-- Nothing is lost: the same cards under fourteen levels and under sixteen. One walk ends complete exactly if the other does; then both lists hold the same
-- UIDs, and the rounds are equal. With at most 64 answering the endings are always the same (`SameFound`).
nothing_is_lost : (family : ℕ) (tags : List Tag) (list room list' room' : List ℕ) → AllObey tags → BeginE0 (answering family tags)
    → 64 ≤ length list → 14 ≤ length room → 64 ≤ length list' → 14 ≤ length room'
    → SameFound (answering family tags) (played_for (16 * 417) (fresh family list room tags)) (played_for (16 * 481) (fresh_of 16 family list' room' tags))
unfolding NothingLost
nothing_is_lost = nothing_lost

-- Demand 3 without its premise, of cards whose UIDs begin with anything. The walk ends, never in overrun. If it ends complete, all cards that answer have
-- UIDs that begin with E0, and demand 3 holds of them: a tag with another first byte is never passed over in silence. If one with another first byte
-- answers, the walk ends twins or full, and always twins where at most 64 count, such a UID counting as two (`FoundAny`).
whatever_uids_begin_with : (family : ℕ) (tags : List Tag) (list room : List ℕ) → AllObey tags → 64 ≤ length list → 14 ≤ length room
    → let p : Play = played_for (16 * 417) (fresh family list room tags) in
    FoundAny (answering family tags) p.walk p.list
unfolding AnyUids
whatever_uids_begin_with = walk_of_any_uids

-- The walk of sixteen levels itself, whatever the UIDs begin with: demand 3 as 01 has it, with tails of 1 to 15 digits and 16 × 481 slots.
demand_three_of_sixteen_levels : (family : ℕ) (tags : List Tag) (list room : List ℕ) → AllObey tags → 64 ≤ length list → 14 ≤ length room
    → Demand3In 15 family tags (answering family tags) (played_for (16 * 481) (fresh_of 16 family list room tags))
unfolding SixteenLevels
demand_three_of_sixteen_levels = walk_of_sixteen_levels

-- ---- The cards that answer

-- The cards that answer a family are just those that are heard: a card in any state hears a fresh walk's request and then fifteen slot marks; it is
-- heard in one of these sixteen slots, that of its UID's lowest digit, if it answers, else in none.
cards_that_answer : (family : ℕ) (room : List ℕ) (t : Tag) → Obeys t → 14 ≤ length room → (s : ℕ) → s < 16
    → is_heard family room t s ≡ (answers family t.card && eqb (t.card.uid % 16) s)
unfolding HeardOnce
cards_that_answer = card_heard_once

-- Which these are, row by row of Table 1 of ISO/IEC 15693-3, for every card and all 256 asked bytes (02, a whole family of tools). Ready and
-- Selected cards listen, Quiet ones do not.
who_listens : (listens Ready ≡ true) × (listens Selected ≡ true) × (listens Quiet ≡ false)
who_listens = modes_heard

-- Asked 00: all that listen.
asked_00 : (c : Card) → answers 0x00 c ≡ listens c.mode
asked_00 = all_asked

-- Asked X0, X from 1 to F: those that listen and whose AFI has the high digit X.
asked_x0 : (x : ℕ) → 1 ≤ x → x ≤ 15 → (c : Card) → answers (16 * x) c ≡ (listens c.mode && eqb x (c.afi / 16))
asked_x0 = family_asked

-- Asked any other byte, whose low digit is not 0: those that listen and whose AFI is that byte.
asked_any_other : (asked : ℕ) → asked < 256 → 1 ≤ asked % 16 → (c : Card) → answers asked c ≡ (listens c.mode && eqb asked c.afi)
asked_any_other = only_asked

-- And where no family is asked, all that listen.
asked_none : (family : ℕ) → 256 ≤ family → (c : Card) → answers family c ≡ listens c.mode
asked_none = none_asked

-- On the card's event, with every lent byte: any request that names an AFI, for one slot or sixteen, with any radio bits and any mask (`Calling`), reaches a
-- card that is served, in any mode. It takes part exactly if it answers that AFI, else it is silent, with no sequence.
a_request_for_a_family : (q : Calling) (asked : ℕ) (c : Card) (memory locks found : List ℕ) → refusal c (length memory) locks (length found) ≡ 0
    → asked < 256
    → frame_event c (calling q asked) memory locks found ≡ cond (answers asked c) (took_part q c memory locks found) (passed_over c memory locks found)
a_request_for_a_family = family_requested

-- ---- Two racks, one list (02)

-- Demand 3 for a rack. Any cards that obey, any family, the UIDs of those that answer beginning with E0; any rows and marks that number 5 accepts (`Shareable`), the other rack owning 40 rows at the most; whatever walk stood
-- there. The rack is started, and then any events happen: slots of its own, played over its cards, and any calls with another number, of the other rack or of none, starts
-- and hearings over any record with any bytes, refused or not. After 16 × 417 of its own slots its walk has ended, never in overrun. Where at most 24 cards answer it ends
-- complete if no two share a UID, else in twins; complete, at most 40 answer, no two share a UID, the rows that it owns hold each once and the round count is demand 3's; twins,
-- two that answer share a UID; full, more than 24 answer. Every card keeps all but its sequence and its held answer. All this is `DemandOn`, crates/racks/specs/Rack.antt.
demand_three_for_a_rack : (rack family : ℕ) (w : Walk) (tags : List Tag) (l : OneList) (room : List ℕ) (events : List (Happening (Unit {0}) rack))
    → rack ≤ 1 → AllObey tags → BeginE0 (answering family tags) → Shareable l → owned (1 - rack) l ≤ 40 → 14 ≤ length room
    → 16 * 417 ≤ own_events events
    → DemandOn rack family tags (played_on rack events (started_on rack w family l room tags))
unfolding RackDemand3
demand_three_for_a_rack = demand_on_a_rack

-- Without the premise, of UIDs that begin with anything: complete tells that all that answer begin with E0, and demand 3 for a rack holds of them; where one does not, and at most 24
-- count, such a UID counting as two, the walk ends in twins (`FoundAnyOn`).
whatever_begins_on_a_rack : (rack family : ℕ) (w : Walk) (tags : List Tag) (l : OneList) (room : List ℕ) (events : List (Happening (Unit {0}) rack))
    → rack ≤ 1 → AllObey tags → Shareable l → owned (1 - rack) l ≤ 40 → 14 ≤ length room → 16 * 417 ≤ own_events events
    → let d : Desk = played_on rack events (started_on rack w family l room tags) in
    FoundAnyOn (answering family tags) d.walk (rows_of rack d.list)
unfolding RackAnyUids
whatever_begins_on_a_rack = any_uids_on_a_rack

-- It may end full from 25 on, alike UIDs or not: 25 different cards, and 27 of which two are alike, each with 40 rows of the other rack. Both are full with 24 listed.
a_rack_may_end_full : MayEndFull
a_rack_may_end_full = may_end_full

-- A hearing that is served ends full exactly if a clean UID arrives and the rack has 40 rows or no row is free.
full_on_a_rack : (w : Walk) (rack : ℕ) (kind : Kind) (bytes : List ℕ) (l : OneList) → shared.hear_refusal w rack (length l.rows) l.owners ≡ 0
    → FullExactly rack (judged w kind bytes) l (shared_hearing w rack kind bytes l.rows l.owners)
unfolding FullExactlyAlways
full_on_a_rack = full_exactly

-- The row that a UID takes was free, no lower one was, and nothing else of the list changes; where the call is refused, no clean UID arrives or there is no row for it, nothing does.
the_row_of_a_uid : (w : Walk) (rack : ℕ) (kind : Kind) (bytes : List ℕ) (l : OneList)
    → TheRow w rack kind bytes l (shared_hearing w rack kind bytes l.rows l.owners)
unfolding TheRowAlways
the_row_of_a_uid = the_row

-- A start that is served makes the walk fresh and each of the rack's marks free, and leaves every other mark, those from 64 on too.
starting_a_rack : (w : Walk) (rack family : ℕ) (owners : List ℕ) → start_refusal rack owners ≡ 0 → Frees rack family owners (starting w rack family owners)
unfolding StartFrees
starting_a_rack = start_frees

-- Whatever a call with another number does, a rack keeps its rows and their marks and gets none: its list stays.
the_other_rack_keeps : (rack s : ℕ) (call : Call) (l : OneList) → s ≤ 1 → (s ≡ rack → ⊥) → Keeps s l (list_after_call rack call l)
unfolding OtherKeeps
the_other_rack_keeps = other_keeps

-- After a hearing each call for the other rack is refused exactly as before.
refused_as_before_a_hearing : (w : Walk) (rack : ℕ) (kind : Kind) (bytes : List ℕ) (l : OneList) (s : ℕ) → (s ≡ rack → ⊥)
    → let h : SharedHearing = shared_hearing w rack kind bytes l.rows l.owners in
    ((v : Walk) → shared.hear_refusal v s (length h.rows) h.owners ≡ shared.hear_refusal v s (length l.rows) l.owners)
    × (start_refusal s h.owners ≡ start_refusal s l.owners)
unfolding RefusedAsBefore
refused_as_before_a_hearing = refused_as_before

-- After a start none is refused that was not before, and one that got 10 because the started rack owned over 40 rows is now served.
served_after_a_start : (w : Walk) (rack family : ℕ) (l : OneList) (s : ℕ) (v : Walk) → s ≤ 1 → rack ≤ 1 → (s ≡ rack → ⊥)
    → ServedAfterStart v s (length l.rows) l (starting w rack family l.owners).owners
unfolding ServedAfterStartAlways
served_after_a_start = served_after_start

-- Apart from the row chosen a hearing depends on the other rack only through the number of free rows: over two lists that number 5 accepts, with as many free rows and as many
-- own, it gives the same number and the same next walk, for every record and all bytes, and the rack's rows hold each UID as often, where they did before.
only_the_free_rows : (w : Walk) (rack : ℕ) (kind : Kind) (bytes : List ℕ) (l l' : OneList) → Alike rack l l'
    → SameHeard rack l l' (shared_hearing w rack kind bytes l.rows l.owners) (shared_hearing w rack kind bytes l'.rows l'.owners)
unfolding FreeRowsAlone
only_the_free_rows = free_rows_alone

-- Whatever a rack hears from its start on, true or false, and whatever calls for the other come in between: no UID stands twice among its rows, each of them
-- begins with E0, its hearing gives 0 while it runs and 6 after its ending, and it has ended after 16 × 417 of its slots.
a_rack_over_any_replies : (rack family : ℕ) (p : RackWalk) (events : List (Happening Arrival rack)) → rack ≤ 1 → Shareable p.list → owned (1 - rack) p.list ≤ 40
    → HoldsOn rack (own_events events) (happens_all rack events (fresh_on rack family p))
unfolding AnyRepliesOn
a_rack_over_any_replies = any_replies_on

-- Once both racks have been started, over any list that number 5 accepts, and each goes on with its own record, started anew as often as one likes: no start is refused, and no
-- hearing but after that walk's own ending. So no call of one rack makes 10 for the other.
both_racks_go_on : (family family' : ℕ) (p : TwoRacks) (moves : List Move) → Shareable p.list
    → BothGoOn (turned_all moves (turned 1 (starts family') (turned 0 (starts family) p)))
unfolding BothGoOnAlways
both_racks_go_on = both_go_on

-- And with any turns between the two starts, in either order, where the rack that is started later owned 40 rows at the most.
one_rack_joins_later : (family family' : ℕ) (p : TwoRacks) (between moves : List Move) → Shareable p.list
    → (owned 1 p.list ≤ 40 → BothGoOn (turned_all moves (turned 1 (starts family') (turned_all between (turned 0 (starts family) p)))))
    × (owned 0 p.list ≤ 40 → BothGoOn (turned_all moves (turned 0 (starts family) (turned_all between (turned 1 (starts family') p)))))
unfolding BothGoOnLater
one_rack_joins_later = both_go_on_later

-- The same UID heard by both takes a row in each.
a_row_in_each : (family family' : ℕ) (kind : Kind) (bytes rows : List ℕ) (u : ℕ) → 64 ≤ length rows
    → judged (started family) kind bytes ≡ Clean u → judged (started family') kind bytes ≡ Clean u
    → let h : SharedHearing = shared_hearing (started family) 0 kind bytes rows (replicate 64 255) in
    let k : SharedHearing = shared_hearing (started family') 1 kind bytes h.rows h.owners in
    let after : OneList = record { rows = k.rows; owners = k.owners } in
    (rows_of 0 after ≡ u ∷ []) × (rows_of 1 after ≡ u ∷ [])
unfolding OneRowEach
a_row_in_each = one_row_each

-- The numbers that the calls tell, in 02's own numbers and order; and a call that is refused leaves walk, rows and marks.
numbers_of_a_shared_list : SharedNumbers
numbers_of_a_shared_list = shared_numbers

-- ---- Answers on the coil (02, replies straight from the coil)

-- Every answer of 3 to 8,451 bytes is coded, where there is room for its track: two bytes for each of its own, and start and end.
coding_an_answer : (answer found : List ℕ) (r : ℤ) (left : List ℕ) → 3 ≤ length answer → length answer ≤ 8451 → 2 + 2 * length answer ≤ length found
    → CodesAnswer answer found r left → (r ≡ pos (2 + 2 * length answer)) × (left ≡ over (answer_track answer) found)
coding_an_answer = answer_coded

-- Decoding what was coded gives the answer back: wherever the coder of answers tells a length n, the decoder reads the first n bytes that it left, in any
-- room of 8,451 or more, as that answer, and leaves the bytes past it as found.
decoding_a_coded_answer : {answer room : List ℕ} {n : ℕ} {track : List ℕ} → CodesAnswer answer room (pos n) track
    → {found : List ℕ} {r : ℤ} {left : List ℕ} → Bytes answer → longest_answer ≤ length found → DecodesAnswer (take n track) found r left
    → (r ≡ pos (length answer)) × (left ≡ over answer found)
decoding_a_coded_answer = answer_of_code

-- What is read of any bytes, with such a room, is one of four (`TrackReads`): an answer, and the bytes are to the byte what the coder makes of it; a clash at
-- bit k: start, end and length are right, each pair before k is 10 or 01, pair k is 11; a loss at bit k, the same with 00; number 12, and start, end or
-- length is wrong. In the last three nothing is written.
what_the_coil_says : (t found : List ℕ) (r : ℤ) (left : List ℕ) → longest_answer ≤ length found → DecodesAnswer t found r left → Bytes t
    → TrackReads t found r left
what_the_coil_says = coil_read.what_is_read

-- And of what is read, the number that is told: an answer's length, 131,072 and the bit of a clash, 262,144 and that of a loss, or minus 12.
what_the_coil_tells : (t found : List ℕ) (r : ℤ) (left : List ℕ) → longest_answer ≤ length found → DecodesAnswer t found r left → Tells t found r left
what_the_coil_tells = coil_read.what_is_told

-- Answers laid over each other: identical ones are read as that answer; others of one length as a clash at the first bit in which they are not all alike,
-- and of any lengths as a clash. B8 stands last alone in all of these.
answers_overlaid : Overlays
answers_overlaid = overlays

-- So of any answers there arrives on the coil what "One reply arrives whole; two or more in a slot arrive as a clash." makes of the different ones.
what_arrives_on_the_coil : (rs : List (List ℕ)) → Answers rs → coil_air rs ≡ arrives (different_rows rs)
unfolding CoilArrives
what_arrives_on_the_coil = coil_arrives

-- What a program tells the walk by the decoder's number, bytes where it is from 0 to 131,071 and else a clash, is what was read. (A slot without pulses is
-- silent, and not decoded.)
what_the_walk_is_told : (t found : List ℕ) (r : ℤ) (left : List ℕ) → longest_answer ≤ length found → DecodesAnswer t found r left
    → heard_by r left ≡ heard_as (coil.reading t)
unfolding NumberHeard
what_the_walk_is_told = number_heard

-- Demand 3 on the coil, word for word, of the different answers, pairs of UID and DSFID, of the cards that answer the family: any cards as in demand 3 whose
-- DSFIDs are bytes, those that answer having UIDs that begin with E0. Each slot the answers of all cards that speak are coded, laid over each other and decoded, and the walk hears what comes of it.
demand_three_on_the_coil : (family : ℕ) (tags : List Tag) (list room : List ℕ) → AllObey tags → DsfidsFit tags → BeginE0 (answering family tags)
    → 64 ≤ length list → 14 ≤ length room
    → Demand3 family tags (uids_of (different_answers family tags)) (played_for_by coil_air (16 * 417) (fresh family list room tags))
unfolding CoilDemand3 on_coil_played
demand_three_on_the_coil = coil_demand3

-- Without the premise, of UIDs that begin with anything: as in 01's air, complete tells that all that answer begin with E0, and demand 3 holds of them.
whatever_begins_on_the_coil : (family : ℕ) (tags : List Tag) (list room : List ℕ) → AllObey tags → DsfidsFit tags → 64 ≤ length list → 14 ≤ length room
    → let p : Play = played_for_by coil_air (16 * 417) (fresh family list room tags) in
    FoundAny (uids_of (different_answers family tags)) p.walk p.list
unfolding CoilAnyUids on_coil_played
whatever_begins_on_the_coil = coil_any_uids

-- Each different answer is counted once: one that some card gives that answers the family stands once among them, any other not at all.
each_answer_once : EachOnce
each_answer_once = each_once

-- What twins means there: it ends so only if two cards that answer have one UID and different DSFIDs; with at most 64 different answers these always end it so,
-- and where there are none it ends complete. Cards alike in both do no harm.
twins_on_the_coil : (family : ℕ) (tags : List Tag) (list room : List ℕ) → AllObey tags → DsfidsFit tags → BeginE0 (answering family tags)
    → 64 ≤ length list → 14 ≤ length room → TwinsMean family tags (played_for_by coil_air (16 * 417) (fresh family list room tags)).walk
unfolding CoilTwins on_coil_played
twins_on_the_coil = coil_twins

-- ---- The bench

-- Demand 3 for the bench's row: what a walk that has ended over the cards of given UIDs, all beginning with E0, says of these.
the_end_of_a_walk : (us : List ℕ) → BeginE0 us → Meaning us (ended us)
unfolding MeaningAlways
the_end_of_a_walk = bench_meets_demand3

-- Reading byte by byte finds the first wrong line of an input, or, where there is none, its UIDs.
what_is_read : (input : List ℕ) → reading.Reads input (read_from fresh_lines input)
what_is_read = reads_input

-- Every UID of an input with no wrong line begins with E0.
every_line_begins_with_e0 : (input : List ℕ) → bad_line input ≡ 0 → BeginE0 (uids input)
every_line_begins_with_e0 = input_begins

-- What the bench prints for an input with no wrong line is the report of a walk's end, and demand 3 holds of that end and of the input's UIDs.
what_is_printed : (input : List ℕ) → bad_line input ≡ 0 → (printed input ≡ report (ended (uids input))) × Meaning (uids input) (ended (uids input))
what_is_printed = printed_meets_demand3

-- No input needs more to be read than its first 1,701 bytes.
the_start_is_enough : (k : ℕ) (input : List ℕ) → 1701 ≤ k → printed (take k input) ≡ printed input
the_start_is_enough = printed_of_start

-- ---- The picture

-- Each sign of the picture says what the walk makes of the slot, silent, clean or clash, and how many of the input's UIDs the slot calls.
what_is_drawn : (us : List ℕ) → BeginE0 us → (n : ℕ)
    → is_running (row.played_for n (record { desk = fresh_desk; row = cards_of us })).desk.walk ≡ true
    → Signs us (row.played_for n (record { desk = fresh_desk; row = cards_of us }))
unfolding SignsAlways
what_is_drawn = every_sign

-- Where the walk ends in twins, the line of twins shows the sixteen digits of a UID that stands twice in the input (`TwinsShown`).
the_twins_line : (us : List ℕ) → BeginE0 us → (ended us).walk.ending ≡ twins → TwinsShown us
unfolding TwinsNamed
the_twins_line = twins_named

-- No input needs more to be read than its first 1,701 bytes.
the_start_is_drawn : (k : ℕ) (input : List ℕ) → 1701 ≤ k → pictured (take k input) ≡ pictured input
the_start_is_drawn = pictured_of_start

-- The field of three, drawn.
three_drawn : ThreeDrawn
three_drawn = picture_of_three

-- ---- Text

-- The row of hexadecimal pairs for bytes is a row, and stands for them.
a_row_is_put : (bytes : List ℕ) → is_row (row_text bytes) ≡ true
a_row_is_put = row_of_bytes

a_row_is_read : (bytes : List ℕ) → Bytes bytes → row_bytes (row_text bytes) ≡ bytes
a_row_is_read = bytes_of_row

-- No other row does.
one_row : (row : List ℕ) → is_row row ≡ true → row_text (row_bytes row) ≡ row
one_row = row_of_its_bytes

-- A number in decimal is written in digits, with no 0 (0x30) in front unless it is 0, and stands for the number.
a_number_is_put : (n : ℕ) → is_decimal (decimal n) ≡ true
a_number_is_put = decimal_of_number

a_number_is_short : (n : ℕ) → 0 < n → 0x30 < get_or (decimal n) 0 0
a_number_is_short = decimal_front

zero_is_put : decimal 0 ≡ 0x30 ∷ []
zero_is_put = decimal_zero

a_number_is_read : (n : ℕ) → decimal_value (decimal n) ≡ n
a_number_is_read = number_of_decimal

-- No other text of digits does that has no 0 in front.
one_number : (text : List ℕ) → is_decimal text ≡ true → 0x30 < get_or text 0 0 → decimal (decimal_value text) ≡ text
one_number = decimal_of_its_number

-- ---- The examples of the rules page and of 02, under a single statement

record Examples : Type 0 where
  of_checks : Checks
  of_tracks : Tracks
  of_coil : Coil
  of_cards : CardExamples
  of_walks : Walks
  of_three : FieldOfThree
  of_families : Families
  of_coil_fields : CoilFields
  of_bench : Bench

examples : Examples
examples =
    record {
      of_checks = checks;
      of_tracks = tracks;
      of_coil = coil_examples.coil;
      of_cards = card_examples;
      of_walks = walks;
      of_three = field_of_three;
      of_families = families;
      of_coil_fields = coil_fields;
      of_bench = bench;
    }
