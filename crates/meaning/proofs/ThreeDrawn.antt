-- 01's bench field, drawn: for the page's three lines the heading, two rounds and the page's printed text, byte for byte. The walk is worked out over
-- the UIDs alone. Assumes nothing.
use mathlib.Core.Path.{◌≡◌, refl, ap, ◌∙◌}
use Prim.Native.Nat.{◌*◌}
use native.Mathlib.Omega.{arith}
use mathlib.Core.List.{[], ◌++◌, append-nil}
use Rattle.tails.specs.Tails.{ending}
use Rattle.walk.specs.Marks.{levels, waits, with_mark, without_mark, lowest_from, lowest, deepest_of, deepest}
use Rattle.walk.specs.Record as walk
use Rattle.walk.specs.Record.{places, levels_of, most_rounds, most_slots, mask_length, whole_mask, low_half, high_half, is_running, remade, counted, marked, at_next_slot, opened_mask, opened_at, opened, no_marks, started_of, started}
use Rattle.walk.specs.Hear.{has_place, ends_at_once, noted, list_noted, turned, passed, walk_after, list_after}
use Rattle.field.proofs.Called.{called, slot_of}
use Rattle.field.proofs.Stood.{stood}
use Rattle.field.specs.Examples.{three, three_end}
use Rattle.field.proofs.Examples.{field_of_three}
use Rattle.row.specs.Row.{Played, no_bytes}
use Rattle.row.specs.Play.{no_uids, ended}
use Rattle.lines.proofs.Examples.{three_read}
use Rattle.digits.specs.Digits.{digit, hex_digits}
use Rattle.digits.specs.Decimal.{decimal_of, decimal}
use Rattle.picture.specs.Drawn.{round_shown, tail_shown, line_head, heading, twins_line, drawn, pictured}
use Rattle.meaning.specs.Signs.{sign_for}
use Rattle.meaning.specs.Examples.{three_drawn, ThreeDrawn}
use Rattle.meaning.proofs.SlotsAlike.{bench_of}
use Rattle.meaning.proofs.Bench.{tags_of, tags_obey, tags_answer, fresh_field, bench_is_a_field}
use Rattle.meaning.proofs.ThreePrinted.{three_begin, bench}
use Rattle.meaning.proofs.OverUids.{signed, over_uids, bench_drawn}

three_over : heading ++ over_uids three (most_slots levels) (record { walk = started 256; list = no_uids }) ≡ three_drawn
unfolding heading most_slots over_uids signed sign_for line_head round_shown tail_shown decimal decimal_of digit hex_digits stood is_running started started_of no_marks no_uids walk_after list_after has_place ends_at_once noted list_noted passed turned walk.ended counted marked at_next_slot opened opened_at remade opened_mask whole_mask low_half high_half mask_length with_mark without_mark waits lowest lowest_from deepest deepest_of levels levels_of places most_rounds called ending slot_of
three_over = refl

-- ---- the end of the walk

three_ends : (ended three).walk ≡ three_end 256
unfolding ended most_slots most_rounds levels bench_of fresh_field no_uids no_bytes
three_ends =
    ap (λ (p : Played). p.desk.walk) (bench_is_a_field three three_begin (16 * 417))
    ∙ field_of_three.ends 256 (tags_of three) no_uids no_bytes (tags_obey three three_begin) (omega arith) (omega arith) (tags_answer three)

no_twins : twins_line (ended three) ≡ []
unfolding twins_line
no_twins = rw three_ends refl

-- ---- the picture

three_drawn_lem : drawn three ≡ three_drawn
unfolding drawn
three_drawn_lem = rw (no_twins, append-nil, bench_drawn three three_begin (most_slots levels)) three_over

pub picture_of_three : ThreeDrawn
unfolding pictured
picture_of_three = record { draws = rw (three_read.fine, three_read.same, three_drawn_lem, bench.prints) refl }
