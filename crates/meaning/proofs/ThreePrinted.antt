-- 01's bench field: what is printed for the page's three lines is the page's printed text, byte for byte, with and without the last 0A. The bench's
-- walk is that of a field, which ends complete after 2 rounds, 05, 11 and 21 listed. Assumes nothing.
use mathlib.Core.Path.{◌≡◌, refl, sym, ap, subst, ◌∙◌}
use Prim.Native.Nat.{ℕ, ◌*◌}
use native.Mathlib.Omega.{arith}
use mathlib.Core.List.{List, [], ◌∷◌, ◌++◌}
use lib.ListN.{take}
use Rattle.walk.specs.declared.Walk.{Walk}
use Rattle.field.specs.Played.{Play}
use Rattle.field.specs.Played as field
use Rattle.field.specs.Found.{BeginE0, listed}
use Rattle.field.specs.Examples.{three, three_end}
use Rattle.field.proofs.Examples.{field_of_three}
use Rattle.row.specs.Row.{Played, no_bytes}
use Rattle.walk.specs.Marks.{levels}
use Rattle.walk.specs.Record.{most_rounds, most_slots}
use Rattle.row.specs.Play.{no_uids, ended}
use Rattle.lines.specs.Examples.{three_lines}
use Rattle.lines.proofs.Examples.{ThreeRead, three_read, three_read_ended}
use Rattle.digits.specs.Digits.{digit, hex_digits}
use Rattle.digits.specs.Decimal.{decimal_of, decimal}
use Rattle.report.specs.Output.{word, uid_lines, verdict_line, heading, report}
use Rattle.report.specs.Bench.{printed}
use Rattle.meaning.specs.Examples.{three_printed, Bench}
use Rattle.meaning.proofs.SlotsAlike.{bench_of}
use Rattle.meaning.proofs.Printed.{input_begins}
use Rattle.meaning.proofs.Bench.{tags_of, tags_obey, tags_answer, fresh_field, bench_is_a_field}

pub three_begin : BeginE0 three
three_begin = subst (λ (us : List ℕ). BeginE0 us) three_read.same (input_begins three_lines three_read.fine)

-- ---- the report of the field's walk

report_three : (list : List ℕ) → take 3 list ≡ 0xe004010000000005 ∷ 0xe004010000000011 ∷ 0xe004010000000021 ∷ []
    → report (record { walk = three_end 256; list = list }) ≡ three_printed
unfolding report heading verdict_line word decimal decimal_of digit hex_digits uid_lines
report_three list e = rw e refl

report_played : (p : Play) → p.walk ≡ three_end 256 → listed p.walk p.list ≡ 0xe004010000000005 ∷ 0xe004010000000011 ∷ 0xe004010000000021 ∷ []
    → report (bench_of p).desk ≡ three_printed
unfolding bench_of listed
report_played p ends lists =
    ap (λ (w : Walk). report (record { walk = w; list = p.list })) ends
    ∙ report_three p.list (ap (λ (w : Walk). take w.count p.list) (sym ends) ∙ lists)

report_field : report (bench_of (field.played_for (16 * 417) (fresh_field three))).desk ≡ three_printed
unfolding fresh_field no_uids no_bytes
report_field =
    report_played (field.played_for (16 * 417) (fresh_field three))
    (field_of_three.ends 256 (tags_of three) no_uids no_bytes (tags_obey three three_begin) (omega arith) (omega arith) (tags_answer three))
    (field_of_three.lists 256 (tags_of three) no_uids no_bytes (tags_obey three three_begin) (omega arith) (omega arith) (tags_answer three))

report_ended : report (ended three) ≡ three_printed
unfolding ended most_slots most_rounds levels
report_ended = ap (λ (q : Played). report q.desk) (bench_is_a_field three three_begin (16 * 417)) ∙ report_field

-- ---- what is printed

printed_three : (input : List ℕ) → ThreeRead input → printed input ≡ three_printed
unfolding printed
printed_three input read = rw (read.fine, read.same) report_ended

pub bench : Bench
bench = record { prints = printed_three three_lines three_read; prints_ended = printed_three (three_lines ++ 0x0a ∷ []) three_read_ended }
