-- The ways out of the bench: room short, a wrong line, the report. By what reading finds.
-- Assumes nothing.
use mathlib.Core.Path.{◌≡◌, ap, ◌∙◌}
use mathlib.Core.List.{List}
use Prim.Native.Nat.{ℕ, ◌≤◌, ◌<◌}
use borrow.Author.Tests.{lt-leb, le-leb, eq-eqb, ne_eqb}
use lib.IntN.{pos}
use lib.ListN.{length, take}
use Rattle.std.specs.Prelude.{Ok, Err}
use Rattle.refusals.specs.declared.Refusal.TheVariants.{Room}
use Rattle.refusals.specs.Number.{number, number_back}
use Rattle.lent.specs.Puts.{Puts}
use Rattle.row.specs.declared.Desk.{Desk}
use Rattle.row.specs.Play.{ended}
use Rattle.lines.specs.declared.Lines.{Lines}
use Rattle.lines.specs.Lines.{fresh_lines, read_from, Reads}
use Rattle.lines.proofs.Reading.{reads_of_read}
use Rattle.report.specs.Output.{report, complaint}
use Rattle.report.specs.Bench.{printed, most_printed, bench_answer, bench_leaves, Prints}

-- what is printed of the lines that were read is what is printed of the input
printed_wrong : (input : List ℕ) (s : Lines) → Reads input s → (s.bad ≡ 0 → ⊥) → complaint s.bad ≡ printed input
unfolding printed
printed_wrong input s found bad = rw (← found.bad, ne_eqb s.bad 0 bad)

printed_fine : (input : List ℕ) (s : Lines) → Reads input s → s.bad ≡ 0 → report (ended (take s.count s.uids)) ≡ printed input
unfolding printed
printed_fine input s found fine = rw (← found.bad, eq-eqb s.bad 0 fine, found.listed fine)

-- ---- the ways out

pub prints_short : (input room : List ℕ) → length room < 1200 → Prints input room (number_back (Err Room)) room
unfolding bench_answer bench_leaves most_printed number_back number
prints_short input room h = record { answer = rw (lt-leb 1200 (length room) h); leaves = rw (lt-leb 1200 (length room) h) }

prints_all : (input bytes room left : List ℕ) (n : ℕ) → bytes ≡ printed input → 1200 ≤ length room → Puts bytes room n left
    → Prints input room (number_back (Ok n)) left
unfolding bench_answer bench_leaves most_printed number_back
prints_all input bytes room left n same h p =
    record {
      answer = rw (le-leb 1200 (length room) h, ← same) (ap pos p.count);
      leaves = rw (le-leb 1200 (length room) h, ← same) p.leaves;
    }

pub prints_wrong : (input room left : List ℕ) (s : Lines) (n : ℕ) → s ≡ read_from fresh_lines input → (s.bad ≡ 0 → ⊥) → 1200 ≤ length room
    → Puts (complaint s.bad) room n left → Prints input room (number_back (Ok n)) left
prints_wrong input room left s n is bad h p =
    prints_all input (complaint s.bad) room left n (printed_wrong input s (reads_of_read input s is) bad) h p

pub prints_report : (input room left : List ℕ) (s : Lines) (d : Desk) (n : ℕ) → s ≡ read_from fresh_lines input → s.bad ≡ 0
    → d ≡ ended (take s.count s.uids) → 1200 ≤ length room → Puts (report d) room n left → Prints input room (number_back (Ok n)) left
prints_report input room left s d n is fine ends h p =
    prints_all input (report d) room left n (ap report ends ∙ printed_fine input s (reads_of_read input s is) fine) h p
