-- `report::bench::bench` meets its contract: refused, a complaint, or a report, each by its own law (BenchWays.antt). Assumes nothing.
use native.Mathlib.Omega.{arith}
use Rattle.lines.proofs.Reading.{bad_of_read}
use Rattle.row.proofs.Accepted.{ended_accepted}
use Rattle.report.proofs.BenchWays.{prints_short, prints_wrong, prints_report}
use Rattle.report.proofs.bench.bench.Goals as goal

pub returns-then-out-lt-MOST_PRINTED : goal.returns-then-out-lt-MOST_PRINTED
returns-then-out-lt-MOST_PRINTED c = prints_short _ _ (omega arith)

pub put_complaint-requires : goal.put_complaint-requires
put_complaint-requires c = record { n_bound = omega (arith, bad_of_read _ _ c.read-lines.ensures); in_bounds = omega arith }

pub returns-then-lines-ne0 : goal.returns-then-lines-ne0
returns-then-lines-ne0 c =
    prints_wrong _ _ _ c.read-lines.result _ c.read-lines.ensures c.if-lines-ne0.true (omega arith) c.put_complaint.ensures

pub put_report-requires : goal.put_report-requires
put_report-requires c = record { walk_value = rw c.play.ensures (ended_accepted _); in_bounds = omega arith }

pub returns : goal.returns
returns c =
    prints_report _ _ _ c.read-lines.result _ _ c.read-lines.ensures c.if-lines-ne0.false c.play.ensures (omega arith) c.put_report.ensures
