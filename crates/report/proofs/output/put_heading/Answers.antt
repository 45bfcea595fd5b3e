-- `report::output::put_heading` meets its contract: three lines, placed one after the other (Printed.antt). Assumes nothing.
use borrow.Author.Rules.{rules}
use mathlib.Core.Path.{◌≡◌}
use Prim.Native.Nat.{◌≤◌}
use native.Mathlib.Omega.{arith}
use lib.ListN.{length}
use Rattle.walk.specs.Marks.{levels}
use Rattle.walk.proofs.Limits.{accepted_of_is_accepted, rounds_most}
use Rattle.report.proofs.Printed.{puts_heading}
use Rattle.report.proofs.output.put_heading.Goals as goal

pub put_named-next-requires-clause-n_bound : goal.put_named-next-requires-clause-n_bound
unfolding levels
put_named-next-requires-clause-n_bound c =
    let long : length c.args.walk.now.marks ≡ levels = search (rules, c.well_formed) in
    omega (arith, c.from.ensures, rounds_most (accepted_of_is_accepted _ c.requires.walk_value) (omega (arith, long)))

pub put_named-requires-clause-n_bound : goal.put_named-requires-clause-n_bound
put_named-requires-clause-n_bound c = omega (arith, c.from-2.ensures, (accepted_of_is_accepted _ c.requires.walk_value).count)

pub returns : goal.returns
returns c =
    let verdict = c.put_verdict-at.ensures in
    let rounds = c.put_named-next.ensures in
    let cards = c.put_named.ensures in
    let most : c.put_named.result ≤ 37 = omega (arith, verdict.upper_bound, rounds.upper_bound, cards.upper_bound) in
    record {
      puts_at =
          puts_heading c.args.walk.now verdict.puts_at (rw c.from.ensures at rounds.puts_at) (rw c.from-2.ensures at cards.puts_at)
          (omega (arith, c.requires.in_bounds, most));
      upper_bound = most;
    }
