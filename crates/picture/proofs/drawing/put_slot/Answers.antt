-- `picture::drawing::put_slot` meets its contract: a head and a sign one after the other (Adding.antt). Assumes nothing.
use mathlib.Core.Path.{◌≡◌}
use native.Mathlib.Omega.{arith}
use borrow.Author.Rules.{rules}
use lib.ListN.{length}
use Rattle.walk.specs.Marks.{levels}
use Rattle.walk.proofs.Limits.{accepted_of_is_accepted}
use Rattle.picture.proofs.Adding.{slot_puts}
use Rattle.picture.proofs.Lengths.{within_accepted, head_most}
use Rattle.picture.proofs.drawing.put_slot.Goals as goal

pub put_sign-requires : goal.put_sign-requires
unfolding levels
put_sign-requires c =
    let start = c in
    let long : length start.args.walk.marks ≡ levels = search (rules, start.well_formed) in
    let few = head_most start.args.walk (within_accepted (accepted_of_is_accepted _ start.requires.walk_value) (omega (arith, long))) in
    let put-head = c.put_head-place in
    omega (arith, put-head.ensures.next, few)

pub returns : goal.returns
unfolding levels
returns c =
    let start = c in
    let long : length start.args.walk.marks ≡ levels = search (rules, start.well_formed) in
    let few = head_most start.args.walk (within_accepted (accepted_of_is_accepted _ start.requires.walk_value) (omega (arith, long))) in
    let put-head = c.put_head-place in
    let sign = c.sign in
    let ends-line = c.ends_line in
    let put-sign = c.put_sign in
    slot_puts _ _ _ sign.ensures ends-line.ensures put-head.ensures put-sign.ensures
    (omega (arith, put-head.ensures.next, few))
