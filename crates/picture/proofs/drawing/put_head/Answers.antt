-- `picture::drawing::put_head` meets its contract: nothing, or a number, a tail and a space one after the other (Adding.antt). Assumes nothing.
use mathlib.Core.Path.{◌≡◌}
use native.Mathlib.Omega.{arith}
use borrow.Author.Rules.{rules}
use lib.ListN.{length}
use Rattle.walk.specs.Marks.{levels}
use Rattle.walk.proofs.Limits.{accepted_of_is_accepted}
use Rattle.digits.proofs.Put.{put_can, put_at}
use Rattle.picture.proofs.Pieces.{length_tail}
use Rattle.picture.proofs.Lengths.{within_accepted}
use Rattle.picture.proofs.Adding.{head_none, head_puts}
use Rattle.picture.proofs.drawing.put_head.Goals as goal

pub returns-then-walk-ne0 : goal.returns-then-walk-ne0
returns-then-walk-ne0 c = head_none _ _ _ c.if-walk-ne0.true

pub round-number-requires : goal.round-number-requires
unfolding levels
round-number-requires c =
    let start = c in
    let long : length start.args.walk.marks ≡ levels = search (rules, start.well_formed) in
    omega (arith, (within_accepted (accepted_of_is_accepted _ start.requires.walk_value) (omega (arith, long))).rounds)

pub unwrap-place-requires : goal.unwrap-place-requires
unwrap-place-requires c = put_can _ c.put_bytes.ensures (omega arith)

pub put_tail-next-requires : goal.put_tail-next-requires
unfolding levels
put_tail-next-requires c =
    let start = c in
    let long : length start.args.walk.marks ≡ levels = search (rules, start.well_formed) in
    record {
      level_bound = omega (arith, (within_accepted (accepted_of_is_accepted _ start.requires.walk_value) (omega (arith, long))).level);
      at_in_bounds =
          omega (arith, (put_at _ _ c.put_bytes.ensures (omega arith) c.unwrap-place.ensures).next, start.requires.at_in_bounds);
    }

pub unwrap-requires : goal.unwrap-requires
unfolding levels
unwrap-requires c =
    let start = c in
    let walk = start.args.walk in
    let long : length walk.marks ≡ levels = search (rules, start.well_formed) in
    let level = (within_accepted (accepted_of_is_accepted _ start.requires.walk_value) (omega (arith, long))).level in
    let digits = length_tail walk.level c.mask.result (omega (arith, level)) in
    let number = put_at _ _ c.put_bytes.ensures (omega arith) c.unwrap-place.ensures in
    let tail = rw c.from-2.ensures at c.put_tail-next.ensures in
    put_can _ c.put_bytes-2.ensures (omega (arith, digits, tail.next, number.next, start.requires.at_in_bounds))

pub returns : goal.returns
unfolding levels
returns c =
    let walk = c.args.walk in
    let pre = c.requires in
    let number = put_at _ _ c.put_bytes.ensures (omega arith) c.unwrap-place.ensures in
    let mask = c.mask in
    let good = c.well_formed in
    let long : length walk.marks ≡ levels = search (rules, good) in
    let level = (within_accepted (accepted_of_is_accepted _ pre.walk_value) (omega (arith, long))).level in
    let digits = length_tail walk.level mask.result (omega (arith, level)) in
    let tail = rw c.from-2.ensures at c.put_tail-next.ensures in
    let space = put_at _ _ c.put_bytes-2.ensures (omega (arith, digits, tail.next, number.next, pre.at_in_bounds)) c.unwrap.ensures in
    head_puts walk c.if-walk-ne0.false (rw c.from.ensures at c.round-number.ensures) mask.ensures number tail space
    (omega (arith, number.next, tail.next, space.next, digits, pre.at_in_bounds))
