-- `picture::drawing::put_twins` meets its contract: nothing, or a word, a UID and the line's end one after the other (Adding.antt). Assumes nothing.
use mathlib.Core.Path.{◌≡◌, refl}
use native.Mathlib.Omega.{arith}
use borrow.Author.Rules.{rules}
use lib.ListN.{length}
use Rattle.walk.specs.Marks.{levels}
use Rattle.digits.proofs.Digits.{length_hex_digits}
use Rattle.digits.proofs.Put.{put_can, put_at}
use Rattle.picture.specs.Drawn.{twins_uid}
use Rattle.picture.proofs.Adding.{digits_above, twins_none, twins_puts}
use Rattle.picture.proofs.drawing.put_twins.Goals as goal

pub returns-then-walk-ne2 : goal.returns-then-walk-ne2
returns-then-walk-ne2 c = twins_none _ _ _ c.if-walk-ne2.true

pub overflow_add-uid : goal.overflow_add-uid
unfolding levels twins_uid
overflow_add-uid c =
    let start = c in
    let long : length start.args.desk.walk.marks ≡ levels = search (rules, start.well_formed) in
    let above = digits_above start.args.desk.walk start.requires.walk_value (omega (arith, long)) in
    rw (c.from.ensures, above.shifted) (omega (arith, above.fits))

pub overflow_add-uid-2 : goal.overflow_add-uid-2
unfolding levels twins_uid
overflow_add-uid-2 c =
    let start = c in
    let long : length start.args.desk.walk.marks ≡ levels = search (rules, start.well_formed) in
    let above = digits_above start.args.desk.walk start.requires.walk_value (omega (arith, long)) in
    rw (c.from.ensures, above.shifted, c.mask.ensures) (omega (arith, above.fits))

pub unwrap-place-requires : goal.unwrap-place-requires
unwrap-place-requires c = put_can _ c.put_bytes.ensures (omega arith)

pub unwrap-next-requires : goal.unwrap-next-requires
unwrap-next-requires c =
    let put = put_at _ _ c.put_bytes.ensures (omega arith) c.unwrap-place.ensures in
    put_can _ c.put_digits.ensures (rw length_hex_digits (omega (arith, put.next, c.requires.at_in_bounds)))

pub unwrap-requires : goal.unwrap-requires
unwrap-requires c =
    let put = put_at _ _ c.put_bytes.ensures (omega arith) c.unwrap-place.ensures in
    let digits = put_at _ _ c.put_digits.ensures (rw length_hex_digits (omega (arith, put.next, c.requires.at_in_bounds))) c.unwrap-next.ensures in
    put_can _ c.put_bytes-2.ensures (omega (arith, rw length_hex_digits at digits.next, put.next, c.requires.at_in_bounds))

pub returns : goal.returns
unfolding levels twins_uid
returns c =
    let start = c in
    let long : length start.args.desk.walk.marks ≡ levels = search (rules, start.well_formed) in
    let above = digits_above start.args.desk.walk start.requires.walk_value (omega (arith, long)) in
    let put = put_at _ _ c.put_bytes.ensures (omega arith) c.unwrap-place.ensures in
    let mask = c.mask in
    let digits = put_at _ _ c.put_digits.ensures (rw length_hex_digits (omega (arith, put.next, c.requires.at_in_bounds))) c.unwrap-next.ensures in
    let places = rw length_hex_digits at digits.next in
    let line-end = put_at _ _ c.put_bytes-2.ensures (omega (arith, places, put.next, c.requires.at_in_bounds)) c.unwrap.ensures in
    twins_puts _ c.if-walk-ne2.false (rw (c.from.ensures, above.shifted, mask.ensures) refl) put digits line-end
    (omega (arith, put.next, line-end.next, places, start.requires.at_in_bounds))
