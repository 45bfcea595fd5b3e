-- `tracks::decoder::lone_at` meets its contract: by the first byte that is not 00, and the bytes past it. Assumes nothing.
use mathlib.Core.Path.{sym, ap}
use Prim.Native.Nat.{◌+◌, ◌*◌, ◌<◌}
use mathlib.Core.Bool.{and-eq-true_iff}
use borrow.Author.Tests.{ltb-true}
use native.Mathlib.Omega.{arith}
use Rattle.tracks.specs.Steps.{byte_or_none}
use Rattle.tracks.proofs.Reading.{lone_blank, lone_at, some_byte}
use Rattle.tracks.proofs.decoder.lone_at.Goals as goal

pub returns-then-place-ge64 : goal.returns-then-place-ge64
unfolding byte_or_none
returns-then-place-ge64 c = ap byte_or_none (lone_blank c.args.track.now c.args.at c.requires (rw c.zeros_at-place.ensures at c.if-place-ge64.true))

pub returns-then-pair-zeros_at : goal.returns-then-pair-zeros_at
returns-then-pair-zeros_at c =
    let zeros-at = c.zeros_at-place in
    let found = lone_at c.args.track.now c.args.at c.requires zeros-at.result zeros-at.ensures c.if-place-ge64.false in
    let pair : c.pair_of-pair.result < 4 = ltb-true _ 4 ((and-eq-true_iff _ _).0 c.if-pair-zeros_at.true).0 in
    rw (found, ← c.zeros_at.ensures, ← c.pair_of-pair.ensures, c.if-pair-zeros_at.true) (sym (some_byte (4 * zeros-at.result + c.pair_of-pair.result) (omega arith)))

pub returns-else-pair-zeros_at : goal.returns-else-pair-zeros_at
unfolding byte_or_none
returns-else-pair-zeros_at c =
    let zeros-at = c.zeros_at-place in
    let found = lone_at c.args.track.now c.args.at c.requires zeros-at.result zeros-at.ensures c.if-place-ge64.false in
    rw (found, ← c.zeros_at.ensures, ← c.pair_of-pair.ensures, c.if-pair-zeros_at.false)
