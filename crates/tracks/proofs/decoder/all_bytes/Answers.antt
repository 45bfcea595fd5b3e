-- `tracks::decoder::all_bytes` meets its contract. The loop's invariant: the units left are bytes exactly if all are. Assumes nothing.
use Prim.Native.Nat.{ℕ, ◌+◌, ◌*◌}
use borrow.Author.Tests.{lt-ltb, le-ltb}
use lib.ListN.{take, drop}
use Rattle.tracks.specs.Steps.{byte_of}
use Rattle.tracks.specs.Track.{unit}
use Rattle.tracks.proofs.Bytes.{are_bytes_more, are_bytes_none}
use Rattle.tracks.proofs.Reading.{no_byte, some_is_byte}
use Rattle.tracks.proofs.Units.{unit_next}
use Rattle.tracks.proofs.decoder.all_bytes.Goals as goal

pub returns-then-is_none : goal.returns-then-is_none
returns-then-is_none c =
    let at : ℕ = 1 + unit c.args.coding * c.loop-i.i in
    let v : ℕ = byte_of c.args.coding (take (unit c.args.coding) (drop at c.args.track.now)) in
    let none = rw (c.byte_at.ensures, c.unit_of-width.ensures, c.if-is_none.true) at c.is_none.ensures in
    rw (← c.loop-i.invariant, are_bytes_more c.args.coding c.args.n c.loop-i.i at c.args.track.now c.loop-i-test.true, le-ltb v 256 (no_byte v none))

pub loop-i-preserved : goal.loop-i-preserved
loop-i-preserved c =
    let at : ℕ = 1 + unit c.args.coding * c.loop-i.i in
    let v : ℕ = byte_of c.args.coding (take (unit c.args.coding) (drop at c.args.track.now)) in
    let some = rw (c.byte_at.ensures, c.unit_of-width.ensures, c.if-is_none.false) at c.is_none.ensures in
    rw (
      ← c.loop-i.invariant,
      are_bytes_more c.args.coding c.args.n c.loop-i.i at c.args.track.now c.loop-i-test.true,
      lt-ltb v 256 (some_is_byte v some),
      unit_next c.args.coding c.loop-i.i,
    )

pub returns : goal.returns
returns c = rw (← c.loop-i.invariant, are_bytes_none c.args.coding c.args.n c.loop-i.i _ c.loop-i-test.false)
