-- `tracks::decoder::length_as` meets its contract: by the tests of LengthWays.antt. Assumes nothing.
use mathlib.Core.Path.{◌≡◌}
use mathlib.Core.Bool.{true, false}
use native.Mathlib.Omega.{arith}
use Rattle.frames.specs.Frame.{longest}
use Rattle.tracks.specs.Steps.{count_of}
use Rattle.tracks.proofs.LengthWays.{framed, no_length, no_length_by_tests, length_by_tests}
use Rattle.tracks.proofs.Units.{unit_least}
use Rattle.tracks.proofs.decoder.length_as.Goals as goal
use Rattle.tracks.proofs.decoder.length_as.Goals.{else-framed-via-then-framed+else-all_bytes, else-framed-via-else-framed}

pub returns-then-n-lt2 : goal.returns-then-n-lt2
returns-then-n-lt2 c = no_length c.args.coding c.args.track.now c.if-n-lt2.true

pub nonzero_div-count : goal.nonzero_div-count
nonzero_div-count c = omega (arith, unit_least c.args.coding)

-- the four tests are the definition's
pub returns-then-all_bytes : goal.returns-then-all_bytes
unfolding count_of longest
returns-then-all_bytes c =
    let tests : framed c.args.coding c.args.track.now ≡ true =
    rw (← c.unit_of-width.ensures, ← c.byte_at.ensures, ← c.start_of.ensures, ← c.byte_at-2.ensures) c.if-framed.true in
    rw c.unit_of-width.ensures
    (length_by_tests c.args.coding c.args.track.now (rw (tests, ← c.unit_of-width.ensures, ← c.all_bytes.ensures, c.if-all_bytes.true)))

pub returns-else-framed : goal.returns-else-framed
unfolding count_of longest
returns-else-framed c =
    elim c.else-framed.branch [
      | else-framed-via-then-framed+else-all_bytes w ↦
          let tests : framed c.args.coding c.args.track.now ≡ true =
          rw (← c.unit_of-width.ensures, ← c.byte_at.ensures, ← c.start_of.ensures, ← c.byte_at-2.ensures) w.if-framed.true in
          no_length_by_tests c.args.coding c.args.track.now (rw (tests, ← c.unit_of-width.ensures, ← w.all_bytes.ensures, w.if-all_bytes.false))
      | else-framed-via-else-framed w ↦
          let tests : framed c.args.coding c.args.track.now ≡ false =
          rw (← c.unit_of-width.ensures, ← c.byte_at.ensures, ← c.start_of.ensures, ← c.byte_at-2.ensures) w.if-framed.false in
          no_length_by_tests c.args.coding c.args.track.now (rw tests)
    ]
