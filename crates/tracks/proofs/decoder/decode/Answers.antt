-- `tracks::decoder::decode` meets its contract: the ways out of DecodeWays.antt, in order. Assumes nothing.
use native.Mathlib.Omega.{arith}
use mathlib.Core.Path.{sym, ◌∙◌}
use Rattle.frames.specs.Frame.{longest}
use Rattle.refusals.specs.Number.{number}
use Rattle.tracks.specs.Decoded.{decoded_back}
use Rattle.tracks.proofs.DecodeWays.{decodes_no_room, decodes_mark, decodes_frame, decodes_no_track}
use Rattle.tracks.proofs.RoundTrip.{frame_of}
use Rattle.tracks.proofs.Parts.{units_of_length, no_track_of_length}
use Rattle.tracks.proofs.decoder.decode.Goals as goal

pub returns-then-frame-lt-LONGEST : goal.returns-then-frame-lt-LONGEST
unfolding longest number decoded_back
returns-then-frame-lt-LONGEST c =
    record {
      told = decodes_no_room c.args.track.now c.args.frame.now c.if-frame-lt-LONGEST.true;
      known = tt;
    }

pub returns-then-is_slot_mark : goal.returns-then-is_slot_mark
unfolding longest decoded_back
returns-then-is_slot_mark c =
    record {
      told = decodes_mark c.args.track.now c.args.frame.now c.if-frame-lt-LONGEST.false (sym c.is_slot_mark.ensures ∙ c.if-is_slot_mark.true);
      known = tt;
    }

pub put_bytes-requires : goal.put_bytes-requires
unfolding longest
put_bytes-requires c =
    let units = units_of_length 0 c.args.track.now c.in-Some.length (sym c.in-Some.is ∙ c.length_as.ensures) in
    record { n_in_bounds = units.within; track_value = units.bytes; n_in_bounds_2 = omega (arith, units.short) }

pub returns-in-Some : goal.returns-in-Some
unfolding frame_of longest decoded_back
returns-in-Some c =
    let units = units_of_length 0 c.args.track.now c.in-Some.length (sym c.in-Some.is ∙ c.length_as.ensures) in
    record {
      told = rw (c.put_bytes.ensures, units.count) (decodes_frame c.args.track.now c.args.frame.now c.if-frame-lt-LONGEST.false 0 (omega arith) units.track);
      known = (omega arith, units.short);
    }

pub put_bytes-requires-in-Some-length_as : goal.put_bytes-requires-in-Some-length_as
unfolding longest
put_bytes-requires-in-Some-length_as c =
    let units = units_of_length 1 c.args.track.now c.in-Some-length_as.length (sym c.in-Some-length_as.is ∙ c.length_as-2.ensures) in
    record { n_in_bounds = units.within; track_value = units.bytes; n_in_bounds_2 = omega (arith, units.short) }

pub returns-in-Some-length_as : goal.returns-in-Some-length_as
unfolding frame_of longest decoded_back
returns-in-Some-length_as c =
    let units = units_of_length 1 c.args.track.now c.in-Some-length_as.length (sym c.in-Some-length_as.is ∙ c.length_as-2.ensures) in
    record {
      told = rw (c.put_bytes-in-Some-length_as.ensures, units.count) (decodes_frame c.args.track.now c.args.frame.now c.if-frame-lt-LONGEST.false 1 (omega arith) units.track);
      known = (omega arith, units.short);
    }

pub returns : goal.returns
unfolding longest number decoded_back
returns c =
    record {
      told = decodes_no_track c.args.track.now c.args.frame.now c.if-frame-lt-LONGEST.false (sym c.is_slot_mark.ensures ∙ c.if-is_slot_mark.false)
          (no_track_of_length 0 c.args.track.now (sym c.in_default.is ∙ c.length_as.ensures))
          (no_track_of_length 1 c.args.track.now (sym c.in_default-length_as.is ∙ c.length_as-2.ensures));
      known = tt;
    }
