-- `coil::decoder::decode` meets its contract: the ways out of DecodeWays.antt, in order. Assumes nothing.
use native.Mathlib.Omega.{arith}
use mathlib.Core.Path.{sym, ◌∙◌}
use Rattle.frames.specs.Frame.{longest_answer}
use Rattle.refusals.specs.Number.{number}
use Rattle.coil.specs.Decoder.{bytes_in}
use Rattle.coil.specs.Decoded.{decoded_back}
use Rattle.coil.proofs.DecodeWays.{decodes_no_room, decodes_no_track, decodes_answer, decodes_bad, framed_length, framed_most, bad_bit_found, no_bad_bit, bad_bit_known}
use Rattle.coil.proofs.decoder.decode.Goals as goal

pub returns-then-answer-lt-LONGEST_ANSWER : goal.returns-then-answer-lt-LONGEST_ANSWER
unfolding longest_answer number decoded_back
returns-then-answer-lt-LONGEST_ANSWER c =
    record {
      told = decodes_no_room c.args.track.now c.args.answer.now c.if-answer-lt-LONGEST_ANSWER.true;
      known = tt;
    }

pub returns-then-not-is_framed : goal.returns-then-not-is_framed
unfolding longest_answer number decoded_back
returns-then-not-is_framed c =
    record {
      told = decodes_no_track c.args.track.now c.args.answer.now c.if-answer-lt-LONGEST_ANSWER.false (sym c.is_framed.ensures ∙ c.if-not-is_framed.true);
      known = tt;
    }

pub overflow_sub-n : goal.overflow_sub-n
overflow_sub-n c = omega (arith, framed_length c.args.track.now (sym c.is_framed.ensures ∙ c.if-not-is_framed.false))

pub first_bad-requires : goal.first_bad-requires
first_bad-requires c =
    let framed = sym c.is_framed.ensures ∙ c.if-not-is_framed.false in
    (omega (arith, framed_length c.args.track.now framed), omega (arith, framed_most c.args.track.now framed))

pub bad_bit-requires : goal.bad_bit-requires
unfolding bytes_in
bad_bit-requires c =
    let t = c.args.track.now in
    let framed = sym c.is_framed.ensures ∙ c.if-not-is_framed.false in
    let found = bad_bit_found t c.in-Some.k (sym c.in-Some.is ∙ c.first_bad.ensures) in
    omega (arith, framed_length t framed, found.0, found.1)

pub returns-in-Some : goal.returns-in-Some
unfolding longest_answer bytes_in
returns-in-Some c =
    let t = c.args.track.now in
    let framed = sym c.is_framed.ensures ∙ c.if-not-is_framed.false in
    let found = bad_bit_found t c.in-Some.k (sym c.in-Some.is ∙ c.first_bad.ensures) in
    record {
      told = rw (c.bad_bit.ensures, found.0) (decodes_bad t c.args.answer.now c.if-answer-lt-LONGEST_ANSWER.false framed found.1);
      known = rw c.bad_bit.ensures (bad_bit_known t c.in-Some.k (omega (arith, framed_most t framed, found.0, found.1)));
    }

pub put_bytes-requires : goal.put_bytes-requires
put_bytes-requires c =
    let framed = sym c.is_framed.ensures ∙ c.if-not-is_framed.false in
    record { n_in_bounds = omega (arith, framed_length c.args.track.now framed); n_in_bounds_2 = omega (arith, framed_most c.args.track.now framed) }

pub returns : goal.returns
unfolding longest_answer bytes_in decoded_back
returns c =
    let t = c.args.track.now in
    let framed = sym c.is_framed.ensures ∙ c.if-not-is_framed.false in
    let none = no_bad_bit t (sym c.in_default.is ∙ c.first_bad.ensures) in
    record {
      told = rw c.put_bytes.ensures (decodes_answer t c.args.answer.now c.if-answer-lt-LONGEST_ANSWER.false framed none);
      known = omega (arith, framed_most t framed);
    }
