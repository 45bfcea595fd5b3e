-- `coil::decoder::is_framed` meets its contract: the definition goes by the same tests. Assumes nothing.
use mathlib.Core.Path.{refl, sym}
use mathlib.Core.Bool.{and_assoc}
use Rattle.coil.specs.Decoder.{bytes_in, is_framed}
use Rattle.coil.specs.Coder.{is_answer_length}
use Rattle.frames.specs.Frame.{shortest_answer, longest_answer}
use Rattle.coil.proofs.Framed.{too_short}
use Rattle.coil.proofs.decoder.is_framed.Goals as goal

pub returns-then-n-lt2 : goal.returns-then-n-lt2
returns-then-n-lt2 c = sym (too_short c.args.track.now c.if-n-lt2.true)

pub returns : goal.returns
unfolding bytes_in is_framed is_answer_length shortest_answer longest_answer
returns c = rw (c.byte_at.ensures, c.byte_at-2.ensures) (simp and_assoc refl)
