-- `coil::coder::code` meets its contract: the ways out of CodeWays.antt, in order. Assumes nothing.
use mathlib.Core.Logic.{inl, inr}
use Rattle.frames.specs.Frame.{shortest_answer, longest_answer}
use Rattle.refusals.specs.Number.{number, number_back}
use Rattle.coil.proofs.CodeWays.{codes_too_short, codes_too_long, codes_no_room, codes_served}
use Rattle.coil.proofs.coder.code.Goals as goal

pub returns-then-answer-lt-SHORTEST_ANSWER : goal.returns-then-answer-lt-SHORTEST_ANSWER
unfolding shortest_answer longest_answer number number_back
returns-then-answer-lt-SHORTEST_ANSWER c =
    elim c.then-answer-lt-SHORTEST_ANSWER.either [ inl h ↦ codes_too_short _ _ h | inr h ↦ codes_too_long _ _ h.0 h.1 ]

pub returns-then-track-n : goal.returns-then-track-n
unfolding shortest_answer longest_answer number number_back
returns-then-track-n c = codes_no_room _ _ c.if-answer-lt-SHORTEST_ANSWER.false c.if-answer-gt-LONGEST_ANSWER.false c.if-track-n.true

pub returns : goal.returns
unfolding shortest_answer longest_answer number_back
returns c =
    rw c.put_track.ensures (codes_served _ _ c.if-answer-lt-SHORTEST_ANSWER.false c.if-answer-gt-LONGEST_ANSWER.false c.if-track-n.false)
