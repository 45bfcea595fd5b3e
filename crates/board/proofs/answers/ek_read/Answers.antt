-- `ek_read` keeps its promise: what `read` says, by value. Assumes nothing.
use mathlib.Core.Path.{◌∙◌}
use borrow.Author.Rules.{sfits_of}
use mir.Syntax.{w64}
use mir.ValLaws.{to_z-of_z}
use Rattle.refusals.specs.Number.{number_of}
use Rattle.board.specs.Answers.{information_of}
use Rattle.board.proofs.Answered.{reads_by_value, refused_answer}
use Rattle.board.proofs.answers.ek_read.Goals as goal

pub returns-in-Ok : goal.returns-in-Ok
unfolding number_of
returns-in-Ok c =
    let answer = to_z-of_z w64 c.packed.result (sfits_of c.packed.type_inv) ∙ c.packed.ensures in
    reads_by_value _ _ _ _ _ c.in-Ok.ensures answer c.information_of.ensures

pub returns-in-Err : goal.returns-in-Err
unfolding number_of information_of
returns-in-Err c =
    let answer = to_z-of_z w64 c.minus.result (sfits_of c.minus.type_inv) ∙ c.minus.ensures ∙ refused_answer c.in-Err.refusal in
    reads_by_value _ _ _ _ _ c.in-Err.ensures answer c.no_information.ensures
