-- `ask` keeps its promise: a refusal is told as minus its number, all else by its length, which is 14 at the most. By the two ways out. Assumes nothing.
use mathlib.Core.Path.{◌≡◌, ap, ◌∙◌}
use native.Mathlib.Omega.{arith}
use borrow.Author.Rules.{rules, sfits_of}
use lib.IntN.{pos}
use lib.ListN.{length}
use mir.Syntax.{w64}
use mir.ValLaws.{to_z-of_z, to_z_pos}
use Rattle.walk.specs.Marks.{levels}
use Rattle.board.proofs.WalkTold.{asks_refused, asks_served, length_served_most}
use Rattle.board.proofs.in_place.ask.Goals as goal

pub overflow_cast-result : goal.overflow_cast-result
unfolding levels
overflow_cast-result c =
    let start = c in
    let long : length start.args.walk.marks ≡ levels = search (rules, start.well_formed) in
    sfits_of (omega (arith, c.length_of.ensures, length_served_most _ _ _ _ (omega (arith, long)) c.in-Ok.ensures))

pub returns-in-Ok : goal.returns-in-Ok
unfolding levels
returns-in-Ok c =
    let start = c in
    let long : length start.args.walk.marks ≡ levels = search (rules, start.well_formed) in
    let most = length_served_most _ _ _ _ (omega (arith, long)) c.in-Ok.ensures in
    asks_served _ _ _ _ _ c.in-Ok.ensures (to_z_pos w64 _ (omega (arith, c.length_of.ensures, most)) ∙ ap pos c.length_of.ensures)

pub returns-in-Err : goal.returns-in-Err
returns-in-Err c = asks_refused _ _ _ _ _ c.in-Err.ensures (to_z-of_z w64 c.minus.result (sfits_of c.minus.type_inv) ∙ c.minus.ensures)
