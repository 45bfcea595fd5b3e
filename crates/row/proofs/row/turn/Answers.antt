-- `row::row::turn` meets its contract: by cases of what is sent. Assumes nothing.
use borrow.Author.Rules.{rules}
use mathlib.Core.Path.{◌≡◌, ap, ◌∙◌}
use lib.ListN.{length}
use Rattle.card.specs.Frame.{heard_inventory}
use Rattle.row.specs.Row.{heard_by}
use Rattle.row.proofs.AtMost.{take_most}
use Rattle.row.proofs.Sending.{turned_by}
use Rattle.row.proofs.row.turn.Goals as goal

pub returns-in-Nothing : goal.returns-in-Nothing
unfolding heard_by
returns-in-Nothing c = turned_by _ _ c.in-Nothing.is

pub returns-in-Mark : goal.returns-in-Mark
unfolding heard_by
returns-in-Mark c = c.hear_mark.ensures ∙ turned_by _ _ c.in-Mark.is

pub returns-in-Request : goal.returns-in-Request
unfolding heard_by
returns-in-Request c =
    let args = c.args in
    let long : length args.sent.bytes ≡ 14 = search rules in
    c.hear_inventory.ensures ∙ ap (heard_inventory args.card) (take_most 14 c.in-Request.n _ args.sent.bytes long c.min.ensures) ∙ turned_by _ _ c.in-Request.is
