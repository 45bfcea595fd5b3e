-- `row::play::hear` meets its contract: the walk hears the answer in the air. Assumes nothing.
use Rattle.row.proofs.Answer.{desk_heard}
use Rattle.row.proofs.play.hear.Goals as goal

pub returns : goal.returns
returns c = desk_heard _ _ c.kind_of.ensures c.answer_in.ensures c.hear-heard.ensures c.unwrap_or.ensures
