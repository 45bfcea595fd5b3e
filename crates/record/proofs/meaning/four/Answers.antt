-- `four` meets its contract: four bytes joined are the field (Fields.antt). Assumes nothing.
use mathlib.Core.Path.{◌∙◌}
use Rattle.record.proofs.Fields.{four_of_bytes}
use Rattle.record.proofs.meaning.four.Goals as goal

pub returns : goal.returns
returns c = c.join.ensures ∙ four_of_bytes c.args.bytes.now c.args.at
