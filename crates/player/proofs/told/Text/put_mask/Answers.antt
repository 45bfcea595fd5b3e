-- `player::told::Text::put_mask` meets its contract: the mask's eight bytes. Assumes nothing.
use Rattle.std.proofs.Common.{◌∙◌}
use Rattle.player.proofs.Mask.{low_bytes}
use Rattle.player.specs.Record.{mask_text}
use Rattle.player.proofs.told.Text.put_mask.Goals as goal

pub returns : goal.returns
unfolding mask_text
returns c = rw (c.to_le_bytes.ensures ∙ low_bytes c.args.mask) at c.put_named.ensures
