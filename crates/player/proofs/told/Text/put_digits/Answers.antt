-- `player::told::Text::put_digits` meets its contract: the digits are put into a buffer of their own, and added after the name. Assumes nothing.
use Rattle.std.proofs.Common.{sym, arith}
use Rattle.player.proofs.Adding.{adds_then, text_taken}
use Rattle.digits.proofs.Digits.{length_hex_digits}
use Rattle.digits.specs.Digits.{hex_digits}
use Rattle.player.proofs.told.Text.put_digits.Goals as goal

pub returns : goal.returns
returns c =
    let digits = text_taken c.args.count (hex_digits c.args.count c.args.n) _ c.put_digits.new.text c.put_digits.ensures (sym (length_hex_digits _ _)) (rw length_hex_digits (omega arith)) in
    adds_then c.put.ensures (rw digits at c.put-2.ensures)
