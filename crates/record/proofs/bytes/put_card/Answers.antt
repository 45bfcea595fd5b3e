-- `put_card` meets its contract: three fields, the state and the mask, one after another (Putting.antt). Assumes nothing.
use native.Mathlib.Omega.{arith}
use mathlib.Core.Path.{◌∙◌}
use Rattle.frames.proofs.Ways.{puts_field_ok}
use Rattle.record.proofs.Putting.{state_copied, length_copied, card_put}
use Rattle.record.proofs.bytes.put_card.Goals as goal

pub unwrap-requires : goal.unwrap-requires
unwrap-requires c = puts_field_ok c.put_field.result c.put_field.ensures (omega arith)

pub unwrap-requires-2 : goal.unwrap-requires-2
unwrap-requires-2 c = puts_field_ok c.put_field-2.result c.put_field-2.ensures (omega arith)

pub unwrap-requires-3 : goal.unwrap-requires-3
unwrap-requires-3 c = puts_field_ok c.put_field-3.result c.put_field-3.ensures (omega arith)

pub unwrap-requires-4 : goal.unwrap-requires-4
unwrap-requires-4 c =
    let same = length_copied c.args.card c.put_field-3.new.buffer (c.copy_from_slice.ensures.after ∙ c.state_bytes.ensures) (omega arith) in
    puts_field_ok c.put_field-4.result c.put_field-4.ensures (omega (arith, same))

pub returns : goal.returns
returns c =
    let state = state_copied c.args.card c.put_field-3.new.buffer (c.copy_from_slice.ensures.after ∙ c.state_bytes.ensures) in
    card_put c.args.card _ c.requires c.put_field.ensures (rw c.from.ensures at c.put_field-2.ensures) (rw c.from-2.ensures at c.put_field-3.ensures) state c.fields_of-fields.ensures c.put_field-4.ensures
