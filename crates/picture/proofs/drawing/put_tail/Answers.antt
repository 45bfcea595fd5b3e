-- `picture::drawing::put_tail` meets its contract: what is free, and the digits after it (Pieces.antt). Assumes nothing.
use native.Mathlib.Omega.{arith}
use Rattle.digits.proofs.Digits.{length_hex_digits}
use Rattle.digits.proofs.Put.{put_can, put_at}
use Rattle.picture.proofs.Pieces.{length_free, tail_puts}
use Rattle.picture.proofs.drawing.put_tail.Goals as goal

pub unwrap-place-requires : goal.unwrap-place-requires
unwrap-place-requires c = put_can _ c.put_bytes.ensures (omega (arith, length_free c.args.level))

pub unwrap-requires : goal.unwrap-requires
unwrap-requires c =
    let free = put_at _ _ c.put_bytes.ensures (omega (arith, length_free c.args.level)) c.unwrap-place.ensures in
    put_can _ c.put_digits.ensures (rw length_hex_digits (omega (arith, free.next, length_free c.args.level)))

pub returns : goal.returns
returns c =
    let args = c.args in
    let few = length_free args.level in
    let free = put_at _ _ c.put_bytes.ensures (omega (arith, few)) c.unwrap-place.ensures in
    let digits = put_at _ _ c.put_digits.ensures (rw length_hex_digits (omega (arith, free.next, few))) c.unwrap.ensures in
    tail_puts args.level args.mask (omega arith) free digits (omega arith)
