-- `play::answer::put_blocks` meets its contract. The loop's invariant: the blocks before this one are placed after the first byte, and `at`
-- is the place after them. Assumes nothing.
use native.Mathlib.Omega.{arith}
use mathlib.Core.Path.{◌≡◌, refl}
use Prim.Native.Nat.{ℕ, ◌+◌, ◌-◌}
use lib.ListN.{length, length-set}
use Rattle.play.proofs.Blocks.{sofar_none, sofar_room, sofar_suc, puts_blocks}
use Rattle.play.proofs.Products.{block_within}
use Rattle.play.proofs.answer.put_blocks.Goals as goal

pub loop-block-init : goal.loop-block-init
loop-block-init c =
    let none : c.args.first - c.args.first ≡ 0 = omega arith in
    (refl, rw none (sofar_none _ _ _ _ _ _))

pub loop-block-preserved : goal.loop-block-preserved
loop-block-preserved c =
    let args = c.args in
    let asked = c.requires in
    let loop = c.loop-block in
    let i : ℕ = loop.block - args.first in
    let here : args.first + i ≡ loop.block = omega arith in
    let next : loop.block + 1 - args.first ≡ i + 1 = omega arith in
    let within = block_within loop.block (args.first + args.n) args.size (omega arith) in
    let room = sofar_room loop.invariant.1 args.n (length args.answer.now) (omega arith) asked.option_in_bounds in
    (omega arith, rw next (sofar_suc loop.invariant.1 (rw here c.put_block-at.ensures) (rw here (omega arith)) (rw length-set room)))

pub returns : goal.returns
returns c =
    let args = c.args in
    let asked = c.requires in
    let loop = c.loop-block in
    let all : loop.block - args.first ≡ args.n = omega arith in
    puts_blocks args.answer.now (rw all at loop.invariant.1) asked.size_in_bounds asked.option_in_bounds
