-- `digits::number` meets its contract. The loop's invariant: the number so far is that of the first i digits. Assumes nothing.
use native.Mathlib.Omega.{arith}
use mathlib.Core.Path.{◌≡◌, refl, ◌∙◌}
use Rattle.digits.specs.Digits.{digits_at, number_at}
use Rattle.digits.proofs.Digits.{number_suc}
use Rattle.digits.proofs.number.Goals as goal

pub loop-i-init : goal.loop-i-init
unfolding number_at digits_at
loop-i-init c = refl

pub loop-i-preserved : goal.loop-i-preserved
loop-i-preserved c =
    let loop = c.loop-i in
    let args = c.args in
    number_suc args.text.now args.at loop.i loop.n c.from.result loop.invariant (c.from.ensures ∙ c.unwrap_or.ensures ∙ c.digit_at.ensures)

pub returns : goal.returns
returns c =
    let loop = c.loop-i in
    let all : loop.i ≡ c.args.count = omega arith in
    rw (← all) loop.invariant
