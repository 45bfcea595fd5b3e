-- `crc::check` meets its contract: the register takes byte by byte, and has sixteen bits. Assumes nothing.
use Rattle.std.proofs.Common.{rules, arith, ◌≡◌, ◌∙◌, ap, ℕ, ◌-◌}
use Rattle.std.specs.List.{fold}
use Rattle.crc.specs.Check.{preset, taken, check_of}
use Rattle.crc.proofs.Register.{register_folded, message_fits}
use Rattle.crc.proofs.check.Goals as goal

pub overflow_sub-result : goal.overflow_sub-result
overflow_sub-result c =
    let left : c.fold-x.result ≡ fold taken preset c.args.bytes.now = search rules in
    rw (left, register_folded) (message_fits _ (λ i. omega (arith, c.type_inv.bytes i)))

pub returns : goal.returns
unfolding check_of
returns c =
    let left : c.fold-x.result ≡ fold taken preset c.args.bytes.now = search rules in
    ap (λ (x : ℕ). 0xffff - x) (left ∙ register_folded _ _)
