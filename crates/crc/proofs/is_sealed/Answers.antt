-- `crc::is_sealed` meets its contract: the last two bytes against the check of the rest, or too short. Assumes nothing.
use native.Mathlib.Omega.{arith}
use mathlib.Core.Path.{sym}
use Rattle.crc.proofs.Seal.{sealed_by_ends, unsealed_short}
use Rattle.crc.proofs.is_sealed.Goals as goal

pub returns-in-Some : goal.returns-in-Some
returns-in-Some c =
    let ends = c.in-Some.ensures.cases in
    rw (c.from_le_bytes.ensures, c.check.ensures)
    (sealed_by_ends c.args.message.now (λ i. omega (arith, c.type_inv.message i)) ends.0 ends.1 ends.2)

pub returns-in-None : goal.returns-in-None
returns-in-None c = sym (unsealed_short _ c.in-None.ensures.cases)
