-- `ek_card_power_off` meets its contract: the record is read, the event settled (Ways.antt); the answer's length is at most its room (Told.antt).
-- Assumes nothing.
use borrow.Author.Rules.{sfits_of}
use native.Mathlib.Omega.{arith}
use mir.ValLaws.{to_z-of_z}
use mir.Syntax.{w64}
use Rattle.board.proofs.Told.{off_told}
use Rattle.board.proofs.Ways.{gives_off}
use Rattle.board.proofs.ek_card_power_off.Goals as goal

pub settle-requires : goal.settle-requires
settle-requires c =
    let power-off = c.power_off-served in
    let owned = c.well_formed in
    omega (arith, off_told _ _ _ _ power-off.ensures.told, owned.1.1.1.0)

pub returns : goal.returns
returns c =
    let settle = c.settle in
    let power-off = c.power_off-served in
    let read = c.read-card in
    rw (to_z-of_z w64 settle.result (sfits_of settle.type_inv))
    (gives_off _ _ _ _ (rw read.ensures at power-off.ensures) settle.ensures)
