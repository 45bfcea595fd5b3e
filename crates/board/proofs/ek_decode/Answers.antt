-- `ek_decode` keeps its promise: what the decoder promises, told by the number. Assumes nothing.
use borrow.Author.Rules.{sfits_of}
use mir.Syntax.{w64}
use mir.ValLaws.{to_z-of_z}
use Rattle.board.proofs.ek_decode.Goals as goal

pub returns : goal.returns
returns c =
    let told = c.back_of_track in
    rw (to_z-of_z w64 told.result (sfits_of told.type_inv), told.ensures) c.decode.ensures.told
