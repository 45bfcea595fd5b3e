-- `tracks::decoder::quad_at` meets its contract: four pairs, joined. Assumes nothing.
use Rattle.tracks.proofs.Reading.{quad_byte}
use Rattle.tracks.proofs.decoder.quad_at.Goals as goal

pub returns : goal.returns
returns c =
    let join = c.join in
    let pair_of = c.pair_of-d in
    let pair-of2 = c.pair_of-c in
    let pair-of3 = c.pair_of-b in
    let pair-of4 = c.pair_of-a in
    rw (quad_byte, join.ensures, pair_of.ensures, pair-of2.ensures, pair-of3.ensures, pair-of4.ensures)
