-- `walk::AcceptedWalk::fill` meets its contract: a request is its body, sealed (Requests.antt). Assumes nothing.
use borrow.Author.Rules.{rules}
use Rattle.walk.specs.Ask.{room_after}
use Rattle.walk.proofs.AskWays.{room_of_request}
use Rattle.walk.proofs.Limits.{level_few}
use Rattle.walk.proofs.Requests.{seals_body}
use Rattle.walk.proofs.AcceptedWalk.fill.Goals as goal

pub returns-in-Request : goal.returns-in-Request
unfolding room_after
returns-in-Request c =
    let start = c in
    let told = c.in-Request.is in
    rw told
    (seals_body start.args.self.walk start.args.room.now c.put_body-n.ensures c.seal.ensures (level_few start.args.self.walk (search rules) start.args.self.fits)
    (room_of_request told start.requires))
