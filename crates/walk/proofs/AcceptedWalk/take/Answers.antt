-- `walk::AcceptedWalk::take` meets its contract: ended at once, or noted and passed (HearWays.antt). Assumes nothing.
use mathlib.Core.Path.{sym}
use Rattle.std.specs.Prelude.{is_some}
use Rattle.walk.specs.Steps.{ending_of}
use Rattle.walk.proofs.HearWays.{place_few, after_ending, after_passing}
use Rattle.walk.proofs.Limits.{accepted_of_is_accepted}
use Rattle.walk.proofs.Accepted.{noted_facts}
use Rattle.walk.proofs.AcceptedWalk.take.Goals as goal

pub pass-requires : goal.pass-requires
unfolding ending_of
pass-requires c =
    let start = c in
    let note = c.in-Ok.ensures in
    let args = start.args in
    let facts = accepted_of_is_accepted args.self.walk args.self.fits in
    rw note.walk_left (noted_facts args.self.walk facts (is_some args.place) (place_few args.place args.self.walk.count _ start.requires) args.slot (sym note.ending)).last_level

pub returns-in-Ok : goal.returns-in-Ok
unfolding ending_of
returns-in-Ok c =
    let note = c.in-Ok.ensures in
    record { walk_left = after_passing _ _ _ _ note.ending (rw (← note.walk_left) c.pass.ensures); list_left = note.list_left }

pub returns-in-Err : goal.returns-in-Err
unfolding ending_of
returns-in-Err c =
    let note = c.in-Err.ensures in
    record { walk_left = after_ending _ _ _ _ _ note.ending c.ended.ensures; list_left = note.list_left }
