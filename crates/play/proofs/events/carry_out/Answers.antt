-- `play::events::carry_out` meets its contract: the effect, the reply and its check (EventWays.antt). Assumes nothing.
use Rattle.play.proofs.EventWays.{leaves_deed}
use Rattle.play.proofs.events.carry_out.Goals as goal

pub returns : goal.returns
returns c =
    let args = c.args in
    let take-effect = c.take_effect in
    leaves_deed args.deed args.frame.now args.memory.now args.locks.now args.answer.now
    take-effect.ensures.0 take-effect.ensures.1 c.put_reply-n.ensures.puts c.finish.ensures args.deed.card
