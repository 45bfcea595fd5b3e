-- `row::row::sending` meets its contract: by the promise of asking. Assumes nothing.
use mathlib.Core.Path.{refl}
use Rattle.walk.specs.Ask.{send_of}
use Rattle.row.specs.Row.{no_bytes}
use Rattle.row.proofs.Sending.{sent_asked}
use Rattle.row.proofs.row.sending.Goals as goal

pub returns-in-Ok : goal.returns-in-Ok
unfolding no_bytes send_of
returns-in-Ok c = sent_asked _ c.in-Ok.ensures refl

pub returns-in-Err : goal.returns-in-Err
unfolding no_bytes send_of
returns-in-Err c = sent_asked _ c.in-Err.ensures refl
