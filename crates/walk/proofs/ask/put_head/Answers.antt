-- `walk::ask::put_head` meets its contract: straight-line stores (Requests.antt). Assumes nothing.
use mathlib.Core.Path.{sym, ◌∙◌}
use native.Mathlib.Omega.{arith}
use lib.ListN.{length-set}
use Rattle.walk.specs.Record.{has_family}
use Rattle.walk.proofs.Requests.{family_is_byte, puts_family, puts_no_family}
use Rattle.walk.proofs.ask.put_head.Goals as goal

pub bounds-room-0 : goal.bounds-room-0
bounds-room-0 c = rw length-set (omega arith)

pub overflow_cast-room : goal.overflow_cast-room
unfolding has_family
overflow_cast-room c =
    let args = c.args in
    let has-family = c.has_family in
    let first = c.if-has_family in
    omega (arith, family_is_byte args.walk (sym has-family.ensures ∙ first.true))

pub returns-then-has_family : goal.returns-then-has_family
unfolding has_family
returns-then-has_family c = puts_family _ _ (sym c.has_family.ensures ∙ c.if-has_family.true) c.requires

pub bounds-room-0-2 : goal.bounds-room-0-2
bounds-room-0-2 c = rw length-set (omega arith)

pub returns : goal.returns
unfolding has_family
returns c = puts_no_family _ _ (sym c.has_family.ensures ∙ c.if-has_family.false) c.requires
