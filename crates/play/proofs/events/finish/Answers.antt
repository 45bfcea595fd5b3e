-- `play::events::finish` meets its contract: by the one test. Assumes nothing.
use native.Mathlib.Omega.{arith}
use mathlib.Core.Path.{◌≡◌, refl}
use Prim.Native.Nat.{ℕ, ◌+◌}
use borrow.Author.Tests.{ne_eqb}
use Rattle.std.proofs.lemmas.Result.{IfOk-at_ok}
use Rattle.frames.proofs.Ways.{seals_ok, seals_fits}
use Rattle.play.proofs.events.finish.Goals as goal

pub unwrap-requires : goal.unwrap-requires
unwrap-requires c = seals_ok c.seal.result c.seal.ensures (omega arith)

pub returns : goal.returns
returns c =
    let some = ne_eqb c.args.n 0 c.if-n-eq0.false in
    let seal = seals_fits c.seal.result c.seal.ensures (omega arith) in
    record { told = rw some (IfOk-at_ok (λ (end : ℕ). end ≡ c.args.n + 2) c.unwrap.ensures (rw seal.0 refl)); leaves = rw some seal.1 }
