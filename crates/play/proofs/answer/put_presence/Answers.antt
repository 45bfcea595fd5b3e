-- `play::answer::put_presence` meets its contract: two stores, and the UID as a field after them. Assumes nothing.
use native.Mathlib.Omega.{arith}
use mathlib.Core.Path.{◌≡◌, refl}
use Prim.Native.Nat.{ℕ}
use lib.ListN.{length-set}
use Rattle.std.proofs.lemmas.Result.{IfOk-at_ok}
use Rattle.frames.proofs.Ways.{puts_field_ok, puts_field_fits}
use Rattle.play.proofs.Answers.{puts_presence}
use Rattle.play.proofs.answer.put_presence.Goals as goal

pub unwrap-requires : goal.unwrap-requires
unwrap-requires c = puts_field_ok c.put_field.result c.put_field.ensures (simp length-set (omega arith))

pub returns : goal.returns
returns c =
    let args = c.args in
    let fits = puts_field_fits c.put_field.result c.put_field.ensures (simp length-set (omega arith)) in
    let end : c.unwrap.result ≡ 10 = IfOk-at_ok (λ (end : ℕ). end ≡ 10) c.unwrap.ensures (rw fits.0 refl) in
    rw end (puts_presence args.card args.answer.now c.put_field.ensures c.requires)
