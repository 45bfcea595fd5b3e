-- `coil::decoder::sixteen_good` meets its contract. The loop's invariant: the flaws passed stand over each other. They are 0 only if each is.
-- Assumes nothing.
use native.Mathlib.Omega.{arith}
use mathlib.Core.Path.{◌≡◌, refl, sym, ap, ◌∙◌}
use mathlib.Core.List.{List}
use Prim.Native.Nat.{ℕ, ◌+◌}
use lib.ListN.{get_or}
use native.Mathlib.Numerals.{add-one}
use borrow.Author.Tests.{eqb-true}
use Rattle.std.specs.List.{between}
use Rattle.std.proofs.lemmas.List.Edits.{length-between, get_or-between}
use Rattle.coil.specs.Steps.{flaws}
use Rattle.lent.proofs.Ors.{ors, ors_none}
use Rattle.coil.proofs.decoder.sixteen_good.Goals as goal

pub loop-b-init : goal.loop-b-init
unfolding ors
loop-b-init c = refl

pub loop-b-preserved : goal.loop-b-preserved
unfolding ors
loop-b-preserved c = rw (add-one, c.flaws_of-all.ensures, c.loop-b.invariant)

pub returns : goal.returns
returns c h k less =
    let at : ℕ = c.args.at in
    let t : List ℕ = c.args.track.now in
    let sixteen : c.loop-b.b-index ≡ 16 = omega (arith, length-between t at (at + 16) c.requires) in
    let over : ors 16 (λ i. flaws (get_or (between at (at + 16) t) i 0)) ≡ 0 = rw (sixteen, eqb-true c.loop-b.all 0 h) at (sym c.loop-b.invariant) in
    ap flaws (sym (get_or-between t at (at + 16) k 0 (omega arith)))
    ∙ ors_none 16 (λ i. flaws (get_or (between at (at + 16) t) i 0)) over k less
