-- `tracks::decoder::eight_blank` meets its contract. The loop's invariant: the bytes passed stand over each other. Bytes put over each
-- other are 00 only if each is. Assumes nothing.
use native.Mathlib.Omega.{arith}
use mathlib.Core.Path.{◌≡◌, refl, sym, ◌∙◌}
use mathlib.Core.List.{List}
use Prim.Native.Nat.{ℕ, ◌+◌}
use lib.ListN.{get_or}
use borrow.Author.Tests.{eqb-true}
use native.Mathlib.Numerals.{add-one}
use Rattle.std.specs.List.{between}
use Rattle.std.proofs.lemmas.List.Edits.{length-between, get_or-between}
use Rattle.lent.proofs.Ors.{ors, ors_none}
use Rattle.tracks.proofs.decoder.eight_blank.Goals as goal

pub loop-b-init : goal.loop-b-init
unfolding ors
loop-b-init c = refl

pub loop-b-preserved : goal.loop-b-preserved
unfolding ors
loop-b-preserved c = rw (add-one, c.loop-b.invariant)

pub returns : goal.returns
returns c h k less =
    let at : ℕ = c.args.at in
    let t : List ℕ = c.args.track.now in
    let eight : c.loop-b.b-index ≡ 8 = omega (arith, length-between t at (at + 8) c.requires) in
    let over : ors 8 (λ i. get_or (between at (at + 8) t) i 0) ≡ 0 = rw (eight, eqb-true c.loop-b.all 0 h) at (sym c.loop-b.invariant) in
    sym (get_or-between t at (at + 8) k 0 (omega arith)) ∙ ors_none 8 (λ i. get_or (between at (at + 8) t) i 0) over k less
