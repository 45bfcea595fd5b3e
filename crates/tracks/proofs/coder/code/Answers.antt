-- `tracks::coder::code` meets its contract: the ways out of CodeWays.antt, in order. Assumes nothing.
use native.Mathlib.Omega.{arith}
use lib.ListN.{length}
use mathlib.Core.Logic.{inl, inr}
use mathlib.Core.Path.{ap}
use Prim.Native.Nat.{ℕ, ◌*◌}
use Rattle.frames.specs.Frame.{longest}
use Rattle.refusals.specs.Number.{number, number_back}
use Rattle.tracks.proofs.Units.{units_most}
use Rattle.tracks.proofs.CodeWays.{codes_too_long, codes_no_coding, codes_no_room, codes_served}
use Rattle.tracks.proofs.coder.code.Goals as goal

pub returns-then-frame-gt-LONGEST : goal.returns-then-frame-gt-LONGEST
unfolding longest number number_back
returns-then-frame-gt-LONGEST c =
    elim c.then-frame-gt-LONGEST.either [ inl h ↦ codes_too_long _ _ _ h | inr h ↦ codes_no_coding _ _ _ h.0 h.1 ]

pub overflow_mul-n : goal.overflow_mul-n
overflow_mul-n c = omega (arith, units_most c.args.coding (length c.args.frame.now), ap (λ (u : ℕ). u * length c.args.frame.now) c.unit_of.ensures)

pub overflow_add-n : goal.overflow_add-n
overflow_add-n c = omega (arith, units_most c.args.coding (length c.args.frame.now), ap (λ (u : ℕ). u * length c.args.frame.now) c.unit_of.ensures)

pub returns-then-track-n : goal.returns-then-track-n
unfolding longest number number_back
returns-then-track-n c = codes_no_room _ _ _ c.if-frame-gt-LONGEST.false (omega arith) (rw c.unit_of.ensures at c.if-track-n.true)

pub returns : goal.returns
unfolding longest number_back
returns c =
    rw (c.unit_of.ensures, c.put_track.ensures) (codes_served _ _ _ c.if-frame-gt-LONGEST.false (omega arith) (rw c.unit_of.ensures at c.if-track-n.false))
