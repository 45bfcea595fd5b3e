-- `tracks::coder::clear` meets its contract: 64 bytes 00 stand in the place of as many. Assumes nothing.
use mathlib.Core.Path.{◌≡◌}
use mathlib.Core.List.{List}
use Prim.Native.Nat.{ℕ, ◌+◌, ◌-◌}
use native.Mathlib.Omega.{arith}
use lib.ListN.{length, take, drop, length-drop}
use lib.Seq.{length-take-le}
use Rattle.tracks.proofs.Units.{placed_blank}
use Rattle.tracks.proofs.coder.clear.Goals as goal

pub returns : goal.returns
returns c =
    let at : ℕ = c.args.at in
    let e : List ℕ = c.args.track.now in
    let many : at + 64 - at ≡ 64 = omega arith in
    let part : length (take (at + 64 - at) (drop at e)) ≡ 64 = rw many (length-take-le 64 (drop at e) (rw length-drop (omega arith))) in
    placed_blank at (at + 64 - at) c.fill.new.self e many (rw part at (c.fill.ensures.after (λ y p. p)))
