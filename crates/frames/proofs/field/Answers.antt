-- `frames::field` meets its contract: its bytes put together, the last first. Assumes nothing.
use Rattle.std.proofs.Common.{rules, ◌≡◌, ◌∙◌, List, ℕ, take, drop, length, ◌-◌}
use Rattle.std.specs.Prelude.{reverse}
use Rattle.std.specs.List.{fold}
use Rattle.frames.proofs.Merged.{merged, field_at_merged}
use Rattle.frames.proofs.field.Goals as goal

pub returns : goal.returns
returns c =
    let frame : List ℕ = c.args.frame.now in
    let rest : List ℕ = take (length frame - c.min.result) (drop c.min.result frame) in
    let read : c.rfold.result ≡ fold merged 0 (reverse (take c.min-3.result rest)) = search rules in
    read ∙ field_at_merged frame c.args.at c.args.count (search rules) c.min.ensures c.min-2.ensures c.min-3.ensures
