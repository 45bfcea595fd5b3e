-- `commands::request::any_locked` meets its contract: by the lock bytes, first to last (Blocks.antt). Assumes nothing.
use mathlib.Core.Path.{◌≡◌, refl, ◌∙◌}
use native.Mathlib.Omega.{arith}
use Prim.Native.Nat.{◌+◌}
use Rattle.std.proofs.Common.{rules}
use Rattle.std.specs.List.{list_any, range_with_len}
use Rattle.std.proofs.lemmas.Iterator.{YieldsList-from_range}
use Rattle.std.proofs.lemmas.Iterator.Search.{any_from_yields_List}
use Rattle.commands.specs.Request.{is_locked}
use Rattle.commands.proofs.Blocks.{any_locked_counted}
use Rattle.commands.proofs.request.any_locked.Goals as goal

pub returns : goal.returns
unfolding is_locked
returns c =
    let a = c.args in
    let numbers = YieldsList-from_range 0 (a.n + 1) (a.n + 1) refl (omega arith) in
    let found : c.any.result ≡ list_any (λ i. is_locked a.locks.now (a.first + i)) (range_with_len 0 (a.n + 1)) =
    any_from_yields_List (λ i. is_locked a.locks.now (a.first + i)) _ _ c.any.result c.any.ensures.ran numbers (λ x b q k. search rules) in
    found ∙ any_locked_counted a.locks.now a.first (a.n + 1)
