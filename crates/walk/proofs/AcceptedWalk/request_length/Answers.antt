-- `walk::AcceptedWalk::request_length` meets its contract, by whether there is a family (Requests.antt). Assumes nothing.
use borrow.Author.Rules.{rules}
use mathlib.Core.Path.{sym, ◌∙◌}
use native.Mathlib.Omega.{arith}
use Rattle.walk.specs.Record.{mask_length, has_family}
use Rattle.walk.proofs.Limits.{level_few}
use Rattle.walk.proofs.Requests.{mask_bytes_most, length_with_family, length_no_family}
use Rattle.walk.proofs.AcceptedWalk.request_length.Goals as goal

pub overflow_add-result : goal.overflow_add-result
overflow_add-result c =
    let mask-bytes = c.mask_bytes-bytes in
    let args = c.args in
    omega (arith, mask-bytes.ensures, mask_bytes_most args.self.walk.level (level_few args.self.walk (search rules) args.self.fits))

pub returns-then-has_family : goal.returns-then-has_family
unfolding mask_length has_family
returns-then-has_family c =
    let mask-bytes = c.mask_bytes-bytes in
    let args = c.args in
    let has-family = c.has_family in
    let first = c.if-has_family in
    rw mask-bytes.ensures (sym (length_with_family args.self.walk (sym has-family.ensures ∙ first.true)))

pub returns-else-has_family : goal.returns-else-has_family
unfolding mask_length has_family
returns-else-has_family c =
    let mask-bytes = c.mask_bytes-bytes in
    let args = c.args in
    let has-family = c.has_family in
    let first = c.if-has_family in
    rw mask-bytes.ensures (sym (length_no_family args.self.walk (sym has-family.ensures ∙ first.false)))

pub overflow_add-result-else-has_family : goal.overflow_add-result-else-has_family
overflow_add-result-else-has_family c =
    let mask-bytes = c.mask_bytes-bytes in
    let args = c.args in
    omega (arith, mask-bytes.ensures, mask_bytes_most args.self.walk.level (level_few args.self.walk (search rules) args.self.fits))
