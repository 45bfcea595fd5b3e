-- Whether a write went well is all that its outcome, once told, says. By the outcome. Assumes nothing.
use Rattle.std.proofs.Common.{◌≡◌, Bool, Result, Ok, Err, is_ok, sym, refl, ◌∙◌}
use Rattle.input.specs.declared.Told.{Told}

same : (r s : Result (Unit {0}) Told) → is_ok r ≡ is_ok s → r ≡ s
same (Ok x) (Ok y) h = refl
same (Ok x) (Err y) h = absurd (cc)
same (Err x) (Ok y) h = absurd (cc)
same (Err x) (Err y) h = refl

pub wrote_unique : (b : Bool) (r s : Result (Unit {0}) Told) → is_ok r ≡ b → is_ok s ≡ b → r ≡ s
wrote_unique b r s p q = same r s (p ∙ sym q)
