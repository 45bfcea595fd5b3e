-- 01, What every promise says: what is said of the contract of each public call. Of a function, `ended` is its parameters and `clauses` its
-- `requires` and `ensures`, both as Rattle takes them from the .rt file, so that no promise is restated here; `spec` is what its own theorem shows.
use Rattle.std.specs.Prelude.{◌≡◌}
use seplogic.Ra.Ura.{Ura}
use base.Logic.{ent, emp}
use contract.Monad.{conj, fact}
use contract.Lifetimes.{Lfts}
use types.Logic.{Logic}
use denote.Triple.Entry.{Args, Res}
use denote.Triple.Spec.{Spec}
use denote.Triple.Clauses.{Ended, Clauses, AtExit, Lasts, at_exit, closing}

-- a claim about a call: the arguments, what is returned, and the parameters at exit
abbrev pub Claim : Ended → Type 1
Claim T = (κs : Lfts T.signature.lifetimes) → Args T.signature κs → Res T.signature κs → AtExit T κs → Type 0

module _ {M : Type 1} (𝓤 : Ura M) (T : Ended) (c : Clauses 𝓤 T) where
  -- "all arguments": nothing is required of a caller
  abbrev pub AsksNothing : Type 1
  AsksNothing = (κs : Lfts T.signature.lifetimes) (a : Args T.signature κs) → (g : (c κs a).ghost) × ent 𝓤 (emp 𝓤) ((c κs a).requires g)

  -- whoever has what the contract ensures knows the claim
  abbrev pub Says : Claim T → Type 1
  Says P =
      (κs : Lfts T.signature.lifetimes) (a : Args T.signature κs) (g : (c κs a).ghost) (r : Res T.signature κs) (e : AtExit T κs)
      → ent 𝓤 ((c κs a).ensures g r e) (fact 𝓤 (P κs a r e))

  -- "Any two results allowed by it are shown equal": r and s are returned, x and y are left in every place that was lent to be written
  abbrev pub OneResult : Type 1
  OneResult =
      (κs : Lfts T.signature.lifetimes) (a : Args T.signature κs) (g : (c κs a).ghost) (r s : Res T.signature κs) (x y : Lasts T κs a)
      → ent 𝓤 (conj 𝓤 ((c κs a).ensures g r (at_exit T κs a x)) ((c κs a).ensures g s (at_exit T κs a y))) (fact 𝓤 ((r ≡ s) × (x ≡ y)))

-- "Each public call's promise gives answer, next record and every lent byte, for all arguments."
pub record Contract {M : Type 1} {𝓤 : Ura M} (𝓛 : Logic 𝓤) (T : Ended) (spec : Spec 𝓤 T.signature) (c : Clauses 𝓤 T) (P : Claim T) : Type 2 where
  -- it is the contract that the function's theorem is about
  pub own : closing 𝓛 T c ≡ spec
  pub asks_nothing : AsksNothing 𝓤 T c
  pub says : Says 𝓤 T c P
  pub one_result : OneResult 𝓤 T c
