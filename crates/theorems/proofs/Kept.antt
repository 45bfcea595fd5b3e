-- A contract that says a claim which only one result meets allows one result. Assumes nothing.
use mathlib.Core.Path.{◌≡◌}
use seplogic.Ra.Ura.{Ura}
use base.Logic.{SProp, via}
use contract.Monad.{conj, conj_l, conj_r, fact_i, fact_use}
use contract.Lifetimes.{Lfts}
use types.Logic.{Logic}
use denote.Triple.Entry.{Args, Res}
use denote.Triple.Spec.{Spec}
use denote.Triple.Clauses.{Ended, Clauses, Lasts, at_exit, closing}
use Rattle.theorems.specs.Contract.{Claim, AsksNothing, Says, Contract}

-- for the same arguments one result, and one state of the places that were lent to be written
abbrev pub Alone : (T : Ended) → Claim T → Type 0
Alone T P =
    (κs : Lfts T.signature.lifetimes) (a : Args T.signature κs) (r s : Res T.signature κs) (x y : Lasts T κs a)
    → P κs a r (at_exit T κs a x) → P κs a s (at_exit T κs a y) → (r ≡ s) × (x ≡ y)

pub kept : {M : Type 1} {𝓤 : Ura M} (𝓛 : Logic 𝓤) (T : Ended) (spec : Spec 𝓤 T.signature) (c : Clauses 𝓤 T) (P : Claim T)
    → closing 𝓛 T c ≡ spec → AsksNothing 𝓤 T c → Says 𝓤 T c P → Alone T P → Contract 𝓛 T spec c P
kept {𝓤 = 𝓤} 𝓛 T spec c P own asks says alone =
    record {
      own = own;
      asks_nothing = asks;
      says = says;
      one_result =
          λ κs a g r s x y.
          let left : SProp 𝓤 = (c κs a).ensures g r (at_exit T κs a x) in
          let right : SProp 𝓤 = (c κs a).ensures g s (at_exit T κs a y) in
          fact_use 𝓤 (P κs a r (at_exit T κs a x)) (via 𝓤 left (conj_l 𝓤 left right) (says κs a g r (at_exit T κs a x))) (λ p.
          fact_use 𝓤 (P κs a s (at_exit T κs a y)) (via 𝓤 right (conj_r 𝓤 left right) (says κs a g s (at_exit T κs a y))) (λ q.
          fact_i 𝓤 ((r ≡ s) × (x ≡ y)) (conj 𝓤 left right) (alone κs a r s x y p q)));
    }
