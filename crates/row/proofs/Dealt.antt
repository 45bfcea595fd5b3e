-- Cards take their places one after the other. By `take` of one more.
-- Assumes nothing.
use Prim.Native.Nat.{ℕ, zero, suc, ◌+◌, ◌≤◌, ◌<◌}
use native.Mathlib.Omega.{arith}
use mathlib.Core.List.{List, [], ◌∷◌, ◌++◌}
use mathlib.Core.Path.{◌≡◌, refl, sym, ◌∙◌, ap}
use lib.ListN.{length, get_or, set, take}
use lib.Seq.{take_all, take-suc, take-suc-set}
use Rattle.card.specs.declared.Card.{Card}
use Rattle.row.specs.Row.{card_of, cards_of}

cards_snoc : (us : List ℕ) (u : ℕ) → cards_of (us ++ u ∷ []) ≡ cards_of us ++ card_of u ∷ []
unfolding cards_of
cards_snoc [] u = refl
cards_snoc (v ∷ us) u = ap (λ (cs : List Card). card_of v ∷ cs) (cards_snoc us u)

pub take_cards : (n : ℕ) (us : List ℕ) → take n (cards_of us) ≡ cards_of (take n us)
unfolding cards_of
take_cards zero us = refl
take_cards (suc n) [] = refl
take_cards (suc n) (u ∷ us) = ap (λ (cs : List Card). card_of u ∷ cs) (take_cards n us)

pub dealt_more : (us : List ℕ) (row : List Card) (i : ℕ) {c : Card} → i < length us → i < length row → take i row ≡ cards_of (take i us) → c ≡ card_of (get_or us i 0)
    → take (i + 1) (set row i c) ≡ cards_of (take (i + 1) us)
dealt_more us row i {c} l m h e =
    ap (λ (j : ℕ). take j (set row i c)) one ∙ take-suc-set row i c m ∙ (λ k. h k ++ e k ∷ [])
    ∙ sym (cards_snoc (take i us) (get_or us i 0)) ∙ ap cards_of (sym (take-suc us i 0 l)) ∙ ap (λ (j : ℕ). cards_of (take j us)) (sym one)
  where
    one : i + 1 ≡ suc i
    one = omega arith

pub dealt_all : (us : List ℕ) (row : List Card) (i : ℕ) → length us ≤ i → length row ≤ i → take i row ≡ cards_of (take i us) → row ≡ cards_of us
dealt_all us row i l m h = sym (take_all i row m) ∙ h ∙ ap cards_of (take_all i us l)
