-- The answer in the air: what a card's reply makes of it, byte for byte how it is written, and what the walk makes of it. By computation.
-- Assumes nothing.
use Prim.Native.Nat.{ℕ}
use mathlib.Core.List.{List, [], ◌∷◌}
use mathlib.Core.Bool.{Bool, true, false, cond}
use mathlib.Core.Path.{◌≡◌, refl, ◌∙◌, ap}
use lib.Dec.{eqb}
use lib.IntN.{ℤ}
use Rattle.std.specs.Prelude.{Result, Ok, Err}
use Rattle.std.specs.Result.{result_unwrap_or}
use Rattle.refusals.specs.declared.Refusal.{Refusal}
use Rattle.lent.specs.Lent.{over, placed}
use Rattle.crc.specs.Check.{check_bytes, sealed}
use Rattle.frames.specs.Field.{field_bytes, put_leaves, PutsField}
use Rattle.frames.specs.Frame.{seal_leaves, Seals}
use Rattle.card.specs.declared.Card.{Card}
use Rattle.card.specs.declared.Reply.{Reply}
use Rattle.card.specs.declared.Reply.TheVariants as reply
use Rattle.walk.specs.declared.Walk.{Walk}
use Rattle.walk.specs.declared.Kind.{Kind}
use Rattle.walk.specs.declared.Kind.TheVariants as kinds
use Rattle.walk.specs.Hear.{judged, Hearing, hearing, walk_of, Hears}
use Rattle.row.specs.declared.Air.{Air}
use Rattle.row.specs.declared.Desk.{Desk}
use Rattle.row.specs.Row.{crowded, air_with, air_kind, air_bytes, desk_after}
use Rattle.row.specs.Steps.{no_answer, bytes_heard}

-- a reply that is neither silence nor present, as the last arm of the match has it
pub other_crowds : (air : Air) (c : Card) (r : Reply) → (r ≡ reply.Silence → ⊥) → (r ≡ reply.Present → ⊥) → crowded air ≡ air_with air c r
unfolding air_with
other_crowds air c reply.Silence s p = absurd (s refl)
other_crowds air c (reply.Error code) s p = refl
other_crowds air c reply.Done s p = refl
other_crowds air c reply.Present s p = absurd (p refl)
other_crowds air c (reply.Blocks first n option) s p = refl
other_crowds air c (reply.Status first n) s p = refl
other_crowds air c reply.Information s p = refl

-- room for an answer, with the DSFID
abbrev pub begun : ℕ → List ℕ
begun dsfid = 0 ∷ dsfid ∷ 0 ∷ 0 ∷ 0 ∷ 0 ∷ 0 ∷ 0 ∷ 0 ∷ 0 ∷ 0 ∷ 0 ∷ []

pub answer_sealed : (air : Air) {first second : List ℕ} {r q : ℤ} → PutsField (begun air.dsfid) 2 8 air.uid r first → Seals first 10 q second → second ≡ air_bytes air
unfolding air_bytes put_leaves placed field_bytes seal_leaves over sealed check_bytes
answer_sealed air h k = k.leaves ∙ ap (λ (bs : List ℕ). seal_leaves bs 10) h.leaves

-- a slot that is silent or a clash is heard alike whatever bytes are handed over
heard_alike : (w : Walk) (full blank list : List ℕ) (none one : Bool)
    → hearing w (cond none kinds.Silence (cond one kinds.Bytes kinds.Clash)) (cond one full blank) list
    ≡ hearing w (cond none kinds.Silence (cond one kinds.Bytes kinds.Clash)) full list
unfolding hearing judged
heard_alike w full blank list true true = refl
heard_alike w full blank list true false = refl
heard_alike w full blank list false true = refl
heard_alike w full blank list false false = refl

bytes_heard_lem : (d : Desk) (air : Air) → hearing d.walk (air_kind air) (bytes_heard air) d.list ≡ hearing d.walk (air_kind air) (air_bytes air) d.list
unfolding air_kind bytes_heard
bytes_heard_lem d air = heard_alike d.walk (air_bytes air) no_answer d.list (eqb air.answers 0) (eqb air.answers 1)

-- the next walk, or the one that stays
next_of : (w : Walk) (r : Result Walk Refusal) → result_unwrap_or r w ≡ walk_of w r
unfolding walk_of
next_of w (Ok next) = refl
next_of w (Err refusal) = refl

pub desk_heard : (d : Desk) (air : Air) {kind : Kind} {bytes list : List ℕ} {r : Result Walk Refusal} {next : Walk} → kind ≡ air_kind air → bytes ≡ bytes_heard air
    → Hears d.walk (hearing d.walk kind bytes d.list) r list → next ≡ result_unwrap_or r d.walk → record { walk = next; list = list } ≡ desk_after d air
unfolding desk_after
desk_heard d air {r = r} k b h is =
    let alike : hearing d.walk _ _ d.list ≡ hearing d.walk (air_kind air) (air_bytes air) d.list = (λ j. hearing d.walk (k j) (b j) d.list) ∙ bytes_heard_lem d air in
    λ i. record {
      walk = (is ∙ next_of d.walk r ∙ h.walk ∙ ap (λ (x : Hearing). x.walk) alike) i;
      list = (h.list_left ∙ ap (λ (x : Hearing). x.list) alike) i;
    }
