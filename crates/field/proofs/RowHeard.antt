-- What is sent reaches a row: every tag stands at the walk's slot, and the replies are the messages of those that the slot calls.
-- By induction over the row, from what one tag does. Assumes nothing.
use mathlib.Core.Path.{◌≡◌, refl, ap, ◌∙◌}
use mathlib.Core.Bool.{Bool, true, false, cond}
use Prim.Native.Nat.{ℕ}
use mathlib.Core.List.{List, [], ◌∷◌}
use lib.Dec.{eqb}
use lib.ListN.{length, take}
use Rattle.card.specs.declared.Card.{Card}
use Rattle.walk.specs.declared.Walk.{Walk}
use Rattle.walk.specs.Record.{whole_mask}
use Rattle.walk.specs.declared.Send.{Send}
use Rattle.play.specs.Life.{Tag, tag_after}
use Rattle.field.specs.Field.{Obeys, reached, tags_after, replies}
use Rattle.field.specs.Demand.{AllObey}
use Rattle.field.specs.Demand as demand
use Rattle.field.proofs.InTime.{calls, AtSlot, Both, none, more}
use Rattle.field.proofs.TagHeard.{stepped}
use Rattle.field.proofs.TagStepped.{stepped_at, stepped_told, stepped_bytes}
use Rattle.field.proofs.Callers.{callers, messages}

module _ (family : ℕ) (w : Walk) (send : Send) (sent : List ℕ) where
  -- a tag t that was t₀ at the start hears
  pub record Hears (t₀ t : Tag) : Type 0 where
    pub after : reached send sent t ≡ stepped family w t₀ t.room
    pub room : length t.room ≡ length t₀.room

  tag_at : (t₀ t : Tag) → Obeys t₀ → Hears t₀ t → AtSlot family w.level (whole_mask w) w.slot t₀ (tag_after (reached send sent t))
  tag_at t₀ t o h = rw h.after (stepped_at family w t₀ t.room o h.room)

  pub row_at : (ts₀ ts : List Tag) → AllObey ts₀ → Both Hears ts₀ ts
      → Both (AtSlot family w.level (whole_mask w) w.slot) ts₀ (tags_after send sent ts)
  unfolding tags_after
  row_at [] [] demand.none none = none
  row_at (t₀ ∷ ts₀) (t ∷ ts) (demand.more o os) (more h hs) = more (tag_at t₀ t o h) (row_at ts₀ ts os hs)
  row_at [] (t ∷ ts) _ b = elim b [ ]
  row_at (t₀ ∷ ts₀) [] _ b = elim b [ ]

  -- a tag speaks exactly if it is called
  said : (t₀ : Tag) (found : List ℕ) (rs : List (List ℕ)) (cs : List Card) (b : Bool) → calls family w t₀.card ≡ b → rs ≡ messages cs
      → cond (eqb (stepped family w t₀ found).told 0) rs (take (stepped family w t₀ found).told (stepped family w t₀ found).answer ∷ rs)
      ≡ messages (cond b (t₀.card ∷ cs) cs)
  unfolding messages
  said t₀ found rs cs true e same =
      let told : (stepped family w t₀ found).told ≡ 12 = stepped_told family w t₀ found ∙ ap (λ (b : Bool). cond b 12 0) e in
      rw (told, stepped_bytes family w t₀ found e, same)
  said t₀ found rs cs false e same =
      let told : (stepped family w t₀ found).told ≡ 0 = stepped_told family w t₀ found ∙ ap (λ (b : Bool). cond b 12 0) e in
      rw (told, same)

  pub row_replies : (ts₀ ts : List Tag) → Both Hears ts₀ ts → replies send sent ts ≡ messages (callers family w ts₀)
  unfolding replies callers messages
  row_replies [] [] none = refl
  row_replies (t₀ ∷ ts₀) (t ∷ ts) (more h hs) =
      rw h.after
      (said t₀ t.room (replies send sent ts) (callers family w ts₀) (calls family w t₀.card) refl (row_replies ts₀ ts hs))
  row_replies [] (t ∷ ts) b = elim b [ ]
  row_replies (t₀ ∷ ts₀) [] b = elim b [ ]

-- a law for each tag is one for the row
pub both_map : {P Q : Tag → Tag → Type 0} (ts₀ ts : List Tag) → AllObey ts₀ → ((t₀ t : Tag) → Obeys t₀ → P t₀ t → Q t₀ t) → Both P ts₀ ts
    → Both Q ts₀ ts
both_map [] [] demand.none f none = none
both_map (t₀ ∷ ts₀) (t ∷ ts) (demand.more o os) f (more p ps) = more (f t₀ t o p) (both_map ts₀ ts os f ps)
both_map [] (t ∷ ts) _ f b = elim b [ ]
both_map (t₀ ∷ ts₀) [] _ f b = elim b [ ]
