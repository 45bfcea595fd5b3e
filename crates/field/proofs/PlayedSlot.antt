-- A slot played over cards is the slot that their UIDs bring: the request is parsed, the marks counted, the answers read back.
-- By the card's definition of its events and the walk's of hearing and asking. Assumes nothing.
use mathlib.Core.Path.{◌≡◌, refl, sym, ap, subst, subst⁻¹, ◌∙◌}
use mathlib.Core.Bool.{true, false}
use Prim.Native.Nat.{ℕ, ◌^◌, ◌≤◌, ◌<◌}
use native.Mathlib.Omega.{arith}
use mathlib.Core.List.{List, [], ◌∷◌}
use lib.ListN.{length}
use Rattle.walk.specs.declared.Walk.{Walk}
use Rattle.walk.specs.declared.Slot.{Slot}
use Rattle.walk.specs.Record.{levels_of, mask_length, whole_mask, is_accepted, is_running}
use Rattle.walk.specs.Hear.{judged, has_place, walk_after, list_after}
use Rattle.walk.specs.Ask.{sent, room_after, Asking, asking}
use Rattle.walk.proofs.HearWays.{walk_heard, ended_heard}
use Rattle.walk.proofs.Limits.{Accepted, accepted_of_is_accepted}
use Rattle.tails.proofs.Apart.{ending_among}
use Rattle.play.specs.Life.{Tag}
use Rattle.field.specs.Field.{answering, tags_after, replies, Arrival, arrives}
use Rattle.field.specs.Played.{Play, slot_played_by, slot_played}
use Rattle.field.specs.Demand.{AllObey}
use Rattle.field.specs.Demand as demand
use Rattle.field.proofs.Called.{called, slot_of, slot_heard, Starts}
use Rattle.field.proofs.InTime.{AtSlot, Follows, Both, none, more, Before}
use Rattle.field.proofs.InStep.{slot_follows, self_follows}
use Rattle.field.proofs.Callers.{called_callers, callers_fit, callers_judged, callers, messages}
use Rattle.field.proofs.RowHeard.{row_at, row_replies, both_map}
use Rattle.field.proofs.RowAsked.{walk_asked, row_hears}
use Rattle.field.proofs.WalkServed.{room_left, ended_asked, nothing_reached}

-- of an air: what it brings of the messages of the cards that a slot of a walk of so many levels calls is judged to be what the UIDs us bring
abbrev pub Brings : (List (List ℕ) → Arrival) → ℕ → List ℕ → ℕ → List Tag → Type 0
Brings air levels us family tags₀ =
    (w : Walk) → length w.marks ≡ levels → w.family ≡ family → Accepted w
    → let heard : Arrival = air (messages (callers family w tags₀)) in
    judged w heard.kind heard.bytes ≡ slot_of (called us w)

-- a slot of a walk that hears, before it is heard: what is judged of what arrives, the room, and the cards
pub record Arrived (air : List (List ℕ) → Arrival) (us : List ℕ) (family : ℕ) (tags₀ : List Tag) (w : Walk) (room₀ : List ℕ) (ts : List Tag) : Type 0 where
  pub heard : let a : Asking = asking w room₀ in
      let h : Arrival = air (replies a.send a.room ts) in
      judged w h.kind h.bytes ≡ slot_of (called us w)
  pub room : length (asking w room₀).room ≡ length room₀
  pub tags : Both (AtSlot family w.level (whole_mask w) w.slot) tags₀ (tags_after (asking w room₀).send (asking w room₀).room ts)

-- and when it is heard, with a list of the walk's own
pub record SlotPlayedOf (us : List ℕ) (family : ℕ) (tags₀ : List Tag) (p q : Play) : Type 0 where
  pub walk : q.walk ≡ walk_after p.walk (slot_of (called us p.walk)) (has_place p.walk)
  pub list : q.list ≡ list_after p.walk (slot_of (called us p.walk)) (has_place p.walk) p.walk.count p.list
  pub room : length q.room ≡ length p.room
  pub tags : Both (AtSlot family p.walk.level (whole_mask p.walk) p.walk.slot) tags₀ q.tags

module _ (air : List (List ℕ) → Arrival) (us : List ℕ) where
  -- by the walk's own family
  own_arrives : (tags₀ : List Tag) (w : Walk) (room : List ℕ) (ts : List Tag) → AllObey tags₀ → Brings air (length w.marks) us w.family tags₀
      → is_accepted w ≡ true → w.level < 16 → is_running w ≡ true → 14 ≤ length room → Before w.family w.level (whole_mask w) w.slot tags₀ ts
      → Arrived air us w.family tags₀ w room ts
  own_arrives tags₀ w room ts obey brings accepted level running fits before =
      let within : Accepted w = accepted_of_is_accepted w accepted in
      let hears = row_hears w tags₀ ts room obey within level running before in
      let asked = walk_asked w room accepted fits in
      record {
        heard = rw (asked, row_replies w.family w (sent w) (room_after w (sent w) room) tags₀ ts hears) (brings w refl refl within);
        room = rw asked (room_left w (sent w) room level fits);
        tags = rw asked (row_at w.family w (sent w) (room_after w (sent w) room) tags₀ ts obey hears);
      }

  -- what arrives is judged to be what the UIDs bring
  pub slot_arrives : (family : ℕ) (tags₀ : List Tag) (w : Walk) (room : List ℕ) (ts : List Tag) → AllObey tags₀
      → Brings air (length w.marks) us family tags₀
      → is_accepted w ≡ true → w.level < 16 → is_running w ≡ true → w.family ≡ family → 14 ≤ length room
      → Before family w.level (whole_mask w) w.slot tags₀ ts → Arrived air us family tags₀ w room ts
  slot_arrives family tags₀ w room ts obey brings accepted level running same fits before =
      subst (λ (f : ℕ). Arrived air us f tags₀ w room ts) same
      (own_arrives tags₀ w room ts obey (subst⁻¹ (λ (f : ℕ). Brings air (length w.marks) us f tags₀) same brings) accepted level running fits
      (subst⁻¹ (λ (f : ℕ). Before f w.level (whole_mask w) w.slot tags₀ ts) same before))

  pub slot_played_by_lem : (family : ℕ) (tags₀ : List Tag) (p : Play) → AllObey tags₀ → Brings air (length p.walk.marks) us family tags₀
      → is_accepted p.walk ≡ true → p.walk.level < 16 → is_running p.walk ≡ true → p.walk.family ≡ family → 64 ≤ length p.list → 14 ≤ length p.room
      → Before family p.walk.level (whole_mask p.walk) p.walk.slot tags₀ p.tags → SlotPlayedOf us family tags₀ p (slot_played_by air p)
  unfolding slot_played_by
  slot_played_by_lem family tags₀ p obey brings accepted level running same places fits before =
      let w : Walk = p.walk in
      let a : Asking = asking w p.room in
      let arrived = slot_arrives family tags₀ w p.room p.tags obey brings accepted level running same fits before in
      let h : Arrival = air (replies a.send a.room p.tags) in
      rw (walk_heard w h.kind h.bytes p.list accepted running places)
      (record {
        walk = ap (λ (slot : Slot). walk_after w slot (has_place w)) arrived.heard;
        list = ap (λ (slot : Slot). list_after w slot (has_place w) w.count p.list) arrived.heard;
        room = arrived.room;
        tags = arrived.tags;
      })

-- an ended walk hears no more, and sends nothing
pub ended_played_by : (air : List (List ℕ) → Arrival) (p : Play) → is_accepted p.walk ≡ true → is_running p.walk ≡ false → slot_played_by air p ≡ p
unfolding slot_played_by
ended_played_by air p accepted ended =
    rw (ended_asked p.walk p.room accepted ended, ended_heard p.walk _ _ p.list accepted ended, nothing_reached p.room p.tags)

-- ---- 01's air: one reply whole, two or more a clash

-- what it brings of the cards that a slot calls
pub arrives_heard : (family : ℕ) (tags₀ : List Tag) (w : Walk) → AllObey tags₀ → Accepted w
    → judged w (arrives (messages (callers family w tags₀))).kind (arrives (messages (callers family w tags₀))).bytes
    ≡ slot_heard (levels_of w) (called (answering family tags₀) w)
arrives_heard family tags₀ w obey fits =
    callers_judged w (callers family w tags₀) (callers_fit family w tags₀ obey)
    ∙ ap (slot_heard (levels_of w)) (sym (called_callers family w tags₀ fits.mask (omega (arith, fits.slot))))

-- where all begin with E0 that is what their UIDs bring
pub starts_heard : (levels : ℕ) (us xs : List ℕ) (w : Walk) → Starts levels us → called us w ≡ xs → slot_heard levels xs ≡ slot_of xs
unfolding slot_heard slot_of Starts called
starts_heard levels us [] w starts e = refl
starts_heard levels us (x ∷ []) w starts e = rw (starts x (ending_among _ _ x us [] e))
starts_heard levels us (x ∷ y ∷ xs) w starts e = refl

pub arrives_brings : (levels family : ℕ) (tags₀ : List Tag) → AllObey tags₀ → Starts levels (answering family tags₀)
    → Brings arrives levels (answering family tags₀) family tags₀
unfolding levels_of
arrives_brings levels family tags₀ obey starts w long same fits =
    arrives_heard family tags₀ w obey fits
    ∙ ap (λ (n : ℕ). slot_heard n (called (answering family tags₀) w)) long
    ∙ starts_heard levels (answering family tags₀) (called (answering family tags₀) w) w starts refl

abbrev pub SlotPlayed : ℕ → List Tag → Play → Play → Type 0
SlotPlayed family tags₀ p q = SlotPlayedOf (answering family tags₀) family tags₀ p q

pub slot_played_lem : (family : ℕ) (tags₀ : List Tag) (p : Play) → AllObey tags₀ → Starts (length p.walk.marks) (answering family tags₀)
    → is_accepted p.walk ≡ true → p.walk.level < 16 → is_running p.walk ≡ true → p.walk.family ≡ family → 64 ≤ length p.list → 14 ≤ length p.room
    → Before family p.walk.level (whole_mask p.walk) p.walk.slot tags₀ p.tags → SlotPlayed family tags₀ p (slot_played p)
slot_played_lem family tags₀ p obey starts =
    slot_played_by_lem arrives (answering family tags₀) family tags₀ p obey (arrives_brings (length p.walk.marks) family tags₀ obey starts)

pub ended_played : (p : Play) → is_accepted p.walk ≡ true → is_running p.walk ≡ false → slot_played p ≡ p
ended_played p = ended_played_by arrives p

-- ---- the row after a slot

-- a row at a slot follows, whatever the next round asks
pub at_slot_follows : (family level mask s : ℕ) (ts₀ ts : List Tag) → AllObey ts₀ → level < 16 → s < 16
    → mask < 2 ^ mask_length level → Both (AtSlot family level mask s) ts₀ ts → Both Follows ts₀ ts
at_slot_follows family level mask s ts₀ ts obey h g f b = both_map ts₀ ts obey (λ t₀ t o a. slot_follows family level mask s t₀ t h g f o a) b

-- and every row follows itself
pub follows_self : (ts : List Tag) → AllObey ts → Both Follows ts ts
follows_self [] demand.none = none
follows_self (t ∷ ts) (demand.more o os) = more (self_follows t o) (follows_self ts os)
