-- Demand 3 on the coil: a walk hears of all cards what it would hear in 01's air of those that are left where of cards alike only the last counts.
-- By induction over the cards, and demand 3 for any air that brings what some UIDs bring. Assumes nothing.
use mathlib.Core.Path.{◌≡◌, refl, sym, ap, ap₂, ◌∙◌}
use mathlib.Core.Bool.{Bool, true, false, cond, ◌&&◌, ◌||◌}
use Prim.Native.Nat.{ℕ, ◌/◌, ◌%◌, ◌^◌, ◌≤◌, ◌<◌}
use native.Mathlib.Omega.{arith}
use mathlib.Core.List.{List, [], ◌∷◌}
use lib.ListN.{get_or}
use Rattle.lent.specs.Bytes.{Bytes}
use Rattle.lent.proofs.Bytes.{bytes_none, bytes_cons, bytes_append}
use Rattle.crc.specs.Check.{check_of, check_bytes, sealed}
use Rattle.crc.proofs.Seal.{check_fits}
use Rattle.frames.specs.Field.{field_bytes}
use Rattle.frames.specs.Frame.{shortest_answer, longest_answer}
use Rattle.frames.proofs.Fields.{field_bytes_are_bytes}
use Rattle.slots.specs.Fits.{fits_slot}
use Rattle.tails.specs.Sum.{tally, times}
use Rattle.coil.specs.Read.{Codable}
use Rattle.coil.specs.Overlay.{Answers}
use Rattle.coil.specs.Overlay as coil
use Rattle.card.specs.declared.Card.{Card}
use Rattle.play.specs.Life.{Tag}
use Rattle.play.specs.Answer.{presence}
use Rattle.walk.specs.declared.Walk.{Walk}
use Rattle.walk.specs.Marks.{levels}
use Rattle.walk.specs.Record.{mask_length, whole_mask}
use Rattle.walk.specs.Hear.{uid_of}
use Rattle.field.specs.Field.{answers, answering, arrives}
use Rattle.field.specs.Found.{BeginE0}
use Rattle.field.specs.Foreign.{as_heard}
use Rattle.field.specs.Demand.{AllObey}
use Rattle.field.specs.Demand as demand
use Rattle.field.proofs.InTime.{calls}
use Rattle.field.proofs.Reply.{message, message_bytes, length_message, message_uid, message_dsfid}
use Rattle.field.proofs.Callers.{callers, messages}
use Rattle.field.proofs.PlayedSlot.{Brings, arrives_brings}
use Rattle.field.proofs.Suited.{e0_suit}
use Rattle.field.proofs.Demand3.{walk_of_an_air}
use Rattle.field.proofs.Foreign.{as_heard_begin, any_brings, any_found}
use Rattle.chorus.specs.Air.{coil_air, same_bytes, is_repeated, different_rows, CoilArrives}
use Rattle.chorus.specs.Different.{Said, said, alike, said_by, is_among, distinct, different_answers, uids_of}
use Rattle.chorus.specs.Demand.{DsfidsFit, none, more, on_coil_played, CoilDemand3, CoilAnyUids}
use Rattle.chorus.proofs.Air.{same_self, same_true, coil_arrives}
use Rattle.chorus.proofs.Different.{saying, alike_self, alike_true}

-- "two cards alike in UID and DSFID count as one": of those that answer and are alike, the last
unfoldable apart : ℕ → List Tag → List Tag
apart family [] = []
apart family (t ∷ ts) = cond (answers family t.card && is_among (said t.card) (said_by family ts)) (apart family ts) (t ∷ apart family ts)

apart_obey : (family : ℕ) (ts : List Tag) → AllObey ts → AllObey (apart family ts)
unfolding apart
apart_obey family [] demand.none = demand.none
apart_obey family (t ∷ ts) (demand.more o os) =
    go (answers family t.card && is_among (said t.card) (said_by family ts)) (apart_obey family ts os)
  where
    go : (b : Bool) → AllObey (apart family ts) → AllObey (cond b (apart family ts) (t ∷ apart family ts))
    go true rest = rest
    go false rest = demand.more o rest

-- where all begin with E0 these do
apart_few : (family : ℕ) (ts : List Tag) (u : ℕ) → times u (answering family (apart family ts)) ≤ times u (answering family ts)
unfolding apart answering times tally
apart_few family [] u = omega arith
apart_few family (t ∷ ts) u = go (answers family t.card) (is_among (said t.card) (said_by family ts)) refl (apart_few family ts u)
  where
    go : (a s : Bool) → answers family t.card ≡ a → times u (answering family (apart family ts)) ≤ times u (answering family ts)
        → times u (answering family (cond (a && s) (apart family ts) (t ∷ apart family ts)))
        ≤ times u (cond a (t.card.uid ∷ answering family ts) (answering family ts))
    go true true p rest = omega arith
    go true false p rest = rw p (omega arith)
    go false s p rest = rw p rest

apart_begin : (family : ℕ) (ts : List Tag) → BeginE0 (answering family ts) → BeginE0 (answering family (apart family ts))
unfolding BeginE0
apart_begin family ts begin u h = begin u (omega (arith, h, apart_few family ts u))

-- their UIDs are those of the different answers
answering_apart : (family : ℕ) (ts : List Tag) → answering family (apart family ts) ≡ uids_of (different_answers family ts)
unfolding apart answering different_answers distinct said_by uids_of
answering_apart family [] = refl
answering_apart family (t ∷ ts) = go (answers family t.card) (is_among (said t.card) (said_by family ts)) refl refl (answering_apart family ts)
  where
    go : (a s : Bool) → answers family t.card ≡ a → is_among (said t.card) (said_by family ts) ≡ s
        → answering family (apart family ts) ≡ uids_of (distinct (said_by family ts))
        → answering family (cond (a && s) (apart family ts) (t ∷ apart family ts))
        ≡ uids_of (distinct (cond a (said t.card ∷ said_by family ts) (said_by family ts)))
    go true true p q rest = rw q rest
    go true false p q rest = rw (p, q) (ap (λ (us : List ℕ). t.card.uid ∷ us) rest)
    go false s p q rest = rw p rest

-- ---- messages are the same exactly if the cards are alike

both_ways : (a b : Bool) → (a ≡ true → b ≡ true) → (b ≡ true → a ≡ true) → a ≡ b
both_ways true b f g = sym (f refl)
both_ways false true f g = g refl
both_ways false false f g = refl

message_said : (c d : Card) → said c ≡ said d → message c ≡ message d
message_said c d e = message_bytes c ∙ ap (λ (a : Said). sealed (0x00 ∷ a.dsfid ∷ field_bytes 8 a.uid)) e ∙ sym (message_bytes d)

said_message : (c d : Card) → c.uid < 2 ^ 64 → d.uid < 2 ^ 64 → message c ≡ message d → said c ≡ said d
said_message c d h g e =
    ap₂ saying (sym (message_uid c h) ∙ ap uid_of e ∙ message_uid d g) (sym (message_dsfid c) ∙ ap (λ (m : List ℕ). get_or m 1 0) e ∙ message_dsfid d)

message_alike : (c d : Card) → c.uid < 2 ^ 64 → d.uid < 2 ^ 64 → same_bytes (message c) (message d) ≡ alike (said c) (said d)
message_alike c d h g =
    both_ways (same_bytes (message c) (message d)) (alike (said c) (said d))
    (λ e. ap (alike (said c)) (sym (said_message c d h g (same_true (message c) (message d) e))) ∙ alike_self (said c))
    (λ e. ap (same_bytes (message c)) (sym (message_said c d (alike_true (said c) (said d) e))) ∙ same_self (message c))

-- ---- the different messages of a slot

module _ (family : ℕ) (w : Walk) where
  abbrev fits : Card → Bool
  fits c = fits_slot c.uid (mask_length w.level) (whole_mask w) w.slot

  -- cards alike fit the same slots
  unlike : (c d : Card) → fits c ≡ true → fits d ≡ false → alike (said c) (said d) ≡ false
  unlike c d h g = go (alike (said c) (said d)) refl
    where
      go : (b : Bool) → alike (said c) (said d) ≡ b → b ≡ false
      go true e = sym h ∙ ap (λ (a : Said). fits_slot a.uid (mask_length w.level) (whole_mask w) w.slot) (alike_true (said c) (said d) e) ∙ g
      go false e = refl

  repeated_among : (c : Card) (ts : List Tag) → AllObey ts → c.uid < 2 ^ 64 → fits c ≡ true
      → is_repeated (message c) (messages (callers family w ts)) ≡ is_among (said c) (said_by family ts)
  unfolding callers messages is_repeated is_among said_by calls
  repeated_among c [] demand.none h f = refl
  repeated_among c (t ∷ ts) (demand.more o os) h f = go (answers family t.card) (fits t.card) refl (repeated_among c ts os h f)
    where
      go : (a b : Bool) → fits t.card ≡ b → is_repeated (message c) (messages (callers family w ts)) ≡ is_among (said c) (said_by family ts)
          → is_repeated (message c) (messages (cond (a && b) (t.card ∷ callers family w ts) (callers family w ts)))
          ≡ is_among (said c) (cond a (said t.card ∷ said_by family ts) (said_by family ts))
      go true true e rest = ap₂ ◌||◌ (message_alike c t.card h o.uid_fits) rest
      go true false e rest = rw (unlike c t.card f e) rest
      go false b e rest = rest

  different_callers : (ts : List Tag) → AllObey ts → different_rows (messages (callers family w ts)) ≡ messages (callers family w (apart family ts))
  unfolding callers messages different_rows apart calls
  different_callers [] demand.none = refl
  different_callers (t ∷ ts) (demand.more o os) =
      go (answers family t.card) (fits t.card) (is_among (said t.card) (said_by family ts)) refl refl refl (different_callers ts os)
    where
      go : (a b s : Bool) → answers family t.card ≡ a → fits t.card ≡ b → is_among (said t.card) (said_by family ts) ≡ s
          → different_rows (messages (callers family w ts)) ≡ messages (callers family w (apart family ts))
          → different_rows (messages (cond (a && b) (t.card ∷ callers family w ts) (callers family w ts)))
          ≡ messages (callers family w (cond (a && s) (apart family ts) (t ∷ apart family ts)))
      go true true true p q r rest = rw (repeated_among t.card ts os o.uid_fits q, r) rest
      go true true false p q r rest =
          rw (repeated_among t.card ts os o.uid_fits q, r, p, q) (ap (λ (ms : List (List ℕ)). message t.card ∷ ms) rest)
      go true false true p q r rest = rest
      go true false false p q r rest = rw (p, q) rest
      go false b s p q r rest = rw p rest

-- ---- they are answers of bytes

check_are_bytes : (m : List ℕ) → Bytes (check_bytes m)
unfolding check_bytes
check_are_bytes m =
    bytes_cons (check_of m % 256) (check_of m / 256 ∷ []) (omega arith) (bytes_cons (check_of m / 256) [] (omega (arith, check_fits m)) bytes_none)

message_answer : (c : Card) → c.dsfid < 256 → Codable (message c)
unfolding message presence sealed shortest_answer longest_answer
message_answer c h =
    let uid : List ℕ = field_bytes 8 c.uid in
    let body : List ℕ = 0x00 ∷ c.dsfid ∷ uid in
    let flags : Bytes body = bytes_cons 0x00 (c.dsfid ∷ uid) (omega arith) (bytes_cons c.dsfid uid h (field_bytes_are_bytes 8 c.uid)) in
    record {
      bytes = bytes_append body (check_bytes body) flags (check_are_bytes body);
      least = omega (arith, length_message c);
      most = omega (arith, length_message c);
    }

callers_answer : (family : ℕ) (w : Walk) (ts : List Tag) → DsfidsFit ts → Answers (messages (callers family w ts))
unfolding callers messages
callers_answer family w [] none = coil.none
callers_answer family w (t ∷ ts) (more h hs) = go (calls family w t.card) (callers_answer family w ts hs)
  where
    go : (b : Bool) → Answers (messages (callers family w ts)) → Answers (messages (cond b (t.card ∷ callers family w ts) (callers family w ts)))
    go true rest = coil.more (message_answer t.card h) rest
    go false rest = rest

-- ---- demand 3

-- what the coil brings of all cards is what 01's air brings of those that are left
coil_brings_apart : (us : List ℕ) (family : ℕ) (tags : List Tag) → AllObey tags → DsfidsFit tags → Brings arrives levels us family (apart family tags)
    → Brings coil_air levels us family tags
unfolding CoilArrives
coil_brings_apart us family tags obey marked brings w long same accepted =
    rw (coil_arrives (messages (callers family w tags)) (callers_answer family w tags marked), different_callers family w tags obey)
    (brings w long same accepted)

pub coil_demand3 : CoilDemand3
unfolding CoilDemand3 on_coil_played
coil_demand3 family tags list room obey marked begin places fits =
    let us : List ℕ = answering family (apart family tags) in
    let begins : BeginE0 us = apart_begin family tags begin in
    let brings : Brings arrives levels us family (apart family tags) =
    arrives_brings levels family (apart family tags) (apart_obey family tags obey) (e0_suit us begins).starts in
    rw (← answering_apart family tags)
    (walk_of_an_air coil_air us family tags list room begins obey (coil_brings_apart us family tags obey marked brings) places fits)

pub coil_any_uids : CoilAnyUids
unfolding CoilAnyUids on_coil_played
coil_any_uids family tags list room obey marked places fits =
    let us : List ℕ = answering family (apart family tags) in
    rw (← answering_apart family tags)
    (any_found us _ _
    (walk_of_an_air coil_air (as_heard us) family tags list room (as_heard_begin us) obey
    (coil_brings_apart (as_heard us) family tags obey marked (any_brings family (apart family tags) (apart_obey family tags obey))) places fits).found)
