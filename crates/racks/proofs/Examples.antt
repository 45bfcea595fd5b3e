-- The cases of 02, worked out slot by slot over the UIDs: 25 different cards and 27 of which two are alike end full over a list with 40 rows of the other
-- rack; a UID heard by both takes a row in each. And the refusals in 02's numbers. Assumes nothing.
use mathlib.Core.Path.{◌≡◌, refl, sym, ap, ap₂, subst⁻¹, ◌∙◌}
use mathlib.Core.Bool.{true, false, cond, ◌&&◌, Bool, ◌||◌, and-eq-true_iff}
use mathlib.Core.List.{List, [], ◌∷◌}
use Prim.Native.Nat.{ℕ, zero, suc, ◌+◌, ◌*◌, ◌/◌, ◌%◌, ◌^◌, ◌≤◌, ◌<◌}
use native.Mathlib.Decide.{dec_lt, ℕ_discrete}
use native.Mathlib.Omega.{arith}
use borrow.Author.Tests.{lt-ltb, le-ltb, eqb-true}
use lib.Dec.{ltb, eqb, leb}
use lib.ListN.{length, set, length-set, replicate, take}
use Rattle.lent.specs.Lent.{over}
use Rattle.tails.specs.Sum.{one, tally, times}
use Rattle.tails.proofs.Tally.{tally_ending, length_ending}
use Rattle.walk.specs.declared.Walk.{Walk}
use Rattle.walk.specs.declared.Kind.{Kind}
use Rattle.walk.specs.declared.Slot.{Slot}
use Rattle.walk.specs.declared.Slot.TheVariants.{Silent, Clashed, Clean}
use Rattle.walk.specs.Marks.{levels, waits, with_mark, without_mark, lowest_from, lowest, deepest_of, deepest}
use Rattle.walk.specs.Record.{places, levels_of, most_rounds, mask_length, whole_mask, low_half, high_half, is_running, remade, ended, counted, marked, at_next_slot, opened_mask, opened_at, opened, no_marks, started_of, started, is_accepted}
use Rattle.walk.specs.Hear.{judged, ends_at_once, noted, list_noted, turned, passed, walk_after, list_after}
use Rattle.walk.specs.Shared.{marks_of, rows_with, uids_with, list_of, first_free, lowest_free, is_rack, are_marks, owners_fit, list_fits, most_rows, shares_fit, start_refusal, hear_refusal, freed_of, freed, has_row, owners_after, shared_hearing, Starting, starting, SharedHearing}
use Rattle.walk.specs.Ask.{asking}
use Rattle.walk.proofs.Accepted.{started_accepted}
use Rattle.walk.proofs.Owners.{rows_with_all}
use Rattle.walk.proofs.SharedWays.{start_served_of, shared_started, start_refused, SharedServed, shared_served_of, shared_heard, shared_refused}
use Rattle.play.specs.Life.{Tag}
use Rattle.field.specs.Field.{answering, replies, Arrival, arrives}
use Rattle.field.specs.Found.{BeginE0}
use Rattle.field.proofs.Suited.{e0_suit, begin_none, begin_more}
use Rattle.field.proofs.PlayedSlot.{Brings, arrives_brings}
use Rattle.field.specs.Demand.{AllObey}
use Rattle.field.proofs.Called.{called, slot_of}
use Rattle.field.proofs.Stages.{hears, rests, running_of}
use Rattle.racks.specs.Calls.{OneList, Shareable, owned}
use Rattle.racks.specs.Rack.{Desk, own, slot_played_on, event_played, played_on, started_on}
use Rattle.racks.specs.Examples.{forty_owned, twenty_five, two_alike, desk_of_case, MayEndFull, OneRowEach, SharedNumbers, each_free_or_owned}
use Rattle.racks.proofs.Changed.{hearing, heard_after, started_by_marks, other_rows}
use Rattle.racks.proofs.OwnSlot.{Owning}
use Rattle.racks.proofs.Stages.{Stage, Played, hears_played, ended_played, stage_own}
use Rattle.racks.proofs.Demand.{both_fit, rows_counted, stage_start}

-- ---- a walk over UIDs, where the other rack owns 40 rows

-- 24 rows are left for it
row_by_count : (w : Walk) (rows owners : List ℕ) → Owning 0 w rows owners → rows_with 1 owners ≡ 40 → has_row 0 owners ≡ ltb w.count 24
unfolding has_row most_rows
row_by_count w rows owners o forty = go (dec_lt w.count 24)
  where
    all : rows_with 255 owners + rows_with 0 owners + rows_with 1 owners ≡ 64
    all = rows_with_all owners o.sharing.owners_fit

    go : Dec (w.count < 24) → (ltb (rows_with 0 owners) 40 && ltb 0 (rows_with 255 owners)) ≡ ltb w.count 24
    go (yes h) =
        rw (
          lt-ltb (rows_with 0 owners) 40 (omega (arith, o.number, h)),
          lt-ltb 0 (rows_with 255 owners) (omega (arith, o.number, h, all, forty)),
          lt-ltb w.count 24 h,
        )
    go (no h) =
        rw (
          lt-ltb (rows_with 0 owners) 40 (omega (arith, all, forty)),
          le-ltb 0 (rows_with 255 owners) (omega (arith, o.number, h, all, forty)),
          le-ltb w.count 24 (omega arith),
        )

-- the slot by how many UIDs it calls, and their sum, so that it is worked out UID by UID
unfoldable slot_by : ℕ → ℕ → Slot
slot_by zero sum = Silent
slot_by (suc zero) sum = Clean sum
slot_by (suc (suc n)) sum = Clashed

slot_by_lem : (us : List ℕ) → slot_of us ≡ slot_by (length us) (tally (λ u. u) us)
unfolding slot_of slot_by tally
slot_by_lem [] = refl
slot_by_lem (u ∷ []) = ap Clean (omega arith)
slot_by_lem (u ∷ v ∷ us) = refl

unfoldable calls_uid : Walk → ℕ → ℕ
calls_uid w u = one (eqb (u % 16 ^ suc w.level) (whole_mask w + w.slot * 16 ^ w.level))

unfoldable slot_for : List ℕ → Walk → Slot
slot_for us w = slot_by (tally (calls_uid w) us) (tally (λ u. calls_uid w u * u) us)

slot_for_lem : (us : List ℕ) (w : Walk) → slot_of (called us w) ≡ slot_for us w
unfolding slot_for called calls_uid
slot_for_lem us w =
    let tail : ℕ = whole_mask w + w.slot * 16 ^ w.level in
    slot_by_lem (called us w) ∙ ap₂ slot_by (length_ending (suc w.level) tail us) (tally_ending (λ u. u) (suc w.level) tail us)

unfoldable stood : List ℕ → Walk → Walk
stood us w = cond (is_running w) (walk_after w (slot_for us w) (ltb w.count 24)) w

unfoldable stood_for : List ℕ → ℕ → Walk → Walk
stood_for us zero w = w
stood_for us (suc n) w = stood_for us n (stood us w)

brings_of : (family : ℕ) (tags : List Tag) → AllObey tags → BeginE0 (answering family tags) → Brings arrives levels (answering family tags) family tags
brings_of family tags obey begin = arrives_brings levels family tags obey (e0_suit (answering family tags) begin).starts

slot_stood : (family : ℕ) (tags : List Tag) (m : ℕ) (d : Desk) → AllObey tags → BeginE0 (answering family tags) → rows_with 1 d.list.owners ≡ 40 → Stage 0 family tags (answering family tags) m d
    → (slot_played_on 0 d).walk ≡ stood (answering family tags) d.walk
unfolding stood
slot_stood family tags m d obey begin forty (hears o g h e f room count row) =
    let p : Played 0 family tags (answering family tags) d (slot_played_on 0 d) = hears_played 0 family tags (answering family tags) d (omega arith) obey begin (brings_of family tags obey begin) o g h e f room row in
    rw (running_of d.walk e, ← row_by_count d.walk d.list.rows d.list.owners o forty, ← slot_for_lem (answering family tags) d.walk) p.walk
slot_stood family tags m d obey begin forty (rests o a r v row) = rw r (ap (λ (x : Desk). x.walk) (ended_played 0 d (omega arith) a r))

slot_forty : (d : Desk) → rows_with 1 (slot_played_on 0 d).list.owners ≡ rows_with 1 d.list.owners
unfolding slot_played_on
slot_forty d =
    let heard : Arrival = arrives (replies (asking d.walk d.room).send (asking d.walk d.room).room d.tags) in
    other_rows 0 1 d.list.rows d.list.owners _ _ (hearing (heard_after d.walk 0 heard.kind heard.bytes d.list.rows d.list.owners)) (omega arith)
    (λ e. omega arith)

played_stood : (family : ℕ) (tags : List Tag) (n m : ℕ) (d : Desk) → AllObey tags → BeginE0 (answering family tags) → rows_with 1 d.list.owners ≡ 40 → Stage 0 family tags (answering family tags) m d
    → (played_on 0 (replicate n (own tt)) d).walk ≡ stood_for (answering family tags) n d.walk
unfolding played_on event_played stood_for
played_stood family tags zero m d obey begin forty s = refl
played_stood family tags (suc n) m d obey begin forty s =
    played_stood family tags n (suc m) (slot_played_on 0 d) obey begin (slot_forty d ∙ forty) (stage_own 0 family tags (answering family tags) m d (omega arith) obey begin (brings_of family tags obey begin) s)
    ∙ ap (stood_for (answering family tags) n) (slot_stood family tags m d obey begin forty s)

-- ---- the marks of the cases

forty_fit : owners_fit forty_owned ≡ true
unfolding owners_fit marks_of are_marks places
forty_fit = refl

forty_owned_lem : rows_with 1 forty_owned ≡ 40
unfolding rows_with marks_of places times tally one
forty_owned_lem = refl

forty_freed : freed 0 forty_owned ≡ forty_owned
unfolding freed freed_of marks_of places over
forty_freed = refl

unfoldable all_e0 : List ℕ → Bool
all_e0 [] = true
all_e0 (u ∷ us) = eqb (u / 2 ^ 56) 0xe0 && all_e0 us

-- ---- 25 different, and 27 of which two are alike

different_stood : (family : ℕ) → ((stood_for twenty_five 26 (started family)).ending ≡ 3) × ((stood_for twenty_five 26 (started family)).count ≡ 24)
unfolding stood_for stood is_running started started_of no_marks walk_after ends_at_once noted passed turned ended counted marked at_next_slot opened opened_at remade opened_mask whole_mask low_half high_half mask_length with_mark without_mark waits lowest lowest_from deepest deepest_of levels levels_of most_rounds slot_for slot_by calls_uid tally one
different_stood family = (refl, refl)

alike_stood : (family : ℕ) → ((stood_for two_alike 27 (started family)).ending ≡ 3) × ((stood_for two_alike 27 (started family)).count ≡ 24)
unfolding stood_for stood is_running started started_of no_marks walk_after ends_at_once noted passed turned ended counted marked at_next_slot opened opened_at remade opened_mask whole_mask low_half high_half mask_length with_mark without_mark waits lowest lowest_from deepest deepest_of levels levels_of most_rounds slot_for slot_by calls_uid tally one
alike_stood family = (refl, refl)

-- all begin with E0
all_begin : (us : List ℕ) → all_e0 us ≡ true → BeginE0 us
unfolding all_e0
all_begin [] e = begin_none
all_begin (u ∷ us) e =
    let both = (and-eq-true_iff (eqb (u / 2 ^ 56) 0xe0) (all_e0 us)).0 e in
    begin_more u us (eqb-true (u / 2 ^ 56) 0xe0 both.0) (all_begin us both.1)

twenty_five_begin : BeginE0 twenty_five
unfolding all_e0
twenty_five_begin = all_begin twenty_five refl

two_alike_begin : BeginE0 two_alike
unfolding all_e0
two_alike_begin = all_begin two_alike refl

case_stood : (n : ℕ) (w : Walk) (family : ℕ) (tags : List Tag) (rows room us : List ℕ) → AllObey tags → BeginE0 us → 64 ≤ length rows → 14 ≤ length room
    → answering family tags ≡ us → (desk_of_case n w family tags rows room).walk ≡ stood_for us n (started family)
unfolding started_on
case_stood n w family tags rows room us obey begin places space same =
    let l : OneList = record { rows = rows; owners = forty_owned } in
    let fits : Shareable l = both_fit l places forty_fit in
    let begun = started_by_marks w 0 family forty_owned (omega arith) forty_fit in
    let most : owned 1 l ≤ 40 = omega (arith, sym (rows_counted 1 forty_owned) ∙ forty_owned_lem) in
    let start = stage_start 0 family w tags (answering family tags) l room (omega arith) obey fits most space in
    let forty : rows_with 1 (started_on 0 w family l room tags).list.owners ≡ 40 = rw (begun, forty_freed) forty_owned_lem in
    played_stood family tags n 0 (started_on 0 w family l room tags) obey (subst⁻¹ (λ (xs : List ℕ). BeginE0 xs) same begin) forty start ∙ rw (begun, same)

pub may_end_full : MayEndFull
may_end_full =
    record {
      different = λ family w tags rows room obey places space same.
          let stands = case_stood 26 w family tags rows room twenty_five obey twenty_five_begin places space same in
          (ap (λ (x : Walk). x.ending) stands ∙ (different_stood family).0, ap (λ (x : Walk). x.count) stands ∙ (different_stood family).1);
      alike = λ family w tags rows room obey places space same.
          let stands = case_stood 27 w family tags rows room two_alike obey two_alike_begin places space same in
          (ap (λ (x : Walk). x.ending) stands ∙ (alike_stood family).0, ap (λ (x : Walk). x.count) stands ∙ (alike_stood family).1);
    }

-- ---- the refusals in 02's numbers

marks_said : (marks : List ℕ) → are_marks marks ≡ each_free_or_owned marks
unfolding are_marks each_free_or_owned
marks_said [] = refl
marks_said (m ∷ marks) = ap (λ (b : Bool). (eqb m 255 || (eqb m 0 || eqb m 1)) && b) (marks_said marks)

start_said : (rack : ℕ) (owners : List ℕ)
    → start_refusal rack owners ≡ cond (leb rack 1) (cond (leb 64 (length owners) && each_free_or_owned (take 64 owners)) 0 5) 13
unfolding start_refusal is_rack owners_fit marks_of places
start_said rack owners = rw (marks_said (take 64 owners))

hear_said : (w : Walk) (rack rows : ℕ) (owners : List ℕ)
    → hear_refusal w rack rows owners
    ≡ cond (leb rack 1) (cond (is_accepted w) (cond (is_running w)
    (cond (leb 64 rows && (leb 64 (length owners) && each_free_or_owned (take 64 owners)))
    (cond (leb (times 0 (take 64 owners)) 40 && (leb (times 1 (take 64 owners)) 40 && eqb w.count (times rack (take 64 owners)))) 0 10) 5) 6) 10) 13
unfolding hear_refusal is_rack list_fits owners_fit marks_of shares_fit most_rows rows_with places
hear_said w rack rows owners = rw (marks_said (take 64 owners))

-- the numbers that the calls tell
start_number : (w : Walk) (rack family : ℕ) (owners : List ℕ) → (starting w rack family owners).number ≡ start_refusal rack owners
start_number w rack family owners = go (ℕ_discrete (start_refusal rack owners) 0)
  where
    go : Dec (start_refusal rack owners ≡ 0) → (starting w rack family owners).number ≡ start_refusal rack owners
    go (yes e) = rw (shared_started w rack family owners (start_served_of rack owners e)) (sym e)
    go (no e) = ap (λ (s : Starting). s.number) (start_refused w rack family owners e)

hear_number : (w : Walk) (rack : ℕ) (kind : Kind) (bytes rows owners : List ℕ) → (shared_hearing w rack kind bytes rows owners).number ≡ hear_refusal w rack (length rows) owners
hear_number w rack kind bytes rows owners = go (ℕ_discrete (hear_refusal w rack (length rows) owners) 0)
  where
    go : Dec (hear_refusal w rack (length rows) owners ≡ 0) → (shared_hearing w rack kind bytes rows owners).number ≡ hear_refusal w rack (length rows) owners
    go (yes e) = ap (λ (h : SharedHearing). h.number) (shared_heard w rack kind bytes rows owners (shared_served_of w rack (length rows) owners e)) ∙ sym e
    go (no e) = ap (λ (h : SharedHearing). h.number) (shared_refused w rack kind bytes rows owners e)

pub shared_numbers : SharedNumbers
shared_numbers =
    record {
      to_start = λ w rack family owners. start_number w rack family owners ∙ start_said rack owners;
      to_hear = λ w rack kind bytes rows owners. hear_number w rack kind bytes rows owners ∙ hear_said w rack (length rows) owners;
      no_start = λ w rack family owners h.
          let same = start_refused w rack family owners (λ e. h (start_number w rack family owners ∙ e)) in
          (ap (λ (s : Starting). s.walk) same, ap (λ (s : Starting). s.owners) same);
      no_hearing = λ w rack kind bytes rows owners h.
          let same = shared_refused w rack kind bytes rows owners (λ e. h (hear_number w rack kind bytes rows owners ∙ e)) in
          (ap (λ (k : SharedHearing). k.walk) same, ap (λ (k : SharedHearing). k.rows) same, ap (λ (k : SharedHearing). k.owners) same);
    }

-- ---- a row each

-- no row of a list without owner is a rack's
none_owned : (mark n : ℕ) (rows : List ℕ) → eqb 255 mark ≡ false → uids_with mark rows (replicate n 255) ≡ []
unfolding uids_with
none_owned mark n [] e = refl
none_owned mark zero (a ∷ rows) e = refl
none_owned mark (suc n) (a ∷ rows) e = rw e (none_owned mark n rows e)

-- the first two rows are taken, one by each
abbrev two_taken : List ℕ
two_taken = 0 ∷ 1 ∷ replicate 62 255

first_of_two : (u : ℕ) (rows : List ℕ) → 2 ≤ length rows → uids_with 0 (set (set rows 0 u) 1 u) two_taken ≡ u ∷ []
unfolding uids_with
first_of_two u [] h = absurd (omega arith)
first_of_two u (a ∷ []) h = absurd (omega arith)
first_of_two u (a ∷ b ∷ rows) h = ap (λ (us : List ℕ). u ∷ us) (none_owned 0 62 rows refl)

second_of_two : (u : ℕ) (rows : List ℕ) → 2 ≤ length rows → uids_with 1 (set (set rows 0 u) 1 u) two_taken ≡ u ∷ []
unfolding uids_with
second_of_two u [] h = absurd (omega arith)
second_of_two u (a ∷ []) h = absurd (omega arith)
second_of_two u (a ∷ b ∷ rows) h = ap (λ (us : List ℕ). u ∷ us) (none_owned 1 62 rows refl)

-- a fresh walk's call is served
fresh_served : (family rack rows : ℕ) (owners : List ℕ) → rack ≤ 1 → 64 ≤ rows → owners_fit owners ≡ true → rows_with 0 owners ≤ 40 → rows_with 1 owners ≤ 40
    → rows_with rack owners ≡ 0 → SharedServed (started family) rack rows owners
unfolding started started_of is_running
fresh_served family rack rows owners is room marks first second none =
    record {
      is_rack = is;
      accepted = started_accepted family;
      runs = refl;
      room = room;
      marks = marks;
      first = first;
      second = second;
      counts = sym none;
    }

-- rack 0's hearing
first_heard : (family : ℕ) (kind : Kind) (bytes rows : List ℕ) (u : ℕ) → 64 ≤ length rows → judged (started family) kind bytes ≡ Clean u
    → ((shared_hearing (started family) 0 kind bytes rows (replicate 64 255)).rows ≡ set rows 0 u)
    × ((shared_hearing (started family) 0 kind bytes rows (replicate 64 255)).owners ≡ 0 ∷ replicate 63 255)
unfolding owners_fit marks_of are_marks places rows_with times tally one has_row most_rows lowest_free first_free list_after list_noted owners_after ends_at_once
first_heard family kind bytes rows u room is =
    rw (shared_heard (started family) 0 kind bytes rows (replicate 64 255) (fresh_served family 0 (length rows) (replicate 64 255) (omega arith) room refl (omega arith) (omega arith) refl), is)
    (refl, refl)

-- and rack 1's after it
second_heard : (family : ℕ) (kind : Kind) (bytes rows : List ℕ) (u : ℕ) → 64 ≤ length rows → judged (started family) kind bytes ≡ Clean u
    → ((shared_hearing (started family) 1 kind bytes rows (0 ∷ replicate 63 255)).rows ≡ set rows 1 u)
    × ((shared_hearing (started family) 1 kind bytes rows (0 ∷ replicate 63 255)).owners ≡ two_taken)
unfolding owners_fit marks_of are_marks places rows_with times tally one has_row most_rows lowest_free first_free list_after list_noted owners_after ends_at_once
second_heard family kind bytes rows u room is =
    rw (shared_heard (started family) 1 kind bytes rows (0 ∷ replicate 63 255) (fresh_served family 1 (length rows) (0 ∷ replicate 63 255) (omega arith) room refl (omega arith) (omega arith) refl), is)
    (refl, refl)

pub one_row_each : OneRowEach
unfolding OneRowEach list_of marks_of places
one_row_each family family' kind bytes rows u room is is' =
    let a = first_heard family kind bytes rows u room is in
    let b = second_heard family' kind bytes (set rows 0 u) u (rw length-set room) is' in
    rw (a.0, a.1, b.0, b.1) (first_of_two u rows (omega arith), second_of_two u rows (omega arith))
