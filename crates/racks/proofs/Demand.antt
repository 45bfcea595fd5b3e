-- Demand 3 for a rack, whatever calls for the other rack come in between. By the stages of its walk, and the verdict at its end. Assumes nothing.
use mathlib.Core.Path.{◌≡◌, refl, sym, subst, ◌∙◌}
use mathlib.Core.Bool.{true, false, and-eq-true_iff}
use mathlib.Core.List.{List}
use Prim.Native.Nat.{ℕ, ◌-◌, ◌*◌, ◌/◌, ◌≤◌}
use native.Mathlib.Decide.{ℕ_discrete}
use native.Mathlib.Nat.{zero-add}
use native.Mathlib.Omega.{arith}
use borrow.Author.Tests.{leb-true, le-leb}
use lib.Dec.{leb, eqb}
use lib.ListN.{length, take}
use Rattle.tails.specs.Sum.{one, times}
use Rattle.tails.specs.Tails.{shared_tails_to, shared_tails}
use Rattle.tails.proofs.Bounds.{shared_tails_half}
use Rattle.walk.specs.declared.Walk.{Walk}
use Rattle.walk.specs.Marks.{levels}
use Rattle.walk.specs.Record.{whole_mask, places, most_rounds, complete, is_running, started_of, started}
use Rattle.walk.specs.Shared.{marks_of, rows_with, list_of, owners_fit, list_fits, freed}
use Rattle.walk.proofs.Owners.{freed_own, freed_other, freed_fit}
use Rattle.walk.proofs.Rows.{length_list_of, list_freed}
use Rattle.play.specs.Life.{Tag}
use Rattle.field.specs.Field.{answering, arrives}
use Rattle.field.specs.Found.{Different, BeginE0}
use Rattle.field.specs.Foreign.{as_heard}
use Rattle.field.specs.Demand.{AllObey}
use Rattle.field.proofs.Next.{Verdict, completes, twin, fills}
use Rattle.field.proofs.Suited.{e0_suit}
use Rattle.field.proofs.PlayedSlot.{Brings, arrives_brings}
use Rattle.field.proofs.Stages.{hears, rests, start_stage}
use Rattle.field.proofs.Demand3.{cards_of_lem, memories_of, locks_of}
use Rattle.field.proofs.Foreign.{as_heard_begin, as_heard_same, different_begin, any_brings}
use Rattle.racks.specs.Calls.{OneList, Shareable, owned, rows_of}
use Rattle.racks.specs.Rack.{Desk, Happening, own_events, played_on, started_on, FoundOn, DemandOf, RackDemand3, RackAnyUids}
use Rattle.racks.proofs.Changed.{fits_length, started_by_marks, Sharing}
use Rattle.racks.proofs.OwnSlot.{Owning}
use Rattle.racks.proofs.Stages.{Stage, stage_event}

-- ---- the start

pub rows_of_fits : (l : OneList) → Shareable l → 64 ≤ length l.rows
unfolding list_fits places
rows_of_fits l e = leb-true 64 (length l.rows) ((and-eq-true_iff (leb 64 (length l.rows)) _).0 e).0

pub owners_of_fits : (l : OneList) → Shareable l → owners_fit l.owners ≡ true
unfolding list_fits
owners_of_fits l e = ((and-eq-true_iff (leb places (length l.rows)) _).0 e).1

pub both_fit : (l : OneList) → 64 ≤ length l.rows → owners_fit l.owners ≡ true → Shareable l
unfolding list_fits places
both_fit l rows owners = rw (le-leb 64 (length l.rows) rows, owners)

-- the number of rows, as it is counted here
pub rows_counted : (m : ℕ) (owners : List ℕ) → rows_with m owners ≡ times m (take 64 owners)
unfolding rows_with marks_of places
rows_counted m owners = refl

-- the rack's rows are free, and the other has 40 at the most
freed_sharing : (rack : ℕ) (l : OneList) → rack ≤ 1 → Shareable l → owned (1 - rack) l ≤ 40 → Sharing l.rows (freed rack l.owners)
freed_sharing rack l is fits most = go (ℕ_discrete rack 0)
  where
    long : 64 ≤ length l.owners
    long = fits_length l.owners (owners_of_fits l fits)

    none : rows_with rack (freed rack l.owners) ≡ 0
    none = freed_own rack l.owners long is

    go : Dec (rack ≡ 0) → Sharing l.rows (freed rack l.owners)
    go (yes e) =
        record {
          rows_fit = rows_of_fits l fits;
          owners_fit = freed_fit rack l.owners long (owners_of_fits l fits);
          first_most = omega (arith, subst (λ (k : ℕ). rows_with k (freed rack l.owners) ≡ 0) e none);
          second_most = rw (freed_other rack l.owners long is 1 (λ f. omega arith) (λ f. omega arith), rows_counted) (rw e at most);
        }
    go (no e) =
        let second : rack ≡ 1 = omega arith in
        record {
          rows_fit = rows_of_fits l fits;
          owners_fit = freed_fit rack l.owners long (owners_of_fits l fits);
          first_most = rw (freed_other rack l.owners long is 0 (λ f. omega arith) (λ f. omega arith), rows_counted) (rw second at most);
          second_most = omega (arith, subst (λ (k : ℕ). rows_with k (freed rack l.owners) ≡ 0) second none);
        }

pub start_owning : (rack family : ℕ) (l : OneList) → rack ≤ 1 → Shareable l → owned (1 - rack) l ≤ 40 → Owning rack (started family) l.rows (freed rack l.owners)
unfolding started started_of
start_owning rack family l is fits most =
    record {
      sharing = freed_sharing rack l is fits most;
      number = sym (freed_own rack l.owners (fits_length l.owners (owners_of_fits l fits)) is);
    }

pub stage_start : (rack family : ℕ) (w : Walk) (tags : List Tag) (us : List ℕ) (l : OneList) (room : List ℕ) → rack ≤ 1 → AllObey tags → Shareable l → owned (1 - rack) l ≤ 40
    → 14 ≤ length room → Stage rack family tags us 0 (started_on rack w family l room tags)
unfolding started_on started levels
stage_start rack family w tags us l room is obey fits most space =
    rw (started_by_marks w rack family l.owners is (owners_of_fits l fits), list_freed rack l.rows l.owners (fits_length l.owners (owners_of_fits l fits)) is)
    (start_stage levels 24 family tags us room (omega arith) (start_owning rack family l is fits most) obey space)

-- ---- the end

verdict_found : (rack : ℕ) (us : List ℕ) (w : Walk) (rows owners : List ℕ) → rack ≤ 1 → Owning rack w rows owners → is_running w ≡ false
    → Verdict levels 24 us w (list_of rack rows owners) → FoundOn us w (list_of rack rows owners)
unfolding Different times shared_tails levels
verdict_found rack us w rows owners is o end v = go v
  where
    ls : List ℕ
    ls = list_of rack rows owners

    long : length ls ≡ w.count
    long = length_list_of rack rows owners o.sharing.rows_fit (fits_length owners o.sharing.owners_fit) ∙ sym o.number

    own : Dec (rack ≡ 0) → rows_with rack owners ≤ 40
    own (yes e) = rw e o.sharing.first_most
    own (no e) =
        let second : rack ≡ 1 = omega arith in
        rw second o.sharing.second_most

    most : w.count ≤ 40
    most = omega (arith, own (ℕ_discrete rack 0), o.number)

    go : Verdict 14 24 us w ls → FoundOn us w ls
    go (completes e few number same once rounds) =
        let different : (u : ℕ) → times u us ≤ 1 = λ u. rw (← same (λ x. one (eqb x u))) (once u) in
        record {
          ends = end;
          completes = λ n d. e;
          different = λ c. different;
          each_once = λ c u. same (λ x. one (eqb x u));
          count = λ c. number;
          holds = long;
          rounds = λ c. rounds;
          rounds_most = λ c. let half : shared_tails_to 13 us ≤ 13 * (length us / 2) = shared_tails_half us 13 in omega (arith, half, rounds);
          alike = λ n d. absurd (d different);
          twins_alike = λ c. absurd (omega arith);
          full_many = λ c. absurd (omega arith);
          few = λ c. omega (arith, most, number);
          at_most = most;
          no_overrun = omega arith;
        }
    go (twin e alike) =
        record {
          ends = end;
          completes = λ n d. absurd (omega (arith, d alike.uid, alike.twice));
          different = λ c. absurd (omega arith);
          each_once = λ c. absurd (omega arith);
          count = λ c. absurd (omega arith);
          holds = long;
          rounds = λ c. absurd (omega arith);
          rounds_most = λ c. absurd (omega arith);
          alike = λ n d. e;
          twins_alike = λ c. alike;
          full_many = λ c. absurd (omega arith);
          few = λ c. absurd (omega arith);
          at_most = most;
          no_overrun = omega arith;
        }
    go (fills e many) =
        record {
          ends = end;
          completes = λ n d. absurd (omega arith);
          different = λ c. absurd (omega arith);
          each_once = λ c. absurd (omega arith);
          count = λ c. absurd (omega arith);
          holds = long;
          rounds = λ c. absurd (omega arith);
          rounds_most = λ c. absurd (omega arith);
          alike = λ n d. absurd (omega arith);
          twins_alike = λ c. absurd (omega arith);
          full_many = λ c. many;
          few = λ c. absurd (omega arith);
          at_most = most;
          no_overrun = omega arith;
        }

ends : (rack family : ℕ) (tags : List Tag) (us : List ℕ) (n : ℕ) (d : Desk) → rack ≤ 1 → 16 * 417 ≤ n → Stage rack family tags us n d
    → DemandOf rack family tags us d
unfolding most_rounds levels
ends rack family tags us n d is h (hears o g s e f room count b) =
    let most : d.walk.rounds ≤ most_rounds levels = rw g.walks.marks_length at g.walks.steady.accepted.last_round in
    absurd (omega (arith, most, count, s, h))
ends rack family tags us n d is h (rests o a r v b) =
    record {
      found = verdict_found rack us d.walk d.list.rows d.list.owners is o r v;
      cards_left = cards_of_lem family d.walk tags d.tags b;
      memories_left = memories_of family d.walk.level (whole_mask d.walk) d.walk.slot tags d.tags b;
      locks_left = locks_of family d.walk.level (whole_mask d.walk) d.walk.slot tags d.tags b;
    }

-- over UIDs that all begin with E0, which the cards bring
rack_of_an_air : (rack family : ℕ) (w : Walk) (tags : List Tag) (us : List ℕ) (l : OneList) (room : List ℕ) (events : List (Happening (Unit {0}) rack))
    → rack ≤ 1 → AllObey tags → BeginE0 us → Brings arrives levels us family tags → Shareable l → owned (1 - rack) l ≤ 40 → 14 ≤ length room
    → 16 * 417 ≤ own_events events → DemandOf rack family tags us (played_on rack events (started_on rack w family l room tags))
rack_of_an_air rack family w tags us l room events is obey begin brings fits most space slots =
    let d : Desk = started_on rack w family l room tags in
    ends rack family tags us (own_events events) (played_on rack events d) is slots
    (subst (λ (n : ℕ). Stage rack family tags us n (played_on rack events d)) (zero-add (own_events events))
    (stage_event rack family tags us 0 events d is obey begin brings (stage_start rack family w tags us l room is obey fits most space)))

pub demand_on_a_rack : RackDemand3
unfolding RackDemand3
demand_on_a_rack rack family w tags l room events is obey begin fits most space slots =
    let us : List ℕ = answering family tags in
    rack_of_an_air rack family w tags us l room events is obey begin (arrives_brings levels family tags obey (e0_suit us begin).starts) fits most space slots

-- ---- whatever the UIDs begin with

pub any_uids_on_a_rack : RackAnyUids
unfolding RackAnyUids
any_uids_on_a_rack rack family w tags l room events is obey fits most space slots =
    let us : List ℕ = answering family tags in
    let d : Desk = played_on rack events (started_on rack w family l room tags) in
    let found : FoundOn (as_heard us) d.walk (rows_of rack d.list) =
    (rack_of_an_air rack family w tags (as_heard us) l room events is obey (as_heard_begin us) (any_brings family tags obey) fits most space slots).found in
    let begins : d.walk.ending ≡ complete → BeginE0 us = λ e. different_begin us (found.different e) in
    record {
      ends = found.ends;
      complete_e0 = begins;
      complete_found = λ e. subst (λ (xs : List ℕ). FoundOn xs d.walk (rows_of rack d.list)) (as_heard_same us (begins e)) found;
      foreign_twins = λ few foreign. found.alike few (λ different. foreign (different_begin us different));
      no_overrun = found.no_overrun;
    }
