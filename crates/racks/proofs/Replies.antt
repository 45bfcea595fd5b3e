-- A rack's walk over any replies, true or false, and two racks that go on with their own records. By field's stages of a walk over any replies, and what
-- every call leaves of the list. Assumes nothing.
use mathlib.Core.Path.{◌≡◌, refl, sym, ap, subst, ◌∙◌}
use mathlib.Core.Bool.{true, false, cond, false≢true}
use mathlib.Core.List.{List, [], ◌∷◌}
use Prim.Native.Nat.{ℕ, zero, suc, ◌+◌, ◌-◌, ◌*◌, ◌/◌, ◌^◌, ◌≤◌}
use native.Mathlib.Nat.{zero-add}
use native.Mathlib.Omega.{arith}
use borrow.Author.Tests.{eqb-true}
use lib.ListN.{length}
use Rattle.tails.specs.Sum.{tally, times}
use Rattle.walk.specs.declared.Walk.{Walk}
use Rattle.walk.specs.declared.Slot.{Slot}
use Rattle.walk.specs.Marks.{levels}
use Rattle.walk.specs.Record.{levels_of, most_rounds, is_running, started_of, started}
use Rattle.walk.specs.Hear.{starts_e0, judged}
use Rattle.walk.specs.Shared.{hear_refusal, freed, has_row}
use Rattle.walk.proofs.Owners.{freed_own, freed_fit}
use Rattle.walk.proofs.Rows.{length_list_of, list_freed}
use Rattle.walk.proofs.SharedWays.{start_served_of, start_refused, shared_served_of, refusal_none, shared_heard, shared_refused}
use Rattle.field.specs.Field.{Arrival}
use Rattle.field.proofs.Accepted.{walks_accepted}
use Rattle.field.proofs.AnyReplies.{Fits, start_walks}
use Rattle.field.proofs.Called.{Starts}
use Rattle.field.proofs.AnyStages.{Stage, hears, rests, once, after_slot}
use Rattle.field.proofs.AnyWalk.{judged_clean, slot_fits, added_starts}
use Rattle.field.proofs.Stages.{running_of}
use Rattle.racks.specs.Calls.{OneList, Shareable, owned, rows_of, Call, list_after_call}
use Rattle.racks.specs.Calls as calls
use Rattle.racks.specs.Rack.{Happening, own, other, own_events}
use Rattle.racks.specs.Replies.{RackWalk, heard_on, fresh_on, happens, happens_all, HoldsOn, AnyRepliesOn, TwoRacks, Turn, starts, turn_of, turned, Move, turned_all, BothGoOn, BothGoOnAlways, BothGoOnLater}
use Rattle.racks.specs.Replies as replies
use Rattle.racks.proofs.Changed.{hearing, frees, call_after, heard_after, Sharing, sharing_after, other_list, other_rows, row_open, fits_length, ended_refused, shared_ended, start_by_marks, started_by_marks}
use Rattle.racks.proofs.OwnSlot.{Owning, owning_served, row_few, own_lists}
use Rattle.racks.proofs.Demand.{both_fit, rows_of_fits, owners_of_fits, rows_counted, start_owning}

-- a rack's walk after n slots, and its part of the list
pub record Goes (rack n : ℕ) (w : Walk) (l : OneList) : Type 0 where
  pub owning : Owning rack w l.rows l.owners
  pub stage : Stage levels n w (rows_of rack l)
  pub begins : Starts levels (rows_of rack l)

-- ---- the start

-- the rack owns no row
goes_empty : (rack family : ℕ) (l : OneList) → Sharing l.rows l.owners → rows_of rack l ≡ [] → Goes rack 0 (started family) l
unfolding started started_of levels Starts times tally
goes_empty rack family l sharing none =
    let long = length_list_of rack l.rows l.owners sharing.rows_fit (fits_length l.owners sharing.owners_fit) in
    record {
      owning = record { sharing = sharing; number = sym (ap length none) ∙ long };
      stage = rw none (hears (start_walks levels family (omega arith)) (omega arith) refl (omega arith));
      begins = rw none (λ u h. absurd (omega arith));
    }

pub goes_fresh : (rack family : ℕ) (l : OneList) → rack ≤ 1 → Shareable l → owned (1 - rack) l ≤ 40
    → Goes rack 0 (started family) (record { rows = l.rows; owners = freed rack l.owners })
goes_fresh rack family l is fits most =
    goes_empty rack family (record { rows = l.rows; owners = freed rack l.owners }) (start_owning rack family l is fits most).sharing
    (list_freed rack l.rows l.owners (fits_length l.owners (owners_of_fits l fits)) is)

-- ---- a slot of its own

stage_number : {n : ℕ} {w : Walk} {ls : List ℕ} → Stage levels n w ls → length ls ≡ w.count
stage_number (hears g h e c) = g.number
stage_number (rests a r o k) = k

-- what a slot leaves: the rack owns as many rows as the next walk counts
owning_of : (rack n : ℕ) (w : Walk) (l : OneList) → Sharing l.rows l.owners → Stage levels n w (rows_of rack l) → Starts levels (rows_of rack l)
    → Goes rack n w l
owning_of rack n w l sharing stage begins =
    record {
      owning = record {
        sharing = sharing;
        number = sym (stage_number stage) ∙ length_list_of rack l.rows l.owners sharing.rows_fit (fits_length l.owners sharing.owners_fit);
      };
      stage = stage;
      begins = begins;
    }

slot_stage : (rack n : ℕ) (a : Arrival) (w : Walk) (l : OneList) → rack ≤ 1 → Owning rack w l.rows l.owners → Stage levels n w (rows_of rack l)
    → Stage levels (suc n) (heard_on rack a (record { walk = w; list = l })).walk (rows_of rack (heard_on rack a (record { walk = w; list = l })).list)
unfolding heard_on
slot_stage rack n a w l is o (hears g h e c) =
    let rows : List ℕ = l.rows in
    let owners : List ℕ = l.owners in
    let s : Slot = judged w a.kind a.bytes in
    let place = has_row rack owners in
    let served = owning_served rack w rows owners is (walks_accepted w (rows_of rack l) w.slot h g) (running_of w e) o in
    let fits : Fits w s = slot_fits w w.slot (rows_of rack l) s g h (λ u f. (judged_clean w a.kind a.bytes u f).fits) in
    rw (shared_heard w rack a.kind a.bytes rows owners served)
    (after_slot n w (rows_of rack l) _ s place g h e c fits (λ b. omega (arith, row_few rack owners b, o.number))
    (own_lists w rack rows owners s place (row_open w rack rows owners served)))
slot_stage rack n a w l is o (rests r e u k) =
    rw (shared_ended w rack a.kind a.bytes l.rows l.owners is r e) (rests r e u k)

slot_begins : (rack n : ℕ) (a : Arrival) (w : Walk) (l : OneList) → rack ≤ 1 → Owning rack w l.rows l.owners → Stage levels n w (rows_of rack l)
    → Starts levels (rows_of rack l) → Starts levels (rows_of rack (heard_on rack a (record { walk = w; list = l })).list)
unfolding heard_on levels_of
slot_begins rack n a w l is o (hears g h e c) begins =
    let rows : List ℕ = l.rows in
    let owners : List ℕ = l.owners in
    let s : Slot = judged w a.kind a.bytes in
    let place = has_row rack owners in
    let served = owning_served rack w rows owners is (walks_accepted w (rows_of rack l) w.slot h g) (running_of w e) o in
    rw (shared_heard w rack a.kind a.bytes rows owners served)
    (added_starts levels w s place (rows_of rack l) _ g.marks_length (judged_clean w a.kind a.bytes)
    (own_lists w rack rows owners s place (row_open w rack rows owners served)) begins)
slot_begins rack n a w l is o (rests r e u k) begins =
    rw (shared_ended w rack a.kind a.bytes l.rows l.owners is r e) begins

pub goes_own : (rack n : ℕ) (a : Arrival) (w : Walk) (l : OneList) → rack ≤ 1 → Goes rack n w l
    → Goes rack (suc n) (heard_on rack a (record { walk = w; list = l })).walk (heard_on rack a (record { walk = w; list = l })).list
unfolding heard_on
goes_own rack n a w l is g =
    owning_of rack (suc n) _ _
    (sharing_after rack l.rows l.owners _ _ (hearing (heard_after w rack a.kind a.bytes l.rows l.owners)) g.owning.sharing)
    (slot_stage rack n a w l is g.owning g.stage) (slot_begins rack n a w l is g.owning g.stage g.begins)

-- ---- a call with another number

pub goes_other : (rack n number : ℕ) (call : Call) (w : Walk) (l : OneList) → rack ≤ 1 → (number ≡ rack → ⊥) → Goes rack n w l
    → Goes rack n w (list_after_call number call l)
goes_other rack n number call w l is e g =
    let l' : OneList = list_after_call number call l in
    let after = call_after number call l in
    let same : rows_of rack l' ≡ rows_of rack l = other_list number rack l.rows l.owners l'.rows l'.owners after is (λ f. e (sym f)) in
    record {
      owning = record {
        sharing = sharing_after number l.rows l.owners l'.rows l'.owners after g.owning.sharing;
        number = g.owning.number ∙ sym (other_rows number rack l.rows l.owners l'.rows l'.owners after is (λ f. e (sym f)));
      };
      stage = subst (λ (ls : List ℕ). Stage levels n w ls) (sym same) g.stage;
      begins = subst (λ (ls : List ℕ). Starts levels ls) (sym same) g.begins;
    }

-- ---- what holds

stage_once : {n : ℕ} {w : Walk} {ls : List ℕ} → Stage levels n w ls → (u : ℕ) → times u ls ≤ 1
stage_once {n} {w} {ls} (hears g h e c) u = once w ls w.slot g u
stage_once (rests a r o k) u = o u

stage_answers : (rack n : ℕ) (w : Walk) (l : OneList) → rack ≤ 1 → Owning rack w l.rows l.owners → Stage levels n w (rows_of rack l)
    → hear_refusal w rack (length l.rows) l.owners ≡ cond (is_running w) 0 6
stage_answers rack n w l is o (hears g h e c) =
    rw (running_of w e)
    (refusal_none w rack (length l.rows) l.owners (owning_served rack w l.rows l.owners is (walks_accepted w (rows_of rack l) w.slot h g) (running_of w e) o))
stage_answers rack n w l is o (rests a r u k) = rw r (ended_refused w rack (length l.rows) l.owners is a r)

pub goes_answers : (rack n : ℕ) (w : Walk) (l : OneList) → rack ≤ 1 → Goes rack n w l
    → hear_refusal w rack (length l.rows) l.owners ≡ cond (is_running w) 0 6
goes_answers rack n w l is g = stage_answers rack n w l is g.owning g.stage

stage_ends : (n : ℕ) (w : Walk) (ls : List ℕ) → Stage levels n w ls → 16 * 417 ≤ n → is_running w ≡ false
unfolding most_rounds levels
stage_ends n w ls (hears g h e c) m =
    let most : w.rounds ≤ most_rounds 14 = rw g.marks_length at g.steady.accepted.last_round in
    absurd (omega (arith, most, c, h, m))
stage_ends n w ls (rests a r o k) m = r

stage_counted : (n : ℕ) (w : Walk) (ls : List ℕ) → Stage levels n w ls → is_running w ≡ true → 16 * w.rounds + w.slot ≡ 16 + n
stage_counted n w ls (hears g h e c) r = c
stage_counted n w ls (rests a f o k) r = absurd (false≢true (sym f ∙ r))

-- in 02's words
starts_e0_lem : (us : List ℕ) → Starts levels us → (u : ℕ) → 1 ≤ times u us → u / 2 ^ 56 ≡ 0xe0
unfolding Starts starts_e0 levels
starts_e0_lem us begin u h = eqb-true (u / 2 ^ 56) 0xe0 (begin u h)

holds_of : (rack n : ℕ) (p : RackWalk) → rack ≤ 1 → Goes rack n p.walk p.list → HoldsOn rack n p
holds_of rack n p is g =
    record {
      once = stage_once g.stage;
      begins = starts_e0_lem (rows_of rack p.list) g.begins;
      answers = goes_answers rack n p.walk p.list is g;
      counted = stage_counted n p.walk (rows_of rack p.list) g.stage;
      ends = stage_ends n p.walk (rows_of rack p.list) g.stage;
    }

goes_all : (rack n : ℕ) (events : List (Happening Arrival rack)) (p : RackWalk) → rack ≤ 1 → Goes rack n p.walk p.list
    → Goes rack (n + own_events events) (happens_all rack events p).walk (happens_all rack events p).list
unfolding happens_all own_events happens
goes_all rack n [] p is g = subst (λ (k : ℕ). Goes rack k p.walk p.list) (omega arith) g
goes_all rack n (own a ∷ events) p is g =
    subst (λ (k : ℕ). Goes rack k (happens_all rack events (heard_on rack a p)).walk (happens_all rack events (heard_on rack a p)).list) (omega arith)
    (goes_all rack (suc n) events (heard_on rack a p) is (goes_own rack n a p.walk p.list is g))
goes_all rack n (other number e call ∷ events) p is g =
    goes_all rack n events (record { walk = p.walk; list = list_after_call number call p.list }) is (goes_other rack n number call p.walk p.list is e g)

pub any_replies_on : AnyRepliesOn
unfolding AnyRepliesOn fresh_on
any_replies_on rack family p events is fits most =
    let start : Goes rack 0 (fresh_on rack family p).walk (fresh_on rack family p).list = rw (started_by_marks p.walk rack family p.list.owners is (owners_of_fits p.list fits)) (goes_fresh rack family p.list is fits most) in
    holds_of rack (own_events events) (happens_all rack events (fresh_on rack family p)) is
    (subst (λ (k : ℕ). Goes rack k (happens_all rack events (fresh_on rack family p)).walk (happens_all rack events (fresh_on rack family p)).list) (zero-add (own_events events))
    (goes_all rack 0 events (fresh_on rack family p) is start))

-- ---- both racks

record BothGo (p : TwoRacks) : Type 0 where
  n : ℕ
  m : ℕ
  first : Goes 0 n p.first p.list
  second : Goes 1 m p.second p.list

-- a start over a list that both share
goes_started : (rack family : ℕ) (w : Walk) (l : OneList) → rack ≤ 1 → Sharing l.rows l.owners
    → Goes rack 0 (fresh_on rack family (record { walk = w; list = l })).walk (fresh_on rack family (record { walk = w; list = l })).list
unfolding fresh_on
goes_started rack family w l is s =
    rw (started_by_marks w rack family l.owners is s.owners_fit)
    (goes_empty rack family (record { rows = l.rows; owners = freed rack l.owners })
    (sharing_after rack l.rows l.owners l.rows (freed rack l.owners) (frees is s.owners_fit refl refl) s)
    (list_freed rack l.rows l.owners (fits_length l.owners s.owners_fit) is))

-- a turn of a rack, and what it leaves to the other
own_turn : (rack n : ℕ) (turn : Turn) (w : Walk) (l : OneList) → rack ≤ 1 → Goes rack n w l
    → (k : ℕ) × Goes rack k (turn_of turn rack (record { walk = w; list = l })).walk (turn_of turn rack (record { walk = w; list = l })).list
unfolding turn_of
own_turn rack n (starts family) w l is g = (0, goes_started rack family w l is g.owning.sharing)
own_turn rack n (replies.hears a) w l is g = (suc n, goes_own rack n a w l is g)

other_turn : (rack n number : ℕ) (turn : Turn) (v w : Walk) (l : OneList) → rack ≤ 1 → (number ≡ rack → ⊥) → Goes rack n w l
    → Goes rack n w (turn_of turn number (record { walk = v; list = l })).list
unfolding turn_of fresh_on heard_on list_after_call
other_turn rack n number (starts family) v w l is e g = goes_other rack n number (calls.starts v family) w l is e g
other_turn rack n number (replies.hears a) v w l is e g = goes_other rack n number (calls.hears v a.kind a.bytes) w l is e g

-- a number that is no rack changes no walk
no_turn : (number : ℕ) (turn : Turn) (w : Walk) (l : OneList) → (number ≤ 1 → ⊥) → turn_of turn number (record { walk = w; list = l }) ≡ record { walk = w; list = l }
unfolding turn_of fresh_on heard_on
no_turn number (starts family) w l h = rw (start_refused w number family l.owners (λ e. h (start_served_of number l.owners e).is_rack))
no_turn number (replies.hears a) w l h =
    rw (shared_refused w number a.kind a.bytes l.rows l.owners (λ e. h (shared_served_of w number (length l.rows) l.owners e).is_rack))

both_turned : (rack : ℕ) (turn : Turn) (p : TwoRacks) → BothGo p → BothGo (turned rack turn p)
unfolding turned
both_turned zero turn p b =
    let k = own_turn 0 b.n turn p.first p.list (omega arith) b.first in
    record { n = k.0; m = b.m; first = k.1; second = other_turn 1 b.m 0 turn p.first p.second p.list (omega arith) (λ e. omega arith) b.second }
both_turned (suc zero) turn p b =
    let k = own_turn 1 b.m turn p.second p.list (omega arith) b.second in
    record { n = b.n; m = k.0; first = other_turn 0 b.n 1 turn p.second p.first p.list (omega arith) (λ e. omega arith) b.first; second = k.1 }
both_turned (suc (suc i)) turn p b =
    rw (no_turn (suc (suc i)) turn p.first p.list (λ e. omega arith)) (record { n = b.n; m = b.m; first = b.first; second = b.second })

both_all : (moves : List Move) (p : TwoRacks) → BothGo p → BothGo (turned_all moves p)
unfolding turned_all
both_all [] p b = b
both_all (m ∷ moves) p b = both_all moves (turned m.rack m.turn p) (both_turned m.rack m.turn p b)

-- both are started over any list that number 5 accepts, however many rows either owned
both_start : (family family' : ℕ) (p : TwoRacks) → Shareable p.list → BothGo (turned 1 (starts family') (turned 0 (starts family) p))
unfolding turned turn_of fresh_on
both_start family family' p fits =
    let l : OneList = p.list in
    let fit = owners_of_fits l fits in
    let long : 64 ≤ length l.owners = fits_length l.owners fit in
    let one : OneList = record { rows = l.rows; owners = freed 0 l.owners } in
    let fit-one = freed_fit 0 l.owners long fit in
    let fits_one : Shareable one = both_fit one (rows_of_fits l fits) fit-one in
    let two : OneList = record { rows = l.rows; owners = freed 1 (freed 0 l.owners) } in
    let none : owned 0 one ≤ 40 = omega (arith, sym (rows_counted 0 (freed 0 l.owners)) ∙ freed_own 0 l.owners long (omega arith)) in
    let second : Goes 1 0 (started family') two = goes_fresh 1 family' one (omega arith) fits_one none in
    let left : rows_of 0 two ≡ rows_of 0 one = other_list 1 0 l.rows (freed 0 l.owners) l.rows (freed 1 (freed 0 l.owners)) (frees (omega arith) fit-one refl refl) (omega arith) (λ e. omega arith) in
    let first : Goes 0 0 (started family) two = goes_empty 0 family two second.owning.sharing (left ∙ list_freed 0 l.rows l.owners long (omega arith)) in
    rw (started_by_marks p.first 0 family l.owners (omega arith) fit, started_by_marks p.second 1 family' (freed 0 l.owners) (omega arith) fit-one)
    (record { n = 0; m = 0; first = first; second = second })

go_on_of : (q : TwoRacks) → BothGo q → BothGoOn q
go_on_of q b =
    record {
      first_hears = goes_answers 0 b.n q.first q.list (omega arith) b.first;
      second_hears = goes_answers 1 b.m q.second q.list (omega arith) b.second;
      first_starts = start_by_marks 0 q.list.owners (omega arith) b.first.owning.sharing.owners_fit;
      second_starts = start_by_marks 1 q.list.owners (omega arith) b.first.owning.sharing.owners_fit;
      first_once = stage_once b.first.stage;
      second_once = stage_once b.second.stage;
    }

pub both_go_on : BothGoOnAlways
unfolding BothGoOnAlways
both_go_on family family' p moves fits = go_on_of _ (both_all moves _ (both_start family family' p fits))

-- ---- one rack walks while the other has not been started

-- it goes on with its own record through any turn
first_turned : (rack : ℕ) (turn : Turn) (p : TwoRacks) (n : ℕ) → Goes 0 n p.first p.list
    → (k : ℕ) × Goes 0 k (turned rack turn p).first (turned rack turn p).list
unfolding turned
first_turned zero turn p n g = own_turn 0 n turn p.first p.list (omega arith) g
first_turned (suc zero) turn p n g = (n, other_turn 0 n 1 turn p.second p.first p.list (omega arith) (λ e. omega arith) g)
first_turned (suc (suc i)) turn p n g = (n, rw (no_turn (suc (suc i)) turn p.first p.list (λ e. omega arith)) g)

second_turned : (rack : ℕ) (turn : Turn) (p : TwoRacks) (n : ℕ) → Goes 1 n p.second p.list
    → (k : ℕ) × Goes 1 k (turned rack turn p).second (turned rack turn p).list
unfolding turned
second_turned zero turn p n g = (n, other_turn 1 n 0 turn p.first p.second p.list (omega arith) (λ e. omega arith) g)
second_turned (suc zero) turn p n g = own_turn 1 n turn p.second p.list (omega arith) g
second_turned (suc (suc i)) turn p n g = (n, rw (no_turn (suc (suc i)) turn p.first p.list (λ e. omega arith)) g)

first_all : (moves : List Move) (p : TwoRacks) (n : ℕ) → Goes 0 n p.first p.list
    → (k : ℕ) × Goes 0 k (turned_all moves p).first (turned_all moves p).list
unfolding turned_all
first_all [] p n g = (n, g)
first_all (m ∷ moves) p n g =
    let k = first_turned m.rack m.turn p n g in
    first_all moves (turned m.rack m.turn p) k.0 k.1

second_all : (moves : List Move) (p : TwoRacks) (n : ℕ) → Goes 1 n p.second p.list
    → (k : ℕ) × Goes 1 k (turned_all moves p).second (turned_all moves p).list
unfolding turned_all
second_all [] p n g = (n, g)
second_all (m ∷ moves) p n g =
    let k = second_turned m.rack m.turn p n g in
    second_all moves (turned m.rack m.turn p) k.0 k.1

first_begun : (family : ℕ) (p : TwoRacks) → Shareable p.list → owned 1 p.list ≤ 40
    → Goes 0 0 (turned 0 (starts family) p).first (turned 0 (starts family) p).list
unfolding turned turn_of fresh_on
first_begun family p fits most =
    rw (started_by_marks p.first 0 family p.list.owners (omega arith) (owners_of_fits p.list fits)) (goes_fresh 0 family p.list (omega arith) fits most)

second_begun : (family : ℕ) (p : TwoRacks) → Shareable p.list → owned 0 p.list ≤ 40
    → Goes 1 0 (turned 1 (starts family) p).second (turned 1 (starts family) p).list
unfolding turned turn_of fresh_on
second_begun family p fits most =
    rw (started_by_marks p.second 1 family p.list.owners (omega arith) (owners_of_fits p.list fits)) (goes_fresh 1 family p.list (omega arith) fits most)

-- and then the other is started too
second_joins : (family n : ℕ) (p : TwoRacks) → Goes 0 n p.first p.list → BothGo (turned 1 (starts family) p)
unfolding turned turn_of
second_joins family n p g =
    record {
      n = n;
      m = 0;
      first = other_turn 0 n 1 (starts family) p.second p.first p.list (omega arith) (λ e. omega arith) g;
      second = goes_started 1 family p.second p.list (omega arith) g.owning.sharing;
    }

first_joins : (family n : ℕ) (p : TwoRacks) → Goes 1 n p.second p.list → BothGo (turned 0 (starts family) p)
unfolding turned turn_of
first_joins family n p g =
    record {
      n = 0;
      m = n;
      first = goes_started 0 family p.first p.list (omega arith) g.owning.sharing;
      second = other_turn 1 n 0 (starts family) p.first p.second p.list (omega arith) (λ e. omega arith) g;
    }

pub both_go_on_later : BothGoOnLater
unfolding BothGoOnLater
both_go_on_later family family' p between moves fits = (
  λ most.
      let k = first_all between (turned 0 (starts family) p) 0 (first_begun family p fits most) in
      go_on_of _ (both_all moves _ (second_joins family' k.0 (turned_all between (turned 0 (starts family) p)) k.1)),
  λ most.
      let k = second_all between (turned 1 (starts family') p) 0 (second_begun family' p fits most) in
      go_on_of _ (both_all moves _ (first_joins family k.0 (turned_all between (turned 1 (starts family') p)) k.1)),
)
