-- The ways out of the calls on a shared list: refused, or served. By the tests of the definitions. Assumes nothing.
use mathlib.Core.Path.{◌≡◌, refl, sym, ◌∙◌}
use mathlib.Core.Bool.{Bool, true, false, cond, ◌&&◌, and-eq-true_iff}
use mathlib.Core.List.{List}
use Prim.Native.Nat.{ℕ, ◌≤◌, ◌<◌}
use native.Mathlib.Omega.{arith}
use borrow.Author.Tests.{ltb-true, lt-ltb, le-ltb, leb-true, le-leb, eq-eqb, ne_eqb, eqb-true}
use lib.Dec.{leb, ltb, eqb}
use lib.ListN.{length}
use Rattle.std.specs.Prelude.{Option, Some, None, IfSome, is_some, unwrap_or, Ok, Err}
use Rattle.refusals.specs.declared.Refusal.{Refusal}
use Rattle.refusals.specs.Number.{number, number_of}
use Rattle.refusals.proofs.Numbers.{number_is_some}
use Rattle.walk.specs.declared.Walk.{Walk}
use Rattle.walk.specs.declared.Kind.{Kind}
use Rattle.walk.specs.declared.Slot.{Slot}
use Rattle.walk.specs.declared.Slot.TheVariants.{Silent, Clashed, Clean}
use Rattle.walk.specs.Record.{places, is_running, is_accepted, started}
use Rattle.walk.specs.Hear.{judged, ends_at_once, list_noted, walk_after, list_after, walk_of}
use Rattle.walk.specs.Shared.{rows_with, lowest_free, is_rack, owners_fit, list_fits, most_rows, shares_fit, start_refusal, hear_refusal}
use Rattle.walk.specs.Shared.{freed, starting, Starts, has_row, owners_after, shared_hearing, HearsShared}
use Rattle.walk.specs.Steps.{After, IsLowestFree, IsRowFor, owned, AfterRow}
use Rattle.walk.proofs.SharedTests.{row_told}

-- ---- what a slot leaves behind

pub after_row : (w : Walk) (rack : ℕ) (slot : Slot) (rows owners : List ℕ) (place : Option ℕ) (r : Walk) (rows' owners' : List ℕ) → 64 ≤ length owners
    → w.count ≡ rows_with rack owners → IsRowFor w slot place owners
    → After (walk_after w slot (is_some place)) (list_after w slot (is_some place) (unwrap_or place 0) rows) r rows' → owners' ≡ owned place rack owners
    → AfterRow w rack slot rows owners r rows' owners'
unfolding IsRowFor walk_after list_after list_noted ends_at_once owners_after owned
after_row w rack Silent rows owners place r rows' owners' h counts is after left =
    record { walk_left = after.walk_left; rows_left = after.list_left; owners_left = rw is at left }
after_row w rack Clashed rows owners place r rows' owners' h counts is after left =
    record { walk_left = after.walk_left; rows_left = after.list_left; owners_left = rw is at left }
after_row w rack (Clean u) rows owners (Some at) r rows' owners' h counts is after left =
    let has : has_row rack owners ≡ true = sym (row_told w rack at owners h counts is.0) ∙ rw (lt-ltb w.count 40 is.2, lt-ltb at 64 is.1) in
    record { walk_left = rw has after.walk_left; rows_left = rw (has, ← is.0) after.list_left; owners_left = rw (has, ← is.0) left }
after_row w rack (Clean u) rows owners None r rows' owners' h counts is after left =
    let has : has_row rack owners ≡ false = sym (row_told w rack (lowest_free owners) owners h counts refl) ∙ is in
    record { walk_left = rw has after.walk_left; rows_left = rw has after.list_left; owners_left = rw has left }

-- the row for a clean UID
pub row_found : (w : Walk) (slot : Slot) {uid : ℕ} (r : Option ℕ) (owners : List ℕ) → slot ≡ Clean uid → w.count < 40 → IsLowestFree r owners → IsRowFor w slot r owners
unfolding IsRowFor IsLowestFree
row_found w slot {uid} (Some at) owners told few is = rw told (is.0, is.1, few)
row_found w slot {uid} None owners told few is = rw (told, is) (rw (lt-ltb w.count 40 few))

pub row_full : (w : Walk) (slot : Slot) (owners : List ℕ) → 40 ≤ w.count → IsRowFor w slot None owners
unfolding IsRowFor
row_full w Silent owners many = refl
row_full w Clashed owners many = refl
row_full w (Clean uid) owners many = rw (le-ltb w.count 40 many)

-- it is one of the list's
pub row_within : (w : Walk) (slot : Slot) (place : Option ℕ) (owners : List ℕ) (n : ℕ) → 64 ≤ n → IsRowFor w slot place owners → IfSome place (λ at. (w.count < 64) × (at < n))
unfolding IsRowFor
row_within w Silent place owners n room is = rw is tt
row_within w Clashed place owners n room is = rw is tt
row_within w (Clean uid) (Some at) owners n room is = (omega (arith, is.2), omega (arith, is.1))
row_within w (Clean uid) None owners n room is = tt

pub row_in_bounds : (w : Walk) (slot : Slot) (place : Option ℕ) (owners : List ℕ) → 64 ≤ length owners → IsRowFor w slot place owners → IfSome place (λ at. at < length owners)
row_in_bounds w slot (Some at) owners room is = (row_within w slot (Some at) owners (length owners) room is).1
row_in_bounds w slot None owners room is = tt

-- ---- starting

-- a call that is not refused
pub record StartServed (rack : ℕ) (owners : List ℕ) : Type 0 where
  pub is_rack : rack ≤ 1
  pub marks : owners_fit owners ≡ true

pub start_served_of : (rack : ℕ) (owners : List ℕ) → start_refusal rack owners ≡ 0 → StartServed rack owners
unfolding start_refusal is_rack
start_served_of rack owners e = go (leb rack 1) (owners_fit owners) refl refl e
  where
    go : (a b : Bool) → leb rack 1 ≡ a → owners_fit owners ≡ b → ◌≡◌ {A = ℕ} (cond a (cond b 0 5) 13) 0 → StartServed rack owners
    go true true p q e = record { is_rack = leb-true rack 1 p; marks = q }
    go true false p q e = absurd (omega arith)
    go false b p q e = absurd (omega arith)

pub start_refusal_none : (rack : ℕ) (owners : List ℕ) → StartServed rack owners → start_refusal rack owners ≡ 0
unfolding start_refusal is_rack
start_refusal_none rack owners s = rw (le-leb rack 1 s.is_rack, s.marks)

pub shared_started : (w : Walk) (rack family : ℕ) (owners : List ℕ) → StartServed rack owners
    → starting w rack family owners ≡ record { walk = started family; owners = freed rack owners; number = 0 }
unfolding starting
shared_started w rack family owners s = rw (start_refusal_none rack owners s)

pub start_refused : (w : Walk) (rack family : ℕ) (owners : List ℕ) → (start_refusal rack owners ≡ 0 → ⊥)
    → starting w rack family owners ≡ record { walk = w; owners = owners; number = start_refusal rack owners }
unfolding starting
start_refused w rack family owners h = rw (ne_eqb (start_refusal rack owners) 0 h)

-- what the call promises, either way
pub starts_served : (w : Walk) (rack family : ℕ) (owners : List ℕ) (r : Walk) (left : List ℕ) → 0 ≡ start_refusal rack owners
    → r ≡ started family → left ≡ freed rack owners → Starts w (starting w rack family owners) (Ok r) left
unfolding number_of walk_of
starts_served w rack family owners r left is begun owned =
    rw (shared_started w rack family owners (start_served_of rack owners (sym is))) (record { walk = begun; number = refl; owners_left = owned })

pub starts_refused : (w : Walk) (rack family : ℕ) (owners : List ℕ) (e : Refusal) → number e ≡ start_refusal rack owners
    → Starts w (starting w rack family owners) (Err e) owners
unfolding number_of walk_of
starts_refused w rack family owners e is =
    rw (start_refused w rack family owners (λ none. number_is_some e (is ∙ none))) (record { walk = refl; number = is; owners_left = refl })

-- ---- hearing

-- a call that is not refused
pub record SharedServed (w : Walk) (rack rows : ℕ) (owners : List ℕ) : Type 0 where
  pub is_rack : rack ≤ 1
  pub accepted : is_accepted w ≡ true
  pub runs : is_running w ≡ true
  pub room : 64 ≤ rows
  pub marks : owners_fit owners ≡ true
  pub first : rows_with 0 owners ≤ 40
  pub second : rows_with 1 owners ≤ 40
  pub counts : w.count ≡ rows_with rack owners

pub shared_served_of : (w : Walk) (rack rows : ℕ) (owners : List ℕ) → hear_refusal w rack rows owners ≡ 0 → SharedServed w rack rows owners
unfolding hear_refusal is_rack list_fits shares_fit most_rows places
shared_served_of w rack rows owners e =
    go (leb rack 1) (is_accepted w) (is_running w) (leb 64 rows && owners_fit owners)
    (leb (rows_with 0 owners) 40 && (leb (rows_with 1 owners) 40 && eqb w.count (rows_with rack owners))) refl refl refl refl refl e
  where
    go : (a b c d f : Bool) → leb rack 1 ≡ a → is_accepted w ≡ b → is_running w ≡ c → (leb 64 rows && owners_fit owners) ≡ d
        → (leb (rows_with 0 owners) 40 && (leb (rows_with 1 owners) 40 && eqb w.count (rows_with rack owners))) ≡ f
        → ◌≡◌ {A = ℕ} (cond a (cond b (cond c (cond d (cond f 0 10) 5) 6) 10) 13) 0 → SharedServed w rack rows owners
    go true true true true true p q u v x e =
        let lists = (and-eq-true_iff (leb 64 rows) (owners_fit owners)).0 v in
        let most = (and-eq-true_iff (leb (rows_with 0 owners) 40) _).0 x in
        let counts = (and-eq-true_iff (leb (rows_with 1 owners) 40) _).0 most.1 in
        record {
          is_rack = leb-true rack 1 p;
          accepted = q;
          runs = u;
          room = leb-true 64 rows lists.0;
          marks = lists.1;
          first = leb-true (rows_with 0 owners) 40 most.0;
          second = leb-true (rows_with 1 owners) 40 counts.0;
          counts = eqb-true w.count (rows_with rack owners) counts.1;
        }
    go true true true true false p q u v x e = absurd (omega arith)
    go true true true false f p q u v x e = absurd (omega arith)
    go true true false d f p q u v x e = absurd (omega arith)
    go true false c d f p q u v x e = absurd (omega arith)
    go false b c d f p q u v x e = absurd (omega arith)

pub refusal_none : (w : Walk) (rack rows : ℕ) (owners : List ℕ) → SharedServed w rack rows owners → hear_refusal w rack rows owners ≡ 0
unfolding hear_refusal is_rack list_fits shares_fit most_rows places
refusal_none w rack rows owners s =
    rw (
      le-leb rack 1 s.is_rack,
      s.accepted,
      s.runs,
      le-leb 64 rows s.room,
      s.marks,
      le-leb (rows_with 0 owners) 40 s.first,
      le-leb (rows_with 1 owners) 40 s.second,
      eq-eqb w.count (rows_with rack owners) s.counts,
    )

-- a rack that has a row for one more
pub row_few : (w : Walk) (rack rows : ℕ) (owners : List ℕ) → SharedServed w rack rows owners → has_row rack owners ≡ true → w.count < 64
unfolding has_row most_rows
row_few w rack rows owners s e =
    let few = ltb-true (rows_with rack owners) 40 ((and-eq-true_iff (ltb (rows_with rack owners) 40) _).0 e).0 in
    omega (arith, few, s.counts)

pub shared_heard : (w : Walk) (rack : ℕ) (kind : Kind) (bytes rows owners : List ℕ) → SharedServed w rack (length rows) owners
    → shared_hearing w rack kind bytes rows owners
    ≡ record {
      walk = walk_after w (judged w kind bytes) (has_row rack owners);
      rows = list_after w (judged w kind bytes) (has_row rack owners) (lowest_free owners) rows;
      owners = owners_after (judged w kind bytes) (has_row rack owners) (lowest_free owners) rack owners;
      number = 0;
    }
unfolding shared_hearing
shared_heard w rack kind bytes rows owners s = rw (refusal_none w rack (length rows) owners s)

pub shared_refused : (w : Walk) (rack : ℕ) (kind : Kind) (bytes rows owners : List ℕ) → (hear_refusal w rack (length rows) owners ≡ 0 → ⊥)
    → shared_hearing w rack kind bytes rows owners
    ≡ record { walk = w; rows = rows; owners = owners; number = hear_refusal w rack (length rows) owners }
unfolding shared_hearing
shared_refused w rack kind bytes rows owners h = rw (ne_eqb (hear_refusal w rack (length rows) owners) 0 h)

-- what the call promises, either way
pub hears_shared_served : (w : Walk) (rack : ℕ) (kind : Kind) (bytes rows owners : List ℕ) (slot : Slot) (r : Walk) (rows' owners' : List ℕ)
    → 0 ≡ hear_refusal w rack (length rows) owners → slot ≡ judged w kind bytes → AfterRow w rack slot rows owners r rows' owners'
    → HearsShared w (shared_hearing w rack kind bytes rows owners) (Ok r) rows' owners'
unfolding number_of walk_of
hears_shared_served w rack kind bytes rows owners slot r rows' owners' is heard after =
    rw (shared_heard w rack kind bytes rows owners (shared_served_of w rack (length rows) owners (sym is)), ← heard)
    (record { walk = after.walk_left; number = refl; rows_left = after.rows_left; owners_left = after.owners_left })

pub hears_shared_refused : (w : Walk) (rack : ℕ) (kind : Kind) (bytes rows owners : List ℕ) (e : Refusal) → number e ≡ hear_refusal w rack (length rows) owners
    → HearsShared w (shared_hearing w rack kind bytes rows owners) (Err e) rows owners
unfolding number_of walk_of
hears_shared_refused w rack kind bytes rows owners e is =
    rw (shared_refused w rack kind bytes rows owners (λ none. number_is_some e (is ∙ none)))
    (record { walk = refl; number = is; rows_left = refl; owners_left = refl })
