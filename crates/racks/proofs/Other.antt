-- What one rack sees of the other: it keeps its rows, it is refused as before, and of the other's rows only the number of free ones counts. By what a call
-- leaves of the list, and the numbers of rows. Assumes nothing.
use mathlib.Core.Path.{◌≡◌, refl, sym, ap, ap₂, subst, ◌∙◌}
use mathlib.Core.Bool.{Bool, true, false, cond, ◌&&◌}
use mathlib.Core.List.{List}
use Prim.Native.Nat.{ℕ, ◌+◌, ◌≤◌}
use native.Mathlib.Decide.{ℕ_discrete, dec_le}
use native.Mathlib.Omega.{arith}
use borrow.Author.Tests.{le-leb, lt-leb, ne_eqb}
use lib.Dec.{leb, eqb}
use lib.ListN.{length, get_or, set, length-set}
use lib.Seq.{get_or-set_same, get_or-set_other}
use Rattle.tails.specs.Sum.{one, times}
use Rattle.walk.specs.declared.Walk.{Walk}
use Rattle.walk.specs.declared.Kind.{Kind}
use Rattle.walk.specs.declared.Slot.{Slot}
use Rattle.walk.specs.Record.{is_accepted, is_running}
use Rattle.walk.specs.Hear.{judged, walk_after}
use Rattle.walk.specs.Shared.{rows_with, is_rack, owners_fit, list_fits, most_rows, shares_fit, start_refusal, hear_refusal, freed, has_row, shared_hearing, starting}
use Rattle.walk.proofs.Owners.{rows_with_all, taken_own, taken_other, taken_fit, freed_own, freed_other, freed_fit, freed_below}
use Rattle.walk.proofs.SharedWays.{start_served_of, shared_started, start_refused, shared_served_of, refusal_none, shared_heard, shared_refused}
use Rattle.field.proofs.AnyReplies.{added}
use Rattle.racks.specs.Calls.{OneList, list_after_call}
use Rattle.racks.specs.OneCall.{Keeps, OtherKeeps, RefusedAsBefore, ServedAfterStart, ServedAfterStartAlways, Alike, SameHeard, FreeRowsAlone}
use Rattle.racks.proofs.Changed.{Open, Heard, stays, takes, After, hearing, frees, heard_after, call_after, start_by_marks, fits_length, other_list, row_open, own_most}
use Rattle.racks.proofs.OwnSlot.{own_lists}
use Rattle.racks.proofs.Demand.{rows_of_fits, owners_of_fits, rows_counted}

-- ---- rows and marks

taken_mark : (rack at s i : ℕ) (rows owners : List ℕ) → Open rack at rows owners → s ≤ 1 → get_or owners i 0 ≡ s → get_or (set owners at rack) i 0 ≡ s
taken_mark rack at s i rows owners o is e =
    let apart : i ≡ at → ⊥ = λ f. let free : get_or owners i 0 ≡ 255 = ap (λ (k : ℕ). get_or owners k 0) f ∙ o.was_free in omega arith in
    get_or-set_other owners at i rack 0 apart ∙ e

taken_row : (rack at uid s i : ℕ) (rows owners : List ℕ) → Open rack at rows owners → s ≤ 1 → get_or owners i 0 ≡ s → get_or (set rows at uid) i 0 ≡ get_or rows i 0
taken_row rack at uid s i rows owners o is e =
    let apart : i ≡ at → ⊥ = λ f. let free : get_or owners i 0 ≡ 255 = ap (λ (k : ℕ). get_or owners k 0) f ∙ o.was_free in omega arith in
    get_or-set_other rows at i uid 0 apart

taken_new : (rack at s i : ℕ) (rows owners : List ℕ) → Open rack at rows owners → (s ≡ rack → ⊥) → get_or (set owners at rack) i 0 ≡ s → get_or owners i 0 ≡ s
taken_new rack at s i rows owners o other e = go (ℕ_discrete i at)
  where
    long : 64 ≤ length owners
    long = fits_length owners o.owners_fit

    go : Dec (i ≡ at) → get_or owners i 0 ≡ s
    go (yes f) =
        let own : get_or (set owners at rack) i 0 ≡ rack = ap (λ (k : ℕ). get_or (set owners at rack) k 0) f ∙ get_or-set_same owners at rack 0 (omega (arith, o.within, long)) in
        absurd (other (sym e ∙ own))
    go (no f) = sym (get_or-set_other owners at i rack 0 f) ∙ e

freed_mark : (rack s m : ℕ) → (s ≡ rack → ⊥) → m ≡ s → cond (eqb m rack) 255 m ≡ s
freed_mark rack s m other e = rw (ne_eqb m rack (λ f. other (sym e ∙ f))) e

freed_new : (rack s m : ℕ) → s ≤ 1 → cond (eqb m rack) 255 m ≡ s → m ≡ s
freed_new rack s m is e = go (eqb m rack) e
  where
    go : (b : Bool) → cond b 255 m ≡ s → m ≡ s
    go true f = absurd (omega arith)
    go false f = f

keeps_after : (rack s : ℕ) (l l' : OneList) → s ≤ 1 → (s ≡ rack → ⊥) → After rack l.rows l.owners l'.rows l'.owners → Keeps s l l'
keeps_after rack s l l' is other (hearing (stays p q)) =
    record {
      marks = λ i h e. rw q e;
      rows = λ i h e. rw p;
      none_new = λ i h e. rw q at e;
      list = other_list rack s l.rows l.owners l'.rows l'.owners (hearing (stays p q)) is other;
    }
keeps_after rack s l l' is other (hearing (takes at uid o p q)) =
    record {
      marks = λ i h e. rw q (taken_mark rack at s i l.rows l.owners o is e);
      rows = λ i h e. rw p (taken_row rack at uid s i l.rows l.owners o is e);
      none_new = λ i h e. taken_new rack at s i l.rows l.owners o other (rw q at e);
      list = other_list rack s l.rows l.owners l'.rows l'.owners (hearing (takes at uid o p q)) is other;
    }
keeps_after rack s l l' is other (frees r f p q) =
    let long : 64 ≤ length l.owners = fits_length l.owners f in
    record {
      marks = λ i h e. rw (q, freed_below rack l.owners long i h) (freed_mark rack s (get_or l.owners i 0) other e);
      rows = λ i h e. rw p;
      none_new = λ i h e. freed_new rack s (get_or l.owners i 0) is (rw (q, freed_below rack l.owners long i h) at e);
      list = other_list rack s l.rows l.owners l'.rows l'.owners (frees r f p q) is other;
    }

pub other_keeps : OtherKeeps
unfolding OtherKeeps
other_keeps rack s call l is other = keeps_after rack s l (list_after_call rack call l) is other (call_after rack call l)

-- ---- the refusals of the other rack

-- "over 40" is the same before and after
most_same : {a b : ℕ} → a ≤ 40 → b ≤ 40 → leb a 40 ≡ leb b 40
most_same {a} {b} p q = le-leb a 40 p ∙ sym (le-leb b 40 q)

shares_taken : (v : Walk) (rack at s : ℕ) (rows owners : List ℕ) → Open rack at rows owners → s ≤ 1 → (s ≡ rack → ⊥)
    → shares_fit v s (set owners at rack) ≡ shares_fit v s owners
unfolding shares_fit most_rows
shares_taken v rack at s rows owners o is other = go (ℕ_discrete rack 0)
  where
    long : 64 ≤ length owners
    long = fits_length owners o.owners_fit

    more : rows_with rack (set owners at rack) ≡ rows_with rack owners + 1
    more = taken_own owners at rack o.within long o.was_free o.rack_is

    kept : rows_with s (set owners at rack) ≡ rows_with s owners
    kept = taken_other owners at rack o.within long o.was_free o.rack_is s other (λ f. omega arith)

    own : leb (rows_with rack (set owners at rack)) 40 ≡ leb (rows_with rack owners) 40
    own = most_same {a = rows_with rack (set owners at rack)} {b = rows_with rack owners} (omega (arith, more, o.few)) (omega (arith, o.few))

    go : Dec (rack ≡ 0)
        → (leb (rows_with 0 (set owners at rack)) 40 && (leb (rows_with 1 (set owners at rack)) 40 && eqb v.count (rows_with s (set owners at rack))))
        ≡ (leb (rows_with 0 owners) 40 && (leb (rows_with 1 owners) 40 && eqb v.count (rows_with s owners)))
    go (yes e) =
        let second : s ≡ 1 = let apart : s ≡ 0 → ⊥ = λ f. other (f ∙ sym e) in omega arith in
        let first : leb (rows_with 0 (set owners at rack)) 40 ≡ leb (rows_with 0 owners) 40 = subst (λ (k : ℕ). leb (rows_with k (set owners at rack)) 40 ≡ leb (rows_with k owners) 40) e own in
        let same : rows_with 1 (set owners at rack) ≡ rows_with 1 owners = subst (λ (k : ℕ). rows_with k (set owners at rack) ≡ rows_with k owners) second kept in
        rw (first, same, kept)
    go (no e) =
        let one : rack ≡ 1 = omega (arith, o.rack_is) in
        let zero : s ≡ 0 = let apart : s ≡ 1 → ⊥ = λ f. other (f ∙ sym one) in omega arith in
        let second : leb (rows_with 1 (set owners at rack)) 40 ≡ leb (rows_with 1 owners) 40 = subst (λ (k : ℕ). leb (rows_with k (set owners at rack)) 40 ≡ leb (rows_with k owners) 40) one own in
        let same : rows_with 0 (set owners at rack) ≡ rows_with 0 owners = subst (λ (k : ℕ). rows_with k (set owners at rack) ≡ rows_with k owners) zero kept in
        rw (same, second, kept)

fits_taken : (rack at : ℕ) (rows owners : List ℕ) → Open rack at rows owners → owners_fit (set owners at rack) ≡ owners_fit owners
fits_taken rack at rows owners o = taken_fit owners at rack o.within (fits_length owners o.owners_fit) o.was_free o.rack_is o.owners_fit ∙ sym o.owners_fit

hear_as_before : (v : Walk) (rack s : ℕ) (rows owners rows' owners' : List ℕ) → s ≤ 1 → (s ≡ rack → ⊥) → Heard rack rows owners rows' owners'
    → hear_refusal v s (length rows') owners' ≡ hear_refusal v s (length rows) owners
unfolding hear_refusal list_fits
hear_as_before v rack s rows owners rows' owners' is other (stays p q) = rw (p, q)
hear_as_before v rack s rows owners rows' owners' is other (takes at uid o p q) =
    rw (p, q, length-set, fits_taken rack at rows owners o, shares_taken v rack at s rows owners o is other)

no_rack_hears : (v : Walk) (s rows : ℕ) (owners : List ℕ) → (s ≤ 1 → ⊥) → hear_refusal v s rows owners ≡ 13
unfolding hear_refusal is_rack
no_rack_hears v s rows owners h = rw (lt-leb s 1 (omega arith))

start_as_before : (rack s : ℕ) (rows owners rows' owners' : List ℕ) → Heard rack rows owners rows' owners' → start_refusal s owners' ≡ start_refusal s owners
unfolding start_refusal
start_as_before rack s rows owners rows' owners' (stays p q) = rw q
start_as_before rack s rows owners rows' owners' (takes at uid o p q) = rw (q, fits_taken rack at rows owners o)

pub refused_as_before : RefusedAsBefore
unfolding RefusedAsBefore
refused_as_before w rack kind bytes l s other =
    let after = heard_after w rack kind bytes l.rows l.owners in
    (λ v. go v (dec_le s 1) after, start_as_before rack s l.rows l.owners _ _ after)
  where
    go : (v : Walk) → Dec (s ≤ 1)
        → Heard rack l.rows l.owners (shared_hearing w rack kind bytes l.rows l.owners).rows (shared_hearing w rack kind bytes l.rows l.owners).owners
        → hear_refusal v s (length (shared_hearing w rack kind bytes l.rows l.owners).rows) (shared_hearing w rack kind bytes l.rows l.owners).owners
        ≡ hear_refusal v s (length l.rows) l.owners
    go v (yes is) after = hear_as_before v rack s l.rows l.owners _ _ is other after
    go v (no h) after = no_rack_hears v s _ _ h ∙ sym (no_rack_hears v s _ _ h)

-- ---- after a start

module _ (w : Walk) (rack family : ℕ) (l : OneList) (s : ℕ) (v : Walk) (is : s ≤ 1) (r : rack ≤ 1) (other : s ≡ rack → ⊥) where
  -- number 5 accepts the marks: all that the other rack needs is left, and the rack's own rows are free
  freed_serves : owners_fit l.owners ≡ true → is_accepted v ≡ true → is_running v ≡ true → 64 ≤ length l.rows → rows_with s l.owners ≤ 40
      → v.count ≡ rows_with s l.owners → hear_refusal v s (length l.rows) (freed rack l.owners) ≡ 0
  freed_serves fits accepted running rows most number =
      refusal_none v s (length l.rows) (freed rack owners)
      (record {
        is_rack = is;
        accepted = accepted;
        runs = running;
        room = rows;
        marks = freed_fit rack owners long fits;
        first = few 0 (omega arith) (ℕ_discrete 0 rack);
        second = few 1 (omega arith) (ℕ_discrete 1 rack);
        counts = number ∙ sym kept;
      })
    where
      owners : List ℕ
      owners = l.owners

      long : 64 ≤ length owners
      long = fits_length owners fits

      kept : rows_with s (freed rack owners) ≡ rows_with s owners
      kept = freed_other rack owners long r s other (λ f. omega arith)

      none : rows_with rack (freed rack owners) ≡ 0
      none = freed_own rack owners long r

      -- the started rack owns none, and the other as many as before
      few : (m : ℕ) → m ≤ 1 → Dec (m ≡ rack) → rows_with m (freed rack owners) ≤ 40
      few m h (yes e) = rw e (omega (arith, none))
      few m h (no e) =
          let same : m ≡ s = omega (arith, h, e, is, r, other) in
          rw same (omega (arith, kept, most))

  -- started, or the marks were refused
  start_serves : Dec (start_refusal rack l.owners ≡ 0) → ServedAfterStart v s (length l.rows) l (starting w rack family l.owners).owners
  unfolding start_refusal
  start_serves (yes e) =
      let fits : owners_fit l.owners ≡ true = (start_served_of rack l.owners e).marks in
      rw (shared_started w rack family l.owners (start_served_of rack l.owners e))
      (record {
        starts = rw (freed_fit rack l.owners (fits_length l.owners fits) fits, fits);
        serves = λ f. let p = shared_served_of v s (length l.rows) l.owners f in freed_serves fits p.accepted p.runs p.room (own_most v s (length l.rows) l.owners p) p.counts;
        now_served = λ a b c d n. freed_serves fits a b (rows_of_fits l c) (rw rows_counted d) (n ∙ sym (rows_counted s l.owners));
      })
  start_serves (no e) =
      rw (start_refused w rack family l.owners e)
      (record {
        starts = refl;
        serves = λ f. f;
        now_served = λ a b c d n. absurd (e (start_by_marks rack l.owners r (owners_of_fits l c)));
      })

pub served_after_start : ServedAfterStartAlways
unfolding ServedAfterStartAlways
served_after_start w rack family l s v is r other = start_serves w rack family l s v is r other (ℕ_discrete (start_refusal rack l.owners) 0)

-- ---- the number of free rows

module _ (rack : ℕ) (l l' : OneList) (a : Alike rack l l') where
  same_own : rows_with rack l.owners ≡ rows_with rack l'.owners
  same_own = rows_counted rack l.owners ∙ a.own ∙ sym (rows_counted rack l'.owners)

  same_free : rows_with 255 l.owners ≡ rows_with 255 l'.owners
  same_free = rows_counted 255 l.owners ∙ a.free ∙ sym (rows_counted 255 l'.owners)

  -- so the other rack has as many too
  same_rows : rack ≤ 1 → (rows_with 0 l.owners ≡ rows_with 0 l'.owners) × (rows_with 1 l.owners ≡ rows_with 1 l'.owners)
  same_rows is = go (ℕ_discrete rack 0)
    where
      all : rows_with 255 l.owners + rows_with 0 l.owners + rows_with 1 l.owners ≡ 64
      all = rows_with_all l.owners (owners_of_fits l a.fits)

      all' : rows_with 255 l'.owners + rows_with 0 l'.owners + rows_with 1 l'.owners ≡ 64
      all' = rows_with_all l'.owners (owners_of_fits l' a.fits')

      go : Dec (rack ≡ 0) → (rows_with 0 l.owners ≡ rows_with 0 l'.owners) × (rows_with 1 l.owners ≡ rows_with 1 l'.owners)
      go (yes e) =
          let own : rows_with 0 l.owners ≡ rows_with 0 l'.owners = subst (λ (k : ℕ). rows_with k l.owners ≡ rows_with k l'.owners) e same_own in
          (own, omega (arith, own, same_free, all, all'))
      go (no e) =
          let second : rack ≡ 1 = omega arith in
          let own : rows_with 1 l.owners ≡ rows_with 1 l'.owners = subst (λ (k : ℕ). rows_with k l.owners ≡ rows_with k l'.owners) second same_own in
          (omega (arith, own, same_free, all, all'), own)

  same_row : has_row rack l.owners ≡ has_row rack l'.owners
  unfolding has_row
  same_row = rw (same_own, same_free)

  same_refusal : (w : Walk) → hear_refusal w rack (length l.rows) l.owners ≡ hear_refusal w rack (length l'.rows) l'.owners
  unfolding hear_refusal shares_fit
  same_refusal w = go (dec_le rack 1)
    where
      go : Dec (rack ≤ 1) → hear_refusal w rack (length l.rows) l.owners ≡ hear_refusal w rack (length l'.rows) l'.owners
      go (yes is) = rw (a.fits, a.fits', (same_rows is).0, (same_rows is).1, same_own)
      go (no h) = no_rack_hears w rack _ _ h ∙ sym (no_rack_hears w rack _ _ h)

  same_heard : (w : Walk) (kind : Kind) (bytes : List ℕ) → Dec (hear_refusal w rack (length l.rows) l.owners ≡ 0)
      → SameHeard rack l l' (shared_hearing w rack kind bytes l.rows l.owners) (shared_hearing w rack kind bytes l'.rows l'.owners)
  unfolding times
  same_heard w kind bytes (yes e) =
      let s = shared_served_of w rack (length l.rows) l.owners e in
      let s' = shared_served_of w rack (length l'.rows) l'.owners (sym (same_refusal w) ∙ e) in
      let slot : Slot = judged w kind bytes in
      rw (shared_heard w rack kind bytes l.rows l.owners s, shared_heard w rack kind bytes l'.rows l'.owners s')
      (record {
        number = refl;
        walk = ap (walk_after w slot) same_row;
        lists = λ same u.
            let v : ℕ → ℕ = λ x. one (eqb x u) in
            own_lists w rack l.rows l.owners slot (has_row rack l.owners) (row_open w rack l.rows l.owners s) v
            ∙ ap₂ (λ (m : ℕ) (b : Bool). m + added v slot b) (same u) same_row
            ∙ sym (own_lists w rack l'.rows l'.owners slot (has_row rack l'.owners) (row_open w rack l'.rows l'.owners s') v);
      })
  same_heard w kind bytes (no e) =
      rw (shared_refused w rack kind bytes l.rows l.owners e, shared_refused w rack kind bytes l'.rows l'.owners (λ f. e (same_refusal w ∙ f)))
      (record { number = same_refusal w; walk = refl; lists = λ same. same })

pub free_rows_alone : FreeRowsAlone
unfolding FreeRowsAlone
free_rows_alone w rack kind bytes l l' a = same_heard rack l l' a w kind bytes (ℕ_discrete (hear_refusal w rack (length l.rows) l.owners) 0)
