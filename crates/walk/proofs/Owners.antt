-- Laws of the owner marks of a shared list, the first 64 of those that are lent: how many rows have each, the lowest free row, a row taken, rows
-- freed. By the laws of a list of marks (MarkLists.antt, MarksFreed.antt). Assumes nothing.
use mathlib.Core.Path.{◌≡◌, refl, sym, ap, ◌∙◌}
use mathlib.Core.Bool.{true, cond, and-eq-true_iff}
use mathlib.Core.List.{List, [], ◌∷◌}
use Prim.Native.Nat.{ℕ, zero, suc, ◌+◌, ◌-◌, ◌≤◌, ◌<◌}
use native.Mathlib.Omega.{arith}
use borrow.Author.Tests.{leb-true, le-leb, eqb-true}
use lib.Dec.{leb, ltb, eqb}
use lib.ListN.{length, take, drop, set, get_or, length-take, length-set, get_or-append}
use lib.Seq.{length-take-le, take-suc, take-set-lt, get_or-take, get_or-drop, get_or-append-add}
use Rattle.lent.specs.Lent.{over}
use Rattle.lent.proofs.Over.{length_over, take_over}
use Rattle.tails.specs.Sum.{one, tally, times}
use Rattle.tails.proofs.Tally.{tally_append}
use Rattle.walk.specs.Record.{places}
use Rattle.walk.specs.Shared.{marks_of, rows_with, lowest_free, are_marks, owners_fit, freed_of, freed}
use Rattle.walk.proofs.MarkLists.{one_same, one_other, is_mark, marks_most, marks_all, first_free_most, first_free_below, first_free_is, first_free_lowest}
use Rattle.walk.proofs.MarkLists.{times_set, are_marks_set}
use Rattle.walk.proofs.MarksFreed.{length_freed_of, freed_of_get, are_marks_freed, times_freed_own, times_freed_free, times_freed_other}

-- ---- the marks

pub length_marks : (owners : List ℕ) → 64 ≤ length owners → length (marks_of owners) ≡ 64
unfolding marks_of places
length_marks owners h = length-take-le 64 owners h

pub marks_get : (owners : List ℕ) (i : ℕ) → i < 64 → get_or (marks_of owners) i 0 ≡ get_or owners i 0
unfolding marks_of places
marks_get owners i h = get_or-take 64 owners i 0 h

pub marks_set : (owners : List ℕ) (at x : ℕ) → at < 64 → marks_of (set owners at x) ≡ set (marks_of owners) at x
unfolding marks_of places
marks_set owners at x h = take-set-lt 64 owners at x h

-- number 5's test of them, both ways
pub owners_fit_of : (owners : List ℕ) → owners_fit owners ≡ true → (64 ≤ length owners) × (are_marks (marks_of owners) ≡ true)
unfolding owners_fit places
owners_fit_of owners e =
    let both = (and-eq-true_iff (leb 64 (length owners)) (are_marks (marks_of owners))).0 e in
    (leb-true 64 (length owners) both.0, both.1)

pub owners_fit_lem : (owners : List ℕ) → 64 ≤ length owners → are_marks (marks_of owners) ≡ true → owners_fit owners ≡ true
unfolding owners_fit places
owners_fit_lem owners h e = (and-eq-true_iff (leb 64 (length owners)) (are_marks (marks_of owners))).1 (le-leb 64 (length owners) h, e)

-- ---- how many rows have a mark

-- one step of the count
pub times_step : (mark i : ℕ) (owners : List ℕ) → i < length owners
    → times mark (take (i + 1) owners) ≡ times mark (take i owners) + one (eqb (get_or owners i 0) mark)
unfolding times tally
times_step mark i owners h =
    let next : i + 1 ≡ suc i = omega arith in
    rw (next, take-suc owners i 0 h, tally_append (λ x. one (eqb x mark)) (take i owners) (get_or owners i 0 ∷ [])) (omega arith)

pub rows_with_most : (owners : List ℕ) → 64 ≤ length owners → rows_with 255 owners + rows_with 0 owners + rows_with 1 owners ≤ 64
unfolding rows_with
rows_with_most owners h = omega (arith, marks_most (marks_of owners), length_marks owners h)

pub rows_with_sum : (owners : List ℕ) → 64 ≤ length owners
    → eqb (rows_with 255 owners + rows_with 0 owners + rows_with 1 owners) 64 ≡ are_marks (marks_of owners)
unfolding rows_with
rows_with_sum owners h =
    ap (eqb (times 255 (marks_of owners) + times 0 (marks_of owners) + times 1 (marks_of owners))) (sym (length_marks owners h)) ∙ marks_all (marks_of owners)

pub rows_with_all : (owners : List ℕ) → owners_fit owners ≡ true → rows_with 255 owners + rows_with 0 owners + rows_with 1 owners ≡ 64
rows_with_all owners e =
    let fit = owners_fit_of owners e in
    eqb-true _ 64 (rows_with_sum owners fit.0 ∙ fit.1)

-- ---- the lowest free row

pub lowest_free_most : (owners : List ℕ) → lowest_free owners ≤ 64
unfolding lowest_free marks_of places
lowest_free_most owners = omega (arith, first_free_most (take 64 owners), length-take 64 owners)

pub lowest_free_below : (owners : List ℕ) → 64 ≤ length owners → ltb 0 (rows_with 255 owners) ≡ ltb (lowest_free owners) 64
unfolding rows_with lowest_free
lowest_free_below owners h = first_free_below (marks_of owners) ∙ ap (ltb (lowest_free owners)) (length_marks owners h)

pub lowest_free_is : (owners : List ℕ) → lowest_free owners < 64 → 64 ≤ length owners → get_or owners (lowest_free owners) 0 ≡ 255
unfolding lowest_free
lowest_free_is owners below h =
    sym (marks_get owners (lowest_free owners) below) ∙ first_free_is (marks_of owners) (omega (arith, below, length_marks owners h))

pub lowest_free_lowest : (owners : List ℕ) (i : ℕ) → i < lowest_free owners → get_or owners i 0 ≡ 255 → ⊥
unfolding lowest_free
lowest_free_lowest owners i h is =
    first_free_lowest (marks_of owners) i h (marks_get owners i (omega (arith, h, lowest_free_most owners)) ∙ is)

-- ---- a row taken

rack_is_mark : (rack : ℕ) → rack ≤ 1 → is_mark rack ≡ true
rack_is_mark zero few = refl
rack_is_mark (suc zero) few = refl
rack_is_mark (suc (suc rack)) few = absurd (omega arith)

rows_with_set : (mark : ℕ) (owners : List ℕ) (at x : ℕ) → at < 64 → 64 ≤ length owners
    → rows_with mark (set owners at x) + one (eqb (get_or owners at 0) mark) ≡ rows_with mark owners + one (eqb x mark)
unfolding rows_with
rows_with_set mark owners at x h room =
    rw (marks_set owners at x h, ← marks_get owners at h) (times_set mark (marks_of owners) at x (omega (arith, length_marks owners room)))

module _ (owners : List ℕ) (at rack : ℕ) (h : at < 64) (room : 64 ≤ length owners) (is : get_or owners at 0 ≡ 255) (few : rack ≤ 1) where
  pub taken_own : rows_with rack (set owners at rack) ≡ rows_with rack owners + 1
  taken_own =
      omega (
        arith,
        rows_with_set rack owners at rack h room,
        one_other {a = get_or owners at 0} {b = rack} (λ e. omega arith),
        one_same {a = rack} {b = rack} refl,
      )

  pub taken_free : rows_with 255 (set owners at rack) + 1 ≡ rows_with 255 owners
  taken_free =
      omega (
        arith,
        rows_with_set 255 owners at rack h room,
        one_same {a = get_or owners at 0} {b = 255} is,
        one_other {a = rack} {b = 255} (λ e. omega arith),
      )

  pub taken_other : (mark : ℕ) → (mark ≡ rack → ⊥) → (mark ≡ 255 → ⊥) → rows_with mark (set owners at rack) ≡ rows_with mark owners
  taken_other mark other held =
      omega (
        arith,
        rows_with_set mark owners at rack h room,
        one_other {a = get_or owners at 0} {b = mark} (λ e. held (sym e ∙ is)),
        one_other {a = rack} {b = mark} (λ e. other (sym e)),
      )

  pub taken_fit : owners_fit owners ≡ true → owners_fit (set owners at rack) ≡ true
  taken_fit e =
      owners_fit_lem (set owners at rack) (rw (length-set owners at rack) room)
      (rw (marks_set owners at rack h) (are_marks_set (marks_of owners) at rack (rack_is_mark rack few) (owners_fit_of owners e).1))

-- ---- rows freed

module _ (rack : ℕ) (owners : List ℕ) (room : 64 ≤ length owners) where
  length_freed_marks : length (freed_of rack (marks_of owners)) ≡ 64
  length_freed_marks = length_freed_of rack (marks_of owners) ∙ length_marks owners room

  pub marks_freed : marks_of (freed rack owners) ≡ freed_of rack (marks_of owners)
  unfolding freed marks_of places
  marks_freed =
      ap (λ (n : ℕ). take n (over (freed_of rack (take 64 owners)) owners)) (sym length_freed_marks) ∙ take_over (freed_of rack (take 64 owners)) owners

  pub length_freed : length (freed rack owners) ≡ length owners
  unfolding freed
  length_freed = length_over (freed_of rack (marks_of owners)) owners (omega (arith, length_freed_marks))

  pub freed_below : (i : ℕ) → i < 64 → get_or (freed rack owners) i 0 ≡ cond (eqb (get_or owners i 0) rack) 255 (get_or owners i 0)
  unfolding freed over
  freed_below i h =
      get_or-append (freed_of rack (marks_of owners)) _ 0 i (omega (arith, length_freed_marks))
      ∙ freed_of_get rack (marks_of owners) i (omega (arith, length_marks owners room))
      ∙ rw (marks_get owners i h)

  pub freed_past : (i : ℕ) → 64 ≤ i → get_or (freed rack owners) i 0 ≡ get_or owners i 0
  unfolding freed over
  freed_past i h =
      let s : List ℕ = freed_of rack (marks_of owners) in
      let place : length s + (i - 64) ≡ i = omega (arith, length_freed_marks) in
      rw (← place) (get_or-append-add s (drop (length s) owners) (i - 64) 0 ∙ get_or-drop (length s) owners (i - 64) 0)

  pub freed_fit : owners_fit owners ≡ true → owners_fit (freed rack owners) ≡ true
  freed_fit e = owners_fit_lem (freed rack owners) (rw length_freed room) (rw marks_freed (are_marks_freed rack (marks_of owners) (owners_fit_of owners e).1))

  module _ (few : rack ≤ 1) where
    pub freed_own : rows_with rack (freed rack owners) ≡ 0
    unfolding rows_with
    freed_own = rw marks_freed (times_freed_own rack (λ e. omega arith) (marks_of owners))

    pub freed_free : rows_with 255 (freed rack owners) ≡ rows_with 255 owners + rows_with rack owners
    unfolding rows_with
    freed_free = rw marks_freed (times_freed_free rack (λ e. omega arith) (marks_of owners))

    pub freed_other : (mark : ℕ) → (mark ≡ rack → ⊥) → (mark ≡ 255 → ⊥) → rows_with mark (freed rack owners) ≡ rows_with mark owners
    unfolding rows_with
    freed_other mark other held = rw marks_freed (times_freed_other rack (λ e. omega arith) mark other held (marks_of owners))
