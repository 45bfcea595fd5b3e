-- Laws of a walk's list where two racks share the rows: as many UIDs as its rack owns rows, one more where a row is taken, none where they are
-- freed, and the other rack's stays. By induction over rows and marks. Assumes nothing.
use mathlib.Core.Path.{◌≡◌, refl, sym, ◌∙◌}
use mathlib.Core.Bool.{Bool, true, false, cond}
use mathlib.Core.List.{List, [], ◌∷◌}
use Prim.Native.Nat.{ℕ, zero, suc, ◌+◌, ◌≤◌, ◌<◌}
use native.Mathlib.Omega.{arith}
use borrow.Author.Tests.{eq-eqb, ne_eqb, eqb-true}
use lib.Dec.{eqb}
use lib.ListN.{length, set, get_or}
use Rattle.tails.specs.Sum.{one, tally, times}
use Rattle.walk.specs.Shared.{marks_of, rows_with, uids_with, list_of, freed_of, freed}
use Rattle.walk.proofs.Owners.{length_marks, marks_get, marks_set, marks_freed}

-- ---- the UIDs with a mark

length_uids : (mark : ℕ) (rows ms : List ℕ) → length ms ≤ length rows → length (uids_with mark rows ms) ≡ times mark ms
unfolding uids_with times tally one
length_uids mark [] [] h = refl
length_uids mark [] (m ∷ ms) h = absurd (omega arith)
length_uids mark (u ∷ rows) [] h = refl
length_uids mark (u ∷ rows) (m ∷ ms) h = go (eqb m mark) (length_uids mark rows ms (omega arith))
  where
    go : (b : Bool) → length (uids_with mark rows ms) ≡ times mark ms
        → length (cond b (u ∷ uids_with mark rows ms) (uids_with mark rows ms)) ≡ one b + times mark ms
    go true rest = omega arith
    go false rest = omega arith

uids_taken : (v : ℕ → ℕ) (rack uid at : ℕ) (rows ms : List ℕ) → at < length rows → at < length ms → (get_or ms at 0 ≡ rack → ⊥)
    → tally v (uids_with rack (set rows at uid) (set ms at rack)) ≡ tally v (uids_with rack rows ms) + v uid
unfolding uids_with tally
uids_taken v rack uid at [] ms h k other = absurd (omega arith)
uids_taken v rack uid at (u ∷ rows) [] h k other = absurd (omega arith)
uids_taken v rack uid zero (u ∷ rows) (m ∷ ms) h k other = rw (eq-eqb rack rack refl, ne_eqb m rack other) (omega arith)
uids_taken v rack uid (suc at) (u ∷ rows) (m ∷ ms) h k other = go (eqb m rack) (uids_taken v rack uid at rows ms (omega arith) (omega arith) other)
  where
    go : (b : Bool) → tally v (uids_with rack (set rows at uid) (set ms at rack)) ≡ tally v (uids_with rack rows ms) + v uid
        → tally v (cond b (u ∷ uids_with rack (set rows at uid) (set ms at rack)) (uids_with rack (set rows at uid) (set ms at rack)))
        ≡ tally v (cond b (u ∷ uids_with rack rows ms) (uids_with rack rows ms)) + v uid
    go true rest = omega arith
    go false rest = rest

uids_other : (mark uid at x : ℕ) (rows ms : List ℕ) → (get_or ms at 0 ≡ mark → ⊥) → (x ≡ mark → ⊥)
    → uids_with mark (set rows at uid) (set ms at x) ≡ uids_with mark rows ms
unfolding uids_with
uids_other mark uid at x [] ms other new = refl
uids_other mark uid zero x (u ∷ rows) [] other new = refl
uids_other mark uid (suc at) x (u ∷ rows) [] other new = refl
uids_other mark uid zero x (u ∷ rows) (m ∷ ms) other new = rw (ne_eqb x mark new, ne_eqb m mark other)
uids_other mark uid (suc at) x (u ∷ rows) (m ∷ ms) other new = rw (uids_other mark uid at x rows ms other new)

uids_freed : (rack : ℕ) (rows ms : List ℕ) → (rack ≡ 255 → ⊥) → uids_with rack rows (freed_of rack ms) ≡ []
unfolding uids_with freed_of
uids_freed rack [] ms own = refl
uids_freed rack (u ∷ rows) [] own = refl
uids_freed rack (u ∷ rows) (m ∷ ms) own = go (eqb m rack) refl (uids_freed rack rows ms own)
  where
    go : (b : Bool) → eqb m rack ≡ b → uids_with rack rows (freed_of rack ms) ≡ []
        → cond (eqb (cond b 255 m) rack) (u ∷ uids_with rack rows (freed_of rack ms)) (uids_with rack rows (freed_of rack ms)) ≡ []
    go true is rest = rw (ne_eqb 255 rack (λ e. own (sym e))) rest
    go false is rest = rw is rest

uids_freed_other : (rack mark : ℕ) (rows ms : List ℕ) → (mark ≡ rack → ⊥) → (mark ≡ 255 → ⊥) → uids_with mark rows (freed_of rack ms) ≡ uids_with mark rows ms
unfolding uids_with freed_of
uids_freed_other rack mark [] ms other held = refl
uids_freed_other rack mark (u ∷ rows) [] other held = refl
uids_freed_other rack mark (u ∷ rows) (m ∷ ms) other held = go (eqb m rack) refl (uids_freed_other rack mark rows ms other held)
  where
    go : (b : Bool) → eqb m rack ≡ b → uids_with mark rows (freed_of rack ms) ≡ uids_with mark rows ms
        → cond (eqb (cond b 255 m) mark) (u ∷ uids_with mark rows (freed_of rack ms)) (uids_with mark rows (freed_of rack ms))
        ≡ cond (eqb m mark) (u ∷ uids_with mark rows ms) (uids_with mark rows ms)
    go true is rest =
        let same = eqb-true m rack is in
        rw (ne_eqb 255 mark (λ e. held (sym e)), ne_eqb m mark (λ e. other (sym e ∙ same))) rest
    go false is rest = rw rest

-- ---- a walk's list

pub length_list_of : (mark : ℕ) (rows owners : List ℕ) → 64 ≤ length rows → 64 ≤ length owners → length (list_of mark rows owners) ≡ rows_with mark owners
unfolding list_of rows_with
length_list_of mark rows owners h k = length_uids mark rows (marks_of owners) (omega (arith, h, length_marks owners k))

-- a row taken
module _ (owners : List ℕ) (at rack : ℕ) (h : at < 64) (room : 64 ≤ length owners) (is : get_or owners at 0 ≡ 255) (few : rack ≤ 1) (rows : List ℕ) (uid : ℕ) where
  pub list_taken : 64 ≤ length rows → (v : ℕ → ℕ)
      → tally v (list_of rack (set rows at uid) (set owners at rack)) ≡ tally v (list_of rack rows owners) + v uid
  unfolding list_of
  list_taken wide v =
      rw (marks_set owners at rack h)
      (uids_taken v rack uid at rows (marks_of owners) (omega arith) (omega (arith, length_marks owners room)) (λ e. omega (arith, e, is, marks_get owners at h)))

  pub list_taken_other : (mark : ℕ) → (mark ≡ rack → ⊥) → (mark ≡ 255 → ⊥) → list_of mark (set rows at uid) (set owners at rack) ≡ list_of mark rows owners
  unfolding list_of
  list_taken_other mark other held =
      rw (marks_set owners at rack h)
      (uids_other mark uid at rack rows (marks_of owners) (λ e. held (sym e ∙ marks_get owners at h ∙ is)) (λ e. other (sym e)))

-- rows freed
module _ (rack : ℕ) (rows owners : List ℕ) (room : 64 ≤ length owners) where
  pub list_freed : rack ≤ 1 → list_of rack rows (freed rack owners) ≡ []
  unfolding list_of
  list_freed few = rw (marks_freed rack owners room) (uids_freed rack rows (marks_of owners) (λ e. omega arith))

  pub list_freed_other : (mark : ℕ) → (mark ≡ rack → ⊥) → (mark ≡ 255 → ⊥) → list_of mark rows (freed rack owners) ≡ list_of mark rows owners
  unfolding list_of
  list_freed_other mark other held = rw (marks_freed rack owners room) (uids_freed_other rack mark rows (marks_of owners) other held)
