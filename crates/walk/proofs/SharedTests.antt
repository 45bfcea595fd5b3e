-- The tests of the code on a shared list are those of the definitions: the numbers of rows tell the marks and the shares, and the lowest free row
-- whether there is one. Assumes nothing.
use mathlib.Core.Path.{◌≡◌, refl, sym, ap, ◌∙◌}
use mathlib.Core.Bool.{Bool, true, false, cond, ◌&&◌, and_assoc}
use mathlib.Core.List.{List}
use Prim.Native.Nat.{ℕ, zero, suc, ◌+◌, ◌≤◌, ◌<◌}
use native.Mathlib.Omega.{arith}
use borrow.Author.Tests.{le-leb, lt-leb}
use lib.Dec.{leb, ltb, eqb}
use lib.ListN.{length}
use Rattle.walk.specs.declared.Walk.{Walk}
use Rattle.walk.specs.declared.shared.Shares.{Shares}
use Rattle.refusals.specs.declared.Refusal.{Refusal}
use Rattle.refusals.specs.Number.{number}
use Rattle.refusals.proofs.Numbers.{number_is_some}
use Rattle.walk.specs.Record.{places, is_accepted, is_running}
use Rattle.walk.specs.Hear.{refusal}
use Rattle.walk.specs.Shared.{rows_with, lowest_free, is_rack, owners_fit, list_fits, most_rows, shares_fit, hear_refusal, has_row}
use Rattle.walk.specs.Steps.{shares_of, counts_fit}
use Rattle.walk.proofs.Owners.{rows_with_most, rows_with_sum, lowest_free_below}

-- numbers of rows add up
pub shares_most : (marks : List ℕ) (s : Shares) → length marks ≡ 64 → s ≡ shares_of marks → s.free + s.first + s.second ≤ 64
unfolding shares_of
shares_most marks s long is = rw is (rows_with_most marks (omega arith))

-- number 5's test of the marks
pub owners_few : (owners : List ℕ) → length owners < 64 → owners_fit owners ≡ false
unfolding owners_fit places
owners_few owners h = rw (lt-leb 64 (length owners) h)

pub owners_told : (owners : List ℕ) (s : Shares) (b : Bool) → 64 ≤ length owners → s ≡ shares_of owners
    → b ≡ eqb (s.free + s.first + s.second) 64 → b ≡ owners_fit owners
unfolding shares_of owners_fit places
owners_told owners s b h is e =
    e
    ∙ ap (λ (t : Shares). eqb (t.free + t.first + t.second) 64) is
    ∙ rows_with_sum owners h
    ∙ rw (le-leb 64 (length owners) h)

-- the later 10
pub shares_told : (w : Walk) (rack : ℕ) (owners : List ℕ) (s : Shares) (b : Bool) → rack ≤ 1 → s ≡ shares_of owners
    → b ≡ counts_fit s rack w.count → b ≡ shares_fit w rack owners
unfolding shares_of counts_fit shares_fit most_rows
shares_told w rack owners s b few is e = e ∙ ap (λ (t : Shares). counts_fit t rack w.count) is ∙ go rack few
  where
    go : (rack : ℕ) → rack ≤ 1
        → (leb (rows_with 0 owners) 40 && leb (rows_with 1 owners) 40 && eqb w.count (cond (eqb rack 0) (rows_with 0 owners) (rows_with 1 owners)))
        ≡ (leb (rows_with 0 owners) 40 && (leb (rows_with 1 owners) 40 && eqb w.count (rows_with rack owners)))
    go zero few = and_assoc (leb (rows_with 0 owners) 40) (leb (rows_with 1 owners) 40) (eqb w.count (rows_with 0 owners))
    go (suc zero) few = and_assoc (leb (rows_with 0 owners) 40) (leb (rows_with 1 owners) 40) (eqb w.count (rows_with 1 owners))
    go (suc (suc rack)) few = absurd (omega arith)

-- whether there is a row for a clean UID
pub row_told : (w : Walk) (rack at : ℕ) (owners : List ℕ) → 64 ≤ length owners → w.count ≡ rows_with rack owners → at ≡ lowest_free owners
    → (ltb w.count 40 && ltb at 64) ≡ has_row rack owners
unfolding has_row most_rows
row_told w rack at owners h counts is = rw (counts, is, ← lowest_free_below owners h)

-- what a list of the walk's own would be refused for, a shared one is too
pub list_refused : (w : Walk) (rack rows : ℕ) (owners : List ℕ) (e : Refusal) → rack ≤ 1 → number e ≡ refusal w rows → hear_refusal w rack rows owners ≡ number e
unfolding hear_refusal refusal is_rack list_fits
list_refused w rack rows owners e few is = rw (le-leb rack 1 few) (go (is_accepted w) (is_running w) (leb places rows) is)
  where
    go : (a b c : Bool) → number e ≡ cond a (cond b (cond c 0 5) 6) 10
        → cond a (cond b (cond (c && owners_fit owners) (cond (shares_fit w rack owners) 0 10) 5) 6) 10 ≡ number e
    go true true true is = absurd (number_is_some e is)
    go true true false is = sym is
    go true false c is = sym is
    go false b c is = sym is

-- else its marks and its shares say
abbrev pub shared_refusal : Walk → ℕ → List ℕ → ℕ
shared_refusal w rack owners = cond (owners_fit owners) (cond (shares_fit w rack owners) 0 10) 5

pub list_served : (w : Walk) (rack rows : ℕ) (owners : List ℕ) → rack ≤ 1 → 0 ≡ refusal w rows
    → hear_refusal w rack rows owners ≡ shared_refusal w rack owners
unfolding hear_refusal refusal is_rack list_fits
list_served w rack rows owners few is = rw (le-leb rack 1 few) (go (is_accepted w) (is_running w) (leb places rows) is)
  where
    go : (a b c : Bool) → ◌≡◌ {A = ℕ} 0 (cond a (cond b (cond c 0 5) 6) 10)
        → cond a (cond b (cond (c && owners_fit owners) (cond (shares_fit w rack owners) 0 10) 5) 6) 10 ≡ shared_refusal w rack owners
    go true true true is = refl
    go true true false is = absurd (omega arith)
    go true false c is = absurd (omega arith)
    go false b c is = absurd (omega arith)

pub rack_refused : (w : Walk) (rack rows : ℕ) (owners : List ℕ) → 1 < rack → hear_refusal w rack rows owners ≡ 13
unfolding hear_refusal is_rack
rack_refused w rack rows owners h = rw (lt-leb _ _ h)
