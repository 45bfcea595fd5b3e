-- The ways out of making a request: refused, with the room as found, or served. By the tests of the definitions. Assumes nothing.
use mathlib.Core.Path.{◌≡◌, refl}
use mathlib.Core.Bool.{Bool, true, false, cond, ◌&&◌, and-eq-true_iff}
use mathlib.Core.List.{List}
use Prim.Native.Nat.{ℕ, ◌≤◌}
use native.Mathlib.Omega.{arith}
use borrow.Author.Tests.{leb-true, le-leb, eq-eqb, ne_eqb, eqb-true}
use lib.Dec.{leb, eqb}
use lib.ListN.{length}
use Rattle.lent.specs.Lent.{refused}
use Rattle.refusals.specs.declared.Refusal.{Refusal}
use Rattle.refusals.specs.Number.{number}
use Rattle.refusals.proofs.Numbers.{number_is_some}
use Rattle.reader.specs.declared.Request.{Request}
use Rattle.reader.specs.Steps.{Passes}
use Rattle.reader.specs.Request.{is_addressed, is_asked, is_request, data_fits, room_asked, make_refusal, make_answer, make_leaves, Makes}

-- ---- the tests

-- the number is 0 exactly if all pass
pub passes_of_refusal : (q : Request) (written room : ℕ) → make_refusal q written room ≡ 0 → Passes q written room
unfolding make_refusal room_asked
passes_of_refusal q written room e = go (is_request q) (data_fits q written) (leb 45 room) refl refl refl e
  where
    go : (a b d : Bool) → is_request q ≡ a → data_fits q written ≡ b → leb 45 room ≡ d → ◌≡◌ {A = ℕ} (cond (a && b) (cond d 0 8) 7) 0
        → Passes q written room
    go true true true p r s e = record { asked = p; fits = r; enough = leb-true 45 room s }
    go true true false p r s e = absurd (omega arith)
    go true false d p r s e = absurd (omega arith)
    go false b d p r s e = absurd (omega arith)

pub refusal_of_passes : (q : Request) (written room : ℕ) → Passes q written room → make_refusal q written room ≡ 0
unfolding make_refusal room_asked
refusal_of_passes q written room p = rw (p.asked, p.fits, le-leb 45 room p.enough)

-- what the tests of number 7 say
pub parts_of_request : (q : Request) → is_request q ≡ true
    → (is_asked q.command ≡ true) × (cond (eqb q.command 0x25) (is_addressed q) true ≡ true) × (1 ≤ q.size) × (q.size ≤ 32)
unfolding is_request
parts_of_request q is =
    let mode : Bool = cond (eqb q.command 0x25) (is_addressed q) true in
    let size : Bool = leb 1 q.size && leb q.size 32 in
    let a = (and-eq-true_iff (is_asked q.command) (mode && size)).0 is in
    let b = (and-eq-true_iff mode size).0 a.1 in
    let d = (and-eq-true_iff (leb 1 q.size) (leb q.size 32)).0 b.1 in
    (a.0, b.0, leb-true 1 q.size d.0, leb-true q.size 32 d.1)

-- blocks of 32 bytes at the most, and so the data of 21
pub size_most : (q : Request) → is_request q ≡ true → q.size ≤ 32
size_most q is = (parts_of_request q is).3

pub written_most : (q : Request) (written : ℕ) → is_request q ≡ true → data_fits q written ≡ true → q.command ≡ 0x21 → written ≤ 32
unfolding data_fits
written_most q written asked fits is =
    let same : written ≡ q.size = eqb-true written q.size (rw (eq-eqb q.command 0x21 is) at fits) in
    rw same (size_most q asked)

-- ---- refused

pub makes_refused : (q : Request) (written room : List ℕ) (refusal : Refusal) → number refusal ≡ make_refusal q (length written) (length room)
    → Makes q written room (refused (number refusal)) room
unfolding make_answer make_leaves
makes_refused q written room refusal is =
    let other : eqb (make_refusal q (length written) (length room)) 0 ≡ false = rw (← is) (ne_eqb (number refusal) 0 (number_is_some refusal)) in
    record { answer = rw (other, ← is); leaves = rw other }
