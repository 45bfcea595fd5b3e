-- The three loops over the owner marks, a turn each: the counts, the search for the lowest free row, the freeing. Assumes nothing.
use mathlib.Core.Path.{◌≡◌, refl, sym, ap, ◌∙◌}
use mathlib.Core.Bool.{Bool, true, false, cond}
use mathlib.Core.List.{List, [], ◌∷◌, ◌++◌}
use Rattle.std.proofs.lemmas.List.{append-nil, set-get_or, take_all}
use mir.Val.{bool_byte}
use denote.Bor.{Bor}
use Rattle.std.specs.Prelude.{Option, Some, None, MatchOption}
use Rattle.std.specs.Array.{IsFirstChunk}
use Prim.Native.Nat.{ℕ, suc, ◌+◌, ◌≤◌, ◌<◌}
use native.Mathlib.Omega.{arith}
use borrow.Author.Tests.{eq-eqb, ne_eqb}
use lib.Dec.{eqb}
use lib.ListN.{length, take, drop, set, get_or, drop_of_length-le}
use lib.Seq.{length-take-le, take-length, take-suc, take-take, drop-cons, append_snoc, get_or_at, set_at}
use Rattle.lent.specs.Lent.{over}
use Rattle.lent.proofs.Over.{over_none}
use Rattle.tails.specs.Sum.{one, times}
use Rattle.walk.specs.declared.Walk.{Walk}
use Rattle.walk.specs.declared.Slot.{Slot}
use Rattle.walk.specs.declared.Slot.TheVariants.{Silent, Clashed, Clean}
use Rattle.walk.specs.declared.shared.Shares.{Shares}
use Rattle.walk.specs.Record.{places}
use Rattle.walk.specs.Shared.{marks_of, rows_with, first_free, lowest_free, freed_of, freed}
use Rattle.walk.specs.Steps.{IsFirstFree, IsLowestFree, IsRowFor, shares_of}
use Rattle.walk.proofs.MarkLists.{times_most, first_free_most, first_free_is, first_free_lowest}
use Rattle.walk.proofs.MarksFreed.{length_freed_of, freed_of_append}
use Rattle.walk.proofs.Owners.{times_step}

-- the first 64 marks are looked at alone
pub marks_alone : (owners : List ℕ) → marks_of (take 64 owners) ≡ marks_of owners
unfolding marks_of places
marks_alone owners = take-take 64 64 owners (omega arith)

pub shares_alone : (owners marks : List ℕ) (s : Shares) → marks ≡ take 64 owners → s ≡ shares_of marks → s ≡ shares_of owners
unfolding shares_of rows_with
shares_alone owners marks s is e = e ∙ rw (is, marks_alone owners)

pub row_alone : (w : Walk) (slot : Slot) (r : Option ℕ) (owners marks : List ℕ) → marks ≡ take 64 owners → IsRowFor w slot r marks → IsRowFor w slot r owners
unfolding IsRowFor lowest_free
row_alone w Silent r owners marks is row = row
row_alone w Clashed r owners marks is row = row
row_alone w (Clean uid) (Some at) owners marks is row = rw (is, marks_alone owners) at row
row_alone w (Clean uid) None owners marks is row = rw (is, marks_alone owners) at row

-- the row that the first 64 marks tell
pub row_told_by : (w : Walk) (slot : Slot) (r : Option ℕ) (owners : List ℕ) (chunk : Option (Bor (List ℕ))) → 64 ≤ length owners
    → MatchOption chunk (length owners < 64) (λ y. IsFirstChunk owners y.now 64) → MatchOption chunk (r ≡ None) (λ y. IsRowFor w slot r y.now) → IsRowFor w slot r owners
row_told_by w slot r owners (Some y) h is row = row_alone w slot r owners y.now is.same row
row_told_by w slot r owners None h is row = absurd (omega arith)

-- ---- the counts

byte_one : (b : Bool) → bool_byte b ≡ one b
unfolding one
byte_one true = refl
byte_one false = refl

-- a count so far, and one mark more
pub times_more : (mark i : ℕ) (marks : List ℕ) (n b : ℕ) → length marks ≡ 64 → i < 64 → n ≡ times mark (take i marks)
    → b ≡ bool_byte (eqb (get_or marks i 0) mark) → n + b ≡ times mark (take (i + 1) marks)
times_more mark i marks n b long h so e = rw (times_step mark i marks (omega arith), ← so, e) (ap (λ (k : ℕ). n + k) (byte_one (eqb (get_or marks i 0) mark)))

-- it is a byte
pub times_fit : (mark i : ℕ) (marks : List ℕ) (n b : ℕ) → length marks ≡ 64 → i < 64 → n ≡ times mark (take i marks)
    → b ≡ bool_byte (eqb (get_or marks i 0) mark) → n + b < 256
times_fit mark i marks n b long h so e =
    omega (arith, times_more mark i marks n b long h so e, times_most mark (take (i + 1) marks), length-take-le (i + 1) marks (omega arith))

-- the three counts over all 64
pub shares_counted : (marks : List ℕ) (i a b c : ℕ) → length marks ≡ 64 → 64 ≤ i → i ≤ 64 → a ≡ times 255 (take i marks)
    → b ≡ times 0 (take i marks) → c ≡ times 1 (take i marks) → ◌≡◌ {A = Shares} (record { free = a; first = b; second = c }) (shares_of marks)
unfolding shares_of rows_with marks_of places
shares_counted marks i a b c long low high p q u =
    let all : i ≡ 64 = omega arith in
    rw (p, q, u, all)

-- ---- the search

-- the first free mark of the 64 is at the lowest free row
pub lowest_free_told : (marks : List ℕ) (r : Option ℕ) → length marks ≡ 64 → IsFirstFree marks r → IsLowestFree r marks
unfolding IsLowestFree lowest_free marks_of places
lowest_free_told marks (Some at) long is =
    let whole : take 64 marks ≡ marks = take_all 64 marks (omega arith) in
    let past : first_free marks < at → ⊥ = λ below. is.2 (first_free marks) below (first_free_is marks (omega (arith, is.0))) in
    let short : at < first_free marks → ⊥ = λ below. first_free_lowest marks at below is.1 in
    rw whole (omega arith, omega (arith, is.0))
lowest_free_told marks None long none =
    let whole : take 64 marks ≡ marks = take_all 64 marks (omega arith) in
    let found : first_free marks < length marks → ⊥ = λ below. none (first_free marks) below (first_free_is marks below) in
    rw whole (omega (arith, first_free_most marks))

-- ---- the freeing

-- the first i rows looked at
unfoldable pub freed_to : ℕ → ℕ → List ℕ → List ℕ
freed_to rack i owners = over (freed_of rack (take i owners)) owners

pub freed_to_none : (rack : ℕ) (owners : List ℕ) → freed_to rack 0 owners ≡ owners
unfolding freed_to freed_of
freed_to_none rack owners = over_none owners

-- all 64 of them, and the marks past these as found
pub freed_to_all : (rack i : ℕ) (owners now : List ℕ) → 64 ≤ length owners → length (take 64 owners) ≤ i → i ≤ length (take 64 owners)
    → now ≡ freed_to rack i (take 64 owners) → now ++ drop 64 owners ≡ freed rack owners
unfolding freed_to freed over marks_of places
freed_to_all rack i owners now h low high so =
    let all : i ≡ length (take 64 owners) = omega arith in
    let whole : take i (take 64 owners) ≡ take 64 owners = rw all (take-length (take 64 owners)) in
    let long : length (freed_of rack (take 64 owners)) ≡ 64 = length_freed_of rack (take 64 owners) ∙ length-take-le 64 owners h in
    let none : drop (length (freed_of rack (take 64 owners))) (take 64 owners) ≡ [] =
    drop_of_length-le (take 64 owners) (omega (arith, long, length-take-le 64 owners h))
    in
    rw (so, whole, none, append-nil (freed_of rack (take 64 owners)), long)

length_freed_take : (rack i : ℕ) (owners : List ℕ) → i ≤ length owners → length (freed_of rack (take i owners)) ≡ i
length_freed_take rack i owners h = length_freed_of rack (take i owners) ∙ length-take-le i owners h

-- row i is the next one
freed_to_next : (rack i : ℕ) (owners : List ℕ) → i < length owners
    → freed_to rack i owners ≡ freed_of rack (take i owners) ++ get_or owners i 0 ∷ drop (suc i) owners
unfolding freed_to over
freed_to_next rack i owners h =
    ap (λ (l : List ℕ). freed_of rack (take i owners) ++ l) (ap (λ (n : ℕ). drop n owners) (length_freed_take rack i owners (omega arith)) ∙ drop-cons owners i 0 h)

freed_to_suc : (rack i : ℕ) (owners : List ℕ) → i < length owners
    → freed_to rack (i + 1) owners ≡ freed_of rack (take i owners) ++ cond (eqb (get_or owners i 0) rack) 255 (get_or owners i 0) ∷ drop (suc i) owners
unfolding freed_to over freed_of
freed_to_suc rack i owners h =
    let next : i + 1 ≡ suc i = omega arith in
    rw (next, length_freed_take rack (suc i) owners (omega arith), take-suc owners i 0 h, freed_of_append, append_snoc)

freed_to_get : (rack i : ℕ) (owners : List ℕ) → i < length owners → get_or (freed_to rack i owners) i 0 ≡ get_or owners i 0
freed_to_get rack i owners h =
    rw (freed_to_next rack i owners h) (get_or_at (freed_of rack (take i owners)) (get_or owners i 0) (drop (suc i) owners) 0 i (length_freed_take rack i owners (omega arith)))

-- the rack's row, and another, where the marks are looked at one by one
pub row_freed : (rack i : ℕ) (owners now left : List ℕ) → i < length owners → now ≡ freed_to rack i owners → get_or now i 0 ≡ rack
    → left ≡ set now i 255 → left ≡ freed_to rack (i + 1) owners
row_freed rack i owners now left h so is e =
    let here : get_or owners i 0 ≡ rack = sym (ap (λ (l : List ℕ). get_or l i 0) so ∙ freed_to_get rack i owners h) ∙ is in
    rw (e, so, freed_to_next rack i owners h, freed_to_suc rack i owners h, eq-eqb (get_or owners i 0) rack here)
    (set_at (freed_of rack (take i owners)) (get_or owners i 0) (drop (suc i) owners) 255 i (length_freed_take rack i owners (omega arith)))

pub row_kept : (rack i : ℕ) (owners now left : List ℕ) → i < length owners → now ≡ freed_to rack i owners → (get_or now i 0 ≡ rack → ⊥)
    → left ≡ set now i (get_or now i 0) → left ≡ freed_to rack (i + 1) owners
row_kept rack i owners now left h so other e =
    let same : get_or now i 0 ≡ get_or owners i 0 = ap (λ (l : List ℕ). get_or l i 0) so ∙ freed_to_get rack i owners h in
    rw (e, set-get_or now i 0, so, freed_to_next rack i owners h, freed_to_suc rack i owners h, ne_eqb (get_or owners i 0) rack (λ is. other (same ∙ is)))
