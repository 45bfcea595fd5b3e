-- What the decoder's number tells is what the reading tells; and of any answers there arrives what 01's air makes of the different ones.
-- By the cases of a reading; by induction over the answers from the coil's laws of overlays. Assumes nothing.
use mathlib.Core.Path.{◌≡◌, refl, sym, ap, ap₂, subst, ◌∙◌}
use mathlib.Core.Bool.{Bool, true, false, cond, ◌||◌, and-eq-true_iff, false≢true}
use Prim.Native.Nat.{ℕ, ◌+◌, ◌*◌, ◌≤◌}
use native.Mathlib.Decide.{ℕ_discrete}
use native.Mathlib.Omega.{arith}
use mathlib.Core.List.{List, [], ◌∷◌, List-discrete}
use borrow.Author.Tests.{eq-eqb, eqb-true, lt-ltb, le-ltb, le-leb}
use lib.Dec.{leb, ltb, eqb}
use lib.ListN.{length}
use Rattle.lent.proofs.Over.{take_over}
use Rattle.frames.specs.Frame.{longest_answer}
use Rattle.coil.specs.Decoder.{bytes_in, is_framed, is_clash, pair_at, first_bad, bytes_from, Reading, an_answer, a_clash, a_loss, no_track, read_to, reading}
use Rattle.coil.specs.Decoder.{number, written, decode_answer, decode_leaves}
use Rattle.coil.specs.Overlay.{on_coil, AllAre, none, more}
use Rattle.coil.proofs.Bytes.{length_bytes_from}
use Rattle.coil.proofs.Framed.{framed_of_test}
use Rattle.coil.proofs.Overlay.{overlays}
use Rattle.field.specs.Field.{arrives}
use Rattle.chorus.specs.Air.{clash, heard_as, coil_air, heard_by, NumberHeard, same_bytes, is_repeated, different_rows, CoilArrives}

-- ---- by the decoder's number

-- how many bytes are read: no more than the longest answer has
unfoldable bytes_read : Reading → ℕ
bytes_read (an_answer answer) = length answer
bytes_read (a_clash k) = 0
bytes_read (a_loss k) = 0
bytes_read no_track = 0

read_most : (t : List ℕ) → bytes_read (reading t) ≤ longest_answer
unfolding reading read_to bytes_read
read_most t = go (is_framed t) refl
  where
    bit : (b c : Bool) (k : ℕ) → bytes_in t ≤ longest_answer
        → bytes_read (cond b (cond c (a_clash k) (a_loss k)) (an_answer (bytes_from t 0 (bytes_in t)))) ≤ longest_answer
    bit true true k h = omega arith
    bit true false k h = omega arith
    bit false c k h = rw (length_bytes_from t 0 (bytes_in t)) h

    go : (b : Bool) → is_framed t ≡ b → bytes_read (cond b (read_to t (first_bad t)) no_track) ≤ longest_answer
    go true e = bit (ltb (first_bad t) (8 * bytes_in t)) (is_clash (pair_at t (first_bad t))) (first_bad t) (framed_of_test t e).most
    go false e = omega arith

-- an answer's length is told under 131,072, all else over it or by a refusal
heard_of : (x : Reading) (found : List ℕ) → bytes_read x ≤ longest_answer → heard_by (number x) (written x found) ≡ heard_as x
unfolding heard_by heard_as number written bytes_read longest_answer
heard_of (an_answer answer) found h =
    let same : 131072 * 0 + length answer ≡ length answer = omega arith in
    rw (same, lt-ltb (length answer) 131072 (omega arith), take_over answer found)
heard_of (a_clash k) found h = rw (le-ltb (131072 * 1 + k) 131072 (omega arith))
heard_of (a_loss k) found h = rw (le-ltb (131072 * 2 + k) 131072 (omega arith))
heard_of no_track found h = refl

pub number_heard : NumberHeard
unfolding NumberHeard decode_answer decode_leaves
number_heard t found r left room d =
    let enough : leb longest_answer (length found) ≡ true = le-leb longest_answer (length found) room in
    rw (d.tells, d.leaves, enough) (heard_of (reading t) found (read_most t))

-- ---- the same bytes

pub same_self : (a : List ℕ) → same_bytes a a ≡ true
unfolding same_bytes
same_self [] = refl
same_self (x ∷ xs) = rw (eq-eqb x x refl) (same_self xs)

pub same_true : (a b : List ℕ) → same_bytes a b ≡ true → a ≡ b
unfolding same_bytes
same_true [] [] e = refl
same_true [] (y ∷ ys) e = absurd (false≢true e)
same_true (x ∷ xs) [] e = absurd (false≢true e)
same_true (x ∷ xs) (y ∷ ys) e =
    let both = (and-eq-true_iff (eqb x y) (same_bytes xs ys)).0 e in
    ap₂ (λ (z : ℕ) (zs : List ℕ). z ∷ zs) (eqb-true x y both.0) (same_true xs ys both.1)

-- ---- the different answers

-- where all are alike, one
one_row : (a : List ℕ) (rs : List (List ℕ)) → AllAre a rs → different_rows (a ∷ rs) ≡ a ∷ []
unfolding different_rows is_repeated
one_row a [] none = refl
one_row a (r ∷ rs) (more e all) = rw (e, same_self a) (one_row a rs all)

-- an answer that stands among some that are all alike is one of them
repeated_is : (a b : List ℕ) (rs : List (List ℕ)) → is_repeated a rs ≡ true → AllAre b rs → a ≡ b
unfolding is_repeated
repeated_is a b [] h none = absurd (false≢true h)
repeated_is a b (r ∷ rs) h (more e all) = go (same_bytes a r) refl h (λ g. repeated_is a b rs g all)
  where
    go : (s : Bool) → same_bytes a r ≡ s → (s || is_repeated a rs) ≡ true → (is_repeated a rs ≡ true → a ≡ b) → a ≡ b
    go true same g later = same_true a r same ∙ e
    go false same g later = later g

-- one answer or more leave one or more: with another before them they clash
clash_before : (a r : List ℕ) (rs : List (List ℕ)) → arrives (a ∷ different_rows (r ∷ rs)) ≡ clash
unfolding different_rows is_repeated arrives
clash_before a r [] = refl
clash_before a r (s ∷ rs) = go (same_bytes r s || is_repeated r rs) (clash_before a s rs)
  where
    go : (b : Bool) → arrives (a ∷ different_rows (s ∷ rs)) ≡ clash
        → arrives (a ∷ cond b (different_rows (s ∷ rs)) (r ∷ different_rows (s ∷ rs))) ≡ clash
    go true later = later
    go false later = refl

-- where not all are alike, two or more
many_rows : (a : List ℕ) (rs : List (List ℕ)) → (AllAre a rs → ⊥) → arrives (different_rows (a ∷ rs)) ≡ clash
unfolding different_rows is_repeated
many_rows a [] h = absurd (h none)
many_rows a (r ∷ rs) h = go (same_bytes a r) (is_repeated a rs) refl refl (many_rows r rs)
  where
    go : (s b : Bool) → same_bytes a r ≡ s → is_repeated a rs ≡ b → ((AllAre r rs → ⊥) → arrives (different_rows (r ∷ rs)) ≡ clash)
        → arrives (cond (s || b) (different_rows (r ∷ rs)) (a ∷ different_rows (r ∷ rs))) ≡ clash
    go true b e f later =
        let same : r ≡ a = sym (same_true a r e) in
        later (λ all. h (more same (subst (λ (x : List ℕ). AllAre x rs) same all)))
    go false true e f later =
        later (λ all. false≢true (sym e ∙ ap (λ (x : List ℕ). same_bytes x r) (repeated_is a r rs f all) ∙ same_self r))
    go false false e f later = clash_before a r rs

-- whether all are alike
are_all : (a : List ℕ) (rs : List (List ℕ)) → Dec (AllAre a rs)
are_all a [] = yes none
are_all a (r ∷ rs) = go (List-discrete ℕ_discrete r a) (are_all a rs)
  where
    head : {r : List ℕ} {rs : List (List ℕ)} → AllAre a (r ∷ rs) → r ≡ a
    head (more e all) = e

    tail : {r : List ℕ} {rs : List (List ℕ)} → AllAre a (r ∷ rs) → AllAre a rs
    tail (more e all) = all

    go : Dec (r ≡ a) → Dec (AllAre a rs) → Dec (AllAre a (r ∷ rs))
    go (yes e) (yes all) = yes (more e all)
    go (yes e) (no n) = no (λ all. n (tail all))
    go (no n) d = no (λ all. n (head all))

pub coil_arrives : CoilArrives
unfolding CoilArrives coil_air heard_as arrives different_rows
coil_arrives [] none = refl
coil_arrives (r ∷ rs) (more answer rest) = go (are_all r rs)
  where
    go : Dec (AllAre r rs) → heard_as (reading (on_coil (r ∷ rs))) ≡ arrives (different_rows (r ∷ rs))
    go (yes all) = rw (overlays.identical r rs answer all, one_row r rs all)
    go (no n) = ap heard_as (overlays.any_lengths r rs (more answer rest) n).1 ∙ sym (many_rows r rs n)
