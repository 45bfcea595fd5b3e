-- Laws of a text that grows: what is added in two pieces is added in one, and one piece by `put_bytes`. By the place where each piece goes.
-- Assumes nothing.
use Rattle.std.proofs.Common.{◌≡◌, ℕ, zero, suc, ◌+◌, ◌-◌, ◌<◌, ◌≤◌, min, List, [], ◌∷◌, ◌++◌, length, take, ℤ, sym, refl, ap, ◌∙◌, arith, length-append, length-take, length-take-le}
use native.Mathlib.Decide.{dec_le}
use borrow.Author.Tests.{lt-leb}
use lib.Seq.{take-nil}
use Rattle.lent.specs.Lent.{placed}
use Rattle.lent.proofs.Over.{length_placed, placed_none, placed_placed, placed_start, take_over}
use Rattle.digits.specs.Put.{put_leaves, PutsText}
use Rattle.digits.proofs.Put.{put_leaves_lem}
use Rattle.player.specs.Text.{cut, Adds}

take_append : (n : ℕ) (s v : List ℕ) → take n (s ++ v) ≡ take n s ++ take (n - length s) v
take_append n [] v =
    let all : n - 0 ≡ n = omega arith in
    rw (take-nil n, all)
take_append zero (x ∷ s) v =
    let none : 0 - suc (length s) ≡ 0 = omega arith in
    rw none
take_append (suc n) (x ∷ s) v =
    let less : suc n - suc (length s) ≡ n - length s = omega arith in
    rw (take_append n s v, less)

-- as many as there are
take_min : (n : ℕ) (s : List ℕ) → take (min n (length s)) s ≡ take n s
take_min n [] = take-nil (min n 0) ∙ sym (take-nil n)
take_min zero (x ∷ s) =
    let none : min 0 (suc (length s)) ≡ 0 = omega arith in
    rw none
take_min (suc n) (x ∷ s) =
    let one : min (suc n) (suc (length s)) ≡ suc (min n (length s)) = omega arith in
    rw (one, take_min n s)

module _ (at : ℕ) (s v e : List ℕ) (h : at ≤ length e) where
  fits : at + length (cut at s e) ≤ length e
  unfolding cut
  fits = rw length-take (omega arith)

  -- the rest of the room
  rest : length e - (at + length (cut at s e)) ≡ length e - at - length s
  unfolding cut
  rest = rw length-take (omega arith)

  cut_cut : cut at s e ++ cut (at + length (cut at s e)) v (placed at (cut at s e) e) ≡ cut at (s ++ v) e
  unfolding cut
  cut_cut = rw (length_placed at (cut at s e) e fits, rest, take_append (length e - at) s v)

  fits_both : at + length (cut at s e) + length (cut (at + length (cut at s e)) v (placed at (cut at s e) e)) ≤ length e
  unfolding cut
  fits_both =
      let room : ℕ = length e - (at + length (cut at s e)) in
      rw (length_placed at (cut at s e) e fits) (omega (arith, fits, length-take room v))

  then : {r : ℕ} {g : List ℕ} → Adds (at + length (cut at s e)) v (placed at (cut at s e) e) r g → Adds at (s ++ v) e r g
  then {r} {g} q =
      let c : List ℕ = cut at s e in
      let d : List ℕ = cut (at + length c) v (placed at c e) in
      let both : length (c ++ d) ≡ length c + length d = length-append c d in
      let all : length (c ++ d) ≡ length (cut at (s ++ v) e) = ap length cut_cut in
      let end : r ≡ at + length c + length d = q.next in
      record {
        next = omega arith;
        leaves = q.leaves ∙ placed_placed at c d e fits_both ∙ ap (λ (l : List ℕ). placed at l e) cut_cut;
      }

-- past the end there is no room
past : (at : ℕ) (s v e : List ℕ) {r : ℕ} {g : List ℕ} → length e ≤ at
    → Adds (at + length (cut at s e)) v (placed at (cut at s e) e) r g → Adds at (s ++ v) e r g
unfolding cut
past at s v e h q =
    let none : length e - at ≡ 0 = omega arith in
    let here : at + 0 ≡ at = omega arith in
    let end = rw (none, placed_none, here, none) at q.next in
    let left = rw (none, placed_none, here, none) at q.leaves in
    record { next = rw none end; leaves = rw none left }

-- two pieces are one
pub adds_then : {at m r : ℕ} {s v e f g : List ℕ} → Adds at s e m f → Adds m v f r g → Adds at (s ++ v) e r g
adds_then {at} {m} {r} {s} {v} {e} {f} {g} p q = go (dec_le at (length e)) (rw (p.next, p.leaves) at q)
  where
    go : Dec (at ≤ length e) → Adds (at + length (cut at s e)) v (placed at (cut at s e) e) r g → Adds at (s ++ v) e r g
    go (yes h) there = then at s v e h there
    go (no h) there = past at s v e (omega arith) there

-- and no piece changes nothing
pub adds_none : (at : ℕ) (e : List ℕ) → Adds at [] e at e
unfolding cut
adds_none at e =
    let none : take {A = ℕ} (length e - at) [] ≡ [] = take-nil (length e - at) in
    record { next = rw none (omega arith); leaves = rw none (sym (placed_none at e)) }

-- ---- one piece

-- as much of it as there is room for, put
pub adds_put : (at : ℕ) (s e f : List ℕ) (count : ℕ) {r : ℤ} → count ≡ min (length e - at) (length s) → PutsText (take count s) e at r f
    → Adds at s e (at + count) f
unfolding cut put_leaves
adds_put at s e f count {r} is-count p = go (dec_le at (length e))
  where
    piece : take count s ≡ take (length e - at) s
    piece = rw is-count (take_min (length e - at) s)

    long : length (take count s) ≡ count
    long = length-take-le count s (omega arith)

    next : at + count ≡ at + length (take (length e - at) s)
    next = rw (← piece, long)

    go : Dec (at ≤ length e) → Adds at s e (at + count) f
    go (yes h) = record { next = next; leaves = rw (put_leaves_lem p (rw long (omega arith)), piece) }
    go (no h) =
        let none : length e - at ≡ 0 = omega arith in
        let short : length e < at + length (take count s) = omega arith in
        record { next = next; leaves = rw (none, placed_none) (p.leaves ∙ rw (lt-leb (at + length (take count s)) (length e) short) refl) }

-- ---- parts of buffers

-- what was put at the start of a buffer
pub text_taken : (k : ℕ) (s found left : List ℕ) {r : ℤ} → PutsText s found 0 r left → k ≡ length s → length s ≤ length found → take k left ≡ s
text_taken k s found left p is-k h = rw (is-k, put_leaves_lem p (omega arith), placed_start s found) (take_over s found)

-- the first n bytes, or all of them
pub first_taken : (n count : ℕ) (s : List ℕ) → count ≡ min n (length s) → take count s ≡ take n s
first_taken n count s h = rw h (take_min n s)
