-- Answers of one length laid over each other: identical ones are read as the answer, others as a clash at the first bit in which not all are alike.
-- By the union of their pairs, which is the bit's pair where all are alike, and else 11. Assumes nothing.
use mathlib.Core.Path.{◌≡◌, refl, sym, ◌∙◌}
use mathlib.Core.Bool.{Bool, true, false, cond, not, ◌&&◌, and-eq-true_iff}
use Prim.Native.Nat.{ℕ, ◌*◌, ◌<◌}
use native.Mathlib.Nat.{zero-div}
use native.Mathlib.Decide.{dec_lt}
use native.Mathlib.Omega.{arith}
use mathlib.Core.List.{List, [], ◌∷◌}
use borrow.Author.Tests.{eqb-true, not-true, not-false}
use lib.Bits.{bit_or, or_zero_r}
use lib.Dec.{eqb}
use lib.ListN.{length}
use Rattle.lent.specs.Bytes.{Bytes}
use Rattle.lent.proofs.Every.{every, every_at}
use Rattle.coil.specs.Track.{bit, pair_of, answer_track}
use Rattle.coil.specs.Decoder.{pair_at, first_from, an_answer, reading}
use Rattle.coil.specs.Read.{Codable, Framed, GoodBefore}
use Rattle.coil.specs.Overlay.{overlay, on_coil, Answers, OfLength, AllAre, none, more, alike_at, FirstUnlike}
use Rattle.coil.proofs.First.{First, first_from_lem}
use Rattle.coil.proofs.Pairs.{pair_good, track_pair}
use Rattle.coil.proofs.Framed.{pair_below, reading_clash}
use Rattle.coil.proofs.RoundTrip.{same_bits, bit_below, reading_of_track}
use Rattle.coil.proofs.Union.{overlay_none, overlay_self, pair_overlay, greatest, framed_coil}

-- ---- identical answers

coil_of_identical : (a : List ℕ) (rs : List (List ℕ)) → AllAre a rs → overlay (answer_track a) (on_coil rs) ≡ answer_track a
unfolding on_coil
coil_of_identical a [] none = overlay_none (answer_track a)
coil_of_identical a (r ∷ rs) (more e es) = rw (e, coil_of_identical a rs es) (overlay_self (answer_track a))

pub identical : (a : List ℕ) (rs : List (List ℕ)) → Codable a → AllAre a rs → reading (on_coil (a ∷ rs)) ≡ an_answer a
unfolding on_coil
identical a rs p es = rw (coil_of_identical a rs es) (reading_of_track a p)

-- ---- answers of one length

-- one bit's pair over another's and over any pair: 11 where the bits differ
pair_over : (b c x : ℕ) → b < 2 → c < 2 → x < 4 → bit_or (pair_of b) (bit_or (pair_of c) x) ≡ cond (eqb b c) (bit_or (pair_of b) x) 3
unfolding every pair_of
pair_over b c x h g l =
    eqb-true (bit_or (pair_of b) (bit_or (pair_of c) x)) (cond (eqb b c) (bit_or (pair_of b) x) 3)
    (every_at 4 (same b c) (every_at 2 (λ c. every 4 (same b c)) (every_at 2 (λ b. every 2 (λ c. every 4 (same b c))) refl b h) c g) x l)
  where
    same : ℕ → ℕ → ℕ → Bool
    same b c x = eqb (bit_or (pair_of b) (bit_or (pair_of c) x)) (cond (eqb b c) (bit_or (pair_of b) x) 3)

-- a bit's pair over those of other answers: itself where all are alike, and else 11
pair_alike : (n : ℕ) (a : List ℕ) (rs : List (List ℕ)) (i : ℕ) → i < 8 * n → Answers rs → OfLength n rs
    → bit_or (pair_of (bit a i)) (pair_at (on_coil rs) i) ≡ cond (alike_at i a rs) (pair_of (bit a i)) 3
unfolding on_coil alike_at pair_at
pair_alike n a [] i h none none = rw zero-div (or_zero_r (pair_of (bit a i)))
pair_alike n a (r ∷ rs) i h (more p ps) (more l ls) =
    rw (pair_overlay (answer_track r) (on_coil rs) i, track_pair r i p.bytes (omega arith))
    (pair_over (bit a i) (bit r i) (pair_at (on_coil rs) i) (bit_below a i) (bit_below r i) (pair_below (on_coil rs) i)
    ∙ rw (pair_alike n a rs i h ps ls) (both (eqb (bit a i) (bit r i))))
  where
    both : (t : Bool) → cond t (cond (alike_at i a rs) (pair_of (bit a i)) 3) 3 ≡ cond (t && alike_at i a rs) (pair_of (bit a i)) 3
    both true = refl
    both false = refl

-- bits that are alike at all places
all_alike : (n : ℕ) (a : List ℕ) (rs : List (List ℕ)) → Bytes a → length a ≡ n → Answers rs → OfLength n rs
    → ((i : ℕ) → i < 8 * n → alike_at i a rs ≡ true) → AllAre a rs
unfolding alike_at
all_alike n a [] b m none none alike = none
all_alike n a (r ∷ rs) b m (more p ps) (more l ls) alike =
    more (same_bits r a p.bytes b (l ∙ sym m) (λ i h. sym (eqb-true (bit a i) (bit r i) (both i (omega arith)).0)))
    (all_alike n a rs b m ps ls (λ i h. (both i h).1))
  where
    both : (i : ℕ) → i < 8 * n → (eqb (bit a i) (bit r i) ≡ true) × (alike_at i a rs ≡ true)
    both i h = (and-eq-true_iff (eqb (bit a i) (bit r i)) (alike_at i a rs)).0 (alike i h)

greatest_of_length : (n : ℕ) (a : List ℕ) (rs : List (List ℕ)) → OfLength n (a ∷ rs) → greatest (a ∷ rs) ≡ n
greatest_of_length n a [] (more l none) = omega arith
greatest_of_length n a (b ∷ rs) (more l ls) = omega (arith, greatest_of_length n b rs ls)

pub different : (n : ℕ) (a : List ℕ) (rs : List (List ℕ)) → Answers (a ∷ rs) → OfLength n (a ∷ rs) → (AllAre a rs → ⊥)
    → FirstUnlike n a rs (reading (on_coil (a ∷ rs)))
unfolding on_coil
different n a rs (more p ps) (more l ls) differ = go (dec_lt k (8 * n))
  where
    test : ℕ → Bool
    test i = not (alike_at i a rs)

    k : ℕ
    k = first_from test 0 (8 * n)

    first : First test 0 (8 * n) k
    first = first_from_lem test 0 (8 * n)

    alike : (i : ℕ) → i < k → alike_at i a rs ≡ true
    alike i h = not-false (alike_at i a rs) (first.fails i (omega arith) h)

    pair : (i : ℕ) → i < 8 * n → pair_at (on_coil (a ∷ rs)) i ≡ cond (alike_at i a rs) (pair_of (bit a i)) 3
    pair i h = pair_overlay (answer_track a) (on_coil rs) i ∙ rw (track_pair a i p.bytes (omega arith)) (pair_alike n a rs i h ps ls)

    framed : Framed n (on_coil (a ∷ rs))
    framed = rw (greatest_of_length n a rs (more l ls)) at (framed_coil a rs (more p ps))

    good : GoodBefore k (on_coil (a ∷ rs))
    good i h = rw (pair i (omega (arith, first.most)), alike i h) (pair_good (bit a i))

    go : Dec (k < 8 * n) → FirstUnlike n a rs (reading (on_coil (a ∷ rs)))
    go (yes h) =
        let unlike : alike_at k a rs ≡ false = not-true (alike_at k a rs) (first.holds (omega arith)) in
        record {
          place = k;
          inside = h;
          alike_before = alike;
          unlike = unlike;
          clash = reading_clash n k (on_coil (a ∷ rs)) framed h good (rw unlike at (pair k h));
        }
    go (no h) = absurd (differ (all_alike n a rs p.bytes l ps ls (λ i g. alike i (omega arith))))

pub two : (a b : List ℕ) → Codable a → Codable b → length a ≡ length b → (a ≡ b → ⊥)
    → FirstUnlike (length a) a (b ∷ []) (reading (overlay (answer_track a) (answer_track b)))
unfolding on_coil
two a b p q n differ =
    rw overlay_none at (different (length a) a (b ∷ []) (more p (more q none)) (more refl (more (sym n) none)) one)
  where
    one : AllAre a (b ∷ []) → ⊥
    one (more e none) = differ (sym e)
