-- Answers of any lengths laid over each other are read as a clash, unless they are identical: the end of a shorter one makes a pair 11, and no
-- pair is 00. So all of 02's sentence on overlaying. By the laws of the union and of answers of one length. Assumes nothing.
use mathlib.Core.Path.{◌≡◌}
use Prim.Native.Nat.{ℕ, zero, suc, ◌+◌, ◌*◌, ◌≤◌, ◌<◌}
use native.Mathlib.Decide.{dec_lt}
use native.Mathlib.Omega.{arith}
use native.Mathlib.Numerals.{one-add}
use mathlib.Core.List.{List, [], ◌∷◌}
use lib.ListN.{length, get_or}
use Rattle.coil.specs.Track.{end, answer_track}
use Rattle.coil.specs.Decoder.{pair_at, a_clash, reading}
use Rattle.coil.specs.Overlay.{on_coil, Answers, OfLength, AllAre, none, more, Overlays}
use Rattle.coil.proofs.Pairs.{good_range, track_end_pair}
use Rattle.coil.proofs.Framed.{Judged, all_good, clash_at, loss_at, judged, reading_clash}
use Rattle.coil.proofs.Flaws.{pair_in_lem}
use Rattle.coil.proofs.Union.{pair_overlay, or_least_l, or_least_r, greatest, framed_coil, coil_not_lost}
use Rattle.coil.proofs.OneLength.{identical, different, two}

-- where no pair is 11 none is shorter than the longest, for its end would be one
lengths_of_good : (n : ℕ) (rs : List (List ℕ)) → greatest rs ≤ n → ((i : ℕ) → i < 8 * n → pair_at (on_coil rs) i ≤ 2) → OfLength n rs
unfolding on_coil
lengths_of_good n [] h few = none
lengths_of_good n (r ∷ rs) h few = more (long (dec_lt (length r) n)) (lengths_of_good n rs (omega arith) (λ i g. omega (arith, at i, few i g)))
  where
    at : (i : ℕ) → (pair_at (answer_track r) i ≤ pair_at (on_coil (r ∷ rs)) i) × (pair_at (on_coil rs) i ≤ pair_at (on_coil (r ∷ rs)) i)
    at i =
        rw (pair_overlay (answer_track r) (on_coil rs) i)
        (or_least_l (pair_at (answer_track r) i) (pair_at (on_coil rs) i), or_least_r (pair_at (answer_track r) i) (pair_at (on_coil rs) i))

    long : Dec (length r < n) → length r ≡ n
    long (yes g) =
        let last : ℕ = 8 * length r + 1 in
        absurd (omega (arith, (at last).0, few last (omega arith), track_end_pair r))
    long (no g) = omega arith

any_lengths : (a : List ℕ) (rs : List (List ℕ)) → Answers (a ∷ rs) → (AllAre a rs → ⊥) → (k : ℕ) × (reading (on_coil (a ∷ rs)) ≡ a_clash k)
any_lengths a rs ps differ = go (judged n t)
  where
    n : ℕ
    n = greatest (a ∷ rs)

    t : List ℕ
    t = on_coil (a ∷ rs)

    go : Judged n t → (k : ℕ) × (reading t ≡ a_clash k)
    go (all_good good) =
        let unlike = different n a rs ps (lengths_of_good n (a ∷ rs) (omega arith) (λ i h. (good_range (good i h)).1)) differ in
        (unlike.place, unlike.clash)
    go (clash_at k h good e) = (k, reading_clash n k t (framed_coil a rs ps) h good e)
    go (loss_at k h good e) = absurd (omega (arith, coil_not_lost (a ∷ rs) ps k h))

-- the last pair of the end is 00, and no other byte of a track has such a pair there
end_alone : (a : List ℕ) (rs : List (List ℕ)) → Answers (a ∷ rs) → (j : ℕ) → suc j < length (on_coil (a ∷ rs)) → get_or (on_coil (a ∷ rs)) j 0 ≡ end → ⊥
end_alone a rs ps zero h is = absurd (omega (arith, (framed_coil a rs ps).starts, is))
end_alone a rs ps (suc i) h is =
    let t : List ℕ = on_coil (a ∷ rs) in
    let last : pair_at t (4 * i + 3) ≡ 0 = rw (pair_in_lem t i 3 (omega arith), one-add i, is) in
    absurd (omega (arith, last, coil_not_lost (a ∷ rs) ps (4 * i + 3) (omega (arith, (framed_coil a rs ps).long))))

pub overlays : Overlays
overlays = record { identical = identical; different = different; two = two; any_lengths = any_lengths; end_alone = end_alone }
