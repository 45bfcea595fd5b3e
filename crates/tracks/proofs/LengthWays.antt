-- The length of a frame by the tests on its track: first on all but the units, then on these. Assumes nothing.
use mathlib.Core.Path.{◌≡◌}
use mathlib.Core.Bool.{Bool, true, false, ◌&&◌, and_assoc, and-eq-true_iff}
use mathlib.Core.List.{List}
use Prim.Native.Nat.{ℕ, ◌-◌, ◌<◌}
use native.Mathlib.Omega.{arith}
use borrow.Author.Tests.{eqb-true, ne_eqb}
use lib.Dec.{leb, eqb}
use lib.ListN.{length, get_or, drop}
use Rattle.std.specs.Prelude.{Some, None}
use Rattle.frames.specs.Frame.{longest}
use Rattle.tracks.specs.Track.{start, end, track_length}
use Rattle.tracks.specs.Steps.{are_bytes, count_of, is_track, length_as}

-- the tests on all but the units
abbrev pub framed : ℕ → List ℕ → Bool
framed coding t =
    eqb (length t) (track_length coding (count_of coding t))
    && eqb (get_or t 0 0) (start coding)
    && leb (count_of coding t) longest
    && eqb (get_or t (length t - 1) 0) end

module _ (coding : ℕ) (t : List ℕ) where
  pub size_of_framed : framed coding t ≡ true → length t ≡ track_length coding (count_of coding t)
  size_of_framed h = eqb-true (length t) _ ((and-eq-true_iff _ _).0 ((and-eq-true_iff _ _).0 ((and-eq-true_iff _ _).0 h).0).0).0

  track_by_tests : is_track coding t ≡ (framed coding t && are_bytes coding (count_of coding t) (drop 1 t))
  unfolding is_track
  track_by_tests = simp and_assoc

  pub length_by_tests : (framed coding t && are_bytes coding (count_of coding t) (drop 1 t)) ≡ true → Some (count_of coding t) ≡ length_as coding t
  unfolding length_as
  length_by_tests h = rw (track_by_tests, h)

  pub no_length_by_tests : (framed coding t && are_bytes coding (count_of coding t) (drop 1 t)) ≡ false → None ≡ length_as coding t
  unfolding length_as
  no_length_by_tests h = rw (track_by_tests, h)

  pub no_length : length t < 2 → None ≡ length_as coding t
  no_length h = no_length_by_tests (rw (ne_eqb (length t) (track_length coding (count_of coding t)) (λ e. omega arith)))
