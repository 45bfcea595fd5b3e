-- What it is to be a track in a coding, part by part, and how the length tells it. Assumes nothing.
use mathlib.Core.Path.{◌≡◌, refl, sym}
use mathlib.Core.Bool.{Bool, true, false, cond, ◌&&◌, and-eq-true_iff}
use Prim.Native.Nat.{ℕ, ◌+◌, ◌-◌, ◌*◌, ◌≤◌}
use native.Mathlib.Omega.{arith}
use mathlib.Core.List.{List}
use borrow.Author.Tests.{eqb-true, leb-true, eq-eqb, le-leb}
use lib.Dec.{eqb, leb}
use lib.ListN.{length, get_or, drop}
use Rattle.std.specs.Prelude.{Some, None}
use Rattle.std.proofs.lemmas.Option.{cond_some}
use Rattle.frames.specs.Frame.{longest}
use Rattle.tracks.specs.Track.{start, end, unit, track_length}
use Rattle.tracks.specs.Steps.{are_bytes, count_of, is_track, length_as}

pub record Parts (coding : ℕ) (t : List ℕ) : Type 0 where
  pub size : length t ≡ track_length coding (count_of coding t)
  pub starts : get_or t 0 0 ≡ start coding
  pub short : count_of coding t ≤ longest
  pub ends : get_or t (length t - 1) 0 ≡ end
  pub bytes : are_bytes coding (count_of coding t) (drop 1 t) ≡ true

module _ (coding : ℕ) (t : List ℕ) where
  -- the five tests
  abbrev n : ℕ
  n = count_of coding t

  pub parts_of_track : is_track coding t ≡ true → Parts coding t
  unfolding is_track
  parts_of_track e =
      let units : Bool = are_bytes coding n (drop 1 t) in
      let last : Bool = eqb (get_or t (length t - 1) 0) end in
      let few : Bool = leb n longest in
      let first : Bool = eqb (get_or t 0 0) (start coding) in
      let a = (and-eq-true_iff (eqb (length t) (track_length coding n)) (first && (few && (last && units)))).0 e in
      let b = (and-eq-true_iff first (few && (last && units))).0 a.1 in
      let c = (and-eq-true_iff few (last && units)).0 b.1 in
      let d = (and-eq-true_iff last units).0 c.1 in
      record {
        size = eqb-true (length t) (track_length coding n) a.0;
        starts = eqb-true (get_or t 0 0) (start coding) b.0;
        short = leb-true n longest c.0;
        ends = eqb-true (get_or t (length t - 1) 0) end d.0;
        bytes = d.1;
      }

  pub track_of_parts : Parts coding t → is_track coding t ≡ true
  unfolding is_track
  track_of_parts p =
      rw (
        eq-eqb (length t) (track_length coding n) p.size,
        eq-eqb (get_or t 0 0) (start coding) p.starts,
        le-leb n longest p.short,
        eq-eqb (get_or t (length t - 1) 0) end p.ends,
        p.bytes,
      )

  pub no_track_of_length : None ≡ length_as coding t → is_track coding t ≡ false
  unfolding length_as
  no_track_of_length e = go (is_track coding t) e
    where
      go : (b : Bool) → None ≡ cond b (Some n) None → b ≡ false
      go true k = cc
      go false k = refl

  -- what a length says of the units
  pub record Units (k : ℕ) : Type 0 where
    pub track : is_track coding t ≡ true
    pub count : k ≡ count_of coding t
    pub short : k ≤ longest
    pub within : 1 + unit coding * k ≤ length t
    pub bytes : are_bytes coding k (drop 1 t) ≡ true

  pub units_of_length : (k : ℕ) → Some k ≡ length_as coding t → Units k
  unfolding length_as
  units_of_length k e =
      let both = cond_some (is_track coding t) n k (sym e) in
      let parts : Parts coding t = parts_of_track both.0 in
      record {
        track = both.0;
        count = sym both.1;
        short = rw (← both.1) parts.short;
        within = rw (parts.size, ← both.1) (omega arith);
        bytes = rw (← both.1) parts.bytes;
      }
