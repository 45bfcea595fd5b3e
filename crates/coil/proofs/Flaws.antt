-- The flaws of a track byte are the bad bits of its place: none where they are 0, else the first that they name. By its four pairs. Assumes nothing.
use mathlib.Core.Path.{◌≡◌, refl, sym, ap}
use mathlib.Core.Bool.{Bool, true, false, cond, ◌||◌}
use Prim.Native.Nat.{ℕ, zero, suc, ◌+◌, ◌-◌, ◌*◌, ◌/◌, ◌%◌, ◌^◌, ◌≤◌, ◌<◌}
use native.Mathlib.Nat.{add_assoc, div-one}
use native.Mathlib.Decide.{dec_le, dec_lt}
use native.Mathlib.Omega.{arith}
use mathlib.Core.List.{List}
use borrow.Author.Tests.{le-leb, lt-leb}
use lib.Dec.{leb}
use lib.ListN.{get_or}
use Rattle.coil.specs.Decoder.{pair_at, is_clash, is_lost, is_bad, first_from}
use Rattle.coil.specs.Steps.{flaw, flaws, first_of}
use Rattle.coil.proofs.First.{first_is}

-- pair q of a byte, the earliest on top
abbrev pub pair_in : ℕ → ℕ → ℕ
pair_in b q = b / 2 ^ (6 - 2 * q) % 4

pub pair_in_lem : (t : List ℕ) (i q : ℕ) → q < 4 → pair_at t (4 * i + q) ≡ pair_in (get_or t (1 + i) 0) q
unfolding pair_at
pair_in_lem t i q h =
    let place : (4 * i + q) / 4 ≡ i = omega arith in
    let rest : (4 * i + q) % 4 ≡ q = omega arith in
    rw (place, rest)

-- ---- one pair

flaw_most : (p : ℕ) → flaw p ≤ 1
unfolding flaw
flaw_most p = go (is_clash p || is_lost p)
  where
    go : (b : Bool) → cond {A = ℕ} b 1 0 ≤ 1
    go true = omega arith
    go false = omega arith

flaw_none : (p : ℕ) → flaw p ≡ 0 → (is_clash p || is_lost p) ≡ false
unfolding flaw
flaw_none p = go (is_clash p || is_lost p)
  where
    go : (b : Bool) → cond {A = ℕ} b 1 0 ≡ 0 → b ≡ false
    go true h = absurd (omega arith)
    go false h = refl

flaw_some : (p : ℕ) → 1 ≤ flaw p → (is_clash p || is_lost p) ≡ true
unfolding flaw
flaw_some p = go (is_clash p || is_lost p)
  where
    go : (b : Bool) → 1 ≤ cond {A = ℕ} b 1 0 → b ≡ true
    go true h = refl
    go false h = absurd (omega arith)

-- ---- the four of a byte

last_pair : (b : ℕ) → flaw (pair_in b 3) ≡ flaw (b % 4)
last_pair b = ap (λ (x : ℕ). flaw (x % 4)) (div-one b)

-- flaws of four pairs, none before pair q
none_before : (b q j : ℕ) → j < q → q < 4 → flaws b < 4 ^ (4 - q) → flaw (pair_in b j) ≡ 0
unfolding flaws
none_before b zero j l h few = absurd (omega arith)
none_before b (suc zero) zero l h few = omega arith
none_before b (suc zero) (suc j) l h few = absurd (omega arith)
none_before b (suc (suc zero)) zero l h few = omega arith
none_before b (suc (suc zero)) (suc zero) l h few = omega arith
none_before b (suc (suc zero)) (suc (suc j)) l h few = absurd (omega arith)
none_before b (suc (suc (suc zero))) zero l h few = omega arith
none_before b (suc (suc (suc zero))) (suc zero) l h few = omega arith
none_before b (suc (suc (suc zero))) (suc (suc zero)) l h few = omega arith
none_before b (suc (suc (suc zero))) (suc (suc (suc j))) l h few = absurd (omega arith)
none_before b (suc (suc (suc (suc q)))) j l h few = absurd (omega arith)

all_none : (b q : ℕ) → q < 4 → flaws b ≡ 0 → flaw (pair_in b q) ≡ 0
unfolding flaws
all_none b zero h none = omega arith
all_none b (suc zero) h none = omega arith
all_none b (suc (suc zero)) h none = omega arith
all_none b (suc (suc (suc zero))) h none = omega (arith, last_pair b)
all_none b (suc (suc (suc (suc q)))) h none = absurd (omega arith)

module _ (t : List ℕ) (i : ℕ) where
  -- no bit of a byte without flaws is bad
  pub no_flaw : flaws (get_or t (1 + i) 0) ≡ 0 → (q : ℕ) → q < 4 → is_bad t (4 * i + q) ≡ false
  unfolding is_bad
  no_flaw none q h = rw (pair_in_lem t i q h) (flaw_none (pair_in (get_or t (1 + i) 0) q) (all_none (get_or t (1 + i) 0) q h none))

  -- the first bad bit of a byte with flaws
  pub record FirstFlaw (q : ℕ) : Type 0 where
    pub within : q < 4
    pub bad : is_bad t (4 * i + q) ≡ true
    pub before : (j : ℕ) → j < q → is_bad t (4 * i + j) ≡ false

  flaw_at : (q : ℕ) → q < 4 → 1 ≤ flaw (pair_in (get_or t (1 + i) 0) q) → flaws (get_or t (1 + i) 0) < 4 ^ (4 - q) → FirstFlaw q
  unfolding is_bad
  flaw_at q h some few =
      record {
        within = h;
        bad = rw (pair_in_lem t i q h) (flaw_some (pair_in (get_or t (1 + i) 0) q) some);
        before = λ j l. rw (pair_in_lem t i j (omega arith)) (flaw_none (pair_in (get_or t (1 + i) 0) j) (none_before (get_or t (1 + i) 0) q j l h few));
      }

  pub first_flaw : (flaws (get_or t (1 + i) 0) ≡ 0 → ⊥) → FirstFlaw (first_of (flaws (get_or t (1 + i) 0)))
  unfolding flaws first_of
  first_flaw some =
      go (dec_le 64 f) (dec_le 16 f) (dec_le 4 f) (flaw_most (b / 64 % 4)) (flaw_most (b / 16 % 4)) (flaw_most (b / 4 % 4)) (flaw_most (b % 4))
    where
      b : ℕ
      b = get_or t (1 + i) 0

      f : ℕ
      f = flaws b

      go : Dec (64 ≤ f) → Dec (16 ≤ f) → Dec (4 ≤ f) → flaw (b / 64 % 4) ≤ 1 → flaw (b / 16 % 4) ≤ 1 → flaw (b / 4 % 4) ≤ 1 → flaw (b % 4) ≤ 1
          → FirstFlaw (first_of f)
      go (yes h) c d p q r s = rw (le-leb 64 f h) (flaw_at 0 (omega arith) (omega arith) (omega arith))
      go (no h) (yes g) d p q r s = rw (lt-leb 64 f (omega arith), le-leb 16 f g) (flaw_at 1 (omega arith) (omega arith) (omega arith))
      go (no h) (no g) (yes k) p q r s =
          rw (lt-leb 64 f (omega arith), lt-leb 16 f (omega arith), le-leb 4 f k) (flaw_at 2 (omega arith) (omega arith) (omega arith))
      go (no h) (no g) (no k) p q r s =
          rw (lt-leb 64 f (omega arith), lt-leb 16 f (omega arith), lt-leb 4 f (omega arith))
          (flaw_at 3 (omega arith) (omega (arith, last_pair b)) (omega arith))

pub first_of_most : (f : ℕ) → first_of f ≤ 3
unfolding first_of
first_of_most f = go (leb 64 f) (leb 16 f) (leb 4 f)
  where
    go : (a b c : Bool) → cond {A = ℕ} a 0 (cond b 1 (cond c 2 3)) ≤ 3
    go true b c = omega arith
    go false true c = omega arith
    go false false true = omega arith
    go false false false = omega arith

-- ---- byte after byte

-- m bytes without flaws passed at once
pub pass_bytes : (t : List ℕ) (i m : ℕ) → ((j : ℕ) → j < 4 * i → is_bad t j ≡ false) → ((k : ℕ) → k < m → flaws (get_or t (1 + i + k) 0) ≡ 0)
    → (j : ℕ) → j < 4 * (i + m) → is_bad t j ≡ false
pass_bytes t i m good none j h = go (dec_lt j (4 * i))
  where
    k : ℕ
    k = (j - 4 * i) / 4

    go : Dec (j < 4 * i) → is_bad t j ≡ false
    go (yes l) = good j l
    go (no l) =
        let place : j ≡ 4 * (i + k) + j % 4 = omega arith in
        rw place (no_flaw t (i + k) (rw (add_assoc 1 i k) at (none k (omega arith))) (j % 4) (omega arith))

-- one byte
pub pass_byte : (t : List ℕ) (i : ℕ) → ((j : ℕ) → j < 4 * i → is_bad t j ≡ false) → flaws (get_or t (1 + i) 0) ≡ 0
    → (j : ℕ) → j < 4 * (i + 1) → is_bad t j ≡ false
pass_byte t i good none =
    pass_bytes t i 1 good
    (λ k h.
    let here : 1 + i + k ≡ 1 + i = omega arith in
    rw here none)

-- a byte with flaws has the first bad bit
pub first_in_byte : (t : List ℕ) (i n : ℕ) → i < n → ((j : ℕ) → j < 4 * i → is_bad t j ≡ false) → (flaws (get_or t (1 + i) 0) ≡ 0 → ⊥)
    → 4 * i + first_of (flaws (get_or t (1 + i) 0)) ≡ first_from (is_bad t) 0 (4 * n)
first_in_byte t i n h good some =
    let q : ℕ = first_of (flaws (get_or t (1 + i) 0)) in
    let f : FirstFlaw t i q = first_flaw t i some in
    sym (first_is (record { least = omega arith; most = omega (arith, f.within); holds = λ l. f.bad; fails = λ j l g. before j g (dec_lt j (4 * i)) }))
  where
    before : (j : ℕ) → j < 4 * i + first_of (flaws (get_or t (1 + i) 0)) → Dec (j < 4 * i) → is_bad t j ≡ false
    before j g (yes l) = good j l
    before j g (no l) =
        let place : j ≡ 4 * i + (j - 4 * i) = omega arith in
        rw place ((first_flaw t i some).before (j - 4 * i) (omega arith))
