-- A message is sealed exactly if it is some message with its check appended.
-- By the places of the last two bytes. Assumes nothing.
use mathlib.Core.Path.{◌≡◌, refl, sym, ap, ap₂, ◌∙◌}
use mathlib.Core.Bool.{true, false, ◌&&◌, and-eq-true_iff}
use Prim.Native.Nat.{ℕ, suc, ◌+◌, ◌-◌, ◌*◌, ◌/◌, ◌%◌, ◌≤◌, ◌<◌}
use native.Mathlib.Decide.{ℕ_discrete}
use native.Mathlib.Omega.{arith}
use mathlib.Core.List.{List, [], ◌∷◌, ◌++◌}
use borrow.Author.Tests.{eq-eqb, ne_eqb, eqb-true, le-leb, lt-leb, leb-true}
use lib.Dec.{leb, eqb}
use lib.ListN.{length, get_or, take, drop, length-append, take-append-drop, drop_of_length-le}
use lib.Seq.{take-append_seam, get_or-append_seam, get_or-append-add, drop-cons}
use Rattle.crc.specs.Check.{check_of, check_bytes, sealed, is_check, is_sealed}

-- a check fits sixteen bits
pub check_fits : (m : List ℕ) → check_of m ≤ 65535
unfolding check_of
check_fits m = omega arith

-- two bytes are the check, one by one, exactly if they are it together
pub check_joined : (x low high : ℕ) → low < 256 → eqb (low + 256 * high) x ≡ is_check x low high
unfolding is_check
check_joined x low high h = go (ℕ_discrete (low + 256 * high) x)
  where
    go : Dec (low + 256 * high ≡ x) → eqb (low + 256 * high) x ≡ (eqb low (x % 256) && eqb high (x / 256))
    go (yes e) = rw (eq-eqb (low + 256 * high) x e, eq-eqb low (x % 256) (omega arith), eq-eqb high (x / 256) (omega arith))
    go (no e) = rw (ne_eqb (low + 256 * high) x e) (sym (other (ℕ_discrete low (x % 256))))
      where
        other : Dec (low ≡ x % 256) → (eqb low (x % 256) && eqb high (x / 256)) ≡ false
        other (yes f) = rw (eq-eqb low (x % 256) f, ne_eqb high (x / 256) (λ g. e (omega arith)))
        other (no f) = rw (ne_eqb low (x % 256) f)

pub length_sealed : (m : List ℕ) → length (sealed m) ≡ length m + 2
unfolding sealed check_bytes
length_sealed m = length-append m _

-- the last two of a list
pub last_two : (m : List ℕ) → 2 ≤ length m → drop (length m - 2) m ≡ get_or m (length m - 2) 0 ∷ get_or m (length m - 1) 0 ∷ []
last_two m h =
    let next : suc (length m - 2) ≡ length m - 1 = omega arith in
    drop-cons m (length m - 2) 0 (omega arith)
    ∙ ap (λ (t : List ℕ). get_or m (length m - 2) 0 ∷ t)
    (drop-cons m (suc (length m - 2)) 0 (omega arith) ∙ rw (drop_of_length-le m {i = suc (suc (length m - 2))} (omega arith), next))

-- sealed or not, by the last two bytes together and the check of the rest; and too short
pub sealed_by_ends : (m : List ℕ) {rest sent : List ℕ} → ((i : ℕ) → get_or m i 0 < 256) → rest ≡ take (length m - 2) m → sent ≡ drop (length m - 2) m
    → length rest + 2 ≡ length m → eqb (get_or sent 0 0 + get_or sent 1 0 * 256) (check_of rest) ≡ is_sealed m
unfolding is_sealed
sealed_by_ends m {rest} {sent} bytes r s n =
    let low : ℕ = get_or m (length m - 2) 0 in
    let high : ℕ = get_or m (length m - 1) 0 in
    let number : low + high * 256 ≡ low + 256 * high = omega arith in
    rw (s, last_two m (omega arith), r, le-leb 2 (length m) (omega arith)) (rw number (check_joined _ low high (bytes (length m - 2))))

pub unsealed_short : (m : List ℕ) → length m < 2 → is_sealed m ≡ false
unfolding is_sealed
unsealed_short m h = rw (lt-leb 2 (length m) h) refl

-- what was sealed is taken for sealed
pub is_sealed_of_sealed : (m : List ℕ) → is_sealed (sealed m) ≡ true
unfolding is_sealed is_check sealed check_bytes
is_sealed_of_sealed m =
    let sent : List ℕ = check_of m % 256 ∷ check_of m / 256 ∷ [] in
    let n : length (m ++ sent) ≡ length m + 2 = length-append m sent in
    let rest : length (m ++ sent) - 2 ≡ length m = omega (arith, n) in
    let last : length (m ++ sent) - 1 ≡ length m + 1 = omega (arith, n) in
    rw (
      le-leb 2 (length (m ++ sent)) (omega (arith, n)),
      rest,
      last,
      take-append_seam m sent,
      get_or-append_seam m (check_of m % 256) (check_of m / 256 ∷ []) 0,
      get_or-append-add m sent 1 0,
      eq-eqb (check_of m % 256) (check_of m % 256) refl,
      eq-eqb (check_of m / 256) (check_of m / 256) refl,
    )

-- and nothing else is
pub sealed_of_is_sealed : (m : List ℕ) → is_sealed m ≡ true → m ≡ sealed (take (length m - 2) m)
unfolding is_sealed is_check sealed check_bytes
sealed_of_is_sealed m h =
    let rest : ℕ = length m - 2 in
    let x : ℕ = check_of (take rest m) in
    let low : ℕ = get_or m rest 0 in
    let high : ℕ = get_or m (length m - 1) 0 in
    let long = (and-eq-true_iff (leb 2 (length m)) (is_check x low high)).0 h in
    let right = (and-eq-true_iff (eqb low (x % 256)) (eqb high (x / 256))).0 long.1 in
    sym (take-append-drop rest m)
    ∙ ap (λ (t : List ℕ). take rest m ++ t)
    (last_two m (leb-true 2 (length m) long.0)
    ∙ ap₂ (λ (a b : ℕ). a ∷ b ∷ []) (eqb-true low (x % 256) right.0) (eqb-true high (x / 256) right.1))
