-- The bytes of an answer between start and end, and the stores that make them. Assumes nothing.
use mathlib.Core.Path.{◌≡◌, refl, ap, ◌∙◌}
use Prim.Native.Nat.{ℕ, ◌+◌, ◌*◌, ◌/◌, ◌≤◌, ◌<◌}
use native.Mathlib.Numerals.{add-one}
use native.Mathlib.Omega.{arith}
use mathlib.Core.List.{List, [], ◌∷◌, ◌++◌, append_assoc}
use lib.Seq.{length-take-le, take-suc}
use lib.ListN.{length, get_or, take, set, length-append}
use Rattle.lent.specs.Lent.{placed}
use Rattle.lent.proofs.Over.{set_placed}
use Rattle.coil.specs.Track.{half, pulses}
use Rattle.coil.proofs.Pairs.{length_pulses}

pulses_append : (a b : List ℕ) → pulses (a ++ b) ≡ pulses a ++ pulses b
unfolding pulses
pulses_append [] b = refl
pulses_append (v ∷ a) b = ap (λ (l : List ℕ). half v ∷ half (v / 16) ∷ l) (pulses_append a b)

-- one byte of the answer more
pub placed_pulses_suc : (i : ℕ) (answer e : List ℕ) → i < length answer → 3 + 2 * i ≤ length e
    → set (set (placed 1 (pulses (take i answer)) e) (1 + 2 * i) (half (get_or answer i 0))) (2 + 2 * i) (half (get_or answer i 0 / 16))
    ≡ placed 1 (pulses (take (i + 1) answer)) e
unfolding pulses
placed_pulses_suc i answer e h room =
    let s : List ℕ = pulses (take i answer) in
    let v : ℕ = get_or answer i 0 in
    let n : length s ≡ 2 * i = length_pulses (take i answer) ∙ rw (length-take-le i answer (omega arith)) in
    let first : 1 + 2 * i ≡ 1 + length s = omega arith in
    let more : length (s ++ half v ∷ []) ≡ length s + 1 = length-append s (half v ∷ []) in
    let second : 2 + 2 * i ≡ 1 + length (s ++ half v ∷ []) = omega (arith, more) in
    let last : pulses (take (i + 1) answer) ≡ s ++ half v ∷ half (v / 16) ∷ [] = rw (add-one, take-suc answer i 0 h) (pulses_append (take i answer) (v ∷ [])) in
    rw (second, first, set_placed 1 s e (half v) (omega arith), set_placed 1 (s ++ half v ∷ []) e (half (v / 16)) (omega (arith, more)))
    (ap (λ (l : List ℕ). placed 1 l e) (append_assoc s (half v ∷ []) (half (v / 16) ∷ [])) ∙ rw last)
