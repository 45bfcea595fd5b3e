-- The commands that a request may ask: 20 to 23 and 25 to 2C are twelve. By the next one, from 20 on. Assumes nothing.
use mathlib.Core.Path.{◌≡◌}
use mathlib.Core.Bool.{true, ◌&&◌, not, and-eq-true_iff}
use Prim.Native.Nat.{ℕ, ◌+◌, ◌≤◌}
use native.Mathlib.Decide.{ℕ_discrete}
use native.Mathlib.Omega.{arith}
use borrow.Author.Tests.{leb-true, eqb-false, not-true}
use lib.Dec.{leb, eqb}
use Rattle.reader.specs.Request.{is_asked}

pub data OneOfTwelve (k : ℕ) : Type 0 where
  Is20 : k ≡ 0x20 → OneOfTwelve k
  Is21 : k ≡ 0x21 → OneOfTwelve k
  Is22 : k ≡ 0x22 → OneOfTwelve k
  Is23 : k ≡ 0x23 → OneOfTwelve k
  Is25 : k ≡ 0x25 → OneOfTwelve k
  Is26 : k ≡ 0x26 → OneOfTwelve k
  Is27 : k ≡ 0x27 → OneOfTwelve k
  Is28 : k ≡ 0x28 → OneOfTwelve k
  Is29 : k ≡ 0x29 → OneOfTwelve k
  Is2a : k ≡ 0x2a → OneOfTwelve k
  Is2b : k ≡ 0x2b → OneOfTwelve k
  Is2c : k ≡ 0x2c → OneOfTwelve k

-- this number, or one past it
this_or_past : {P : Type 0} (k n : ℕ) → n ≤ k → (k ≡ n → P) → (n + 1 ≤ k → P) → P
this_or_past {P} k n h this past = go (ℕ_discrete k n)
  where
    go : Dec (k ≡ n) → P
    go (yes e) = this e
    go (no e) = past (omega arith)

pub least_asked : (k : ℕ) → is_asked k ≡ true → 0x20 ≤ k
unfolding is_asked
least_asked k asked = leb-true 0x20 k ((and-eq-true_iff (leb 0x20 k) (leb k 0x2c && not (eqb k 0x24))).0 asked).0

pub one_of_twelve : (k : ℕ) → is_asked k ≡ true → OneOfTwelve k
unfolding is_asked
one_of_twelve k asked =
    let a = (and-eq-true_iff (leb 0x20 k) (leb k 0x2c && not (eqb k 0x24))).0 asked in
    let b = (and-eq-true_iff (leb k 0x2c) (not (eqb k 0x24))).0 a.1 in
    let most : k ≤ 0x2c = leb-true k 0x2c b.0 in
    let other : k ≡ 0x24 → ⊥ = eqb-false k 0x24 (not-true (eqb k 0x24) b.1) in
    this_or_past k 0x20 (least_asked k asked) Is20 (λ h21.
    this_or_past k 0x21 h21 Is21 (λ h22.
    this_or_past k 0x22 h22 Is22 (λ h23.
    this_or_past k 0x23 h23 Is23 (λ h24.
    this_or_past k 0x24 h24 (λ e. absurd (other e)) (λ h25.
    this_or_past k 0x25 h25 Is25 (λ h26.
    this_or_past k 0x26 h26 Is26 (λ h27.
    this_or_past k 0x27 h27 Is27 (λ h28.
    this_or_past k 0x28 h28 Is28 (λ h29.
    this_or_past k 0x29 h29 Is29 (λ h2a.
    this_or_past k 0x2a h2a Is2a (λ h2b.
    this_or_past k 0x2b h2b Is2b (λ h2c.
    this_or_past k 0x2c h2c Is2c (λ past. absurd (omega arith))))))))))))))
