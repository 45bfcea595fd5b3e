-- An input of more than 1700 bytes has a wrong line, and its first 1701 bytes already tell which: 100 lines of 17 bytes and a byte of line 101, or a
-- wrong line before. By induction over the input after a line that has begun. Assumes nothing.
use mathlib.Core.Path.{◌≡◌, refl, sym, ◌∙◌}
use mathlib.Core.Bool.{Bool, true, false, cond, ◌&&◌, and-eq-true_iff}
use Prim.Native.Nat.{ℕ, zero, suc, ◌+◌, ◌*◌, ◌≤◌, ◌<◌}
use native.Mathlib.Decide.{dec_lt}
use native.Mathlib.Omega.{arith}
use mathlib.Core.List.{List, [], ◌∷◌, ◌++◌}
use borrow.Author.Tests.{leb-true, eqb-true}
use lib.Dec.{leb, eqb}
use lib.ListN.{length, take, length-append}
use Rattle.lines.specs.Input.{lines_from, lines, is_uid, bad_from, bad_line}
use Rattle.lines.proofs.WrongLines.{is_good, bad_line_dead, dead_101, dead_17}

-- the first k bytes already tell which line is wrong, and one is
record Settled (n : ℕ) (line bs : List ℕ) (k : ℕ) : Type 0 where
  same : bad_from n (lines_from line (take k bs)) ≡ bad_from n (lines_from line bs)
  wrong : bad_from n (lines_from line bs) ≡ 0 → ⊥

settled_dead : (n : ℕ) (line bs : List ℕ) (k : ℕ) → 1 ≤ n → 1 ≤ length line → ((rest : List ℕ) → is_good n (line ++ rest) ≡ false) → Settled n line bs k
settled_dead n line bs k h some dead =
    let begun : length line ≡ 0 → ⊥ = λ e. absurd (omega arith) in
    let whole : bad_from n (lines_from line bs) ≡ n = bad_line_dead n line bs begun dead in
    record { same = bad_line_dead n line (take k bs) begun dead ∙ sym whole; wrong = λ e. absurd (omega arith) }

-- nothing more of it is read: line 101 has begun
settled_101 : (n : ℕ) (line bs : List ℕ) (k : ℕ) → 100 < n → 1 ≤ length line → Settled n line bs k
settled_101 n line bs k h some = settled_dead n line bs k (omega arith) some (λ rest. dead_101 n (line ++ rest) h)

-- the line ends
settled_ended : (n : ℕ) (line bs : List ℕ) (k : ℕ) → 1 ≤ n → (n ≤ 100 → length line ≡ 16 → Settled (suc n) [] bs k)
    → (bad_from n (line ∷ lines_from [] (take k bs)) ≡ bad_from n (line ∷ lines_from [] bs)) × (bad_from n (line ∷ lines_from [] bs) ≡ 0 → ⊥)
unfolding bad_from is_uid
settled_ended n line bs k h later = go (leb n 100 && is_uid line) refl
  where
    go : (t : Bool) → (leb n 100 && is_uid line) ≡ t
        → (cond t (bad_from (suc n) (lines_from [] (take k bs))) n ≡ cond t (bad_from (suc n) (lines_from [] bs)) n)
        × (cond t (bad_from (suc n) (lines_from [] bs)) n ≡ 0 → ⊥)
    go true e =
        let good = (and-eq-true_iff (leb n 100) (is_uid line)).0 e in
        let few : n ≤ 100 = leb-true n 100 good.0 in
        let parts = (and-eq-true_iff (eqb (length line) 16) _).0 good.1 in
        let s = later few (eqb-true (length line) 16 parts.0) in
        (s.same, s.wrong)
    go false e = (refl, λ z. absurd (omega arith))

-- a byte more: it ends the line, or the line goes on
settled_byte : (n b : ℕ) (line bs : List ℕ) (k : ℕ) → 1 ≤ n → (n ≤ 100 → length line ≡ 16 → Settled (suc n) [] bs k)
    → Settled n (line ++ b ∷ []) bs k → Settled n line (b ∷ bs) (suc k)
unfolding lines_from
settled_byte n b line bs k h ended on = go (eqb b 0x0a) refl
  where
    go : (t : Bool) → eqb b 0x0a ≡ t → Settled n line (b ∷ bs) (suc k)
    go true e =
        let s = settled_ended n line bs k h ended in
        record { same = rw e s.0; wrong = rw e s.1 }
    go false e = record { same = rw e on.same; wrong = rw e on.wrong }

-- the line goes on: its 17th byte is wrong
settled_longer : (n b : ℕ) (line bs : List ℕ) (k : ℕ) → 1 ≤ n → (length line < 16 → length (line ++ b ∷ []) ≡ length line + 1 → Settled n (line ++ b ∷ []) bs k)
    → Settled n (line ++ b ∷ []) bs k
settled_longer n b line bs k h later = go (dec_lt (length line) 16)
  where
    more : length (line ++ b ∷ []) ≡ length line + 1
    more = length-append line (b ∷ [])

    go : Dec (length line < 16) → Settled n (line ++ b ∷ []) bs k
    go (yes l) = later l more
    go (no l) =
        settled_dead n (line ++ b ∷ []) bs k h (omega (arith, more)) (λ rest. dead_17 n (line ++ b ∷ []) rest (omega (arith, more, l)))

settled : (bs : List ℕ) (n k : ℕ) (line : List ℕ) → 1 ≤ n → n ≤ 101 → length line ≤ 16 → 1718 ≤ 17 * n + k + length line → k ≤ length bs
    → Settled n line bs k
settled bs n zero line h most short far all = settled_101 n line bs zero (omega arith) (omega arith)
settled [] n (suc k) line h most short far all = absurd (omega arith)
settled (b ∷ bs) n (suc k) line h most short far all =
    settled_byte n b line bs k h (λ few l. settled bs (suc n) k [] (omega arith) (omega arith) (omega arith) (omega arith) (omega arith))
    (settled_longer n b line bs k h (λ l more. settled bs n k (line ++ b ∷ []) h most (omega arith) (omega arith) (omega arith)))

-- the whole input: its first k bytes tell which line is wrong, and one is
pub record Told (k : ℕ) (input : List ℕ) : Type 0 where
  pub same : bad_line (take k input) ≡ bad_line input
  pub wrong : bad_line input ≡ 0 → ⊥

pub told_by_start : (k : ℕ) (input : List ℕ) → 1701 ≤ k → k < length input → Told k input
unfolding bad_line lines
told_by_start k input h l =
    let s : Settled 1 [] input k = settled input 1 k [] (omega arith) (omega arith) (omega arith) (omega arith) (omega arith) in
    record { same = s.same; wrong = s.wrong }
