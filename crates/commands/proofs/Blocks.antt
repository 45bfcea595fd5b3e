-- A block number has a byte; the lock byte of one block, and those of several: one that is not 0 is found, and what is found is one.
-- By the definitions, and by induction over the blocks. Assumes nothing.
use mathlib.Core.Path.{◌≡◌, refl, sym, ap, ◌∙◌}
use mathlib.Core.Bool.{Bool, true, false, ◌||◌, or-true, or-false, false≢true}
use mathlib.Core.List.{List, [], ◌∷◌, ◌++◌}
use Prim.Native.Nat.{ℕ, zero, suc, ◌+◌, ◌≤◌, ◌<◌}
use native.Mathlib.Decide.{ℕ_discrete}
use native.Mathlib.Nat.{add-zero, zero-add}
use native.Mathlib.Omega.{arith}
use Rattle.std.specs.List.{list_any, range_with_len}
use Rattle.std.proofs.lemmas.List.Folds.{list_any-append}
use Rattle.commands.specs.Request.{is_locked, any_locked, width}

pub width_least : (command : ℕ) → 1 ≤ width command
unfolding width
width_least command = omega arith

pub any_locked_one : (locks : List ℕ) (block : ℕ) → any_locked locks block 1 ≡ is_locked locks block
unfolding any_locked
any_locked_one locks block = rw add-zero

-- one locked block of n is enough
pub locked_any : (locks : List ℕ) (first n i : ℕ) → i < n → is_locked locks (first + i) ≡ true → any_locked locks first n ≡ true
unfolding any_locked
locked_any locks first zero i h e = absurd (omega arith)
locked_any locks first (suc n) i h e = go (ℕ_discrete i n) (locked_any locks first n i)
  where
    go : Dec (i ≡ n) → (i < n → is_locked locks (first + i) ≡ true → any_locked locks first n ≡ true)
        → any_locked locks first (suc n) ≡ true
    go (yes p) before =
        let last : is_locked locks (first + n) ≡ true = ap (λ (k : ℕ). is_locked locks (first + k)) (sym p) ∙ e in
        rw (last, or-true)
    go (no p) before = rw (before (omega arith) e)

-- and none but these counts
pub any_locked_lem : (locks : List ℕ) (first n : ℕ) → any_locked locks first n ≡ true
    → (i : ℕ) × (i < n) × (is_locked locks (first + i) ≡ true)
unfolding any_locked
any_locked_lem locks first zero e = absurd (false≢true e)
any_locked_lem locks first (suc n) e = go (any_locked locks first n) e (any_locked_lem locks first n)
  where
    go : (b : Bool) → (b || is_locked locks (first + n)) ≡ true → (b ≡ true → (i : ℕ) × (i < n) × (is_locked locks (first + i) ≡ true))
        → (i : ℕ) × (i < suc n) × (is_locked locks (first + i) ≡ true)
    go true p before =
        let found = before refl in
        (found.0, omega (arith, found.1), found.2)
    go false p before = (n, omega arith, p)

-- one more number at a range's end
range_more : (a n : ℕ) → range_with_len a (suc n) ≡ range_with_len a n ++ ((a + n) ∷ [])
range_more a zero = rw add-zero
range_more a (suc n) =
    let next : (a + 1) + n ≡ a + suc n = omega arith in
    ap (λ xs. a ∷ xs) (range_more (a + 1) n) ∙ rw next

-- the lock bytes as an iterator goes through them, first to last
pub any_locked_counted : (locks : List ℕ) (first n : ℕ) → list_any (λ i. is_locked locks (first + i)) (range_with_len 0 n) ≡ any_locked locks first n
unfolding any_locked
any_locked_counted locks first zero = refl
any_locked_counted locks first (suc n) =
    let P : ℕ → Bool = λ i. is_locked locks (first + i) in
    ap (list_any P) (range_more 0 n) ∙ list_any-append P (range_with_len 0 n) ((0 + n) ∷ []) ∙ rw (any_locked_counted locks first n, zero-add, or-false)
