-- Buffers that are put together from bytes are buffers of bytes. By their places. Assumes nothing.
use mathlib.Core.List.{List, [], ◌∷◌, ◌++◌}
use Prim.Native.Nat.{ℕ, zero, suc, ◌+◌, ◌<◌}
use native.Mathlib.Omega.{arith}
use lib.ListN.{length, take, drop}
use lib.Seq.{get_or-drop}
use Rattle.lent.specs.Bytes.{Bytes}
use Rattle.lent.specs.Lent.{over, placed}

pub bytes_none : Bytes []
bytes_none i = omega arith

pub bytes_cons : (b : ℕ) (s : List ℕ) → b < 256 → Bytes s → Bytes (b ∷ s)
bytes_cons b s h p zero = h
bytes_cons b s h p (suc i) = p i

pub bytes_append : (s v : List ℕ) → Bytes s → Bytes v → Bytes (s ++ v)
bytes_append [] v p q = q
bytes_append (b ∷ s) v p q = bytes_cons b (s ++ v) (p 0) (bytes_append s v (λ i. p (suc i)) q)

pub bytes_drop : (n : ℕ) (s : List ℕ) → Bytes s → Bytes (drop n s)
bytes_drop n s p i = rw (get_or-drop n s i 0) (p (n + i))

pub bytes_take : (n : ℕ) (s : List ℕ) → Bytes s → Bytes (take n s)
bytes_take zero s p = bytes_none
bytes_take (suc n) [] p = bytes_none
bytes_take (suc n) (b ∷ s) p = bytes_cons b (take n s) (p 0) (bytes_take n s (λ i. p (suc i)))

pub bytes_over : (s e : List ℕ) → Bytes s → Bytes e → Bytes (over s e)
unfolding over
bytes_over s e p q = bytes_append s (drop (length s) e) p (bytes_drop (length s) e q)

pub bytes_placed : (at : ℕ) (s e : List ℕ) → Bytes s → Bytes e → Bytes (placed at s e)
unfolding placed
bytes_placed at s e p q =
    bytes_append (take at e ++ s) (drop (at + length s) e) (bytes_append (take at e) s (bytes_take at e q) p) (bytes_drop (at + length s) e q)
