-- What a request leaves in memory and lock bytes: 21 its data in its block, every other command the memory as it was; the lengths stay. By the laws of placed bytes.
-- Assumes nothing.
use mathlib.Core.Path.{◌≡◌, refl, ap, ◌∙◌}
use mathlib.Core.Bool.{Bool, true, false, cond}
use mathlib.Core.List.{List}
use Prim.Native.Nat.{ℕ, suc, ◌+◌, ◌*◌, ◌≤◌}
use native.Mathlib.Nat.{add-zero, zero-mul, suc-mul, mul-le-mul_right}
use native.Mathlib.Omega.{arith}
use borrow.Author.Tests.{eq-eqb, eqb-true}
use lib.Dec.{eqb}
use lib.ListN.{length, take, drop, length-set}
use Rattle.lent.specs.Lent.{placed}
use Rattle.lent.proofs.Over.{length_placed}
use Rattle.card.specs.declared.Card.{Card}
use Rattle.commands.specs.declared.Effect.TheVariants.{Leave, Write, Lock}
use Rattle.play.specs.Effects.{blocks_stored, memory_after, locks_after}
use Rattle.reader.specs.declared.Request.{Request}
use Rattle.reader.specs.Request.{data_fits, frame}
use Rattle.reader.specs.Shown.{moves_blocks, is_outside}
use Rattle.reader.proofs.Asked.{body_at, effect_of}
use Rattle.reader.proofs.Kept.{Kept}
use Rattle.reader.proofs.Codes.{first_inside}
use Rattle.reader.proofs.Ready.{Ready}

pub data_long : (q : Request) (n : ℕ) → q.command ≡ 0x21 → data_fits q n ≡ true → n ≡ q.size
unfolding data_fits
data_long q n is fits = eqb-true n q.size (rw is at fits)

-- 20 and 21 move blocks
pub moves_20 : (q : Request) → q.command ≡ 0x20 → moves_blocks q ≡ true
unfolding moves_blocks
moves_20 q is = rw is

pub moves_21 : (q : Request) → q.command ≡ 0x21 → moves_blocks q ≡ true
unfolding moves_blocks
moves_21 q is = rw is

-- one block alone
stored_one : (bytes : List ℕ) (place size block : ℕ) (memory : List ℕ)
    → blocks_stored bytes place size block 1 memory ≡ placed (block * size) (take size (drop place bytes)) memory
unfolding blocks_stored
stored_one bytes place size block memory = rw (add-zero, zero-mul, add-zero)

-- every command but 21
pub stored_nothing : (q : Request) (d : Card) (bytes memory : List ℕ) → eqb q.command 0x21 ≡ false → memory_after d bytes memory (effect_of q) ≡ memory
unfolding memory_after effect_of
stored_nothing q d bytes memory e = rw e (go (eqb q.command 0x22))
  where
    go : (b : Bool) → memory_after d bytes memory (cond b (Lock q.first) Leave) ≡ memory
    go true = refl
    go false = refl

-- d is the card after the request, of the shape of c
module _ (q : Request) (written : List ℕ) (c d : Card) (memory locks : List ℕ) (ready : Ready c memory locks) (same : moves_blocks q ≡ true → q.size ≡ c.size) (kept : Kept c d)
    (place : q.command ≡ 0x21 → take q.size (drop (body_at q + 1) (frame q written)) ≡ written) (of : data_fits q (length written) ≡ true) where
  pub stored_data : q.command ≡ 0x21 → memory_after d (frame q written) memory (effect_of q) ≡ placed (q.first * q.size) written memory
  unfolding memory_after effect_of
  stored_data is = rw (eq-eqb q.command 0x21 is, kept.size, ← (same (moves_21 q is))) (stored_one (frame q written) (body_at q + 1) q.size q.first memory ∙ ap (λ (s : List ℕ). placed (q.first * q.size) s memory) (place is))

  pub length_memory : is_outside c q ≡ false → length (memory_after d (frame q written) memory (effect_of q)) ≡ length memory
  length_memory inside = go (eqb q.command 0x21) refl
    where
      go : (b : Bool) → eqb q.command 0x21 ≡ b → length (memory_after d (frame q written) memory (effect_of q)) ≡ length memory
      go true e =
          let is : q.command ≡ 0x21 = eqb-true q.command 0x21 e in
          let first : suc q.first ≤ c.blocks = first_inside c q is inside in
          let all : suc q.first * q.size ≤ c.blocks * q.size = mul-le-mul_right q.size first in
          let stored : length memory ≡ c.blocks * q.size = rw (same (moves_21 q is)) ready.stored in
          let n : length written ≡ q.size = data_long q (length written) is of in
          rw (stored_data is) (length_placed (q.first * q.size) written memory (rw n (omega (arith, suc-mul q.first q.size))))
      go false e = ap length (stored_nothing q d (frame q written) memory e)

pub length_locks : (q : Request) (locks : List ℕ) → length (locks_after locks (effect_of q)) ≡ length locks
unfolding locks_after effect_of
length_locks q locks = go (eqb q.command 0x21) (eqb q.command 0x22)
  where
    go : (a b : Bool) → length (locks_after locks (cond a (Write q.first 1 (body_at q + 1)) (cond b (Lock q.first) Leave))) ≡ length locks
    go true b = refl
    go false true = length-set locks q.first 1
    go false false = refl
