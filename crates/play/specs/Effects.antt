-- 01, The card, the table: what a frame does to memory and to the lock bytes.
use Rattle.std.specs.Prelude.{ℕ, zero, suc, ◌+◌, ◌*◌, List, take, drop, set}
use Rattle.lent.specs.Lent.{placed}
use Rattle.card.specs.declared.Card.{Card}
use Rattle.commands.specs.declared.Effect.{Effect}
use Rattle.commands.specs.declared.Effect.TheVariants.{Leave, Write, Lock}

-- 21: "write", so many blocks from the first on, one after another; their data stand in the frame from a place on, for each as many bytes as
-- a block has
unfoldable pub blocks_stored : List ℕ → ℕ → ℕ → ℕ → ℕ → List ℕ → List ℕ
blocks_stored frame place size first zero memory = memory
blocks_stored frame place size first (suc n) memory =
    placed ((first + n) * size) (take size (drop (place + n * size) frame)) (blocks_stored frame place size first n memory)

-- each effect on memory
unfoldable pub memory_after : Card → List ℕ → List ℕ → Effect → List ℕ
memory_after c frame memory Leave = memory
memory_after c frame memory (Write first n place) = blocks_stored frame place c.size first n memory
memory_after c frame memory (Lock block) = memory

-- 22: "lock", the block's lock byte is 1
unfoldable pub locks_after : List ℕ → Effect → List ℕ
locks_after locks Leave = locks
locks_after locks (Write first n place) = locks
locks_after locks (Lock block) = set locks block 1
