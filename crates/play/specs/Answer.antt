-- 01, The card: the bytes of each answer, without the check.
use Rattle.std.specs.Prelude.{ℕ, zero, suc, ◌+◌, ◌-◌, ◌*◌, Bool, cond, List, [], ◌∷◌, ◌++◌, take, drop, get_or}
use Rattle.frames.specs.Field.{field_bytes}
use Rattle.card.specs.declared.Card.{Card}
use Rattle.card.specs.declared.Reply.{Reply}
use Rattle.card.specs.declared.Reply.TheVariants.{Silence, Error, Done, Present, Blocks, Status, Information}

-- the bytes of a block
unfoldable pub block_of : List ℕ → ℕ → ℕ → List ℕ
block_of memory size block = take size (drop (block * size) memory)

-- 20: "block; Option puts its lock byte first"
unfoldable pub block_read : List ℕ → List ℕ → ℕ → Bool → ℕ → List ℕ
block_read memory locks size option block = cond option (get_or locks block 0 ∷ []) [] ++ block_of memory size block

-- 23: "n+1 blocks, each as 20", so many from the first on
unfoldable pub blocks_read : List ℕ → List ℕ → ℕ → Bool → ℕ → ℕ → List ℕ
blocks_read memory locks size option first zero = []
blocks_read memory locks size option first (suc n) =
    blocks_read memory locks size option first n ++ block_read memory locks size option (first + n)

-- 2C: "n+1 lock bytes", so many from the first on
unfoldable pub locks_read : List ℕ → ℕ → ℕ → List ℕ
locks_read locks first n = take n (drop first locks)

-- 2B: "0F, UID, DSFID, AFI, blocks less 1, block size less 1, IC reference"
unfoldable pub information : Card → List ℕ
information c = (0x0f ∷ field_bytes 8 c.uid) ++ c.dsfid ∷ c.afi ∷ (c.blocks - 1) ∷ (c.size - 1) ∷ c.ic_reference ∷ []

-- step 3: "Answer: 00, DSFID, UID, check."
unfoldable pub presence : Card → List ℕ
presence c = c.dsfid ∷ field_bytes 8 c.uid

-- each reply: "error answers (01, code, check)", the table's "answer after 00"; silence has no byte
unfoldable pub reply_bytes : Card → List ℕ → List ℕ → Reply → List ℕ
reply_bytes c memory locks Silence = []
reply_bytes c memory locks (Error code) = 0x01 ∷ code ∷ []
reply_bytes c memory locks Done = 0x00 ∷ []
reply_bytes c memory locks Present = 0x00 ∷ presence c
reply_bytes c memory locks (Blocks first n option) = 0x00 ∷ blocks_read memory locks c.size option first n
reply_bytes c memory locks (Status first n) = 0x00 ∷ locks_read locks first n
reply_bytes c memory locks Information = 0x00 ∷ information c
