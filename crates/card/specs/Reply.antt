-- 01, The card: how long each answer is, with flags and check.
use Rattle.std.specs.Prelude.{ℕ, ◌+◌, ◌*◌, Bool, true, false}
use Rattle.card.specs.declared.Card.{Card}
use Rattle.card.specs.declared.Reply.{Reply}
use Rattle.card.specs.declared.Reply.TheVariants.{Silence, Error, Done, Present, Blocks, Status, Information}

-- 20: "block; Option puts its lock byte first": how many bytes stand before those of a block
unfoldable pub lead : Bool → ℕ
lead true = 1
lead false = 0

-- flags, what the table says, and check; silence has no byte
unfoldable pub reply_length : Card → Reply → ℕ
reply_length c Silence = 0
-- step 6: "error answers (01, code, check)"
reply_length c (Error code) = 4
reply_length c Done = 3
-- step 3: "Answer: 00, DSFID, UID, check."
reply_length c Present = 12
-- 23: "n+1 blocks, each as 20", so many
reply_length c (Blocks first n option) = 3 + n * (c.size + lead option)
-- 2C: "n+1 lock bytes", so many
reply_length c (Status first n) = 3 + n
-- 2B: "0F, UID, DSFID, AFI, blocks less 1, block size less 1, IC reference"
reply_length c Information = 17
