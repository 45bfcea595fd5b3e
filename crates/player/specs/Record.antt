-- Steps of private functions: nothing here has to be held against the rules page.
-- The manual page, Output: the record of a card as a line of text.
use Rattle.std.specs.Prelude.{ℕ, Bool, cond, List, [], ◌∷◌, ◌++◌}
use Rattle.card.specs.declared.Card.{Card}
use Rattle.card.specs.declared.Mode.{Mode}
use Rattle.card.specs.declared.Mode.TheVariants.{Ready, Quiet, Selected}
use Rattle.card.specs.declared.Sequence.{Sequence}
use Rattle.card.specs.declared.Sequence.TheVariants.{Idle, Running}
use Rattle.card.specs.declared.Held.{Held}
use Rattle.card.specs.declared.Held.TheVariants.{Free, Success, Code}
use Rattle.frames.specs.Field.{field_bytes}
use Rattle.digits.specs.Rows.{row_text}

-- a name and the pair for a byte
abbrev pub pair_text : List ℕ → ℕ → List ℕ
pair_text name b = name ++ row_text (b ∷ [])

-- "Ready, Quiet or Selected": `  mode Ready`, `  mode Quiet` or `  mode Selected`, on the next line
unfoldable pub mode_text : Mode → List ℕ
mode_text Ready = 0x0a ∷ 0x20 ∷ 0x20 ∷ 0x6d ∷ 0x6f ∷ 0x64 ∷ 0x65 ∷ 0x20 ∷ 0x52 ∷ 0x65 ∷ 0x61 ∷ 0x64 ∷ 0x79 ∷ []
mode_text Quiet = 0x0a ∷ 0x20 ∷ 0x20 ∷ 0x6d ∷ 0x6f ∷ 0x64 ∷ 0x65 ∷ 0x20 ∷ 0x51 ∷ 0x75 ∷ 0x69 ∷ 0x65 ∷ 0x74 ∷ []
mode_text Selected = 0x0a ∷ 0x20 ∷ 0x20 ∷ 0x6d ∷ 0x6f ∷ 0x64 ∷ 0x65 ∷ 0x20 ∷ 0x53 ∷ 0x65 ∷ 0x6c ∷ 0x65 ∷ 0x63 ∷ 0x74 ∷ 0x65 ∷ 0x64 ∷ []

-- "the mask as eight bytes, the least significant first": `, mask` and its pairs
unfoldable pub mask_text : ℕ → List ℕ
mask_text mask = (0x2c ∷ 0x20 ∷ 0x6d ∷ 0x61 ∷ 0x73 ∷ 0x6b ∷ []) ++ row_text (field_bytes 8 mask)

-- `, slot`, `, mask length` and `, mask`, each with its pairs
unfoldable pub running_text : ℕ → ℕ → ℕ → List ℕ
running_text slot n mask =
    pair_text (0x2c ∷ 0x20 ∷ 0x73 ∷ 0x6c ∷ 0x6f ∷ 0x74 ∷ []) slot
    ++ pair_text (0x2c ∷ 0x20 ∷ 0x6d ∷ 0x61 ∷ 0x73 ∷ 0x6b ∷ 0x20 ∷ 0x6c ∷ 0x65 ∷ 0x6e ∷ 0x67 ∷ 0x74 ∷ 0x68 ∷ []) n
    ++ mask_text mask

-- "If a sequence runs"
unfoldable pub sequence_text : Sequence → List ℕ
sequence_text Idle = []
sequence_text (Running slot n mask) = running_text slot n mask

-- "If an answer is held": `, held success`, or `, held error` and its pair
unfoldable pub held_text : Held → List ℕ
held_text Free = []
held_text Success = 0x2c ∷ 0x20 ∷ 0x68 ∷ 0x65 ∷ 0x6c ∷ 0x64 ∷ 0x20 ∷ 0x73 ∷ 0x75 ∷ 0x63 ∷ 0x63 ∷ 0x65 ∷ 0x73 ∷ 0x73 ∷ []
held_text (Code code) = pair_text (0x2c ∷ 0x20 ∷ 0x68 ∷ 0x65 ∷ 0x6c ∷ 0x64 ∷ 0x20 ∷ 0x65 ∷ 0x72 ∷ 0x72 ∷ 0x6f ∷ 0x72 ∷ []) code

-- a name and a pair, "Each followed by locked if it is."
unfoldable pub kept_text : List ℕ → ℕ → Bool → List ℕ
kept_text name b isLocked = cond isLocked (pair_text name b ++ (0x20 ∷ 0x6c ∷ 0x6f ∷ 0x63 ∷ 0x6b ∷ 0x65 ∷ 0x64 ∷ [])) (pair_text name b)

-- the parts one after another, `, AFI` and `, DSFID` the last
unfoldable pub record_text : Card → List ℕ
record_text c =
    mode_text c.mode
    ++ sequence_text c.sequence
    ++ held_text c.held
    ++ kept_text (0x2c ∷ 0x20 ∷ 0x41 ∷ 0x46 ∷ 0x49 ∷ []) c.afi c.afi_locked
    ++ kept_text (0x2c ∷ 0x20 ∷ 0x44 ∷ 0x53 ∷ 0x46 ∷ 0x49 ∷ 0x44 ∷ []) c.dsfid c.dsfid_locked
