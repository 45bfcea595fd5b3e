-- Steps of private functions: nothing here has to be held against the rules page.
-- The manual page, Output: what is read of an answer as a line of text.
use Rattle.std.specs.Prelude.{ℕ, cond, List, [], ◌∷◌, ◌++◌, take, ◌==◌, Result, Ok, Err}
use Rattle.refusals.specs.declared.Refusal.{Refusal}
use Rattle.digits.specs.Digits.{hex_digits}
use Rattle.digits.specs.Rows.{row_text}
use Rattle.reader.specs.declared.Information.{Information}
use Rattle.reader.specs.declared.Reading.{Reading}
use Rattle.reader.specs.declared.Reading.TheVariants.{Error, Done, Blocks, Locks, System}
use Rattle.player.specs.Record.{pair_text}

-- a name and so many digits of a number
abbrev pub digits_text : List ℕ → ℕ → ℕ → List ℕ
digits_text name count n = name ++ hex_digits count n

-- `, blocks` and `, size`, each with its digits
unfoldable pub shape_text : ℕ → ℕ → List ℕ
shape_text blocks size = digits_text (0x2c ∷ 0x20 ∷ 0x62 ∷ 0x6c ∷ 0x6f ∷ 0x63 ∷ 0x6b ∷ 0x73 ∷ 0x20 ∷ []) 4 blocks ++ digits_text (0x2c ∷ 0x20 ∷ 0x73 ∷ 0x69 ∷ 0x7a ∷ 0x65 ∷ 0x20 ∷ []) 2 size

-- `information UID`, `, DSFID`, `, AFI`, the shape and `, IC`, each with its digits
unfoldable pub information_text : Information → List ℕ
information_text i =
    digits_text (0x0a ∷ 0x69 ∷ 0x6e ∷ 0x66 ∷ 0x6f ∷ 0x72 ∷ 0x6d ∷ 0x61 ∷ 0x74 ∷ 0x69 ∷ 0x6f ∷ 0x6e ∷ 0x20 ∷ 0x55 ∷ 0x49 ∷ 0x44 ∷ 0x20 ∷ []) 16 i.uid
    ++ pair_text (0x2c ∷ 0x20 ∷ 0x44 ∷ 0x53 ∷ 0x46 ∷ 0x49 ∷ 0x44 ∷ []) i.dsfid
    ++ pair_text (0x2c ∷ 0x20 ∷ 0x41 ∷ 0x46 ∷ 0x49 ∷ []) i.afi
    ++ shape_text i.blocks i.size
    ++ pair_text (0x2c ∷ 0x20 ∷ 0x49 ∷ 0x43 ∷ []) i.ic_reference

-- the first n bytes
abbrev pub first_text : List ℕ → ℕ → List ℕ → List ℕ
first_text name n bytes = name ++ row_text (take n bytes)

-- `, lock bytes` and their pairs, where any are asked for
unfoldable pub lock_text : ℕ → List ℕ → List ℕ
lock_text asked locks = cond (asked == 0) [] (first_text (0x2c ∷ 0x20 ∷ 0x6c ∷ 0x6f ∷ 0x63 ∷ 0x6b ∷ 0x20 ∷ 0x62 ∷ 0x79 ∷ 0x74 ∷ 0x65 ∷ 0x73 ∷ []) asked locks)

-- `blocks` and their pairs
unfoldable pub blocks_text : ℕ → List ℕ → ℕ → List ℕ → List ℕ
blocks_text n blocks asked locks = first_text (0x0a ∷ 0x62 ∷ 0x6c ∷ 0x6f ∷ 0x63 ∷ 0x6b ∷ 0x73 ∷ []) n blocks ++ lock_text asked locks

-- `not read`, `error` and the code's pair, `done`, the blocks, `lock bytes` and their pairs, or the information
unfoldable pub reading_text : Result Reading Refusal → List ℕ → ℕ → List ℕ → List ℕ
reading_text (Err refusal) blocks asked locks = 0x0a ∷ 0x6e ∷ 0x6f ∷ 0x74 ∷ 0x20 ∷ 0x72 ∷ 0x65 ∷ 0x61 ∷ 0x64 ∷ []
reading_text (Ok (Error code)) blocks asked locks = pair_text (0x0a ∷ 0x65 ∷ 0x72 ∷ 0x72 ∷ 0x6f ∷ 0x72 ∷ []) code
reading_text (Ok Done) blocks asked locks = 0x0a ∷ 0x64 ∷ 0x6f ∷ 0x6e ∷ 0x65 ∷ []
reading_text (Ok (Blocks n)) blocks asked locks = blocks_text n blocks asked locks
reading_text (Ok (Locks n)) blocks asked locks = first_text (0x0a ∷ 0x6c ∷ 0x6f ∷ 0x63 ∷ 0x6b ∷ 0x20 ∷ 0x62 ∷ 0x79 ∷ 0x74 ∷ 0x65 ∷ 0x73 ∷ []) n locks
reading_text (Ok (System i)) blocks asked locks = information_text i
