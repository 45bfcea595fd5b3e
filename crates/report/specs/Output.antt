-- 01, Bench: what is printed, byte for byte.
use Rattle.std.specs.Prelude.{ℕ, cond, List, [], ◌∷◌, ◌++◌, eqb, take}
use Rattle.digits.specs.Digits.{hex_digits}
use Rattle.digits.specs.Decimal.{decimal}
use Rattle.walk.specs.declared.Walk.{Walk}
use Rattle.walk.specs.Record.{complete, twins, full}
use Rattle.row.specs.declared.Desk.{Desk}

-- "The words are complete, twins, full, overrun": ending 1, 2, 3, all else
unfoldable pub word : ℕ → List ℕ
word ending =
    cond (eqb ending complete) (0x63 ∷ 0x6f ∷ 0x6d ∷ 0x70 ∷ 0x6c ∷ 0x65 ∷ 0x74 ∷ 0x65 ∷ [])
    (cond (eqb ending twins) (0x74 ∷ 0x77 ∷ 0x69 ∷ 0x6e ∷ 0x73 ∷ [])
    (cond (eqb ending full) (0x66 ∷ 0x75 ∷ 0x6c ∷ 0x6c ∷ [])
    (0x6f ∷ 0x76 ∷ 0x65 ∷ 0x72 ∷ 0x72 ∷ 0x75 ∷ 0x6e ∷ [])))

-- a UID a line
unfoldable pub uid_lines : List ℕ → List ℕ
uid_lines [] = []
uid_lines (u ∷ us) = hex_digits 16 u ++ 0x0a ∷ uid_lines us

-- the lines `verdict`, `rounds` and `cards`
unfoldable pub verdict_line : ℕ → List ℕ
verdict_line ending = 0x76 ∷ 0x65 ∷ 0x72 ∷ 0x64 ∷ 0x69 ∷ 0x63 ∷ 0x74 ∷ 0x20 ∷ word ending

-- "cards is the list's length"
unfoldable pub heading : Walk → List ℕ
heading w =
    verdict_line w.ending
    ++ 0x0a ∷ 0x72 ∷ 0x6f ∷ 0x75 ∷ 0x6e ∷ 0x64 ∷ 0x73 ∷ 0x20 ∷ decimal w.rounds
    ++ 0x0a ∷ 0x63 ∷ 0x61 ∷ 0x72 ∷ 0x64 ∷ 0x73 ∷ 0x20 ∷ decimal w.count

-- "the UIDs follow in list order"
unfoldable pub report : Desk → List ℕ
report d = heading d.walk ++ 0x0a ∷ uid_lines (take d.walk.count d.list)

-- "prints only `bad line` and its number"
unfoldable pub complaint : ℕ → List ℕ
complaint n = 0x62 ∷ 0x61 ∷ 0x64 ∷ 0x20 ∷ 0x6c ∷ 0x69 ∷ 0x6e ∷ 0x65 ∷ 0x20 ∷ decimal n ++ 0x0a ∷ []
