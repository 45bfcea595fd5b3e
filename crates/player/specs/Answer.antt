-- Steps of private functions: nothing here has to be held against the rules page.
-- The manual page, Output: an answer as a line of text.
use Rattle.std.specs.Prelude.{ℕ, List, [], ◌∷◌, ◌++◌, Result, Ok, Err}
use Rattle.std.proofs.Common.{Bor}
use Rattle.refusals.specs.declared.Refusal.{Refusal}
use Rattle.refusals.specs.Number.{number}
use Rattle.digits.specs.Digits.{digit, hex_digits}
use Rattle.digits.specs.Rows.{row_text}

-- "pairs of digits separated by single spaces", on the next line
unfoldable pub pairs_text : List ℕ → List ℕ
pairs_text [] = 0x0a ∷ []
pairs_text (b ∷ bs) = (0x0a ∷ hex_digits 2 b) ++ row_text bs

-- `refused` "and the number of the refusal": it has one digit
unfoldable pub refused_text : ℕ → List ℕ
refused_text number = (0x0a ∷ 0x72 ∷ 0x65 ∷ 0x66 ∷ 0x75 ∷ 0x73 ∷ 0x65 ∷ 0x64 ∷ 0x20 ∷ []) ++ digit number ∷ []

-- `silence`: an answer of no bytes
abbrev pub silence_text : List ℕ
silence_text = 0x0a ∷ 0x73 ∷ 0x69 ∷ 0x6c ∷ 0x65 ∷ 0x6e ∷ 0x63 ∷ 0x65 ∷ []

unfoldable pub heard_text : List ℕ → List ℕ
heard_text [] = silence_text
heard_text (b ∷ bs) = pairs_text (b ∷ bs)

-- what came of an event: its answer, or the number of its refusal
unfoldable pub answer_text : Result (Bor (List ℕ)) Refusal → List ℕ
answer_text (Ok answer) = heard_text answer.now
answer_text (Err refusal) = refused_text (number refusal)
