-- 01, Bench: the lines of an input as they are read, byte by byte: what is kept of them, and how a byte changes it.
use Rattle.std.specs.Prelude.{ℕ, ◌+◌, ◌*◌, ◌%◌, ◌^◌, ◌≤◌, cond, ◌&&◌, List, [], ◌∷◌, ◌≡◌, ltb, eqb, set, take}
use Rattle.digits.specs.Digits.{digit_of}
use Rattle.lines.specs.declared.Lines.{Lines}
use Rattle.lines.specs.Input.{begins_e0, bad_line, uids}

-- "0 to 100 of them": room for 100
unfoldable pub no_lines : List ℕ
no_lines =
    0 ∷ 0 ∷ 0 ∷ 0 ∷ 0 ∷ 0 ∷ 0 ∷ 0 ∷ 0 ∷ 0 ∷ 0 ∷ 0 ∷ 0 ∷ 0 ∷ 0 ∷ 0 ∷ 0 ∷ 0 ∷ 0 ∷ 0
    ∷ 0 ∷ 0 ∷ 0 ∷ 0 ∷ 0 ∷ 0 ∷ 0 ∷ 0 ∷ 0 ∷ 0 ∷ 0 ∷ 0 ∷ 0 ∷ 0 ∷ 0 ∷ 0 ∷ 0 ∷ 0 ∷ 0 ∷ 0
    ∷ 0 ∷ 0 ∷ 0 ∷ 0 ∷ 0 ∷ 0 ∷ 0 ∷ 0 ∷ 0 ∷ 0 ∷ 0 ∷ 0 ∷ 0 ∷ 0 ∷ 0 ∷ 0 ∷ 0 ∷ 0 ∷ 0 ∷ 0
    ∷ 0 ∷ 0 ∷ 0 ∷ 0 ∷ 0 ∷ 0 ∷ 0 ∷ 0 ∷ 0 ∷ 0 ∷ 0 ∷ 0 ∷ 0 ∷ 0 ∷ 0 ∷ 0 ∷ 0 ∷ 0 ∷ 0 ∷ 0
    ∷ 0 ∷ 0 ∷ 0 ∷ 0 ∷ 0 ∷ 0 ∷ 0 ∷ 0 ∷ 0 ∷ 0 ∷ 0 ∷ 0 ∷ 0 ∷ 0 ∷ 0 ∷ 0 ∷ 0 ∷ 0 ∷ 0 ∷ 0
    ∷ []

-- before the first byte
unfoldable pub fresh_lines : Lines
fresh_lines = record { uids = no_lines; count = 0; digits = 0; number = 0; bad = 0 }

-- "The first wrong line, or line 101": the line that has begun
unfoldable pub wrong : Lines → Lines
wrong s = record { uids = s.uids; count = s.count; digits = s.digits; number = s.number; bad = s.count + 1 }

-- it is a UID
unfoldable pub listed : Lines → Lines
listed s = record { uids = set s.uids s.count s.number; count = s.count + 1; digits = 0; number = 0; bad = 0 }

-- a digit more, the first the highest
unfoldable pub pushed : Lines → ℕ → Lines
pushed s d =
    record { uids = s.uids; count = s.count; digits = s.digits + 1; number = s.number * 2 ^ 4 % 2 ^ 64 + d; bad = 0 }

-- a byte more in the line
unfoldable pub longer : Lines → ℕ → Lines
longer s b = cond (ltb s.count 100 && (ltb s.digits 16 && ltb (digit_of b) 16)) (pushed s (digit_of b)) (wrong s)

-- the line ends
unfoldable pub line_ended : Lines → Lines
line_ended s = cond (ltb s.count 100 && (eqb s.digits 16 && begins_e0 s.number)) (listed s) (wrong s)

-- "A line ends with the byte 0A"
unfoldable pub stepped : Lines → ℕ → Lines
stepped s b = cond (eqb b 0x0a) (line_ended s) (longer s b)

-- "which the last may lack"
unfoldable pub closed : Lines → Lines
closed s = cond (eqb s.bad 0) (cond (eqb s.digits 0) s (line_ended s)) s

-- what is left of an input, up to the first wrong line: `read` promises this of a whole input, from `fresh_lines` on
unfoldable pub read_from : Lines → List ℕ → Lines
read_from s [] = closed s
read_from s (b ∷ bs) = cond (eqb s.bad 0) (read_from (stepped s b) bs) s

-- what that is: the first wrong line of the input; where there is none, its UIDs, 100 at the most
pub record Reads (input : List ℕ) (r : Lines) : Type 0 where
  pub bad : r.bad ≡ bad_line input
  pub count : r.count ≤ 100
  pub listed : r.bad ≡ 0 → take r.count r.uids ≡ uids input
