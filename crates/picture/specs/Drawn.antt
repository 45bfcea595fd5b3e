-- The walk over the bench's cards as a person would draw it: a line a round, a sign a slot; then what the bench prints (01, Bench).
use Rattle.std.specs.Prelude.{ℕ, zero, suc, ◌+◌, ◌-◌, ◌*◌, ◌^◌, cond, not, ◌||◌, List, [], ◌∷◌, ◌++◌, ◌≡◌, leb, eqb, ℤ, pos, length, replicate}
use Rattle.lent.specs.Lent.{over, refused}
use Rattle.walk.specs.declared.Walk.{Walk}
use Rattle.walk.specs.Marks.{levels}
use Rattle.walk.specs.Record.{most_slots, whole_mask, twins, is_running}
use Rattle.row.specs.declared.Air.{Air}
use Rattle.row.specs.declared.Desk.{Desk}
use Rattle.row.specs.Row.{Played, still_air, row_air, slot_played, cards_of}
use Rattle.row.specs.Play.{fresh_desk, ended}
use Rattle.lines.specs.Input.{bad_line, uids}
use Rattle.digits.specs.Digits.{hex_digits}
use Rattle.digits.specs.Decimal.{decimal}
use Rattle.report.specs.Bench.{printed}

-- no card answers, one does, two or more do: . o #
unfoldable pub sign : Air → ℕ
sign air = cond (eqb air.answers 0) 0x2e (cond (eqb air.answers 1) 0x6f 0x23)

-- a round's number, in five places
unfoldable pub round_shown : ℕ → List ℕ
round_shown n = replicate (5 - length (decimal n)) 0x20 ++ decimal n

-- the UIDs that a round calls, in sixteen places: the mask's digits, and - for a digit that is free. The slot digit is the last that is free
unfoldable pub tail_shown : ℕ → ℕ → List ℕ
tail_shown level mask = replicate (16 - level) 0x2d ++ hex_digits level mask

-- what a round's line begins with
unfoldable pub line_head : Walk → List ℕ
line_head w = round_shown w.rounds ++ 0x20 ∷ tail_shown w.level (whole_mask w) ++ 0x20 ∷ []

-- what a slot adds: the head before slot 0, its sign, and the line's end after slot 15 or at an ending
unfoldable pub slot_drawn : Walk → Air → Walk → List ℕ
slot_drawn w air next =
    cond (eqb w.slot 0) (line_head w) [] ++ sign air ∷ cond (eqb w.slot 15 || not (is_running next)) (0x0a ∷ []) []

-- the slots that a walk still hears, of n at the most
unfoldable pub drawn_for : ℕ → Played → List ℕ
drawn_for zero p = []
drawn_for (suc n) p =
    let w : Walk = p.desk.walk in
    cond (is_running w)
    (slot_drawn w (row_air w still_air p.row) (slot_played p).desk.walk ++ drawn_for n (slot_played p))
    []

-- `round tail             0123456789ABCDEF`
unfoldable pub heading : List ℕ
heading =
    0x72 ∷ 0x6f ∷ 0x75 ∷ 0x6e ∷ 0x64 ∷ 0x20 ∷ 0x74 ∷ 0x61 ∷ 0x69 ∷ 0x6c ∷ 0x20 ∷ 0x20 ∷ 0x20 ∷ 0x20 ∷ 0x20 ∷ 0x20 ∷ 0x20 ∷ 0x20
    ∷ 0x20 ∷ 0x20 ∷ 0x20 ∷ 0x20 ∷ 0x20 ∷ 0x30 ∷ 0x31 ∷ 0x32 ∷ 0x33 ∷ 0x34 ∷ 0x35 ∷ 0x36 ∷ 0x37 ∷ 0x38 ∷ 0x39 ∷ 0x41 ∷ 0x42 ∷ 0x43
    ∷ 0x44 ∷ 0x45 ∷ 0x46 ∷ 0x0a ∷ []

-- the UID that two cards share, where the walk ended in twins. 02, W6: "a clash at mask length 34 is twins", so the slot digit stands above a mask of 13
-- digits, and E0 above both
unfoldable pub twins_uid : Walk → ℕ
twins_uid w = 0xe0 * 2 ^ 56 + w.slot * 2 ^ 52 + whole_mask w

-- its line, after the word twins
unfoldable pub twins_line : Desk → List ℕ
twins_line d =
    cond (eqb d.walk.ending twins)
    (0x74 ∷ 0x77 ∷ 0x69 ∷ 0x6e ∷ 0x73 ∷ 0x20 ∷ tail_shown 16 (twins_uid d.walk) ++ 0x0a ∷ [])
    []

unfoldable pub drawn : List ℕ → List ℕ
drawn us = heading ++ drawn_for (most_slots levels) (record { desk = fresh_desk; row = cards_of us }) ++ twins_line (ended us)

-- the whole: for a wrong line what the bench prints alone
unfoldable pub pictured : List ℕ → List ℕ
pictured input = cond (eqb (bad_line input) 0) (drawn (uids input)) [] ++ printed input

-- room for all that can be drawn and printed: 418 lines of 40 bytes (the heading and 417 rounds), the twins' line of 23, and the bench's 1200
unfoldable pub most_pictured : ℕ
most_pictured = 17943

-- what `picture` promises: the picture at the start of the room and its length, or number 8
unfoldable pub picture_answer : List ℕ → List ℕ → ℤ
picture_answer input room = cond (leb most_pictured (length room)) (pos (length (pictured input))) (refused 8)

unfoldable pub picture_leaves : List ℕ → List ℕ → List ℕ
picture_leaves input room = cond (leb most_pictured (length room)) (over (pictured input) room) room

pub record Pictures (input room : List ℕ) (r : ℤ) (left : List ℕ) : Type 0 where
  pub answer : r ≡ picture_answer input room
  pub leaves : left ≡ picture_leaves input room
