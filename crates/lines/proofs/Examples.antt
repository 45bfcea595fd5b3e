-- 01's bench field: the page's three lines are read as its three UIDs, with and without the last 0A. By working them out. Assumes nothing.
use mathlib.Core.Path.{◌≡◌, refl}
use Prim.Native.Nat.{ℕ}
use mathlib.Core.List.{List, [], ◌∷◌, ◌++◌}
use Rattle.digits.specs.Digits.{digit_of}
use Rattle.lines.specs.Input.{lines_from, lines, all_digits, number_from, uid_of, begins_e0, is_uid, bad_from, bad_line, uids_of, uids}
use Rattle.lines.specs.Examples.{three_lines}

abbrev pub three_uids : List ℕ
three_uids = 0xe004010000000011 ∷ 0xe004010000000021 ∷ 0xe004010000000005 ∷ []

-- an input that is read as these
pub record ThreeRead (input : List ℕ) : Type 0 where
  pub fine : bad_line input ≡ 0
  pub same : uids input ≡ three_uids

pub three_read : ThreeRead three_lines
unfolding bad_line uids lines lines_from bad_from is_uid all_digits digit_of begins_e0 uids_of uid_of number_from
three_read = record { fine = refl; same = refl }

-- "the byte 0A, which the last may lack"
pub three_read_ended : ThreeRead (three_lines ++ 0x0a ∷ [])
unfolding bad_line uids lines lines_from bad_from is_uid all_digits digit_of begins_e0 uids_of uid_of number_from
three_read_ended = record { fine = refl; same = refl }
