-- 01, Bench: what is printed for an input.
use Rattle.std.specs.Prelude.{ℕ, cond, List, ◌≡◌, leb, eqb, ℤ, pos, length}
use Rattle.lent.specs.Lent.{over, refused}
use Rattle.row.specs.Play.{ended}
use Rattle.lines.specs.Input.{bad_line, uids}
use Rattle.report.specs.Output.{report, complaint}

unfoldable pub printed : List ℕ → List ℕ
printed input = cond (eqb (bad_line input) 0) (report (ended (uids input))) (complaint (bad_line input))

-- room for all that can be printed
unfoldable pub most_printed : ℕ
most_printed = 1200

-- what `bench` promises: the printed bytes at the start of the room and their number, or number 8
unfoldable pub bench_answer : List ℕ → List ℕ → ℤ
bench_answer input room = cond (leb most_printed (length room)) (pos (length (printed input))) (refused 8)

unfoldable pub bench_leaves : List ℕ → List ℕ → List ℕ
bench_leaves input room = cond (leb most_printed (length room)) (over (printed input) room) room

pub record Prints (input room : List ℕ) (r : ℤ) (left : List ℕ) : Type 0 where
  pub answer : r ≡ bench_answer input room
  pub leaves : left ≡ bench_leaves input room
