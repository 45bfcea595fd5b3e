-- What C is told of an answer, way by way: a refusal, or what was read; and what that makes of what reading promises. By the one test of the definition. Assumes nothing.
use mathlib.Core.Path.{◌≡◌, ap, ◌∙◌}
use mathlib.Core.List.{List}
use Prim.Native.Nat.{ℕ}
use borrow.Author.Tests.{ne_eqb}
use Rattle.lent.specs.Lent.{refused}
use Rattle.reader.specs.declared.Reading.{Reading}
use Rattle.std.specs.Prelude.{None, Result}
use Rattle.std.specs.Result.{result_ok}
use Rattle.refusals.specs.declared.Refusal.{Refusal}
use Rattle.refusals.specs.Number.{number, number_of}
use Rattle.refusals.proofs.Numbers.{number_is_some}
use Rattle.reader.specs.Reading.{Outcome, Reads}
use Rattle.board.specs.declared.answers.Shown.{Shown}
use Rattle.board.specs.Answers.{information_of, read_answer, ReadsByValue}

pub reads_by_value : (o : Outcome) (t : Result Reading Refusal) (r : Shown) (blocks locks : List ℕ) → Reads o t blocks locks
    → r.answer ≡ read_answer (number_of t) (result_ok t) → r.information ≡ information_of (result_ok t) → ReadsByValue o r blocks locks
reads_by_value o t r blocks locks p a i =
    record {
      answer = a ∙ rw (p.number, p.reading);
      information = i ∙ ap information_of p.reading;
      blocks_left = p.blocks_left;
      locks_left = p.locks_left;
    }

-- a refusal is told, and nothing was read
pub refused_answer : (why : Refusal) → refused (number why) ≡ read_answer (number why) None
unfolding read_answer
refused_answer why = rw (ne_eqb (number why) 0 (number_is_some why))
