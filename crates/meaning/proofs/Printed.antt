-- What is printed for an input with no wrong line is the report that demand 3 speaks of: its UIDs begin with E0. By induction over the UIDs.
-- Assumes nothing.
use mathlib.Core.Path.{◌≡◌}
use mathlib.Core.List.{List, [], ◌∷◌}
use Prim.Native.Nat.{ℕ, suc, ◌/◌, ◌^◌, ◌<◌}
use native.Mathlib.Omega.{arith}
use borrow.Author.Tests.{eq-eqb}
use lib.ListN.{length, get_or}
use Rattle.field.specs.Found.{BeginE0}
use Rattle.field.proofs.Suited.{begin_none, begin_more}
use Rattle.row.specs.Play.{ended}
use Rattle.lines.specs.Input.{bad_line, uids}
use Rattle.lines.proofs.UidsBegin.{input_uids_begin}
use Rattle.report.specs.Output.{report}
use Rattle.report.specs.Bench.{printed}
use Rattle.meaning.specs.Bench.{Meaning, MeaningAlways}
use Rattle.meaning.proofs.Bench.{bench_meets_demand3}

-- where the UID at each place begins with E0 all do
places_begin : (us : List ℕ) → ((i : ℕ) → i < length us → get_or us i 0 / 2 ^ 56 ≡ 0xe0) → BeginE0 us
places_begin [] h = begin_none
places_begin (u ∷ us) h = begin_more u us (h 0 (omega arith)) (places_begin us (λ i g. h (suc i) (omega arith)))

pub input_begins : (input : List ℕ) → bad_line input ≡ 0 → BeginE0 (uids input)
input_begins input e = places_begin (uids input) (input_uids_begin input e)

pub printed_meets_demand3 : (input : List ℕ) → bad_line input ≡ 0
    → (printed input ≡ report (ended (uids input))) × Meaning (uids input) (ended (uids input))
unfolding printed MeaningAlways
printed_meets_demand3 input e = (rw (eq-eqb (bad_line input) 0 e), bench_meets_demand3 (uids input) (input_begins input e))
