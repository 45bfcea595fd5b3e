-- From C an answer that shows no data, an error's or one that is refused, shows nothing: both buffers stay as they were, and the information is all zeros.
-- By what reading makes of it. Assumes nothing.
use mathlib.Core.Path.{◌≡◌, refl, sym, ◌∙◌}
use mathlib.Core.Bool.{false, false≢true}
use mathlib.Core.List.{List}
use Prim.Native.Nat.{ℕ}
use Rattle.std.specs.Prelude.{Option, None, Some}
use Rattle.reader.specs.declared.Request.{Request}
use Rattle.reader.specs.declared.Reading.{Reading}
use Rattle.reader.specs.declared.Reading.TheVariants.{Error, Done, Blocks, Locks, System}
use Rattle.reader.specs.Reading.{reading, shows_data}
use Rattle.reader.proofs.Errors.{nothing_left}
use Rattle.board.specs.declared.answers.Shown.{Shown}
use Rattle.board.specs.Answers.{no_information, information_of, ReadsByValue}

no_information_lem : (r : Option Reading) → shows_data r ≡ false → information_of r ≡ no_information
unfolding shows_data information_of
no_information_lem None none = refl
no_information_lem (Some (Error code)) none = refl
no_information_lem (Some Done) none = refl
no_information_lem (Some (Blocks n)) none = refl
no_information_lem (Some (Locks n)) none = refl
no_information_lem (Some (System information)) none = absurd (false≢true (sym none))

pub error_shows_c_nothing : (q : Request) (answer blocks locks : List ℕ) (r : Shown) (blocks' locks' : List ℕ)
    → ReadsByValue (reading q answer blocks locks) r blocks' locks' → shows_data (reading q answer blocks locks).reading ≡ false
    → (r.information ≡ no_information) × (blocks' ≡ blocks) × (locks' ≡ locks)
error_shows_c_nothing q answer blocks locks r blocks' locks' p none =
    let o = reading q answer blocks locks in
    let kept = nothing_left q answer blocks locks none in
    (p.information ∙ no_information_lem o.reading none, p.blocks_left ∙ kept.0, p.locks_left ∙ kept.1)
