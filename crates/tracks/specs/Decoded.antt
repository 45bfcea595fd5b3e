-- 01, Form by location: "a number back for length or refusal": which number tells what the decoder gives.
use Rattle.std.specs.Prelude.{◌≤◌, ◌<◌, ℤ, Result, Ok, Err, ℕ, List, IfOk}
use Rattle.lent.specs.Lent.{refused}
use Rattle.frames.specs.Frame.{longest}
use Rattle.refusals.specs.declared.Refusal.{Refusal}
use Rattle.refusals.specs.Number.{number}
use Rattle.tracks.specs.declared.decoder.Decoded.{Decoded}
use Rattle.tracks.specs.declared.decoder.Decoded.TheVariants.{Frame, SlotMark}
use Rattle.tracks.specs.Decoder.{told, Decodes}

unfoldable pub decoded_back : Result Decoded Refusal → ℤ
decoded_back (Ok (Frame coding length)) = told coding length
decoded_back (Ok SlotMark) = told 2 0
decoded_back (Err refusal) = refused (number refusal)

-- a frame is in a coding that there is and no longer than the longest: so no two results are told by one number
abbrev pub IsKnown : Decoded → Type 0
IsKnown (Frame coding length) = (coding < 2) × (length ≤ longest)
IsKnown SlotMark = Unit {0}

-- what `decode` promises: what C is told of its result, the frame buffer that it leaves, and that what it found is known
pub record DecodesTo (t found : List ℕ) (r : Result Decoded Refusal) (left : List ℕ) : Type 0 where
  pub told : Decodes t found (decoded_back r) left
  pub known : IfOk r IsKnown
