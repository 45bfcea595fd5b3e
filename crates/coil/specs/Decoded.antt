-- 02, W3: which number tells what the decoder gives.
use Rattle.std.specs.Prelude.{◌<◌, ℤ, Result, Ok, Err, ℕ, List, IfOk}
use Rattle.lent.specs.Lent.{refused}
use Rattle.refusals.specs.declared.Refusal.{Refusal}
use Rattle.refusals.specs.Number.{number}
use Rattle.coil.specs.declared.decoder.Decoded.{Decoded}
use Rattle.coil.specs.declared.decoder.Decoded.TheVariants.{Answer, Clash, Lost}
use Rattle.coil.specs.Decoder.{told, DecodesAnswer}

unfoldable pub decoded_back : Result Decoded Refusal → ℤ
decoded_back (Ok (Answer length)) = told 0 length
decoded_back (Ok (Clash place)) = told 1 place
decoded_back (Ok (Lost place)) = told 2 place
decoded_back (Err refusal) = refused (number refusal)

-- a length, and a place, is below 131,072: so no two results are told by one number
abbrev pub IsKnown : Decoded → Type 0
IsKnown (Answer length) = length < 131072
IsKnown (Clash place) = place < 131072
IsKnown (Lost place) = place < 131072

-- what `decode` promises: what C is told of its result, the answer buffer that it leaves, and that what it found is known
pub record DecodesAnswerTo (t found : List ℕ) (r : Result Decoded Refusal) (left : List ℕ) : Type 0 where
  pub told : DecodesAnswer t found (decoded_back r) left
  pub known : IfOk r IsKnown
