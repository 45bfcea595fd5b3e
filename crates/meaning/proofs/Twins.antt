-- The picture's line of twins shows a UID that two or more of the cards have. By what demand 3 says of the ending: mask and slot tell the last fourteen
-- digits of such a UID, and above them stands E0. Assumes nothing.
use mathlib.Core.Path.{◌≡◌, ap, ◌∙◌}
use Prim.Native.Nat.{ℕ, ◌/◌, ◌^◌}
use native.Mathlib.Omega.{arith}
use mathlib.Core.List.{List, [], ◌∷◌, ◌++◌}
use borrow.Author.Tests.{eq-eqb}
use Rattle.digits.specs.Digits.{hex_digits}
use Rattle.walk.specs.declared.Walk.{Walk}
use Rattle.field.specs.Found.{BeginE0, Twins}
use Rattle.row.specs.declared.Desk.{Desk}
use Rattle.row.specs.Play.{ended}
use Rattle.picture.specs.Drawn.{tail_shown, twins_uid, twins_line}
use Rattle.meaning.specs.Bench.{Meaning, MeaningAlways, TwinsNamed}
use Rattle.meaning.proofs.Bench.{bench_meets_demand3}

abbrev shown : ℕ → List ℕ
shown uid = 0x74 ∷ 0x77 ∷ 0x69 ∷ 0x6e ∷ 0x73 ∷ 0x20 ∷ hex_digits 16 uid ++ 0x0a ∷ []

twins_line_lem : (d : Desk) → d.walk.ending ≡ 2 → twins_line d ≡ shown (twins_uid d.walk)
unfolding twins_line tail_shown
twins_line_lem d e = rw (eq-eqb d.walk.ending 2 e)

pub twins_named : TwinsNamed
unfolding TwinsNamed MeaningAlways Meaning BeginE0 twins_uid
twins_named us begin e =
    let w : Walk = (ended us).walk in
    let alike : Twins 13 us w = (bench_meets_demand3 us begin).twins_alike e in
    let first : alike.uid / 2 ^ 56 ≡ 0xe0 = begin alike.uid (omega (arith, alike.twice)) in
    let same : twins_uid w ≡ alike.uid = omega (arith, first, alike.told) in
    record { uid = alike.uid; twice = alike.twice; line = twins_line_lem (ended us) e ∙ ap shown same }
