-- How long the pieces are: a line's head has 23 bytes, what a slot adds 25 at the most, the twins' line 23.
-- By the definitions. Assumes nothing.
use mathlib.Core.Path.{◌≡◌, refl}
use mathlib.Core.Bool.{Bool, true, false, cond}
use Prim.Native.Nat.{ℕ, ◌≤◌, ◌<◌}
use native.Mathlib.Omega.{arith}
use mathlib.Core.List.{[], ◌∷◌, ◌++◌}
use lib.Dec.{eqb}
use lib.ListN.{length, length-append, length-replicate}
use Rattle.walk.specs.declared.Walk.{Walk}
use Rattle.walk.specs.Record.{most_rounds, whole_mask}
use Rattle.walk.proofs.Limits.{Accepted}
use Rattle.row.specs.declared.Desk.{Desk}
use Rattle.digits.proofs.Decimal.{length_decimal}
use Rattle.report.proofs.Lengths.{length_either}
use Rattle.picture.specs.Drawn.{round_shown, tail_shown, line_head, twins_uid, twins_line}
use Rattle.picture.proofs.Pieces.{length_tail}

pub length_round : (n : ℕ) → n < 1000 → length (round_shown n) ≡ 5
unfolding round_shown
length_round n h = rw (length-append, length-replicate) (omega (arith, length_decimal 2 n h))

-- the numbers of an accepted walk of fourteen levels at the most
pub record Within (w : Walk) : Type 0 where
  pub level : w.level < 14
  pub slot : w.slot ≤ 15
  pub rounds : w.rounds ≤ 417

pub within_accepted : {w : Walk} → Accepted w → length w.marks ≤ 14 → Within w
unfolding most_rounds
within_accepted a few = record { level = omega (arith, a.level, few); slot = a.slot; rounds = omega (arith, a.last_round, few) }

pub length_head : (w : Walk) → Within w → length (line_head w) ≡ 23
unfolding line_head
length_head w a =
    let digits : length (tail_shown w.level (whole_mask w)) ≡ 16 = length_tail w.level (whole_mask w) (omega (arith, a.level)) in
    rw (length-append, length-append, length_round w.rounds (omega (arith, a.rounds)), digits) refl

-- before slot 0
pub head_most : (w : Walk) → Within w → length (cond (eqb w.slot 0) (line_head w) []) ≤ 23
head_most w a = length_either (eqb w.slot 0) (line_head w) [] 23 (omega (arith, length_head w a)) (omega arith)

pub sign_most : (a : ℕ) (ends : Bool) → length (a ∷ cond ends (0x0a ∷ []) []) ≤ 2
sign_most a true = omega arith
sign_most a false = omega arith

pub length_twins : (d : Desk) → length (twins_line d) ≤ 23
unfolding twins_line
length_twins d =
    let uid : ℕ = twins_uid d.walk in
    let digits : length (tail_shown 16 uid) ≡ 16 = length_tail 16 uid (omega arith) in
    let line : length (tail_shown 16 uid ++ 0x0a ∷ []) ≡ 17 = rw (length-append, digits) in
    length_either (eqb d.walk.ending 2) _ [] 23 (omega arith) (omega arith)
