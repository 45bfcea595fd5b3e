-- The card's table, for a request whose body stands in the frame as it was made: each command decides the deed that the request asks.
-- Command by command, with one law for those that answer at once and one for those that may hold their answer. Assumes nothing.
use mathlib.Core.Path.{◌≡◌, refl, ◌∙◌}
use mathlib.Core.Bool.{Bool, true, false, cond, not, ◌&&◌, or-false}
use mathlib.Core.List.{List, ◌∷◌, ◌++◌}
use Prim.Native.Nat.{ℕ, ◌+◌, ◌<◌}
use native.Mathlib.Nat.{add-zero}
use native.Mathlib.Decide.{dec_lt}
use native.Mathlib.Omega.{arith}
use borrow.Author.Tests.{lt-ltb, le-ltb, le-leb, lt-leb}
use lib.Dec.{leb, ltb, eqb}
use lib.ListN.{drop, get_or}
use lib.Seq.{get_or-drop}
use Rattle.frames.specs.Field.{field_at}
use Rattle.frames.proofs.Fields.{field_of_one}
use Rattle.card.specs.declared.Card.{Card}
use Rattle.card.specs.declared.Mode.TheVariants.{Ready, Selected}
use Rattle.card.specs.declared.Reply.{Reply}
use Rattle.card.specs.declared.Reply.TheVariants.{Done, Blocks, Status, Information}
use Rattle.card.specs.Record.{remade, cleared, in_mode, with_afi, with_dsfid}
use Rattle.commands.specs.declared.Effect.{Effect}
use Rattle.commands.specs.declared.Effect.TheVariants.{Leave, Write, Lock}
use Rattle.commands.specs.declared.Deed.{Deed}
use Rattle.commands.specs.Request.{deed, fault, done, failed, is_locked, any_locked, reads, writes, locks_block, writes_afi, writes_dsfid, locks_afi, locks_dsfid, tells_locks, width, commanded, refuses_option}
use Rattle.reader.specs.declared.Request.{Request}
use Rattle.reader.specs.Request.{has_option, body}
use Rattle.reader.specs.Shown.{is_held, mistakes_option, is_outside, is_block_locked, relocks, writes_locked, code_of}
use Rattle.reader.proofs.Asked.{reply_to, body_at, effect_of, changed_by, finished, deed_of}
use Rattle.reader.proofs.Commands.{OneOfTwelve, Is20, Is21, Is22, Is23, Is25, Is26, Is27, Is28, Is29, Is2a, Is2b, Is2c}

-- ---- laws over plain Bools

-- the deed that has this code, or none
abbrev answered : Bool → ℕ → Card → Card → Effect → Reply → Deed
answered held code c next effect reply = cond (eqb code 0) (finished held next effect reply) (failed held c code)

-- an answer at once: Option may be refused, or a block be outside
at_once : (option refuses inside : Bool) (c next : Card) (reply : Reply)
    → cond (option && refuses) (fault c 0x03) (cond inside (deed next Leave reply) (fault c 0x10))
    ≡ answered (option && false) (cond (option && refuses) 0x03 (cond (not inside) 0x10 0)) c next Leave reply
unfolding finished failed
at_once true true inside c next reply = refl
at_once true false true c next reply = refl
at_once true false false c next reply = refl
at_once false refuses true c next reply = refl
at_once false refuses false c next reply = refl

-- an answer that Option holds: a block may be outside, or something be locked
may_hold : (option inside locked : Bool) (code : ℕ) (c next : Card) (effect : Effect) → eqb code 0 ≡ false
    → cond (option && false) (fault c 0x03)
    (cond inside (cond locked (failed option c code) (done option next effect)) (failed option c 0x10))
    ≡ answered (option && true) (cond (option && false) 0x03 (cond (not inside) 0x10 (cond locked code 0))) c next effect Done
unfolding finished failed done
may_hold true true true code c next effect e = rw e
may_hold true true false code c next effect e = refl
may_hold true false locked code c next effect e = refl
may_hold false true true code c next effect e = rw e
may_hold false true false code c next effect e = refl
may_hold false false locked code c next effect e = refl

-- outside is not inside
outside_inside : (blocks last : ℕ) → leb blocks last ≡ not (ltb last blocks)
outside_inside blocks last = go (dec_lt last blocks)
  where
    go : Dec (last < blocks) → leb blocks last ≡ not (ltb last blocks)
    go (yes h) = rw (lt-ltb last blocks h, lt-leb blocks last h)
    go (no h) = rw (le-ltb last blocks (omega arith), le-leb blocks last (omega arith))

-- ---- the bytes of a body at its place

byte_here : (f : List ℕ) (at x : ℕ) (rest : List ℕ) → drop at f ≡ x ∷ rest → get_or f at 0 ≡ x
byte_here f at x rest e = rw (← (add-zero at), ← (get_or-drop at f 0 0), e)

field_here : (f : List ℕ) (at x : ℕ) (rest : List ℕ) → drop at f ≡ x ∷ rest → field_at f at 1 ≡ x
field_here f at x rest e = field_of_one f at ∙ byte_here f at x rest e

field_next : (f : List ℕ) (at x y : ℕ) (rest : List ℕ) → drop at f ≡ x ∷ y ∷ rest → field_at f (at + 1) 1 ≡ y
field_next f at x y rest e = field_of_one f (at + 1) ∙ rw (← (get_or-drop at f 1 0), e)

-- ---- the table

-- the frame f has the body at its place, and something after it
module _ (c : Card) (locks : List ℕ) (q : Request) (written f check : List ℕ) (option : Bool) (at : ℕ) (asks : has_option q ≡ option)
    (place : body_at q ≡ at) (stands : drop at f ≡ body q written ++ check) where
  pub table_of_request : OneOfTwelve q.command
      → cond (option && refuses_option q.command) (fault (cleared c) 0x03)
      (commanded (cleared c) locks option f at q.command) ≡ deed_of c locks q
  unfolding refuses_option commanded width reads writes any_locked is_locked locks_block writes_afi writes_dsfid locks_afi locks_dsfid tells_locks
      cleared remade in_mode with_afi with_dsfid deed_of code_of is_held mistakes_option is_outside relocks writes_locked is_block_locked reply_to effect_of changed_by body
  table_of_request (Is20 e) =
      let here = field_here f at q.first check (rw e at stands) in
      rw (asks, e, here, add-zero, outside_inside c.blocks q.first)
      (at_once option false (ltb q.first c.blocks) (cleared c) (cleared c) (Blocks q.first 1 option))
  table_of_request (Is21 e) =
      let here = field_here f at q.first (written ++ check) (rw e at stands) in
      let locked : Bool = not (eqb (get_or locks q.first 0) 0) in
      rw (asks, place, e, here, add-zero, outside_inside c.blocks q.first, or-false locked)
      (may_hold option (ltb q.first c.blocks) locked 0x12 (cleared c) (cleared c) (Write q.first 1 (at + 1)) refl)
  table_of_request (Is22 e) =
      let here = field_here f at q.first check (rw e at stands) in
      let locked : Bool = not (eqb (get_or locks q.first 0) 0) in
      rw (asks, e, here, outside_inside c.blocks q.first, or-false locked)
      (may_hold option (ltb q.first c.blocks) locked 0x11 (cleared c) (cleared c) (Lock q.first) refl)
  table_of_request (Is23 e) =
      let here = field_here f at q.first (q.n ∷ check) (rw e at stands) in
      let next = field_next f at q.first q.n check (rw e at stands) in
      rw (asks, e, here, next, outside_inside c.blocks (q.first + q.n))
      (at_once option false (ltb (q.first + q.n) c.blocks) (cleared c) (cleared c) (Blocks q.first (q.n + 1) option))
  table_of_request (Is25 e) = rw (asks, e) (at_once option true true (cleared c) (in_mode Selected (cleared c)) Done)
  table_of_request (Is26 e) = rw (asks, e) (at_once option true true (cleared c) (in_mode Ready (cleared c)) Done)
  table_of_request (Is27 e) =
      let here = byte_here f at q.value check (rw e at stands) in
      rw (asks, e, here, or-false c.afi_locked)
      (may_hold option true c.afi_locked 0x12 (cleared c) (with_afi q.value false (cleared c)) Leave refl)
  table_of_request (Is28 e) =
      rw (asks, e, or-false c.afi_locked)
      (may_hold option true c.afi_locked 0x11 (cleared c) (with_afi c.afi true (cleared c)) Leave refl)
  table_of_request (Is29 e) =
      let here = byte_here f at q.value check (rw e at stands) in
      rw (asks, e, here) (may_hold option true c.dsfid_locked 0x12 (cleared c) (with_dsfid q.value false (cleared c)) Leave refl)
  table_of_request (Is2a e) =
      rw (asks, e) (may_hold option true c.dsfid_locked 0x11 (cleared c) (with_dsfid c.dsfid true (cleared c)) Leave refl)
  table_of_request (Is2b e) = rw (asks, e) (at_once option true true (cleared c) (cleared c) Information)
  table_of_request (Is2c e) =
      let here = field_here f at q.first (q.n ∷ check) (rw e at stands) in
      let next = field_next f at q.first q.n check (rw e at stands) in
      rw (asks, e, here, next, outside_inside c.blocks (q.first + q.n))
      (at_once option true (ltb (q.first + q.n) c.blocks) (cleared c) (cleared c) (Status q.first (q.n + 1)))
