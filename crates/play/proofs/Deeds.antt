-- Whatever frame arrives, what is decided stays within the card: blocks that are there, and data that stand in the frame. By the forms of
-- a deed and the tests that lead to each. Assumes nothing.
use mathlib.Core.Path.{◌≡◌, refl}
use mathlib.Core.Bool.{Bool, true, false, cond}
use Prim.Native.Nat.{ℕ, ◌+◌, ◌*◌, ◌≤◌, ◌<◌}
use native.Mathlib.Omega.{arith}
use mathlib.Core.List.{List}
use borrow.Author.Tests.{ltb-true, le-leb}
use lib.Dec.{ltb}
use lib.ListN.{length}
use Rattle.card.specs.declared.Card.{Card}
use Rattle.commands.specs.declared.Effect.{Effect}
use Rattle.commands.specs.declared.Effect.TheVariants.{Leave, Write, Lock}
use Rattle.commands.specs.declared.Deed.{Deed}
use Rattle.card.specs.Record.{remade, cleared}
use Rattle.card.specs.Inventory.{inventoried}
use Rattle.commands.specs.Frame.{decided}
use Rattle.commands.specs.Request.{silent, fault, done, failed, is_locked, any_locked, reads, writes, locks_block, tells_locks}
use Rattle.commands.specs.Request.{writes_afi, writes_dsfid, locks_afi, locks_dsfid}
use Rattle.commands.proofs.Forms.{Forms, by_test, decided_forms}
use Rattle.commands.proofs.Keeps.{decided_keeps}
use Rattle.play.specs.Fits.{effect_fits, reply_fits, DeedFits}
use Rattle.play.proofs.Kept.{self_kept, kept_changes}
use Rattle.play.proofs.Brief.{brief_fits}
use Rattle.play.proofs.Turns.{inventoried_brief}

-- blocks that a test found there
within : (first n blocks : ℕ) → ltb (first + n) blocks ≡ true → first + (n + 1) ≤ blocks
within first n blocks e =
    let h : first + n < blocks = ltb-true (first + n) blocks e in
    omega arith

module _ (card : Card) (frame : List ℕ) where
  record Inside (d : Deed) : Type 0 where
    pub effect : effect_fits card frame d.effect ≡ true
    pub reply : reply_fits card d.reply ≡ true

  silent_inside : (c : Card) → Inside (silent c)
  unfolding effect_fits reply_fits
  silent_inside c = record { effect = refl; reply = refl }

  fault_inside : (c : Card) (code : ℕ) → Inside (fault c code)
  unfolding effect_fits reply_fits
  fault_inside c code = record { effect = refl; reply = refl }

  done_inside : (c : Card) (hold : Bool) (e : Effect) → effect_fits card frame e ≡ true → Inside (done hold c e)
  unfolding done reply_fits
  done_inside c true e h = record { effect = h; reply = refl }
  done_inside c false e h = record { effect = h; reply = refl }

  failed_inside : (c : Card) (hold : Bool) (code : ℕ) → Inside (failed hold c code)
  unfolding failed
  failed_inside c true code = silent_inside _
  failed_inside c false code = fault_inside c code

  -- ---- the table, for the cleared card, which has the card's blocks

  abbrev c : Card
  c = cleared card

  reads_inside : (option : Bool) (first n : ℕ) → Inside (reads c option first n)
  unfolding reads cleared remade effect_fits reply_fits
  reads_inside option first n =
      by_test Inside (ltb (first + n) card.blocks) _ _
      (λ e. record { effect = refl; reply = le-leb (first + (n + 1)) card.blocks (within first n card.blocks e) }) (λ e. fault_inside c 0x10)

  tells_inside : (first n : ℕ) → Inside (tells_locks c first n)
  unfolding tells_locks cleared remade effect_fits reply_fits
  tells_inside first n =
      by_test Inside (ltb (first + n) card.blocks) _ _
      (λ e. record { effect = refl; reply = le-leb (first + (n + 1)) card.blocks (within first n card.blocks e) }) (λ e. fault_inside c 0x10)

  writes_inside : (locks : List ℕ) (option : Bool) (first n place : ℕ) → place + (n + 1) * c.size ≤ length frame
      → Inside (writes c locks option first n place)
  unfolding writes cleared remade effect_fits
  writes_inside locks option first n place h =
      by_test Inside (ltb (first + n) card.blocks) _ _
      (λ e. by_test Inside (any_locked locks first (n + 1)) _ _ (λ l. failed_inside c option 0x12)
      (λ l. done_inside c option (Write first (n + 1) place)
      (rw (
        le-leb (first + (n + 1)) card.blocks (within first n card.blocks e),
        le-leb (place + (n + 1) * card.size) (length frame) h,
      ))))
      (λ e. failed_inside c option 0x10)

  locks_inside : (locks : List ℕ) (option : Bool) (block : ℕ) → Inside (locks_block c locks option block)
  unfolding locks_block cleared remade effect_fits
  locks_inside locks option block =
      by_test Inside (ltb block card.blocks) _ _
      (λ e. by_test Inside (is_locked locks block) _ _ (λ l. failed_inside c option 0x11) (λ l. done_inside c option (Lock block) e))
      (λ e. failed_inside c option 0x10)

  -- AFI and DSFID, written or locked
  alters_inside : (b option : Bool) (x : Card) (code : ℕ) → Inside (cond b (failed option c code) (done option x Leave))
  unfolding effect_fits
  alters_inside b option x code = by_test Inside b _ _ (λ l. failed_inside c option code) (λ l. done_inside x option Leave refl)

  forms_inside : (locks : List ℕ) → Forms Inside c locks frame
  unfolding effect_fits reply_fits writes_afi locks_afi writes_dsfid locks_dsfid
  forms_inside locks =
      record {
        silence = silent_inside c;
        turns = λ m. silent_inside _;
        inventory = λ f. record { effect = refl; reply = brief_fits card (inventoried c f frame).reply (inventoried_brief c f frame) };
        faulty = fault_inside c;
        wrong_body = λ hold. failed_inside c hold 0x02;
        selects = λ m. record { effect = refl; reply = refl };
        informs = record { effect = refl; reply = refl };
        reading = reads_inside;
        writing = writes_inside locks;
        locking = locks_inside locks;
        status = tells_inside;
        afi = λ option place. alters_inside c.afi_locked option _ 0x12;
        afi_lock = λ option. alters_inside c.afi_locked option _ 0x11;
        dsfid = λ option place. alters_inside c.dsfid_locked option _ 0x12;
        dsfid_lock = λ option. alters_inside c.dsfid_locked option _ 0x11;
      }

pub decided_fits : (card : Card) (locks frame : List ℕ) → DeedFits card frame (decided card locks frame)
decided_fits card locks frame =
    let inside : Inside card frame (decided card locks frame) = decided_forms (Inside card frame) card locks frame (forms_inside card frame locks) in
    record {
      kept = decided_keeps (kept_changes card frame) card (self_kept card) locks;
      effect = inside.effect;
      reply = inside.reply;
    }
