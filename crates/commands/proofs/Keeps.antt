-- What each change of a record keeps, every frame keeps. By the forms of a deed. Assumes nothing.
use mathlib.Core.Path.{◌≡◌, refl}
use mathlib.Core.Bool.{Bool, true, false}
use Prim.Native.Nat.{ℕ, ◌+◌}
use mathlib.Core.List.{List}
use lib.Dec.{ltb}
use lib.ListN.{get_or}
use Rattle.card.specs.declared.Card.{Card}
use Rattle.card.specs.declared.Held.TheVariants.{Success, Code}
use Rattle.card.specs.Record.{held_fits, cleared, with_afi, with_dsfid}
use Rattle.card.proofs.Changes.{Changes, cleared_keeps, inventoried_keeps}
use Rattle.commands.specs.declared.Effect.{Effect}
use Rattle.commands.specs.declared.Effect.TheVariants.{Leave}
use Rattle.commands.specs.declared.Deed.{Deed}
use Rattle.commands.specs.Frame.{decided}
use Rattle.commands.specs.Request.{done, failed, is_locked, any_locked, reads, writes, locks_block, tells_locks, writes_afi, writes_dsfid, locks_afi, locks_dsfid}
use Rattle.commands.proofs.Forms.{Forms, by_test, decided_forms}

module _ {Q : Card → Type 0} {frame : List ℕ} (change : Changes Q frame) where
  abbrev After : Deed → Type 0
  After d = Q d.card

  done_keeps : (c : Card) → Q c → (hold : Bool) (e : Effect) → After (done hold c e)
  unfolding done held_fits
  done_keeps c q true e = change.holds c q Success refl
  done_keeps c q false e = q

  failed_keeps : (c : Card) → Q c → (hold : Bool) (code : ℕ) → held_fits (Code code) ≡ true → After (failed hold c code)
  unfolding failed
  failed_keeps c q true code e = change.holds c q (Code code) e
  failed_keeps c q false code e = q

  module _ (c : Card) (q : Q c) (locks : List ℕ) where
    reads_keeps : (option : Bool) (first n : ℕ) → After (reads c option first n)
    unfolding reads
    reads_keeps option first n = by_test After (ltb (first + n) c.blocks) _ _ (λ e. q) (λ e. q)

    tells_keeps : (first n : ℕ) → After (tells_locks c first n)
    unfolding tells_locks
    tells_keeps first n = by_test After (ltb (first + n) c.blocks) _ _ (λ e. q) (λ e. q)

    writes_keeps : (option : Bool) (first n place : ℕ) → After (writes c locks option first n place)
    unfolding writes held_fits
    writes_keeps option first n place =
        by_test After (ltb (first + n) c.blocks) _ _
        (λ e. by_test After (any_locked locks first (n + 1)) _ _ (λ l. failed_keeps c q option 0x12 refl) (λ l. done_keeps c q option _))
        (λ e. failed_keeps c q option 0x10 refl)

    locks_keeps : (option : Bool) (block : ℕ) → After (locks_block c locks option block)
    unfolding locks_block held_fits
    locks_keeps option block =
        by_test After (ltb block c.blocks) _ _
        (λ e. by_test After (is_locked locks block) _ _ (λ l. failed_keeps c q option 0x11 refl) (λ l. done_keeps c q option _))
        (λ e. failed_keeps c q option 0x10 refl)

    afi_keeps : (option : Bool) (place : ℕ) → After (writes_afi c option (get_or frame place 0))
    unfolding writes_afi held_fits
    afi_keeps option place =
        by_test After c.afi_locked _ _ (λ l. failed_keeps c q option 0x12 refl)
        (λ l. done_keeps (with_afi (get_or frame place 0) false c) (change.writes_afi c q l place) option Leave)

    afi_lock_keeps : (option : Bool) → After (locks_afi c option)
    unfolding locks_afi held_fits
    afi_lock_keeps option =
        by_test After c.afi_locked _ _ (λ l. failed_keeps c q option 0x11 refl)
        (λ l. done_keeps (with_afi c.afi true c) (change.locks_afi c q) option Leave)

    dsfid_keeps : (option : Bool) (place : ℕ) → After (writes_dsfid c option (get_or frame place 0))
    unfolding writes_dsfid held_fits
    dsfid_keeps option place =
        by_test After c.dsfid_locked _ _ (λ l. failed_keeps c q option 0x12 refl)
        (λ l. done_keeps (with_dsfid (get_or frame place 0) false c) (change.writes_dsfid c q l place) option Leave)

    dsfid_lock_keeps : (option : Bool) → After (locks_dsfid c option)
    unfolding locks_dsfid held_fits
    dsfid_lock_keeps option =
        by_test After c.dsfid_locked _ _ (λ l. failed_keeps c q option 0x11 refl)
        (λ l. done_keeps (with_dsfid c.dsfid true c) (change.locks_dsfid c q) option Leave)

    forms_keep : Forms After c locks frame
    unfolding held_fits
    forms_keep =
        record {
          silence = q;
          turns = change.modes c q;
          inventory = inventoried_keeps change c q;
          faulty = λ code. q;
          wrong_body = λ hold. failed_keeps c q hold 0x02 refl;
          selects = change.modes c q;
          informs = q;
          reading = reads_keeps;
          writing = λ option first n place h. writes_keeps option first n place;
          locking = locks_keeps;
          status = tells_keeps;
          afi = afi_keeps;
          afi_lock = afi_lock_keeps;
          dsfid = dsfid_keeps;
          dsfid_lock = dsfid_lock_keeps;
        }

  pub decided_keeps : (card : Card) → Q card → (locks : List ℕ) → Q (decided card locks frame).card
  decided_keeps card q locks = decided_forms After card locks frame (forms_keep (cleared card) (cleared_keeps change card q) locks)
