-- What each change of a record keeps, an inventory request, a slot mark and power off keep too. By the tests of the definitions.
-- Assumes nothing.
use mathlib.Core.Path.{◌≡◌, refl}
use mathlib.Core.Bool.{Bool, true, false, cond, not, ◌&&◌, and-eq-true_iff}
use Prim.Native.Nat.{ℕ, ◌+◌, ◌%◌, ◌^◌}
use native.Mathlib.Nat.{mod-lt}
use native.Mathlib.Omega.{arith}
use mathlib.Core.List.{List}
use borrow.Author.Tests.{lt-ltb, le-leb, ltb-true}
use lib.Dec.{eqb, ltb, leb}
use lib.Pow.{pow_pos}
use lib.ListN.{get_or}
use Rattle.frames.specs.declared.Flags.{Flags}
use Rattle.frames.specs.Field.{field_at}
use Rattle.slots.specs.Fits.{mask_bytes}
use Rattle.card.specs.declared.Card.{Card}
use Rattle.card.specs.declared.Turn.{Turn}
use Rattle.card.specs.declared.Mode.{Mode}
use Rattle.card.specs.declared.Mode.TheVariants.{Ready}
use Rattle.card.specs.declared.Sequence.{Sequence}
use Rattle.card.specs.declared.Sequence.TheVariants.{Idle, Running}
use Rattle.card.specs.declared.Held.{Held}
use Rattle.card.specs.declared.Held.TheVariants.{Free, Success, Code}
use Rattle.card.specs.Record.{sequence_fits, held_fits, remade, cleared, in_mode, in_sequence, holding, with_afi, with_dsfid, powered_off, is_quiet}
use Rattle.card.specs.Inventory.{length_place, mask_limit, mask_of, takes_part, joins, is_inventory, inventoried}
use Rattle.card.specs.Mark.{moved, released, marked}

-- the changes of a record, where a frame arrives or none
pub record Changes (Q : Card → Type 0) (frame : List ℕ) : Type 0 where
  pub modes : (c : Card) → Q c → (m : Mode) → Q (in_mode m c)
  pub sequences : (c : Card) → Q c → (s : Sequence) → sequence_fits s ≡ true → Q (in_sequence s c)
  pub holds : (c : Card) → Q c → (h : Held) → held_fits h ≡ true → Q (holding h c)
  pub writes_afi : (c : Card) → Q c → c.afi_locked ≡ false → (at : ℕ) → Q (with_afi (get_or frame at 0) false c)
  pub locks_afi : (c : Card) → Q c → Q (with_afi c.afi true c)
  pub writes_dsfid : (c : Card) → Q c → c.dsfid_locked ≡ false → (at : ℕ) → Q (with_dsfid (get_or frame at 0) false c)
  pub locks_dsfid : (c : Card) → Q c → Q (with_dsfid c.dsfid true c)

module _ {Q : Card → Type 0} {frame : List ℕ} (change : Changes Q frame) where
  by_test : (b : Bool) (x y : Turn) → (b ≡ true → Q x.card) → (b ≡ false → Q y.card) → Q (cond b x y).card
  by_test true x y p q = p refl
  by_test false x y p q = q refl

  pub cleared_keeps : (c : Card) → Q c → Q (cleared c)
  unfolding cleared in_sequence holding remade sequence_fits held_fits
  cleared_keeps c q = change.holds (in_sequence Idle c) (change.sequences c q Idle refl) Free refl

  -- ---- power off

  pub off_keeps : (c : Card) → Q c → Q (powered_off c)
  unfolding powered_off
  off_keeps c q = change.modes (cleared c) (cleared_keeps c q) Ready

  -- ---- a slot mark: a sequence that fits moves to one that fits

  next_fits : (slot n mask : ℕ) → ltb slot 15 ≡ true → sequence_fits (Running slot n mask) ≡ true → sequence_fits (Running (slot + 1) n mask) ≡ true
  unfolding sequence_fits
  next_fits slot n mask l e =
      let below = ltb-true slot 15 l in
      rw (le-leb (slot + 1) 15 (omega arith)) ((and-eq-true_iff (leb slot 15) (leb n 60 && ltb mask (2 ^ n))).0 e).1

  moved_keeps : (c : Card) → Q c → (s : Sequence) → sequence_fits s ≡ true → Q (moved c s).card
  unfolding moved sequence_fits
  moved_keeps c q Idle e = q
  moved_keeps c q (Running slot n mask) e =
      by_test (ltb slot 15) _ _ (λ l. change.sequences c q (Running (slot + 1) n mask) (next_fits slot n mask l e)) (λ l. change.sequences c q Idle refl)

  released_keeps : (c : Card) → Q c → sequence_fits c.sequence ≡ true → (h : Held) → Q (released c h).card
  unfolding released held_fits
  released_keeps c q e Free = moved_keeps c q c.sequence e
  released_keeps c q e Success = change.holds c q Free refl
  released_keeps c q e (Code code) = change.holds c q Free refl

  pub marked_keeps : (c : Card) → Q c → sequence_fits c.sequence ≡ true → Q (marked c).card
  unfolding marked
  marked_keeps c q e = released_keeps c q e c.held

  -- ---- an inventory request: the sequence that it starts fits

  limit_of : (c : Card) (f : Flags) (n : ℕ) → f.b6 ≡ false → is_inventory c f frame n ≡ true → leb n 60 ≡ true
  unfolding is_inventory mask_limit
  limit_of c f n b e =
      let option = (and-eq-true_iff (not f.b7) _).0 e in
      let mode = (and-eq-true_iff (not (is_quiet c.mode)) _).0 option.1 in
      let command = (and-eq-true_iff (eqb (get_or frame 1 0) 0x01) _).0 mode.1 in
      rw b at ((and-eq-true_iff (leb n (cond f.b6 64 60)) _).0 command.1).0

  started_fits : (f : Flags) (n : ℕ) → leb n 60 ≡ true → sequence_fits (Running 0 n (mask_of f frame n)) ≡ true
  unfolding sequence_fits mask_of
  started_fits f n e =
      let field : ℕ = field_at frame (length_place f + 1) (mask_bytes n) in
      rw (e, lt-ltb (field % 2 ^ n) (2 ^ n) (mod-lt field (pow_pos n)))

  pub inventoried_keeps : (c : Card) → Q c → (f : Flags) → Q (inventoried c f frame).card
  unfolding inventoried joins
  inventoried_keeps c q f =
      let n : ℕ = get_or frame (length_place f) 0 in
      by_test (is_inventory c f frame n && takes_part c f frame) _ _
      (λ e. by_test f.b6 _ _ (λ b. q)
      (λ b. change.sequences c q (Running 0 n (mask_of f frame n))
      (started_fits f n (limit_of c f n b ((and-eq-true_iff (is_inventory c f frame n) (takes_part c f frame)).0 e).0))))
      (λ e. q)
