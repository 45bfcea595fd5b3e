-- What holds of each form of a deed holds of what is decided: an induction over the tests of steps 1 to 6, done once for every statement about
-- frames. Assumes nothing.
use mathlib.Core.Path.{◌≡◌, refl, ◌∙◌}
use mathlib.Core.Bool.{Bool, true, false, cond, not, ◌&&◌, ◌||◌}
use Prim.Native.Nat.{ℕ, ◌+◌, ◌-◌, ◌*◌, ◌≤◌}
use native.Mathlib.Omega.{arith}
use mathlib.Core.List.{List}
use borrow.Author.Tests.{eqb-true}
use lib.Dec.{eqb, ltb}
use lib.ListN.{length, get_or}
use Rattle.frames.specs.declared.Flags.{Flags}
use Rattle.frames.specs.Flags.{flags_of}
use Rattle.frames.specs.Field.{field_at}
use Rattle.frames.specs.Frame.{is_sound}
use Rattle.card.specs.declared.Card.{Card}
use Rattle.card.specs.declared.Mode.{Mode}
use Rattle.card.specs.declared.Mode.TheVariants.{Ready, Quiet, Selected}
use Rattle.card.specs.declared.Reply.TheVariants.{Done, Information}
use Rattle.card.specs.Record.{cleared, in_mode, is_quiet, is_selected}
use Rattle.card.specs.Inventory.{inventoried}
use Rattle.commands.specs.declared.Effect.TheVariants.{Leave}
use Rattle.commands.specs.declared.Deed.{Deed}
use Rattle.commands.specs.Frame.{leaving, decided}
use Rattle.commands.specs.Request.{deed, silent, fault, failed, reads, writes, locks_block, tells_locks, writes_afi, writes_dsfid, locks_afi, locks_dsfid, commanded}
use Rattle.commands.proofs.Blocks.{width_least}
use Rattle.commands.specs.Request.{width, is_listed, body_asked, refuses_option, holds_answer, body_length, judged, quieted, sorted, passed_by, addressed, unaddressed, requested}

-- the forms, for a cleared card c; a place is one in the frame
pub record Forms (P : Deed → Type 0) (c : Card) (locks frame : List ℕ) : Type 0 where
  pub silence : P (silent c)
  pub turns : (m : Mode) → P (silent (in_mode m c))
  pub inventory : (f : Flags) → P (leaving (inventoried c f frame))
  pub faulty : (code : ℕ) → P (fault c code)
  pub wrong_body : (hold : Bool) → P (failed hold c 0x02)
  pub selects : (m : Mode) → P (deed (in_mode m c) Leave Done)
  pub informs : P (deed c Leave Information)
  pub reading : (option : Bool) (first n : ℕ) → P (reads c option first n)
  pub writing : (option : Bool) (first n place : ℕ) → place + (n + 1) * c.size ≤ length frame → P (writes c locks option first n place)
  pub locking : (option : Bool) (block : ℕ) → P (locks_block c locks option block)
  pub status : (first n : ℕ) → P (tells_locks c first n)
  pub afi : (option : Bool) (place : ℕ) → P (writes_afi c option (get_or frame place 0))
  pub afi_lock : (option : Bool) → P (locks_afi c option)
  pub dsfid : (option : Bool) (place : ℕ) → P (writes_dsfid c option (get_or frame place 0))
  pub dsfid_lock : (option : Bool) → P (locks_dsfid c option)

module _ (P : Deed → Type 0) where
  -- by a test, either way
  pub by_test : (b : Bool) (x y : Deed) → (b ≡ true → P x) → (b ≡ false → P y) → P (cond b x y)
  by_test true x y p q = p refl
  by_test false x y p q = q refl

  module _ (c : Card) (locks frame : List ℕ) (h : Forms P c locks frame) where
    by_command : (option : Bool) (at command : ℕ) → (command ≡ 0x21 → at + width command + c.size ≤ length frame) → P (commanded c locks option frame at command)
    unfolding commanded
    by_command option at command data-there =
        by_test (eqb command 0x20) _ _ (λ e. h.reading option _ _) (λ e.
        by_test (eqb command 0x21) _ _ (λ e. h.writing option _ 0 _ (omega (arith, data-there (eqb-true command 0x21 e)))) (λ e.
        by_test (eqb command 0x22) _ _ (λ e. h.locking option _) (λ e.
        by_test (eqb command 0x23) _ _ (λ e. h.reading option _ _) (λ e.
        by_test (eqb command 0x25) _ _ (λ e. h.selects Selected) (λ e.
        by_test (eqb command 0x26) _ _ (λ e. h.selects Ready) (λ e.
        by_test (eqb command 0x27) _ _ (λ e. h.afi option at) (λ e.
        by_test (eqb command 0x28) _ _ (λ e. h.afi_lock option) (λ e.
        by_test (eqb command 0x29) _ _ (λ e. h.dsfid option at) (λ e.
        by_test (eqb command 0x2a) _ _ (λ e. h.dsfid_lock option) (λ e.
        by_test (eqb command 0x2b) _ _ (λ e. h.informs) (λ e.
        h.status _ _)))))))))))

    asked_21 : (at command : ℕ) → command ≡ 0x21 → body_asked frame at command c.size ≡ width command + c.size
    unfolding body_asked
    asked_21 at command e = rw e

    data_stands : (at command : ℕ) → eqb (body_length frame at) (body_asked frame at command c.size) ≡ true → command ≡ 0x21
        → at + width command + c.size ≤ length frame
    unfolding body_length
    data_stands at command e k =
        let n : length frame - (at + 2) ≡ width command + c.size =
        eqb-true (length frame - (at + 2)) (body_asked frame at command c.size) e ∙ asked_21 at command k in
        omega (arith, width_least command)

    by_fault : (f : Flags) (at command : ℕ) → P (judged c locks f frame at command)
    unfolding judged
    by_fault f at command =
        by_test (is_listed command) _ _
        (λ l. by_test (eqb (body_length frame at) (body_asked frame at command c.size)) _ _
        (λ b. by_test (f.b7 && refuses_option command) _ _ (λ o. h.faulty 0x03) (λ o. by_command f.b7 at command (data_stands at command b)))
        (λ b. h.wrong_body (f.b7 && holds_answer command)))
        (λ l. h.faulty 0x01)

    silent_either : (b : Bool) (m : Mode) → P (silent (cond b (in_mode m c) c))
    silent_either true m = h.turns m
    silent_either false m = h.silence

    by_step : (f : Flags) (at : ℕ) → P (sorted c locks f frame at)
    unfolding sorted quieted
    by_step f at =
        by_test (eqb (get_or frame 1 0) 0x02) _ _ (λ e. silent_either (f.b6 && eqb (body_length frame at) 0) Quiet)
        (λ e. by_test (eqb (get_or frame 1 0) 0x25 && not f.b6) _ _ (λ u. h.silence) (λ u. by_fault f at (get_or frame 1 0)))

    by_address : (f : Flags) → P (requested c locks f frame)
    unfolding requested addressed unaddressed passed_by
    by_address f =
        by_test f.b6 _ _
        (λ a. by_test f.b5 _ _ (λ s. h.silence)
        (λ s. by_test (ltb (length frame) 12) _ _ (λ l. h.silence)
        (λ l. by_test (eqb (field_at frame 2 8) c.uid) _ _ (λ u. by_step f 10)
        (λ u. silent_either (eqb (get_or frame 1 0) 0x25 && is_selected c.mode) Ready))))
        (λ a. by_test (cond f.b5 (is_selected c.mode) (not (is_quiet c.mode))) _ _ (λ g. by_step f 2) (λ g. h.silence))

  pub decided_forms : (card : Card) (locks frame : List ℕ) → Forms P (cleared card) locks frame → P (decided card locks frame)
  unfolding decided
  decided_forms card locks frame h =
      let f : Flags = flags_of (get_or frame 0 0) in
      by_test (is_sound frame) _ _
      (λ s. by_test (f.b4 || f.b8) _ _ (λ z. h.silence)
      (λ z. by_test f.b3 _ _ (λ i. h.inventory f) (λ i. by_address (cleared card) locks frame h f)))
      (λ s. h.silence)
