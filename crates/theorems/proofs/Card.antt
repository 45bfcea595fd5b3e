-- The card, its record in C, what a frame decides, and the three events: the contract of each call asks nothing, says the claim that is written out here, and
-- allows one result. By the contracts themselves. Assumes nothing. a: the arguments. r: what is returned. e: the parameters at exit.
use mathlib.Core.Path.{◌∙◌, ◌≡◌, refl, sym}
use seplogic.Ra.Ura.{Ura}
use base.Logic.{SProp, id⊢}
use prog.Memory.{Memory}
use prog.Routine.{Routine}
use types.Logic.{Logic}
use contract.Monad.{Fun}
use Rattle.refusals.specs.Number.{number_of}
use Rattle.card.specs.Frame.{heard_inventory}
use Rattle.card.specs.Mark.{marked}
use Rattle.card.specs.Record.{cleared, holding, in_mode, is_accepted, powered_off, with_afi, with_dsfid}
use Rattle.record.specs.Record.{Writes, card_read}
use Rattle.commands.specs.Frame.{decided}
use Rattle.play.specs.Events.{Leaves, frame_event, mark_event, off_event}
use Rattle.record.proofs.Unique.{write_unique}
use Rattle.play.proofs.Unique.{leaves_unique}
use Rattle.card.specs.contracts.Card.hear_inventory as card_hear_inventory
use Rattle.card.specs.contracts.Card.hear_mark as card_hear_mark
use Rattle.card.specs.contracts.Card.is_accepted as card_is_accepted
use Rattle.card.specs.contracts.Card.cleared as card_cleared
use Rattle.card.specs.contracts.Card.in_mode as card_in_mode
use Rattle.card.specs.contracts.Card.holding as card_holding
use Rattle.card.specs.contracts.Card.with_afi as card_with_afi
use Rattle.card.specs.contracts.Card.with_dsfid as card_with_dsfid
use Rattle.card.specs.contracts.Card.power_off as card_power_off
use Rattle.record.specs.contracts.read as record_read
use Rattle.record.specs.contracts.write as record_write
use Rattle.commands.specs.contracts.decide as commands_decide
use Rattle.play.specs.contracts.events.frame as play_frame
use Rattle.play.specs.contracts.events.mark as play_mark
use Rattle.play.specs.contracts.events.power_off as play_power_off
use Rattle.theorems.specs.Contract.{Contract}
use Rattle.theorems.proofs.Kept.{kept}

-- 𝓤 to run: any model of the logic, as every function's own theorem has it
module _ {M : Type 1} {𝓤 : Ura M} (𝓛 : Logic 𝓤) (mem : Memory → SProp 𝓤) (run : Routine → Fun 𝓤) where
  -- ---- card

  card_hear_inventory_contract : Contract 𝓛 card_hear_inventory.ended (card_hear_inventory.spec 𝓛 mem run) (card_hear_inventory.clauses 𝓛 mem run)
      (λ κs a r e. r ≡ heard_inventory a.0 a.1.0.now)
  card_hear_inventory_contract =
      kept 𝓛 card_hear_inventory.ended _ _ _ refl (λ κs a. (tt, id⊢ 𝓤 _)) (λ κs a g r e. id⊢ 𝓤 _)
      (λ κs a r s x y p q. (p ∙ sym q, refl))

  card_hear_mark_contract : Contract 𝓛 card_hear_mark.ended (card_hear_mark.spec 𝓛 mem run) (card_hear_mark.clauses 𝓛 mem run)
      (λ κs a r e. r ≡ marked a.0)
  card_hear_mark_contract = kept 𝓛 card_hear_mark.ended _ _ _ refl (λ κs a. (tt, id⊢ 𝓤 _)) (λ κs a g r e. id⊢ 𝓤 _) (λ κs a r s x y p q. (p ∙ sym q, refl))

  card_is_accepted_contract : Contract 𝓛 card_is_accepted.ended (card_is_accepted.spec 𝓛 mem run) (card_is_accepted.clauses 𝓛 mem run)
      (λ κs a r e. r ≡ is_accepted a.0)
  card_is_accepted_contract = kept 𝓛 card_is_accepted.ended _ _ _ refl (λ κs a. (tt, id⊢ 𝓤 _)) (λ κs a g r e. id⊢ 𝓤 _) (λ κs a r s x y p q. (p ∙ sym q, refl))

  card_cleared_contract : Contract 𝓛 card_cleared.ended (card_cleared.spec 𝓛 mem run) (card_cleared.clauses 𝓛 mem run)
      (λ κs a r e. r ≡ cleared a.0)
  card_cleared_contract = kept 𝓛 card_cleared.ended _ _ _ refl (λ κs a. (tt, id⊢ 𝓤 _)) (λ κs a g r e. id⊢ 𝓤 _) (λ κs a r s x y p q. (p ∙ sym q, refl))

  card_in_mode_contract : Contract 𝓛 card_in_mode.ended (card_in_mode.spec 𝓛 mem run) (card_in_mode.clauses 𝓛 mem run)
      (λ κs a r e. r ≡ in_mode a.1.0 a.0)
  card_in_mode_contract = kept 𝓛 card_in_mode.ended _ _ _ refl (λ κs a. (tt, id⊢ 𝓤 _)) (λ κs a g r e. id⊢ 𝓤 _) (λ κs a r s x y p q. (p ∙ sym q, refl))

  card_holding_contract : Contract 𝓛 card_holding.ended (card_holding.spec 𝓛 mem run) (card_holding.clauses 𝓛 mem run)
      (λ κs a r e. r ≡ holding a.1.0 a.0)
  card_holding_contract = kept 𝓛 card_holding.ended _ _ _ refl (λ κs a. (tt, id⊢ 𝓤 _)) (λ κs a g r e. id⊢ 𝓤 _) (λ κs a r s x y p q. (p ∙ sym q, refl))

  card_with_afi_contract : Contract 𝓛 card_with_afi.ended (card_with_afi.spec 𝓛 mem run) (card_with_afi.clauses 𝓛 mem run)
      (λ κs a r e. r ≡ with_afi a.1.0 a.1.1.0 a.0)
  card_with_afi_contract = kept 𝓛 card_with_afi.ended _ _ _ refl (λ κs a. (tt, id⊢ 𝓤 _)) (λ κs a g r e. id⊢ 𝓤 _) (λ κs a r s x y p q. (p ∙ sym q, refl))

  card_with_dsfid_contract : Contract 𝓛 card_with_dsfid.ended (card_with_dsfid.spec 𝓛 mem run) (card_with_dsfid.clauses 𝓛 mem run)
      (λ κs a r e. r ≡ with_dsfid a.1.0 a.1.1.0 a.0)
  card_with_dsfid_contract = kept 𝓛 card_with_dsfid.ended _ _ _ refl (λ κs a. (tt, id⊢ 𝓤 _)) (λ κs a g r e. id⊢ 𝓤 _) (λ κs a r s x y p q. (p ∙ sym q, refl))

  card_power_off_contract : Contract 𝓛 card_power_off.ended (card_power_off.spec 𝓛 mem run) (card_power_off.clauses 𝓛 mem run)
      (λ κs a r e. r ≡ powered_off a.0)
  card_power_off_contract = kept 𝓛 card_power_off.ended _ _ _ refl (λ κs a. (tt, id⊢ 𝓤 _)) (λ κs a g r e. id⊢ 𝓤 _) (λ κs a r s x y p q. (p ∙ sym q, refl))

  -- ---- record

  record_read_contract : Contract 𝓛 record_read.ended (record_read.spec 𝓛 mem run) (record_read.clauses 𝓛 mem run)
      (λ κs a r e. r ≡ card_read a.0.now)
  record_read_contract = kept 𝓛 record_read.ended _ _ _ refl (λ κs a. (tt, id⊢ 𝓤 _)) (λ κs a g r e. id⊢ 𝓤 _) (λ κs a r s x y p q. (p ∙ sym q, refl))

  record_write_contract : Contract 𝓛 record_write.ended (record_write.spec 𝓛 mem run) (record_write.clauses 𝓛 mem run)
      (λ κs a r e. Writes a.0 a.1.0.now (number_of r) e.1.0.now)
  record_write_contract =
      kept 𝓛 record_write.ended _ _ _ refl (λ κs a. (tt, id⊢ 𝓤 _)) (λ κs a g r e. id⊢ 𝓤 _)
      (λ κs a r s x y p q. let u : _ = write_unique _ _ r s _ _ p q in (u.0, λ i. (tt, (u.1 i, tt))))

  -- ---- commands

  commands_decide_contract : Contract 𝓛 commands_decide.ended (commands_decide.spec 𝓛 mem run) (commands_decide.clauses 𝓛 mem run)
      (λ κs a r e. r ≡ decided a.0 a.1.0.now a.1.1.0.now)
  commands_decide_contract = kept 𝓛 commands_decide.ended _ _ _ refl (λ κs a. (tt, id⊢ 𝓤 _)) (λ κs a g r e. id⊢ 𝓤 _) (λ κs a r s x y p q. (p ∙ sym q, refl))

  -- ---- play

  play_frame_contract : Contract 𝓛 play_frame.ended (play_frame.spec 𝓛 mem run) (play_frame.clauses 𝓛 mem run)
      (λ κs a r e.
      Leaves a.0 (frame_event a.0 a.1.0.now a.1.1.0.now a.1.1.1.0.now a.1.1.1.1.0.now)
      r e.1.1.0.now e.1.1.1.0.now e.1.1.1.1.0.now)
  play_frame_contract =
      kept 𝓛 play_frame.ended _ _ _ refl (λ κs a. (tt, id⊢ 𝓤 _)) (λ κs a g r e. id⊢ 𝓤 _)
      (λ κs a r s x y p q. let u : _ = leaves_unique _ _ r s _ _ _ _ _ _ p q in (u.0, λ i. (tt, (tt, (u.1 i, (u.2 i, (u.3 i, tt)))))))

  play_mark_contract : Contract 𝓛 play_mark.ended (play_mark.spec 𝓛 mem run) (play_mark.clauses 𝓛 mem run)
      (λ κs a r e.
      Leaves a.0 (mark_event a.0 a.1.0.now a.1.1.0.now a.1.1.1.0.now)
      r a.1.0.now a.1.1.0.now e.1.1.1.0.now)
  play_mark_contract =
      kept 𝓛 play_mark.ended _ _ _ refl (λ κs a. (tt, id⊢ 𝓤 _)) (λ κs a g r e. id⊢ 𝓤 _)
      (λ κs a r s x y p q. let u : _ = leaves_unique _ _ r s _ _ _ _ _ _ p q in (u.0, λ i. (tt, (tt, (tt, (u.3 i, tt))))))

  play_power_off_contract : Contract 𝓛 play_power_off.ended (play_power_off.spec 𝓛 mem run) (play_power_off.clauses 𝓛 mem run)
      (λ κs a r e.
      Leaves a.0 (off_event a.0 a.1.0.now a.1.1.0.now a.1.1.1.0.now)
      r a.1.0.now a.1.1.0.now a.1.1.1.0.now)
  play_power_off_contract =
      kept 𝓛 play_power_off.ended _ _ _ refl (λ κs a. (tt, id⊢ 𝓤 _)) (λ κs a g r e. id⊢ 𝓤 _)
      (λ κs a r s x y p q. let u : _ = leaves_unique _ _ r s _ _ _ _ _ _ p q in (u.0, refl))
