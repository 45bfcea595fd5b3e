-- The walk, the reader, the bench, its input and the picture: the contract of each call asks nothing, says the claim that is written out here, and
-- allows one result. By the contracts themselves. Assumes nothing. a: the arguments. r: what is returned. e: the parameters at exit.
use mathlib.Core.Path.{◌∙◌, ◌≡◌, refl, sym}
use lib.ListN.{take}
use seplogic.Ra.Ura.{Ura}
use base.Logic.{SProp, id⊢}
use prog.Memory.{Memory}
use prog.Routine.{Routine}
use types.Logic.{Logic}
use contract.Monad.{Fun}
use Rattle.refusals.specs.Number.{number_back}
use Rattle.refusals.proofs.Numbers.{number_back_tells}
use Rattle.walk.specs.Ask.{Asks, asking}
use Rattle.walk.specs.Hear.{Hears, hearing}
use Rattle.walk.specs.Shared.{starting, Starts, shared_hearing, HearsShared}
use Rattle.walk.specs.Record.{whole_mask, is_accepted, started}
use Rattle.reader.specs.Request.{Makes}
use Rattle.reader.specs.Reading.{Reads, reading}
use Rattle.row.specs.Play.{ended, fresh_desk, goes_on, slotted}
use Rattle.row.specs.Row.{HearsRow, cards_of, desk_after}
use Rattle.lines.specs.Lines.{fresh_lines, read_from}
use Rattle.report.specs.Bench.{Prints}
use Rattle.picture.specs.Drawn.{Pictures}
use Rattle.walk.proofs.Unique.{ask_unique, hear_unique, start_shared_unique, hear_shared_unique}
use Rattle.reader.proofs.Unique.{make_unique}
use Rattle.reader.proofs.UniqueRead.{read_unique}
use Rattle.row.proofs.Unique.{listen_row_unique}
use Rattle.report.proofs.Unique.{prints_unique}
use Rattle.picture.proofs.Unique.{pictures_unique}
use Rattle.walk.specs.contracts.Walk.ask as walk_ask
use Rattle.walk.specs.contracts.Walk.hear as walk_hear
use Rattle.walk.specs.contracts.Walk.start_shared as walk_start_shared
use Rattle.walk.specs.contracts.Walk.hear_shared as walk_hear_shared
use Rattle.walk.specs.contracts.Walk.start as walk_start
use Rattle.walk.specs.contracts.Walk.mask as walk_mask
use Rattle.walk.specs.contracts.Walk.is_accepted as walk_is_accepted
use Rattle.reader.specs.contracts.Request.make as request_make
use Rattle.reader.specs.contracts.Request.read as request_read
use Rattle.row.specs.contracts.play.fresh as row_fresh
use Rattle.row.specs.contracts.play.deal as row_deal
use Rattle.row.specs.contracts.play.hear as row_hear
use Rattle.row.specs.contracts.play.slot as row_slot
use Rattle.row.specs.contracts.play.goes_on as row_goes_on
use Rattle.row.specs.contracts.play.play as row_play
use Rattle.row.specs.contracts.row.listen_row as row_listen_row
use Rattle.lines.specs.contracts.read as lines_read
use Rattle.report.specs.contracts.bench.bench as report_bench
use Rattle.picture.specs.contracts.picture.picture as picture_picture
use Rattle.theorems.specs.Contract.{Contract}
use Rattle.theorems.proofs.Kept.{kept}

-- 𝓤 to run: any model of the logic, as every function's own theorem has it
module _ {M : Type 1} {𝓤 : Ura M} (𝓛 : Logic 𝓤) (mem : Memory → SProp 𝓤) (run : Routine → Fun 𝓤) where
  -- ---- walk

  walk_ask_contract : Contract 𝓛 walk_ask.ended (walk_ask.spec 𝓛 mem run) (walk_ask.clauses 𝓛 mem run)
      (λ κs a r e. Asks a.0 (asking a.0 a.1.0.now) r e.1.0.now)
  walk_ask_contract =
      kept 𝓛 walk_ask.ended _ _ _ refl (λ κs a. (tt, id⊢ 𝓤 _)) (λ κs a g r e. id⊢ 𝓤 _)
      (λ κs a r s x y p q. let u : _ = ask_unique _ _ r s _ _ p q in (u.0, λ i. (tt, (u.1 i, tt))))

  walk_hear_contract : Contract 𝓛 walk_hear.ended (walk_hear.spec 𝓛 mem run) (walk_hear.clauses 𝓛 mem run)
      (λ κs a r e. Hears a.0 (hearing a.0 a.1.0 a.1.1.0.now a.1.1.1.0.now) r e.1.1.1.0.now)
  walk_hear_contract =
      kept 𝓛 walk_hear.ended _ _ _ refl (λ κs a. (tt, id⊢ 𝓤 _)) (λ κs a g r e. id⊢ 𝓤 _)
      (λ κs a r s x y p q. let u : _ = hear_unique _ _ r s _ _ p q in (u.0, λ i. (tt, (tt, (tt, (u.1 i, tt))))))

  walk_start_shared_contract : Contract 𝓛 walk_start_shared.ended (walk_start_shared.spec 𝓛 mem run) (walk_start_shared.clauses 𝓛 mem run)
      (λ κs a r e. Starts a.0 (starting a.0 a.1.0 a.1.1.0 a.1.1.1.0.now) r e.1.1.1.0.now)
  walk_start_shared_contract =
      kept 𝓛 walk_start_shared.ended _ _ _ refl (λ κs a. (tt, id⊢ 𝓤 _)) (λ κs a g r e. id⊢ 𝓤 _)
      (λ κs a r s x y p q. let u : _ = start_shared_unique _ _ r s _ _ p q in (u.0, λ i. (tt, (tt, (tt, (u.1 i, tt))))))

  walk_hear_shared_contract : Contract 𝓛 walk_hear_shared.ended (walk_hear_shared.spec 𝓛 mem run) (walk_hear_shared.clauses 𝓛 mem run)
      (λ κs a r e.
      HearsShared a.0 (shared_hearing a.0 a.1.0 a.1.1.0 a.1.1.1.0.now a.1.1.1.1.0.now a.1.1.1.1.1.0.now)
      r e.1.1.1.1.0.now e.1.1.1.1.1.0.now)
  walk_hear_shared_contract =
      kept 𝓛 walk_hear_shared.ended _ _ _ refl (λ κs a. (tt, id⊢ 𝓤 _)) (λ κs a g r e. id⊢ 𝓤 _)
      (λ κs a r s x y p q. let u : _ = hear_shared_unique _ _ r s _ _ _ _ p q in (u.0, λ i. (tt, (tt, (tt, (tt, (u.1 i, (u.2 i, tt))))))))

  walk_start_contract : Contract 𝓛 walk_start.ended (walk_start.spec 𝓛 mem run) (walk_start.clauses 𝓛 mem run)
      (λ κs a r e. r ≡ started a.0)
  walk_start_contract = kept 𝓛 walk_start.ended _ _ _ refl (λ κs a. (tt, id⊢ 𝓤 _)) (λ κs a g r e. id⊢ 𝓤 _) (λ κs a r s x y p q. (p ∙ sym q, refl))

  walk_mask_contract : Contract 𝓛 walk_mask.ended (walk_mask.spec 𝓛 mem run) (walk_mask.clauses 𝓛 mem run) (λ κs a r e. r ≡ whole_mask a.0)
  walk_mask_contract = kept 𝓛 walk_mask.ended _ _ _ refl (λ κs a. (tt, id⊢ 𝓤 _)) (λ κs a g r e. id⊢ 𝓤 _) (λ κs a r s x y p q. (p ∙ sym q, refl))

  walk_is_accepted_contract : Contract 𝓛 walk_is_accepted.ended (walk_is_accepted.spec 𝓛 mem run) (walk_is_accepted.clauses 𝓛 mem run)
      (λ κs a r e. r ≡ is_accepted a.0)
  walk_is_accepted_contract = kept 𝓛 walk_is_accepted.ended _ _ _ refl (λ κs a. (tt, id⊢ 𝓤 _)) (λ κs a g r e. id⊢ 𝓤 _) (λ κs a r s x y p q. (p ∙ sym q, refl))

  -- ---- reader

  request_make_contract : Contract 𝓛 request_make.ended (request_make.spec 𝓛 mem run) (request_make.clauses 𝓛 mem run)
      (λ κs a r e. Makes a.0 a.1.0.now a.1.1.0.now (number_back r) e.1.1.0.now)
  request_make_contract =
      kept 𝓛 request_make.ended _ _ _ refl (λ κs a. (tt, id⊢ 𝓤 _)) (λ κs a g r e. id⊢ 𝓤 _)
      (λ κs a r s x y p q. let u : _ = make_unique _ _ _ p q in (number_back_tells r s u.0, λ i. (tt, (tt, (u.1 i, tt)))))

  request_read_contract : Contract 𝓛 request_read.ended (request_read.spec 𝓛 mem run) (request_read.clauses 𝓛 mem run)
      (λ κs a r e.
      Reads (reading a.0 a.1.0.now a.1.1.0.now a.1.1.1.0.now) r e.1.1.0.now e.1.1.1.0.now)
  request_read_contract =
      kept 𝓛 request_read.ended _ _ _ refl (λ κs a. (tt, id⊢ 𝓤 _)) (λ κs a g r e. id⊢ 𝓤 _)
      (λ κs a r s x y p q. let u : _ = read_unique _ p q in (u.0, λ i. (tt, (tt, (u.1 i, (u.2 i, tt))))))

  -- ---- row

  row_fresh_contract : Contract 𝓛 row_fresh.ended (row_fresh.spec 𝓛 mem run) (row_fresh.clauses 𝓛 mem run)
      (λ κs a r e. r ≡ fresh_desk)
  row_fresh_contract = kept 𝓛 row_fresh.ended _ _ _ refl (λ κs a. (tt, id⊢ 𝓤 _)) (λ κs a g r e. id⊢ 𝓤 _) (λ κs a r s x y p q. (p ∙ sym q, refl))

  row_deal_contract : Contract 𝓛 row_deal.ended (row_deal.spec 𝓛 mem run) (row_deal.clauses 𝓛 mem run)
      (λ κs a r e. r ≡ cards_of a.0)
  row_deal_contract = kept 𝓛 row_deal.ended _ _ _ refl (λ κs a. (tt, id⊢ 𝓤 _)) (λ κs a g r e. id⊢ 𝓤 _) (λ κs a r s x y p q. (p ∙ sym q, refl))

  row_hear_contract : Contract 𝓛 row_hear.ended (row_hear.spec 𝓛 mem run) (row_hear.clauses 𝓛 mem run)
      (λ κs a r e. r ≡ desk_after a.0 a.1.0)
  row_hear_contract = kept 𝓛 row_hear.ended _ _ _ refl (λ κs a. (tt, id⊢ 𝓤 _)) (λ κs a g r e. id⊢ 𝓤 _) (λ κs a r s x y p q. (p ∙ sym q, refl))

  row_slot_contract : Contract 𝓛 row_slot.ended (row_slot.spec 𝓛 mem run) (row_slot.clauses 𝓛 mem run)
      (λ κs a r e. r ≡ slotted a.0 a.1.0 a.1.1.0)
  row_slot_contract = kept 𝓛 row_slot.ended _ _ _ refl (λ κs a. (tt, id⊢ 𝓤 _)) (λ κs a g r e. id⊢ 𝓤 _) (λ κs a r s x y p q. (p ∙ sym q, refl))

  row_goes_on_contract : Contract 𝓛 row_goes_on.ended (row_goes_on.spec 𝓛 mem run) (row_goes_on.clauses 𝓛 mem run)
      (λ κs a r e. r ≡ goes_on a.0 a.1.0)
  row_goes_on_contract = kept 𝓛 row_goes_on.ended _ _ _ refl (λ κs a. (tt, id⊢ 𝓤 _)) (λ κs a g r e. id⊢ 𝓤 _) (λ κs a r s x y p q. (p ∙ sym q, refl))

  row_play_contract : Contract 𝓛 row_play.ended (row_play.spec 𝓛 mem run) (row_play.clauses 𝓛 mem run)
      (λ κs a r e. r ≡ ended (take a.1.0 a.0))
  row_play_contract = kept 𝓛 row_play.ended _ _ _ refl (λ κs a. (tt, id⊢ 𝓤 _)) (λ κs a g r e. id⊢ 𝓤 _) (λ κs a r s x y p q. (p ∙ sym q, refl))

  row_listen_row_contract : Contract 𝓛 row_listen_row.ended (row_listen_row.spec 𝓛 mem run) (row_listen_row.clauses 𝓛 mem run)
      (λ κs a r e. HearsRow a.1.0 a.0.now r e.0.now)
  row_listen_row_contract =
      kept 𝓛 row_listen_row.ended _ _ _ refl (λ κs a. (tt, id⊢ 𝓤 _)) (λ κs a g r e. id⊢ 𝓤 _)
      (λ κs a r s x y p q. let u : _ = listen_row_unique _ _ r s _ _ p q in (u.0, λ i. (u.1 i, (tt, tt))))

  -- ---- lines

  lines_read_contract : Contract 𝓛 lines_read.ended (lines_read.spec 𝓛 mem run) (lines_read.clauses 𝓛 mem run)
      (λ κs a r e. r ≡ read_from fresh_lines a.0.now)
  lines_read_contract = kept 𝓛 lines_read.ended _ _ _ refl (λ κs a. (tt, id⊢ 𝓤 _)) (λ κs a g r e. id⊢ 𝓤 _) (λ κs a r s x y p q. (p ∙ sym q, refl))

  -- ---- report

  report_bench_contract : Contract 𝓛 report_bench.ended (report_bench.spec 𝓛 mem run) (report_bench.clauses 𝓛 mem run)
      (λ κs a r e. Prints a.0.now a.1.0.now (number_back r) e.1.0.now)
  report_bench_contract =
      kept 𝓛 report_bench.ended _ _ _ refl (λ κs a. (tt, id⊢ 𝓤 _)) (λ κs a g r e. id⊢ 𝓤 _)
      (λ κs a r s x y p q. let u : _ = prints_unique _ _ (number_back r) (number_back s) _ _ p q in (number_back_tells r s u.0, λ i. (tt, (u.1 i, tt))))

  -- ---- picture

  picture_picture_contract : Contract 𝓛 picture_picture.ended (picture_picture.spec 𝓛 mem run) (picture_picture.clauses 𝓛 mem run)
      (λ κs a r e. Pictures a.0.now a.1.0.now (number_back r) e.1.0.now)
  picture_picture_contract =
      kept 𝓛 picture_picture.ended _ _ _ refl (λ κs a. (tt, id⊢ 𝓤 _)) (λ κs a g r e. id⊢ 𝓤 _)
      (λ κs a r s x y p q. let u : _ = pictures_unique _ _ (number_back r) (number_back s) _ _ p q in (number_back_tells r s u.0, λ i. (tt, (u.1 i, tt))))
