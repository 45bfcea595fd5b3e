-- The functions that C calls: the contract of each call asks nothing, says the claim that is written out here, and
-- allows one result. By the contracts themselves. Assumes nothing. a: the arguments. r: what is returned. e: the parameters at exit.
use mathlib.Core.Path.{◌∙◌, ◌≡◌, refl, sym}
use mathlib.Core.List.{[]}
use seplogic.Ra.Ura.{Ura}
use base.Logic.{SProp, id⊢}
use prog.Memory.{Memory}
use prog.Routine.{Routine}
use types.Logic.{Logic}
use contract.Monad.{Fun}
use Rattle.crc.specs.Check.{check_of}
use Rattle.frames.specs.Frame.{Seals, is_sound}
use Rattle.tracks.specs.Coder.{Codes}
use Rattle.tracks.specs.Decoder.{Decodes}
use Rattle.coil.specs.Coder.{CodesAnswer}
use Rattle.coil.specs.Decoder.{DecodesAnswer}
use Rattle.board.specs.Calls.{Gives, frame_call, mark_call, off_call}
use Rattle.walk.specs.Record.{started}
use Rattle.walk.specs.Hear.{hearing}
use Rattle.walk.specs.Shared.{starting, shared_hearing}
use Rattle.walk.specs.declared.Kind.TheVariants.{Bytes, Clash, Silence}
use Rattle.board.specs.Version.{version}
use Rattle.board.specs.Answers.{ReadsByValue}
use Rattle.reader.specs.Request.{Makes}
use Rattle.reader.specs.Reading.{reading}
use Rattle.board.specs.Walked.{AsksInPlace, HearsInPlace}
use Rattle.board.specs.Shared.{StartsInPlace, HearsSharedInPlace}
use Rattle.walk.specs.Ask.{asking}
use Rattle.frames.proofs.Unique.{seal_unique}
use Rattle.tracks.proofs.Unique.{code_unique, decode_unique}
use Rattle.coil.proofs.Unique.{coil_code_unique, coil_decode_unique}
use Rattle.board.proofs.Unique.{gives_unique}
use Rattle.board.proofs.UniqueWalked.{hear_in_place_unique, ask_in_place_unique, start_shared_in_place_unique, hear_shared_in_place_unique}
use Rattle.board.proofs.UniqueAnswers.{read_by_value_unique}
use Rattle.reader.proofs.Unique.{make_unique}
use Rattle.board.specs.contracts.ek_version as ek_version
use Rattle.board.specs.contracts.ek_check as ek_check
use Rattle.board.specs.contracts.ek_is_sound as ek_is_sound
use Rattle.board.specs.contracts.ek_seal as ek_seal
use Rattle.board.specs.contracts.ek_code as ek_code
use Rattle.board.specs.contracts.ek_decode as ek_decode
use Rattle.board.specs.contracts.ek_coil_code as ek_coil_code
use Rattle.board.specs.contracts.ek_coil_decode as ek_coil_decode
use Rattle.board.specs.contracts.ek_card_frame as ek_card_frame
use Rattle.board.specs.contracts.ek_card_mark as ek_card_mark
use Rattle.board.specs.contracts.ek_card_power_off as ek_card_power_off
use Rattle.board.specs.contracts.in_place.ek_walk_start as ek_walk_start
use Rattle.board.specs.contracts.in_place.ek_walk_hear_silence as ek_walk_hear_silence
use Rattle.board.specs.contracts.in_place.ek_walk_hear_clash as ek_walk_hear_clash
use Rattle.board.specs.contracts.in_place.ek_walk_hear_bytes as ek_walk_hear_bytes
use Rattle.board.specs.contracts.shared.ek_shared_start as ek_shared_start
use Rattle.board.specs.contracts.shared.ek_shared_hear_silence as ek_shared_hear_silence
use Rattle.board.specs.contracts.shared.ek_shared_hear_clash as ek_shared_hear_clash
use Rattle.board.specs.contracts.shared.ek_shared_hear_bytes as ek_shared_hear_bytes
use Rattle.board.specs.contracts.in_place.ek_walk_ask as ek_walk_ask
use Rattle.board.specs.contracts.answers.ek_make as ek_make
use Rattle.board.specs.contracts.answers.ek_read as ek_read
use Rattle.theorems.specs.Contract.{Contract}
use Rattle.theorems.proofs.Kept.{kept}

-- 𝓤 to run: any model of the logic, as every function's own theorem has it
module _ {M : Type 1} {𝓤 : Ura M} (𝓛 : Logic 𝓤) (mem : Memory → SProp 𝓤) (run : Routine → Fun 𝓤) where
  -- ---- board

  ek_version_contract : Contract 𝓛 ek_version.ended (ek_version.spec 𝓛 mem run) (ek_version.clauses 𝓛 mem run)
      (λ κs a r e. r ≡ version)
  ek_version_contract = kept 𝓛 ek_version.ended _ _ _ refl (λ κs a. (tt, id⊢ 𝓤 _)) (λ κs a g r e. id⊢ 𝓤 _) (λ κs a r s x y p q. (p ∙ sym q, refl))

  ek_check_contract : Contract 𝓛 ek_check.ended (ek_check.spec 𝓛 mem run) (ek_check.clauses 𝓛 mem run)
      (λ κs a r e. r ≡ check_of a.0.now)
  ek_check_contract = kept 𝓛 ek_check.ended _ _ _ refl (λ κs a. (tt, id⊢ 𝓤 _)) (λ κs a g r e. id⊢ 𝓤 _) (λ κs a r s x y p q. (p ∙ sym q, refl))

  ek_is_sound_contract : Contract 𝓛 ek_is_sound.ended (ek_is_sound.spec 𝓛 mem run) (ek_is_sound.clauses 𝓛 mem run)
      (λ κs a r e. r ≡ is_sound a.0.now)
  ek_is_sound_contract = kept 𝓛 ek_is_sound.ended _ _ _ refl (λ κs a. (tt, id⊢ 𝓤 _)) (λ κs a g r e. id⊢ 𝓤 _) (λ κs a r s x y p q. (p ∙ sym q, refl))

  ek_seal_contract : Contract 𝓛 ek_seal.ended (ek_seal.spec 𝓛 mem run) (ek_seal.clauses 𝓛 mem run)
      (λ κs a r e. Seals a.0.now a.1.0 r e.0.now)
  ek_seal_contract =
      kept 𝓛 ek_seal.ended _ _ _ refl (λ κs a. (tt, id⊢ 𝓤 _)) (λ κs a g r e. id⊢ 𝓤 _)
      (λ κs a r s x y p q. let u : _ = seal_unique p q in (u.0, λ i. (u.1 i, (tt, tt))))

  ek_code_contract : Contract 𝓛 ek_code.ended (ek_code.spec 𝓛 mem run) (ek_code.clauses 𝓛 mem run)
      (λ κs a r e. Codes a.0.now a.1.0 a.1.1.0.now r e.1.1.0.now)
  ek_code_contract =
      kept 𝓛 ek_code.ended _ _ _ refl (λ κs a. (tt, id⊢ 𝓤 _)) (λ κs a g r e. id⊢ 𝓤 _)
      (λ κs a r s x y p q. let u : _ = code_unique p q in (u.0, λ i. (tt, (tt, (u.1 i, tt)))))

  ek_decode_contract : Contract 𝓛 ek_decode.ended (ek_decode.spec 𝓛 mem run) (ek_decode.clauses 𝓛 mem run)
      (λ κs a r e. Decodes a.0.now a.1.0.now r e.1.0.now)
  ek_decode_contract =
      kept 𝓛 ek_decode.ended _ _ _ refl (λ κs a. (tt, id⊢ 𝓤 _)) (λ κs a g r e. id⊢ 𝓤 _)
      (λ κs a r s x y p q. let u : _ = decode_unique p q in (u.0, λ i. (tt, (u.1 i, tt))))

  ek_coil_code_contract : Contract 𝓛 ek_coil_code.ended (ek_coil_code.spec 𝓛 mem run) (ek_coil_code.clauses 𝓛 mem run)
      (λ κs a r e. CodesAnswer a.0.now a.1.0.now r e.1.0.now)
  ek_coil_code_contract =
      kept 𝓛 ek_coil_code.ended _ _ _ refl (λ κs a. (tt, id⊢ 𝓤 _)) (λ κs a g r e. id⊢ 𝓤 _)
      (λ κs a r s x y p q. let u : _ = coil_code_unique p q in (u.0, λ i. (tt, (u.1 i, tt))))

  ek_coil_decode_contract : Contract 𝓛 ek_coil_decode.ended (ek_coil_decode.spec 𝓛 mem run) (ek_coil_decode.clauses 𝓛 mem run)
      (λ κs a r e. DecodesAnswer a.0.now a.1.0.now r e.1.0.now)
  ek_coil_decode_contract =
      kept 𝓛 ek_coil_decode.ended _ _ _ refl (λ κs a. (tt, id⊢ 𝓤 _)) (λ κs a g r e. id⊢ 𝓤 _)
      (λ κs a r s x y p q. let u : _ = coil_decode_unique p q in (u.0, λ i. (tt, (u.1 i, tt))))

  ek_card_frame_contract : Contract 𝓛 ek_card_frame.ended (ek_card_frame.spec 𝓛 mem run) (ek_card_frame.clauses 𝓛 mem run)
      (λ κs a r e.
      Gives (frame_call a.0.now a.1.0.now a.1.1.0.now a.1.1.1.0.now a.1.1.1.1.0.now)
      r e.0.now e.1.1.0.now e.1.1.1.0.now e.1.1.1.1.0.now)
  ek_card_frame_contract =
      kept 𝓛 ek_card_frame.ended _ _ _ refl (λ κs a. (tt, id⊢ 𝓤 _)) (λ κs a g r e. id⊢ 𝓤 _)
      (λ κs a r s x y p q. let u : _ = gives_unique _ r s _ _ _ _ _ _ _ _ p q in (u.0, λ i. (u.1 i, (tt, (u.2 i, (u.3 i, (u.4 i, tt)))))))

  ek_card_mark_contract : Contract 𝓛 ek_card_mark.ended (ek_card_mark.spec 𝓛 mem run) (ek_card_mark.clauses 𝓛 mem run)
      (λ κs a r e.
      Gives (mark_call a.0.now a.1.0.now a.1.1.0.now a.1.1.1.0.now)
      r e.0.now a.1.0.now a.1.1.0.now e.1.1.1.0.now)
  ek_card_mark_contract =
      kept 𝓛 ek_card_mark.ended _ _ _ refl (λ κs a. (tt, id⊢ 𝓤 _)) (λ κs a g r e. id⊢ 𝓤 _)
      (λ κs a r s x y p q. let u : _ = gives_unique _ r s _ _ _ _ _ _ _ _ p q in (u.0, λ i. (u.1 i, (tt, (tt, (u.4 i, tt))))))

  ek_card_power_off_contract : Contract 𝓛 ek_card_power_off.ended (ek_card_power_off.spec 𝓛 mem run) (ek_card_power_off.clauses 𝓛 mem run)
      (λ κs a r e.
      Gives (off_call a.0.now a.1.0.now a.1.1.0.now a.1.1.1.0.now)
      r e.0.now a.1.0.now a.1.1.0.now a.1.1.1.0.now)
  ek_card_power_off_contract =
      kept 𝓛 ek_card_power_off.ended _ _ _ refl (λ κs a. (tt, id⊢ 𝓤 _)) (λ κs a g r e. id⊢ 𝓤 _)
      (λ κs a r s x y p q. let u : _ = gives_unique _ r s _ _ _ _ _ _ _ _ p q in (u.0, λ i. (u.1 i, (tt, (tt, (tt, tt))))))

  ek_walk_start_contract : Contract 𝓛 ek_walk_start.ended (ek_walk_start.spec 𝓛 mem run) (ek_walk_start.clauses 𝓛 mem run)
      (λ κs a r e. e.0.now ≡ started a.1.0)
  ek_walk_start_contract =
      kept 𝓛 ek_walk_start.ended _ _ _ refl (λ κs a. (tt, id⊢ 𝓤 _)) (λ κs a g r e. id⊢ 𝓤 _)
      (λ κs a r s x y p q. (refl, λ i. ((p ∙ sym q) i, (tt, tt))))

  ek_walk_hear_silence_contract : Contract 𝓛 ek_walk_hear_silence.ended (ek_walk_hear_silence.spec 𝓛 mem run) (ek_walk_hear_silence.clauses 𝓛 mem run)
      (λ κs a r e. HearsInPlace (hearing a.0.now Silence [] a.1.0.now) r e.0.now e.1.0.now)
  ek_walk_hear_silence_contract =
      kept 𝓛 ek_walk_hear_silence.ended _ _ _ refl (λ κs a. (tt, id⊢ 𝓤 _)) (λ κs a g r e. id⊢ 𝓤 _)
      (λ κs a r s x y p q. let u : _ = hear_in_place_unique _ r s _ _ _ _ p q in (u.0, λ i. (u.1 i, (u.2 i, tt))))

  ek_walk_hear_clash_contract : Contract 𝓛 ek_walk_hear_clash.ended (ek_walk_hear_clash.spec 𝓛 mem run) (ek_walk_hear_clash.clauses 𝓛 mem run)
      (λ κs a r e. HearsInPlace (hearing a.0.now Clash [] a.1.0.now) r e.0.now e.1.0.now)
  ek_walk_hear_clash_contract =
      kept 𝓛 ek_walk_hear_clash.ended _ _ _ refl (λ κs a. (tt, id⊢ 𝓤 _)) (λ κs a g r e. id⊢ 𝓤 _)
      (λ κs a r s x y p q. let u : _ = hear_in_place_unique _ r s _ _ _ _ p q in (u.0, λ i. (u.1 i, (u.2 i, tt))))

  ek_walk_hear_bytes_contract : Contract 𝓛 ek_walk_hear_bytes.ended (ek_walk_hear_bytes.spec 𝓛 mem run) (ek_walk_hear_bytes.clauses 𝓛 mem run)
      (λ κs a r e. HearsInPlace (hearing a.0.now Bytes a.1.0.now a.1.1.0.now) r e.0.now e.1.1.0.now)
  ek_walk_hear_bytes_contract =
      kept 𝓛 ek_walk_hear_bytes.ended _ _ _ refl (λ κs a. (tt, id⊢ 𝓤 _)) (λ κs a g r e. id⊢ 𝓤 _)
      (λ κs a r s x y p q. let u : _ = hear_in_place_unique _ r s _ _ _ _ p q in (u.0, λ i. (u.1 i, (tt, (u.2 i, tt)))))

  ek_walk_ask_contract : Contract 𝓛 ek_walk_ask.ended (ek_walk_ask.spec 𝓛 mem run) (ek_walk_ask.clauses 𝓛 mem run)
      (λ κs a r e. AsksInPlace (asking a.0.now a.1.0.now) r e.1.0.now)
  ek_walk_ask_contract =
      kept 𝓛 ek_walk_ask.ended _ _ _ refl (λ κs a. (tt, id⊢ 𝓤 _)) (λ κs a g r e. id⊢ 𝓤 _)
      (λ κs a r s x y p q. let u : _ = ask_in_place_unique _ r s _ _ p q in (u.0, λ i. (tt, (u.1 i, tt))))

  ek_shared_start_contract : Contract 𝓛 ek_shared_start.ended (ek_shared_start.spec 𝓛 mem run) (ek_shared_start.clauses 𝓛 mem run)
      (λ κs a r e. StartsInPlace (starting a.0.now a.1.0 a.1.1.0 a.1.1.1.0.now) r e.0.now e.1.1.1.0.now)
  ek_shared_start_contract =
      kept 𝓛 ek_shared_start.ended _ _ _ refl (λ κs a. (tt, id⊢ 𝓤 _)) (λ κs a g r e. id⊢ 𝓤 _)
      (λ κs a r s x y p q. let u : _ = start_shared_in_place_unique _ r s _ _ _ _ p q in (u.0, λ i. (u.1 i, (tt, (tt, (u.2 i, tt))))))

  ek_shared_hear_silence_contract : Contract 𝓛 ek_shared_hear_silence.ended (ek_shared_hear_silence.spec 𝓛 mem run) (ek_shared_hear_silence.clauses 𝓛 mem run)
      (λ κs a r e.
      HearsSharedInPlace (shared_hearing a.0.now a.1.0 Silence [] a.1.1.0.now a.1.1.1.0.now)
      r e.0.now e.1.1.0.now e.1.1.1.0.now)
  ek_shared_hear_silence_contract =
      kept 𝓛 ek_shared_hear_silence.ended _ _ _ refl (λ κs a. (tt, id⊢ 𝓤 _)) (λ κs a g r e. id⊢ 𝓤 _)
      (λ κs a r s x y p q. let u : _ = hear_shared_in_place_unique _ r s _ _ _ _ _ _ p q in (u.0, λ i. (u.1 i, (tt, (u.2 i, (u.3 i, tt))))))

  ek_shared_hear_clash_contract : Contract 𝓛 ek_shared_hear_clash.ended (ek_shared_hear_clash.spec 𝓛 mem run) (ek_shared_hear_clash.clauses 𝓛 mem run)
      (λ κs a r e.
      HearsSharedInPlace (shared_hearing a.0.now a.1.0 Clash [] a.1.1.0.now a.1.1.1.0.now)
      r e.0.now e.1.1.0.now e.1.1.1.0.now)
  ek_shared_hear_clash_contract =
      kept 𝓛 ek_shared_hear_clash.ended _ _ _ refl (λ κs a. (tt, id⊢ 𝓤 _)) (λ κs a g r e. id⊢ 𝓤 _)
      (λ κs a r s x y p q. let u : _ = hear_shared_in_place_unique _ r s _ _ _ _ _ _ p q in (u.0, λ i. (u.1 i, (tt, (u.2 i, (u.3 i, tt))))))

  ek_shared_hear_bytes_contract : Contract 𝓛 ek_shared_hear_bytes.ended (ek_shared_hear_bytes.spec 𝓛 mem run) (ek_shared_hear_bytes.clauses 𝓛 mem run)
      (λ κs a r e.
      HearsSharedInPlace (shared_hearing a.0.now a.1.0 Bytes a.1.1.0.now a.1.1.1.0.now a.1.1.1.1.0.now)
      r e.0.now e.1.1.1.0.now e.1.1.1.1.0.now)
  ek_shared_hear_bytes_contract =
      kept 𝓛 ek_shared_hear_bytes.ended _ _ _ refl (λ κs a. (tt, id⊢ 𝓤 _)) (λ κs a g r e. id⊢ 𝓤 _)
      (λ κs a r s x y p q. let u : _ = hear_shared_in_place_unique _ r s _ _ _ _ _ _ p q in (u.0, λ i. (u.1 i, (tt, (tt, (u.2 i, (u.3 i, tt)))))))

  ek_make_contract : Contract 𝓛 ek_make.ended (ek_make.spec 𝓛 mem run) (ek_make.clauses 𝓛 mem run)
      (λ κs a r e. Makes a.0 a.1.0.now a.1.1.0.now r e.1.1.0.now)
  ek_make_contract =
      kept 𝓛 ek_make.ended _ _ _ refl (λ κs a. (tt, id⊢ 𝓤 _)) (λ κs a g r e. id⊢ 𝓤 _)
      (λ κs a r s x y p q. let u : _ = make_unique _ _ _ p q in (u.0, λ i. (tt, (tt, (u.1 i, tt)))))

  ek_read_contract : Contract 𝓛 ek_read.ended (ek_read.spec 𝓛 mem run) (ek_read.clauses 𝓛 mem run)
      (λ κs a r e.
      ReadsByValue (reading a.0 a.1.0.now a.1.1.0.now a.1.1.1.0.now) r e.1.1.0.now e.1.1.1.0.now)
  ek_read_contract =
      kept 𝓛 ek_read.ended _ _ _ refl (λ κs a. (tt, id⊢ 𝓤 _)) (λ κs a g r e. id⊢ 𝓤 _)
      (λ κs a r s x y p q. let u : _ = read_by_value_unique _ r s _ _ _ _ p q in (u.0, λ i. (tt, (tt, (u.1 i, (u.2 i, tt))))))
