-- Check, frames, text, slots, pulse tracks and the tracks of answers: the contract of each call asks nothing, says the claim that is written out here, and
-- allows one result. By the contracts themselves. Assumes nothing. a: the arguments. r: what is returned. e: the parameters at exit.
use mathlib.Core.Path.{◌∙◌, ◌≡◌, refl, sym}
use mathlib.Core.List.{[], ◌∷◌}
use Prim.Native.Nat.{◌%◌, ◌/◌, ◌^◌}
use lib.Dec.{ltb}
use lib.ListN.{get_or}
use seplogic.Ra.Ura.{Ura}
use base.Logic.{SProp, id⊢}
use prog.Memory.{Memory}
use prog.Routine.{Routine}
use types.Logic.{Logic}
use contract.Monad.{Fun}
use Rattle.std.specs.Prelude.{is_ok}
use Rattle.refusals.specs.Number.{number, number_back}
use Rattle.refusals.proofs.Numbers.{number_back_tells}
use Rattle.crc.specs.Check.{check_of, is_sealed}
use Rattle.frames.specs.Flags.{flags_of}
use Rattle.frames.specs.Field.{PutsField, field_at, field_of}
use Rattle.frames.specs.Frame.{Seals, is_sound}
use Rattle.digits.specs.Digits.{digit, digit_value, has_form, hex_digits, number_at}
use Rattle.digits.specs.Decimal.{decimal}
use Rattle.digits.specs.Rows.{ReadsRow, is_row, row_text}
use Rattle.digits.specs.Put.{PutsText}
use Rattle.slots.specs.Fits.{fits_mask, fits_slot, mask_bytes}
use Rattle.tracks.specs.Coder.{Codes}
use Rattle.tracks.specs.Decoded.{DecodesTo}
use Rattle.coil.specs.Coder.{CodesAnswer}
use Rattle.coil.specs.Decoded.{DecodesAnswerTo}
use Rattle.frames.proofs.Unique.{put_field_result_unique, seal_result_unique}
use Rattle.digits.proofs.Unique.{read_row_unique, put_text_unique}
use Rattle.tracks.proofs.Unique.{code_result_unique, decode_result_unique}
use Rattle.coil.proofs.Unique.{coil_code_result_unique, coil_decode_result_unique}
use Rattle.crc.specs.contracts.check as crc_check
use Rattle.crc.specs.contracts.is_sealed as crc_is_sealed
use Rattle.frames.specs.contracts.Flags.of as frames_flags_of
use Rattle.frames.specs.contracts.byte_at as frames_byte_at
use Rattle.frames.specs.contracts.join as frames_join
use Rattle.frames.specs.contracts.field as frames_field
use Rattle.frames.specs.contracts.put_field as frames_put_field
use Rattle.frames.specs.contracts.seal as frames_seal
use Rattle.frames.specs.contracts.is_sound as frames_is_sound
use Rattle.digits.specs.contracts.digit_of as digits_digit_of
use Rattle.digits.specs.contracts.digit as digits_digit
use Rattle.digits.specs.contracts.has_form as digits_has_form
use Rattle.digits.specs.contracts.number as digits_number
use Rattle.digits.specs.contracts.is_row as digits_is_row
use Rattle.digits.specs.contracts.read_row as digits_read_row
use Rattle.digits.specs.contracts.put_row as digits_put_row
use Rattle.digits.specs.contracts.put_bytes as digits_put_bytes
use Rattle.digits.specs.contracts.put_digits as digits_put_digits
use Rattle.digits.specs.contracts.put_decimal as digits_put_decimal
use Rattle.refusals.specs.contracts.Refusal.number as refusal_number
use Rattle.slots.specs.contracts.low_bits as slots_low_bits
use Rattle.slots.specs.contracts.high_bits as slots_high_bits
use Rattle.slots.specs.contracts.is_below as slots_is_below
use Rattle.slots.specs.contracts.mask_bytes as slots_mask_bytes
use Rattle.slots.specs.contracts.fits_mask as slots_fits_mask
use Rattle.slots.specs.contracts.fits_slot as slots_fits_slot
use Rattle.tracks.specs.contracts.coder.code as tracks_code
use Rattle.tracks.specs.contracts.decoder.decode as tracks_decode
use Rattle.coil.specs.contracts.coder.code as coil_code
use Rattle.coil.specs.contracts.decoder.decode as coil_decode
use Rattle.input.specs.contracts.wrote as input_wrote
use Rattle.input.proofs.Unique.{wrote_unique}
use Rattle.theorems.specs.Contract.{Contract}
use Rattle.theorems.proofs.Kept.{kept}

-- 𝓤 to run: any model of the logic, as every function's own theorem has it
module _ {M : Type 1} {𝓤 : Ura M} (𝓛 : Logic 𝓤) (mem : Memory → SProp 𝓤) (run : Routine → Fun 𝓤) where
  -- ---- refusals

  refusal_number_contract : Contract 𝓛 refusal_number.ended (refusal_number.spec 𝓛 mem run) (refusal_number.clauses 𝓛 mem run)
      (λ κs a r e. r ≡ number a.0)
  refusal_number_contract = kept 𝓛 refusal_number.ended _ _ _ refl (λ κs a. (tt, id⊢ 𝓤 _)) (λ κs a g r e. id⊢ 𝓤 _) (λ κs a r s x y p q. (p ∙ sym q, refl))

  -- ---- crc

  crc_check_contract : Contract 𝓛 crc_check.ended (crc_check.spec 𝓛 mem run) (crc_check.clauses 𝓛 mem run)
      (λ κs a r e. r ≡ check_of a.0.now)
  crc_check_contract = kept 𝓛 crc_check.ended _ _ _ refl (λ κs a. (tt, id⊢ 𝓤 _)) (λ κs a g r e. id⊢ 𝓤 _) (λ κs a r s x y p q. (p ∙ sym q, refl))

  crc_is_sealed_contract : Contract 𝓛 crc_is_sealed.ended (crc_is_sealed.spec 𝓛 mem run) (crc_is_sealed.clauses 𝓛 mem run)
      (λ κs a r e. r ≡ is_sealed a.0.now)
  crc_is_sealed_contract = kept 𝓛 crc_is_sealed.ended _ _ _ refl (λ κs a. (tt, id⊢ 𝓤 _)) (λ κs a g r e. id⊢ 𝓤 _) (λ κs a r s x y p q. (p ∙ sym q, refl))

  -- ---- frames

  frames_flags_of_contract : Contract 𝓛 frames_flags_of.ended (frames_flags_of.spec 𝓛 mem run) (frames_flags_of.clauses 𝓛 mem run)
      (λ κs a r e. r ≡ flags_of a.0)
  frames_flags_of_contract = kept 𝓛 frames_flags_of.ended _ _ _ refl (λ κs a. (tt, id⊢ 𝓤 _)) (λ κs a g r e. id⊢ 𝓤 _) (λ κs a r s x y p q. (p ∙ sym q, refl))

  frames_byte_at_contract : Contract 𝓛 frames_byte_at.ended (frames_byte_at.spec 𝓛 mem run) (frames_byte_at.clauses 𝓛 mem run)
      (λ κs a r e. r ≡ get_or a.0.now a.1.0 0)
  frames_byte_at_contract = kept 𝓛 frames_byte_at.ended _ _ _ refl (λ κs a. (tt, id⊢ 𝓤 _)) (λ κs a g r e. id⊢ 𝓤 _) (λ κs a r s x y p q. (p ∙ sym q, refl))

  frames_join_contract : Contract 𝓛 frames_join.ended (frames_join.spec 𝓛 mem run) (frames_join.clauses 𝓛 mem run)
      (λ κs a r e. r ≡ field_of (a.0 ∷ a.1.0 ∷ a.1.1.0 ∷ a.1.1.1.0 ∷ []))
  frames_join_contract = kept 𝓛 frames_join.ended _ _ _ refl (λ κs a. (tt, id⊢ 𝓤 _)) (λ κs a g r e. id⊢ 𝓤 _) (λ κs a r s x y p q. (p ∙ sym q, refl))

  frames_field_contract : Contract 𝓛 frames_field.ended (frames_field.spec 𝓛 mem run) (frames_field.clauses 𝓛 mem run)
      (λ κs a r e. r ≡ field_at a.0.now a.1.0 a.1.1.0)
  frames_field_contract = kept 𝓛 frames_field.ended _ _ _ refl (λ κs a. (tt, id⊢ 𝓤 _)) (λ κs a g r e. id⊢ 𝓤 _) (λ κs a r s x y p q. (p ∙ sym q, refl))

  frames_put_field_contract : Contract 𝓛 frames_put_field.ended (frames_put_field.spec 𝓛 mem run) (frames_put_field.clauses 𝓛 mem run)
      (λ κs a r e. PutsField a.0.now a.1.0 a.1.1.0 a.1.1.1.0 (number_back r) e.0.now)
  frames_put_field_contract =
      kept 𝓛 frames_put_field.ended _ _ _ refl (λ κs a. (tt, id⊢ 𝓤 _)) (λ κs a g r e. id⊢ 𝓤 _)
      (λ κs a r s x y p q. let u : _ = put_field_result_unique r s p q in (u.0, λ i. (u.1 i, (tt, (tt, (tt, tt))))))

  frames_seal_contract : Contract 𝓛 frames_seal.ended (frames_seal.spec 𝓛 mem run) (frames_seal.clauses 𝓛 mem run)
      (λ κs a r e. Seals a.0.now a.1.0 (number_back r) e.0.now)
  frames_seal_contract =
      kept 𝓛 frames_seal.ended _ _ _ refl (λ κs a. (tt, id⊢ 𝓤 _)) (λ κs a g r e. id⊢ 𝓤 _)
      (λ κs a r s x y p q. let u : _ = seal_result_unique r s p q in (u.0, λ i. (u.1 i, (tt, tt))))

  frames_is_sound_contract : Contract 𝓛 frames_is_sound.ended (frames_is_sound.spec 𝓛 mem run) (frames_is_sound.clauses 𝓛 mem run)
      (λ κs a r e. r ≡ is_sound a.0.now)
  frames_is_sound_contract = kept 𝓛 frames_is_sound.ended _ _ _ refl (λ κs a. (tt, id⊢ 𝓤 _)) (λ κs a g r e. id⊢ 𝓤 _) (λ κs a r s x y p q. (p ∙ sym q, refl))

  -- ---- hex

  digits_digit_of_contract : Contract 𝓛 digits_digit_of.ended (digits_digit_of.spec 𝓛 mem run) (digits_digit_of.clauses 𝓛 mem run)
      (λ κs a r e. r ≡ digit_value a.0)
  digits_digit_of_contract = kept 𝓛 digits_digit_of.ended _ _ _ refl (λ κs a. (tt, id⊢ 𝓤 _)) (λ κs a g r e. id⊢ 𝓤 _) (λ κs a r s x y p q. (p ∙ sym q, refl))

  digits_digit_contract : Contract 𝓛 digits_digit.ended (digits_digit.spec 𝓛 mem run) (digits_digit.clauses 𝓛 mem run)
      (λ κs a r e. r ≡ digit a.0)
  digits_digit_contract = kept 𝓛 digits_digit.ended _ _ _ refl (λ κs a. (tt, id⊢ 𝓤 _)) (λ κs a g r e. id⊢ 𝓤 _) (λ κs a r s x y p q. (p ∙ sym q, refl))

  digits_has_form_contract : Contract 𝓛 digits_has_form.ended (digits_has_form.spec 𝓛 mem run) (digits_has_form.clauses 𝓛 mem run)
      (λ κs a r e. r ≡ has_form a.0.now a.1.0.now)
  digits_has_form_contract = kept 𝓛 digits_has_form.ended _ _ _ refl (λ κs a. (tt, id⊢ 𝓤 _)) (λ κs a g r e. id⊢ 𝓤 _) (λ κs a r s x y p q. (p ∙ sym q, refl))

  digits_number_contract : Contract 𝓛 digits_number.ended (digits_number.spec 𝓛 mem run) (digits_number.clauses 𝓛 mem run)
      (λ κs a r e. r ≡ number_at a.0.now a.1.0 a.1.1.0)
  digits_number_contract = kept 𝓛 digits_number.ended _ _ _ refl (λ κs a. (tt, id⊢ 𝓤 _)) (λ κs a g r e. id⊢ 𝓤 _) (λ κs a r s x y p q. (p ∙ sym q, refl))

  digits_is_row_contract : Contract 𝓛 digits_is_row.ended (digits_is_row.spec 𝓛 mem run) (digits_is_row.clauses 𝓛 mem run)
      (λ κs a r e. r ≡ is_row a.0.now)
  digits_is_row_contract = kept 𝓛 digits_is_row.ended _ _ _ refl (λ κs a. (tt, id⊢ 𝓤 _)) (λ κs a g r e. id⊢ 𝓤 _) (λ κs a r s x y p q. (p ∙ sym q, refl))

  digits_read_row_contract : Contract 𝓛 digits_read_row.ended (digits_read_row.spec 𝓛 mem run) (digits_read_row.clauses 𝓛 mem run)
      (λ κs a r e. ReadsRow a.0.now a.1.0.now (number_back r) e.1.0.now)
  digits_read_row_contract =
      kept 𝓛 digits_read_row.ended _ _ _ refl (λ κs a. (tt, id⊢ 𝓤 _)) (λ κs a g r e. id⊢ 𝓤 _)
      (λ κs a r s x y p q. let u : _ = read_row_unique p q in (number_back_tells r s u.0, λ i. (tt, (u.1 i, tt))))

  digits_put_row_contract : Contract 𝓛 digits_put_row.ended (digits_put_row.spec 𝓛 mem run) (digits_put_row.clauses 𝓛 mem run)
      (λ κs a r e. PutsText (row_text a.0.now) a.1.0.now a.1.1.0 (number_back r) e.1.0.now)
  digits_put_row_contract =
      kept 𝓛 digits_put_row.ended _ _ _ refl (λ κs a. (tt, id⊢ 𝓤 _)) (λ κs a g r e. id⊢ 𝓤 _)
      (λ κs a r s x y p q. let u : _ = put_text_unique p q in (number_back_tells r s u.0, λ i. (tt, (u.1 i, (tt, tt)))))

  digits_put_bytes_contract : Contract 𝓛 digits_put_bytes.ended (digits_put_bytes.spec 𝓛 mem run) (digits_put_bytes.clauses 𝓛 mem run)
      (λ κs a r e. PutsText a.0.now a.1.0.now a.1.1.0 (number_back r) e.1.0.now)
  digits_put_bytes_contract =
      kept 𝓛 digits_put_bytes.ended _ _ _ refl (λ κs a. (tt, id⊢ 𝓤 _)) (λ κs a g r e. id⊢ 𝓤 _)
      (λ κs a r s x y p q. let u : _ = put_text_unique p q in (number_back_tells r s u.0, λ i. (tt, (u.1 i, (tt, tt)))))

  digits_put_digits_contract : Contract 𝓛 digits_put_digits.ended (digits_put_digits.spec 𝓛 mem run) (digits_put_digits.clauses 𝓛 mem run)
      (λ κs a r e. PutsText (hex_digits a.1.0 a.0) a.1.1.0.now a.1.1.1.0 (number_back r) e.1.1.0.now)
  digits_put_digits_contract =
      kept 𝓛 digits_put_digits.ended _ _ _ refl (λ κs a. (tt, id⊢ 𝓤 _)) (λ κs a g r e. id⊢ 𝓤 _)
      (λ κs a r s x y p q. let u : _ = put_text_unique p q in (number_back_tells r s u.0, λ i. (tt, (tt, (u.1 i, (tt, tt))))))

  digits_put_decimal_contract : Contract 𝓛 digits_put_decimal.ended (digits_put_decimal.spec 𝓛 mem run) (digits_put_decimal.clauses 𝓛 mem run)
      (λ κs a r e. PutsText (decimal a.0) a.1.0.now a.1.1.0 (number_back r) e.1.0.now)
  digits_put_decimal_contract =
      kept 𝓛 digits_put_decimal.ended _ _ _ refl (λ κs a. (tt, id⊢ 𝓤 _)) (λ κs a g r e. id⊢ 𝓤 _)
      (λ κs a r s x y p q. let u : _ = put_text_unique p q in (number_back_tells r s u.0, λ i. (tt, (u.1 i, (tt, tt)))))

  -- ---- slots

  slots_low_bits_contract : Contract 𝓛 slots_low_bits.ended (slots_low_bits.spec 𝓛 mem run) (slots_low_bits.clauses 𝓛 mem run)
      (λ κs a r e. r ≡ a.0 % 2 ^ a.1.0)
  slots_low_bits_contract = kept 𝓛 slots_low_bits.ended _ _ _ refl (λ κs a. (tt, id⊢ 𝓤 _)) (λ κs a g r e. id⊢ 𝓤 _) (λ κs a r s x y p q. (p ∙ sym q, refl))

  slots_high_bits_contract : Contract 𝓛 slots_high_bits.ended (slots_high_bits.spec 𝓛 mem run) (slots_high_bits.clauses 𝓛 mem run)
      (λ κs a r e. r ≡ a.0 / 2 ^ a.1.0)
  slots_high_bits_contract = kept 𝓛 slots_high_bits.ended _ _ _ refl (λ κs a. (tt, id⊢ 𝓤 _)) (λ κs a g r e. id⊢ 𝓤 _) (λ κs a r s x y p q. (p ∙ sym q, refl))

  slots_is_below_contract : Contract 𝓛 slots_is_below.ended (slots_is_below.spec 𝓛 mem run) (slots_is_below.clauses 𝓛 mem run)
      (λ κs a r e. r ≡ ltb a.0 (2 ^ a.1.0))
  slots_is_below_contract = kept 𝓛 slots_is_below.ended _ _ _ refl (λ κs a. (tt, id⊢ 𝓤 _)) (λ κs a g r e. id⊢ 𝓤 _) (λ κs a r s x y p q. (p ∙ sym q, refl))

  slots_mask_bytes_contract : Contract 𝓛 slots_mask_bytes.ended (slots_mask_bytes.spec 𝓛 mem run) (slots_mask_bytes.clauses 𝓛 mem run)
      (λ κs a r e. r ≡ mask_bytes a.0)
  slots_mask_bytes_contract = kept 𝓛 slots_mask_bytes.ended _ _ _ refl (λ κs a. (tt, id⊢ 𝓤 _)) (λ κs a g r e. id⊢ 𝓤 _) (λ κs a r s x y p q. (p ∙ sym q, refl))

  slots_fits_mask_contract : Contract 𝓛 slots_fits_mask.ended (slots_fits_mask.spec 𝓛 mem run) (slots_fits_mask.clauses 𝓛 mem run)
      (λ κs a r e. r ≡ fits_mask a.0 a.1.0 a.1.1.0)
  slots_fits_mask_contract = kept 𝓛 slots_fits_mask.ended _ _ _ refl (λ κs a. (tt, id⊢ 𝓤 _)) (λ κs a g r e. id⊢ 𝓤 _) (λ κs a r s x y p q. (p ∙ sym q, refl))

  slots_fits_slot_contract : Contract 𝓛 slots_fits_slot.ended (slots_fits_slot.spec 𝓛 mem run) (slots_fits_slot.clauses 𝓛 mem run)
      (λ κs a r e. r ≡ fits_slot a.0 a.1.0 a.1.1.0 a.1.1.1.0)
  slots_fits_slot_contract = kept 𝓛 slots_fits_slot.ended _ _ _ refl (λ κs a. (tt, id⊢ 𝓤 _)) (λ κs a g r e. id⊢ 𝓤 _) (λ κs a r s x y p q. (p ∙ sym q, refl))

  -- ---- tracks

  tracks_code_contract : Contract 𝓛 tracks_code.ended (tracks_code.spec 𝓛 mem run) (tracks_code.clauses 𝓛 mem run)
      (λ κs a r e. Codes a.0.now a.1.0 a.1.1.0.now (number_back r) e.1.1.0.now)
  tracks_code_contract =
      kept 𝓛 tracks_code.ended _ _ _ refl (λ κs a. (tt, id⊢ 𝓤 _)) (λ κs a g r e. id⊢ 𝓤 _)
      (λ κs a r s x y p q. let u : _ = code_result_unique p q in (u.0, λ i. (tt, (tt, (u.1 i, tt)))))

  tracks_decode_contract : Contract 𝓛 tracks_decode.ended (tracks_decode.spec 𝓛 mem run) (tracks_decode.clauses 𝓛 mem run)
      (λ κs a r e. DecodesTo a.0.now a.1.0.now r e.1.0.now)
  tracks_decode_contract =
      kept 𝓛 tracks_decode.ended _ _ _ refl (λ κs a. (tt, id⊢ 𝓤 _)) (λ κs a g r e. id⊢ 𝓤 _)
      (λ κs a r s x y p q. let u : _ = decode_result_unique p q in (u.0, λ i. (tt, (u.1 i, tt))))

  -- ---- coil

  coil_code_contract : Contract 𝓛 coil_code.ended (coil_code.spec 𝓛 mem run) (coil_code.clauses 𝓛 mem run)
      (λ κs a r e. CodesAnswer a.0.now a.1.0.now (number_back r) e.1.0.now)
  coil_code_contract =
      kept 𝓛 coil_code.ended _ _ _ refl (λ κs a. (tt, id⊢ 𝓤 _)) (λ κs a g r e. id⊢ 𝓤 _)
      (λ κs a r s x y p q. let u : _ = coil_code_result_unique p q in (u.0, λ i. (tt, (u.1 i, tt))))

  coil_decode_contract : Contract 𝓛 coil_decode.ended (coil_decode.spec 𝓛 mem run) (coil_decode.clauses 𝓛 mem run)
      (λ κs a r e. DecodesAnswerTo a.0.now a.1.0.now r e.1.0.now)
  coil_decode_contract =
      kept 𝓛 coil_decode.ended _ _ _ refl (λ κs a. (tt, id⊢ 𝓤 _)) (λ κs a g r e. id⊢ 𝓤 _)
      (λ κs a r s x y p q. let u : _ = coil_decode_result_unique p q in (u.0, λ i. (tt, (u.1 i, tt))))

  -- ---- input

  input_wrote_contract : Contract 𝓛 input_wrote.ended (input_wrote.spec 𝓛 mem run) (input_wrote.clauses 𝓛 mem run)
      (λ κs a r e. is_ok r ≡ is_ok a.1.1.0)
  input_wrote_contract =
      kept 𝓛 input_wrote.ended _ _ _ refl (λ κs a. (tt, id⊢ 𝓤 _)) (λ κs a g r e. id⊢ 𝓤 _) (λ κs a r s x y p q. (wrote_unique _ r s p q, refl))
