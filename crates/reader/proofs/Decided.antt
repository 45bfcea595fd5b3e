-- What the card's rules make of a frame that was made here: the deed that the request asks of a card that it calls, silence and no effect else.
-- By the tests of the rules, in their order, with the bytes of Places and the table of Table. Assumes nothing.
use mathlib.Core.Path.{◌≡◌, refl, sym, ◌∙◌}
use mathlib.Core.Bool.{Bool, true, false, cond, not, ◌&&◌}
use mathlib.Core.List.{List, ◌∷◌}
use Prim.Native.Nat.{ℕ, ◌+◌, ◌≤◌, ◌<◌, ◌^◌}
use native.Mathlib.Omega.{arith}
use borrow.Author.Tests.{eq-eqb, ne_eqb, eqb-true, le-ltb}
use lib.Dec.{eqb}
use lib.ListN.{length, take, drop, get_or}
use lib.Seq.{drop-drop, take_at}
use Rattle.crc.specs.Check.{sealed, check_bytes}
use Rattle.card.specs.declared.Card.{Card}
use Rattle.card.specs.declared.Mode.{Mode}
use Rattle.card.specs.declared.Mode.TheVariants.{Ready, Quiet, Selected}
use Rattle.card.specs.declared.Reply.TheVariants.{Silence}
use Rattle.card.specs.Record.{remade, cleared, in_mode, is_quiet, is_selected}
use Rattle.commands.specs.declared.Effect.TheVariants.{Leave}
use Rattle.commands.specs.declared.Deed.{Deed}
use Rattle.commands.specs.Frame.{decided}
use Rattle.commands.specs.Request.{silent, is_listed, body_length, body_asked, judged, sorted, passed_by, addressed, unaddressed, requested}
use Rattle.reader.specs.declared.Request.{Request}
use Rattle.reader.specs.Request.{is_addressed, is_for_selected, has_option, flags, body, message, frame, is_asked, is_request, data_fits}
use Rattle.reader.specs.Shown.{moves_blocks, is_listening, is_chosen, is_called}
use Rattle.reader.proofs.Asked.{body_at, deed_of}
use Rattle.reader.proofs.Kept.{either_holds}
use Rattle.reader.proofs.Freed.{Freed, cleared_freed, mode_freed}
use Rattle.reader.proofs.MakeWays.{parts_of_request}
use Rattle.reader.proofs.Lengths.{frame_sound}
use Rattle.reader.proofs.Places.{flagged, flags_of_request, rest_of_frame, uid_of_frame, length_of_frame, body_length_lem, asked_of_size}
use Rattle.reader.proofs.Commands.{least_asked, one_of_twelve}
use Rattle.reader.proofs.Table.{table_of_request}

first_byte : (q : Request) (written : List ℕ) → get_or (frame q written) 0 0 ≡ flags q
unfolding frame sealed message
first_byte q written = refl

second_byte : (q : Request) (written : List ℕ) → get_or (frame q written) 1 0 ≡ q.command
unfolding frame sealed message
second_byte q written = refl

-- 25 is addressed
addressed_25 : (is25 a : Bool) → cond is25 a true ≡ true → (is25 && not a) ≡ false
addressed_25 true true h = refl
addressed_25 true false h = sym h
addressed_25 false a h = refl

-- the card's modes in the reader's words
mode_listens : (m : Mode) → not (is_quiet m) ≡ is_listening m
unfolding is_quiet is_listening
mode_listens Ready = refl
mode_listens Quiet = refl
mode_listens Selected = refl

mode_chosen : (m : Mode) → is_selected m ≡ is_chosen m
unfolding is_selected is_chosen
mode_chosen Ready = refl
mode_chosen Quiet = refl
mode_chosen Selected = refl

-- of three deeds: a card that is called does the first, any other one of the others
called_does : (a x y : Bool) (d e f : Deed) → cond a x y ≡ true → cond a (cond x d e) (cond y d f) ≡ d
called_does true x y d e f h = rw h
called_does false x y d e f h = rw h

other_does : (P : Deed → Type 0) (a x y : Bool) (d e f : Deed) → cond a x y ≡ false → P e → P f → P (cond a (cond x d e) (cond y d f))
other_does P true x y d e f h p r = rw h p
other_does P false x y d e f h p r = rw h r

module _ (c : Card) (locks : List ℕ) (q : Request) (written : List ℕ) (is : is_request q ≡ true) (fits : data_fits q (length written) ≡ true)
    (same : moves_blocks q ≡ true → q.size ≡ c.size) (wide : q.uid < 2 ^ 64) where
  -- step 6: listed, and its body as long as asked
  judged_of_request : (a s : Bool)
      → judged (cleared c) locks (flagged a s (has_option q)) (frame q written) (body_at q) q.command ≡ deed_of c locks q
  unfolding judged is_listed is_asked cleared remade
  judged_of_request a s =
      let asked = (parts_of_request q is).0 in
      let long = body_length_lem q written is fits ∙ asked_of_size q c.size (frame q written) (body_at q) same in
      rw (asked, eq-eqb (body_length (frame q written) (body_at q)) (body_asked (frame q written) (body_at q) q.command c.size) long)
      (table_of_request c locks q written (frame q written) (check_bytes (message q written)) (has_option q) (body_at q) refl refl (rest_of_frame q written)
      (one_of_twelve q.command asked))

  -- step 5: no 02, and 25 is addressed
  sorted_of_request : (a s : Bool) → is_addressed q ≡ a
      → sorted (cleared c) locks (flagged a s (has_option q)) (frame q written) (body_at q) ≡ deed_of c locks q
  unfolding sorted
  sorted_of_request a s e =
      let parts = parts_of_request q is in
      let other : eqb q.command 0x02 ≡ false = ne_eqb q.command 0x02 (λ k. omega (arith, least_asked q.command parts.0)) in
      rw (second_byte q written, other, addressed_25 (eqb q.command 0x25) a (rw e at parts.1)) (judged_of_request a s)

  place_of_body : (a : Bool) → is_addressed q ≡ a → body_at q ≡ cond a 10 2
  unfolding body_at
  place_of_body a e = rw e

  -- step 4: an equal UID, the mode Selected, or any but Quiet
  requested_of_request : (a : Bool) → is_addressed q ≡ a
      → requested (cleared c) locks (flagged a (is_for_selected q) (has_option q)) (frame q written)
      ≡ cond a (cond (eqb q.uid c.uid) (deed_of c locks q) (passed_by (cleared c) q.command))
      (cond (cond (is_for_selected q) (is_chosen c.mode) (is_listening c.mode)) (deed_of c locks q) (silent (cleared c)))
  unfolding requested addressed unaddressed cleared remade
  requested_of_request true e =
      let place : body_at q ≡ 10 = place_of_body true e in
      rw (
        le-ltb (length (frame q written)) 12 (omega (arith, length_of_frame q written)),
        uid_of_frame q written e wide,
        second_byte q written,
        rw place at (sorted_of_request true (is_for_selected q) e),
      )
  requested_of_request false e = rw (mode_chosen c.mode, mode_listens c.mode, rw (place_of_body false e) at (sorted_of_request false (is_for_selected q) e))

  decided_of_request : decided c locks (frame q written)
      ≡ cond (is_addressed q) (cond (eqb q.uid c.uid) (deed_of c locks q) (passed_by (cleared c) q.command))
      (cond (cond (is_for_selected q) (is_chosen c.mode) (is_listening c.mode)) (deed_of c locks q) (silent (cleared c)))
  unfolding decided
  decided_of_request = rw (frame_sound q written is fits, first_byte q written, flags_of_request q) (requested_of_request (is_addressed q) refl)

  pub decided_called : is_called c q ≡ true → decided c locks (frame q written) ≡ deed_of c locks q
  unfolding is_called
  decided_called called = decided_of_request ∙ called_does (is_addressed q) _ _ _ _ _ called

  pub decided_not_called : is_called c q ≡ false
      → ((decided c locks (frame q written)).reply ≡ Silence) × ((decided c locks (frame q written)).effect ≡ Leave)
  unfolding is_called passed_by
  decided_not_called other =
      rw decided_of_request
      (other_does (λ (d : Deed). (d.reply ≡ Silence) × (d.effect ≡ Leave)) (is_addressed q) _ _ _ _ _ other (refl, refl) (refl, refl))

  -- and nothing runs or is held
  pub decided_not_called_free : is_called c q ≡ false → Freed (decided c locks (frame q written)).card
  unfolding is_called passed_by
  decided_not_called_free other =
      rw decided_of_request
      (other_does (λ (d : Deed). Freed d.card) (is_addressed q) _ _ _ _ _ other
      (either_holds Freed (eqb q.command 0x25 && is_selected (cleared c).mode) (in_mode Ready (cleared c)) (cleared c) (mode_freed Ready (cleared c) (cleared_freed c))
      (cleared_freed c)) (cleared_freed c))

-- ---- the data of 21

module _ (q : Request) (written : List ℕ) (is : is_request q ≡ true) (fits : data_fits q (length written) ≡ true) (e : q.command ≡ 0x21) where
  body_of_21 : body q written ≡ q.first ∷ written
  unfolding body
  body_of_21 = rw e

  length_of_data : length written ≡ q.size
  unfolding data_fits
  length_of_data = eqb-true (length written) q.size (rw e at fits)

  -- they stand after the block's number, before the check
  pub data_place : take q.size (drop (body_at q + 1) (frame q written)) ≡ written
  data_place =
      rw (← (drop-drop 1 (body_at q) (frame q written)), rest_of_frame q written, body_of_21)
      (take_at written (check_bytes (message q written)) q.size length_of_data)

  pub data_within : body_at q + 1 + q.size ≤ length (frame q written)
  data_within = rw (length_of_frame q written, body_of_21) (omega (arith, length_of_data))
