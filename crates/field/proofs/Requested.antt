-- A card that hears a round's request is in step with the walk, and answers exactly if slot 0 calls it.
-- By the request's two heads, and the tests of the card's steps 1 to 3. Assumes nothing.
use mathlib.Core.Path.{◌≡◌, refl, ap, ◌∙◌}
use mathlib.Core.Bool.{Bool, true, false, cond, not, ◌&&◌}
use Prim.Native.Nat.{ℕ, ◌+◌, ◌^◌, ◌≤◌, ◌<◌}
use native.Mathlib.Omega.{arith}
use mathlib.Core.List.{List, ◌∷◌, ◌++◌}
use lib.ListN.{length, get_or}
use borrow.Author.Tests.{ltb-true, ltb-false, le-leb, lt-leb}
use Rattle.crc.specs.Check.{check_bytes, sealed}
use Rattle.crc.proofs.Seal.{length_sealed}
use Rattle.frames.specs.Flags.{flags_of, asks_inventory}
use Rattle.frames.specs.Field.{field_bytes}
use Rattle.frames.specs.Frame.{is_sound}
use Rattle.frames.proofs.Sound.{sound_of_short}
use Rattle.card.specs.declared.Card.{Card}
use Rattle.card.specs.declared.Sequence.TheVariants.{Running}
use Rattle.card.specs.declared.Mode.{Mode}
use Rattle.card.specs.declared.Mode.TheVariants.{Ready, Quiet, Selected}
use Rattle.card.specs.Record.{is_quiet, cleared, in_sequence}
use Rattle.card.specs.Inventory.{turn, fits_family, present, inventoried}
use Rattle.card.specs.Frame.{heard_inventory}
use Rattle.card.proofs.Heard.{cleared_mode, cleared_afi, cleared_uid, inventory_heard}
use Rattle.slots.specs.Fits.{mask_bytes, fits_slot}
use Rattle.commands.specs.Frame.{leaving, decided}
use Rattle.commands.proofs.Rules.{inventory_frame}
use Rattle.walk.specs.declared.Walk.{Walk}
use Rattle.walk.specs.Record.{mask_length, whole_mask, has_family}
use Rattle.walk.specs.Ask.{request_head, request_body, request}
use Rattle.walk.proofs.Requests.{length_head_least, length_body, length_request_most}
use Rattle.field.specs.Field.{listens, family_fits, answers}
use Rattle.field.proofs.TableOne.{fits_table}
use Rattle.field.proofs.InTime.{in_step, calls}
use Rattle.field.proofs.Request.{joined, family_parsed, none_parsed}

-- ---- the two heads

family_request : (w : Walk) → has_family w ≡ true
    → request w
    ≡ 0x16 ∷ 0x01 ∷ w.family ∷ mask_length w.level ∷ (field_bytes (mask_bytes (mask_length w.level)) (whole_mask w) ++ check_bytes (request_body w))
unfolding request request_body request_head sealed mask_bytes
family_request w e = rw e

none_request : (w : Walk) → has_family w ≡ false
    → request w ≡ 0x06 ∷ 0x01 ∷ mask_length w.level ∷ (field_bytes (mask_bytes (mask_length w.level)) (whole_mask w) ++ check_bytes (request_body w))
unfolding request request_body request_head sealed mask_bytes
none_request w e = rw e

-- ---- its length: 5 to 14 bytes, of up to sixteen levels

pub request_sound : (w : Walk) → w.level < 16 → is_sound (request w) ≡ true
unfolding request
request_sound w h =
    let long : length (request w) ≡ length (request_body w) + 2 = length_sealed (request_body w) in
    let most : length (request w) ≤ 14 = length_request_most w h in
    sound_of_short (request_body w) (omega (arith, length_body w, length_head_least w)) (omega arith)

-- ---- its flags: an inventory

request_asks : (w : Walk) → asks_inventory (flags_of (get_or (request w) 0 0)) ≡ true
unfolding flags_of
request_asks w = go (has_family w) refl
  where
    go : (b : Bool) → has_family w ≡ b → asks_inventory (flags_of (get_or (request w) 0 0)) ≡ true
    go true e = rw (family_request w e)
    go false e = rw (none_request w e)

-- ---- what the card makes of it

-- sound frames with one of the two flags are inventories
family_heard : (c : Card) (rest : List ℕ) → is_sound (0x16 ∷ rest) ≡ true
    → heard_inventory c (0x16 ∷ rest) ≡ inventoried (cleared c) (flags_of 0x16) (0x16 ∷ rest)
unfolding flags_of
family_heard c rest e = inventory_heard c (0x16 ∷ rest) e refl refl

none_heard : (c : Card) (rest : List ℕ) → is_sound (0x06 ∷ rest) ≡ true
    → heard_inventory c (0x06 ∷ rest) ≡ inventoried (cleared c) (flags_of 0x06) (0x06 ∷ rest)
unfolding flags_of
none_heard c rest e = inventory_heard c (0x06 ∷ rest) e refl refl

-- which cards take part: the card's tests are those of the field
quiet_listens : (m : Mode) → not (is_quiet m) ≡ listens m
unfolding is_quiet listens
quiet_listens Ready = refl
quiet_listens Quiet = refl
quiet_listens Selected = refl

pub card_answers : (asked : ℕ) → asked < 256 → (c : Card) → (not (is_quiet c.mode) && fits_family asked c.afi) ≡ answers asked c
unfolding answers family_fits
card_answers asked h c = rw (quiet_listens c.mode, lt-leb 256 asked h, fits_table asked c.afi)

family_answers : (w : Walk) (c : Card) → has_family w ≡ true
    → (not (is_quiet (cleared c).mode) && fits_family w.family (cleared c).afi) ≡ answers w.family c
unfolding has_family
family_answers w c e = rw (cleared_mode c, cleared_afi c) (card_answers w.family (ltb-true w.family 256 e) c)

none_answers : (w : Walk) (c : Card) → has_family w ≡ false → (not (is_quiet (cleared c).mode) && true) ≡ answers w.family c
unfolding answers family_fits has_family
none_answers w c e = rw (cleared_mode c, quiet_listens c.mode, le-leb 256 w.family (ltb-false w.family 256 e))

-- a card that joins is in step
joined_turn : (c : Card) (w : Walk) → w.slot ≡ 0
    → joined (answers w.family c) (cleared c) (mask_length w.level) (whole_mask w)
    ≡ turn (in_step w.family w.level (whole_mask w) w.slot c) (present (calls w.family w c))
unfolding joined in_step calls present whole_mask
joined_turn c w e = rw e (go (answers w.family c))
  where
    n : ℕ
    n = mask_length w.level

    go : (b : Bool) → joined b (cleared c) n (whole_mask w)
        ≡ turn (cond b (in_sequence (Running 0 n (whole_mask w)) (cleared c)) (cleared c)) (present (b && fits_slot c.uid n (whole_mask w) 0))
    go true = ap (λ (u : ℕ). turn (in_sequence (Running 0 n (whole_mask w)) (cleared c)) (present (fits_slot u n (whole_mask w) 0))) (cleared_uid c)
    go false = refl

pub mask_length_most : (level : ℕ) → level < 16 → mask_length level ≤ 60
unfolding mask_length
mask_length_most level h = omega arith

pub request_heard : (c : Card) (w : Walk) → w.level < 16 → whole_mask w < 2 ^ mask_length w.level → w.slot ≡ 0
    → heard_inventory c (request w) ≡ turn (in_step w.family w.level (whole_mask w) w.slot c) (present (calls w.family w c))
unfolding check_bytes
request_heard c w h g e = go (has_family w) refl ∙ joined_turn c w e
  where
    n : ℕ
    n = mask_length w.level

    go : (b : Bool) → has_family w ≡ b → heard_inventory c (request w) ≡ joined (answers w.family c) (cleared c) n (whole_mask w)
    go true f =
        let same = family_request w f in
        ap (heard_inventory c) same
        ∙ family_heard c _ (rw same at (request_sound w h))
        ∙ family_parsed (cleared c) w.family n (whole_mask w) (check_bytes (request_body w)) refl (mask_length_most w.level h) g
        ∙ ap (λ (b : Bool). joined b (cleared c) n (whole_mask w)) (family_answers w c f)
    go false f =
        let same = none_request w f in
        ap (heard_inventory c) same
        ∙ none_heard c _ (rw same at (request_sound w h))
        ∙ none_parsed (cleared c) n (whole_mask w) (check_bytes (request_body w)) refl (mask_length_most w.level h) g
        ∙ ap (λ (b : Bool). joined b (cleared c) n (whole_mask w)) (none_answers w c f)

-- and the rules decide on just that, over any lock bytes
pub request_decided : (c : Card) (locks : List ℕ) (w : Walk) → decided c locks (request w) ≡ leaving (heard_inventory c (request w))
request_decided c locks w = inventory_frame c locks (request w) (request_asks w)
