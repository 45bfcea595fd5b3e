-- How long requests are, that they are sound frames, and what a positive answer of `make` tells. By the lengths of their parts.
-- Assumes nothing.
use mathlib.Core.Path.{◌≡◌, refl, ap, ◌∙◌}
use mathlib.Core.Bool.{Bool, true, false, cond, ◌||◌}
use mathlib.Core.List.{List, [], ◌∷◌}
use Prim.Native.Nat.{ℕ, zero, suc, ◌+◌, ◌≤◌}
use native.Mathlib.Decide.{ℕ_discrete}
use native.Mathlib.Omega.{arith}
use borrow.Author.Tests.{eq-eqb, ne_eqb, eqb-true}
use lib.Dec.{eqb}
use lib.IntN.{pos, nat_abs, pos-ne-negsuc}
use lib.ListN.{length, take, replicate, length-append}
use Rattle.lent.specs.Lent.{over, refused}
use Rattle.lent.proofs.Over.{take_over}
use Rattle.crc.proofs.Seal.{length_sealed}
use Rattle.frames.specs.Field.{field_bytes}
use Rattle.frames.specs.Frame.{is_sound}
use Rattle.frames.proofs.Fields.{length_field_bytes}
use Rattle.frames.proofs.Sound.{sound_of_short}
use Rattle.reader.specs.declared.Request.{Request}
use Rattle.reader.specs.Steps.{Passes}
use Rattle.reader.specs.Request.{is_addressed, address, body, message, frame, is_asked, is_request, data_fits, make_refusal, make_answer, make_leaves, Makes}
use Rattle.reader.proofs.MakeWays.{passes_of_refusal, refusal_of_passes, written_most}

-- ---- the parts

pub length_address : (q : Request) → length (address q) ≡ cond (is_addressed q) 8 0
unfolding address
length_address q = go (is_addressed q)
  where
    go : (t : Bool) → length (cond t (field_bytes 8 q.uid) []) ≡ cond t 8 0
    go true = length_field_bytes 8 q.uid
    go false = refl

pub length_address_most : (q : Request) → length (address q) ≤ 8
length_address_most q = rw (length_address q) (go (is_addressed q))
  where
    go : (t : Bool) → cond t 8 0 ≤ 8
    go true = omega arith
    go false = omega arith

pub length_body_most : (q : Request) (written : List ℕ) → is_request q ≡ true → data_fits q (length written) ≡ true → length (body q written) ≤ 33
unfolding body
length_body_most q written asked fits =
    go (eqb q.command 0x20 || eqb q.command 0x22) (eqb q.command 0x21) (eqb q.command 0x23 || eqb q.command 0x2c)
    (eqb q.command 0x27 || eqb q.command 0x29) (λ e. written_most q (length written) asked fits (eqb-true q.command 0x21 e))
  where
    go : (a b d e : Bool) → (b ≡ true → length written ≤ 32)
        → length (cond a (q.first ∷ []) (cond b (q.first ∷ written) (cond d (q.first ∷ q.n ∷ []) (cond e (q.value ∷ []) [])))) ≤ 33
    go true b d e h = omega arith
    go false true d e h = omega (arith, h refl)
    go false false true e h = omega arith
    go false false false true h = omega arith
    go false false false false h = omega arith

-- ---- the whole

pub length_message : (q : Request) (written : List ℕ) → length (message q written) ≡ 2 + length (address q) + length (body q written)
unfolding message
length_message q written = omega (arith, length-append (address q) (body q written))

pub length_frame : (q : Request) (written : List ℕ) → length (frame q written) ≡ length (message q written) + 2
unfolding frame
length_frame q written = length_sealed (message q written)

pub length_frame_least : (q : Request) (written : List ℕ) → 4 ≤ length (frame q written)
length_frame_least q written = omega (arith, length_frame q written, length_message q written)

pub length_frame_most : (q : Request) (written : List ℕ) → is_request q ≡ true → data_fits q (length written) ≡ true → length (frame q written) ≤ 45
length_frame_most q written asked fits =
    omega (arith, length_frame q written, length_message q written, length_address_most q, length_body_most q written asked fits)

pub frame_sound : (q : Request) (written : List ℕ) → is_request q ≡ true → data_fits q (length written) ≡ true → is_sound (frame q written) ≡ true
unfolding frame
frame_sound q written asked fits =
    let long : length (message q written) ≡ 2 + length (address q) + length (body q written) = length_message q written in
    let few : length (address q) ≤ 8 = length_address_most q in
    let short : length (body q written) ≤ 33 = length_body_most q written asked fits in
    sound_of_short (message q written) (omega arith) (omega arith)

-- and the longest has 45 bytes: the room that is asked for is that of a request
abbrev pub longest_request : Request
longest_request = record { uid = 0xe004010000000021; size = 32; command = 0x21; mode = 1; option = 0; first = 0; n = 0; value = 0 }

pub longest_made : (is_request longest_request ≡ true) × (data_fits longest_request (length (replicate {A = ℕ} 32 0)) ≡ true)
    × (length (frame longest_request (replicate 32 0)) ≡ 45)
unfolding is_request is_asked is_addressed data_fits message address body field_bytes
longest_made = (refl, refl, length_frame longest_request (replicate 32 0) ∙ refl)

-- ---- a positive answer

refused_negative : (number n : ℕ) → (number ≡ 0 → ⊥) → pos n ≡ refused number → ⊥
refused_negative zero n h e = h refl
refused_negative (suc k) n h e = pos-ne-negsuc n k e

-- it is that of a request that is not refused
pub refusal_of_length : (q : Request) (written room : List ℕ) (n : ℕ) → pos n ≡ make_answer q written room
    → make_refusal q (length written) (length room) ≡ 0
unfolding make_answer
refusal_of_length q written room n e = go (ℕ_discrete number 0)
  where
    number : ℕ
    number = make_refusal q (length written) (length room)

    go : Dec (number ≡ 0) → number ≡ 0
    go (yes z) = z
    go (no z) = absurd (refused_negative number n z (rw (ne_eqb number 0 z) at e))

pub make_served : (q : Request) (written room : List ℕ) (n : ℕ) (made : List ℕ) → Makes q written room (pos n) made
    → (is_request q ≡ true) × (data_fits q (length written) ≡ true) × (take n made ≡ frame q written)
unfolding make_answer make_leaves
make_served q written room n made m =
    let none = refusal_of_length q written room n m.answer in
    let passes = passes_of_refusal q (length written) (length room) none in
    let served = eq-eqb (make_refusal q (length written) (length room)) 0 none in
    let long : n ≡ length (frame q written) = ap nat_abs (rw served at m.answer) in
    let left : made ≡ over (frame q written) room = rw served at m.leaves in
    (passes.asked, passes.fits, rw (long, left) (take_over (frame q written) room))

-- and it fits any number: a request has 45 bytes at the most
pub made_most : (q : Request) (written room : List ℕ) (n : ℕ) (made : List ℕ) → Makes q written room (pos n) made → n ≤ 45
unfolding make_answer
made_most q written room n made m =
    let none = refusal_of_length q written room n m.answer in
    let passes = passes_of_refusal q (length written) (length room) none in
    let served = eq-eqb (make_refusal q (length written) (length room)) 0 none in
    let long : n ≡ length (frame q written) = ap nat_abs (rw served at m.answer) in
    rw long (length_frame_most q written passes.asked passes.fits)

pub make_served_room : (q : Request) (written room : List ℕ) (n : ℕ) (made : List ℕ) → Makes q written room (pos n) made → 45 ≤ length room
make_served_room q written room n made m = (passes_of_refusal q (length written) (length room) (refusal_of_length q written room n m.answer)).enough

-- and every such request is served, in a room of 45
pub make_of_request : (q : Request) (written room : List ℕ) → is_request q ≡ true → data_fits q (length written) ≡ true → 45 ≤ length room
    → Makes q written room (pos (length (frame q written))) (over (frame q written) room)
unfolding make_answer make_leaves
make_of_request q written room asked fits enough =
    let passes : Passes q (length written) (length room) = record { asked = asked; fits = fits; enough = enough } in
    let served = eq-eqb (make_refusal q (length written) (length room)) 0 (refusal_of_passes q (length written) (length room) passes) in
    record { answer = rw served; leaves = rw served }
