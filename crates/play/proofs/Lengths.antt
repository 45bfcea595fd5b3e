-- How long an answer is: none, or within the limits of answers; the length that is told, also where memory or lock bytes were changed.
-- By the reply, by what is put, and by what a deed leaves of their lengths. Assumes nothing.
use mathlib.Core.Path.{◌≡◌, refl, sym, ◌∙◌}
use mathlib.Core.Bool.{true}
use mathlib.Core.List.{List, []}
use Prim.Native.Nat.{ℕ, ◌+◌, ◌-◌, ◌*◌, ◌≤◌}
use native.Mathlib.Nat.{mul-le-mul}
use native.Mathlib.Decide.{ℕ_discrete}
use native.Mathlib.Omega.{arith}
use lib.ListN.{length}
use Rattle.frames.specs.Frame.{shortest_answer, longest_answer}
use Rattle.card.specs.declared.Card.{Card}
use Rattle.card.specs.declared.Reply.{Reply}
use Rattle.card.specs.declared.Reply.TheVariants.{Silence, Error, Done, Present, Blocks, Status, Information}
use Rattle.card.specs.Record.{shape_fits}
use Rattle.card.specs.Reply.{reply_length}
use Rattle.card.proofs.Accepted.{Shape, shape_of}
use Rattle.commands.specs.declared.Deed.{Deed}
use Rattle.play.specs.Refusal.{room_asked}
use Rattle.play.specs.Answer.{reply_bytes}
use Rattle.play.specs.Effects.{memory_after, locks_after}
use Rattle.play.specs.Fits.{reply_fits}
use Rattle.play.specs.Steps.{DeedReady}
use Rattle.play.specs.Events.{length_told, carried_out, replied}
use Rattle.play.proofs.Room.{reply_most, length_reply}
use Rattle.play.proofs.EventWays.{told_silence, told_length}
use Rattle.play.proofs.Stays.{length_memory, length_locks}

-- ---- an answer is none, or has 3 to 8451 bytes

pub reply_least : (c : Card) (reply : Reply) → (reply_length c reply ≡ 0 → ⊥) → shortest_answer ≤ reply_length c reply
unfolding reply_length shortest_answer
reply_least c Silence some = absurd (some refl)
reply_least c (Error code) some = omega arith
reply_least c Done some = omega arith
reply_least c Present some = omega arith
reply_least c (Blocks first n option) some = omega arith
reply_least c (Status first n) some = omega arith
reply_least c Information some = omega arith

-- the shape limits the room that number 4 asks for
pub asked_longest : (c : Card) → shape_fits c.blocks c.size ≡ true → room_asked c ≤ longest_answer
unfolding room_asked longest_answer
asked_longest c e =
    let shape : Shape c.blocks c.size = shape_of c.blocks c.size e in
    let more : c.size + 1 ≤ 33 = omega (arith, shape.size_most) in
    let all : c.blocks * (c.size + 1) ≤ 256 * 33 = mul-le-mul shape.blocks_most more in
    omega arith

pub reply_longest : (c : Card) (reply : Reply) → shape_fits c.blocks c.size ≡ true → reply_fits c reply ≡ true → reply_length c reply ≤ longest_answer
reply_longest c reply e fits = omega (arith, asked_longest c e, reply_most c reply fits)

-- ---- and it is the length that is told

pub reply_told : (c : Card) (memory locks : List ℕ) (reply : Reply) → length memory ≡ c.blocks * c.size → length locks ≡ c.blocks
    → reply_fits c reply ≡ true → length_told (reply_bytes c memory locks reply) ≡ reply_length c reply
unfolding shortest_answer
reply_told c memory locks reply stored marks fits = go (ℕ_discrete (reply_length c reply) 0)
  where
    body : List ℕ
    body = reply_bytes c memory locks reply

    put : length body ≡ reply_length c reply - 2
    put = length_reply c memory locks reply stored marks fits

    go : Dec (reply_length c reply ≡ 0) → length_told body ≡ reply_length c reply
    go (yes e) = sym (told_silence body [] (omega (arith, put))) ∙ sym e
    go (no some) =
        let least : 3 ≤ reply_length c reply = reply_least c reply some in
        sym (told_length body [] (λ z. omega (arith, put))) ∙ omega (arith, put)

-- a deed that is carried out
pub deed_told : (d : Deed) (frame memory locks found : List ℕ) → DeedReady frame d (length memory) (length locks) (length found)
    → (carried_out d frame memory locks found).told ≡ reply_length d.card d.reply
unfolding carried_out replied
deed_told d frame memory locks found ready =
    let m : List ℕ = memory_after d.card frame memory d.effect in
    let l : List ℕ = locks_after locks d.effect in
    reply_told d.card m l d.reply
    (length_memory d.card frame memory d.effect ready.effect ready.ready.stored ∙ ready.ready.stored)
    (length_locks locks d.effect ∙ ready.ready.marks)
    ready.reply
