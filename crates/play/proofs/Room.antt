-- An answer of an accepted card has its length and has room, with the check behind it; silence alone has no byte. By the reply.
-- Assumes nothing.
use mathlib.Core.Path.{◌≡◌, refl}
use mathlib.Core.Bool.{Bool, true, false}
use mathlib.Core.List.{List, []}
use Prim.Native.Nat.{ℕ, ◌+◌, ◌-◌, ◌*◌, ◌≤◌}
use native.Mathlib.Nat.{mul-le-mul, mul-le-mul_right, le-mul_of_pos_right}
use native.Mathlib.Omega.{arith}
use borrow.Author.Tests.{leb-true}
use lib.ListN.{length}
use Rattle.lent.specs.Puts.{Puts}
use Rattle.card.specs.declared.Card.{Card}
use Rattle.card.specs.declared.Reply.{Reply}
use Rattle.card.specs.declared.Reply.TheVariants.{Silence, Error, Done, Present, Blocks, Status, Information}
use Rattle.card.specs.Reply.{lead, reply_length}
use Rattle.play.specs.Refusal.{room_asked, room_fits}
use Rattle.play.specs.Fits.{reply_fits}
use Rattle.play.specs.Steps.{is_brief, Ready, PutsReply}
use Rattle.play.specs.Answer.{reply_bytes, locks_read}
use Rattle.play.proofs.Within.{blocks_within, status_within}
use Rattle.play.proofs.Copy.{length_part}
use Rattle.play.proofs.Answers.{length_presence, length_information}
use Rattle.play.proofs.Blocks.{length_blocks}
use Rattle.play.proofs.Brief.{brief_most}

-- ---- the room that number 4 asks for

pub record Room (c : Card) (room : ℕ) : Type 0 where
  pub asked : room_asked c ≤ room
  pub least : 32 ≤ room

pub room_of : (c : Card) (room : ℕ) → room_fits c room ≡ true → Room c room
unfolding room_fits room_asked
room_of c room e =
    let asked : room_asked c ≤ room = leb-true (room_asked c) room e in
    record { asked = asked; least = omega arith }

-- ---- it holds every answer

lead_most : (option : Bool) → lead option ≤ 1
unfolding lead
lead_most true = omega arith
lead_most false = omega arith

pub reply_most : (c : Card) (reply : Reply) → reply_fits c reply ≡ true → reply_length c reply ≤ room_asked c
unfolding reply_length room_asked
reply_most c Silence fits = omega arith
reply_most c (Error code) fits = omega arith
reply_most c Done fits = omega arith
reply_most c Present fits = omega arith
reply_most c (Blocks first n option) fits =
    let within : first + n ≤ c.blocks = blocks_within c {option = option} refl fits in
    let few : n ≤ c.blocks = omega arith in
    let one : c.size + lead option ≤ c.size + 1 = omega (arith, lead_most option) in
    let all : n * (c.size + lead option) ≤ c.blocks * (c.size + 1) = mul-le-mul few one in
    omega arith
reply_most c (Status first n) fits =
    let within : first + n ≤ c.blocks = status_within c refl fits in
    let all : c.blocks ≤ c.blocks * (c.size + 1) = le-mul_of_pos_right c.blocks (omega arith) in
    omega arith
reply_most c Information fits = omega arith

-- blocks and lock bytes that are read have room
pub blocks_room : (c : Card) (room : ℕ) {reply : Reply} {first n : ℕ} {option : Bool} → reply ≡ Blocks first n option → reply_fits c reply ≡ true
    → room_fits c room ≡ true → 3 + n * (c.size + lead option) ≤ room
unfolding reply_length
blocks_room c room {reply} is fits e = omega (arith, (room_of c room e).asked, rw is at (reply_most c reply fits))

pub status_room : (c : Card) (room : ℕ) {reply : Reply} {first n : ℕ} → reply ≡ Status first n → reply_fits c reply ≡ true → room_fits c room ≡ true
    → 3 + n ≤ room
unfolding reply_length
status_room c room {reply} is fits e = omega (arith, (room_of c room e).asked, rw is at (reply_most c reply fits))

-- and a reply puts as many bytes as its answer has before the check
pub length_reply : (c : Card) (memory locks : List ℕ) (reply : Reply) → length memory ≡ c.blocks * c.size → length locks ≡ c.blocks
    → reply_fits c reply ≡ true → length (reply_bytes c memory locks reply) ≡ reply_length c reply - 2
unfolding reply_bytes reply_length locks_read
length_reply c memory locks Silence stored marks fits = omega arith
length_reply c memory locks (Error code) stored marks fits = omega arith
length_reply c memory locks Done stored marks fits = omega arith
length_reply c memory locks Present stored marks fits = omega (arith, length_presence c)
length_reply c memory locks (Blocks first n option) stored marks fits =
    let within : first + n ≤ c.blocks = blocks_within c {option = option} refl fits in
    let held : (first + n) * c.size ≤ c.blocks * c.size = mul-le-mul_right c.size within in
    omega (arith, length_blocks memory locks c.size option first n (omega arith))
length_reply c memory locks (Status first n) stored marks fits =
    let within : first + n ≤ c.blocks = status_within c refl fits in
    omega (arith, length_part first n locks (omega arith))
length_reply c memory locks Information stored marks fits = omega (arith, length_information c)

-- the check has room behind the answer
pub reply_room : (c : Card) (memory locks : List ℕ) (reply : Reply) (room : ℕ) → Ready c (length memory) (length locks) room
    → reply_fits c reply ≡ true → length (reply_bytes c memory locks reply) + 2 ≤ room
reply_room c memory locks reply room ready fits =
    omega (arith, room_of c room ready.fits, reply_most c reply fits, length_reply c memory locks reply ready.stored ready.marks fits)

-- silence has no byte, and it alone
pub silence_length : (c : Card) (memory locks : List ℕ) → length (reply_bytes c memory locks Silence) ≡ 0
unfolding reply_bytes
silence_length c memory locks = refl

pub reply_silent : (c : Card) (memory locks : List ℕ) (reply : Reply) → length (reply_bytes c memory locks reply) ≡ 0 → reply ≡ Silence
unfolding reply_bytes
reply_silent c memory locks Silence e = refl
reply_silent c memory locks (Error code) e = absurd (omega arith)
reply_silent c memory locks Done e = absurd (omega arith)
reply_silent c memory locks Present e = absurd (omega arith)
reply_silent c memory locks (Blocks first n option) e = absurd (omega arith)
reply_silent c memory locks (Status first n) e = absurd (omega arith)
reply_silent c memory locks Information e = absurd (omega arith)

-- a reply that was put has room for its check
pub reply_put : (c : Card) (memory locks found : List ℕ) (reply : Reply) {n : ℕ} {left : List ℕ}
    → Ready c (length memory) (length locks) (length found) → reply_fits c reply ≡ true → Puts (reply_bytes c memory locks reply) found n left
    → PutsReply (reply_bytes c memory locks reply) found n left
reply_put c memory locks found reply ready fits p =
    record { puts = p; room = omega (arith, p.count, reply_room c memory locks reply (length found) ready fits) }

pub brief_put : (c : Card) (found : List ℕ) (reply : Reply) {n : ℕ} {left : List ℕ} → is_brief reply ≡ true → 12 ≤ length found
    → Puts (reply_bytes c [] [] reply) found n left → PutsReply (reply_bytes c [] [] reply) found n left
brief_put c found reply brief h p = record { puts = p; room = omega (arith, p.count, brief_most c reply brief) }
