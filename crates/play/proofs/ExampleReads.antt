-- 01's examples of the system information and of reading blocks, on the call for a frame. By the tests of the definitions, with the check as
-- it was appended. Assumes nothing.
use mathlib.Core.Path.{◌≡◌, refl, ◌∙◌}
use mathlib.Core.Bool.{Bool, true, false, cond}
use mathlib.Core.List.{List, [], ◌∷◌, ◌++◌}
use Prim.Native.Nat.{ℕ, ◌+◌, ◌≤◌}
use native.Mathlib.Omega.{arith}
use lib.Dec.{eqb}
use lib.ListN.{length, take, drop, get_or}
use Rattle.crc.specs.Check.{sealed, check_bytes}
use Rattle.frames.specs.Flags.{flags_of}
use Rattle.frames.specs.Field.{field_of, field_at, field_bytes}
use Rattle.frames.proofs.Sound.{sound_of_short}
use Rattle.card.specs.declared.Card.{Card}
use Rattle.card.specs.declared.Reply.{Reply}
use Rattle.card.specs.declared.Reply.TheVariants.{Error, Blocks, Information}
use Rattle.commands.specs.declared.Effect.TheVariants.{Leave}
use Rattle.card.specs.Record.{remade, cleared}
use Rattle.commands.specs.Frame.{decided}
use Rattle.commands.specs.Request.{deed, fault, reads, width, commanded, is_listed, body_asked, refuses_option, body_length, judged, sorted, unaddressed, requested}
use Rattle.play.specs.Answer.{block_of, block_read, blocks_read, information, reply_bytes}
use Rattle.play.specs.Events.{replied, frame_event}
use Rattle.play.specs.Examples.{Listens, speech}
use Rattle.play.proofs.Copy.{length_part}
use Rattle.play.proofs.Answers.{length_information}
use Rattle.play.proofs.EventWays.{frame_served, told_length, answered_bytes}
use Rattle.play.proofs.ReadyFor.{ready_of}

module _ (c : Card) (memory locks found : List ℕ) (listens : Listens c memory locks found) where
  -- an answer with its check
  spoken : (frame : List ℕ) (reply : Reply) (n : ℕ) (bytes : List ℕ) → decided c locks frame ≡ deed (cleared c) Leave reply
      → reply_bytes (cleared c) memory locks reply ≡ bytes → length bytes + 2 ≡ n → (length bytes ≡ 0 → ⊥)
      → frame_event c frame memory locks found ≡ speech (cleared c) memory locks found n bytes
  unfolding replied speech
  spoken frame reply n bytes d r e some =
      frame_served c memory locks found frame listens.served (cleared c) reply d
      ∙ rw (r, ← (told_length bytes found some), ← (answered_bytes bytes found some), e)

  -- ---- what is decided

  -- flags with neither Select nor Address
  abbrev flags : Bool → ℕ
  flags option = cond option 0x42 0x02

  request_judged : (option : Bool) (command : ℕ) (body : List ℕ) → length body ≤ 8 → eqb command 0x02 ≡ false → eqb command 0x25 ≡ false
      → decided c locks (sealed (flags option ∷ command ∷ body))
      ≡ judged (cleared c) locks (flags_of (flags option)) (sealed (flags option ∷ command ∷ body)) 2 command
  unfolding decided requested unaddressed sorted flags_of sealed cleared remade
  request_judged true command body few a b = rw (sound_of_short (0x42 ∷ command ∷ body) (omega arith) (omega arith), listens.heard, a, b)
  request_judged false command body few a b = rw (sound_of_short (0x02 ∷ command ∷ body) (omega arith) (omega arith), listens.heard, a, b)

  information_decided : decided c locks (sealed (0x02 ∷ 0x2b ∷ [])) ≡ deed (cleared c) Leave Information
  unfolding judged commanded width is_listed body_asked refuses_option body_length field_at field_of flags_of sealed check_bytes
  information_decided = request_judged false 0x2b [] (omega arith) refl refl

  read_decided : (option : Bool) → c.blocks ≡ 32
      → decided c locks (sealed (flags option ∷ 0x23 ∷ 0x1f ∷ 0x00 ∷ [])) ≡ deed (cleared c) Leave (Blocks 31 1 option)
  unfolding judged commanded reads width is_listed body_asked refuses_option body_length field_at field_of flags_of sealed check_bytes cleared remade
  read_decided true b = request_judged true 0x23 (0x1f ∷ 0x00 ∷ []) (omega arith) refl refl ∙ rw b
  read_decided false b = request_judged false 0x23 (0x1f ∷ 0x00 ∷ []) (omega arith) refl refl ∙ rw b

  past_decided : c.blocks ≡ 32 → decided c locks (sealed (0x02 ∷ 0x23 ∷ 0x1f ∷ 0x01 ∷ [])) ≡ fault (cleared c) 0x10
  unfolding judged commanded reads width is_listed body_asked refuses_option body_length field_at field_of flags_of sealed check_bytes cleared remade
  past_decided b = request_judged false 0x23 (0x1f ∷ 0x01 ∷ []) (omega arith) refl refl ∙ rw b

  -- ---- 32 blocks of 4

  module _ (b : c.blocks ≡ 32) (z : c.size ≡ 4) where
    block_long : length (take 4 (drop 124 memory)) ≡ 4
    block_long = length_part 124 4 memory (omega (arith, rw (b, z) at (ready_of c (length memory) locks (length found) listens.served).stored))

    information_bytes : reply_bytes (cleared c) memory locks Information
        ≡ 0x00 ∷ 0x0f ∷ field_bytes 8 c.uid ++ c.dsfid ∷ c.afi ∷ 0x1f ∷ 0x03 ∷ c.ic_reference ∷ []
    unfolding reply_bytes information cleared remade
    information_bytes = rw (b, z)

    information_long : length (reply_bytes (cleared c) memory locks Information) ≡ 15
    unfolding reply_bytes
    information_long = omega (arith, length_information (cleared c))

    blocks_bytes : (option : Bool) → reply_bytes (cleared c) memory locks (Blocks 31 1 option) ≡ 0x00 ∷ block_read memory locks 4 option 31
    unfolding reply_bytes blocks_read cleared remade
    blocks_bytes option = rw z

    pub information_shown : frame_event c (sealed (0x02 ∷ 0x2b ∷ [])) memory locks found
        ≡ speech (cleared c) memory locks found 17
        (0x00 ∷ 0x0f ∷ field_bytes 8 c.uid ++ c.dsfid ∷ c.afi ∷ 0x1f ∷ 0x03 ∷ c.ic_reference ∷ [])
    information_shown =
        let long = rw information_bytes at information_long in
        spoken _ Information 17 _ information_decided information_bytes (omega (arith, long)) (λ e. omega (arith, long))

    pub last_read : frame_event c (sealed (0x02 ∷ 0x23 ∷ 0x1f ∷ 0x00 ∷ [])) memory locks found
        ≡ speech (cleared c) memory locks found 7 (0x00 ∷ take 4 (drop 124 memory))
    unfolding block_read block_of
    last_read =
        spoken _ (Blocks 31 1 false) 7 _ (read_decided false b) (blocks_bytes false) (omega (arith, block_long)) (λ e. omega arith)

    pub last_read_with_lock : frame_event c (sealed (0x42 ∷ 0x23 ∷ 0x1f ∷ 0x00 ∷ [])) memory locks found
        ≡ speech (cleared c) memory locks found 8 (0x00 ∷ get_or locks 31 0 ∷ take 4 (drop 124 memory))
    unfolding block_read block_of
    last_read_with_lock =
        spoken _ (Blocks 31 1 true) 8 _ (read_decided true b) (blocks_bytes true) (omega (arith, block_long)) (λ e. omega arith)

    pub past_last_refused : frame_event c (sealed (0x02 ∷ 0x23 ∷ 0x1f ∷ 0x01 ∷ [])) memory locks found
        ≡ speech (cleared c) memory locks found 4 (0x01 ∷ 0x10 ∷ [])
    unfolding reply_bytes
    past_last_refused = spoken _ (Error 0x10) 4 _ (past_decided b) refl refl (λ e. omega arith)
