-- What the reader makes of the card's own answers: a success is read as what the card holds, an error as its code.
-- By what the part of a reply tells. Assumes nothing.
use mathlib.Core.Path.{◌≡◌, refl, ◌∙◌}
use mathlib.Core.Bool.{true, false}
use mathlib.Core.List.{List, [], ◌∷◌}
use Prim.Native.Nat.{ℕ, ◌+◌, ◌*◌, ◌≤◌, ◌<◌, ◌^◌}
use native.Mathlib.Omega.{arith}
use lib.Dec.{eqb}
use lib.ListN.{length}
use Rattle.std.specs.Prelude.{Some}
use Rattle.lent.specs.Lent.{over}
use Rattle.lent.proofs.Over.{over_none}
use Rattle.crc.specs.Check.{sealed}
use Rattle.card.specs.declared.Card.{Card}
use Rattle.card.specs.declared.Reply.TheVariants.{Done as Success, Blocks, Status, Information}
use Rattle.play.specs.Answer.{reply_bytes}
use Rattle.reader.specs.declared.Request.{Request}
use Rattle.reader.specs.declared.Reading.TheVariants.{Error, Done}
use Rattle.reader.specs.Request.{has_option, is_request}
use Rattle.reader.specs.Reading.{reads_blocks, block_bytes, lock_bytes, earned, reading_in, block_bytes_in, lock_bytes_in, shown_in, outcome, reading}
use Rattle.reader.specs.Shown.{moves_blocks, is_outside, reading_held, bytes_held, marks_held}
use Rattle.reader.proofs.Asked.{reply_to}
use Rattle.reader.proofs.AnswerRead.{part_read, code_read}
use Rattle.reader.proofs.ReplyParts.{Kind, One, Several, System, Locks, Plain, kind, Tells, tells_plain, tells}

module _ (c : Card) (memory locks : List ℕ) (q : Request) (is : is_request q ≡ true) (same : moves_blocks q ≡ true → q.size ≡ c.size)
    (stored : length memory ≡ c.blocks * c.size) (marks : length locks ≡ c.blocks) (some : 1 ≤ c.blocks) (sized : 1 ≤ c.size)
    (wide : c.uid < 2 ^ 64) (found found' : List ℕ) (room : block_bytes q ≤ length found) (room' : lock_bytes q ≤ length found') where
  told : is_outside c q ≡ false → (part : List ℕ) × Tells c memory locks q part
  told outside = tells c memory locks q same stored marks outside some sized wide

  -- "read back as what the card holds"
  pub success_read : is_outside c q ≡ false
      → reading q (sealed (reply_bytes c memory locks (reply_to q))) found found'
      ≡ outcome 0 (Some (reading_held c q)) (over (bytes_held memory q) found) (over (marks_held locks q) found')
  unfolding shown_in
  success_read outside = go (told outside)
    where
      go : (part : List ℕ) × Tells c memory locks q part
          → reading q (sealed (reply_bytes c memory locks (reply_to q))) found found'
          ≡ outcome 0 (Some (reading_held c q)) (over (bytes_held memory q) found) (over (marks_held locks q) found')
      go (part, t) =
          rw (t.reply, part_read q is found found' room room' part t.long t.all, t.read, t.blocks, t.marked) refl

  -- of the length that the request earns
  pub length_reply : is_outside c q ≡ false → length (reply_bytes c memory locks (reply_to q)) + 2 ≡ earned q
  length_reply outside = go (told outside)
    where
      go : (part : List ℕ) × Tells c memory locks q part → length (reply_bytes c memory locks (reply_to q)) + 2 ≡ earned q
      go (part, t) = rw t.reply (omega (arith, t.long))

  pub error_read : (code : ℕ) → reading q (sealed (0x01 ∷ code ∷ [])) found found' ≡ outcome 0 (Some (Error code)) found found'
  error_read = code_read q is found found' room room'

  -- ---- success alone, for the commands that have no more to tell

  shown_plain : eqb q.command 0x20 ≡ false → eqb q.command 0x23 ≡ false → eqb q.command 0x2b ≡ false → eqb q.command 0x2c ≡ false
      → shown_in q [] found found' ≡ outcome 0 (Some Done) found found'
  unfolding shown_in reading_in reads_blocks block_bytes_in lock_bytes_in
  shown_plain a b d e = rw (a, b, e, d, over_none found, over_none found') refl

  pub done_read : reply_to q ≡ Success → reading q (sealed (0x00 ∷ [])) found found' ≡ outcome 0 (Some Done) found found'
  unfolding reply_to
  done_read done = go (kind q.command)
    where
      go : Kind q.command → reading q (sealed (0x00 ∷ [])) found found' ≡ outcome 0 (Some Done) found found'
      go (One e) = let more : reply_to q ≡ Blocks q.first 1 (has_option q) = rw e refl in cc (done, more)
      go (Several e) = let more : reply_to q ≡ Blocks q.first (q.n + 1) (has_option q) = rw e refl in cc (done, more)
      go (System e) = let more : reply_to q ≡ Information = rw e refl in cc (done, more)
      go (Locks e) = let more : reply_to q ≡ Status q.first (q.n + 1) = rw e refl in cc (done, more)
      go (Plain a b d e) =
          let t : Tells c memory locks q [] = tells_plain c memory locks q a b d e in
          part_read q is found found' room room' [] t.long t.all ∙ shown_plain a b d e
