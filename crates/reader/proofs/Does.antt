-- What a request does where it finds no fault: the card after it, command by command; memory and lock bytes. By the twelve commands. Assumes nothing.
use mathlib.Core.Path.{◌≡◌, refl, sym, ap, ◌∙◌}
use mathlib.Core.Bool.{Bool, true, false, cond, or-false}
use mathlib.Core.List.{List}
use Prim.Native.Nat.{ℕ, ◌+◌, ◌*◌}
use native.Mathlib.Omega.{arith}
use borrow.Author.Tests.{eqb-true}
use lib.Dec.{eqb}
use lib.ListN.{set}
use Rattle.std.specs.Prelude.{Result}
use Rattle.refusals.specs.declared.Refusal.{Refusal}
use Rattle.lent.specs.Lent.{placed}
use Rattle.card.specs.declared.Card.{Card}
use Rattle.card.specs.declared.Held.{Held}
use Rattle.card.specs.declared.Held.TheVariants.{Success}
use Rattle.card.specs.declared.Reply.{Reply}
use Rattle.card.specs.declared.Reply.TheVariants.{Silence}
use Rattle.card.specs.Record.{remade, cleared, in_mode, holding, with_afi, with_dsfid}
use Rattle.commands.specs.declared.Effect.TheVariants.{Leave, Write, Lock}
use Rattle.play.specs.declared.Served.{Served}
use Rattle.play.specs.Effects.{locks_after}
use Rattle.play.specs.Events.{replied, card_after}
use Rattle.reader.specs.declared.Request.{Request}
use Rattle.reader.specs.Request.{frame}
use Rattle.reader.specs.Shown.{is_called, is_held, mistakes_option, is_outside, relocks, writes_locked, code_of, memory_written, locks_set, mode_gone, byte_written, lock_set, Does}
use Rattle.reader.proofs.Asked.{reply_to, body_at, effect_of, changed_by}
use Rattle.reader.proofs.Commands.{OneOfTwelve, Is20, Is21, Is22, Is23, Is25, Is26, Is27, Is28, Is29, Is2a, Is2b, Is2c, one_of_twelve}
use Rattle.reader.proofs.MakeWays.{parts_of_request}
use Rattle.reader.proofs.Kept.{Kept, changed_kept, holding_kept}
use Rattle.reader.proofs.Ready.{ready_of}
use Rattle.reader.proofs.Stored.{stored_data, stored_nothing}
use Rattle.reader.proofs.Decided.{data_place}
use Rattle.reader.proofs.Ends.{Meets, Ends, done_ends, done_held_ends}

-- ---- what is written is not locked

open_of : (c : Card) (locks : List ℕ) (q : Request) → code_of c locks q ≡ 0 → writes_locked c locks q ≡ false
unfolding code_of
open_of c locks q e = go (mistakes_option q) (is_outside c q) (relocks c locks q) (writes_locked c locks q) e
  where
    go : (a b d f : Bool) → ◌≡◌ {A = ℕ} (cond a 0x03 (cond b 0x10 (cond d 0x11 (cond f 0x12 0)))) 0 → f ≡ false
    go true b d f h = absurd (omega arith)
    go false true d f h = absurd (omega arith)
    go false false true f h = absurd (omega arith)
    go false false false true h = absurd (omega arith)
    go false false false false h = refl

afi_open : (c : Card) (locks : List ℕ) (q : Request) → code_of c locks q ≡ 0 → q.command ≡ 0x27 → c.afi_locked ≡ false
unfolding writes_locked
afi_open c locks q z is = sym (or-false c.afi_locked) ∙ rw is at (open_of c locks q z)

dsfid_open : (c : Card) (locks : List ℕ) (q : Request) → code_of c locks q ≡ 0 → q.command ≡ 0x29 → c.dsfid_locked ≡ false
unfolding writes_locked
dsfid_open c locks q z is = rw is at (open_of c locks q z)

-- ---- the card after it

record CardDoes (q : Request) (c d : Card) : Type 0 where
  mode : d.mode ≡ mode_gone q c.mode
  afi : d.afi ≡ byte_written q 0x27 c.afi
  dsfid : d.dsfid ≡ byte_written q 0x29 c.dsfid
  afi_lock : d.afi_locked ≡ lock_set q 0x28 c.afi_locked
  dsfid_lock : d.dsfid_locked ≡ lock_set q 0x2a c.dsfid_locked

card_does : (c : Card) (locks : List ℕ) (q : Request) → code_of c locks q ≡ 0 → OneOfTwelve q.command → CardDoes q c (changed_by q (cleared c))
unfolding changed_by cleared in_mode with_afi with_dsfid remade mode_gone byte_written lock_set
card_does c locks q z (Is20 e) = rw e (record { mode = refl; afi = refl; dsfid = refl; afi_lock = refl; dsfid_lock = refl })
card_does c locks q z (Is21 e) = rw e (record { mode = refl; afi = refl; dsfid = refl; afi_lock = refl; dsfid_lock = refl })
card_does c locks q z (Is22 e) = rw e (record { mode = refl; afi = refl; dsfid = refl; afi_lock = refl; dsfid_lock = refl })
card_does c locks q z (Is23 e) = rw e (record { mode = refl; afi = refl; dsfid = refl; afi_lock = refl; dsfid_lock = refl })
card_does c locks q z (Is25 e) = rw e (record { mode = refl; afi = refl; dsfid = refl; afi_lock = refl; dsfid_lock = refl })
card_does c locks q z (Is26 e) = rw e (record { mode = refl; afi = refl; dsfid = refl; afi_lock = refl; dsfid_lock = refl })
card_does c locks q z (Is27 e) =
    let is_open : c.afi_locked ≡ false = afi_open c locks q z e in
    rw e (record { mode = refl; afi = refl; dsfid = refl; afi_lock = sym is_open; dsfid_lock = refl })
card_does c locks q z (Is28 e) = rw e (record { mode = refl; afi = refl; dsfid = refl; afi_lock = refl; dsfid_lock = refl })
card_does c locks q z (Is29 e) =
    let is_open : c.dsfid_locked ≡ false = dsfid_open c locks q z e in
    rw e (record { mode = refl; afi = refl; dsfid = refl; afi_lock = refl; dsfid_lock = sym is_open })
card_does c locks q z (Is2a e) = rw e (record { mode = refl; afi = refl; dsfid = refl; afi_lock = refl; dsfid_lock = refl })
card_does c locks q z (Is2b e) = rw e (record { mode = refl; afi = refl; dsfid = refl; afi_lock = refl; dsfid_lock = refl })
card_does c locks q z (Is2c e) = rw e (record { mode = refl; afi = refl; dsfid = refl; afi_lock = refl; dsfid_lock = refl })

-- ---- memory and lock bytes

locks_after_lem : (q : Request) (locks : List ℕ) → locks_after locks (effect_of q) ≡ locks_set q locks
unfolding locks_after effect_of locks_set
locks_after_lem q locks = go (eqb q.command 0x21) (eqb q.command 0x22) refl refl
  where
    go : (a b : Bool) → eqb q.command 0x21 ≡ a → eqb q.command 0x22 ≡ b
        → locks_after locks (cond a (Write q.first 1 (body_at q + 1)) (cond b (Lock q.first) Leave)) ≡ cond b (set locks q.first 1) locks
    go true true p r =
        let one : q.command ≡ 0x21 = eqb-true q.command 0x21 p in
        let other : q.command ≡ 0x22 = eqb-true q.command 0x22 r in
        absurd (omega arith)
    go true false p r = refl
    go false true p r = refl
    go false false p r = refl

module _ {q : Request} {written : List ℕ} {c : Card} {memory locks found : List ℕ} {r : Result Served Refusal} {m l a : List ℕ}
    (met : Meets q written c memory locks found r m l a) (z : code_of c locks q ≡ 0) where
  memory_after_lem : (d : Card) (spoken : Reply) → Kept c d → Ends met d (effect_of q) spoken → m ≡ memory_written q written memory
  unfolding replied memory_written
  memory_after_lem d spoken kept p = go (eqb q.command 0x21) refl
    where
      go : (b : Bool) → eqb q.command 0x21 ≡ b → m ≡ cond b (placed (q.first * q.size) written memory) memory
      go true e =
          p.memory_left
          ∙ stored_data q written c d memory locks (ready_of c memory locks found met.fits.accepted) met.fits.same_size kept
          (data_place q written met.is met.of) met.of (eqb-true q.command 0x21 e)
      go false e = p.memory_left ∙ stored_nothing q d (frame q written) memory e

  -- d is the card that was changed, held or not
  does_of : (d : Card) (spoken : Reply) → Kept c d → CardDoes q c d → Ends met d (effect_of q) spoken → Does q written c memory locks (card_after c r) m l
  unfolding replied
  does_of d spoken kept does p =
      record {
        memory_written = memory_after_lem d spoken kept p;
        locks_set = p.locks_left ∙ locks_after_lem q locks;
        mode_gone = ap (λ (e : Card). e.mode) p.card ∙ does.mode;
        afi_written = ap (λ (e : Card). e.afi) p.card ∙ does.afi;
        dsfid_written = ap (λ (e : Card). e.dsfid) p.card ∙ does.dsfid;
        afi_lock = ap (λ (e : Card). e.afi_locked) p.card ∙ does.afi_lock;
        dsfid_lock = ap (λ (e : Card). e.dsfid_locked) p.card ∙ does.dsfid_lock;
      }

  held_does : (h : Held) (d : Card) → CardDoes q c d → CardDoes q c (holding h d)
  unfolding holding remade
  held_does h d p = record { mode = p.mode; afi = p.afi; dsfid = p.dsfid; afi_lock = p.afi_lock; dsfid_lock = p.dsfid_lock }

  changed : CardDoes q c (changed_by q (cleared c))
  changed = card_does c locks q z (one_of_twelve q.command (parts_of_request q met.is).0)

  pub does_now : is_called c q ≡ true → is_held q ≡ false → Does q written c memory locks (card_after c r) m l
  does_now h n = does_of (changed_by q (cleared c)) (reply_to q) (changed_kept q c) changed (done_ends met h z n)

  pub does_held : is_called c q ≡ true → is_held q ≡ true → Does q written c memory locks (card_after c r) m l
  does_held h n =
      let next : Card = changed_by q (cleared c) in
      does_of (holding Success next) Silence (holding_kept c next Success (changed_kept q c)) (held_does Success next changed) (done_held_ends met h z n)
