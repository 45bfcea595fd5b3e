-- A call that is served: what its refusals rule out, for the card at the start and for the one that the rules make of it.
-- By the tests of the definitions. Assumes nothing.
use mathlib.Core.Path.{◌≡◌, refl, sym, ◌∙◌}
use mathlib.Core.Bool.{true, and-eq-true_iff}
use Prim.Native.Nat.{ℕ, ◌*◌}
use mathlib.Core.List.{List, []}
use borrow.Author.Tests.{eqb-true}
use lib.Dec.{eqb}
use lib.ListN.{length}
use Rattle.card.specs.declared.Card.{Card}
use Rattle.commands.specs.declared.Deed.{Deed}
use Rattle.card.specs.declared.Turn.{Turn}
use Rattle.commands.specs.declared.Effect.{Effect}
use Rattle.commands.specs.declared.Effect.TheVariants.{Leave, Write, Lock}
use Rattle.card.specs.declared.Reply.{Reply}
use Rattle.card.specs.declared.Reply.TheVariants.{Silence, Error, Done, Present, Blocks, Status, Information}
use Rattle.commands.specs.Frame.{decided}
use Rattle.card.specs.Mark.{marked}
use Rattle.card.proofs.Accepted.{tests_of}
use Rattle.card.proofs.Changes.{marked_keeps}
use Rattle.play.specs.Refusal.{lengths_fit, room_asked, room_fits, refusal}
use Rattle.play.specs.Fits.{effect_fits, reply_fits, Kept, DeedFits}
use Rattle.play.specs.Steps.{is_brief, Ready, DeedReady}
use Rattle.play.proofs.Brief.{brief_fits}
use Rattle.play.proofs.Kept.{self_kept, kept_changes}
use Rattle.play.proofs.Refusals.{Passes, passes_of}
use Rattle.play.proofs.Turns.{marked_brief}
use Rattle.play.proofs.Deeds.{decided_fits}

pub ready_of : (c : Card) (memory : ℕ) (locks : List ℕ) (room : ℕ) → refusal c memory locks room ≡ 0 → Ready c memory (length locks) room
unfolding lengths_fit
ready_of c memory locks room e =
    let p : Passes c memory locks room = passes_of c memory locks room e in
    let both = (and-eq-true_iff (eqb memory (c.blocks * c.size)) (eqb (length locks) c.blocks)).0 p.lengths in
    record {
      shape = (tests_of c p.accepted).shape;
      stored = eqb-true memory (c.blocks * c.size) both.0;
      marks = eqb-true (length locks) c.blocks both.1;
      fits = p.space;
    }

-- a card of the same shape is ready too
module _ (card c : Card) (same : Kept card c) where
  pub ready_shape : (memory : ℕ) (locks : List ℕ) (room : ℕ) → Ready card memory (length locks) room → Ready c memory (length locks) room
  unfolding room_fits room_asked
  ready_shape memory locks room r =
      record {
        shape = rw (same.blocks, same.size) r.shape;
        stored = rw (same.blocks, same.size) r.stored;
        marks = rw same.blocks r.marks;
        fits = rw (same.blocks, same.size) r.fits;
      }

  effect_shape : (frame : List ℕ) (e : Effect) → effect_fits card frame e ≡ true → effect_fits c frame e ≡ true
  unfolding effect_fits
  effect_shape frame Leave h = refl
  effect_shape frame (Write first n place) h = rw (same.blocks, same.size) h
  effect_shape frame (Lock block) h = rw same.blocks h

  reply_shape : (r : Reply) → reply_fits card r ≡ true → reply_fits c r ≡ true
  unfolding reply_fits
  reply_shape Silence h = refl
  reply_shape (Error code) h = refl
  reply_shape Done h = refl
  reply_shape Present h = refl
  reply_shape (Blocks first n option) h = rw same.blocks h
  reply_shape (Status first n) h = rw same.blocks h
  reply_shape Information h = refl

-- a frame's deed may be carried out
pub deed_ready : (card : Card) (frame : List ℕ) (memory : ℕ) (locks : List ℕ) (room n : ℕ) (d : Deed) → n ≡ refusal card memory locks room → n ≡ 0
    → d ≡ decided card locks frame → DeedReady frame d memory (length locks) room
deed_ready card frame memory locks room n d e z k = rw k (go (decided card locks frame) (decided_fits card locks frame))
  where
    go : (d : Deed) → DeedFits card frame d → DeedReady frame d memory (length locks) room
    go d fits =
        let r : Ready card memory (length locks) room = ready_of card memory locks room (sym e ∙ z) in
        record {
          ready = ready_shape card d.card fits.kept memory locks room r;
          effect = effect_shape card d.card fits.kept frame d.effect fits.effect;
          reply = reply_shape card d.card fits.kept d.reply fits.reply;
        }

-- and a mark's turn
pub record TurnReady (t : Turn) (memory : ℕ) (locks : List ℕ) (room : ℕ) : Type 0 where
  pub ready : Ready t.card memory (length locks) room
  pub brief : is_brief t.reply ≡ true
  pub reply : reply_fits t.card t.reply ≡ true

pub mark_ready : (card : Card) (memory : ℕ) (locks : List ℕ) (room n : ℕ) (t : Turn) → n ≡ refusal card memory locks room → n ≡ 0
    → t ≡ marked card → TurnReady t memory locks room
mark_ready card memory locks room n t e z k =
    let p : Passes card memory locks room = passes_of card memory locks room (sym e ∙ z) in
    let same : Kept card (marked card).card = marked_keeps (kept_changes card []) card (self_kept card) (tests_of card p.accepted).sequence in
    rw k
    (record {
      ready = ready_shape card (marked card).card same memory locks room (ready_of card memory locks room (sym e ∙ z));
      brief = marked_brief card;
      reply = brief_fits (marked card).card (marked card).reply (marked_brief card);
    })
