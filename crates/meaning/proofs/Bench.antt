-- Demand 3 for the bench: what it prints is what demand 3 says of the UIDs given. Each card of the bench is a card of a field, with a memory of
-- one byte; the bench's play is that field's, after every slot. Assumes nothing.
use mathlib.Core.Path.{◌≡◌, refl, sym, ap, subst, subst⁻¹, ◌∙◌}
use Prim.Native.Nat.{ℕ, ◌*◌, ◌/◌, ◌^◌, ◌<◌}
use native.Mathlib.Omega.{arith}
use mathlib.Core.List.{List, [], ◌∷◌}
use borrow.Author.Tests.{eq-eqb}
use Rattle.tails.specs.Sum.{one, tally, times}
use Rattle.card.specs.declared.Card.{Card}
use Rattle.card.specs.Record.{shape_fits, sequence_fits, held_fits, is_accepted}
use Rattle.play.specs.Life.{Tag}
use Rattle.field.specs.Field.{Obeys, listens, family_fits, answers, answering}
use Rattle.field.specs.Played.{Play, fresh}
use Rattle.field.specs.Played as field
use Rattle.field.specs.Found.{BeginE0, Found}
use Rattle.field.specs.Demand.{AllObey, none, more, cards, Demand3, Demand3Always}
use Rattle.field.proofs.InStep.{byte_served}
use Rattle.field.proofs.Stages.{stage_fresh}
use Rattle.field.proofs.Demand3.{walk_of_a_field}
use Rattle.field.proofs.Next.{Suits}
use Rattle.field.proofs.Suited.{e0_suit}
use Rattle.row.specs.declared.Desk.{Desk}
use Rattle.row.specs.Row.{Played, card_of, cards_of, no_bytes, played_for}
use Rattle.walk.specs.Marks.{levels}
use Rattle.walk.specs.Record.{most_rounds, most_slots}
use Rattle.row.specs.Play.{no_uids, fresh_desk, ended}
use Rattle.meaning.specs.Bench.{Meaning, MeaningAlways}
use Rattle.meaning.proofs.SlotsAlike.{bench_of, played_alike}

-- ---- the bench's cards as a field

-- one block of one byte, unlocked, and room for 32 bytes
unfoldable pub tag_of : ℕ → Tag
tag_of uid =
    record {
      card = card_of uid;
      memory = 0 ∷ [];
      locks = 0 ∷ [];
      room =
          0 ∷ 0 ∷ 0 ∷ 0 ∷ 0 ∷ 0 ∷ 0 ∷ 0 ∷ 0 ∷ 0 ∷ 0 ∷ 0 ∷ 0 ∷ 0 ∷ 0 ∷ 0
          ∷ 0 ∷ 0 ∷ 0 ∷ 0 ∷ 0 ∷ 0 ∷ 0 ∷ 0 ∷ 0 ∷ 0 ∷ 0 ∷ 0 ∷ 0 ∷ 0 ∷ 0 ∷ 0
          ∷ [];
    }

unfoldable pub tags_of : List ℕ → List Tag
tags_of [] = []
tags_of (u ∷ us) = tag_of u ∷ tags_of us

tag_obeys : (uid : ℕ) → uid < 2 ^ 64 → Obeys (tag_of uid)
unfolding tag_of card_of is_accepted shape_fits sequence_fits held_fits
tag_obeys uid h = record { accepted = byte_served (card_of uid) 32 refl refl refl (omega arith); uid_fits = h }

-- the first of UIDs that begin with E0, and the others
begin_first : (u : ℕ) (us : List ℕ) → BeginE0 (u ∷ us) → u / 2 ^ 56 ≡ 0xe0
unfolding BeginE0 times tally one
begin_first u us begin = begin u (rw (eq-eqb u u refl) (omega arith))

begin_others : (u : ℕ) (us : List ℕ) → BeginE0 (u ∷ us) → BeginE0 us
unfolding BeginE0 times tally
begin_others u us begin v h = begin v (omega (arith, h))

pub tags_obey : (us : List ℕ) → BeginE0 us → AllObey (tags_of us)
unfolding tags_of
tags_obey [] begin = none
tags_obey (u ∷ us) begin = more (tag_obeys u (omega (arith, begin_first u us begin))) (tags_obey us (begin_others u us begin))

-- "cards Ready, no family": every card answers
pub tags_answer : (us : List ℕ) → answering 256 (tags_of us) ≡ us
unfolding tags_of tag_of card_of answering answers listens family_fits
tags_answer [] = refl
tags_answer (u ∷ us) = ap (λ (vs : List ℕ). u ∷ vs) (tags_answer us)

tags_begin : (us : List ℕ) → BeginE0 us → BeginE0 (answering 256 (tags_of us))
tags_begin us begin = subst⁻¹ (λ (vs : List ℕ). BeginE0 vs) (tags_answer us) begin

pub tags_suit : (us : List ℕ) → BeginE0 us → Suits levels (answering 256 (tags_of us))
tags_suit us begin = e0_suit (answering 256 (tags_of us)) (tags_begin us begin)

tags_cards : (us : List ℕ) → cards (tags_of us) ≡ cards_of us
unfolding tags_of tag_of cards cards_of
tags_cards [] = refl
tags_cards (u ∷ us) = ap (λ (cs : List Card). card_of u ∷ cs) (tags_cards us)

-- ---- the bench's play is that field's

unfoldable pub fresh_field : List ℕ → Play
fresh_field us = fresh 256 no_uids no_bytes (tags_of us)

bench_fresh : (us : List ℕ) → record { desk = fresh_desk; row = cards_of us } ≡ bench_of (fresh_field us)
unfolding fresh_field fresh fresh_desk bench_of
bench_fresh us = ap (λ (cs : List Card). record { desk = fresh_desk; row = cs }) (sym (tags_cards us))

pub bench_is_a_field : (us : List ℕ) → BeginE0 us → (n : ℕ)
    → played_for n (record { desk = fresh_desk; row = cards_of us }) ≡ bench_of (field.played_for n (fresh_field us))
unfolding fresh_field no_uids no_bytes
bench_is_a_field us begin n =
    let tags : List Tag = tags_of us in
    let obey : AllObey tags = tags_obey us begin in
    ap (played_for n) (bench_fresh us)
    ∙ played_alike 256 tags n 0 (fresh_field us) obey (tags_suit us begin)
    (stage_fresh 256 tags (answering 256 tags) no_uids no_bytes obey (omega arith) (omega arith))

-- ---- what demand 3 says of it

field_demand : (us : List ℕ) → BeginE0 us → Demand3 256 (tags_of us) us (field.played_for (16 * 417) (fresh_field us))
unfolding fresh_field no_uids no_bytes Demand3Always
field_demand us begin =
    subst (λ (vs : List ℕ). Demand3 256 (tags_of us) vs (field.played_for (16 * 417) (fresh_field us))) (tags_answer us)
    (walk_of_a_field 256 (tags_of us) no_uids no_bytes (tags_obey us begin) (tags_begin us begin) (omega arith) (omega arith))

pub bench_meets_demand3 : MeaningAlways
unfolding MeaningAlways Meaning ended most_slots most_rounds levels bench_of
bench_meets_demand3 us begin =
    subst (λ (d : Desk). Found us d.walk d.list) (sym (ap (λ (q : Played). q.desk) (bench_is_a_field us begin (16 * 417))))
    (field_demand us begin).found
