-- 01's field of three, over any cards with these UIDs: complete, 2 rounds, listed 05, 11, 21. Worked out slot by slot over the UIDs.
-- Assumes nothing.
use mathlib.Core.Path.{◌≡◌, refl, ap, subst⁻¹, ◌∙◌}
use mathlib.Core.Bool.{false}
use Prim.Native.Nat.{ℕ, ◌+◌, ◌*◌, ◌≤◌}
use native.Mathlib.Omega.{arith}
use mathlib.Core.List.{List, [], ◌∷◌}
use lib.ListN.{length, take}
use Rattle.tails.specs.Tails.{ending}
use Rattle.walk.specs.declared.Walk.{Walk}
use Rattle.walk.specs.Marks.{levels, waits, with_mark, without_mark, lowest_from, lowest, deepest_of, deepest}
use Rattle.walk.specs.Record.{places, levels_of, most_rounds, mask_length, whole_mask, low_half, high_half, is_running, remade, ended, counted, marked, at_next_slot, opened_mask, opened_at, opened, no_marks, started_of, started}
use Rattle.walk.specs.Hear.{has_place, ends_at_once, noted, list_noted, turned, passed, walk_after, list_after}
use Rattle.play.specs.Life.{Tag}
use Rattle.field.specs.Field.{answering}
use Rattle.field.specs.Played.{played_for, fresh}
use Rattle.field.specs.Found.{BeginE0, listed}
use Rattle.field.specs.Demand.{AllObey}
use Rattle.field.specs.Examples.{three, three_end, FieldOfThree}
use Rattle.field.proofs.Called.{called, slot_of}
use Rattle.field.proofs.Stages.{stage_fresh}
use Rattle.field.proofs.Suited.{e0_suit, begin_none, begin_more}
use Rattle.field.proofs.Stood.{Stand, stood, stood_for, stood_more, stood_ended, stand_of, played_stood}

three_begin : BeginE0 three
three_begin =
    begin_more 0xe004010000000011 _ refl (begin_more 0xe004010000000021 _ refl (begin_more 0xe004010000000005 [] refl begin_none))

three_stood : (family a b c : ℕ) (list : List ℕ)
    → stood_for three 32 (record { walk = started family; list = a ∷ b ∷ c ∷ list })
    ≡ record { walk = three_end family; list = 0xe004010000000005 ∷ 0xe004010000000011 ∷ 0xe004010000000021 ∷ list }
unfolding stood_for stood is_running started started_of no_marks walk_after list_after has_place ends_at_once noted list_noted passed turned ended counted marked at_next_slot opened opened_at remade opened_mask whole_mask low_half high_half mask_length with_mark without_mark waits lowest lowest_from deepest deepest_of levels levels_of places most_rounds called ending slot_of
three_stood family a b c list = refl

-- the list has the three at its start
three_listed : (family : ℕ) (list : List ℕ) → 64 ≤ length list
    → take 3 (stood_for three 32 (record { walk = started family; list = list })).list ≡ 0xe004010000000005 ∷ 0xe004010000000011 ∷ 0xe004010000000021 ∷ []
three_listed family [] h = absurd (omega arith)
three_listed family (a ∷ []) h = absurd (omega arith)
three_listed family (a ∷ b ∷ []) h = absurd (omega arith)
three_listed family (a ∷ b ∷ c ∷ list) h = ap (λ (s : Stand). take 3 s.list) (three_stood family a b c list)

three_ends : (family : ℕ) (list : List ℕ) → 64 ≤ length list → (stood_for three 32 (record { walk = started family; list = list })).walk ≡ three_end family
three_ends family [] h = absurd (omega arith)
three_ends family (a ∷ []) h = absurd (omega arith)
three_ends family (a ∷ b ∷ []) h = absurd (omega arith)
three_ends family (a ∷ b ∷ c ∷ list) h = ap (λ (s : Stand). s.walk) (three_stood family a b c list)

three_rests : (family : ℕ) → is_running (three_end family) ≡ false
unfolding is_running
three_rests family = refl

-- ended after 32 slots, it stays
stands : (family : ℕ) (tags : List Tag) (list room : List ℕ) → AllObey tags → 64 ≤ length list → 14 ≤ length room → answering family tags ≡ three
    → stand_of (played_for (16 * 417) (fresh family list room tags)) ≡ stood_for three 32 (record { walk = started family; list = list })
unfolding fresh
stands family tags list room obey places fits same =
    let s : Stand = record { walk = started family; list = list } in
    played_stood family tags (16 * 417) 0 (fresh family list room tags) obey
    (e0_suit (answering family tags) (subst⁻¹ (λ (us : List ℕ). BeginE0 us) same three_begin))
    (stage_fresh family tags (answering family tags) list room obey places fits)
    ∙ ap (λ (us : List ℕ). stood_for us (32 + 6640) s) same
    ∙ stood_more three 32 6640 s
    ∙ stood_ended three 6640 (stood_for three 32 s) (ap is_running (three_ends family list places) ∙ three_rests family)

pub field_of_three : FieldOfThree
unfolding listed
field_of_three =
    record {
      ends = λ family tags list room obey places fits same.
          ap (λ (s : Stand). s.walk) (stands family tags list room obey places fits same) ∙ three_ends family list places;
      lists = λ family tags list room obey places fits same.
          ap (λ (s : Stand). take s.walk.count s.list) (stands family tags list room obey places fits same)
          ∙ ap (λ (w : Walk). take w.count (stood_for three 32 (record { walk = started family; list = list })).list) (three_ends family list places)
          ∙ three_listed family list places;
    }
