-- Demand 3. By the verdict of a walk of a fixed field, and the measure that ends it.
-- Assumes nothing.
use mathlib.Core.Path.{◌≡◌, refl, ap₂, subst}
use mathlib.Core.Bool.{false}
use Prim.Native.Nat.{ℕ, ◌+◌, ◌-◌, ◌*◌, ◌/◌, ◌≤◌}
use native.Mathlib.Nat.{zero-add}
use native.Mathlib.Omega.{arith}
use mathlib.Core.List.{List, [], ◌∷◌}
use lib.Dec.{eqb}
use lib.ListN.{length}
use Rattle.card.specs.declared.Card.{Card}
use Rattle.tails.specs.Sum.{one, times}
use Rattle.tails.specs.Tails.{shared_tails_to, shared_tails}
use Rattle.tails.proofs.Bounds.{shared_tails_half}
use Rattle.walk.specs.declared.Walk.{Walk}
use Rattle.walk.specs.Marks.{levels}
use Rattle.walk.specs.Record.{whole_mask, most_rounds, most_slots, complete, is_running, started}
use Rattle.play.specs.Life.{Tag}
use Rattle.field.specs.Field.{Arrival, arrives, answering}
use Rattle.field.specs.Played.{Play, played_for_by, played_for, fresh_of, fresh}
use Rattle.field.specs.Found.{Different, BeginE0, listed, FoundIn, Found}
use Rattle.field.specs.Demand.{AllObey, card_left, cards_left, cards, memories, lock_bytes, Demand3In, Demand3, Demand3Always}
use Rattle.field.proofs.Next.{Suits, Verdict, completes, twin, fills}
use Rattle.field.proofs.Suited.{e0_suit}
use Rattle.field.proofs.InTime.{AtSlot, Both, in_step}
use Rattle.field.proofs.InTime as row
use Rattle.field.proofs.PlayedSlot.{Brings, arrives_brings}
use Rattle.field.proofs.Stages.{Stage, hears, rests, stage_start, stage_for_by}

-- ---- what becomes of the cards

pub cards_of_lem : (family : ℕ) (w : Walk) (ts₀ ts : List Tag) → Both (AtSlot family w.level (whole_mask w) w.slot) ts₀ ts → cards ts ≡ cards_left family w ts₀
unfolding cards cards_left card_left in_step
cards_of_lem family w [] [] row.none = refl
cards_of_lem family w (t₀ ∷ ts₀) (t ∷ ts) (row.more h b) = ap₂ (λ (c : Card) (cs : List Card). c ∷ cs) h.card (cards_of_lem family w ts₀ ts b)
cards_of_lem family w [] (t ∷ ts) b = elim b [ ]
cards_of_lem family w (t₀ ∷ ts₀) [] b = elim b [ ]

pub memories_of : (family level mask s : ℕ) (ts₀ ts : List Tag) → Both (AtSlot family level mask s) ts₀ ts → memories ts ≡ memories ts₀
unfolding memories
memories_of family level mask s [] [] row.none = refl
memories_of family level mask s (t₀ ∷ ts₀) (t ∷ ts) (row.more h b) =
    ap₂ (λ (m : List ℕ) (ms : List (List ℕ)). m ∷ ms) h.memory (memories_of family level mask s ts₀ ts b)
memories_of family level mask s [] (t ∷ ts) b = elim b [ ]
memories_of family level mask s (t₀ ∷ ts₀) [] b = elim b [ ]

pub locks_of : (family level mask s : ℕ) (ts₀ ts : List Tag) → Both (AtSlot family level mask s) ts₀ ts → lock_bytes ts ≡ lock_bytes ts₀
unfolding lock_bytes
locks_of family level mask s [] [] row.none = refl
locks_of family level mask s (t₀ ∷ ts₀) (t ∷ ts) (row.more h b) =
    ap₂ (λ (m : List ℕ) (ms : List (List ℕ)). m ∷ ms) h.locks (locks_of family level mask s ts₀ ts b)
locks_of family level mask s [] (t ∷ ts) b = elim b [ ]
locks_of family level mask s (t₀ ∷ ts₀) [] b = elim b [ ]

-- ---- what the verdict means

pub verdict_found : (levels : ℕ) (us : List ℕ) (w : Walk) (list : List ℕ) → is_running w ≡ false → Verdict levels 64 us w (listed w list)
    → FoundIn (levels - 1) us w list
unfolding Different times
verdict_found levels us w list end (completes e few number same once rounds) =
    let different : (u : ℕ) → times u us ≤ 1 = λ u. rw (← same (λ x. one (eqb x u))) (once u) in
    record {
      ends = end;
      few = λ c. omega arith;
      different = λ c. different;
      completes = λ n d. e;
      each_once = λ c u. same (λ x. one (eqb x u));
      count = λ c. number;
      rounds = λ c. rounds;
      rounds_most = λ c. let half : shared_tails_to (levels - 1) us ≤ (levels - 1) * (length us / 2) = shared_tails_half us (levels - 1) in omega (arith, half, rounds);
      alike = λ n d. absurd (d different);
      many = λ n d. absurd (omega arith);
      twins_alike = λ c. absurd (omega arith);
      full_many = λ c. absurd (omega arith);
      no_overrun = omega arith;
    }
verdict_found levels us w list end (twin e alike) =
    record {
      ends = end;
      few = λ c. absurd (omega arith);
      different = λ c. absurd (omega arith);
      completes = λ n d. absurd (omega (arith, d alike.uid, alike.twice));
      each_once = λ c. absurd (omega arith);
      count = λ c. absurd (omega arith);
      rounds = λ c. absurd (omega arith);
      rounds_most = λ c. absurd (omega arith);
      alike = λ n d. e;
      many = λ n d. e;
      twins_alike = λ c. alike;
      full_many = λ c. absurd (omega arith);
      no_overrun = omega arith;
    }
verdict_found levels us w list end (fills e many) =
    record {
      ends = end;
      few = λ c. absurd (omega arith);
      different = λ c. absurd (omega arith);
      completes = λ n d. absurd (omega arith);
      each_once = λ c. absurd (omega arith);
      count = λ c. absurd (omega arith);
      rounds = λ c. absurd (omega arith);
      rounds_most = λ c. absurd (omega arith);
      alike = λ n d. absurd (omega arith);
      many = λ n d. absurd (d e);
      twins_alike = λ c. absurd (omega arith);
      full_many = λ c. many;
      no_overrun = omega arith;
    }

-- demand 3's own words: "exactly one more than the number of tails of 1 to 13 digits"
pub found_rounds : (us : List ℕ) (w : Walk) (list : List ℕ) → Found us w list → w.ending ≡ complete → w.rounds ≡ 1 + shared_tails us
unfolding shared_tails
found_rounds us w list found e = found.rounds e

-- a walk can't hear for more slots than its rounds have
ends : (levels family : ℕ) (tags : List Tag) (us : List ℕ) (n : ℕ) (p : Play) → most_slots levels ≤ n → Stage levels family tags us n p
    → Demand3In (levels - 1) family tags us p
unfolding most_slots
ends levels family tags us n p h (hears places g s e f room count b) =
    let most : p.walk.rounds ≤ most_rounds levels = rw g.walks.marks_length at g.walks.steady.accepted.last_round in
    absurd (omega (arith, most, count, s, h))
ends levels family tags us n p h (rests places a r v b) =
    record {
      found = verdict_found levels us p.walk p.list r v;
      cards_left = cards_of_lem family p.walk tags p.tags b;
      memories_left = memories_of family p.walk.level (whole_mask p.walk) p.walk.slot tags p.tags b;
      locks_left = locks_of family p.walk.level (whole_mask p.walk) p.walk.slot tags p.tags b;
    }

-- any air that brings what some UIDs bring, after n slots
stage_after_by : (air : List (List ℕ) → Arrival) (us : List ℕ) (levels family : ℕ) (tags : List Tag) (list room : List ℕ) → 1 ≤ levels
    → Suits levels us → AllObey tags → Brings air levels us family tags → 64 ≤ length list → 14 ≤ length room → (n : ℕ)
    → Stage levels family tags us n (played_for_by air n (fresh_of levels family list room tags))
stage_after_by air us levels family tags list room least suits obey brings places fits n =
    subst (λ (k : ℕ). Stage levels family tags us k (played_for_by air n (fresh_of levels family list room tags))) (zero-add n)
    (stage_for_by air us family tags n 0 (fresh_of levels family list room tags) obey brings suits
    (stage_start levels family tags us list room least obey places fits))

-- 01's air
pub stage_after : (levels family : ℕ) (tags : List Tag) (list room : List ℕ) → 1 ≤ levels → Suits levels (answering family tags) → AllObey tags
    → 64 ≤ length list → 14 ≤ length room → (n : ℕ)
    → Stage levels family tags (answering family tags) n (played_for n (fresh_of levels family list room tags))
stage_after levels family tags list room least fit obey =
    stage_after_by arrives (answering family tags) levels family tags list room least fit obey (arrives_brings levels family tags obey fit.starts)

-- a walk of up to sixteen levels in any such air, where the UIDs that it brings are alike above so many digits
pub walk_of_an_air_in : (air : List (List ℕ) → Arrival) (us : List ℕ) (levels family : ℕ) (tags : List Tag) (list room : List ℕ) → 1 ≤ levels
    → Suits levels us → AllObey tags → Brings air levels us family tags → 64 ≤ length list → 14 ≤ length room
    → Demand3In (levels - 1) family tags us (played_for_by air (most_slots levels) (fresh_of levels family list room tags))
walk_of_an_air_in air us levels family tags list room least suits obey brings places fits =
    ends levels family tags us (most_slots levels) (played_for_by air (most_slots levels) (fresh_of levels family list room tags)) (omega arith)
    (stage_after_by air us levels family tags list room least suits obey brings places fits (most_slots levels))

-- a fresh walk in any such air
pub walk_of_an_air : (air : List (List ℕ) → Arrival) (us : List ℕ) (family : ℕ) (tags : List Tag) (list room : List ℕ) → BeginE0 us
    → AllObey tags → Brings air levels us family tags → 64 ≤ length list → 14 ≤ length room
    → Demand3 family tags us (played_for_by air (16 * 417) (fresh family list room tags))
unfolding fresh fresh_of started levels most_slots most_rounds
walk_of_an_air air us family tags list room begin obey brings places fits =
    walk_of_an_air_in air us levels family tags list room (omega arith) (e0_suit us begin) obey brings places fits

-- 01's air
pub walk_of_a_field_in : (levels family : ℕ) (tags : List Tag) (list room : List ℕ) → 1 ≤ levels
    → Suits levels (answering family tags) → AllObey tags → 64 ≤ length list → 14 ≤ length room
    → Demand3In (levels - 1) family tags (answering family tags) (played_for (most_slots levels) (fresh_of levels family list room tags))
walk_of_a_field_in levels family tags list room least suits obey places fits =
    walk_of_an_air_in arrives (answering family tags) levels family tags list room least suits obey
    (arrives_brings levels family tags obey suits.starts) places fits

pub walk_of_a_field : Demand3Always
unfolding Demand3Always
walk_of_a_field family tags list room obey begin places fits =
    let us : List ℕ = answering family tags in
    walk_of_an_air arrives us family tags list room begin obey (arrives_brings levels family tags obey (e0_suit us begin).starts) places fits
