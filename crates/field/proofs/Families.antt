-- 02's examples of an asked AFI, on the card's event, and a shop's rack asked for a whole family. By the card's own tests, and demand 3. Assumes nothing.
use mathlib.Core.Path.{◌≡◌, refl, subst⁻¹}
use mathlib.Core.Bool.{Bool, true, false, not, ◌&&◌}
use Prim.Native.Nat.{ℕ, ◌*◌, ◌≤◌}
use native.Mathlib.Omega.{arith}
use mathlib.Core.List.{List, [], ◌∷◌}
use lib.Dec.{eqb}
use lib.ListN.{length, replicate}
use Rattle.card.specs.declared.Card.{Card}
use Rattle.card.specs.Record.{is_quiet, shape_fits, sequence_fits, held_fits, is_accepted, remade, with_afi}
use Rattle.card.specs.Inventory.{fits_family}
use Rattle.play.specs.Refusal.{lengths_fit, locks_fit, room_asked, room_fits, refusal}
use Rattle.play.specs.Life.{Tag}
use Rattle.play.specs.Examples.{Listens, blank}
use Rattle.field.specs.Field.{table_one, family_fits, answers, answering}
use Rattle.field.specs.Demand.{AllObey, Demand3, Demand3Always}
use Rattle.field.specs.Played.{played_for, fresh}
use Rattle.field.specs.Found.{BeginE0}
use Rattle.field.specs.Families.{Calling, ListensOf, Families}
use Rattle.field.proofs.Calling.{calling_served}
use Rattle.field.proofs.Demand3.{walk_of_a_field}

-- with no mask, high rate and one subcarrier: flags 36 and 16
unmasked : Bool → Calling
unmasked true = record { one = true; radio = 2; bits = 0; mask = []; radio_fits = omega arith; bits_fit = omega arith; mask_fits = refl }
unmasked false = record { one = false; radio = 2; bits = 0; mask = []; radio_fits = omega arith; bits_fit = omega arith; mask_fits = refl }

some_card : Listens (with_afi 0x31 false blank) (replicate 128 0x00) (replicate 32 0) (replicate 163 0x00)
unfolding blank with_afi remade refusal is_accepted shape_fits sequence_fits held_fits lengths_fit locks_fit room_asked room_fits is_quiet
some_card = record { served = refl; heard = refl }

-- a card that listens takes part by its AFI alone
fits : (c : Card) (asked : ℕ) (b : Bool) → is_quiet c.mode ≡ false → fits_family asked c.afi ≡ b → (not (is_quiet c.mode) && fits_family asked c.afi) ≡ b
fits c asked b heard e = rw (heard, e)

-- ---- the shop's rack

-- just its coarse burrs answer
burrs_answer : (a b other c : Tag) → ListensOf 0x31 a → ListensOf 0x32 b → ListensOf 0x41 other → ListensOf 0x33 c
    → answering 0x30 (a ∷ b ∷ other ∷ c ∷ []) ≡ a.card.uid ∷ b.card.uid ∷ c.card.uid ∷ []
unfolding answering answers family_fits table_one
burrs_answer a b other c la lb lo lc = rw (la.heard, la.own, lb.heard, lb.own, lo.heard, lo.own, lc.heard, lc.own)

burrs_found : (a b other c : Tag) → ListensOf 0x31 a → ListensOf 0x32 b → ListensOf 0x41 other → ListensOf 0x33 c
    → (list room : List ℕ) → AllObey (a ∷ b ∷ other ∷ c ∷ []) → BeginE0 (a.card.uid ∷ b.card.uid ∷ c.card.uid ∷ []) → 64 ≤ length list
    → 14 ≤ length room
    → Demand3 0x30 (a ∷ b ∷ other ∷ c ∷ []) (a.card.uid ∷ b.card.uid ∷ c.card.uid ∷ [])
    (played_for (16 * 417) (fresh 0x30 list room (a ∷ b ∷ other ∷ c ∷ [])))
unfolding Demand3Always
burrs_found a b other c la lb lo lc list room obey begin places fits =
    let just = burrs_answer a b other c la lb lo lc in
    rw just at (walk_of_a_field 0x30 (a ∷ b ∷ other ∷ c ∷ []) list room obey (subst⁻¹ (λ (us : List ℕ). BeginE0 us) just begin) places fits)

pub families : Families
unfolding fits_family unmasked
families =
    record {
      sixteen_slots = (unmasked false, refl);
      one_slot = (unmasked true, refl);
      a_31_listens = some_card;
      asks_31 = λ q c memory locks found l own. calling_served q 0x30 c memory locks found l.served true (fits c 0x30 true l.heard (rw own));
      asks_3f = λ q c memory locks found l own. calling_served q 0x30 c memory locks found l.served true (fits c 0x30 true l.heard (rw own));
      asks_30 = λ q c memory locks found l own. calling_served q 0x30 c memory locks found l.served true (fits c 0x30 true l.heard (rw own));
      not_41 = λ q c memory locks found l own. calling_served q 0x30 c memory locks found l.served false (fits c 0x30 false l.heard (rw own));
      only_03 = λ q c memory locks found l. calling_served q 0x03 c memory locks found l.served _ (fits c 0x03 (eqb 0x03 c.afi) l.heard refl);
      coarse_burrs = burrs_found;
    }
