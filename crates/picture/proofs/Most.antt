-- What is drawn has 16,743 bytes at the most. By induction over the slots: what is left to draw, and what stands of a line that has begun, are
-- within 40 bytes for each round from this one to 417. Assumes nothing.
use mathlib.Core.Path.{◌≡◌, refl, ap}
use mathlib.Core.Bool.{Bool, true, false, cond, not, ◌||◌}
use Prim.Native.Nat.{ℕ, zero, suc, ◌+◌, ◌-◌, ◌*◌, ◌≤◌}
use native.Mathlib.Omega.{arith}
use mathlib.Core.List.{List, [], ◌∷◌}
use borrow.Author.Tests.{eqb-true, ne_eqb}
use lib.Dec.{eqb}
use lib.ListN.{length, length-append}
use Rattle.walk.specs.declared.Walk.{Walk}
use Rattle.walk.specs.Marks.{levels}
use Rattle.walk.specs.Record.{most_slots, is_running, started_of, started}
use Rattle.walk.proofs.Limits.{accepted_of_is_accepted}
use Rattle.row.specs.declared.Air.{Air}
use Rattle.row.specs.declared.Desk.{Desk}
use Rattle.row.specs.Row.{Played, still_air, row_air, desk_after, slot_played, cards_of}
use Rattle.row.specs.Play.{fresh_desk, ended}
use Rattle.picture.specs.Drawn.{line_head, slot_drawn, drawn_for, heading, drawn}
use Rattle.picture.proofs.Lengths.{Within, within_accepted, length_head, length_twins}
use Rattle.picture.proofs.Moves.{Moves, stops, steps, opens, Fit, fresh_fit, after_fit, desk_moves}

-- the bytes of a line that has begun
unfoldable begun : Walk → ℕ
begun w = cond (eqb w.slot 0) 0 (23 + w.slot)

begun_most : (w : Walk) → begun w ≤ 23 + w.slot
unfolding begun
begun_most w = go (eqb w.slot 0)
  where
    go : (b : Bool) → cond b 0 (23 + w.slot) ≤ 23 + w.slot
    go true = omega arith
    go false = omega arith

-- a slot makes a line one byte longer, its head first; and one more where the line ends
length_end : (b : Bool) → length (cond {A = List ℕ} b (0x0a ∷ []) []) ≡ cond b 1 0
length_end true = refl
length_end false = refl

head_begun : (w : Walk) → Within w → length (cond (eqb w.slot 0) (line_head w) []) + begun w ≡ 23 + w.slot
unfolding begun
head_begun w a = go (eqb w.slot 0) refl
  where
    go : (b : Bool) → eqb w.slot 0 ≡ b → length (cond b (line_head w) []) + cond b 0 (23 + w.slot) ≡ 23 + w.slot
    go true e =
        let first : w.slot ≡ 0 = eqb-true w.slot 0 e in
        omega (arith, length_head w a)
    go false e = omega arith

slot_begun : (w next : Walk) (air : Air) → Within w
    → length (slot_drawn w air next) + begun w ≡ 24 + w.slot + cond (eqb w.slot 15 || not (is_running next)) 1 0
unfolding slot_drawn
slot_begun w next air a =
    rw length-append
    (omega (arith, head_begun w a, length_end (eqb w.slot 15 || not (is_running next))))

-- ---- what is left to draw

-- an ended walk draws nothing more
pub none_drawn : (n : ℕ) (p : Played) → is_running p.desk.walk ≡ false → drawn_for n p ≡ []
unfolding drawn_for
none_drawn zero p e = refl
none_drawn (suc n) p e = rw e

begun_next : (w : Walk) (s : ℕ) → w.slot ≡ s + 1 → begun w ≡ 24 + s
unfolding begun
begun_next w s e = rw (ne_eqb w.slot 0 (λ z. absurd (omega arith))) (omega arith)

one_most : (b : Bool) → cond b 1 0 ≤ 1
one_most true = omega arith
one_most false = omega arith

within : (d : Desk) → Fit d → Within d.walk
within d f = within_accepted (accepted_of_is_accepted d.walk f.accepted) f.few

-- a slot, and the rest
slot_most : (w next : Walk) (air : Air) (rest : ℕ) → Within w → Within next → Moves w next → (is_running next ≡ false → rest ≡ 0)
    → rest + begun next ≤ 40 * (418 - next.rounds) → length (slot_drawn w air next) + rest + begun w ≤ 40 * (418 - w.rounds)
slot_most w next air rest a b moves ends later = go (is_running next) refl moves
  where
    line : length (slot_drawn w air next) + begun w ≡ 24 + w.slot + cond (eqb w.slot 15 || not (is_running next)) 1 0
    line = slot_begun w next air a

    one : cond (eqb w.slot 15 || not (is_running next)) 1 0 ≤ 1
    one = one_most (eqb w.slot 15 || not (is_running next))

    go : (t : Bool) → is_running next ≡ t → Moves w next → length (slot_drawn w air next) + rest + begun w ≤ 40 * (418 - w.rounds)
    go false e m = omega (arith, line, one, ends e, a.slot, a.rounds)
    go true e (stops f) = omega (arith, line, one, ends f, a.slot, a.rounds)
    go true e (steps h f g) =
        let open-line : cond {A = ℕ} (eqb w.slot 15 || not (is_running next)) 1 0 ≡ 0 = rw (ne_eqb w.slot 15 (λ z. absurd (omega arith)), e) refl in
        omega (arith, line, open-line, later, begun_next next w.slot f, g)
    go true e (opens h f g) = omega (arith, line, one, h, later, g, b.rounds)

none_most : (w : Walk) → Within w → 0 + begun w ≤ 40 * (418 - w.rounds)
none_most w a = omega (arith, begun_most w, a.slot, a.rounds)

-- one slot more to draw, from what is left after it
more_most : (n : ℕ) (p : Played) → Fit p.desk
    → length (drawn_for n (slot_played p)) + begun (slot_played p).desk.walk ≤ 40 * (418 - (slot_played p).desk.walk.rounds)
    → length (drawn_for (suc n) p) + begun p.desk.walk ≤ 40 * (418 - p.desk.walk.rounds)
unfolding drawn_for slot_played
more_most n p f later = go (is_running w) refl
  where
    w : Walk
    w = p.desk.walk

    a : Within w
    a = within p.desk f

    air : Air
    air = row_air w still_air p.row

    next : Walk
    next = (desk_after p.desk air).walk

    b : Within next
    b = within (desk_after p.desk air) (after_fit p.desk air f)

    go : (t : Bool) → is_running w ≡ t → length (drawn_for (suc n) p) + begun w ≤ 40 * (418 - w.rounds)
    go false e = rw e (none_most w a)
    go true e =
        rw (e, length-append)
        (slot_most w next air (length (drawn_for n (slot_played p))) a b (desk_moves p.desk air f e a.slot)
        (λ z. ap length (none_drawn n (slot_played p) z)) later)

left_most : (n : ℕ) (p : Played) → Fit p.desk → length (drawn_for n p) + begun p.desk.walk ≤ 40 * (418 - p.desk.walk.rounds)
unfolding drawn_for slot_played
left_most zero p f = none_most p.desk.walk (within p.desk f)
left_most (suc n) p f = more_most n p f (left_most n (slot_played p) (after_fit p.desk (row_air p.desk.walk still_air p.row) f))

-- ---- all that is drawn

pub walk_most : (us : List ℕ) → length (drawn_for (most_slots levels) (record { desk = fresh_desk; row = cards_of us })) ≤ 16680
unfolding fresh_desk started started_of begun
walk_most us = omega (arith, left_most (most_slots levels) (record { desk = fresh_desk; row = cards_of us }) fresh_fit)

pub drawn_most : (us : List ℕ) → length (drawn us) ≤ 16743
unfolding drawn heading
drawn_most us = rw (length-append, length-append) (omega (arith, walk_most us, length_twins (ended us)))
