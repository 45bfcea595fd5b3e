-- Slots that have been played and drawn: what they added and what the rest adds are the whole, and the rest ends where all end.
--     drawing_none, drawing_more, drawing_over     none drawn, one more, and no more to draw.        Assumes nothing.
use mathlib.Core.Path.{◌≡◌, refl, sym, ap, subst, ◌∙◌}
use mathlib.Core.Bool.{Bool, true, false, ◌&&◌, and-eq-true_iff}
use Prim.Native.Nat.{ℕ, suc, ◌+◌, ◌-◌, ◌≤◌, ◌<◌}
use native.Mathlib.Nat.{sub-zero}
use native.Mathlib.Omega.{arith}
use mathlib.Core.List.{List, [], ◌++◌, append_assoc, append-nil}
use borrow.Author.Tests.{ltb-false}
use lib.Dec.{T, ltb}
use lib.ListN.{length, take, length-append}
use Rattle.lent.specs.Puts.{Puts, PutsAt}
use Rattle.card.specs.declared.Card.{Card}
use Rattle.walk.specs.Marks.{levels}
use Rattle.walk.specs.Record.{most_slots, is_running}
use Rattle.row.specs.declared.Desk.{Desk}
use Rattle.row.specs.declared.Slotted.{Slotted}
use Rattle.row.specs.Row.{Played, played_for, cards_of}
use Rattle.row.specs.Play.{fresh_desk, slotted, goes_on, ended}
use Rattle.picture.specs.Drawn.{slot_drawn, drawn_for, heading, twins_line, drawn}
use Rattle.row.proofs.Played.{still_few}
use Rattle.lent.proofs.Puts.{puts_none, puts_then, puts_start}
use Rattle.picture.proofs.Moves.{Fit}
use Rattle.picture.proofs.Most.{none_drawn, walk_most}
use Rattle.picture.proofs.OneSlot.{play_of, take_cards, slot_of_first, played_ended, slot_drawn_lem, slotted_fit}

-- k slots are drawn, from place first of the buffer e on
pub record Drawing (whole : List ℕ) (end : Desk) (first : ℕ) (e : List ℕ) (k : ℕ) (desk : Desk) (row : List Card) (at : ℕ) (out : List ℕ) : Type 0 where
  pub most : length whole ≤ 16680
  pub room : first + 16680 ≤ length e
  pub fit : Fit desk
  pub so_far : List ℕ
  pub drawn_left : so_far ++ drawn_for (most_slots levels - k) (play_of desk row) ≡ whole
  pub desk_left : (played_for (most_slots levels - k) (play_of desk row)).desk ≡ end
  pub puts : PutsAt first so_far e at out

abbrev pub whole_of : Desk → List Card → List ℕ
whole_of desk row = drawn_for (most_slots levels) (play_of desk row)

abbrev pub end_of : Desk → List Card → Desk
end_of desk row = (played_for (most_slots levels) (play_of desk row)).desk

pub drawing_none : (desk : Desk) (row : List Card) (at : ℕ) (e : List ℕ) → Fit desk → length (whole_of desk row) ≤ 16680
    → at + 16680 ≤ length e → Drawing (whole_of desk row) (end_of desk row) at e 0 desk row at e
drawing_none desk row at e f h k =
    record { most = h; room = k; fit = f; so_far = []; drawn_left = rw (sub-zero (most_slots levels)); desk_left = rw (sub-zero (most_slots levels)); puts = puts_none at e }

-- what is drawn so far is within the whole
part_most : (s rest whole : List ℕ) → s ++ rest ≡ whole → length s ≤ length whole
part_most s rest whole e =
    let both : length (s ++ rest) ≡ length s + length rest = length-append s rest in
    omega (arith, ap length e, both)

pub drawing_room : {whole e out : List ℕ} {end desk : Desk} {row : List Card} {first k at : ℕ} → Drawing whole end first e k desk row at out
    → at ≤ first + 16680
drawing_room d = omega (arith, part_most d.so_far _ _ d.drawn_left, d.most, d.puts.next)

-- a slot more over the first n cards
still_running : (desk : Desk) (k : ℕ) → goes_on desk k ≡ true → is_running desk.walk ≡ true
unfolding goes_on
still_running desk k e = ((and-eq-true_iff (ltb k (most_slots levels)) _).0 e).1

pub drawing_more : {whole e out after : List ℕ} {end desk : Desk} {first k at r : ℕ} (n : ℕ) (row : List Card) (s : Slotted)
    → Drawing whole end first e k desk (take n row) at out → goes_on desk k ≡ true → s ≡ slotted row n desk
    → PutsAt at (slot_drawn desk.walk s.air s.desk.walk) out r after
    → Drawing whole end first e (k + 1) s.desk (take n s.row) r after
unfolding played_for
drawing_more {whole} {e} {out} {after} {end} {desk} {first} {k} {at} {r} n row s d goes is p =
    let few : k < most_slots levels = still_few desk k goes in
    let running : is_running desk.walk ≡ true = still_running desk k goes in
    let m : ℕ = most_slots levels - (k + 1) in
    let one : suc m ≡ most_slots levels - k = omega (arith, few) in
    let added : List ℕ = slot_drawn desk.walk s.air s.desk.walk in
    let left : d.so_far ++ added ++ drawn_for m (play_of s.desk (take n s.row)) ≡ whole =
    append_assoc d.so_far added _
    ∙ ap (λ (l : List ℕ). d.so_far ++ l) (slot_drawn_lem m n row desk s running is)
    ∙ ap (λ (j : ℕ). d.so_far ++ drawn_for j (play_of desk (take n row))) one
    ∙ d.drawn_left in
    let long : length (d.so_far ++ added) ≡ length d.so_far + length added = length-append d.so_far added in
    record {
      most = d.most;
      room = d.room;
      fit = slotted_fit row n desk s d.fit is;
      so_far = d.so_far ++ added;
      drawn_left = left;
      desk_left =
          ap (λ (q : Played). (played_for m q).desk) (slot_of_first row n desk s is)
          ∙ ap (λ (j : ℕ). (played_for j (play_of desk (take n row))).desk) one
          ∙ d.desk_left;
      puts = puts_then d.puts p (omega (arith, part_most (d.so_far ++ added) _ whole left, long, d.most, d.room, d.puts.next));
    }

-- no more to draw
pub record Over (whole : List ℕ) (end : Desk) (first : ℕ) (e : List ℕ) (desk : Desk) (at : ℕ) (out : List ℕ) : Type 0 where
  pub desk_left : desk ≡ end
  pub puts : PutsAt first whole e at out

over_of : {whole e out : List ℕ} {end desk : Desk} {row : List Card} {first k at : ℕ} → Drawing whole end first e k desk row at out
    → drawn_for (most_slots levels - k) (play_of desk row) ≡ [] → (played_for (most_slots levels - k) (play_of desk row)).desk ≡ desk → Over whole end first e desk at out
over_of {whole} {e} {out} {first = first} {at = at} d none stays =
    let all : d.so_far ≡ whole = sym (append-nil d.so_far) ∙ ap (λ (l : List ℕ). d.so_far ++ l) (sym none) ∙ d.drawn_left in
    record { desk_left = sym stays ∙ d.desk_left; puts = subst (λ (l : List ℕ). PutsAt first l e at out) all d.puts }

pub drawing_over : {whole e out : List ℕ} {end desk : Desk} {row : List Card} {first k at : ℕ} → Drawing whole end first e k desk row at out
    → goes_on desk k ≡ false → Over whole end first e desk at out
unfolding goes_on drawn_for played_for
drawing_over {whole} {e} {out} {end} {desk} {row} {first} {k} {at} d over = go (ltb k (most_slots levels)) (is_running desk.walk) refl refl over
  where
    spent : most_slots levels ≤ k → most_slots levels - k ≡ 0
    spent h = omega (arith, h)

    go : (a b : Bool) → ltb k (most_slots levels) ≡ a → is_running desk.walk ≡ b → (a && b) ≡ false → Over whole end first e desk at out
    go true true f g h = absurd (subst T h tt)
    go true false f g h = over_of d (none_drawn (most_slots levels - k) (play_of desk row) g) (played_ended (most_slots levels - k) desk row d.fit g)
    go false b f g h =
        let none : most_slots levels - k ≡ 0 = spent (ltb-false k (most_slots levels) f) in
        over_of d (ap (λ (j : ℕ). drawn_for j (play_of desk row)) none) (ap (λ (j : ℕ). (played_for j (play_of desk row)).desk) none)

-- ---- all that is drawn, over the first n cards of a row that was dealt

pub dealt_most : (us : List ℕ) (n : ℕ) {desk : Desk} {row : List Card} → desk ≡ fresh_desk → row ≡ cards_of us
    → length (whole_of desk (take n row)) ≤ 16680
dealt_most us n d r = rw (d, r, take_cards n us) (walk_most (take n us))

pub drawn_puts : (us : List ℕ) (n : ℕ) {desk₀ desk : Desk} {row : List Card} {m at r : ℕ} {room e out left : List ℕ} → desk₀ ≡ fresh_desk
    → row ≡ cards_of us → PutsAt 0 heading room m e → Over (whole_of desk₀ (take n row)) (end_of desk₀ (take n row)) m e desk at out
    → PutsAt at (twins_line desk) out r left → r ≤ length room → Puts (drawn (take n us)) room r left
unfolding drawn ended
drawn_puts us n {desk₀} {desk} {row} {m} {at} {r} {room} {e} {out} {left} d c p o q h =
    let play : play_of desk₀ (take n row) ≡ play_of fresh_desk (cards_of (take n us)) = λ i. play_of (d i) ((ap (take n) c ∙ take_cards n us) i) in
    let all : PutsAt 0 (heading ++ whole_of desk₀ (take n row) ++ twins_line desk) room r left =
    puts_then (puts_then p o.puts (omega (arith, o.puts.next, q.next))) q (omega (arith, q.next)) in
    let same : heading ++ whole_of desk₀ (take n row) ++ twins_line desk ≡ drawn (take n us) =
    ap (λ (x : Desk). heading ++ whole_of desk₀ (take n row) ++ twins_line x) o.desk_left
    ∙ ap (λ (x : Played). heading ++ drawn_for (most_slots levels) x ++ twins_line (played_for (most_slots levels) x).desk) play in
    puts_start (subst (λ (s : List ℕ). PutsAt 0 s room r left) same all)
