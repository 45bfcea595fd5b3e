-- The ways out of the picture: room short, a wrong line, the walk drawn and what is printed after it. By what reading finds.
-- Assumes nothing.
use mathlib.Core.Path.{◌≡◌, refl, sym, ap, ◌∙◌}
use Prim.Native.Nat.{ℕ, ◌+◌, ◌≤◌, ◌<◌}
use mathlib.Core.List.{List, ◌++◌}
use borrow.Author.Tests.{lt-leb, le-leb, eq-eqb, ne_eqb}
use native.Mathlib.Omega.{arith}
use lib.IntN.{ℤ, pos}
use lib.ListN.{length, take, length-append}
use lib.Seq.{take-append_seam, drop-append-add, drop-drop}
use Rattle.std.specs.Prelude.{Ok, Err}
use Rattle.refusals.specs.declared.Refusal.TheVariants.{Room}
use Rattle.refusals.specs.Number.{number, number_back}
use Rattle.lent.specs.Lent.{over, placed}
use Rattle.lent.specs.Puts.{Puts}
use Rattle.lines.specs.declared.Lines.{Lines}
use Rattle.lines.specs.Lines.{fresh_lines, read_from}
use Rattle.lines.proofs.Reading.{reads_of_read}
use Rattle.report.specs.Bench.{printed, most_printed, bench_answer, bench_leaves, Prints}
use Rattle.picture.specs.Drawn.{drawn, pictured, most_pictured, picture_answer, picture_leaves, Pictures}

pub pictures_short : (input room : List ℕ) → length room < 17943 → Pictures input room (number_back (Err Room)) room
unfolding picture_answer picture_leaves most_pictured number_back number
pictures_short input room h = record { answer = rw (lt-leb 17943 (length room) h); leaves = rw (lt-leb 17943 (length room) h) }

pictures_all : (input room left : List ℕ) (r : ℤ) → 17943 ≤ length room → r ≡ pos (length (pictured input)) → left ≡ over (pictured input) room
    → Pictures input room r left
unfolding picture_answer picture_leaves most_pictured
pictures_all input room left r h n l =
    record { answer = rw (le-leb 17943 (length room) h) n; leaves = rw (le-leb 17943 (length room) h) l }

pub pictures_wrong : (input room left : List ℕ) (s : Lines) (r : ℤ) → s ≡ read_from fresh_lines input → (s.bad ≡ 0 → ⊥) → 17943 ≤ length room
    → Prints input room r left → Pictures input room r left
unfolding bench_answer bench_leaves most_printed pictured
pictures_wrong input room left s r k bad h p =
    let alone : printed input ≡ pictured input = rw (← (reads_of_read input s k).bad, ne_eqb s.bad 0 bad) refl in
    let room_fits = le-leb 1200 (length room) (omega arith) in
    pictures_all input room left r h (p.answer ∙ rw room_fits (ap (λ (l : List ℕ). pos (length l)) alone))
    (p.leaves ∙ rw room_fits (ap (λ (l : List ℕ). over l room) alone))

-- bytes right after those that stand at the start
over_then : (s v e : List ℕ) → placed (length s) v (over s e) ≡ over (s ++ v) e
unfolding over placed
over_then s v e = rw (take-append_seam, drop-append-add, drop-drop, length-append)

pub pictures_drawn : (input room e left : List ℕ) (s : Lines) (at n : ℕ) → s ≡ read_from fresh_lines input → s.bad ≡ 0 → 17943 ≤ length room
    → Puts (drawn (take s.count s.uids)) room at e → n ≡ length (printed input) → left ≡ placed at (printed input) e
    → Pictures input room (number_back (Ok (at + n))) left
unfolding pictured number_back
pictures_drawn input room e left s at n k fine h p count l =
    let us : List ℕ = take s.count s.uids in
    let all : drawn us ++ printed input ≡ pictured input = rw (← (reads_of_read input s k).bad, eq-eqb s.bad 0 fine, ← ((reads_of_read input s k).listed fine)) refl in
    pictures_all input room left (pos (at + n)) h
    (rw count (ap (λ (m : ℕ). pos (m + length (printed input))) p.count) ∙ ap pos (sym (length-append (drawn us) (printed input)))
    ∙ ap (λ (x : List ℕ). pos (length x)) all)
    (l ∙ (λ i. placed (p.count i) (printed input) (p.leaves i)) ∙ over_then (drawn us) (printed input) room
    ∙ ap (λ (x : List ℕ). over x room) all)
