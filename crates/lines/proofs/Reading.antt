-- Reading byte by byte finds the first wrong line and the UIDs of an input. By induction over what is left of it, after a line that has begun.
-- Assumes nothing.
use mathlib.Core.Path.{◌≡◌, refl, sym, subst, ◌∙◌}
use mathlib.Core.Bool.{Bool, true, false, cond}
use Prim.Native.Nat.{ℕ, ◌+◌, ◌≤◌, ◌<◌}
use native.Mathlib.Numerals.{add-one}
use native.Mathlib.Decide.{ℕ_discrete, dec_lt}
use native.Mathlib.Omega.{arith}
use mathlib.Core.List.{List, [], ◌∷◌, ◌++◌, append_assoc, append-nil}
use borrow.Author.Tests.{lt-ltb, le-ltb, eq-eqb, ne_eqb}
use lib.Dec.{eqb}
use lib.ListN.{length, take, length-append}
use Rattle.digits.specs.Digits.{digit_of}
use Rattle.lines.specs.declared.Lines.{Lines}
use Rattle.lines.specs.Input.{lines_from, lines, bad_from, bad_line, uids_of, uids}
use Rattle.lines.specs.Lines.{fresh_lines, wrong, listed, pushed, longer, line_ended, stepped, closed, read_from, Reads}
use Rattle.lines.proofs.LineWays.{is_whole, whole_count, ended_uid, ended_wrong, longer_digit, longer_wrong, stepped_end, stepped_longer, is_open, closed_open, closed_shut}
use Rattle.lines.proofs.WrongLines.{is_good, bad_line_dead, dead_101, dead_17, dead_digit, bad_line_most}
use Rattle.lines.proofs.Begun.{Reading, reading_fresh, reading_listed, reading_pushed, list_more, whole_line}
use Rattle.lines.proofs.LeftToRead.{read_stopped, wrong_bad, ended_closed}

-- what reading finds after a state with lines to come
record Found (s : Lines) (ls : List (List ℕ)) (r : Lines) : Type 0 where
  bad : r.bad ≡ bad_from (s.count + 1) ls
  count : r.count ≤ 100
  listed : r.bad ≡ 0 → take r.count r.uids ≡ take s.count s.uids ++ uids_of ls

-- a wrong line is found
found_wrong : (s : Lines) (ls : List (List ℕ)) (bs : List ℕ) → s.count ≤ 100 → bad_from (s.count + 1) ls ≡ s.count + 1
    → Found s ls (read_from (wrong s) bs)
unfolding wrong
found_wrong s ls bs h e =
    let stops : read_from (wrong s) bs ≡ wrong s = read_stopped (wrong s) bs (wrong_bad s) in
    record { bad = rw stops (sym e); count = rw stops h; listed = rw stops (λ (q : s.count + 1 ≡ 0). absurd (omega arith)) }

-- the line ends
found_ended : (s : Lines) (line bs : List ℕ) → Reading s line
    → (s.count < 100 → Found (listed s) (lines_from [] bs) (read_from (listed s) bs)) → Found s (line ∷ lines_from [] bs) (read_from (line_ended s) bs)
unfolding bad_from uids_of listed
found_ended s line bs k f = go (is_whole s) refl
  where
    go : (t : Bool) → is_whole s ≡ t → Found s (line ∷ lines_from [] bs) (read_from (line_ended s) bs)
    go true e =
        let h = whole_count s e in
        let g = f h in
        let is : line_ended s ≡ listed s = sym (ended_uid s e) in
        record {
          bad = rw (is, whole_line s line k, e, ← (add-one (s.count + 1))) g.bad;
          count = rw is g.count;
          listed = rw is (λ q. g.listed q ∙ rw (list_more s line k h, append_assoc));
        }
    go false e =
        let is : line_ended s ≡ wrong s = sym (ended_wrong s e) in
        rw is (found_wrong s (line ∷ lines_from [] bs) bs k.count (rw (whole_line s line k, e)))

found_pushed : (s : Lines) (d : ℕ) (ls : List (List ℕ)) (r : Lines) → Found (pushed s d) ls r → Found s ls r
unfolding pushed
found_pushed s d ls r g = record { bad = g.bad; count = g.count; listed = g.listed }

-- a byte more in the line
found_longer : (s : Lines) (line : List ℕ) (b : ℕ) (bs : List ℕ) → Reading s line
    → (s.digits < 16 → digit_of b < 16 → Found (pushed s (digit_of b)) (lines_from (line ++ b ∷ []) bs) (read_from (pushed s (digit_of b)) bs))
    → Found s (lines_from (line ++ b ∷ []) bs) (read_from (longer s b) bs)
found_longer s line b bs k f = go (dec_lt s.count 100) (dec_lt s.digits 16) (dec_lt (digit_of b) 16)
  where
    more : length (line ++ b ∷ []) ≡ length line + 1
    more = length-append line (b ∷ [])

    dead : ((rest : List ℕ) → is_good (s.count + 1) ((line ++ b ∷ []) ++ rest) ≡ false) → Found s (lines_from (line ++ b ∷ []) bs) (read_from (wrong s) bs)
    dead e =
        found_wrong s (lines_from (line ++ b ∷ []) bs) bs k.count
        (bad_line_dead (s.count + 1) (line ++ b ∷ []) bs (λ (z : length (line ++ b ∷ []) ≡ 0). absurd (omega (arith, more))) e)

    go : Dec (s.count < 100) → Dec (s.digits < 16) → Dec (digit_of b < 16) → Found s (lines_from (line ++ b ∷ []) bs) (read_from (longer s b) bs)
    go (yes h) (yes l) (yes d) = rw (← (longer_digit s b (digit_of b) refl (rw (lt-ltb s.count 100 h, lt-ltb s.digits 16 l, lt-ltb (digit_of b) 16 d)))) (found_pushed s (digit_of b) _ _ (f l d))
    go (yes h) (yes l) (no d) =
        rw (← (longer_wrong s b (digit_of b) refl (rw (lt-ltb s.count 100 h, lt-ltb s.digits 16 l, le-ltb (digit_of b) 16 (omega arith))))) (dead (λ rest. dead_digit (s.count + 1) b line rest (omega arith)))
    go (yes h) (no l) d =
        rw (← (longer_wrong s b (digit_of b) refl (rw (lt-ltb s.count 100 h, le-ltb s.digits 16 (omega arith)))))
        (dead (λ rest. dead_17 (s.count + 1) (line ++ b ∷ []) rest (omega (arith, more, k.digits))))
    go (no h) l d =
        let at : s.count ≡ 100 = omega (arith, k.count) in
        rw (← (longer_wrong s b (digit_of b) refl (rw (le-ltb s.count 100 (omega arith))))) (dead (λ rest. dead_101 (s.count + 1) ((line ++ b ∷ []) ++ rest) (omega arith)))

-- the end of the input
found_between : (s : Lines) (line : List ℕ) → Reading s line → length line ≡ 0 → Found s [] (closed s)
unfolding bad_from uids_of
found_between s line k e =
    rw (← (closed_shut s (rw (eq-eqb s.bad 0 k.fine, eq-eqb s.digits 0 (k.digits ∙ e)))))
    (record { bad = k.fine; count = k.count; listed = λ q. sym (append-nil (take s.count s.uids)) })

found_closed : (s : Lines) (line : List ℕ) → Reading s line → Found s (lines_from line []) (closed s)
unfolding lines_from read_from
found_closed s line k = go (ℕ_discrete (length line) 0)
  where
    go : Dec (length line ≡ 0) → Found s (cond (eqb (length line) 0) [] (line ∷ [])) (closed s)
    go (yes e) = rw (eq-eqb (length line) 0 e) (found_between s line k e)
    go (no e) =
        let begun : s.digits ≡ 0 → ⊥ = λ z. e (sym k.digits ∙ z) in
        let begins : is_open s ≡ true = rw (eq-eqb s.bad 0 k.fine, ne_eqb s.digits 0 begun) in
        let last : closed s ≡ closed (line_ended s) = sym (closed_open s begins) ∙ ended_closed s in
        rw (ne_eqb (length line) 0 e, last)
        (found_ended s line [] k (λ h. found_between (listed s) [] (reading_listed s line k h) refl))

found : (bs : List ℕ) (s : Lines) (line : List ℕ) → Reading s line → Found s (lines_from line bs) (read_from s bs)
unfolding read_from lines_from
found [] s line k = found_closed s line k
found (b ∷ bs) s line k =
    rw (eq-eqb s.bad 0 k.fine)
    (go (ℕ_discrete b 0x0a) (found_ended s line bs k (λ h. found bs (listed s) [] (reading_listed s line k h)))
    (found_longer s line b bs k (λ l d. found bs (pushed s (digit_of b)) (line ++ b ∷ []) (reading_pushed s line b k l d))))
  where
    go : Dec (b ≡ 0x0a) → Found s (line ∷ lines_from [] bs) (read_from (line_ended s) bs)
        → Found s (lines_from (line ++ b ∷ []) bs) (read_from (longer s b) bs)
        → Found s (cond (eqb b 0x0a) (line ∷ lines_from [] bs) (lines_from (line ++ b ∷ []) bs)) (read_from (stepped s b) bs)
    go (yes e) f g = rw (eq-eqb b 0x0a e, ← (stepped_end s b e)) f
    go (no e) f g = rw (ne_eqb b 0x0a e, ← (stepped_longer s b e)) g

pub reads_input : (input : List ℕ) → Reads input (read_from fresh_lines input)
unfolding bad_line uids lines fresh_lines
reads_input input =
    let f = found input fresh_lines [] reading_fresh in
    record { bad = f.bad; count = f.count; listed = f.listed }

-- the same of what `read` promises
pub reads_of_read : (input : List ℕ) (r : Lines) → r ≡ read_from fresh_lines input → Reads input r
reads_of_read input r e = subst (Reads input) (sym e) (reads_input input)

pub bad_of_read : (input : List ℕ) (r : Lines) → r ≡ read_from fresh_lines input → r.bad ≤ 101
bad_of_read input r e = rw (reads_of_read input r e).bad (bad_line_most input)
