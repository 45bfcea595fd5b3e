-- Laws of rows: a pair more is read or put, what stores make of a buffer, and the ways out of `read_row`.
-- Assumes nothing.
use mathlib.Core.Path.{◌≡◌, refl, sym, ap, ◌∙◌}
use mathlib.Core.Bool.{Bool, true, false, ◌&&◌}
use mathlib.Core.List.{List, [], ◌∷◌, ◌++◌}
use Prim.Native.Nat.{ℕ, suc, ◌+◌, ◌-◌, ◌*◌, ◌/◌, ◌%◌, ◌≤◌, ◌<◌}
use native.Mathlib.Numerals.{add-one}
use native.Mathlib.Omega.{arith}
use borrow.Author.Tests.{le-leb, lt-leb}
use lib.ListN.{length, drop, get_or, set, length-drop}
use lib.Seq.{drop-cons, drop-length, take-suc-set, drop-set-lt, append_snoc}
use Rattle.std.specs.Prelude.{Result, Ok, Err}
use Rattle.refusals.specs.declared.Refusal.{Refusal}
use Rattle.refusals.specs.declared.Refusal.TheVariants.{Room}
use Rattle.refusals.specs.Number.{number, number_back}
use Rattle.std.specs.declared.slice.ChunksExact.{ChunksExact}
use Rattle.std.specs.List.{list_all}
use Rattle.std.specs.Slice.Iter.{chunks_exact_rest, chunks_exact_size, chunks_exact_steps}
use Rattle.std.proofs.lemmas.Iterator.{YieldsList}
use Rattle.std.proofs.lemmas.Iterator.Splits.{YieldsList-from_shown_while}
use Rattle.lent.specs.Lent.{placed}
use Rattle.lent.proofs.Over.{placed_none, placed_placed, placed_start}
use Rattle.digits.specs.Digits.{digit, hex_digits}
use Rattle.digits.specs.Rows.{is_pair, is_row, pair_of, row_bytes, row_text, read_answer, read_leaves, ReadsRow}

-- ---- a row, three bytes at a time

unfoldable pub threes : List ℕ → List (List ℕ)
threes [] = []
threes (a ∷ []) = []
threes (a ∷ b ∷ []) = []
threes (a ∷ b ∷ c ∷ l) = (a ∷ b ∷ c ∷ []) ∷ threes l

threes_short : (l : List ℕ) → length l < 3 → length (threes l) ≡ 0
unfolding threes
threes_short [] h = refl
threes_short (a ∷ []) h = refl
threes_short (a ∷ b ∷ []) h = refl
threes_short (a ∷ b ∷ c ∷ l) h = absurd (omega arith)

threes_more : (three l : List ℕ) → length three ≡ 3 → threes (three ++ l) ≡ three ∷ threes l
unfolding threes
threes_more [] l h = absurd (omega arith)
threes_more (a ∷ []) l h = absurd (omega arith)
threes_more (a ∷ b ∷ []) l h = absurd (omega arith)
threes_more (a ∷ b ∷ c ∷ []) l h = refl
threes_more (a ∷ b ∷ c ∷ d ∷ three) l h = absurd (omega arith)

-- what chunks of three of a text give
pub yields_threes : {s : ChunksExact ℕ} (text : List ℕ) → chunks_exact_rest s ≡ text → chunks_exact_size s ≡ 3
    → YieldsList (chunks_exact_steps {A = ℕ}) (λ y. y.now) s (threes text)
yields_threes {s} text is size =
    rw (← is)
    (YieldsList-from_shown_while (chunks_exact_steps {A = ℕ}) (λ y. y.now) (λ t. threes (chunks_exact_rest t)) (λ t. chunks_exact_size t ≡ 3)
    (λ t u k steps. threes_short (chunks_exact_rest t) (omega (arith, steps.1.0, k)))
    (λ t x u k steps. (steps.0 ∙ k, rw steps.1.0 (threes_more x.now (chunks_exact_rest u) (steps.1.1 ∙ k))))
    s size)

abbrev pub is_three : List ℕ → Bool
is_three l = is_pair (get_or l 0 0) (get_or l 1 0) (get_or l 2 0)

pub row_threes : (text : List ℕ) → length text % 3 ≡ 0 → list_all is_three (threes text) ≡ is_row text
unfolding is_row threes
row_threes [] h = refl
row_threes (a ∷ []) h = absurd (omega arith)
row_threes (a ∷ b ∷ []) h = absurd (omega arith)
row_threes (a ∷ b ∷ c ∷ text) h = ap (λ t. is_pair a b c && t) (row_threes text (omega arith))

-- a part of a pair is no row
pub row_cut : (text : List ℕ) → (length text % 3 ≡ 0 → ⊥) → false ≡ is_row text
unfolding is_row
row_cut [] h = absurd (h refl)
row_cut (a ∷ []) h = refl
row_cut (a ∷ b ∷ []) h = refl
row_cut (a ∷ b ∷ c ∷ text) h = rw (← (row_cut text (λ e. h (omega arith)))) (sym (and_false (is_pair a b c)))
  where
    and_false : (t : Bool) → (t && false) ≡ false
    and_false true = refl
    and_false false = refl

-- ---- stores

-- the first of the bytes to be placed, stored
pub placed_cons : (at b : ℕ) (s e : List ℕ) → at < length e → placed (suc at) s (set e at b) ≡ placed at (b ∷ s) e
unfolding placed
placed_cons at b s e h =
    let past : suc at + length s ≡ at + suc (length s) = omega arith in
    rw (take-suc-set e at b h, drop-set-lt (suc at + length s) e at b (omega arith), append_snoc, past)

-- one byte of a row, stored
pub read_more : (pair rest e : List ℕ) (i b : ℕ) → length pair ≡ 3 → i < length e → b ≡ pair_of (get_or pair 1 0) (get_or pair 2 0)
    → placed (i + 1) (row_bytes rest) (set e i b) ≡ placed i (row_bytes (pair ++ rest)) e
unfolding row_bytes
read_more [] rest e i b h k is = absurd (omega arith)
read_more (x ∷ []) rest e i b h k is = absurd (omega arith)
read_more (x ∷ y ∷ []) rest e i b h k is = absurd (omega arith)
read_more (x ∷ y ∷ z ∷ []) rest e i b h k is =
    ap (λ (n : ℕ). placed n (row_bytes rest) (set e i b)) (add-one i) ∙ placed_cons i b (row_bytes rest) e k ∙ rw is
read_more (x ∷ y ∷ z ∷ w ∷ pair) rest e i b h k is = absurd (omega arith)

read_none : (l : List ℕ) → length l < 3 → row_bytes l ≡ []
unfolding row_bytes
read_none [] h = refl
read_none (a ∷ []) h = refl
read_none (a ∷ b ∷ []) h = refl
read_none (a ∷ b ∷ c ∷ l) h = absurd (omega arith)

pub read_end : (rest e : List ℕ) (i : ℕ) → length rest < 3 → e ≡ placed i (row_bytes rest) e
read_end rest e i h = rw (read_none rest h) (sym (placed_none i e))

text_cons : (bytes : List ℕ) (i : ℕ) → i < length bytes
    → row_text (drop i bytes) ≡ 0x20 ∷ digit (get_or bytes i 0 / 16) ∷ digit (get_or bytes i 0) ∷ row_text (drop (i + 1) bytes)
unfolding row_text hex_digits
text_cons bytes i h = rw (drop-cons bytes i 0 h, add-one i)

-- ---- how long they are

pub length_row_bytes : (row : List ℕ) → length (row_bytes row) ≡ length row / 3
unfolding row_bytes
length_row_bytes [] = refl
length_row_bytes (a ∷ []) = refl
length_row_bytes (a ∷ b ∷ []) = refl
length_row_bytes (a ∷ b ∷ c ∷ row) = rw (length_row_bytes row) (omega arith)

pub length_row_text : (bytes : List ℕ) → length (row_text bytes) ≡ 3 * length bytes
unfolding row_text hex_digits
length_row_text [] = refl
length_row_text (b ∷ bs) = rw (length_row_text bs) (omega arith)

-- ---- putting

-- one byte as a pair, put
pub put_more : (bytes e : List ℕ) (i at : ℕ) → i < length bytes → at + 3 * (length bytes - i) ≤ length e
    → placed (at + 3) (row_text (drop (i + 1) bytes)) (placed at (0x20 ∷ digit (get_or bytes i 0 / 16) ∷ digit (get_or bytes i 0) ∷ []) e)
    ≡ placed at (row_text (drop i bytes)) e
put_more bytes e i at h room =
    let rest : length (row_text (drop (i + 1) bytes)) ≡ 3 * (length bytes - (i + 1)) = rw (length_row_text, length-drop) refl in
    let pair : List ℕ = 0x20 ∷ digit (get_or bytes i 0 / 16) ∷ digit (get_or bytes i 0) ∷ [] in
    placed_placed at pair (row_text (drop (i + 1) bytes)) e (omega arith) ∙ rw (text_cons bytes i h)

pub put_end : (bytes e : List ℕ) (i at : ℕ) → i ≡ length bytes → placed at (row_text (drop i bytes)) e ≡ e
unfolding row_text
put_end bytes e i at h = rw (h, drop-length bytes) (placed_none at e)

-- ---- the ways out

pub read_refused : (text buffer : List ℕ) (r : Result ℕ Refusal) → r ≡ Err Room → length buffer < length text / 3 → ReadsRow text buffer (number_back r) buffer
unfolding read_answer read_leaves number_back number
read_refused text buffer r err h =
    let short = lt-leb (length text / 3) (length buffer) h in
    record { answer = rw (err, short); leaves = rw short }

pub read_served : (text buffer left : List ℕ) (n : ℕ) → n ≡ length text / 3 → n ≤ length buffer → left ≡ placed 0 (row_bytes text) buffer
    → ReadsRow text buffer (number_back (Ok n)) left
unfolding read_answer read_leaves number_back
read_served text buffer left n all h is =
    let room = le-leb (length text / 3) (length buffer) (omega arith) in
    record { answer = rw (room, all); leaves = rw (room, is) (placed_start (row_bytes text) buffer) }
