-- Laws of rows that are put pair after pair: one pair more, and a row on a line of its own. By the list of bytes.
-- Assumes nothing.
use Rattle.std.proofs.Common.{◌≡◌, ℕ, suc, ◌+◌, ◌-◌, ◌<◌, ◌≤◌, List, [], ◌∷◌, ◌++◌, length, get_or, take, drop, sym, refl, ap, ◌∙◌, append_assoc, append-nil, add-one, arith, take_all, take-suc}
use Rattle.digits.specs.Digits.{hex_digits}
use Rattle.digits.specs.Rows.{row_text}
use Rattle.player.specs.Answer.{pairs_text, silence_text, heard_text}

row_append : (s v : List ℕ) → row_text (s ++ v) ≡ row_text s ++ row_text v
unfolding row_text
row_append [] v = refl
row_append (b ∷ s) v = rw (row_append s v) (sym (append_assoc (0x20 ∷ hex_digits 2 b) (row_text s) (row_text v)))

row_one : (b : ℕ) → row_text (b ∷ []) ≡ 0x20 ∷ hex_digits 2 b
unfolding row_text
row_one b = append-nil (0x20 ∷ hex_digits 2 b)

pub row_more : (bytes : List ℕ) (i : ℕ) → i < length bytes
    → row_text (take i bytes) ++ (0x20 ∷ hex_digits 2 (get_or bytes i 0)) ≡ row_text (take (i + 1) bytes)
row_more bytes i h =
    let b : ℕ = get_or bytes i 0 in
    ap (λ (l : List ℕ). row_text (take i bytes) ++ l) (sym (row_one b))
    ∙ sym (row_append (take i bytes) (b ∷ []))
    ∙ ap row_text (sym (take-suc bytes i 0 h))
    ∙ ap (λ (n : ℕ). row_text (take n bytes)) (sym (add-one i))

-- the first pair after a line feed, the others after spaces
pub pairs_cons : (bytes : List ℕ) → 1 ≤ length bytes
    → (0x0a ∷ hex_digits 2 (get_or bytes 0 0)) ++ row_text (take (length bytes - 1) (drop 1 bytes)) ≡ pairs_text bytes
unfolding pairs_text
pairs_cons [] h = absurd (omega arith)
pairs_cons (b ∷ bs) h = rw (take_all (suc (length bs) - 1) bs (omega arith))

pub pairs_none : (bytes : List ℕ) → length bytes ≡ 0 → 0x0a ∷ [] ≡ pairs_text bytes
unfolding pairs_text
pairs_none [] h = refl
pairs_none (b ∷ bs) h = absurd (omega arith)

-- ---- an answer

pub heard_silent : (answer : List ℕ) → length answer ≡ 0 → silence_text ≡ heard_text answer
unfolding heard_text
heard_silent [] h = refl
heard_silent (b ∷ bs) h = absurd (omega arith)

pub heard_pairs : (answer : List ℕ) → 1 ≤ length answer → pairs_text answer ≡ heard_text answer
unfolding heard_text
heard_pairs [] h = absurd (omega arith)
heard_pairs (b ∷ bs) h = refl
