-- A length that C is told is within what was lent, or is a request's: so it fits 64 bits. By the tests of each answer. Assumes nothing.
use Rattle.std.specs.Prelude.{◌≡◌, refl, ℕ, ◌+◌, ◌≤◌, Bool, true, false, cond, List, length, pos, leb, Result, Ok, Err, IfOk}
use Rattle.std.proofs.Common.{arith, sym, ◌∙◌}
use borrow.Author.Tests.{leb-true}
use Rattle.lent.specs.Lent.{refused}
use Rattle.refusals.specs.declared.Refusal.{Refusal}
use Rattle.refusals.specs.Number.{number_back}
use Rattle.frames.specs.Frame.{seal_answer, Seals}
use Rattle.tracks.specs.Track.{track_length}
use Rattle.tracks.specs.Coder.{is_codable, has_room, code_answer, Codes}
use Rattle.coil.specs.Track.{answer_track_length}
use Rattle.coil.specs.Coder.{is_answer_length, has_room as has_room_on, code_answer as coil_answer, CodesAnswer}
use Rattle.reader.specs.declared.Request.{Request}
use Rattle.reader.specs.Request.{Makes}
use Rattle.reader.proofs.Lengths.{made_most}

length_within : (r : Result ℕ Refusal) (most : ℕ) → ((n : ℕ) → number_back r ≡ pos n → n ≤ most) → IfOk r (λ n. n ≤ most)
unfolding number_back
length_within (Ok n) most h = h n refl
length_within (Err refusal) most h = tt

-- where a length is told that is tested against the room, and else a refusal
told_within : (b : Bool) (m room n : ℕ) → leb m room ≡ b → cond b (pos m) (refused 8) ≡ pos n → n ≤ room
told_within true m room n test same = let e : m ≡ n = cc in let h : m ≤ room = leb-true m room test in omega arith
told_within false m room n test same = let e : refused 8 ≡ pos n = same in cc

pub sealed_within : (buffer left : List ℕ) (n most : ℕ) (r : Result ℕ Refusal) → length buffer ≤ most → Seals buffer n (number_back r) left
    → IfOk r (λ k. k ≤ most)
unfolding seal_answer
sealed_within buffer left n most r h p =
    length_within r most (λ k same. let within : k ≤ length buffer = told_within (leb (n + 2) (length buffer)) (n + 2) (length buffer) k refl (sym p.answer ∙ same) in omega arith)

pub coded_within : (frame : List ℕ) (coding : ℕ) (found left : List ℕ) (most : ℕ) (r : Result ℕ Refusal) → length found ≤ most → Codes frame coding found (number_back r) left
    → IfOk r (λ k. k ≤ most)
unfolding code_answer has_room
coded_within frame coding found left most r h p =
    length_within r most (λ k same. let within : k ≤ length found = go (is_codable frame coding) k (sym p.answer ∙ same) in omega arith)
  where
    go : (b : Bool) (k : ℕ)
        → cond b (cond (leb (track_length coding (length frame)) (length found)) (pos (track_length coding (length frame))) (refused 8)) (refused 7) ≡ pos k
        → k ≤ length found
    go true k same = told_within (leb (track_length coding (length frame)) (length found)) (track_length coding (length frame)) (length found) k refl same
    go false k same = let e : refused 7 ≡ pos k = same in cc

pub answer_coded_within : (answer found left : List ℕ) (most : ℕ) (r : Result ℕ Refusal) → length found ≤ most → CodesAnswer answer found (number_back r) left
    → IfOk r (λ k. k ≤ most)
unfolding coil_answer has_room_on
answer_coded_within answer found left most r h p =
    length_within r most (λ k same. let within : k ≤ length found = go (is_answer_length (length answer)) k (sym p.tells ∙ same) in omega arith)
  where
    go : (b : Bool) (k : ℕ)
        → cond b (cond (leb (answer_track_length (length answer)) (length found)) (pos (answer_track_length (length answer))) (refused 8)) (refused 7) ≡ pos k
        → k ≤ length found
    go true k same = told_within (leb (answer_track_length (length answer)) (length found)) (answer_track_length (length answer)) (length found) k refl same
    go false k same = let e : refused 7 ≡ pos k = same in cc

-- a request has 45 bytes at the most
pub made_within : (q : Request) (written room left : List ℕ) (r : Result ℕ Refusal) → Makes q written room (number_back r) left
    → IfOk r (λ k. k ≤ 9223372036854775807)
unfolding number_back
made_within q written room left (Ok n) p = let most : n ≤ 45 = made_most q written room n left p in omega arith
made_within q written room left (Err refusal) p = tt
