-- An answer that its request has earned is read: a success hands its part over, an error its code, both buffers as found.
-- By the bytes and the length of what is sealed. Assumes nothing.
use mathlib.Core.Path.{◌≡◌, refl}
use mathlib.Core.Bool.{true, cond}
use mathlib.Core.List.{List, [], ◌∷◌}
use Prim.Native.Nat.{ℕ, ◌+◌, ◌-◌, ◌≤◌}
use native.Mathlib.Decide.{ℕ_discrete}
use native.Mathlib.Omega.{arith}
use borrow.Author.Tests.{le-leb, eq-eqb, ne_eqb}
use lib.Dec.{eqb}
use lib.ListN.{length, get_or}
use lib.Seq.{take_at}
use Rattle.std.specs.Prelude.{Some}
use Rattle.crc.specs.Check.{sealed, check_bytes}
use Rattle.crc.proofs.Seal.{length_sealed, is_sealed_of_sealed}
use Rattle.frames.specs.Frame.{shortest_answer}
use Rattle.reader.specs.declared.Request.{Request}
use Rattle.reader.specs.declared.Reading.TheVariants.{Error}
use Rattle.reader.specs.Request.{is_request}
use Rattle.reader.specs.Reading.{block_bytes, lock_bytes, earned, is_error, is_success, is_answer, read_refusal, part_of, shown_in, outcome, reading}

-- ---- the bytes of what is sealed

sealed_first : (b : ℕ) (m : List ℕ) → get_or (sealed (b ∷ m)) 0 0 ≡ b
unfolding sealed
sealed_first b m = refl

sealed_second : (a b : ℕ) (m : List ℕ) → get_or (sealed (a ∷ b ∷ m)) 1 0 ≡ b
unfolding sealed
sealed_second a b m = refl

-- the first byte of the part, where it has one
sealed_part : (part : List ℕ) → get_or part 0 0 ≡ 0x0f → get_or (sealed (0x00 ∷ part)) 1 0 ≡ 0x0f
unfolding sealed
sealed_part [] e = absurd (omega arith)
sealed_part (b ∷ part) e = e

pub part_of_sealed : (b : ℕ) (part : List ℕ) → part_of (sealed (b ∷ part)) ≡ part
unfolding part_of sealed
part_of_sealed b part =
    let n : length (sealed (b ∷ part)) ≡ length (b ∷ part) + 2 = length_sealed (b ∷ part) in
    take_at part (check_bytes (b ∷ part)) (length (sealed (b ∷ part)) - 3) (omega (arith, n))

-- ---- which are read

-- 2B begins with 0F
tells_all : (q : Request) (part : List ℕ) → (q.command ≡ 0x2b → get_or part 0 0 ≡ 0x0f)
    → cond (eqb q.command 0x2b) (eqb (get_or (sealed (0x00 ∷ part)) 1 0) 0x0f) true ≡ true
tells_all q part told = go (ℕ_discrete q.command 0x2b)
  where
    go : Dec (q.command ≡ 0x2b) → cond (eqb q.command 0x2b) (eqb (get_or (sealed (0x00 ∷ part)) 1 0) 0x0f) true ≡ true
    go (yes e) = rw (e, sealed_part part (told e)) refl
    go (no n) = rw (ne_eqb q.command 0x2b n) refl

pub is_answer_of_part : (q : Request) (part : List ℕ) → length part + 3 ≡ earned q → (q.command ≡ 0x2b → get_or part 0 0 ≡ 0x0f)
    → is_answer q (sealed (0x00 ∷ part)) ≡ true
unfolding is_answer is_error is_success shortest_answer
is_answer_of_part q part long told =
    let n : length (sealed (0x00 ∷ part)) ≡ length (0x00 ∷ part) + 2 = length_sealed (0x00 ∷ part) in
    rw (
      le-leb 3 (length (sealed (0x00 ∷ part))) (omega (arith, n)),
      is_sealed_of_sealed,
      sealed_first,
      eq-eqb (length (sealed (0x00 ∷ part))) (earned q) (omega (arith, n)),
    ) (tells_all q part told)

pub is_answer_of_code : (q : Request) (code : ℕ) → is_answer q (sealed (0x01 ∷ code ∷ [])) ≡ true
unfolding is_answer is_error shortest_answer
is_answer_of_code q code = rw (length_sealed, is_sealed_of_sealed, sealed_first) refl

module _ (q : Request) (is : is_request q ≡ true) (found found' : List ℕ) (room : block_bytes q ≤ length found) (room' : lock_bytes q ≤ length found') where
  -- none of 7, 8 and 11
  served : (answer : List ℕ) → is_answer q answer ≡ true → read_refusal q answer (length found) (length found') ≡ 0
  unfolding read_refusal
  served answer e = rw (is, le-leb (block_bytes q) (length found) room, le-leb (lock_bytes q) (length found') room', e) refl

  pub part_read : (part : List ℕ) → length part + 3 ≡ earned q → (q.command ≡ 0x2b → get_or part 0 0 ≡ 0x0f)
      → reading q (sealed (0x00 ∷ part)) found found' ≡ shown_in q part found found'
  unfolding reading
  part_read part long told = rw (served (sealed (0x00 ∷ part)) (is_answer_of_part q part long told), sealed_first, part_of_sealed) refl

  pub code_read : (code : ℕ) → reading q (sealed (0x01 ∷ code ∷ [])) found found' ≡ outcome 0 (Some (Error code)) found found'
  unfolding reading
  code_read code = rw (served (sealed (0x01 ∷ code ∷ [])) (is_answer_of_code q code), sealed_first, sealed_second) refl
