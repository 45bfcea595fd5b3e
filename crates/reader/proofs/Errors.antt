-- An error answer never shows data, and a refusal changes nothing: whatever the answer's bytes are. By the three ways that reading goes.
-- Assumes nothing.
use mathlib.Core.Path.{◌≡◌, refl, ap, ◌∙◌}
use mathlib.Core.Bool.{Bool, true, false, cond}
use mathlib.Core.List.{List, [], ◌∷◌}
use Prim.Native.Nat.{ℕ}
use native.Mathlib.Decide.{ℕ_discrete}
use native.Mathlib.Omega.{arith}
use borrow.Author.Tests.{eq-eqb, ne_eqb}
use lib.Dec.{eqb}
use lib.ListN.{length, take, get_or}
use Rattle.std.specs.Prelude.{Some, None, Result, Ok}
use Rattle.std.specs.Result.{result_ok}
use Rattle.refusals.specs.declared.Refusal.{Refusal}
use Rattle.refusals.specs.Number.{number_of}
use Rattle.reader.specs.declared.Request.{Request}
use Rattle.reader.specs.Steps.{Unrefused}
use Rattle.reader.specs.declared.Reading.{Reading}
use Rattle.reader.specs.declared.Reading.TheVariants.{Error, Done, Blocks, Locks, System}
use Rattle.reader.specs.Reading.{reads_blocks, block_bytes, lock_bytes, information_in, reading_in, is_error, is_success, is_answer, read_refusal, part_of, Outcome, outcome, shown_in, reading, Reads, shows_data, ErrorShowsNothing}
use Rattle.reader.proofs.Served.{take_one, take_two, unrefused, sealed_answer}

-- flags that are not 00 are those of an error
error_flags : (q : Request) (answer : List ℕ) → is_answer q answer ≡ true → (get_or answer 0 0 ≡ 0 → ⊥) → get_or answer 0 0 ≡ 0x01
unfolding is_error is_success
error_flags q answer h other = go (ℕ_discrete (get_or answer 0 0) 0x01)
  where
    go : Dec (get_or answer 0 0 ≡ 0x01) → get_or answer 0 0 ≡ 0x01
    go (yes e) = e
    go (no e) =
        let never : false ≡ true = rw (ne_eqb (get_or answer 0 0) 0x01 e, ne_eqb (get_or answer 0 0) 0x00 other) at (sealed_answer q answer h).either in
        cc

-- what a success shows is never an error
success_shows : (q : Request) (part : List ℕ) → shows_data (Some (reading_in q part)) ≡ true
unfolding reading_in shows_data
success_shows q part = go (reads_blocks q) (eqb q.command 0x2c) (eqb q.command 0x2b)
  where
    go : (b l s : Bool) → shows_data (Some (cond b (Blocks (block_bytes q)) (cond l (Locks (lock_bytes q)) (cond s (System (information_in part)) Done)))) ≡ true
    go true l s = refl
    go false true s = refl
    go false false true = refl
    go false false false = refl

-- the three ways
data Way (q : Request) (answer blocks locks : List ℕ) : Outcome → Type 0 where
  Refuses : (n : ℕ) → (n ≡ 0 → ⊥) → Way q answer blocks locks (outcome n None blocks locks)
  Tells : take 2 answer ≡ 0x01 ∷ get_or answer 1 0 ∷ [] → Way q answer blocks locks (outcome 0 (Some (Error (get_or answer 1 0))) blocks locks)
  Shows : take 1 answer ≡ 0x00 ∷ [] → Way q answer blocks locks (shown_in q (part_of answer) blocks locks)

way : (q : Request) (answer blocks locks : List ℕ) → Way q answer blocks locks (reading q answer blocks locks)
unfolding reading
way q answer blocks locks = go (read_refusal q answer (length blocks) (length locks)) refl (ℕ_discrete _ 0) (ℕ_discrete (get_or answer 0 0) 0x00)
  where
    good : (n : ℕ) → read_refusal q answer (length blocks) (length locks) ≡ n → n ≡ 0 → Unrefused q answer (length blocks) (length locks)
    good n is e = unrefused q answer (length blocks) (length locks) (is ∙ e)

    one_byte : is_answer q answer ≡ true → get_or answer 0 0 ≡ 0x00 → take 1 answer ≡ 0x00 ∷ []
    one_byte h flags = take_one 0 answer (omega (arith, (sealed_answer q answer h).long)) ∙ ap (λ (b : ℕ). b ∷ []) flags

    two_bytes : is_answer q answer ≡ true → get_or answer 0 0 ≡ 0x01 → take 2 answer ≡ 0x01 ∷ get_or answer 1 0 ∷ []
    two_bytes h flags =
        take_two answer (omega (arith, (sealed_answer q answer h).long)) ∙ ap (λ (b : ℕ). b ∷ get_or answer 1 0 ∷ []) flags

    go : (n : ℕ) → read_refusal q answer (length blocks) (length locks) ≡ n → Dec (n ≡ 0) → Dec (get_or answer 0 0 ≡ 0x00)
        → Way q answer blocks locks (reading q answer blocks locks)
    go n is (no e) flags = rw (is, ne_eqb n 0 e) (Refuses n e)
    go n is (yes e) (yes f) = rw (is, eq-eqb n 0 e, eq-eqb (get_or answer 0 0) 0x00 f) (Shows (one_byte (good n is e).answered f))
    go n is (yes e) (no f) =
        let answered = (good n is e).answered in
        rw (is, eq-eqb n 0 e, ne_eqb (get_or answer 0 0) 0x00 f) (Tells (two_bytes answered (error_flags q answer answered f)))

-- ---- the two laws

-- no reading both shows data and shows none, and no code is data or nothing
never : {b : Bool} → b ≡ true → b ≡ false → ⊥
never p q = let z : ◌≡◌ {A = ℕ} 0 1 = cc in omega arith

no_data_in_code : {r : Result Reading Refusal} (code : ℕ) → r ≡ Ok (Error code) → shows_data (result_ok r) ≡ false
unfolding shows_data
no_data_in_code code is = rw is refl

-- what shows no data leaves both buffers as they were
left_alone : (q : Request) (answer blocks locks : List ℕ) {o : Outcome} → Way q answer blocks locks o → shows_data o.reading ≡ false
    → (o.blocks ≡ blocks) × (o.locks ≡ locks)
unfolding outcome shown_in
left_alone q answer blocks locks (Refuses n other) none = (refl, refl)
left_alone q answer blocks locks (Tells flags) none = (refl, refl)
left_alone q answer blocks locks (Shows flags) none = absurd (never (success_shows q (part_of answer)) none)

pub nothing_left : (q : Request) (answer blocks locks : List ℕ) → shows_data (reading q answer blocks locks).reading ≡ false
    → ((reading q answer blocks locks).blocks ≡ blocks) × ((reading q answer blocks locks).locks ≡ locks)
nothing_left q answer blocks locks = left_alone q answer blocks locks (way q answer blocks locks)

module _ (q : Request) (answer blocks locks : List ℕ) (r : Result Reading Refusal) (blocks' locks' : List ℕ) where
  shows_nothing : {o : Outcome} → Way q answer blocks locks o → Reads o r blocks' locks' → ErrorShowsNothing answer blocks locks r blocks' locks'
  unfolding outcome shown_in shows_data
  shows_nothing (Refuses n other) p =
      record {
        data_of_success = λ shows. absurd (never shows (ap shows_data p.reading));
        code_of_error = λ code is. cc (p.reading, ap result_ok is);
        nothing_shown = λ none. (p.blocks_left, p.locks_left);
      }
  shows_nothing (Tells flags) p =
      record {
        data_of_success = λ shows. absurd (never shows (ap shows_data p.reading));
        code_of_error = λ code is. flags ∙ ap (λ (b : ℕ). 0x01 ∷ b ∷ []) (cc p.reading);
        nothing_shown = λ none. (p.blocks_left, p.locks_left);
      }
  shows_nothing (Shows flags) p =
      let shown : shows_data (result_ok r) ≡ true = ap shows_data p.reading ∙ success_shows q (part_of answer) in
      record {
        data_of_success = λ shows. flags;
        code_of_error = λ code is. absurd (never shown (no_data_in_code code is));
        nothing_shown = λ none. absurd (never shown none);
      }

  pub error_shows_nothing : Reads (reading q answer blocks locks) r blocks' locks' → ErrorShowsNothing answer blocks locks r blocks' locks'
  error_shows_nothing = shows_nothing (way q answer blocks locks)

  changes_nothing : {o : Outcome} → Way q answer blocks locks o → Reads o r blocks' locks' → (number_of r ≡ 0 → ⊥)
      → (result_ok r ≡ None) × (blocks' ≡ blocks) × (locks' ≡ locks)
  unfolding outcome shown_in
  changes_nothing (Refuses n other) p h = (p.reading, p.blocks_left, p.locks_left)
  changes_nothing (Tells flags) p h = absurd (h p.number)
  changes_nothing (Shows flags) p h = absurd (h p.number)

  pub refused_changes_nothing : Reads (reading q answer blocks locks) r blocks' locks' → (number_of r ≡ 0 → ⊥)
      → (result_ok r ≡ None) × (blocks' ≡ blocks) × (locks' ≡ locks)
  refused_changes_nothing = changes_nothing (way q answer blocks locks)
