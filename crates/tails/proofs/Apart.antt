-- UIDs that their last digits tell apart: those that end in the same ones are one UID, which stands so often among them, and different ones
-- share no tail so long.
-- By counting over the list, test for test. Assumes nothing.
use mathlib.Core.Path.{◌≡◌, refl, sym, ap, ap₂, ◌∙◌}
use mathlib.Core.Bool.{Bool, true, false, cond}
use Prim.Native.Nat.{ℕ, suc, ◌+◌, ◌*◌, ◌/◌, ◌%◌, ◌^◌, ◌≤◌}
use native.Mathlib.Decide.{ℕ_discrete}
use native.Mathlib.Nat.{div-add-mod}
use native.Mathlib.Omega.{arith}
use mathlib.Core.List.{List, [], ◌∷◌, nil≢cons}
use borrow.Author.Tests.{lt-leb, eq-eqb, ne_eqb, eqb-true}
use lib.Dec.{leb, eqb}
use lib.ListN.{length, get_or}
use Rattle.tails.specs.Sum.{tot, one, tally, times}
use Rattle.tails.specs.Tails.{ending, is_shared, shared_of, shared_tails_to}
use Rattle.tails.proofs.Sums.{tot_zero, tot_join}
use Rattle.tails.proofs.Tally.{tally_cong_in, tally_le, tally_ending, length_ending}
use Rattle.tails.proofs.Digits.{tail_tail}

-- the last j digits tell the UIDs apart: any two that are alike in them are equal
unfoldable pub ToldApart : ℕ → List ℕ → Type 0
ToldApart j us = (u v : ℕ) → 1 ≤ times u us → 1 ≤ times v us → u % 16 ^ j ≡ v % 16 ^ j → u ≡ v

-- as they do where all are alike above them
pub told_apart_top : (us : List ℕ) (j top : ℕ) → ((u : ℕ) → 1 ≤ times u us → u / 16 ^ j ≡ top) → ToldApart j us
unfolding ToldApart
told_apart_top us j top h u v a b e =
    sym (div-add-mod u (16 ^ j)) ∙ ap₂ (λ (q r : ℕ). 16 ^ j * q + r) (h u a ∙ sym (h v b)) e ∙ div-add-mod v (16 ^ j)

-- the first of those that end in m does
pub ending_head : (j m x : ℕ) (us xs : List ℕ) → ending j m us ≡ x ∷ xs → x % 16 ^ j ≡ m
unfolding ending
ending_head j m x [] xs h = absurd (nil≢cons h)
ending_head j m x (u ∷ us) xs h = go (eqb (u % 16 ^ j) m) refl h (λ g. ending_head j m x us xs g)
  where
    go : (b : Bool) → eqb (u % 16 ^ j) m ≡ b → cond b (u ∷ ending j m us) (ending j m us) ≡ x ∷ xs → (ending j m us ≡ x ∷ xs → x % 16 ^ j ≡ m)
        → x % 16 ^ j ≡ m
    go true e g later = ap (λ (y : ℕ). y % 16 ^ j) (sym (ap (λ (l : List ℕ). get_or l 0 0) g)) ∙ eqb-true (u % 16 ^ j) m e
    go false e g later = later g

-- and is one of the UIDs
pub ending_among : (j m x : ℕ) (us xs : List ℕ) → ending j m us ≡ x ∷ xs → 1 ≤ times x us
unfolding times tally one
ending_among j m x us xs h =
    let is : ℕ → ℕ = λ u. one (eqb u x) in
    let first : tally is (ending j m us) ≡ 1 + tally is xs = ap (tally is) h ∙ ap (λ (b : Bool). one b + tally is xs) (eq-eqb x x refl) in
    let all : tally is (ending j m us) ≤ tally is us =
    rw (tally_ending is j m us) (tally_le (λ u. one (eqb (u % 16 ^ j) m) * is u) is us (λ u. most (eqb (u % 16 ^ j) m) (is u))) in
    omega (arith, first, all)
  where
    most : (b : Bool) (n : ℕ) → one b * n ≤ n
    most true n = omega arith
    most false n = omega arith

-- all that end in m are that one
pub ending_alike : (us xs : List ℕ) (j m x : ℕ) → ToldApart j us → ending j m us ≡ x ∷ xs → times x us ≡ length (ending j m us)
unfolding ToldApart times
ending_alike us xs j m x apart h =
    tally_cong_in (λ u. one (eqb u x)) (λ u. one (eqb (u % 16 ^ j) m)) us (λ u g. ap (λ (b : Bool). one b) (same u g (ℕ_discrete u x)))
    ∙ sym (length_ending j m us)
  where
    head : x % 16 ^ j ≡ m
    head = ending_head j m x us xs h

    same : (u : ℕ) → 1 ≤ times u us → Dec (u ≡ x) → eqb u x ≡ eqb (u % 16 ^ j) m
    same u g (yes e) = rw (eq-eqb u x e, eq-eqb (u % 16 ^ j) m (ap (λ (y : ℕ). y % 16 ^ j) e ∙ head))
    same u g (no e) =
        let other : u % 16 ^ j ≡ m → ⊥ = λ q. e (apart u x g (ending_among j m x us xs h) (q ∙ sym head)) in
        rw (ne_eqb u x e, ne_eqb (u % 16 ^ j) m other)

-- more of the last digits do so too
pub told_apart_more : (us : List ℕ) (i j : ℕ) → i ≤ j → ToldApart i us → ToldApart j us
unfolding ToldApart
told_apart_more us i j h apart u v a b e =
    apart u v a b (sym (tail_tail u i j h) ∙ ap (λ (t : ℕ). t % 16 ^ i) e ∙ tail_tail v i j h)

-- different UIDs that are told apart share no tail of so many digits
pub apart_unshared : (us : List ℕ) (j m : ℕ) → ToldApart j us → ((u : ℕ) → times u us ≤ 1) → is_shared us j m ≡ false
unfolding is_shared
apart_unshared us j m apart once = go (ending j m us) refl
  where
    go : (xs : List ℕ) → ending j m us ≡ xs → leb 2 (length xs) ≡ false
    go [] e = refl
    go (x ∷ xs) e =
        let alike : times x us ≡ length (ending j m us) = ending_alike us xs j m x apart e in
        let long : length (ending j m us) ≡ length (x ∷ xs) = ap (λ (l : List ℕ). length l) e in
        lt-leb 2 (length (x ∷ xs)) (omega (arith, alike, long, once x))

-- nor one of more digits: the tails that they share have no more than j
pub shared_tails_apart : (us : List ℕ) (j k : ℕ) → ToldApart (suc j) us → ((u : ℕ) → times u us ≤ 1) → shared_tails_to (j + k) us ≡ shared_tails_to j us
unfolding shared_tails_to shared_of one
shared_tails_apart us j k apart once =
    let none : tot k (1 + j) (shared_of us) ≡ 0 =
    tot_zero k (1 + j) (shared_of us)
    (λ i a b.
    tot_zero (16 ^ i) 0 (λ m. one (is_shared us i m))
    (λ m c d. ap (λ (t : Bool). one t) (apart_unshared us i m (told_apart_more us (suc j) i (omega arith) apart) once))) in
    tot_join j k 1 (shared_of us) ∙ omega (arith, none)
