-- Any two results that a promise of this crate allows are equal: each is the one value of its definition. Assumes nothing.
use mathlib.Core.Path.{◌≡◌, refl, sym, ap, ◌∙◌}
use mathlib.Core.List.{List}
use Prim.Native.Nat.{ℕ, ◌+◌}
use native.Mathlib.Omega.{arith}
use lib.IntN.{ℤ, pos}
use Rattle.std.specs.Prelude.{Result, Ok, Err, IfOk}
use Rattle.refusals.specs.declared.Refusal.{Refusal}
use Rattle.refusals.specs.Number.{number_back}
use Rattle.refusals.proofs.Numbers.{number_back_tells}
use Rattle.coil.specs.declared.decoder.Decoded.{Decoded}
use Rattle.coil.specs.declared.decoder.Decoded.TheVariants.{Answer, Clash, Lost}
use Rattle.coil.specs.Decoded.{decoded_back, IsKnown, DecodesAnswerTo}
use Rattle.coil.specs.Coder.{CodesAnswer}
use Rattle.coil.specs.Decoder.{DecodesAnswer}

pub coil_code_unique : {answer found : List ℕ} {r s : ℤ} {left right : List ℕ} → CodesAnswer answer found r left → CodesAnswer answer found s right
    → (r ≡ s) × (left ≡ right)
coil_code_unique p q = (p.tells ∙ sym q.tells, p.leaves ∙ sym q.leaves)

pub coil_decode_unique : {t found : List ℕ} {r s : ℤ} {left right : List ℕ} → DecodesAnswer t found r left → DecodesAnswer t found s right
    → (r ≡ s) × (left ≡ right)
coil_decode_unique p q = (p.tells ∙ sym q.tells, p.leaves ∙ sym q.leaves)

-- ---- and of any two results in Rattle: each is told by a number of its own

pub coil_code_result_unique : {answer found : List ℕ} {r s : Result ℕ Refusal} {left right : List ℕ}
    → CodesAnswer answer found (number_back r) left → CodesAnswer answer found (number_back s) right → (r ≡ s) × (left ≡ right)
coil_code_result_unique {r} {s} p q =
    let same = coil_code_unique p q in
    (number_back_tells r s same.0, same.1)

-- 131,072 times the kind, and the length or place
packed : Decoded → ℕ
packed (Answer length) = length
packed (Clash place) = 131072 + place
packed (Lost place) = 262144 + place

packed_back : (d : Decoded) → decoded_back (Ok d) ≡ number_back (Ok (packed d))
unfolding packed decoded_back number_back
packed_back (Answer length) = ap pos (omega arith)
packed_back (Clash place) = refl
packed_back (Lost place) = refl

packed_tells : (d e : Decoded) → IsKnown d → IsKnown e → packed d ≡ packed e → d ≡ e
unfolding packed
packed_tells (Answer n) (Answer k) p q same = ap Answer same
packed_tells (Answer n) (Clash k) p q same = absurd (omega arith)
packed_tells (Answer n) (Lost k) p q same = absurd (omega arith)
packed_tells (Clash n) (Answer k) p q same = absurd (omega arith)
packed_tells (Clash n) (Clash k) p q same =
    let place : n ≡ k = omega arith in
    ap Clash place
packed_tells (Clash n) (Lost k) p q same = absurd (omega arith)
packed_tells (Lost n) (Answer k) p q same = absurd (omega arith)
packed_tells (Lost n) (Clash k) p q same = absurd (omega arith)
packed_tells (Lost n) (Lost k) p q same =
    let place : n ≡ k = omega arith in
    ap Lost place

refused_back : (r : Refusal) → decoded_back (Err r) ≡ number_back (Err r)
unfolding decoded_back number_back
refused_back r = refl

pub decoded_back_tells : (r s : Result Decoded Refusal) → IfOk r IsKnown → IfOk s IsKnown → decoded_back r ≡ decoded_back s → r ≡ s
decoded_back_tells (Ok d) (Ok e) h k same =
    let equal : ◌≡◌ {A = Result ℕ Refusal} (Ok (packed d)) (Ok (packed e)) = number_back_tells _ _ (sym (packed_back d) ∙ same ∙ packed_back e) in
    let packs : packed d ≡ packed e = cc in
    ap Ok (packed_tells d e h k packs)
decoded_back_tells (Ok d) (Err s) h k same =
    let equal : ◌≡◌ {A = Result ℕ Refusal} (Ok (packed d)) (Err s) = number_back_tells _ _ (sym (packed_back d) ∙ same ∙ refused_back s) in
    cc
decoded_back_tells (Err r) (Ok e) h k same =
    let equal : ◌≡◌ {A = Result ℕ Refusal} (Err r) (Ok (packed e)) = number_back_tells _ _ (sym (refused_back r) ∙ same ∙ packed_back e) in
    cc
decoded_back_tells (Err r) (Err s) h k same =
    let equal : ◌≡◌ {A = Result ℕ Refusal} (Err r) (Err s) = number_back_tells _ _ (sym (refused_back r) ∙ same ∙ refused_back s) in
    let refusal : r ≡ s = cc in
    ap Err refusal

pub coil_decode_result_unique : {t found : List ℕ} {r s : Result Decoded Refusal} {left right : List ℕ} → DecodesAnswerTo t found r left → DecodesAnswerTo t found s right
    → (r ≡ s) × (left ≡ right)
coil_decode_result_unique {r} {s} p q =
    let same = coil_decode_unique p.told q.told in
    (decoded_back_tells r s p.known q.known same.0, same.1)
