-- Any two results that a promise of this crate allows are equal. The coder's is the one value of its definition; of the decoder's four ways at
-- most one is open for a track, and a track is that of one frame in one coding. Assumes nothing.
use mathlib.Core.Path.{◌≡◌, refl, sym, ap, ◌∙◌}
use mathlib.Core.List.{List}
use Prim.Native.Nat.{ℕ, ◌+◌, ◌*◌}
use native.Mathlib.Omega.{arith}
use lib.IntN.{ℤ, pos, nat_abs}
use Rattle.std.specs.Prelude.{Result, Ok, Err, IfOk}
use Rattle.lent.specs.Lent.{refused}
use Rattle.frames.specs.Frame.{longest}
use Rattle.refusals.specs.declared.Refusal.{Refusal}
use Rattle.refusals.specs.Number.{number, number_back}
use Rattle.refusals.proofs.Numbers.{number_back_tells}
use Rattle.tracks.specs.declared.decoder.Decoded.{Decoded}
use Rattle.tracks.specs.declared.decoder.Decoded.TheVariants.{Frame, SlotMark}
use Rattle.tracks.specs.Decoded.{decoded_back, IsKnown, DecodesTo}
use Rattle.tracks.specs.Coder.{Codes}
use Rattle.tracks.specs.Decoder.{Decodes, no_room, a_frame, a_mark, no_track}
use Rattle.tracks.proofs.Different.{mark_no_track, same_coding, same_frame}

pub code_unique : {frame : List ℕ} {coding : ℕ} {found : List ℕ} {r s : ℤ} {left right : List ℕ}
    → Codes frame coding found r left → Codes frame coding found s right → (r ≡ s) × (left ≡ right)
code_unique p q = (p.answer ∙ sym q.answer, p.leaves ∙ sym q.leaves)

pub decode_unique : {t found : List ℕ} {r s : ℤ} {left right : List ℕ}
    → Decodes t found r left → Decodes t found s right → (r ≡ s) × (left ≡ right)
decode_unique (no_room h a b) (no_room k u v) = (a ∙ sym u, b ∙ sym v)
decode_unique (no_room h a b) (a_frame k d g is u v) = absurd (omega arith)
decode_unique (no_room h a b) (a_mark k m u v) = absurd (omega arith)
decode_unique (no_room h a b) (no_track k none m u v) = absurd (omega arith)
decode_unique (a_frame h c f is a b) (no_room k u v) = absurd (omega arith)
decode_unique (a_frame h c f is a b) (a_frame k d g has u v) =
    (a ∙ rw (same_coding is has, same_frame is has) (sym u), b ∙ rw (same_frame is has) (sym v))
decode_unique (a_frame h c f is a b) (a_mark k m u v) = absurd (mark_no_track c f (sym is.track ∙ m))
decode_unique (a_frame h c f is a b) (no_track k none m u v) = absurd (none c f is)
decode_unique (a_mark h m a b) (no_room k u v) = absurd (omega arith)
decode_unique (a_mark h m a b) (a_frame k d g has u v) = absurd (mark_no_track d g (sym has.track ∙ m))
decode_unique (a_mark h m a b) (a_mark k n u v) = (a ∙ sym u, b ∙ sym v)
decode_unique (a_mark h m a b) (no_track k none n u v) = absurd (n m)
decode_unique (no_track h none n a b) (no_room k u v) = absurd (omega arith)
decode_unique (no_track h none n a b) (a_frame k d g has u v) = absurd (none d g has)
decode_unique (no_track h none n a b) (a_mark k m u v) = absurd (n m)
decode_unique (no_track h none n a b) (no_track k some m u v) = (a ∙ sym u, b ∙ sym v)

-- ---- and of any two results in Rattle: each is told by a number of its own

pub code_result_unique : {frame : List ℕ} {coding : ℕ} {found : List ℕ} {r s : Result ℕ Refusal} {left right : List ℕ}
    → Codes frame coding found (number_back r) left → Codes frame coding found (number_back s) right → (r ≡ s) × (left ≡ right)
code_result_unique {r} {s} p q =
    let same = code_unique p q in
    (number_back_tells r s same.0, same.1)

-- what is told of a frame or a mark is the number of no refusal
not_refused : (n : ℕ) (r : Refusal) → pos n ≡ refused (number r) → ⊥
unfolding number_back
not_refused n r same =
    let equal : ◌≡◌ {A = Result ℕ Refusal} (Ok n) (Err r) = number_back_tells (Ok n) (Err r) same in
    cc

pub decoded_back_tells : (r s : Result Decoded Refusal) → IfOk r IsKnown → IfOk s IsKnown → decoded_back r ≡ decoded_back s → r ≡ s
unfolding decoded_back number_back longest
decoded_back_tells (Ok (Frame c n)) (Ok (Frame d m)) h k same =
    let told : 65536 * c + n ≡ 65536 * d + m = ap nat_abs same in
    let coding : c ≡ d = omega (arith, h.1, k.1) in
    let length : n ≡ m = omega (arith, h.1, k.1) in
    rw (coding, length)
decoded_back_tells (Ok (Frame c n)) (Ok SlotMark) h k same =
    let told : 65536 * c + n ≡ 131072 = ap nat_abs same in
    absurd (omega (arith, h.0, h.1))
decoded_back_tells (Ok SlotMark) (Ok (Frame d m)) h k same =
    let told : 131072 ≡ 65536 * d + m = ap nat_abs same in
    absurd (omega (arith, k.0, k.1))
decoded_back_tells (Ok SlotMark) (Ok SlotMark) h k same = refl
decoded_back_tells (Ok (Frame c n)) (Err s) h k same = absurd (not_refused (65536 * c + n) s same)
decoded_back_tells (Ok SlotMark) (Err s) h k same = absurd (not_refused 131072 s same)
decoded_back_tells (Err r) (Ok (Frame d m)) h k same = absurd (not_refused (65536 * d + m) r (sym same))
decoded_back_tells (Err r) (Ok SlotMark) h k same = absurd (not_refused 131072 r (sym same))
decoded_back_tells (Err r) (Err s) h k same =
    let equal : ◌≡◌ {A = Result ℕ Refusal} (Err r) (Err s) = number_back_tells (Err r) (Err s) same in
    let refusal : r ≡ s = cc in
    rw refusal

pub decode_result_unique : {t found : List ℕ} {r s : Result Decoded Refusal} {left right : List ℕ} → DecodesTo t found r left → DecodesTo t found s right
    → (r ≡ s) × (left ≡ right)
decode_result_unique {r} {s} p q =
    let same = decode_unique p.told q.told in
    (decoded_back_tells r s p.known q.known same.0, same.1)
