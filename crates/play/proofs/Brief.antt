-- Replies that need no memory: which they are, that they fit any card, and that their bytes are the same over any memory. By the reply.
-- Assumes nothing.
use mathlib.Core.Path.{◌≡◌, refl}
use mathlib.Core.Bool.{Bool, true, false}
use mathlib.Core.List.{List, []}
use Prim.Native.Nat.{ℕ, ◌≤◌}
use native.Mathlib.Omega.{arith}
use lib.ListN.{length}
use Rattle.card.specs.declared.Card.{Card}
use Rattle.card.specs.declared.Reply.{Reply}
use Rattle.card.specs.declared.Reply.TheVariants.{Silence, Error, Done, Present, Blocks, Status, Information}
use Rattle.play.specs.Fits.{reply_fits}
use Rattle.play.specs.Steps.{is_brief}
use Rattle.play.specs.Answer.{reply_bytes}
use Rattle.play.proofs.Answers.{length_presence}

not_brief : false ≡ true → ⊥
not_brief e = let z : ◌≡◌ {A = ℕ} 0 1 = cc in omega arith

pub brief_fits : (c : Card) (reply : Reply) → is_brief reply ≡ true → reply_fits c reply ≡ true
unfolding is_brief reply_fits
brief_fits c Silence h = refl
brief_fits c (Error code) h = refl
brief_fits c Done h = refl
brief_fits c Present h = refl
brief_fits c (Blocks first n option) h = absurd (not_brief h)
brief_fits c (Status first n) h = absurd (not_brief h)
brief_fits c Information h = refl

pub brief_bytes : (c : Card) (memory locks : List ℕ) (reply : Reply) → is_brief reply ≡ true
    → reply_bytes c memory locks reply ≡ reply_bytes c [] [] reply
unfolding is_brief reply_bytes
brief_bytes c memory locks Silence h = refl
brief_bytes c memory locks (Error code) h = refl
brief_bytes c memory locks Done h = refl
brief_bytes c memory locks Present h = refl
brief_bytes c memory locks (Blocks first n option) h = absurd (not_brief h)
brief_bytes c memory locks (Status first n) h = absurd (not_brief h)
brief_bytes c memory locks Information h = refl

pub brief_most : (c : Card) (reply : Reply) → is_brief reply ≡ true → length (reply_bytes c [] [] reply) ≤ 10
unfolding is_brief reply_bytes
brief_most c Silence h = omega arith
brief_most c (Error code) h = omega arith
brief_most c Done h = omega arith
brief_most c Present h = omega (arith, length_presence c)
brief_most c (Blocks first n option) h = absurd (not_brief h)
brief_most c (Status first n) h = absurd (not_brief h)
brief_most c Information h = absurd (not_brief h)

-- the replies by what they are not
pub is_brief_lem : (reply : Reply)
    → ((first n : ℕ) (option : Bool) → reply ≡ Blocks first n option → ⊥) → ((first n : ℕ) → reply ≡ Status first n → ⊥)
    → (reply ≡ Information → ⊥) → is_brief reply ≡ true
unfolding is_brief
is_brief_lem Silence b s i = refl
is_brief_lem (Error code) b s i = refl
is_brief_lem Done b s i = refl
is_brief_lem Present b s i = refl
is_brief_lem (Blocks first n option) b s i = absurd (b first n option refl)
is_brief_lem (Status first n) b s i = absurd (s first n refl)
is_brief_lem Information b s i = absurd (i refl)

pub brief_silence : (reply : Reply)
    → ((code : ℕ) → reply ≡ Error code → ⊥) → (reply ≡ Done → ⊥) → (reply ≡ Present → ⊥) → is_brief reply ≡ true → reply ≡ Silence
unfolding is_brief
brief_silence Silence e d p h = refl
brief_silence (Error code) e d p h = absurd (e code refl)
brief_silence Done e d p h = absurd (d refl)
brief_silence Present e d p h = absurd (p refl)
brief_silence (Blocks first n option) e d p h = absurd (not_brief h)
brief_silence (Status first n) e d p h = absurd (not_brief h)
brief_silence Information e d p h = absurd (not_brief h)
