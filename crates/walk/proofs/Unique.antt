-- Any two results that a promise of this crate allows are equal, in what is returned and in every lent place. Assumes nothing.
use mathlib.Core.Path.{◌≡◌, sym, ap, ◌∙◌}
use mathlib.Core.List.{List}
use Prim.Native.Nat.{ℕ}
use Rattle.std.specs.Prelude.{Result, Ok, Err}
use Rattle.refusals.specs.declared.Refusal.{Refusal}
use Rattle.refusals.specs.Number.{number_of}
use Rattle.refusals.proofs.Numbers.{number_tells, number_is_some}
use Rattle.walk.specs.declared.Walk.{Walk}
use Rattle.walk.specs.declared.Asked.{Asked}
use Rattle.walk.specs.Hear.{walk_of, Hearing, Hears}
use Rattle.walk.specs.Ask.{walk_asked, send_of, Asking, Asks}
use Rattle.walk.specs.Shared.{Starting, Starts, SharedHearing, HearsShared}

-- the walk that is left and the number tell the result
heard_same : (w : Walk) (r s : Result Walk Refusal) → walk_of w r ≡ walk_of w s → number_of r ≡ number_of s → r ≡ s
unfolding walk_of number_of
heard_same w (Ok v) (Ok u) p q = ap Ok p
heard_same w (Ok v) (Err f) p q = absurd (number_is_some f (sym q))
heard_same w (Err e) (Ok u) p q = absurd (number_is_some e q)
heard_same w (Err e) (Err f) p q = ap Err (number_tells e f q)

pub hear_unique : (w : Walk) (h : Hearing) (r s : Result Walk Refusal) (list list' : List ℕ) → Hears w h r list → Hears w h s list' → (r ≡ s) × (list ≡ list')
hear_unique w h r s list list' p q =
    (heard_same w r s (p.walk ∙ sym q.walk) (p.number ∙ sym q.number), p.list_left ∙ sym q.list_left)

pub start_shared_unique : (w : Walk) (t : Starting) (r s : Result Walk Refusal) (owners owners' : List ℕ) → Starts w t r owners → Starts w t s owners'
    → (r ≡ s) × (owners ≡ owners')
start_shared_unique w t r s owners owners' p q =
    (heard_same w r s (p.walk ∙ sym q.walk) (p.number ∙ sym q.number), p.owners_left ∙ sym q.owners_left)

pub hear_shared_unique : (w : Walk) (h : SharedHearing) (r s : Result Walk Refusal) (rows rows' owners owners' : List ℕ) → HearsShared w h r rows owners
    → HearsShared w h s rows' owners' → (r ≡ s) × (rows ≡ rows') × (owners ≡ owners')
hear_shared_unique w h r s rows rows' owners owners' p q = (
  heard_same w r s (p.walk ∙ sym q.walk) (p.number ∙ sym q.number),
  p.rows_left ∙ sym q.rows_left,
  p.owners_left ∙ sym q.owners_left,
)

asked_same : (w : Walk) (r s : Result Asked Refusal) → walk_asked w r ≡ walk_asked w s → number_of r ≡ number_of s → send_of r ≡ send_of s → r ≡ s
unfolding walk_asked number_of send_of
asked_same w (Ok a) (Ok b) p q u = ap Ok (both a b p u)
  where
    both : (a b : Asked) → a.walk ≡ b.walk → a.send ≡ b.send → a ≡ b
    both a b p u = λ i. record { walk = p i; send = u i }
asked_same w (Ok a) (Err f) p q u = absurd (number_is_some f (sym q))
asked_same w (Err e) (Ok b) p q u = absurd (number_is_some e q)
asked_same w (Err e) (Err f) p q u = ap Err (number_tells e f q)

pub ask_unique : (w : Walk) (a : Asking) (r s : Result Asked Refusal) (room room' : List ℕ) → Asks w a r room → Asks w a s room'
    → (r ≡ s) × (room ≡ room')
ask_unique w a r s room room' p q =
    (asked_same w r s (p.walk ∙ sym q.walk) (p.number ∙ sym q.number) (p.send ∙ sym q.send), p.room_left ∙ sym q.room_left)
