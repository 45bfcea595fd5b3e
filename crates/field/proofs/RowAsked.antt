-- What the walk asks for reaches a row that is in time with it: a request in slot 0, a mark in any other.
-- By the walk's definition of what to send, and what one tag makes of it. Assumes nothing.
use mathlib.Core.Path.{◌≡◌, refl}
use mathlib.Core.Bool.{true}
use Prim.Native.Nat.{ℕ, zero, suc, ◌≤◌, ◌<◌}
use native.Mathlib.Omega.{arith}
use mathlib.Core.List.{List}
use borrow.Author.Tests.{eq-eqb, ne_eqb, le-leb}
use lib.Dec.{leb}
use lib.ListN.{length}
use Rattle.walk.specs.declared.Walk.{Walk}
use Rattle.walk.specs.declared.Send.{Send}
use Rattle.walk.specs.declared.Send.TheVariants.{Nothing, Mark, Request}
use Rattle.walk.specs.Record.{whole_mask, is_accepted, is_running}
use Rattle.walk.specs.Ask.{request, sent, room_asked, room_after, refusal, asking}
use Rattle.walk.proofs.Limits.{Accepted}
use Rattle.play.specs.Life.{Tag}
use Rattle.field.specs.Demand.{AllObey}
use Rattle.field.proofs.InTime.{Both, Before}
use Rattle.field.proofs.TagHeard.{request_reached, mark_reached}
use Rattle.field.proofs.RowHeard.{Hears, both_map}

-- asking is not refused where there is room for a request
asked_most : (s : Send) → room_asked s ≤ 14
unfolding room_asked
asked_most Nothing = omega arith
asked_most Mark = omega arith
asked_most (Request n) = omega arith

pub walk_asked : (w : Walk) (room : List ℕ) → is_accepted w ≡ true → 14 ≤ length room
    → asking w room ≡ record { room = room_after w (sent w) room; number = 0; send = sent w }
unfolding asking refusal
walk_asked w room e h =
    let fits : leb (room_asked (sent w)) (length room) ≡ true = le-leb (room_asked (sent w)) (length room) (omega (arith, asked_most (sent w))) in
    rw (e, fits)

-- ---- what is sent

pub sent_request : (w : Walk) → is_running w ≡ true → w.slot ≡ 0 → sent w ≡ Request (length (request w))
unfolding sent
sent_request w running e = rw (running, eq-eqb w.slot 0 e)

pub sent_mark : (w : Walk) (s : ℕ) → is_running w ≡ true → w.slot ≡ suc s → sent w ≡ Mark
unfolding sent
sent_mark w s running e = rw (running, ne_eqb w.slot 0 (λ z. omega arith))

pub row_hears : (w : Walk) (ts₀ ts : List Tag) (room : List ℕ) → AllObey ts₀ → Accepted w → w.level < 16 → is_running w ≡ true
    → Before w.family w.level (whole_mask w) w.slot ts₀ ts → Both (Hears w.family w (sent w) (room_after w (sent w) room)) ts₀ ts
unfolding Before room_after
row_hears w ts₀ ts room obey fits level running before = go w.slot refl before
  where
    go : (s : ℕ) → w.slot ≡ s → Before w.family w.level (whole_mask w) s ts₀ ts
        → Both (Hears w.family w (sent w) (room_after w (sent w) room)) ts₀ ts
    go zero e b =
        rw (sent_request w running e)
        (both_map ts₀ ts obey (λ t₀ t o f. record { after = request_reached w room t₀ t level fits.mask e o f; room = f.room }) b)
    go (suc s) e b =
        let below : s < 15 = omega (arith, e, fits.slot) in
        rw (sent_mark w s running e)
        (both_map ts₀ ts obey
        (λ t₀ t o a. record { after = mark_reached w.family w s room t₀ t level fits.mask e below o a; room = a.room }) b)
