-- The ways out of asking what to send: refused, or served with the room that it asks for. By the tests of the definitions.
-- Assumes nothing.
use mathlib.Core.Path.{◌≡◌, refl, sym}
use mathlib.Core.Bool.{Bool, true, false, cond}
use mathlib.Core.List.{List}
use Prim.Native.Nat.{ℕ, ◌≤◌}
use native.Mathlib.Omega.{arith}
use borrow.Author.Tests.{leb-true, eq-eqb, ne_eqb}
use lib.Dec.{leb, eqb}
use lib.ListN.{length}
use Rattle.std.specs.Prelude.{Ok, Err}
use Rattle.refusals.specs.declared.Refusal.{Refusal}
use Rattle.refusals.specs.Number.{number, number_of}
use Rattle.refusals.proofs.Numbers.{number_is_some}
use Rattle.walk.specs.declared.Walk.{Walk}
use Rattle.walk.specs.declared.Send.{Send}
use Rattle.walk.specs.declared.Send.TheVariants.{Nothing, Mark, Request}
use Rattle.walk.specs.Record.{is_running, is_accepted}
use Rattle.walk.specs.Ask.{request, sent, room_asked, room_after, refusal, asking, walk_asked, send_of, Asks}

-- what is sent, by its tests
pub sent_nothing : (w : Walk) → (w.ending ≡ 0 → ⊥) → sent w ≡ Nothing
unfolding sent is_running
sent_nothing w h = rw (ne_eqb w.ending 0 h)

pub sent_request : (w : Walk) (n : ℕ) → w.ending ≡ 0 → w.slot ≡ 0 → n ≡ length (request w) → sent w ≡ Request n
unfolding sent is_running
sent_request w n h k e = rw (eq-eqb w.ending 0 h, eq-eqb w.slot 0 k, e)

pub sent_mark : (w : Walk) → w.ending ≡ 0 → (w.slot ≡ 0 → ⊥) → sent w ≡ Mark
unfolding sent is_running
sent_mark w h k = rw (eq-eqb w.ending 0 h, ne_eqb w.slot 0 k)

-- the room that it asks for
pub room_of_request : {send : Send} {n room : ℕ} → send ≡ Request n → room_asked send ≤ room → 14 ≤ room
unfolding room_asked
room_of_request {send} {n} {room} e h = rw e at h

-- a call that is not refused
pub record Served (w : Walk) (room : ℕ) : Type 0 where
  pub accepted : is_accepted w ≡ true
  pub enough : room_asked (sent w) ≤ room

pub served_of_refusal : (w : Walk) (room : ℕ) → refusal w room ≡ 0 → Served w room
unfolding refusal
served_of_refusal w room e = go (is_accepted w) (leb (room_asked (sent w)) room) refl refl e
  where
    go : (a b : Bool) → is_accepted w ≡ a → leb (room_asked (sent w)) room ≡ b → ◌≡◌ {A = ℕ} (cond a (cond b 0 8) 10) 0 → Served w room
    go true true p q e = record { accepted = p; enough = leb-true (room_asked (sent w)) room q }
    go true false p q e = absurd (omega arith)
    go false b p q e = absurd (omega arith)

pub asks_refused : (w : Walk) (room : List ℕ) (e : Refusal) → number e ≡ refusal w (length room) → Asks w (asking w room) (Err e) room
unfolding asking number_of walk_asked send_of
asks_refused w room e is =
    let other : eqb (refusal w (length room)) 0 ≡ false = rw (← is) (ne_eqb (number e) 0 (number_is_some e)) in
    record { walk = refl; number = rw (other, ← is); send = rw other; room_left = rw other }

pub asks_served : (w : Walk) (room left : List ℕ) (send : Send) → 0 ≡ refusal w (length room) → send ≡ sent w
    → left ≡ room_after w send room → Asks w (asking w room) (Ok (record { walk = w; send = send })) left
unfolding asking number_of walk_asked send_of
asks_served w room left send is told leaves =
    let served : refusal w (length room) ≡ 0 = sym is in
    record { walk = refl; number = rw served; send = rw served told; room_left = rw (served, ← told) leaves }
