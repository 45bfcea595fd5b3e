-- From what the functions by value promise to what C is told: hearing, and what to send. By cases on the refusal. Assumes nothing.
use mathlib.Core.Path.{◌≡◌, refl, sym, ap, ◌∙◌}
use mathlib.Core.Bool.{Bool, true, false, cond}
use mathlib.Core.List.{List}
use Prim.Native.Nat.{ℕ, ◌<◌, ◌≤◌}
use native.Mathlib.Omega.{arith}
use borrow.Author.Tests.{eqb-true, eq-eqb, ne_eqb}
use lib.Dec.{eqb}
use lib.IntN.{ℤ, pos}
use lib.ListN.{length}
use Rattle.std.specs.Prelude.{Ok, Err}
use Rattle.lent.specs.Lent.{refused}
use Rattle.refusals.specs.declared.Refusal.{Refusal}
use Rattle.refusals.specs.Number.{number, number_of}
use Rattle.refusals.proofs.Numbers.{number_is_some}
use Rattle.walk.specs.declared.Walk.{Walk}
use Rattle.walk.specs.declared.Asked.{Asked}
use Rattle.walk.specs.declared.Send.{Send}
use Rattle.walk.specs.declared.Send.TheVariants.{Nothing, Mark, Request}
use Rattle.walk.specs.Record.{is_running}
use Rattle.walk.specs.Ask.{request, sent, refusal, Asking, asking, send_of, Asks}
use Rattle.walk.proofs.Limits.{accepted_of_is_accepted, level_most}
use Rattle.walk.proofs.Requests.{length_request_most}
use Rattle.walk.proofs.AskWays.{served_of_refusal}
use Rattle.board.specs.Walked.{length_of, ask_answer, AsksInPlace}

-- what is sent has 14 bytes at the most, by a walk of up to sixteen levels
length_sent_most : (w : Walk) → w.level < 16 → length_of (sent w) ≤ 14
unfolding length_of sent
length_sent_most w h = go (is_running w) (eqb w.slot 0)
  where
    go : (a b : Bool) → length_of (cond a (cond b (Request (length (request w))) Mark) Nothing) ≤ 14
    go true true = length_request_most w h
    go true false = omega arith
    go false b = omega arith

-- a call that is not refused
refusal_of_number : (w : Walk) (room : List ℕ) → (asking w room).number ≡ 0 → refusal w (length room) ≡ 0
unfolding asking
refusal_of_number w room e = go (eqb (refusal w (length room)) 0) refl
  where
    go : (b : Bool) → eqb (refusal w (length room)) 0 ≡ b → refusal w (length room) ≡ 0
    go true p = eqb-true (refusal w (length room)) 0 p
    go false p =
        let same : (asking w room).number ≡ refusal w (length room) = rw p in
        sym same ∙ e

pub length_served_most : (w : Walk) (room left : List ℕ) (r : Asked) → length w.marks ≤ 16 → Asks w (asking w room) (Ok r) left → length_of r.send ≤ 14
unfolding asking number_of send_of
length_served_most w room left r few p =
    let none : refusal w (length room) ≡ 0 = refusal_of_number w room (sym p.number) in
    let accepted = accepted_of_is_accepted w (served_of_refusal w (length room) none).accepted in
    let same : (asking w room).send ≡ sent w = rw none in
    rw (p.send, same) (length_sent_most w (level_most accepted few))

pub asks_refused : (w : Walk) (a : Asking) (e : Refusal) (z : ℤ) (room : List ℕ) → Asks w a (Err e) room → z ≡ refused (number e) → AsksInPlace a z room
unfolding ask_answer number_of
asks_refused w a e z room p told =
    record { answer = told ∙ ap refused p.number ∙ rw (ne_eqb a.number 0 (λ k. number_is_some e (p.number ∙ k))); room_left = p.room_left }

pub asks_served : (w : Walk) (a : Asking) (r : Asked) (z : ℤ) (room : List ℕ) → Asks w a (Ok r) room → z ≡ pos (length_of r.send) → AsksInPlace a z room
unfolding ask_answer number_of send_of
asks_served w a r z room p told =
    record { answer = told ∙ ap (λ (s : Send). pos (length_of s)) p.send ∙ rw (eq-eqb a.number 0 (sym p.number)); room_left = p.room_left }
