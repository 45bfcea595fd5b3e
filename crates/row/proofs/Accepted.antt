-- A walk that is played over a row is accepted after every slot. By induction over the slots: hearing keeps it so.
-- Assumes nothing.
use mathlib.Core.Path.{◌≡◌}
use mathlib.Core.Bool.{true}
use mathlib.Core.List.{List}
use Prim.Native.Nat.{ℕ, zero, suc}
use Rattle.walk.specs.Marks.{levels}
use Rattle.walk.specs.Record.{most_slots, is_accepted}
use Rattle.walk.proofs.Accepted.{started_accepted, heard_accepted}
use Rattle.row.specs.Row.{desk_after, Played, slot_played, played_for}
use Rattle.row.specs.Play.{fresh_desk, ended}

played_accepted : (n : ℕ) (p : Played) → is_accepted p.desk.walk ≡ true → is_accepted (played_for n p).desk.walk ≡ true
unfolding played_for slot_played desk_after
played_accepted zero p h = h
played_accepted (suc n) p h = played_accepted n (slot_played p) (heard_accepted p.desk.walk _ _ p.desk.list h)

pub ended_accepted : (us : List ℕ) → is_accepted (ended us).walk ≡ true
unfolding ended fresh_desk
ended_accepted us = played_accepted (most_slots levels) _ (started_accepted 256)
