-- A part that is left to no owner shows nothing but success. By the tests that choose the owner. Assumes nothing.
use mathlib.Core.Path.{◌≡◌, sym, ap}
use mathlib.Core.List.{List}
use Prim.Native.Nat.{ℕ}
use borrow.Author.Tests.{ne_eqb}
use Rattle.std.specs.Prelude.{Some}
use Rattle.lent.proofs.Over.{over_none}
use Rattle.reader.specs.declared.Request.{Request}
use Rattle.reader.specs.declared.Reading.{Reading}
use Rattle.reader.specs.declared.Reading.TheVariants.{Done}
use Rattle.reader.specs.Reading.{reads_blocks, reading_in, block_bytes_in, lock_bytes_in, outcome, shown_in}
use Rattle.reader.specs.Steps.{Hands}

pub hands_nothing : (q : Request) (part blocks locks : List ℕ) {r : Reading} → (q.command ≡ 0x20 → ⊥) → (q.command ≡ 0x23 → ⊥) → (q.command ≡ 0x2b → ⊥)
    → (q.command ≡ 0x2c → ⊥) → r ≡ Done → Hands (shown_in q part blocks locks) r blocks locks
unfolding shown_in outcome reading_in block_bytes_in lock_bytes_in reads_blocks
hands_nothing q part blocks locks a b d f is =
    let no_20 = ne_eqb q.command 0x20 a in
    let no_23 = ne_eqb q.command 0x23 b in
    let no_2c = ne_eqb q.command 0x2c f in
    record {
      reading = rw (no_20, no_23, no_2c, ne_eqb q.command 0x2b d) (ap Some is);
      blocks_left = rw (no_20, no_23) (sym (over_none blocks));
      locks_left = rw (no_20, no_23, no_2c) (sym (over_none locks));
    }
