-- The bytes of a frame that was made here: its flags, its UID, what stands after them, and how long that is.
-- By the tests of the definitions, over plain Bools. Assumes nothing.
use mathlib.Core.Path.{◌≡◌, refl}
use mathlib.Core.Bool.{Bool, true, false, cond, ◌||◌}
use mathlib.Core.List.{List, [], ◌∷◌, ◌++◌}
use Prim.Native.Nat.{ℕ, ◌+◌, ◌≤◌, ◌<◌, ◌^◌}
use native.Mathlib.Decide.{ℕ_discrete}
use native.Mathlib.Omega.{arith}
use borrow.Author.Tests.{eqb-true, ne_eqb}
use lib.Dec.{eqb}
use lib.ListN.{length, drop}
use Rattle.crc.specs.Check.{sealed, check_bytes}
use Rattle.frames.specs.declared.Flags.{Flags}
use Rattle.frames.specs.Flags.{flags_of}
use Rattle.frames.specs.Field.{field_bytes, field_at}
use Rattle.frames.proofs.Fields.{field_of_bytes}
use Rattle.commands.specs.Request.{width, body_asked, body_length}
use Rattle.reader.specs.declared.Request.{Request}
use Rattle.reader.specs.Request.{is_addressed, is_for_selected, has_option, flags, address, body, message, frame, is_request, data_fits}
use Rattle.reader.specs.Shown.{moves_blocks}
use Rattle.reader.proofs.MakeWays.{parts_of_request}
use Rattle.reader.proofs.Lengths.{length_address, length_message, length_frame}
use Rattle.reader.proofs.Asked.{body_at}

-- ---- flags

-- the flags of a request, by its mode and its Option
abbrev pub flagged : Bool → Bool → Bool → Flags
flagged a s o = record { b1 = false; b2 = true; b3 = false; b4 = false; b5 = cond a false s; b6 = a; b7 = o; b8 = false }

flags_of_bools : (a s o : Bool) → flags_of (0x02 + cond a 0x20 (cond s 0x10 0x00) + cond o 0x40 0x00) ≡ flagged a s o
unfolding flags_of
flags_of_bools true s true = refl
flags_of_bools true s false = refl
flags_of_bools false true true = refl
flags_of_bools false true false = refl
flags_of_bools false false true = refl
flags_of_bools false false false = refl

pub flags_of_request : (q : Request) → flags_of (flags q) ≡ flagged (is_addressed q) (is_for_selected q) (has_option q)
unfolding flags
flags_of_request q = flags_of_bools (is_addressed q) (is_for_selected q) (has_option q)

-- ---- places

-- what stands after flags, command and UID
pub rest_of_frame : (q : Request) (written : List ℕ) → drop (body_at q) (frame q written) ≡ body q written ++ check_bytes (message q written)
unfolding body_at frame sealed message address field_bytes
rest_of_frame q written = go (is_addressed q) (check_bytes (message q written))
  where
    go : (a : Bool) (check : List ℕ)
        → drop (cond a 10 2) ((flags q ∷ q.command ∷ (cond a (field_bytes 8 q.uid) [] ++ body q written)) ++ check) ≡ body q written ++ check
    go true check = refl
    go false check = refl

-- the UID of an addressed request
pub uid_of_frame : (q : Request) (written : List ℕ) → is_addressed q ≡ true → q.uid < 2 ^ 64 → field_at (frame q written) 2 8 ≡ q.uid
unfolding field_at frame sealed message address field_bytes
uid_of_frame q written e wide = rw e (field_of_bytes 8 q.uid wide)

-- ---- lengths

-- the length of a body, and that data make it no longer than a block and its number
length_of_bools : (a b d e : Bool) (x y z size : ℕ) (written : List ℕ) → cond b (eqb (length written) size) true ≡ true → 1 ≤ size
    → (length (cond a (x ∷ []) (cond b (x ∷ written) (cond d (x ∷ y ∷ []) (cond e (z ∷ []) [])))) ≡ cond a 1 (cond b (1 + size) (cond d 2 (cond e 1 0))))
    × (cond a 1 (cond b (1 + size) (cond d 2 (cond e 1 0))) ≤ 1 + size)
length_of_bools true b d e x y z size written h some = (refl, omega arith)
length_of_bools false true d e x y z size written h some =
    let same : length written ≡ size = eqb-true (length written) size h in
    (omega arith, omega arith)
length_of_bools false false true e x y z size written h some = (refl, omega arith)
length_of_bools false false false true x y z size written h some = (refl, omega arith)
length_of_bools false false false false x y z size written h some = (refl, omega arith)

length_of_address : (q : Request) → length (address q) + 2 ≡ body_at q
unfolding body_at
length_of_address q = rw (length_address q) (go (is_addressed q))
  where
    go : (a : Bool) → cond a 8 0 + 2 ≡ cond a 10 2
    go true = refl
    go false = refl

pub length_of_frame : (q : Request) (written : List ℕ) → length (frame q written) ≡ body_at q + length (body q written) + 2
length_of_frame q written = omega (arith, length_frame q written, length_message q written, length_of_address q)

-- the card asks for a body of the length of its own blocks for 21 alone
pub asked_of_size : (q : Request) (size : ℕ) (f : List ℕ) (at : ℕ) → (moves_blocks q ≡ true → q.size ≡ size)
    → body_asked f at q.command q.size ≡ body_asked f at q.command size
unfolding moves_blocks body_asked
asked_of_size q size f at same = go (ℕ_discrete q.command 0x21)
  where
    go : Dec (q.command ≡ 0x21) → body_asked f at q.command q.size ≡ body_asked f at q.command size
    go (yes e) = rw (same (rw e refl)) refl
    go (no n) = rw (ne_eqb q.command 0x21 n) refl

module _ (q : Request) (written : List ℕ) (is : is_request q ≡ true) (fits : data_fits q (length written) ≡ true) where
  -- a body has the length that the card asks for, at whatever place of whatever frame
  length_body : (f : List ℕ) (at : ℕ)
      → (length (body q written) ≡ body_asked f at q.command q.size) × (body_asked f at q.command q.size ≤ 1 + q.size)
  unfolding body body_asked width data_fits
  length_body f at =
      let k : ℕ = q.command in
      length_of_bools (eqb k 0x20 || eqb k 0x22) (eqb k 0x21) (eqb k 0x23 || eqb k 0x2c) (eqb k 0x27 || eqb k 0x29)
      q.first q.n q.value q.size written fits (parts_of_request q is).2

  pub body_length_lem : body_length (frame q written) (body_at q) ≡ body_asked (frame q written) (body_at q) q.command q.size
  unfolding body_length
  body_length_lem = omega (arith, length_of_frame q written, (length_body (frame q written) (body_at q)).0)
