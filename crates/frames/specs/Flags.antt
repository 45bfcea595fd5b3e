-- 01, The card, step 2: the flags, and what each of them says.
use Rattle.std.specs.Prelude.{ℕ, ◌/◌, ◌%◌, Bool, ◌||◌, eqb}
use Rattle.frames.specs.declared.Flags.{Flags}

-- the lowest bit of a number is 1
abbrev pub is_odd : ℕ → Bool
is_odd n = eqb (n % 2) 1

-- "Flags, b1 lowest"
unfoldable pub flags_of : ℕ → Flags
flags_of b =
    record {
      b1 = is_odd b;
      b2 = is_odd (b / 2);
      b3 = is_odd (b / 4);
      b4 = is_odd (b / 8);
      b5 = is_odd (b / 16);
      b6 = is_odd (b / 32);
      b7 = is_odd (b / 64);
      b8 = is_odd (b / 128);
    }

-- "b1, b2 radio (ignored)": no definition looks at these

-- "b3 Inventory"
abbrev pub asks_inventory : Flags → Bool
asks_inventory f = f.b3

-- "b4 and b8 must be 0, else silence."
abbrev pub sets_reserved : Flags → Bool
sets_reserved f = f.b4 || f.b8

-- ---- "b3=0: b5 Select, b6 Address, b7 Option."

abbrev pub selects : Flags → Bool
selects f = f.b5

abbrev pub addresses : Flags → Bool
addresses f = f.b6

abbrev pub has_option : Flags → Bool
has_option f = f.b7

-- ---- "b3=1: b5 AFI present, b6 one slot (0: sixteen), b7 must be 0, else silence."

abbrev pub has_afi : Flags → Bool
has_afi f = f.b5

abbrev pub one_slot : Flags → Bool
one_slot f = f.b6

abbrev pub sets_inventory_reserved : Flags → Bool
sets_inventory_reserved f = f.b7
