-- Demand 3: "the number of tails of 1 to 15 digits, counted from the low end, that two or more of them share"; 02, W6: "tails of 1 to 13 digits".
use Rattle.std.specs.Prelude.{ℕ, ◌%◌, ◌^◌, Bool, cond, List, [], ◌∷◌, leb, eqb, length}
use Rattle.tails.specs.Sum.{tot, one}

-- those of the UIDs whose last j digits are m
unfoldable pub ending : ℕ → ℕ → List ℕ → List ℕ
ending j m [] = []
ending j m (u ∷ us) = cond (eqb (u % 16 ^ j) m) (u ∷ ending j m us) (ending j m us)

-- the tail m of j digits is one "that two or more of them share"
unfoldable pub is_shared : List ℕ → ℕ → ℕ → Bool
is_shared us j m = leb 2 (length (ending j m us))

-- how many tails of j digits are
unfoldable pub shared_of : List ℕ → ℕ → ℕ
shared_of us j = tot (16 ^ j) 0 (λ m. one (is_shared us j m))

-- of 1 to k digits
unfoldable pub shared_tails_to : ℕ → List ℕ → ℕ
shared_tails_to k us = tot k 1 (shared_of us)

-- "tails of 1 to 13 digits"
unfoldable pub shared_tails : List ℕ → ℕ
shared_tails us = shared_tails_to 13 us
