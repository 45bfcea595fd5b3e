-- 01, Numbers of refused calls, 1 to 4, in the order for each of the card's three events.
use Rattle.std.specs.Prelude.{ℕ, ◌+◌, ◌*◌, max, Bool, true, cond, ◌&&◌, List, [], ◌∷◌, ◌≡◌, leb, eqb, length}
use Rattle.card.specs.declared.Card.{Card}
use Rattle.card.specs.Record.{is_accepted}

-- 2: "memory or lock bytes of another length"; "in a lent memory of exactly that product, with one lent lock byte per block"
unfoldable pub lengths_fit : Card → ℕ → ℕ → Bool
lengths_fit c memory locks = eqb memory (c.blocks * c.size) && eqb locks c.blocks

-- 3: "a lock byte over 1"; "one lent lock byte per block (0 or 1)"
unfoldable pub locks_fit : List ℕ → Bool
locks_fit [] = true
locks_fit (b ∷ locks) = leb b 1 && locks_fit locks

-- 4: "answer room under 32 or under 3 + blocks × (size + 1)"
unfoldable pub room_asked : Card → ℕ
room_asked c = max 32 (3 + c.blocks * (c.size + 1))

unfoldable pub room_fits : Card → ℕ → Bool
room_fits c room = leb (room_asked c) room

-- "card, for each of the three events, 1, 2, 3, 4": the number of the refusal, or 0 where the call is served
unfoldable pub refusal : Card → ℕ → List ℕ → ℕ → ℕ
refusal c memory locks room =
    cond (is_accepted c)
    (cond (lengths_fit c memory (length locks)) (cond (locks_fit locks) (cond (room_fits c room) 0 4) 3) 2)
    1

-- numbers 1 to 4 accept a card with what is lent to it: the call is served
abbrev pub Accepted : Card → List ℕ → List ℕ → List ℕ → Type 0
Accepted c memory locks found = refusal c (length memory) locks (length found) ≡ 0
