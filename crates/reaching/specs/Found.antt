-- Internal: not part of what a reader must believe.
-- The slots that a walk found, and their marks.
use Rattle.std.specs.Prelude.{◌≡◌, Bool, false, not, ◌&&◌, cond, List, [], ◌∷◌, ◌++◌, ℕ, eqb, leb, get_or}
use Rattle.std.specs.List.{list_any}
use Rattle.matching.specs.Lists.{filter, member, upward}
use Rattle.matching.specs.Orders.{Order, open_slots}
use Rattle.rules.specs.Layout.{is_free}

-- slot t is marked
abbrev pub seen : List Bool → ℕ → Bool
seen marked t = get_or marked t false

-- the marked slots are those of q
pub record Listed (marked : List Bool) (q : List ℕ) : Type 0 where
  pub at : (t : ℕ) → seen marked t ≡ member t q

-- the marked slots, in rising order
abbrev pub seen_slots : ℕ → List Bool → List ℕ
seen_slots n marked = filter (seen marked) (upward 0 n)

-- the slots found once t is visited: it comes last, unless it was found or is none of the slots 1 .. n
abbrev pub visited : ℕ → List ℕ → ℕ → List ℕ
visited n q t = cond (leb 1 t && leb t n && not (member t q)) (q ++ t ∷ []) q

-- one of the slots open to x is free
abbrev pub own_free : ℕ → List ℕ → Order → Bool
own_free n w x = list_any (λ t. not (eqb t 0) && leb t n && is_free w t) (open_slots x)
