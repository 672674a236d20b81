-- Internal: not part of what a reader must believe.
-- What each step of a walk does, and where it ends.
use Rattle.std.specs.Prelude.{Bool, true, false, ◌≡◌, List, ℕ, fold}
use Rattle.matching.specs.Orders.{Order}
use Rattle.rules.specs.Bringing.{reach_of, free_in}
use Rattle.reaching.specs.Found.{visited, seen_slots}
use Rattle.reaching.specs.declared.Walk.{Walk}

-- the slots of l are visited, one after another
pub record Visits (old new : Walk) (l : List ℕ) : Type 0 where
  pub size : new.n ≡ old.n
  pub found : new.queue.items ≡ fold (visited old.n) old.queue.items l

-- a free slot is reached; or none is, and what is marked is what is reached
abbrev pub Closes : List ℕ → Order → Walk → Walk → Bool → Type 0
Closes w x old new true = free_in old.n w x ≡ true
Closes w x old new false = (free_in old.n w x ≡ false) × (new.n ≡ old.n) × (seen_slots new.n new.marked ≡ reach_of old.n w x)
