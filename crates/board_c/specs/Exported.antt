-- What the exported call answers and leaves: the call of document 01, and of its answer the count that a 12 gives.
use Rattle.std.specs.Prelude.{◌≡◌, List, [], ◌∷◌, ℕ}
use Rattle.matching.specs.Orders.{Key}
use Rattle.rules.specs.Calls.{Answer, accept, step}
use Rattle.rules.specs.Known.{shown_by}

abbrev pub asked : Key → ℕ → ℕ → List ℕ → List ℕ → Answer
asked key first second board work = step (accept key 2 (first ∷ second ∷ 0 ∷ 0 ∷ 0 ∷ 0 ∷ 0 ∷ 0 ∷ [])) board work

pub record Accepts (key : Key) (first second : ℕ) (board work : List ℕ) (r : ℕ) (board' work' : List ℕ) : Type 0 where
  pub answer : r ≡ shown_by (asked key first second board work)
  pub left : board' ≡ (asked key first second board work).board
  pub scratch : work' ≡ (asked key first second board work).work
