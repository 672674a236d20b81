-- Internal: not part of what a reader must believe.
-- What the search answers and leaves, whatever the work words are.
use Rattle.std.specs.Prelude.{List, ◌≡◌, ℕ, suc, ◌*◌, Result}
use Rattle.matching.specs.Orders.{Order}
use Rattle.matching.specs.Placing.{follow}
use Rattle.rules.specs.Bringing.{searched}
use Rattle.rules.specs.Layout.{view, write_at}
use Rattle.answers.specs.Numbers.{said}
use Rattle.answers.specs.declared.Rejection.{Rejection}

abbrev pub Seats : ℕ → List ℕ → Order → Result ℕ Rejection → List ℕ → Type 0
Seats n w x r w' = (work : List ℕ) → said r w' work ≡ searched w work (follow view (write_at n) n (suc (n * n)) w x 0)
