-- The look for an order, as the code answers it: where `find_from` says 0, which is no slot, it says None.
use Rattle.std.specs.Prelude.{List, ℕ, Option, None, Some, cond, eqb}
use Rattle.matching.specs.Orders.{Key}
use Rattle.rules.specs.Calls.{find_from}

abbrev pub found : List ℕ → ℕ → Key → Option ℕ
found w n k = let s = find_from w k n 1 in cond (eqb s 0) None (Some s)
