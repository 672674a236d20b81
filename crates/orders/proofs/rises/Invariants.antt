use Rattle.std.proofs.Common.{◌≡◌, drop}
use Rattle.matching.specs.Lists.{rising}
use Rattle.orders.proofs.rises.Given as goal

-- What is left of the walk answers as the whole.
abbrev pub invariant-loop-t : goal.invariant-loop-t
invariant-loop-t l = rising l.n l.last (drop l.t-index l.list) ≡ rising l.n 0 l.list
