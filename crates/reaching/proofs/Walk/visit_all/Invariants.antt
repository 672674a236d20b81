use Rattle.std.proofs.Common.{take}
use Rattle.reaching.specs.Walking.{Visits}
use Rattle.reaching.proofs.Walk.visit_all.Given as goal

abbrev pub invariant-loop-t : goal.invariant-loop-t
invariant-loop-t l = Visits l.initial.self l.self (take l.t-index l.slots)
