use Rattle.checking.proofs.HeldOrders.{Walked}
use Rattle.checking.proofs.checks.orders_differ.Given as goal

abbrev pub invariant-loop-before : goal.invariant-loop-before
invariant-loop-before l = Walked l.board l.seen l.before
