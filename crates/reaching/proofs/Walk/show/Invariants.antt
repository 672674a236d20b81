use Rattle.reaching.proofs.Showing.{Shows}
use Rattle.reaching.proofs.Walk.show.Given as goal

abbrev pub invariant-loop-t : goal.invariant-loop-t
invariant-loop-t l = Shows l.self.n l.self.marked l.initial.out l.out l.count l.t
