use Rattle.reaching.proofs.Marking.{none_listed}
use Rattle.reaching.proofs.Walk.new.Goals as goal

pub invariant_of-result-clause-listed : goal.invariant_of-result-clause-listed
invariant_of-result-clause-listed c = rw c.new.ensures (none_listed 1025)
