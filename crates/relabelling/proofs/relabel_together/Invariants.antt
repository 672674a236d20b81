use Rattle.std.proofs.Common.{◌≡◌}
use Rattle.relabelling.specs.Relabelled.{relabelled_run}
use Rattle.relabelling.proofs.relabel_together.Given as goal

abbrev pub invariant-loop-k : goal.invariant-loop-k
invariant-loop-k l = relabelled_run l.board l.at l.k ≡ relabelled_run l.initial.board l.at 8
