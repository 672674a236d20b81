use Rattle.std.proofs.Common.{◌≡◌, ◌+◌, ◌*◌}
use Rattle.matching.specs.Lists.{slots}
use Rattle.rules.specs.Calls.{relabelled_all}
use Rattle.relabelling.proofs.relabel_all.Given as goal

abbrev pub invariant-loop-k : goal.invariant-loop-k
invariant-loop-k l = relabelled_all l.board (slots (l.rest + 8 * l.k)) ≡ relabelled_all l.initial.board (slots l.n)
