use Rattle.std.proofs.Common.{◌≡◌}
use Rattle.matching.specs.Lists.{slots}
use Rattle.rules.specs.Calls.{relabelled_all}
use Rattle.relabelling.proofs.relabel_slow.Given as goal

abbrev pub invariant-loop-s : goal.invariant-loop-s
invariant-loop-s l = relabelled_all l.board (slots l.s) ≡ relabelled_all l.initial.board (slots l.n)
