-- What was read so far is served, and the input has not ended.
use Rattle.std.proofs.Common.{◌-◌, take}
use Rattle.serving.specs.Lent.{Same, state_at}
use Rattle.serving.specs.Serving.{most_reads}
use Rattle.serving.proofs.Steps.{Reading}
use Rattle.serving.proofs.Run.read_all.Given as goal

abbrev pub invariant-loop-turn : goal.invariant-loop-turn
invariant-loop-turn g l = record {
  same : Same l.fn.self l.self;
  read : Reading (state_at l.fn.self) (most_reads - l._turn) (state_at l.self) (take l.held l.buf);
}
