-- What is served of the rest is served of the input.
use Rattle.std.proofs.Common.{◌≡◌, List, ◌++◌, ℕ, length}
use Rattle.rules.specs.Runs.{State}
use Rattle.rules.specs.Serving.{Served}
use Rattle.serving.specs.Lent.{Same, state_at}
use Rattle.serving.proofs.Run.work_off.Given as goal

abbrev pub invariant-rooms : goal.invariant-rooms
invariant-rooms g l = record {
  same : Same l.fn.self l.self;
  whole : (done : List ℕ) × (done ++ l.rest ≡ l.input);
  served : (s' : State) (wait : List ℕ) → Served (state_at l.self) l.rest l.ended s' wait → Served (state_at l.fn.self) l.input l.ended s' wait;
}

abbrev pub decreases-rooms : goal.decreases-rooms
decreases-rooms g l = length l.rest
