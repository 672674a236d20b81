use Rattle.std.proofs.Common.{◌<◌, ◌+◌, ◌-◌, ◌≤◌, length}
use Rattle.trial_lines.proofs.runs.Run.pieces.Given as goal

abbrev pub invariant-loop-rest : goal.invariant-loop-rest
invariant-loop-rest g l = (0 < l.piece) × (l.shown ≤ length l.rest) × (length l.rest ≤ length l.input)

abbrev pub decreases-loop-rest : goal.decreases-loop-rest
decreases-loop-rest g l = length l.rest + (length l.rest - l.shown)
