use Rattle.std.proofs.Common.{◌≡◌, ℕ, ◌≤◌, ◌<◌, length, get_or}
use Rattle.rules.specs.InputLines.{most_columns}
use Rattle.reading.proofs.narrowed.Given as goal

-- None so far is too large, and each is stored.
abbrev pub invariant-loop-i : goal.invariant-loop-i
invariant-loop-i l = (length l.words ≡ most_columns) × ((k : ℕ) → k < l.i → get_or l.values k 0 ≤ 65535) × ((k : ℕ) → k < l.i → get_or l.words k 0 ≡ get_or l.values k 0)
