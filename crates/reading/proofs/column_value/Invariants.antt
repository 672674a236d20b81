use Rattle.std.proofs.Common.{◌≡◌, ◌^◌, ◌<◌, drop}
use Rattle.reading.specs.Machine.{held_by, ended_after, cell_of}
use Rattle.reading.proofs.column_value.Given as goal

-- The bytes left, read from the state, give what the column is, and the state's number has no more digits than bytes were read.
abbrev pub invariant-loop-byte : goal.invariant-loop-byte
invariant-loop-byte l = (ended_after l.state (drop l.byte-index l.column) ≡ cell_of l.column) × (held_by l.state < 10 ^ l.byte-index)
