use Rattle.std.proofs.Common.{◌≡◌}
use Rattle.std.specs.Slice.Iter.{chunks_rest, chunks_size}
use Rattle.rules.specs.AnswerLines.{slots_per_line, blocked_lines}
use Rattle.writing.proofs.Texts.{Leaves}
use Rattle.writing.proofs.text.Cursor.blocked_lines.Given as goal

-- The lines of the slots that are left are still to be stored.
abbrev pub invariant-loop-line : goal.invariant-loop-line
invariant-loop-line l =
    (goal.iterator-loop-line).can_next l.line-iterator
    × (goal.iterator-loop-line).is_finite l.line-iterator
    × (chunks_size l.line-iterator ≡ slots_per_line)
    × Leaves l.initial.self (blocked_lines l.slots) l.self (blocked_lines (chunks_rest l.line-iterator))
