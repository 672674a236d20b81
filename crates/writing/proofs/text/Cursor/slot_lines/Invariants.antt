use Rattle.std.proofs.Common.{◌-◌, ◌+◌}
use Rattle.rules.specs.AnswerLines.{slots_from, slot_lines}
use Rattle.writing.proofs.Texts.{Leaves}
use Rattle.writing.proofs.text.Cursor.slot_lines.Given as goal

-- The lines of the slots from s on are still to be stored.
abbrev pub invariant-loop-s : goal.invariant-loop-s
invariant-loop-s l = Leaves l.initial.self (slot_lines l.board) l.self (slots_from l.board (l.s-end + 1 - l.s) l.s)
