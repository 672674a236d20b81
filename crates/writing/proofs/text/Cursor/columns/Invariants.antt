use Rattle.std.proofs.Common.{drop}
use Rattle.rules.specs.Text.{columns}
use Rattle.writing.proofs.Texts.{Leaves}
use Rattle.writing.proofs.text.Cursor.columns.Given as goal

-- The columns of the values that are left are still to be stored.
abbrev pub invariant-loop-v : goal.invariant-loop-v
invariant-loop-v l = Leaves l.initial.self (columns l.width l.values) l.self (columns l.width (drop l.v-index l.values))
