use Rattle.std.proofs.Common.{◌≡◌, ◌++◌, ◌/◌, length, drop}
use Rattle.rules.specs.Text.{padded}
use Rattle.writing.proofs.text.fill_places.Given as goal

-- With the places that are left filled, the column stands.
abbrev pub invariant-loop-i : goal.invariant-loop-i
invariant-loop-i l = padded l.i l.left ++ drop l.i l.before ≡ padded (length l.before) (l.v / 10)
