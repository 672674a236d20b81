use Rattle.std.proofs.Common.{◌≡◌, ◌-◌}
use Rattle.matching.specs.Placing.{follow}
use Rattle.rules.specs.Layout.{view, write_at}
use Rattle.words.specs.Carried.{carried}
use Rattle.placing.proofs.place.Given as goal

-- What is left of the search, in the turns that are left, comes to the whole.
abbrev pub invariant-loop-made : goal.invariant-loop-made
invariant-loop-made l = follow view (write_at l.n) l.n (l.made-end - l.made) l.board (carried l.homeless) l.made ≡ follow view (write_at l.n) l.n l.made-end l.initial.board (carried l.initial.homeless) 0
