use Rattle.std.proofs.Common.{◌≡◌, fold, drop}
use Rattle.rules.specs.Layout.{label_at}
use Rattle.placing.specs.Moved.{chosen}
use Rattle.placing.proofs.Walks.{meets}
use Rattle.placing.proofs.choose.Given as goal

-- What the choices that are left make of the best so far is the whole.
abbrev pub invariant-loop-slot : goal.invariant-loop-slot
invariant-loop-slot l = fold (meets (label_at l.board)) l.best (drop l.slot-index l.others) ≡ chosen l.n l.board l.choices
