use Rattle.std.proofs.Common.{◌≡◌}
use Rattle.words.specs.Carried.{carried}
use Rattle.reaching.proofs.Closing.{Going}
use Rattle.reaching.proofs.Walk.reaches_free.Given as goal

abbrev pub invariant-loop-head : goal.invariant-loop-head
invariant-loop-head l = (l.self.n ≡ l.fn.self.n) × Going l.self.n l.board (carried l.order) l.self.queue.items l.head
