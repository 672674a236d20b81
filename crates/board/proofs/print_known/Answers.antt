use Rattle.std.proofs.Common.{arith}
use Rattle.rules.specs.Known.{perform_known}
use Rattle.board.proofs.print_known.Goals as goal

pub returns : goal.returns
unfolding perform_known
returns c = let counted = c.slots_counted.ensures c.zero_front.new.work in grind arith
