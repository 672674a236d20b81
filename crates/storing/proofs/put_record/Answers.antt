use Rattle.std.proofs.Common.{arith, take_all}
use Rattle.storing.proofs.Stores.{sets-put_mid, sets-past_end}
use Rattle.storing.proofs.put_record.Goals as goal

pub returns-then-at-board : goal.returns-then-at-board
returns-then-at-board c = grind (arith, sets-put_mid, take_all)

pub returns-then-at-board-2 : goal.returns-then-at-board-2
returns-then-at-board-2 c = grind (arith, sets-put_mid, take_all)

pub returns-else-at-board-2 : goal.returns-else-at-board-2
returns-else-at-board-2 c = grind (arith, sets-past_end)
