use Rattle.std.proofs.Common.{arith}
use Rattle.storing.proofs.Stores.{sets-zeros}
use Rattle.storing.proofs.zero_front.Goals as goal

pub returns : goal.returns
returns c = sets-zeros c.args.work.now c.fill.new.self c.args.k c.min-end.result (omega arith) (c.fill.ensures.after (λ y e. e))
