use Rattle.std.proofs.Common.{arith}
use Rattle.serving.proofs.Steps.{pulls-on}
use Rattle.serving.proofs.Run.pull.Goals as goal

pub returns-else-ended-clause-pulled : goal.returns-else-ended-clause-pulled
returns-else-ended-clause-pulled g c =
    let f = c.fill-brought in
    let w = c.work_off-left in
    pulls-on c.args.buf.now f.new.buf c.move_front.new.buf c.args.held f.result w.result
    (omega arith) f.ensures.buf_unchanged w.ensures.left w.ensures.served c.move_front.ensures c.if-ended.false
