use Rattle.board.proofs.past_gate.Goals as goal

pub returns-in-Print : goal.returns-in-Print
returns-in-Print c = rw c.in-Print.is (c.slots_counted.ensures c.args.work.now)
