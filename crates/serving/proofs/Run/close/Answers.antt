use Rattle.std.proofs.Common.{◌≡◌, false, length, refl, arith}
use Rattle.std.proofs.lemmas.Bool.{le-ltb}
use Rattle.std.proofs.lemmas.List.{take_at}
use Rattle.std.proofs.Math.Dec.{ltb}
use Rattle.writing.specs.Writing.{tally_line_bytes}
use Rattle.writing.proofs.Closing.{length-tally_line}
use Rattle.serving.proofs.Run.close.Goals as goal

pub returns-clause-closed : goal.returns-clause-closed
returns-clause-closed g c =
    let end = c.close-n.ensures in
    let large : ltb (length c.args.self.now.out.now) tally_line_bytes ≡ false = le-ltb _ _ (omega arith) in
    record { board = refl; work = refl; n = c.close-n.result; closing = rw (rw large at end.written, rw large at end.output) (take_at _ _ _ (length-tally_line _)) }
