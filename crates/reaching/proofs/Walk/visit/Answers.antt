use Rattle.std.proofs.Common.{true, set, arith}
use Rattle.std.proofs.lemmas.Bool.Decides.{nat_tests}
use Rattle.reaching.proofs.Marking.{few, counts}
use Rattle.reaching.proofs.Walk.visit.Goals as goal

pub push-requires : goal.push-requires
push-requires c =
    let a = c.args.self.now in
    (omega arith, grind (arith, nat_tests, counts, few (set a.marked c.args.t true) a.n))
