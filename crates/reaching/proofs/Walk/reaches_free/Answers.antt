use Rattle.std.proofs.Common.{arith}
use Rattle.std.proofs.lemmas.Grind.{common_steps}
use Rattle.reaching.proofs.Marking.{few}
use Rattle.reaching.proofs.Closing.{closed}
use Rattle.reaching.proofs.Walk.reaches_free.Goals as goal

pub returns-in_default : goal.returns-in_default
returns-in_default c = grind (arith, closed c.loop-head.invariant.1 (grind (arith, common_steps)) c.loop-head.self.listed)

pub returns : goal.returns
returns c = grind (arith, closed c.loop-head.invariant.1 (omega (arith, few)) c.loop-head.self.listed)
