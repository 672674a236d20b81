-- The late checks of a withdrawal, and what comes after them.
use Rattle.std.proofs.Common.{◌≡◌, ℕ, cond, eqb, List, refl}
use Rattle.matching.specs.Orders.{Key}
use Rattle.rules.specs.Bringing.{answer}
use Rattle.rules.specs.Calls.{first, named_checks, withdrawn, withdraw}
use Rattle.rules.specs.Known.{act_tidied, past_gate}
use Rattle.answers.proofs.NumberLaws.{code-some}

pub taken : (k : Key) (w t : List ℕ) → past_gate (withdraw k) w t ≡ cond (eqb (first (named_checks k w)) 0) (answer 0 0 (withdrawn k w) t) (answer (first (named_checks k w)) 0 w t)
unfolding past_gate act_tidied
taken k w t = refl

pub ruleset takes = (taken, code-some)
