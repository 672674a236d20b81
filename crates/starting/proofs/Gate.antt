-- The late checks of a start, and what comes after them.
use Rattle.std.proofs.Common.{◌≡◌, ℕ, cond, eqb, List, refl}
use Rattle.matching.specs.Orders.{Key}
use Rattle.rules.specs.Bringing.{answer}
use Rattle.rules.specs.Calls.{first, named_checks, marked, start-order}
use Rattle.rules.specs.Known.{act_tidied, past_gate}
use Rattle.answers.proofs.NumberLaws.{code-some}

pub begun : (k : Key) (w t : List ℕ) → past_gate (start-order k) w t ≡ cond (eqb (first (named_checks k w)) 0) (answer 0 0 (marked k w) t) (answer (first (named_checks k w)) 0 w t)
unfolding past_gate act_tidied
begun k w t = refl

pub ruleset starts = (begun, code-some)
