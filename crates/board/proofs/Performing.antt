-- What a call by what is known asks of the tests.
use Rattle.std.proofs.lemmas.Bool.Decides.{nat_tests}
use Rattle.answers.proofs.NumberLaws.{code-some}

pub ruleset gates = (code-some, nat_tests)
