-- An answer line, and what follows it.
use Rattle.std.proofs.Common.{length-append}
use Rattle.std.proofs.lemmas.Bool.Decides.{nat_tests}
use Rattle.std.proofs.Math.Seq.{length-sets}
use Rattle.rules.proofs.WordLaws.{sets-append}
use Rattle.writing.proofs.Lines.{length_four}

pub ruleset replies = (nat_tests, sets-append, length-append, length-sets, length_four)
