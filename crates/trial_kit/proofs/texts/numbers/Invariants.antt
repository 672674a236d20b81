use Rattle.std.proofs.Common.{drop, None}
use Rattle.trial_kit.specs.Texts.{numbers_of}
use Rattle.trial_kit.proofs.Found.{Stored}
use Rattle.trial_kit.proofs.texts.numbers.Given as goal

abbrev pub invariant-loop-byte : goal.invariant-loop-byte
invariant-loop-byte l = Stored l.found l.fn.found l.count (numbers_of l.value (drop l.byte-index l.text)) (numbers_of None l.text)
