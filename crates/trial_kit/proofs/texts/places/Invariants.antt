use Rattle.std.proofs.Common.{◌≡◌, drop}
use Rattle.trial_kit.specs.Texts.{places, spelt}
use Rattle.trial_kit.proofs.texts.places.Given as goal

abbrev pub invariant-loop-i : goal.invariant-loop-i
invariant-loop-i l = (places l.at (drop l.i l.text) ≡ places 0 l.text) × (spelt l.at (drop l.i l.text) l.found ≡ spelt 0 l.text l.fn.found)
