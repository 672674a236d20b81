-- What a withdrawal answers and leaves past the gate. It is lent no work words: whatever they are, they stay.
use Rattle.std.specs.Prelude.{List, ◌≡◌, ℕ, Result}
use Rattle.rules.specs.Calls.{withdraw}
use Rattle.rules.specs.Known.{past_gate}
use Rattle.answers.specs.Numbers.{said}
use Rattle.answers.specs.declared.Rejection.{Rejection}
use Rattle.words.specs.Carried.{key_of}
use Rattle.words.specs.declared.Key.{Key}

abbrev pub TakesOut : Key → List ℕ → Result ℕ Rejection → List ℕ → Type 0
TakesOut key w r w' = (work : List ℕ) → said r w' work ≡ past_gate (withdraw (key_of key)) w work
