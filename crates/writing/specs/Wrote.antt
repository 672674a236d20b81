-- The paper's numbers and values of the order writer's answer: a refusal's number and a count of 0, or 0 and the count of bytes. With it the buffer as it was left.
use Rattle.std.specs.Prelude.{List, ℕ, Result, Ok, Err}
use Rattle.rules.specs.InputLines.{Written}
use Rattle.answers.specs.Numbers.{code}
use Rattle.answers.specs.declared.Refusal.{Refusal}

abbrev pub wrote_of : Result ℕ Refusal → List ℕ → Written
wrote_of (Ok count) buffer = record { refusal = 0; count = count; buffer = buffer }
wrote_of (Err why) buffer = record { refusal = code why; count = 0; buffer = buffer }
