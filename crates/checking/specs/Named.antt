-- What the checks say of an order that a call names: the number of the one that turns the call down, or 0.
use Rattle.std.specs.Prelude.{ℕ, Result, Ok, Err}
use Rattle.answers.specs.Numbers.{code}
use Rattle.answers.specs.declared.Refusal.{Refusal}

abbrev pub named_gate : Result ℕ Refusal → ℕ
named_gate (Ok s) = 0
named_gate (Err r) = code r
