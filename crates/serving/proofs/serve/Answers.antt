use Rattle.std.proofs.Common.{rules, arith}
use Rattle.serving.proofs.Steps.{runs}
use Rattle.serving.proofs.serve.Goals as goal

pub returns : goal.returns
returns g c = record {
  large = λ _ _. rw (← c.new_day.ensures) (runs c.read_all.new.self c.close.new.self c.read_all.ensures.read c.close.ensures.closed (search rules));
  small = λ h. absurd (grind arith);
}
