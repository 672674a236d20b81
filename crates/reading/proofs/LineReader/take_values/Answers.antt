use Rattle.std.proofs.Common.{arith, rules}
use Rattle.std.proofs.lemmas.Grind.{common_steps}
use Rattle.reading.proofs.ColumnsLaws.{past_more, gathered_more}
use Rattle.reading.proofs.LineReader.take_values.Goals as goal

pub loop-value-preserved : goal.loop-value-preserved
loop-value-preserved c = record {
  long = grind (arith, common_steps);
  same_line = search rules;
  passed = grind (arith, past_more);
  read = grind (arith, gathered_more);
}
