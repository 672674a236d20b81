-- The worked runs, by computation of the definitions.
use lib.Dec.{T}
use Rattle.matching.specs.Lists.{all}
use Rattle.matching.specs.Orders.{open_slots}
use Rattle.rules.specs.Check.{passes}
use Rattle.rules.specs.Calls.{step}
use Rattle.rules.specs.Text.{text_line}
use Rattle.rules.specs.InputLines.{is_column, column_value, line_refusal, call_of}
use Rattle.rules.specs.Letters.{letter_named}
use Rattle.rules.specs.AnswerLines.{reply_text}
use Rattle.rules.specs.Runs.{handle_line, file_text}
use Rattle.rules.specs.WorkedRuns.{run_holds, worked_runs}

pub worked-runs-hold : T (all run_holds worked_runs)
unfolding run_holds file_text handle_line step passes open_slots text_line letter_named line_refusal call_of is_column column_value reply_text
worked-runs-hold = tt
