use Rattle.std.proofs.Common.{◌≡◌, ◌-◌, [], length, take}
use Rattle.reading.specs.Reader.{past_columns}
use Rattle.reading.specs.Machine.{columns_at, gathered}
use Rattle.reading.proofs.LineReader.take_values.Given as goal

-- The columns left, after those that were read, give what all give, and end where all end.
abbrev pub invariant-loop-value : goal.invariant-loop-value
invariant-loop-value l =
    record {
      long : length l.value-items ≡ l.count;
      same_line : l.self.line ≡ l.fn.self.line;
      passed : past_columns l.fn.self.line.now l.self.at (l.count - l.value-index) ≡ past_columns l.fn.self.line.now l.fn.self.at l.count;
      read : gathered (take l.value-index l.value-items) (columns_at l.fn.self.line.now l.self.at (l.count - l.value-index)) ≡ gathered [] (columns_at l.fn.self.line.now l.fn.self.at l.count);
    }
