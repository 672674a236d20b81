-- Where the line reader stands. Document 01: "The line reader borrows the line and remembers how far it has come." Assumes nothing.
use Rattle.std.specs.Prelude.{◌≡◌, Bool, ◌&&◌, cond, List, ℕ, zero, suc, ◌+◌, ◌-◌, ◌*◌, ◌/◌, eqb, ltb, leb, length, take, drop}
use Rattle.rules.specs.InputLines.{column_bytes, is_column, allowed, most_bytes}
use Rattle.rules.specs.Letters.{letter_named}
use Rattle.reading.specs.declared.LineReader.{LineReader}

-- past the letter's one byte; at the end of a line, where there is none, it stays
abbrev pub after_letter : List ℕ → ℕ → ℕ
after_letter l at = cond (ltb at (length l)) (at + 1) at

-- the bytes left are columns to read: with the letter not too many, whole columns, and as many as the letter may have
abbrev pub readable : ℕ → ℕ → Bool
readable letter left = let count = left / column_bytes in leb (1 + left) most_bytes && eqb left (column_bytes * count) && allowed (letter_named letter) count

-- past each of k columns, up to the first that is none: it stands where that one starts
abbrev pub past_columns : List ℕ → ℕ → ℕ → ℕ
past_columns l at zero = at
past_columns l at (suc k) = cond (is_column (take column_bytes (drop at l))) (past_columns l (at + column_bytes) k) at

-- after the columns, of which none is read where the form is refused without them. A number above 65,535 is refused once the whole form was read, so the reader stands past it.
unfoldable pub after_columns : ℕ → List ℕ → ℕ → ℕ
after_columns letter l at = let left = length l - at in cond (readable letter left) (past_columns l at (left / column_bytes)) at

-- the reader keeps its line, and stands at the position `to` now
pub record Moves (before after : LineReader) (to : ℕ) : Type 0 where
  pub line : after.line ≡ before.line
  pub at : after.at ≡ to
