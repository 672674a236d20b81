-- "At the end N: lines, accepted, refused."
use Rattle.std.specs.Prelude.{ℕ, ◌≤◌, ◌≡◌, cond, List, ◌++◌, ltb, length, drop}
use Rattle.rules.specs.Runs.{tally_line}
use Rattle.answers.specs.declared.Tally.{Tally}
use Rattle.answers.specs.Values.{counts_of}
use Rattle.writing.specs.Writing.{tally_line_bytes}

-- The N line goes to the start of a room that holds it; a smaller room stays, and 0 is answered.
pub record Closes (t : Tally) (out : List ℕ) (r : ℕ) (out' : List ℕ) : Type 0 where
  pub written : r ≡ cond (ltb (length out) tally_line_bytes) 0 tally_line_bytes
  pub output : out' ≡ cond (ltb (length out) tally_line_bytes) out (tally_line (counts_of t) ++ drop tally_line_bytes out)
  pub fits : r ≤ length out
