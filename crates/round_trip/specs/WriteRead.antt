-- An order is written, and the line that then stands in the buffer is read.
use Rattle.std.specs.Prelude.{◌≡◌, List, ◌∷◌, ℕ, ◌+◌, Ok}
use Rattle.matching.specs.Orders.{Key}
use Rattle.rules.specs.Layout.{row8}
use Rattle.rules.specs.Calls.{order}
use Rattle.rules.specs.InputLines.{written}
use Rattle.rules.specs.RoundTrip.{written_line}
use Rattle.words.specs.declared.Order.{Order}
use Rattle.reading.specs.Reading.{all_columns, line_of, line_order}
use Rattle.reading.specs.declared.Kind.TheVariants.{Accept}
use Rattle.reading.specs.declared.Line.{Line}
use Rattle.writing.specs.Wrote.{wrote_of}
use Rattle.round_trip.specs.declared.RoundTrip.{RoundTrip}

-- an order as the reader gives it: an A line, one column for its code, one for its number and one for each slot of its count, 0 beyond them
abbrev pub order_read : Key → ℕ → List ℕ → Line
order_read k c row = record { kind = Accept; count = 2 + c; columns = all_columns (k.code ∷ k.number ∷ (order k c row).list) }

-- that order as it is sent: 0 beyond its count, and not started
abbrev pub as_sent : Key → ℕ → List ℕ → Order
as_sent k c row = record { key = record { code = k.code; number = k.number }; count = c; row = row8 (order k c row).list; fixed = 0 }

pub record WritesReads (k : Key) (c : ℕ) (row buffer : List ℕ) (r : RoundTrip) (buffer' : List ℕ) : Type 0 where
  -- the writer's answer, and the whole buffer
  pub wrote : wrote_of r.wrote buffer' ≡ written k c row buffer
  -- the reader's answer to what was written, without its line feed: to no bytes where the writer refused
  pub read : r.line ≡ line_of (written_line (written k c row buffer))
  -- an order that was written is read as that order
  pub back : (written k c row buffer).refusal ≡ 0 → r.line ≡ Ok (order_read k c row)
  -- The order of that line is the one that was written, as it is sent: a line has no place for the mark, so none comes back.
  pub sent : (written k c row buffer).refusal ≡ 0 → (line : Line) → r.line ≡ Ok line → line_order line ≡ as_sent k c row
