-- A line is read, and where it is an A line its order is written.
use Rattle.std.specs.Prelude.{◌≡◌, cond, List, [], ℕ, ◌+◌, ◌≤◌, Option, Some, None, Result, Ok, Err, eqb, length}
use Rattle.matching.specs.Orders.{Key}
use Rattle.rules.specs.Layout.{most_slots}
use Rattle.rules.specs.Calls.{Call, open-board, accept, withdraw, start-order, print, first, order_checks}
use Rattle.rules.specs.InputLines.{letter_of, values, line_refusal, call_of, Written, written}
use Rattle.rules.specs.RoundTrip.{line_written, AcceptedOrder}
use Rattle.rules.specs.Runs.{State}
use Rattle.answers.specs.Numbers.{code}
use Rattle.answers.specs.declared.Refusal.{Refusal}
use Rattle.words.specs.Carried.{key_of}
use Rattle.words.specs.declared.Order.{Order}
use Rattle.reading.specs.Reading.{line_of, line_order}
use Rattle.reading.specs.declared.Kind.{Kind}
use Rattle.reading.specs.declared.Kind.TheVariants.{Open, Accept, Withdraw, Start, Print, Total}
use Rattle.reading.specs.declared.Line.{Line}
use Rattle.writing.specs.Wrote.{wrote_of}
use Rattle.round_trip.specs.declared.RoundTrip.{RoundTrip}

-- a refusal, or 0, and nothing written
abbrev pub unwritten : ℕ → List ℕ → Written
unwritten refusal buffer = record { refusal = refusal; count = 0; buffer = buffer }

-- what is written of a call: the order that it brings in, and of any other nothing; nor of a line that asks for none
abbrev pub call_written : Option Call → List ℕ → Written
call_written (Some (open-board n)) buffer = unwritten 0 buffer
call_written (Some (accept k c row)) buffer = written k c row buffer
call_written (Some (withdraw k)) buffer = unwritten 0 buffer
call_written (Some (start-order k)) buffer = unwritten 0 buffer
call_written (Some print) buffer = unwritten 0 buffer
call_written None buffer = unwritten 0 buffer

-- what is written of the line l: a line that is not read has its refusal, 1 or 2
unfoldable pub rewritten : List ℕ → List ℕ → Written
rewritten l buffer = cond (eqb (line_refusal l) 0) (call_written (call_of (letter_of l) (values l)) buffer) (unwritten (line_refusal l) buffer)

pub record ReadsWrites (l buffer : List ℕ) (r : RoundTrip) (buffer' : List ℕ) : Type 0 where
  -- the reader's answer
  pub read : r.line ≡ line_of l
  -- the writer's answer, and the whole buffer
  pub wrote : wrote_of r.wrote buffer' ≡ rewritten l buffer
  -- an A line whose order passes 16 and 7 to 10 with 1,024 for n is written byte for byte where there is room for it and its line feed
  pub back : (line : Line) (k : Key) (c : ℕ) (row : List ℕ) → r.line ≡ Ok line → line.kind ≡ Accept → call_of (letter_of l) (values l) ≡ Some (accept k c row) → first (order_checks most_slots k c row []) ≡ 0
      → length l + 1 ≤ length buffer → wrote_of r.wrote buffer' ≡ line_written l buffer
  -- and so is an A line that is accepted, on whatever board
  pub accepted : (s : State) → AcceptedOrder l s → length l + 1 ≤ length buffer → wrote_of r.wrote buffer' ≡ line_written l buffer

-- Internal: what is written of a line of this kind
abbrev pub kind_written : Kind → Order → List ℕ → Written
kind_written Open o buffer = unwritten 0 buffer
kind_written Accept o buffer = written (key_of o.key) o.count o.row buffer
kind_written Withdraw o buffer = unwritten 0 buffer
kind_written Start o buffer = unwritten 0 buffer
kind_written Print o buffer = unwritten 0 buffer
kind_written Total o buffer = unwritten 0 buffer

-- Internal: what is written of a line as the reader gave it
abbrev pub read_written : Result Line Refusal → List ℕ → Written
read_written (Ok line) buffer = kind_written line.kind (line_order line) buffer
read_written (Err why) buffer = unwritten (code why) buffer
