-- An order that was written, and its line.
use Rattle.std.proofs.Common.{◌≡◌, ℕ, ◌+◌, ◌-◌, ◌≤◌, List, ◌∷◌, Result, Ok, Err, length, get_or, take, drop, refl, sym, ap, ◌∙◌, arith, length-take-le}
use Rattle.std.specs.Result.{result_unwrap_or}
use Rattle.matching.specs.Orders.{Key}
use Rattle.rules.specs.Layout.{row8}
use Rattle.rules.specs.Calls.{order}
use Rattle.rules.specs.InputLines.{column_count, values, Written, written}
use Rattle.rules.specs.RoundTrip.{written_line, ReadsBack}
use Rattle.rules.proofs.RoundTrip.{reads-back, written-letter, written-values, written-slots, written-within}
use Rattle.answers.specs.declared.Refusal.{Refusal}
use Rattle.reading.specs.Reading.{kind_of, all_columns, line_of, line_order}
use Rattle.reading.specs.declared.Line.{Line}
use Rattle.reading.specs.declared.Kind.TheVariants.{Accept}
use Rattle.reading.proofs.LineUses.{line_taken, value-count, reads-as}
use Rattle.writing.specs.Wrote.{wrote_of}
use Rattle.round_trip.specs.WriteRead.{order_read, as_sent}

-- the reader gives the order again
module _ (k : Key) (c : ℕ) (row buffer : List ℕ) (fit : k.number ≤ 65535) (e : (written k c row buffer).refusal ≡ 0) where
  abbrev l : List ℕ
  l = written_line (written k c row buffer)

  numbers : values l ≡ k.code ∷ k.number ∷ (order k c row).list
  numbers = written-values k c row buffer fit e

  columns : column_count l ≡ 2 + c
  columns = omega (arith, value-count l, ap length numbers, written-slots k c row buffer fit e)

  pub read_order : line_of l ≡ Ok (order_read k c row)
  unfolding ReadsBack
  read_order =
      line_taken l Accept (reads-back k c row buffer fit e).taken (ap kind_of (written-letter k c row buffer fit e))
      ∙ (λ i. Ok (record { kind = Accept; count = columns i; columns = all_columns (numbers i) }))

  slot-count : length (values l) - 2 ≡ c
  slot-count = omega (arith, ap length numbers, written-slots k c row buffer fit e)

  pub order_sent : (line : Line) → line_of l ≡ Ok line → line_order line ≡ as_sent k c row
  order_sent line is = (reads-as l line is).order ∙ (λ i. record { key = record { code = get_or (numbers i) 0 0; number = get_or (numbers i) 1 0 }; count = slot-count i; row = row8 (drop 2 (numbers i)); fixed = 0 })

pub take-longer : (n : ℕ) (l : List ℕ) → n ≤ length l → n ≡ length (take n l)
take-longer n l h = sym (length-take-le n l h)

-- ---- what was written stands in the buffer, and its line before the line feed

count-of : (w : Result ℕ Refusal) (buffer : List ℕ) → result_unwrap_or w 0 ≡ (wrote_of w buffer).count
count-of (Ok n) buffer = refl
count-of (Err why) buffer = refl

left-in : (w : Result ℕ Refusal) (buffer : List ℕ) → buffer ≡ (wrote_of w buffer).buffer
left-in (Ok n) buffer = refl
left-in (Err why) buffer = refl

module _ (k : Key) (c : ℕ) (row buffer : List ℕ) (w : Result ℕ Refusal) (buffer' : List ℕ) (is : wrote_of w buffer' ≡ written k c row buffer) where
  count-is : result_unwrap_or w 0 ≡ (written k c row buffer).count
  count-is = count-of w buffer' ∙ ap (λ (t : Written). t.count) is

  buffer-is : buffer' ≡ (written k c row buffer).buffer
  buffer-is = left-in w buffer' ∙ ap (λ (t : Written). t.buffer) is

  pub stands_within : result_unwrap_or w 0 ≤ length buffer'
  stands_within = omega (arith, count-is, written-within k c row buffer, ap length buffer-is)

  pub line_there : take (result_unwrap_or w 0 - 1) buffer' ≡ written_line (written k c row buffer)
  line_there = λ i. take (count-is i - 1) (buffer-is i)

pub ruleset reads = (stands_within, line_there, read_order, order_sent, take-longer)
