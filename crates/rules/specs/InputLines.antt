-- Document 01, "Lines from the printers": a line's bytes, without its line feed, as a call; and an order as its line.
use Rattle.std.specs.Prelude.{Bool, false, not, ◌&&◌, cond, List, [], ◌∷◌, map, ℕ, zero, suc, ◌+◌, ◌-◌, ◌*◌, ◌/◌, Option, Some, None, eqb, ltb, leb, length, get_or, take, drop}
use Rattle.std.proofs.lemmas.List.Edits.{sets}
use Rattle.matching.specs.Lists.{all, any}
use Rattle.matching.specs.Orders.{Key}
use Rattle.rules.specs.Layout.{most_slots, row8}
use Rattle.rules.specs.Calls.{Call, open-board, accept, withdraw, start-order, print, order, Check, first, order_checks}
use Rattle.rules.specs.Letters.{Letter, letter_s, letter_a, letter_w, letter_f, letter_p, letter_z, letter_x, byte_of, letter_named}
use Rattle.rules.specs.Text.{space, text_line}

-- ---- "A column is none to five spaces, then a decimal number without leading zeros (a lone 0 is allowed)."

-- "columns of six characters"
abbrev pub column_bytes : ℕ
column_bytes = 6

abbrev pub is_digit : ℕ → Bool
is_digit b = leb 48 b && leb b 57

abbrev pub after_spaces : List ℕ → List ℕ
after_spaces [] = []
after_spaces (b ∷ bs) = let rest = after_spaces bs in cond (eqb b space) rest (b ∷ bs)

abbrev pub is_numeral : List ℕ → Bool
is_numeral [] = false
is_numeral (b ∷ []) = is_digit b
is_numeral (b ∷ c ∷ bs) = is_digit b && not (eqb b 48) && all is_digit (c ∷ bs)

-- the number that digits write, after those that wrote v
abbrev pub numeral_from : ℕ → List ℕ → ℕ
numeral_from v [] = v
numeral_from v (b ∷ bs) = numeral_from (v * 10 + (b - 48)) bs

unfoldable pub is_column : List ℕ → Bool
is_column t = eqb (length t) column_bytes && is_numeral (after_spaces t)

unfoldable pub column_value : List ℕ → ℕ
column_value t = numeral_from 0 (after_spaces t)

-- ---- the line

-- "A line is a capital letter and then columns"
abbrev pub letter_of : List ℕ → Letter
letter_of l = letter_named (get_or l 0 0)

-- the columns that the bytes after the letter have room for, and the bytes of column i
abbrev pub column_count : List ℕ → ℕ
column_count l = (length l - 1) / column_bytes

abbrev pub column_at : List ℕ → ℕ → List ℕ
column_at l i = take column_bytes (drop (1 + column_bytes * i) l)

-- k columns from column i on
abbrev pub columns_from : List ℕ → ℕ → ℕ → List (List ℕ)
columns_from l i zero = []
columns_from l i (suc k) = column_at l i ∷ columns_from l (i + 1) k

-- the most that a line has: "A has one to ten", and "one column more" (P3)
abbrev pub most_columns : ℕ
most_columns = 11

-- "S has one column, n. A has one to ten: order number, then slots. W has one, the order number. P has none." P1: "Line F with an order number".
-- P2: "Line Z gives the count of A lines and the sum of their order numbers". P3: "A, W and F gain a customer code as first column".
-- "Each letter has its own allowed count of columns": what begins no line has none.
abbrev pub allowed : Letter → ℕ → Bool
allowed letter_s count = eqb count 1
allowed letter_a count = leb 2 count && leb count most_columns
allowed letter_w count = eqb count 2
allowed letter_f count = eqb count 2
allowed letter_p count = eqb count 0
allowed letter_z count = eqb count 2
allowed letter_x count = false

-- "one with more than 61 bytes before its line feed" gets refusal 1. P3: "lines may have one column more, 67 bytes"
abbrev pub most_bytes : ℕ
most_bytes = 67

-- "A line is a capital letter and then columns of six characters"
unfoldable pub well_formed : List ℕ → Bool
well_formed l =
    leb (length l) most_bytes && eqb (length l) (1 + column_bytes * column_count l)
    && allowed (letter_of l) (column_count l) && all is_column (columns_from l 0 (column_count l))

-- the numbers of the line
unfoldable pub values : List ℕ → List ℕ
values l = map column_value (columns_from l 0 (column_count l))

-- 1: "the line is not of the form above", of the whole line; then 2: "a column is above 65,535"
unfoldable pub line_refusal : List ℕ → ℕ
unfolding well_formed values
line_refusal l = first ((1, not (well_formed l)) ∷ (2, any (ltb 65535) (values l)) ∷ [])

-- "a customer code as first column" (P3), and then the order's number
abbrev pub line_key : List ℕ → Key
line_key vs = record { code = get_or vs 0 0; number = get_or vs 1 0 }

-- the call that a letter and its numbers ask for. An A line's first eight slots travel as its row; 8 refuses a ninth before the row is looked at.
-- Z asks for none, as it reads no board; nor does what begins no line.
unfoldable pub call_of : Letter → List ℕ → Option Call
call_of letter_s vs = Some (open-board (get_or vs 0 0))
call_of letter_a vs = Some (accept (line_key vs) (length vs - 2) (row8 (drop 2 vs)))
call_of letter_w vs = Some (withdraw (line_key vs))
call_of letter_f vs = Some (start-order (line_key vs))
call_of letter_p vs = Some print
call_of letter_z vs = None
call_of letter_x vs = None

-- ---- the order writer

-- the A line of an order, with its line feed
abbrev pub order_line : Key → List ℕ → List ℕ
order_line k slots = text_line column_bytes (byte_of letter_a) (k.code ∷ k.number ∷ slots)

-- "8 bytes and 6 more per slot"; P3: "6 bytes more"
abbrev pub order_bytes : ℕ → ℕ
order_bytes c = 14 + column_bytes * c

pub record Written : Type 0 where
  pub refusal : ℕ
  pub count : ℕ
  pub buffer : List ℕ

-- "It checks 7, 8, 9 (with 1,024 for n) and 10 of the table below, and last gives 4 for a shorter buffer." P3: "The order writer takes it too (check 16 first ..)"
abbrev pub writer_checks : Key → ℕ → List ℕ → List ℕ → List Check
writer_checks k c row buffer = order_checks most_slots k c row ((4, ltb (length buffer) (order_bytes c)) ∷ [])

-- "Accepted, it returns 0 and the count of bytes written. When refused it writes nothing; bytes after the line stay."
unfoldable pub written : Key → ℕ → List ℕ → List ℕ → Written
written k c row buffer =
    let code = first (writer_checks k c row buffer) in
    let done : Written = record { refusal = 0; count = order_bytes c; buffer = sets buffer 0 (order_line k (order k c row).list) } in
    cond (eqb code 0) done (record { refusal = code; count = 0; buffer = buffer })
