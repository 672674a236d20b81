-- A line as the reader gives it: its kind and numbers, or the refusal of document 01's table. Bytes are without the line feed.
use Rattle.std.specs.Prelude.{cond, List, ◌++◌, ℕ, ◌-◌, Option, Some, None, Result, Ok, Err, min, eqb, take, get_or, replicate}
use Rattle.std.specs.Option.{ok_or, option_map}
use Rattle.rules.specs.InputLines.{letter_of, column_count, most_columns, allowed, values, line_refusal}
use Rattle.rules.specs.Layout.{most_choices, reads}
use Rattle.rules.specs.Letters.{Letter, letter_s, letter_a, letter_w, letter_f, letter_p, letter_z, letter_x}
use Rattle.answers.specs.declared.Refusal.{Refusal}
use Rattle.answers.specs.declared.Refusal.TheVariants.{Malformed, TooLarge}
use Rattle.words.specs.declared.Order.{Order}
use Rattle.reading.specs.declared.Kind.{Kind}
use Rattle.reading.specs.declared.Kind.TheVariants.{Open, Accept, Withdraw, Start, Print, Total}
use Rattle.reading.specs.declared.Line.{Line}

-- ---- the document's letter of every kind, and back

abbrev pub kind_letter : Kind → Letter
kind_letter Open = letter_s
kind_letter Accept = letter_a
kind_letter Withdraw = letter_w
kind_letter Start = letter_f
kind_letter Print = letter_p
kind_letter Total = letter_z

abbrev pub kind_of : Letter → Option Kind
kind_of letter_s = Some Open
kind_of letter_a = Some Accept
kind_of letter_w = Some Withdraw
kind_of letter_f = Some Start
kind_of letter_p = Some Print
kind_of letter_z = Some Total
kind_of letter_x = None

-- "Each letter has its own allowed count of columns"
abbrev pub class_of : Letter → ℕ → Option Kind
class_of letter count = cond (allowed letter count) (kind_of letter) None

-- ---- the document's refusals of a line

abbrev pub refused_as : ℕ → Refusal
refused_as refusal = cond (eqb refusal 1) Malformed TooLarge

-- ---- the line

-- a line's numbers travel as the most that a line has, unused ones 0
abbrev pub all_columns : List ℕ → List ℕ
all_columns vs = take most_columns (vs ++ replicate most_columns 0)

-- a line of this kind
abbrev pub line_read : List ℕ → Kind → Line
line_read l kind = record { kind = kind; count = column_count l; columns = all_columns (values l) }

-- A line that is not refused begins with a known letter, so `Malformed` never stands for an unknown one here (`LineUses.refused-as`).
unfoldable pub line_of : List ℕ → Result Line Refusal
line_of l =
    let code = line_refusal l in
    cond (eqb code 0) (ok_or (option_map (line_read l) (kind_of (letter_of l))) Malformed) (Err (refused_as code))

-- the letter of a line's answer: "the line's letter (X for refusals 1 and 2)"
abbrev pub answer_letter : Result Line Refusal → Letter
answer_letter (Ok line) = kind_letter line.kind
answer_letter (Err _) = letter_x

-- the order that a line's numbers give: "a customer code as first column" (P3), the order's number, "then its slots". It is not started.
abbrev pub line_order : Line → Order
line_order l = record {
  key = record { code = get_or l.columns 0 0; number = get_or l.columns 1 0 };
  count = min l.count most_columns - 2;
  row = reads l.columns 2 most_choices;
  fixed = 0;
}
