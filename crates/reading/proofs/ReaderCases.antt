-- Where the line reader stands after some lines, by computation.
use Rattle.std.proofs.Common.{ℕ, Bool, List, [], ◌∷◌, ◌++◌, T, eqb, get_or, replicate}
use Rattle.matching.specs.Lists.{all}
use Rattle.rules.specs.InputLines.{column_bytes, is_column}
use Rattle.rules.specs.Letters.{letter_s, letter_a, letter_p, byte_of, letter_named}
use Rattle.rules.specs.Text.{column, columns, space}
use Rattle.reading.specs.Reader.{after_letter, after_columns}

abbrev line_of_columns : ℕ → List ℕ → List ℕ
line_of_columns letter vs = letter ∷ columns column_bytes vs

-- each line with the place after its columns
abbrev pub cases : List (List ℕ × ℕ)
cases =
    -- the empty line; a letter alone; a whole line
    ([], 0) ∷ (byte_of letter_p ∷ [], 1) ∷ (line_of_columns (byte_of letter_a) (7 ∷ 1 ∷ 2 ∷ []), 19)
    -- its second column is six spaces
    ∷ (line_of_columns (byte_of letter_a) (7 ∷ []) ++ replicate column_bytes space ++ columns column_bytes (2 ∷ []), 7)
    -- refused by 2
    ∷ (line_of_columns (byte_of letter_a) (70000 ∷ 1 ∷ []), 13)
    -- a byte too many; a column too many for S; a line that is too long
    ∷ (line_of_columns (byte_of letter_s) (8 ∷ []) ++ (space ∷ []), 1) ∷ (line_of_columns (byte_of letter_s) (8 ∷ 9 ∷ []), 1) ∷ (line_of_columns (byte_of letter_a) (replicate 12 1), 1) ∷ []

abbrev holds : List ℕ × ℕ → Bool
holds c = eqb (after_columns (get_or c.0 0 0) c.0 (after_letter c.0 0)) c.1

pub cases-hold : T (all holds cases)
unfolding after_columns letter_named is_column column
cases-hold = tt
