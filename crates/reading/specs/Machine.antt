-- Internal: not part of what a reader must believe.
-- How the code reads a column, byte after byte, and columns one after another. Assumes nothing.
use Rattle.std.specs.Prelude.{cond, List, [], ◌∷◌, ◌++◌, map, ℕ, zero, suc, ◌+◌, ◌-◌, ◌*◌, Option, Some, None, eqb, ltb, take, drop}
use Rattle.std.specs.Option.{option_and_then}
use Rattle.matching.specs.Lists.{all, any}
use Rattle.rules.specs.InputLines.{column_bytes, is_digit, is_column, column_value}
use Rattle.rules.specs.Text.{space}
use Rattle.reading.specs.Reading.{all_columns}
use Rattle.reading.specs.declared.State.{State}
use Rattle.reading.specs.declared.State.TheVariants.{Blank, Zero, Number}

-- spaces, then one 0 alone or a number that starts with 1 to 9
abbrev pub step_of : State → ℕ → Option State
step_of Blank b = cond (eqb b space) (Some Blank) (cond (eqb b 48) (Some Zero) (cond (is_digit b) (Some (Number (b - 48))) None))
step_of Zero b = None
step_of (Number v) b = cond (is_digit b) (Some (Number (v * 10 + (b - 48)))) None

abbrev pub held_by : State → ℕ
held_by Blank = 0
held_by Zero = 0
held_by (Number v) = v

abbrev pub ended : State → Option ℕ
ended Blank = None
ended Zero = Some 0
ended (Number v) = Some v

-- what the column is, with these bytes left
abbrev pub ended_after : State → List ℕ → Option ℕ
ended_after st [] = ended st
ended_after st (b ∷ bs) = option_and_then (λ next. ended_after next bs) (step_of st b)

-- a column's bytes as the document reads them
abbrev pub cell_of : List ℕ → Option ℕ
cell_of t = cond (is_column t) (Some (column_value t)) None

-- k columns one after another
abbrev pub columns_at : List ℕ → ℕ → ℕ → List (List ℕ)
columns_at s at zero = []
columns_at s at (suc k) = take column_bytes (drop at s) ∷ columns_at s (at + column_bytes) k

-- their numbers after those that were read, as a line's
abbrev pub gathered : List ℕ → List (List ℕ) → Option (List ℕ)
gathered vs ts = cond (all is_column ts) (Some (all_columns (vs ++ map column_value ts))) None

-- as words, where each is one
abbrev pub narrowed : List ℕ → Option (List ℕ)
narrowed vs = cond (any (ltb 65535) vs) None (Some vs)
