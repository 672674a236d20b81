-- Where a line ends. Assumes nothing.
use Rattle.std.specs.Prelude.{cond, List, [], ◌∷◌, ℕ, suc, ◌+◌, Option, Some, None, eqb, ltb, length, drop}
use Rattle.rules.specs.Text.{line_feed}

-- how many bytes stand before the first line feed; all of them where there is none
abbrev pub before_feed : List ℕ → ℕ
before_feed [] = 0
before_feed (b ∷ bs) = cond (eqb b line_feed) 0 (suc (before_feed bs))

-- "ended by one line feed (byte 10)": the index of the one that ends the line that begins at `from`, or s's length where the line is unended. A `from` beyond the length comes back as it is.
abbrev pub line_end : List ℕ → ℕ → ℕ
line_end s from = from + before_feed (drop from s)

-- the index of that line feed, where there is one
abbrev pub feed_from : List ℕ → ℕ → Option ℕ
feed_from s from = cond (ltb (line_end s from) (length s)) (Some (line_end s from)) None
