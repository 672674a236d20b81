-- The numbers of a text. Assumes nothing.
use Rattle.std.specs.Prelude.{Bool, cond, false, List, [], ◌∷◌, ◌++◌, ℕ, ◌+◌, ◌-◌, ◌*◌, eqb, leb, ltb, get_or, set, Option, Some, None, unwrap_or}
use Rattle.std.specs.Option.{option_to_list}

abbrev pub is_digit : ℕ → Bool
is_digit b = cond (leb 48 b) (leb b 57) false

-- a value with one digit more; 0 where that is more than a word holds
abbrev pub longer : ℕ → ℕ → ℕ
longer v b = cond (leb (10 * v + b - 48) 65535) (10 * v + b - 48) 0

-- the numbers of a text, the first of which has this value so far: a number ends where no digit follows
abbrev pub numbers_of : Option ℕ → List ℕ → List ℕ
numbers_of v [] = option_to_list v
numbers_of v (b ∷ bs) = cond (is_digit b) (numbers_of (Some (longer (unwrap_or v 0) b)) bs) (option_to_list v ++ numbers_of None bs)

-- ---- the places of a line's numbers

-- where the numbers behind an arrow go
abbrev pub expected : ℕ
expected = 32

abbrev pub last_place : ℕ
last_place = 60

abbrev pub begins_with_digit : List ℕ → Bool
begins_with_digit [] = false
begins_with_digit (b ∷ bs) = is_digit b

-- the place of the next digit after a byte, before these bytes: a number ends where no digit follows
abbrev pub next_place : ℕ → List ℕ → ℕ → ℕ
next_place b bs at = cond (eqb b 62) expected (cond (is_digit b) (cond (begins_with_digit bs) at (cond (ltb at last_place) (at + 1) at)) at)

-- the words after a byte
abbrev pub after_byte : ℕ → ℕ → List ℕ → List ℕ
after_byte b at w = cond (is_digit b) (set w at (longer (get_or w at 0) b)) w

-- the place after a text, and the words
abbrev pub places : ℕ → List ℕ → ℕ
places at [] = at
places at (b ∷ bs) = places (next_place b bs at) bs

abbrev pub spelt : ℕ → List ℕ → List ℕ → List ℕ
spelt at [] w = w
spelt at (b ∷ bs) w = spelt (next_place b bs at) bs (after_byte b at w)
