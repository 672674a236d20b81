-- Document 01's letters: the one place that knows which lines there are, and the byte of each.
use Rattle.std.specs.Prelude.{cond, List, [], ◌∷◌, ℕ, eqb}

-- the letters of the lines that are read, and X: "X for refusals 1 and 2"
pub data Letter : Type 0 where
  letter_s : Letter
  letter_a : Letter
  letter_w : Letter
  letter_f : Letter
  letter_p : Letter
  letter_z : Letter
  letter_x : Letter

abbrev pub byte_of : Letter → ℕ
byte_of letter_s = 83
byte_of letter_a = 65
byte_of letter_w = 87
byte_of letter_f = 70
byte_of letter_p = 80
byte_of letter_z = 90
byte_of letter_x = 88

-- the letters that a line may begin with
abbrev pub line_letters : List Letter
line_letters = letter_s ∷ letter_a ∷ letter_w ∷ letter_f ∷ letter_p ∷ letter_z ∷ []

-- that of them whose byte this is; X where it is none's
abbrev pub named_among : List Letter → ℕ → Letter
named_among [] b = letter_x
named_among (x ∷ xs) b = cond (eqb b (byte_of x)) x (named_among xs b)

-- the letter that a line's first byte is; X where no line begins with it
unfoldable pub letter_named : ℕ → Letter
letter_named b = named_among line_letters b

-- ---- the lines that are only printed: K, L and N

abbrev pub byte_k : ℕ
byte_k = 75

abbrev pub byte_l : ℕ
byte_l = 76

abbrev pub byte_n : ℕ
byte_n = 78
