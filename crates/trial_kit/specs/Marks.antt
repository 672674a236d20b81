-- Words that must stay, and work words that a call must clear. Assumes nothing.
use Rattle.std.specs.Prelude.{List, ℕ, ◌+◌, ◌*◌, ◌%◌, ◌≡◌, ◌≤◌, ◌<◌, length, slice_index}

abbrev pub mark : ℕ → ℕ
mark i = i % 1000 + 7000

-- each word from index `from` on has its mark
abbrev pub HasMarks : ℕ → List ℕ → Type 0
HasMarks from w = (i : ℕ) → from ≤ i → i < length w → slice_index w i ≡ mark i

-- each word from index `from` up to `to` is 0, as is what the words do not have
abbrev pub HasZeros : ℕ → ℕ → List ℕ → Type 0
HasZeros from to w = (i : ℕ) → from ≤ i → i < to → slice_index w i ≡ 0

abbrev pub work_size : ℕ → ℕ
work_size n = 14 * n + 4

-- zeros from index `shown` up to the size, and marks behind it
abbrev pub IsCleared : List ℕ → ℕ → ℕ → Type 0
IsCleared work n shown = HasZeros shown (work_size n) work × HasMarks (work_size n) work
