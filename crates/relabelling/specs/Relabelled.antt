-- Internal: not part of what a reader must believe.
-- The labels that a withdrawal leaves, by the index where a slot's words begin.
use Rattle.std.specs.Prelude.{cond, List, ◌⊎◌, ◌≡◌, ℕ, zero, suc, ◌+◌, ◌*◌, eqb, set}
use Rattle.rules.specs.Layout.{slot_words, word}

-- a slot that stays as it is: free, or with label 1
abbrev pub Settled : ℕ → ℕ → Type 0
Settled number label = (number ≡ 0) ⊎ (label ≡ 1)

abbrev pub relabelled_from : List ℕ → ℕ → List ℕ
relabelled_from w at = cond (eqb (word w (at + 1)) 0) w (set w (at + 2) 1)

-- so many slots, the highest first; the lowest begins at `at`
unfoldable pub relabelled_run : List ℕ → ℕ → ℕ → List ℕ
relabelled_run w at zero = w
relabelled_run w at (suc k) = relabelled_run (relabelled_from w (at + k * slot_words)) at k
