-- An order brought in, of whatever words: the reach is asked first, and then the search. Of a board that passes the check this is what
-- `finished` says of the search alone (`Brings.brings`).
use Rattle.std.specs.Prelude.{Bool, cond, ◌||◌, List, ℕ, suc, ◌*◌, min, ltb, length, set}
use Rattle.std.proofs.lemmas.List.Edits.{sets}
use Rattle.matching.specs.Blocking.{blocked}
use Rattle.matching.specs.Lists.{any}
use Rattle.matching.specs.Orders.{Order, seats}
use Rattle.matching.specs.Placing.{Ended, found, none, spent, follow}
use Rattle.rules.specs.Calls.{Answer, undecided}
use Rattle.rules.specs.Layout.{most_slots, size, held_count, held_word, is_free, view, write_at}

-- the slots that x reaches, of the slots 1 .. n
abbrev pub reach_of : ℕ → List ℕ → Order → List ℕ
reach_of n w x = blocked n (seats n (view w)) x

-- one of them is free
abbrev pub free_in : ℕ → List ℕ → Order → Bool
free_in n w x = any (is_free w) (reach_of n w x)

-- a word holds no more than 65,535
abbrev pub one_more : ℕ → ℕ
one_more k = min 65535 (suc k)

abbrev pub answer : ℕ → ℕ → List ℕ → List ℕ → Answer
answer code count w work = record { refusal = code; count = count; board = w; work = work }

-- after the search
abbrev pub searched : List ℕ → List ℕ → Ended (List ℕ) → Answer
searched w work (found w' moves) = answer 0 moves (set w' held_word (one_more (held_count w))) work
searched w work (none w') = answer undecided 0 w' work
searched w work (spent w') = answer undecided 0 w' work

unfoldable pub bring_in : List ℕ → List ℕ → Order → Answer
unfolding follow
bring_in w work x =
    let n = size w in
    cond (ltb most_slots n || ltb (length work) n) (answer undecided 0 w work)
    (cond (free_in n w x) (searched w work (follow view (write_at n) n (suc (n * n)) w x 0)) (answer 12 (length (reach_of n w x)) w (sets work 0 (reach_of n w x))))
