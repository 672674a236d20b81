-- What the program does with the bytes that its reads bring. No contract can say which these are, or that a read took place: so each promise says that
-- there are some, and every promise of one read stands between what waited before it and what waits after it.
use Rattle.std.specs.Prelude.{ℕ, ◌≤◌, ◌<◌, ◌≡◌, ◌↔◌, ◌⊎◌, List, [], ◌∷◌, ◌++◌, Bool, true, false, length, take, Option, Some, None}
use Rattle.rules.specs.Runs.{State, Counts, new_day, tally_line}
use Rattle.rules.specs.Chunks.{reply_room, waiting}
use Rattle.rules.specs.Serving.{Served}

-- What a read leaves is a number of bytes that wait while more may come, and nothing once the input has ended.
abbrev pub has_ended : Option ℕ → Bool
has_ended None = true
has_ended (Some held) = false

abbrev pub held_of : Option ℕ → ℕ
held_of None = 0
held_of (Some held) = held

-- One read, from the state s on with the bytes `wait` held back: the state s' and the bytes wait' after it.
pub record Pulled (s : State) (wait : List ℕ) (ended : Bool) (s' : State) (wait' : List ℕ) : Type 0 where
  -- what this read brought
  pub piece : List ℕ
  -- the input has ended exactly if that is nothing
  pub ending : (ended ≡ true) ↔ (piece ≡ [])
  pub served : Served s (wait ++ piece) ended s' wait'

-- the pieces one after the other, and that none of them is empty
unfoldable pub joined : List (List ℕ) → List ℕ
joined [] = []
joined (p ∷ ps) = p ++ joined ps

unfoldable pub Full : List (List ℕ) → Type 0
Full [] = Unit {0}
Full (p ∷ ps) = (p ≡ [] → ⊥) × Full ps

-- A proved loop ends, and nothing says that the input does. So many reads the program makes at most.
abbrev pub most_reads : ℕ
most_reads = 18446744073709551615

-- All reads, from the state s on with nothing held back.
pub record ReadAll (s : State) (ended : Bool) (s' : State) (wait : List ℕ) : Type 0 where
  -- what the reads brought; then, at the input's end, one brought nothing
  pub pieces : List (List ℕ)
  pub full : Full pieces
  pub served : Served s (joined pieces) ended s' wait
  -- only so many reads stop it before the end
  pub endless : ended ≡ false → length pieces ≡ most_reads

-- The whole run, from the state s on: board and work words after it, and the room, whose first n bytes are handed out last.
pub record Ran (s : State) (board' work' out' : List ℕ) : Type 0 where
  pub tally : Counts
  pub ended : Bool
  pub wait : List ℕ
  pub read : ReadAll s ended (record { board = board'; work = work'; tally = tally }) wait
  -- the N line of this tally
  pub n : ℕ
  pub closing : take n out' ≡ tally_line tally

-- What `serve` leaves of the buffer, of board and work words and of the room: of a new day's run, where buffer and room are large enough for one, or all as it was.
pub record Serves (buf board work out buf' board' work' out' : List ℕ) : Type 0 where
  pub large : waiting < length buf → reply_room ≤ length out → Ran (record { board = board; work = work; tally = new_day }) board' work' out'
  pub small : (length buf ≤ waiting) ⊎ (length out < reply_room) → (buf' ≡ buf) × (board' ≡ board) × (work' ≡ work) × (out' ≡ out)
