-- What a program that reads a file piece by piece has done once its reads brought the bytes x in all. The laws of it are in proofs/Serving.antt.
use Rattle.std.specs.Prelude.{ℕ, ◌≡◌, List, [], map, Bool, true, false}
use Rattle.rules.specs.Runs.{State, Item, lines_from, rest_from, framed, items, run}
use Rattle.rules.specs.Chunks.{trimmed}
use Rattle.rules.specs.Days.{KeptByLines}

-- the lines of x that have an answer: those that are ended, and at the input's end the unended rest too
abbrev pub answered_of : Bool → List ℕ → List Item
answered_of true x = items x
answered_of false x = map framed (lines_from [] x)

-- what waits after x: the unended rest; at the input's end nothing
abbrev pub waits_of : Bool → List ℕ → List ℕ
waits_of true x = []
waits_of false x = trimmed (rest_from [] x)

-- From the state s on the bytes x were read, the last of the input if `ended`. Then s' is the state, and `wait` is what is held back for the next read.
pub record Served (s : State) (x : List ℕ) (ended : Bool) (s' : State) (wait : List ℕ) : Type 0 where
  -- the state of the run over all lines of x that have an answer: no line is lost, none is answered twice
  pub state : s' ≡ (run s (answered_of ended x)).state
  pub waits : wait ≡ waits_of ended x
  -- demand 3, of all these lines, from wherever among them the board passes the check: the first accepted opening
  pub kept : KeptByLines s (answered_of ended x) s'.board
