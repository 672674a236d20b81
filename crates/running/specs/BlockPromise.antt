-- What a block of lines answers and leaves.
use Rattle.std.specs.Prelude.{ℕ, ◌≤◌, ◌≡◌, Bool, true, List, [], ◌++◌, length, take, drop}
use Rattle.rules.specs.Runs.{State, items, lines_from, run, before}
use Rattle.rules.specs.Chunks.{reply_room, waiting, Portion, block}
use Rattle.rules.specs.Days.{KeptByLines}
use Rattle.running.specs.declared.Block.{Block}
use Rattle.answers.specs.declared.Tally.{Tally}
use Rattle.answers.specs.Values.{state_of}

-- Of the input, the last of the file if `ended`, from the state s on, with the room `out`: the result r, and tally, board, work words and room as they are then.
-- p is what document 01's definitions say of this block.
pub record LeavesAs (p : Portion) (input : List ℕ) (ended : Bool) (s : State) (out : List ℕ) (r : Block) (t' : Tally) (board' work' out' : List ℕ) : Type 0 where
  -- the equations
  pub consumed : r.consumed ≡ p.used
  pub written : r.written ≡ length p.text
  pub state : state_of board' work' t' ≡ p.state
  pub output : out' ≡ p.text ++ drop (length p.text) out
  pub inside : r.consumed ≤ length input
  pub fits : r.written ≤ length out
  -- the lines that were answered are the first of the text, whatever y comes after it; the answers to them are what was written
  pub lines : (y : List ℕ) → (ended ≡ true → y ≡ []) → items (input ++ y) ≡ p.lines ++ items (drop r.consumed input ++ y)
  pub answers : run s p.lines ≡ record { text = take r.written out'; state = state_of board' work' t' }
  -- demand 3, of the calls that these lines made and of the board that was left
  pub kept : KeptByLines s p.lines board'
  -- whatever y comes after the input: the whole run prints what was written now, and goes on from here with what is left
  pub onward : (y : List ℕ) → (ended ≡ true → y ≡ [])
      → run s (items (input ++ y)) ≡ before (take r.written out') (run (state_of board' work' t') (items (drop r.consumed input ++ y)))
  -- with room for an answer, nothing is used only where no whole line is there and few bytes are, and at the end none
  pub idle : reply_room ≤ length out → r.consumed ≡ 0 → (ended ≡ true → input ≡ []) × (lines_from [] input ≡ []) × (length input ≤ waiting)

abbrev pub Leaves : List ℕ → Bool → State → List ℕ → Block → Tally → List ℕ → List ℕ → List ℕ → Type 0
Leaves input ended s out r t' board' work' out' = LeavesAs (block (length out) ended s input) input ended s out r t' board' work' out'
