-- Internal: not part of what a reader must believe.
-- What a method leaves of the run that it is called on.
use Rattle.std.specs.Prelude.{ℕ, ◌≡◌, length, take}
use Rattle.rules.specs.Runs.{State, tally_line}
use Rattle.answers.specs.Values.{counts_of, state_of}
use Rattle.serving.specs.declared.Run.{Run}

abbrev pub state_at : Run → State
state_at r = state_of r.board.now r.work.now r.tally

-- what was lent stays the same, and the room is as long
pub record Same (before after : Run) : Type 0 where
  pub board : after.board.ghost_name ≡ before.board.ghost_name
  pub work : after.work.ghost_name ≡ before.work.ghost_name
  pub out : after.out.ghost_name ≡ before.out.ghost_name
  pub room : length after.out.now ≡ length before.out.now

-- only the room changes: its first n bytes are the N line
pub record Closed (before after : Run) : Type 0 where
  pub board : after.board.now ≡ before.board.now
  pub work : after.work.now ≡ before.work.now
  pub n : ℕ
  pub closing : take n after.out.now ≡ tally_line (counts_of before.tally)
