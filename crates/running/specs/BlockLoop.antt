-- Internal: not part of what a reader must believe.
-- Where the block's loop stands, what a line's answer leaves, and what the block's end does.
use Rattle.std.specs.Prelude.{ℕ, ◌+◌, ◌-◌, ◌≤◌, ◌<◌, ◌≡◌, Bool, List, [], length, get_or, drop}
use Rattle.std.proofs.lemmas.List.Edits.{sets}
use Rattle.memchr.specs.Find.{is_byte, places_between}
use Rattle.rules.specs.Text.{line_feed}
use Rattle.rules.specs.Runs.{State, Out}
use Rattle.rules.specs.Chunks.{reply_room, Portion, block}
use Rattle.answers.specs.Values.{state_of}
use Rattle.running.specs.declared.Answering.{Answering}
use Rattle.running.specs.declared.Block.{Block}
use Rattle.running.specs.BlockPromise.{Leaves}

abbrev pub state_at : Answering → State
state_at a = state_of a.board.now a.work.now a.tally.now

-- a line's answer surely has room
abbrev pub Room : Answering → Type 0
Room a = a.written + reply_room ≤ length a.out.now

-- what was lent stays the same
pub record Same (before after : Answering) : Type 0 where
  pub board : after.board.ghost_name ≡ before.board.ghost_name
  pub work : after.work.ghost_name ≡ before.work.ghost_name
  pub tally : after.tally.ghost_name ≡ before.tally.ghost_name
  pub out : after.out.ghost_name ≡ before.out.ghost_name

-- what the code left of a line's answer, against what the definitions print and leave
pub record Answered (before : Answering) (o : Out) (after : Answering) : Type 0 where
  pub same : Same before after
  pub end : after.written ≡ before.written + length o.text
  pub state : state_at after ≡ o.state
  pub output : after.out.now ≡ sets before.out.now before.written o.text

-- r is the first index of s from `from` on that holds a line feed, or s's length
pub record LineEnd (s : List ℕ) (from r : ℕ) : Type 0 where
  pub after : from ≤ r
  pub within : r ≤ length s
  pub found : r < length s → get_or s r 0 ≡ line_feed
  pub none : (k : ℕ) → k < r → from ≤ k → get_or s k 0 ≡ line_feed → ⊥

-- the line feeds of s from `from` on
abbrev pub feeds : List ℕ → ℕ → List ℕ
feeds s from = places_between (is_byte line_feed) s from (length s)

-- p is what is left to do, q the whole
pub record Left (p q : Portion) (out₀ out : List ℕ) (at written : ℕ) : Type 0 where
  pub used : at + p.used ≡ q.used
  pub long : written + length p.text ≡ length q.text
  pub stored : sets out written p.text ≡ sets out₀ 0 q.text
  pub state : p.state ≡ q.state

abbrev pub todo : List ℕ → Bool → List ℕ → Answering → ℕ → Portion
todo input ended out₀ a at = block (length out₀ - a.written) ended (state_at a) (drop at input)

-- What holds before each look for a line feed: `rest` are those of the input from index `at` on, and the next line ends at the first of them.
pub record Turning (input : List ℕ) (ended : Bool) (s₀ : State) (out₀ : List ℕ) (a : Answering) (at : ℕ) (rest : List ℕ) : Type 0 where
  pub ahead : feeds input at ≡ rest
  pub line : LineEnd input at (get_or rest 0 (length input))
  pub fits : a.written ≤ length out₀
  pub same : length a.out.now ≡ length out₀
  pub left : Left (todo input ended out₀ a at) (block (length out₀) ended s₀ input) out₀ a.out.now at a.written

abbrev pub Ends : List ℕ → Bool → State → List ℕ → Block → Answering → Type 0
Ends input ended s₀ out₀ r a = Leaves input ended s₀ out₀ r a.tally.now a.board.now a.work.now a.out.now

-- No whole line is left: whatever the block began with, r is what it answers.
abbrev pub Finishes : Bool → ℕ → ℕ → Answering → Block → Answering → Type 0
Finishes ended at e a r a' = (input : List ℕ) (s₀ : State) (out₀ : List ℕ) → Turning input ended s₀ out₀ a at [] → length input ≡ e → Ends input ended s₀ out₀ r a'
