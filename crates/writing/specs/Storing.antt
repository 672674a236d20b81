-- Internal: not part of what a reader must believe.
-- What the private writers need and leave: they are called where there is room.
use Rattle.std.specs.Prelude.{◌≡◌, List, [], ◌∷◌, ℕ, ◌+◌, ◌≤◌, length}
use Rattle.std.proofs.lemmas.List.Edits.{sets}
use Rattle.rules.specs.Letters.{byte_l}
use Rattle.rules.specs.Layout.{code_at, number_at, label_at}
use Rattle.rules.specs.AnswerLines.{printed, blocked_lines, slot_lines}
use Rattle.answers.specs.declared.Reply.{Reply}
use Rattle.writing.specs.Writing.{Puts}
use Rattle.writing.specs.declared.text.Cursor.{Cursor}
use Rattle.writing.specs.declared.Following.{Following}
use Rattle.writing.specs.declared.Following.TheVariants.{Blocked, Plan, Nothing}

-- so many bytes have room from the cursor on
abbrev pub Room : Cursor → ℕ → Type 0
Room cursor bytes = cursor.at + bytes ≤ length cursor.out.now

-- t stands from where the cursor was, and it is behind t now
pub record Stores (before : Cursor) (t : List ℕ) (after : Cursor) : Type 0 where
  pub same : after.out.ghost_name ≡ before.out.ghost_name
  pub end : after.at ≡ before.at + length t
  pub text : after.out.now ≡ sets before.out.now before.at t

-- all of t stands from there, where it has room, or nothing does
pub record StoresAll (before : Cursor) (t : List ℕ) (after : Cursor) : Type 0 where
  pub same : after.out.ghost_name ≡ before.out.ghost_name
  pub puts : Puts before.out.now before.at t after.at after.out.now

-- the L line of slot s
abbrev pub slot_line : List ℕ → ℕ → List ℕ
slot_line board s = printed byte_l (s ∷ code_at board s ∷ number_at board s ∷ label_at board s ∷ [])

-- the answer line of a reply
abbrev pub answer_line : Reply → List ℕ
answer_line reply = printed reply.letter (reply.code ∷ reply.number ∷ reply.refusal ∷ reply.count ∷ [])

-- the lines that follow an answer line
abbrev pub lines_of : Following → List ℕ
lines_of (Blocked slots) = blocked_lines slots.now
lines_of (Plan board) = slot_lines board.now
lines_of Nothing = []
