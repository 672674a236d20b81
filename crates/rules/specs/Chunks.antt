-- A run in blocks: a file is handed over in pieces, and of each piece as many whole lines are handled as the room for answers surely holds.
use Rattle.std.specs.Prelude.{ℕ, ◌+◌, ◌-◌, ◌*◌, List, [], ◌∷◌, ◌++◌, Bool, true, false, cond, length, drop, leb}
use Rattle.rules.specs.Layout.{most_slots}
use Rattle.rules.specs.InputLines.{most_bytes}
use Rattle.rules.specs.AnswerLines.{answer_line_bytes}
use Rattle.rules.specs.Runs.{State, Out, Item, spoilt, framed, handle, lines_from, rest_from}

-- no answer with the lines that follow it is longer: that to P on 1,024 slots is 1 + 1,024 lines of 42 bytes
abbrev pub reply_room : ℕ
reply_room = answer_line_bytes * (1 + most_slots)

-- what is kept of an unended line that is too long already
abbrev pub waiting : ℕ
waiting = most_bytes + 1

-- of an unended line what is kept until more comes: all of it, or, where it is too long already, as many of its last bytes as show this
abbrev pub trimmed : List ℕ → List ℕ
trimmed r = drop (length r - waiting) r

-- how many bytes of the input a block used up, the lines that it answered, what it wrote, and the state after it
pub record Portion : Type 0 where
  pub used : ℕ
  pub lines : List Item
  pub text : List ℕ
  pub state : State

abbrev pub nothing : State → Portion
nothing s = record { used = 0; lines = []; text = []; state = s }

-- n bytes of input, the line i, answered by o, and then the portion p
abbrev pub joined : ℕ → Item → Out → Portion → Portion
joined n i o p = record { used = n + p.used; lines = i ∷ p.lines; text = o.text ++ p.text; state = p.state }

-- the input's end, r unended: one refusal, or nothing for an empty r
abbrev pub last_portion : ℕ → State → List ℕ → Portion
last_portion room s [] = nothing s
last_portion room s (b ∷ r) = cond (leb reply_room room) (joined (length (b ∷ r)) spoilt (handle s spoilt) (nothing (handle s spoilt).state)) (nothing s)

-- what is done with the unended r: before the input's end it waits, but of a line that is too long already only the last bytes do
abbrev pub ending : ℕ → Bool → State → List ℕ → Portion
ending room true s r = last_portion room s r
ending room false s r = record { used = length r - waiting; lines = []; text = []; state = s }

-- each line in turn, until there is too little room for one more answer
unfoldable pub portion : ℕ → Bool → State → List (List ℕ) → List ℕ → Portion
portion room ended s [] r = ending room ended s r
portion room ended s (l ∷ ls) r =
    cond (leb reply_room room)
    (joined (length l + 1) (framed l) (handle s (framed l))
    (portion (room - length (handle s (framed l)).text) ended (handle s (framed l)).state ls r))
    (nothing s)

-- the block of the input x, the last of the file if `ended`
abbrev pub block : ℕ → Bool → State → List ℕ → Portion
block room ended s x = portion room ended s (lines_from [] x) (rest_from [] x)
