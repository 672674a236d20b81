-- What a line's handling answers and leaves, by what is known; and what is known after it.
use Rattle.std.specs.Prelude.{List, ◌≡◌, ℕ, Option, Some, None, get_or, Result}
use Rattle.rules.specs.Calls.{Call, Answer, open-board, accept, withdraw, start-order, print}
use Rattle.rules.specs.Known as Rules
use Rattle.rules.specs.Known.{perform_known}
use Rattle.rules.specs.KnownLines.{handle_known, known_by, known_line}
use Rattle.rules.specs.Runs as R
use Rattle.answers.specs.Numbers.{said}
use Rattle.answers.specs.Values.{handled_of}
use Rattle.answers.specs.declared.Rejection.{Rejection}
use Rattle.answers.specs.declared.Reply.{Reply}
use Rattle.answers.specs.declared.Tally.{Tally}
use Rattle.checking.specs.declared.Known.{Known}
use Rattle.checking.specs.Known.{known_of}
use Rattle.reading.specs.Reading.{kind_letter, line_order}
use Rattle.reading.specs.declared.Kind.{Kind}
use Rattle.reading.specs.declared.Kind.TheVariants.{Open, Accept, Withdraw, Start, Print, Total}
use Rattle.reading.specs.declared.Line.{Line}
use Rattle.words.specs.Carried.{key_of}

pub record Turns (l : List ℕ) (k : Known) (s : R.State) (r : Reply) (k' : Known) (t : Tally) (w' work' : List ℕ) : Type 0 where
  pub handled : handled_of r t w' work' ≡ handle_known (known_of k) l s
  pub known : known_of k' ≡ known_line (known_of k) l s

-- Internal: the call that a line of this kind asks for
abbrev pub call_by : Kind → Line → Option Call
call_by Open l = Some (open-board (get_or l.columns 0 0))
call_by Accept l = Some (accept (key_of (line_order l).key) (line_order l).count (line_order l).row)
call_by Withdraw l = Some (withdraw (key_of (line_order l).key))
call_by Start l = Some (start-order (key_of (line_order l).key))
call_by Print l = Some print
call_by Total l = None

abbrev pub line_call : Line → Option Call
line_call l = call_by l.kind l

-- Internal: the number that the answer line shows, whatever the work words
abbrev pub Shows : Line → Result ℕ Rejection → List ℕ → ℕ → Type 0
Shows l a b n = (w : List ℕ) → n ≡ R.shown_number (kind_letter l.kind) l.columns (said a b w)

-- Internal: the answer to a line of these numbers that asks for the call q, or for none
abbrev pub answer_known : Rules.Known → Option Call → List ℕ → R.State → Answer
answer_known k q vs s = R.answer_by (λ q. perform_known k q s.board s.work) q vs s

-- Internal: what a line that is read is answered, and what is known after it
pub record AnswersTo (l : Line) (k : Known) (s : R.State) (r : Result ℕ Rejection) (k' : Known) (b' w' : List ℕ) : Type 0 where
  pub answer : said r b' w' ≡ answer_known (known_of k) (line_call l) l.columns s
  pub known : known_of k' ≡ known_by (known_of k) (line_call l) s

-- Internal: a line that is read
pub record Asks (l : Line) (k : Known) (s : R.State) (r : Reply) (k' : Known) (t : Tally) (b' w' : List ℕ) : Type 0 where
  pub handled : handled_of r t b' w' ≡ R.answered (kind_letter l.kind) l.columns s (answer_known (known_of k) (line_call l) l.columns s)
  pub known : known_of k' ≡ known_by (known_of k) (line_call l) s
