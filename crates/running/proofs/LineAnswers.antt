-- A line by what is known is the line itself, what is known after it is true, and its answer has room.
use Rattle.std.proofs.Common.{◌≡◌, ℕ, Bool, cond, leb, List, length, refl, sym, ap, ◌∙◌, arith}
use Rattle.rules.specs.AnswerLines.{reply_text}
use Rattle.rules.specs.InputLines.{most_bytes, well_formed, line_refusal}
use Rattle.rules.specs.Known.{Knows}
use Rattle.rules.specs.Runs.{State, Handled, Out, Item, line, spoilt, framed, handle_line, handle, out_of}
use Rattle.rules.proofs.Cutting.{either}
use Rattle.rules.proofs.Knowing.{lines}
use Rattle.rules.proofs.ReplyLengths.{handle-fits}
use Rattle.answers.specs.declared.Reply.{Reply}
use Rattle.answers.specs.declared.Tally.{Tally}
use Rattle.answers.specs.Values.{reply_of, handled_of}
use Rattle.checking.specs.declared.Known.{Known}
use Rattle.checking.specs.Known.{known_of}
use Rattle.handling.specs.Turns.{Turns}
use Rattle.writing.specs.Writing.{Puts}
use Rattle.writing.proofs.Puts.{puts-stored}
use Rattle.running.specs.declared.Answering.{Answering}
use Rattle.running.specs.BlockLoop.{Answered, Room, Same, state_at}

-- a line of more than 67 bytes gets refusal 1, read or not
framed-same : (l : List ℕ) (s : State) → handle s (framed l) ≡ out_of (handle_line l s)
unfolding handle_line line_refusal well_formed
framed-same l s = either (leb (length l) most_bytes) (λ e. ap (λ (b : Bool). handle s (cond b (line l) spoilt)) e) (λ e. rw e)

-- a reply that has room is stored whole
pub answered : (i : Item) (r : Reply) (a a' : Answering) → Same a a' → out_of (handled_of r a'.tally.now a'.board.now a'.work.now) ≡ handle (state_at a) i → Room a
    → Puts a.out.now a.written (reply_text (reply_of r) a'.board.now a'.work.now) a'.written a'.out.now → Answered a (handle (state_at a) i) a'
answered i r a a' same is room p =
    let s = puts-stored a.out.now a.written _ (omega (arith, handle-fits (state_at a) i, ap (λ (o : Out). length o.text) is)) _ _ p in
    rw (← is) (record { same = same; end = s.end; state = refl; output = s.text })

module _ (l : List ℕ) (k k' : Known) (r : Reply) (a : Answering) (t' : Tally) (b' w' : List ℕ) (is : Turns l k (state_at a) r k' t' b' w') (know : Knows (known_of k) a.board.now a.work.now) where
  by_line : handled_of r t' b' w' ≡ handle_line l (state_at a)
  by_line = is.handled ∙ (lines (known_of k) l (state_at a) know).same

  pub line-is : out_of (handled_of r t' b' w') ≡ handle (state_at a) (framed l)
  line-is = ap out_of by_line ∙ sym (framed-same l (state_at a))

  pub line-knows : Knows (known_of k') b' w'
  line-knows = rw (is.known, ap (λ (h : Handled). h.state.board) by_line, ap (λ (h : Handled). h.state.work) by_line) (lines (known_of k) l (state_at a) know).known
