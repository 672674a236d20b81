-- What the reader gives of a line, against the line's own call.
use Rattle.std.proofs.Common.{◌≡◌, ℕ, ◌+◌, ◌%◌, not, ◌&&◌, eqb, List, [], ◌∷◌, Option, Some, None, Result, Ok, Err, get_or, refl, sym, ap, ◌∙◌, arith}
use Rattle.std.proofs.lemmas.Bool.{ne_eqb}
use Rattle.rules.specs.Calls as Calls
use Rattle.rules.specs.Calls.{Call, Answer, Check, open-board, accept, withdraw, start-order}
use Rattle.rules.specs.Known as Rules
use Rattle.rules.specs.Known.{Knows, perform_known}
use Rattle.rules.specs.KnownLines.{asked, handle_known, known_by, known_line}
use Rattle.rules.specs.InputLines.{values, call_of}
use Rattle.rules.specs.Letters.{Letter, letter_s, letter_a, letter_w, letter_f, letter_p, letter_z, letter_x, byte_of}
use Rattle.rules.specs.Ledger.{ok}
use Rattle.rules.specs.Runs.{Counts, counted, noted, figures, State, shown_code, shown_number, answered, handle_line}
use Rattle.rules.proofs.Knowing.{lines}
use Rattle.words.specs.Carried.{key_of}
use Rattle.words.specs.declared.Order.{Order}
use Rattle.answers.specs.Numbers.{code}
use Rattle.answers.specs.declared.Refusal.{Refusal}
use Rattle.answers.specs.declared.Rejection.{Rejection}
use Rattle.answers.specs.declared.Reply.{Reply}
use Rattle.answers.specs.declared.Tally.{Tally}
use Rattle.answers.specs.Replies.{Closing, LeavesUnread}
use Rattle.answers.specs.Values.{counts_of, state_of}
use Rattle.answers.proofs.NumberLaws.{code-some}
use Rattle.checking.specs.declared.Known.{Known}
use Rattle.checking.specs.Known.{known_of}
use Rattle.reading.specs.declared.Kind.{Kind}
use Rattle.reading.specs.declared.Kind.TheVariants.{Open, Accept, Withdraw, Start, Print, Total}
use Rattle.reading.specs.declared.Line.{Line}
use Rattle.reading.specs.Reading.{kind_letter, line_of}
use Rattle.reading.proofs.LineUses.{ReadsAs, reads-as, refused-as, first-column, second-column}
use Rattle.handling.specs.Turns.{Turns, Asks, AnswersTo, call_by, line_call, answer_known}

-- ---- of a line's numbers its answer looks at the first two

module _ (vs us : List ℕ) (first : get_or vs 0 0 ≡ get_or us 0 0) (second : get_or vs 1 0 ≡ get_or us 1 0) where
  code-shown : (x : Letter) → shown_code x vs ≡ shown_code x us
  code-shown letter_s = refl
  code-shown letter_a = first
  code-shown letter_w = first
  code-shown letter_f = first
  code-shown letter_p = refl
  code-shown letter_z = refl
  code-shown letter_x = refl

  number-shown : (x : Letter) (r : Answer) → shown_number x vs r ≡ shown_number x us r
  number-shown letter_s r = first
  number-shown letter_a r = second
  number-shown letter_w r = second
  number-shown letter_f r = second
  number-shown letter_p r = refl
  number-shown letter_z r = first
  number-shown letter_x r = refl

  same-noted : (x : Letter) (t : Counts) → noted x vs t ≡ noted x us t
  same-noted letter_s t = refl
  same-noted letter_a t = ap (λ (m : ℕ). record t { orders = (t.orders + 1) % figures; numbers = (t.numbers + m) % figures }) second
  same-noted letter_w t = refl
  same-noted letter_f t = refl
  same-noted letter_p t = refl
  same-noted letter_z t = refl
  same-noted letter_x t = refl

  same-answer : (k : Rules.Known) (q : Option Call) (s : State) → answer_known k q vs s ≡ answer_known k q us s
  same-answer k (Some q) s = refl
  same-answer k None s = (λ i. record { refusal = Calls.first (tests (first i) (second i) s.tally); count = 0; board = s.board; work = s.work })
    where
      tests : ℕ → ℕ → Counts → List Check
      tests m n t = (15, not (eqb m t.orders && eqb n t.numbers)) ∷ []

  answered-same : (x : Letter) (s : State) (r : Answer) → answered x vs s r ≡ answered x us s r
  answered-same x s r = (λ i. record {
    reply = record { letter = byte_of x; code = code-shown x i; number = number-shown x r i; refusal = r.refusal; count = r.count };
    state = record { board = r.board; work = r.work; tally = same-noted x (counted (ok r) s.tally) i };
  })

-- ---- a line that asks for no call

pub total_answered : (l : Line) (k : Known) (b w : List ℕ) (t : Tally) {r : Result ℕ Rejection} → None ≡ line_call l → Closing (get_or l.columns 0 0 ∷ get_or l.columns 1 0 ∷ []) (counts_of t) r
    → AnswersTo l k (state_of b w t) r k b w
total_answered l k b w t none closing = record {
  answer = closing b w ∙ ap (λ (q : Option Call). answer_known (known_of k) q l.columns (state_of b w t)) none;
  known = ap (λ (q : Option Call). known_by (known_of k) q (state_of b w t)) none;
}

-- ---- a line that is read

module _ (l : List ℕ) (r : Result Line Refusal) (given : r ≡ line_of l) where
  module _ (read : Line) (is : r ≡ Ok read) where
    gives : ReadsAs l read
    gives = reads-as l read (sym given ∙ is)

    first_is : get_or read.columns 0 0 ≡ get_or (values l) 0 0
    first_is = ap (λ (vs : List ℕ). get_or vs 0 0) gives.columns ∙ first-column (values l)

    second_is : get_or read.columns 1 0 ≡ get_or (values l) 1 0
    second_is = ap (λ (vs : List ℕ). get_or vs 1 0) gives.columns ∙ second-column (values l)

    by_kind : (k : Kind) → call_by k read ≡ call_of (kind_letter k) (values l)
    unfolding call_of
    by_kind Open = ap (λ (n : ℕ). Some (open-board n)) first_is
    by_kind Accept = ap (λ (o : Order). Some (accept (key_of o.key) o.count o.row)) gives.order
    by_kind Withdraw = ap (λ (o : Order). Some (withdraw (key_of o.key))) gives.order
    by_kind Start = ap (λ (o : Order). Some (start-order (key_of o.key))) gives.order
    by_kind Print = refl
    by_kind Total = refl

    call-is : line_call read ≡ asked l
    call-is = by_kind read.kind ∙ ap (λ (x : Letter). call_of x (values l)) gives.letter

    pub turns_read : {k k' : Known} {s : State} {p : Reply} {t : Tally} {b' w' : List ℕ} → Asks read k s p k' t b' w' → Turns l k s p k' t b' w'
    unfolding handle_known known_line
    turns_read {k} {k'} {s} asks = record {
      handled = rw gives.taken (asks.handled
          ∙ answered-same read.columns (values l) first_is second_is (kind_letter read.kind) s (answer_known (known_of k) (line_call read) read.columns s)
          ∙ ap (answered (kind_letter read.kind) (values l) s) (same-answer read.columns (values l) first_is second_is (known_of k) (line_call read) s)
          ∙ (λ i. answered (gives.letter i) (values l) s (answer_known (known_of k) (call-is i) (values l) s)));
      known = rw gives.taken (asks.known ∙ ap (λ (q : Option Call). known_by (known_of k) q s) call-is);
    }

  -- ---- a line that is not

  pub turns_unread : (why : Refusal) → r ≡ Err why → (k : Known) (b w : List ℕ) {p : Reply} {t t' : Tally} → LeavesUnread (code why) t p t' → Turns l k (state_of b w t) p k t' b w
  unfolding handle_known known_line
  turns_unread why is k b w unread =
      let refused = refused-as l why (sym given ∙ is) in
      let some = code-some why in
      let no = ne_eqb (code why) 0 (λ z. omega arith) in
      record { handled = rw (refused, no) (unread b w); known = rw (refused, no) }

-- ---- by what is true, a line is handled as document 01 says

pub line_same : (k : Rules.Known) (l : List ℕ) (s : State) → Knows k s.board s.work → handle_known k l s ≡ handle_line l s
line_same k l s know = (lines k l s know).same
