-- A line's handling with what is known of board and work words, and what is known after it. Where that is true it is `handle_line` (`lines` in
-- proofs/Knowing.antt).
use Rattle.std.specs.Prelude.{cond, List, Option, Some, None, eqb, ℕ}
use Rattle.rules.specs.Calls.{Call, Answer}
use Rattle.rules.specs.InputLines.{letter_of, values, line_refusal, call_of}
use Rattle.rules.specs.Known.{Known, perform_known, known_after}
use Rattle.rules.specs.Runs.{State, Handled, unread, answered, answer_by}

-- the call that a line asks for
abbrev pub asked : List ℕ → Option Call
asked l = call_of (letter_of l) (values l)

unfoldable pub handle_known : Known → List ℕ → State → Handled
unfolding perform_known
handle_known k l s =
    let r : Answer = answer_by (λ q. perform_known k q s.board s.work) (asked l) (values l) s in
    let read : Handled = answered (letter_of l) (values l) s r in
    cond (eqb (line_refusal l) 0) read (unread (line_refusal l) s)

-- after a line that is read; without a call board and work words stay, and with them what is known
abbrev pub known_by : Known → Option Call → State → Known
known_by k (Some q) s = known_after k q s.board s.work
known_by k None s = k

unfoldable pub known_line : Known → List ℕ → State → Known
unfolding known_after
known_line k l s =
    let after : Known = known_by k (asked l) s in
    cond (eqb (line_refusal l) 0) after k
