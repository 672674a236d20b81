-- Document 01, "A whole run": the lines that are printed. "Each answer line is a letter and columns ten wide".
use Rattle.std.specs.Prelude.{◌&&◌, cond, List, [], ◌∷◌, ◌++◌, ℕ, zero, suc, ◌+◌, ◌*◌, ◌/◌, eqb, length, take, drop}
use Rattle.rules.specs.Layout.{size, code_at, number_at, label_at}
use Rattle.rules.specs.Letters.{letter_p, byte_of, byte_k, byte_l}
use Rattle.rules.specs.Text.{text_line}

abbrev pub answer_bytes : ℕ
answer_bytes = 10

abbrev pub printed : ℕ → List ℕ → List ℕ
printed letter vs = text_line answer_bytes letter vs

-- an answer line and an L line have a letter, four columns and the line feed
abbrev pub answer_line_bytes : ℕ
answer_line_bytes = 2 + answer_bytes * 4

-- "After a 12, K lines list blocked slots, eight to a line."
abbrev pub slots_per_line : ℕ
slots_per_line = 8

-- the first k K lines of a list
unfoldable pub blocked_from : ℕ → List ℕ → List ℕ
blocked_from zero l = []
blocked_from (suc k) l = printed byte_k (take slots_per_line l) ++ blocked_from k (drop slots_per_line l)

abbrev pub blocked_lines : List ℕ → List ℕ
blocked_lines l = blocked_from ((length l + 7) / slots_per_line) l

-- "After an accepted P, one L line per slot: slot, order or 0, label." P3: "L lines gain the code before the order". Here of k slots from s on.
unfoldable pub slots_from : List ℕ → ℕ → ℕ → List ℕ
slots_from w zero s = []
slots_from w (suc k) s = printed byte_l (s ∷ code_at w s ∷ number_at w s ∷ label_at w s ∷ []) ++ slots_from w k (s + 1)

abbrev pub slot_lines : List ℕ → List ℕ
slot_lines w = slots_from w (size w) 1

-- "the line's letter (X for refusals 1 and 2), its first number (P: orders held, 0 if refused; X and any other line without columns: 0), the refusal or 0, the count";
-- P3: "answers show code (0 where the line has none), number, refusal, count"
pub record Reply : Type 0 where
  pub letter : ℕ
  pub code : ℕ
  pub number : ℕ
  pub refusal : ℕ
  pub count : ℕ

-- the lines that follow an answer, from the board and the work words that the call left
abbrev pub following : Reply → List ℕ → List ℕ → List ℕ
following r w work = cond (eqb r.refusal 12) (blocked_lines (take r.count work)) (cond (eqb r.letter (byte_of letter_p) && eqb r.refusal 0) (slot_lines w) [])

-- an answer with the lines that follow it
unfoldable pub reply_text : Reply → List ℕ → List ℕ → List ℕ
unfolding blocked_from slots_from
reply_text r w work = printed r.letter (r.code ∷ r.number ∷ r.refusal ∷ r.count ∷ []) ++ following r w work
