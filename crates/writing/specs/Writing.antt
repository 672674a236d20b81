-- A text goes to position `at` of a buffer that has room for it; else the buffer and the position stay.
use Rattle.std.specs.Prelude.{◌≡◌, cond, List, ℕ, ◌+◌, ◌*◌, leb, length}
use Rattle.std.proofs.lemmas.List.Edits.{sets}
use Rattle.rules.specs.AnswerLines.{answer_bytes}

unfoldable pub put_text : List ℕ → ℕ → List ℕ → List ℕ
put_text out at t = cond (leb (at + length t) (length out)) (sets out at t) out

-- the position after it
unfoldable pub end_of : List ℕ → ℕ → List ℕ → ℕ
end_of out at t = cond (leb (at + length t) (length out)) (at + length t) at

-- what a writer of the text t answers and leaves
pub record Puts (out : List ℕ) (at : ℕ) (t : List ℕ) (r : ℕ) (out' : List ℕ) : Type 0 where
  pub end : r ≡ end_of out at t
  pub text : out' ≡ put_text out at t

-- the bytes of the N line, which has three columns
abbrev pub tally_line_bytes : ℕ
tally_line_bytes = answer_bytes * 3 + 2
