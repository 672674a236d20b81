-- What a public writer answers, for a caller that knows of the room.
use Rattle.std.proofs.Common.{◌≡◌, ℕ, ◌+◌, ◌≤◌, List, length, arith}
use Rattle.std.proofs.lemmas.Bool.Decides.{nat_tests}
use Rattle.std.proofs.lemmas.List.Edits.{sets}
use Rattle.writing.specs.Writing.{put_text, end_of, Puts}

-- a text that stands
pub record Stands (out : List ℕ) (at : ℕ) (t : List ℕ) (r : ℕ) (out' : List ℕ) : Type 0 where
  pub end : r ≡ at + length t
  pub text : out' ≡ sets out at t

pub puts-stored : (out : List ℕ) (at : ℕ) (t : List ℕ) → at + length t ≤ length out → (r : ℕ) (out' : List ℕ) → Puts out at t r out' → Stands out at t r out'
unfolding put_text end_of
puts-stored out at t h r out' p = record { end = grind (arith, nat_tests, p.end); text = grind (arith, nat_tests, p.text) }
