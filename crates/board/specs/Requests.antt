-- A call as the code asks it, and what its performance answers and leaves.
use Rattle.std.specs.Prelude.{List, ◌≡◌, ℕ, Result}
use Rattle.rules.specs.Calls.{Call, open-board, accept, withdraw, start-order, print}
use Rattle.rules.specs.Known.{perform_known, known_past, past_gate, known_after}
use Rattle.answers.specs.Numbers.{said}
use Rattle.answers.specs.declared.Rejection.{Rejection}
use Rattle.checking.specs.declared.Known.{Known}
use Rattle.checking.specs.Known.{known_of}
use Rattle.words.specs.Carried.{key_of}
use Rattle.board.specs.declared.Request.{Request}
use Rattle.board.specs.declared.Request.TheVariants.{Open, Accept, Withdraw, Start, Print}

abbrev pub call_for : Request → Call
call_for (Open n) = open-board n
call_for (Accept o) = accept (key_of o.key) o.count o.row
call_for (Withdraw k) = withdraw (key_of k)
call_for (Start k) = start-order (key_of k)
call_for Print = print

-- The call q, of whatever words, by what is known; and what is known after it.
pub record Performs (q : Request) (k : Known) (w work : List ℕ) (r : Result ℕ Rejection) (k' : Known) (w' work' : List ℕ) : Type 0 where
  pub answer : said r w' work' ≡ perform_known (known_of k) (call_for q) w work
  pub known : known_of k' ≡ known_after (known_of k) (call_for q) w work

-- Internal: an accepted P, whatever the work words
abbrev pub Counts : List ℕ → Result ℕ Rejection → Type 0
Counts w r = (work : List ℕ) → said r w work ≡ past_gate print w work

-- Internal: what is known past the gate, whatever board and work words the answer a leaves
abbrev pub LearnsPast : Known → Request → ℕ → Result ℕ Rejection → ℕ → Known → Type 0
LearnsPast k q n a len r = (w work : List ℕ) → known_of r ≡ known_past (known_of k) (call_for q) n (said a w work) len
