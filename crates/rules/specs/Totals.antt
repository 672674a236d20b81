-- P2: "Line Z gives the count of A lines and the sum of their order numbers, each modulo 65,536, since the last readable Z or the start; A lines refused by 1 or
-- 2 are left out. The tally holds both, and either answer to Z starts them again. Orders already placed stay placed." Said of the lines of a run, whatever they
-- are and whatever they are answered. Proof: `totals-hold` in proofs/Totals.antt.
use Rattle.std.specs.Prelude.{Bool, false, ◌&&◌, cond, List, [], ◌∷◌, ◌≡◌, ℕ, ◌%◌, T, eqb, length, get_or, sum}
use Rattle.matching.specs.Lists.{any}
use Rattle.rules.specs.InputLines.{letter_of, values, line_refusal, line_key}
use Rattle.rules.specs.Letters.{Letter, letter_a, letter_z, byte_of}
use Rattle.rules.specs.Runs.{State, Item, line, spoilt, handle_line, run, figures}

-- the line is readable, neither 1 nor 2 refuses it, and this is its letter
abbrev pub is_read : Letter → Item → Bool
is_read x (line l) = eqb (line_refusal l) 0 && eqb (byte_of (letter_of l)) (byte_of x)
is_read x spoilt = false

-- "since the last readable Z or the start": as long as there is a Z among the lines, the first of them does not count
abbrev pub since_z : List Item → List Item
since_z [] = []
since_z (i ∷ is) = cond (any (is_read letter_z) (i ∷ is)) (since_z is) (i ∷ is)

abbrev pub number_of : Item → ℕ
number_of (line l) = (line_key (values l)).number
number_of spoilt = 0

-- the order numbers of the A lines among them, one for each
abbrev pub a_numbers : List Item → List ℕ
a_numbers [] = []
a_numbers (i ∷ is) = cond (is_read letter_a i) (number_of i ∷ a_numbers is) (a_numbers is)

-- "the count of A lines and the sum of their order numbers, each modulo 65,536", after the lines `is`
abbrev pub count_after : List Item → ℕ
count_after is = length (a_numbers (since_z is)) % figures

abbrev pub sum_after : List Item → ℕ
sum_after is = sum (a_numbers (since_z is)) % figures

-- "The tally holds both"
pub record Totalled (s : State) (is : List Item) : Type 0 where
  pub orders : (run s is).state.tally.orders ≡ count_after is
  pub numbers : (run s is).state.tally.numbers ≡ sum_after is

-- 15 where a figure of Z's two columns differs from these, or 0
abbrev pub z_refusal : List Item → List ℕ → ℕ
z_refusal is vs = cond (eqb (get_or vs 0 0) (count_after is) && eqb (get_or vs 1 0) (sum_after is)) 0 15

-- A readable Z, l, after the lines `is`. That either answer starts the totals again is `Totalled` of these lines and l.
pub record Closes (s : State) (is : List Item) (l : List ℕ) : Type 0 where
  pub reply : (handle_line l (run s is).state).reply ≡ record { letter = byte_of letter_z; code = 0; number = get_or (values l) 0 0; refusal = z_refusal is (values l); count = 0 }
  pub board : (handle_line l (run s is).state).state.board ≡ (run s is).state.board
  pub work : (handle_line l (run s is).state).state.work ≡ (run s is).state.work

-- from a start with nothing in the control total
pub record ControlTotal (s : State) (is : List Item) : Type 0 where
  pub totalled : Totalled s is
  pub closes : (l : List ℕ) → T (is_read letter_z (line l)) → Closes s is l

unfoldable pub TotalsHold : Type 0
TotalsHold = (s : State) (is : List Item) → s.tally.orders ≡ 0 → s.tally.numbers ≡ 0 → ControlTotal s is
