-- The paper's numbers: "For every case of an enum answer, a definition gives this paper's number and values." The one table of them.
use Rattle.std.specs.Prelude.{List, ◌≡◌, ℕ, Result, Ok, Err}
use Rattle.rules.specs.Calls as Calls
use Rattle.answers.specs.declared.Rejection.{Rejection}
use Rattle.answers.specs.declared.Rejection.TheVariants.{Refused, Blocked, Undecided}
use Rattle.answers.specs.declared.Refusal.{Refusal}
use Rattle.answers.specs.declared.Refusal.TheVariants.{Malformed, TooLarge, BadSize, Short, Unsound, LittleWork, NumberZero, BadCount, OffBoard, NotRising, HeldAlready, NotHeld, Started, TotalDiffers, BadCode}

-- the table "Turned-down lines"; 12 is `Blocked`
abbrev pub code : Refusal → ℕ
code Malformed = 1
code TooLarge = 2
code BadSize = 3
code Short = 4
code Unsound = 5
code LittleWork = 6
code NumberZero = 7
code BadCount = 8
code OffBoard = 9
code NotRising = 10
code HeldAlready = 11
code NotHeld = 13
code Started = 14
code TotalDiffers = 15
code BadCode = 16

-- what a list of checks says: the number of the one that turns a call down, or 0
abbrev pub gate_number : Result Unit Refusal → ℕ
gate_number (Ok passed) = 0
gate_number (Err r) = code r

-- "A refusal returns its number"; an accepted call returns 0
abbrev pub refusal_of : Result ℕ Rejection → ℕ
refusal_of (Ok k) = 0
refusal_of (Err (Refused r)) = code r
refusal_of (Err (Blocked s)) = 12
refusal_of (Err Undecided) = Calls.undecided

-- "and a count: 12 counts the blocked slots, the others give 0"
abbrev pub count_of : Result ℕ Rejection → ℕ
count_of (Ok k) = k
count_of (Err (Refused r)) = 0
count_of (Err (Blocked s)) = s
count_of (Err Undecided) = 0

-- so many work words it shows: "at 12 they begin with the blocked slots". It is `shown_by` of what is said (`NumberLaws.shown-is`).
abbrev pub shown_of : Result ℕ Rejection → ℕ
shown_of (Ok k) = 0
shown_of (Err (Refused r)) = 0
shown_of (Err (Blocked s)) = s
shown_of (Err Undecided) = 0

-- an answer, with the board and the work words that the call leaves
abbrev pub said : Result ℕ Rejection → List ℕ → List ℕ → Calls.Answer
said r board work = record { refusal = refusal_of r; count = count_of r; board = board; work = work }

-- Opening is lent no work words: whatever they are, "on S .. unaltered".
abbrev pub Opens : ℕ → List ℕ → List ℕ → Result ℕ Rejection → Type 0
Opens n before after r = (work : List ℕ) → said r after work ≡ Calls.step (Calls.open-board n) before work
