-- The numbers of refusals and answers.
use Rattle.std.proofs.Common.{◌≡◌, ℕ, ◌≤◌, Bool, true, false, cond, eqb, List, Result, Ok, Err, refl, arith}
use Rattle.rules.specs.Known.{shown_by}
use Rattle.answers.specs.Numbers.{code, shown_of, said}
use Rattle.answers.specs.declared.Rejection.{Rejection}
use Rattle.answers.specs.declared.Rejection.TheVariants.{Refused, Blocked, Undecided}
use Rattle.answers.specs.declared.Refusal.{Refusal}
use Rattle.answers.specs.declared.Refusal.TheVariants.{Malformed, TooLarge, BadSize, Short, Unsound, LittleWork, NumberZero, BadCount, OffBoard, NotRising, HeldAlready, NotHeld, Started, TotalDiffers, BadCode}

-- a refusal's number is never 0
pub code-some : (r : Refusal) → 1 ≤ code r
code-some Malformed = omega arith
code-some TooLarge = omega arith
code-some BadSize = omega arith
code-some Short = omega arith
code-some Unsound = omega arith
code-some LittleWork = omega arith
code-some NumberZero = omega arith
code-some BadCount = omega arith
code-some OffBoard = omega arith
code-some NotRising = omega arith
code-some HeldAlready = omega arith
code-some NotHeld = omega arith
code-some Started = omega arith
code-some TotalDiffers = omega arith
code-some BadCode = omega arith

-- a refusal shows nothing, whichever it is
shows-none : (b : Bool) → ◌≡◌ {A = ℕ} 0 (cond b 0 0)
shows-none true = refl
shows-none false = refl

pub shown-is : (a : Result ℕ Rejection) (w work : List ℕ) → shown_of a ≡ shown_by (said a w work)
shown-is (Ok k) w work = refl
shown-is (Err (Refused r)) w work = shows-none (eqb (code r) 12)
shown-is (Err (Blocked s)) w work = refl
shown-is (Err Undecided) w work = refl
