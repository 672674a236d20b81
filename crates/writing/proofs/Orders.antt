-- The order writer's checks, one after the other, and what it answers.
use Rattle.std.proofs.Common.{◌≡◌, ℕ, ◌≤◌, ◌<◌, ltb, List, [], ◌∷◌, length, take, arith}
use Rattle.std.proofs.lemmas.Bool.Decides.{nat_tests}
use Rattle.std.proofs.lemmas.List.Edits.{sets}
use Rattle.std.proofs.Math.Seq.{length-take-le}
use Rattle.matching.specs.Orders.{Key}
use Rattle.rules.specs.Layout.{most_slots, most_choices}
use Rattle.rules.specs.Calls.{first, order_checks}
use Rattle.rules.specs.InputLines.{column_bytes, order_line, order_bytes, written}
use Rattle.rules.specs.Letters.{letter_a, byte_of}
use Rattle.rules.proofs.TextLaws.{length-text_line}
use Rattle.rules.proofs.WordLaws.{row8-same}
use Rattle.answers.specs.Numbers.{code}
use Rattle.answers.specs.declared.Refusal.{Refusal}
use Rattle.answers.proofs.NumberLaws.{code-some}
use Rattle.orders.proofs.Verdicts.{faulty, fine, fine-count}

module _ (customer number c : ℕ) (row buffer : List ℕ) (eight : length row ≡ most_choices) where
  abbrev k : Key
  k = record { code = customer; number = number }

  -- ---- the checks 16 and 7 to 10, then the room

  abbrev judged : ℕ
  judged = first (order_checks most_slots k c row [])

  pub refused : (why : Refusal) → code why ≡ judged → written k c row buffer ≡ record { refusal = code why; count = 0; buffer = buffer }
  unfolding written
  refused why e = grind (arith, nat_tests, faulty most_slots k c row why ((4, ltb (length buffer) (order_bytes c)) ∷ []) e, code-some why)

  module _ (e : 0 ≡ judged) where
    pub short : length buffer < order_bytes c → written k c row buffer ≡ record { refusal = 4; count = 0; buffer = buffer }
    unfolding written
    short h = grind (arith, nat_tests, fine most_slots k c row e ((4, ltb (length buffer) (order_bytes c)) ∷ []))

    pub length-line : length (order_line k (take c row)) ≡ order_bytes c
    length-line =
        let few = (fine-count most_slots k c row e).1 in
        omega (arith, length-text_line column_bytes (byte_of letter_a) (k.code ∷ k.number ∷ take c row), length-take-le c row (omega arith))

    pub wrote : order_bytes c ≤ length buffer → written k c row buffer ≡ record { refusal = 0; count = order_bytes c; buffer = sets buffer 0 (order_line k (take c row)) }
    unfolding written
    wrote h = grind (arith, nat_tests, fine most_slots k c row e ((4, ltb (length buffer) (order_bytes c)) ∷ []), length-line, row8-same row eight)

pub ruleset orders = (refused, short, length-line, wrote)
