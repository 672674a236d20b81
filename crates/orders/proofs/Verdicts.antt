-- What a caller checks after the verdict on an order or on its key.
use Rattle.std.proofs.Common.{◌≡◌, ℕ, List, [], ◌++◌, ◌≤◌, T, leb, arith}
use Rattle.std.proofs.lemmas.Bool.Decides.{nat_tests}
use Rattle.matching.specs.Lists.{all}
use Rattle.matching.specs.Orders.{Key}
use Rattle.rules.specs.Calls.{Check, first, key_checks, order_checks}
use Rattle.rules.specs.Layout.{most_choices}
use Rattle.rules.proofs.Checks.{first-append}
use Rattle.answers.specs.Numbers.{code}
use Rattle.answers.specs.declared.Refusal.{Refusal}
use Rattle.answers.proofs.NumberLaws.{code-some}

-- checks that turn something down do, whatever comes after; where none of them does, the others are asked
module _ (cs : List Check) (some : T (all (λ c. leb 1 c.0) cs)) (more : List Check) where
  after-faulty : (r : Refusal) → code r ≡ first cs → first (cs ++ more) ≡ code r
  after-faulty r e = grind (arith, nat_tests, first-append cs more some, code-some r)

  after-fine : 0 ≡ first cs → first (cs ++ more) ≡ first more
  after-fine e = grind (arith, nat_tests, first-append cs more some)

module _ (k : Key) where
  pub key-faulty : (r : Refusal) (more : List Check) → code r ≡ first (key_checks k []) → first (key_checks k more) ≡ code r
  key-faulty r more = after-faulty (key_checks k []) tt more r

  pub key-fine : 0 ≡ first (key_checks k []) → (more : List Check) → first (key_checks k more) ≡ first more
  key-fine e more = after-fine (key_checks k []) tt more e

module _ (n : ℕ) (k : Key) (c : ℕ) (row : List ℕ) where
  abbrev judged : ℕ
  judged = first (order_checks n k c row [])

  pub faulty : (r : Refusal) (more : List Check) → code r ≡ judged → first (order_checks n k c row more) ≡ code r
  faulty r more = after-faulty (order_checks n k c row []) tt more r

  module _ (e : 0 ≡ judged) where
    pub fine : (more : List Check) → first (order_checks n k c row more) ≡ first more
    fine more = after-fine (order_checks n k c row []) tt more e

    pub fine-named : 1 ≤ k.number
    fine-named = grind (arith, nat_tests)

    pub fine-count : (1 ≤ c) × (c ≤ most_choices)
    fine-count = grind (arith, nat_tests)
