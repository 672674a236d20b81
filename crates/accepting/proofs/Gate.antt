-- The late checks of an order, and what comes after them.
use Rattle.std.proofs.Common.{◌≡◌, ℕ, zero, suc, ◌≤◌, true, cond, Option, Some, None, List, [], ◌∷◌, ◌++◌, take, replicate, refl, sym, ap, ◌∙◌, arith}
use Rattle.std.specs.Option.{is_some}
use Rattle.std.proofs.Math.Dec.{T}
use Rattle.std.proofs.lemmas.Bool.Decides.{nat_tests}
use Rattle.matching.specs.Orders.{Key}
use Rattle.matching.proofs.Counting.{and_r}
use Rattle.rules.specs.Bringing.{answer, bring_in}
use Rattle.rules.specs.Calls.{Call, first, order, on_board, order_checks, is_held, late, accept}
use Rattle.rules.specs.Known.{act_tidied, past_gate}
use Rattle.rules.specs.Layout.{most_choices, size}
use Rattle.rules.proofs.Finding.{held_found}
use Rattle.rules.proofs.Bools.{of-true}
use Rattle.orders.proofs.Verdicts.{faulty, fine}
use Rattle.answers.proofs.NumberLaws.{code-some}
use Rattle.answers.specs.Numbers.{code}
use Rattle.answers.specs.declared.Refusal.{Refusal}
use Rattle.checking.specs.Found.{found}
use Rattle.checking.proofs.Looking.{said-found}

module _ (k : Key) (c : ℕ) (row w : List ℕ) (n : ℕ) (size-is : n ≡ size w) where
  abbrev checks-of : ℕ → ℕ
  checks-of m = first (order_checks m k c row ((11, is_held k w) ∷ []))

  -- 16 or 7 to 10 turn the order down
  pub early : (r : Refusal) → code r ≡ first (order_checks n k c row []) → code r ≡ first (late (accept k c row) w)
  early r e = sym (faulty n k c row r ((11, is_held k w) ∷ []) e) ∙ ap checks-of size-is

  -- none of them does: so 11 decides, by what the look finds
  module _ (e : 0 ≡ first (order_checks n k c row [])) where
    decides : (r : Option ℕ) → r ≡ found w n k → first (late (accept k c row) w) ≡ cond (is_some r) 11 0
    decides r f =
        sym (ap checks-of size-is) ∙ fine n k c row e ((11, is_held k w) ∷ [])
        ∙ ap (λ b. cond b 11 0) (held_found k w ∙ sym (said-found w (size w) k) ∙ ap (λ (m : ℕ). is_some (found w m k)) (sym size-is) ∙ ap is_some (sym f))

    pub last-held : (r : Option ℕ) (s : ℕ) → r ≡ found w n k → r ≡ Some s → 11 ≡ first (late (accept k c row) w)
    last-held r s f q = sym (decides r f ∙ ap (λ (o : Option ℕ). cond (is_some o) 11 0) q)

    pub last_new : (r : Option ℕ) → r ≡ found w n k → r ≡ None → 0 ≡ first (late (accept k c row) w)
    last_new r f q = sym (decides r f ∙ ap (λ (o : Option ℕ). cond (is_some o) 11 0) q)

-- turned down, by the first check that fails
pub turned : (q : Call) (w t : List ℕ) → 1 ≤ first (late q w) → past_gate q w t ≡ answer (first (late q w)) 0 w t
unfolding past_gate
turned q w t some = grind (arith, nat_tests)

-- A row that ends before the count is filled with zeros, and those are turned down: so the list that is judged is the row's own.
own : (n c m more : ℕ) (row : List ℕ) → c ≤ m → c ≤ more → T (on_board n (take c (take m (row ++ replicate more 0)))) → take c (take m (row ++ replicate more 0)) ≡ take c row
own n zero m more row h k o = refl
own n (suc c) zero more row h k o = absurd (omega arith)
own n (suc c) (suc m) more (x ∷ row) h k o = ap (λ (l : List ℕ). x ∷ l) (own n c m more row (omega arith) (omega arith) (and_r _ _ o))
own n (suc c) (suc m) zero [] h k o = absurd (omega arith)
own n (suc c) (suc m) (suc more) [] h k o = absurd o

-- no check turns it down: it comes in, not started
pub goes : (k : Key) (c : ℕ) (row w t : List ℕ) → 0 ≡ first (late (accept k c row) w) → past_gate (accept k c row) w t ≡ bring_in w t (record { key = k; list = take c row; fixed = 0 })
unfolding past_gate act_tidied
goes k c row w t e =
    let few : c ≤ most_choices = grind (arith, nat_tests) in
    let on : on_board (size w) (order k c row).list ≡ true = grind (arith, nat_tests) in
    rw (sym e) (ap (λ (l : List ℕ). bring_in w t (record { key = k; list = l; fixed = 0 })) (own (size w) c most_choices most_choices row few few (of-true _ on)))

-- what comes after the gate
pub ruleset taking = (turned, goes, code-some)
