-- What is known of the checks 4 to 6 and of the work words, where it is true, gives what the call itself gives.
use mathlib.Core.Bool.{Bool, true, false, not, cond}
use mathlib.Core.List.{List}
use mathlib.Core.Path.{◌≡◌, refl, sym, ap, ◌∙◌, subst}
use Prim.Native.Nat.{ℕ, zero, suc, ◌≤◌}
use native.Mathlib.Decide.{dec_le}
use native.Mathlib.Omega.{arith}
use lib.Dec.{T, ltb}
use lib.ListN.{length}
use borrow.Author.Tests.{lt-ltb, ne_eqb}
use Rattle.rules.specs.Bringing.{answer}
use Rattle.rules.specs.Calls.{Call, open-board, accept, withdraw, print, order, first, board_checks, short_for, early, late, cleared, refused_late, withdrawn, act, step, start-order, marked}
use Rattle.rules.specs.Check.{passes}
use Rattle.rules.specs.Known.{Known, Knows, gate_of, few_of, tidied, act_tidied, past_gate, perform_known}
use Rattle.rules.specs.Layout.{word, size, work_words}
use Rattle.rules.proofs.Brings.{brings}
use Rattle.rules.proofs.CheckLaws.{passed-of}
use Rattle.rules.proofs.Checks as Checks
use Rattle.rules.proofs.Steps.{stops-early, stops-late, goes}
use Rattle.rules.proofs.WorkWords as WorkWords

-- 4 to 6 turn a call down unless the board passes and the work words are enough
pub gate-facts : (w work : List ℕ) → first (board_checks w work) ≡ 0 → T (passes w) × (work_words (size w) ≤ length work)
gate-facts w work e = go (short_for (word w 0) w) (passes w) refl (dec_le (work_words (word w 0)) (length work)) e
  where
    go : (a b : Bool) → passes w ≡ b → Dec (work_words (word w 0) ≤ length work) → ◌≡◌ {A = ℕ} (cond a 4 (cond (not b) 5 (cond (ltb (length work) (work_words (word w 0))) 6 0))) 0
        → T (passes w) × (work_words (word w 0) ≤ length work)
    go true b f d q = absurd (omega arith)
    go false false f d q = absurd (omega arith)
    go false true f (yes h) q = (subst (λ (t : Bool). T t) (sym f) tt, h)
    go false true f (no h) q = absurd (omega (arith, sym (ap {B = ℕ} (λ (t : Bool). cond t 6 0) (lt-ltb (length work) (work_words (word w 0)) (omega arith))) ∙ q))

module _ (k : Known) (w work : List ℕ) (know : Knows k w work) where
  -- the gate says what the early checks say
  pub gate-is : (q : Call) → gate_of k q w ≡ first (early q w work)
  gate-is (open-board n) = refl
  gate-is (accept j c row) = sym know.gate
  gate-is (withdraw j) = sym know.gate
  gate-is (start-order j) = sym know.gate
  gate-is print = sym know.gate

  -- what may be something else than 0 is all that has to be cleared
  clean : first (board_checks w work) ≡ 0 → tidied k.few work ≡ cleared (word w 0) work
  clean pass = WorkWords.tidied (word w 0) k.few work (gate-facts w work pass).1 know.few know.zeros

  -- past the gate: the late checks, then what the call does
  abbrev Past : Call → Type 0
  Past q = past_gate q w (tidied (few_of k q) work) ≡ step q w work

  -- with cleared work words a call does what `act` says of it
  cleared-act : (q : Call) → first (early q w work) ≡ 0 → first (late q w) ≡ 0 → act_tidied q w (tidied (few_of k q) work) ≡ act q w work
  unfolding act_tidied act
  cleared-act (open-board n) pass e = refl
  cleared-act (accept j c row) pass e =
      let z = (goes (accept j c row) w work pass e).0 in
      rw (clean pass) (brings w work (order j c row) (passed-of w (gate-facts w work pass).0) (Checks.ready j c row w work z) (gate-facts w work pass).1 (Checks.fresh j c row w work z))
  cleared-act (withdraw j) pass e = ap (answer 0 0 (withdrawn j w)) (clean pass)
  cleared-act (start-order j) pass e = ap (answer 0 0 (marked j w)) (clean pass)
  cleared-act print pass e = ap (answer 0 (word w 0) w) (clean pass)

  cleared-late : (q : Call) (code : ℕ) → first (early q w work) ≡ 0 → first (late q w) ≡ suc code → answer (suc code) 0 w (tidied (few_of k q) work) ≡ refused_late (suc code) w work
  cleared-late (open-board n) code pass e = absurd (omega arith)
  cleared-late (accept j c row) code pass e = ap (answer (suc code) 0 w) (clean pass)
  cleared-late (withdraw j) code pass e = ap (answer (suc code) 0 w) (clean pass)
  cleared-late (start-order j) code pass e = ap (answer (suc code) 0 w) (clean pass)
  cleared-late print code pass e = absurd (omega arith)

  pub past : (q : Call) → first (early q w work) ≡ 0 → Past q
  unfolding past_gate
  past q pass = go (first (late q w)) refl
    where
      go : (m : ℕ) → first (late q w) ≡ m → Past q
      go zero e = rw e (cleared-act q pass e ∙ sym (goes q w work pass e).1)
      go (suc code) e = rw (e, ne_eqb (suc code) 0 (λ z. omega arith)) (cleared-late q code pass e ∙ sym (stops-late q w work pass code e).1)

  -- (a) where k is true, the call is `step`
  pub performs : (q : Call) → perform_known k q w work ≡ step q w work
  unfolding perform_known
  performs q = go (first (early q w work)) refl
    where
      go : (m : ℕ) → first (early q w work) ≡ m → perform_known k q w work ≡ step q w work
      go zero e = rw (gate-is q ∙ e) (past q e)
      go (suc code) e = rw (gate-is q ∙ e, ne_eqb (suc code) 0 (λ z. omega arith)) (sym (stops-early q w work code e).1)
