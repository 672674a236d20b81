-- The labels of the held slots, from slot n down: slot by slot, and by where a slot's words begin, so many in a run.
use Rattle.std.proofs.Common.{◌≡◌, ℕ, zero, suc, ◌+◌, ◌-◌, ◌*◌, ◌≤◌, ◌<◌, Bool, true, false, cond, List, set, inl, inr, refl, sym, ap, ◌∙◌, eqb, arith}
use Rattle.std.proofs.Math.Seq.{set-get_or}
use Rattle.matching.specs.Lists.{slots}
use Rattle.rules.specs.Calls.{relabelled, relabelled_all}
use Rattle.rules.specs.Layout.{slot_words, word, base}
use Rattle.relabelling.specs.Relabelled.{Settled, relabelled_from, relabelled_run}

pub labels_next : (w : List ℕ) (s : ℕ) → 0 < s → relabelled_all (relabelled w s) (slots (s - 1)) ≡ relabelled_all w (slots s)
unfolding relabelled_all
labels_next w s h =
    let e : suc (s - 1) ≡ s = omega arith in
    ap (λ (j : ℕ). relabelled_all (relabelled w j) (slots (s - 1))) (sym e) ∙ ap (λ (j : ℕ). relabelled_all w (slots j)) e

pub labels-done : (w : List ℕ) (s : ℕ) → s ≤ 0 → relabelled_all w (slots s) ≡ w
unfolding relabelled_all
labels-done w s h = let e : s ≡ 0 = omega arith in ap (λ (j : ℕ). relabelled_all w (slots j)) e

pub stays : (w : List ℕ) (at : ℕ) → Settled (word w (at + 1)) (word w (at + 2)) → relabelled_from w at ≡ w
stays w at (inl e) = rw e
stays w at (inr e) = either (eqb (word w (at + 1)) 0)
  where
    same : set w (at + 2) 1 ≡ w
    same = ap (set w (at + 2)) (sym e) ∙ set-get_or w (at + 2) 0

    either : (b : Bool) → cond b w (set w (at + 2) 1) ≡ w
    either true = refl
    either false = same

-- one slot more
next : (w : List ℕ) (s at : ℕ) → at ≡ base (suc s) → relabelled_all (relabelled_from w at) (slots s) ≡ relabelled_all w (slots (suc s))
unfolding relabelled_all
next w s at e = ap (λ (i : ℕ). relabelled_all (relabelled_from w i) (slots s)) e

-- a run of n slots: what is left are the slots below
pub run_next : (w : List ℕ) (s at n : ℕ) → at ≡ base (suc s) → relabelled_all (relabelled_run w at n) (slots s) ≡ relabelled_all w (slots (s + n))
unfolding relabelled_run
run_next w s at zero e = let same : s ≡ s + 0 = omega arith in ap (λ (j : ℕ). relabelled_all w (slots j)) same
run_next w s at (suc n) e =
    let i = at + n * slot_words in
    let top : suc (s + n) ≡ s + suc n = omega arith in
    run_next (relabelled_from w i) s at n e ∙ next w (s + n) i (omega (arith, e)) ∙ ap (λ (j : ℕ). relabelled_all w (slots j)) top

-- the same of the runs of eight that are left, above the slots up to `rest`
pub runs_next : (w : List ℕ) (rest k at : ℕ) → 0 < k → at ≡ base (rest + 1) + (k - 1) * 8 * slot_words → relabelled_all (relabelled_run w at 8) (slots (rest + 8 * (k - 1))) ≡ relabelled_all w (slots (rest + 8 * k))
runs_next w rest k at h e =
    let s = rest + 8 * (k - 1) in
    let top : s + 8 ≡ rest + 8 * k = omega arith in
    run_next w s at 8 (omega (arith, e)) ∙ ap (λ (j : ℕ). relabelled_all w (slots j)) top

-- and where each of them is settled nothing changes
pub run_settled : (w : List ℕ) (at n : ℕ) → ((k : ℕ) → k < n → relabelled_from w (at + k * slot_words) ≡ w) → relabelled_run w at n ≡ w
unfolding relabelled_run
run_settled w at zero h = refl
run_settled w at (suc n) h =
    ap (λ (v : List ℕ). relabelled_run v at n) (h n (omega arith)) ∙ run_settled w at n (λ k lt. h k (omega arith))

-- the loop over such a run: k slots are left
pub run_more : (w : List ℕ) (at k : ℕ) → 0 < k → relabelled_run (relabelled_from w (at + (k - 1) * slot_words)) at (k - 1) ≡ relabelled_run w at k
unfolding relabelled_run
run_more w at k h = let e : suc (k - 1) ≡ k = omega arith in ap (λ (j : ℕ). relabelled_run w at j) e

pub run_done : (w : List ℕ) (at k : ℕ) → k ≤ 0 → relabelled_run w at k ≡ w
unfolding relabelled_run
run_done w at k h = let e : k ≡ 0 = omega arith in ap (λ (j : ℕ). relabelled_run w at j) e
