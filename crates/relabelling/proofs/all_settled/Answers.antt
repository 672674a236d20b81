use Rattle.std.proofs.Common.{◌≡◌, ℕ, ◌+◌, ◌*◌, ◌∙◌, get_or, zero-add, rules, tests, refl, subst, arith}
use Rattle.std.specs.List.{range_with_len}
use Rattle.std.proofs.lemmas.Iterator.{cases_from_all, YieldsList-from_range}
use Rattle.std.proofs.lemmas.List.FromFn.{get_or-range_with_len}
use Rattle.rules.specs.Layout.{slot_words}
use Rattle.relabelling.specs.Relabelled.{relabelled_from}
use Rattle.relabelling.proofs.all_settled.Goals as goal

pub returns : goal.returns
returns c = λ e k h.
    let w = c.args.board.now in
    let Stays : ℕ → Type 0 = λ (j : ℕ). relabelled_from w (c.args.at + j * slot_words) ≡ w in
    let each = cases_from_all _ _ c.all.result Stays (λ (j : ℕ). Unit {0}) c.all.ensures.ran (YieldsList-from_range 0 8 8 refl refl) (λ x q j. search (rules, tests)) (λ x q j. tt) in
    let those = rw e at each in
    let at : get_or (range_with_len 0 8) k 0 ≡ k = get_or-range_with_len 0 8 k 0 h ∙ zero-add k in
    subst Stays at (those k 0 (omega arith) h)
