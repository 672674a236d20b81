use Rattle.std.proofs.Common.{List, ℕ, ◌+◌, ◌-◌, ◌*◌, ◌%◌, ap, ◌∙◌, arith}
use Rattle.matching.specs.Lists.{slots}
use Rattle.rules.specs.Calls.{relabelled_all}
use Rattle.rules.specs.Layout.{slot_words}
use Rattle.relabelling.proofs.Walking.{runs_next}
use Rattle.relabelling.proofs.relabel_all.Goals as goal

pub loop-k-preserved : goal.loop-k-preserved
loop-k-preserved c =
    let l = c.loop-k in
    let rest = c.args.n % 8 in
    ap (λ (b : List ℕ). relabelled_all b (slots (rest + 8 * (l.k - 1)))) c.relabel_together.ensures
    ∙ runs_next l.board rest l.k _ (omega arith) (ap (λ (r : ℕ). r + (l.k - 1) * 8 * slot_words) c.start_of-lowest.ensures) ∙ l.invariant
