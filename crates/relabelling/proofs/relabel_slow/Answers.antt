use Rattle.std.proofs.Common.{List, ℕ, ◌-◌, sym, ap, ◌∙◌, arith}
use Rattle.matching.specs.Lists.{slots}
use Rattle.rules.specs.Calls.{relabelled_all}
use Rattle.relabelling.proofs.Walking.{labels_next, labels-done}
use Rattle.relabelling.proofs.relabel_slow.Goals as goal

pub loop-s-preserved : goal.loop-s-preserved
loop-s-preserved c =
    let l = c.loop-s in
    ap (λ (b : List ℕ). relabelled_all b (slots (l.s - 1))) c.relabel.ensures ∙ labels_next l.board l.s (omega arith) ∙ l.invariant

pub returns : goal.returns
returns c = let l = c.loop-s in sym (labels-done l.board l.s (omega arith)) ∙ l.invariant
