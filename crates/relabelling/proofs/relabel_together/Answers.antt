use Rattle.std.proofs.Common.{List, ℕ, ◌-◌, refl, sym, ap, ◌∙◌, arith}
use Rattle.relabelling.specs.Relabelled.{relabelled_run}
use Rattle.relabelling.proofs.Walking.{run_settled, run_more, run_done}
use Rattle.relabelling.proofs.relabel_together.Goals as goal

pub returns-then-all_settled : goal.returns-then-all_settled
returns-then-all_settled c = sym (run_settled c.args.board.now c.args.at 8 (c.if-all_settled.ensures refl))

pub loop-k-preserved : goal.loop-k-preserved
loop-k-preserved c =
    let l = c.loop-k in
    ap (λ (b : List ℕ). relabelled_run b c.args.at (l.k - 1)) c.relabel_in.ensures ∙ run_more l.board c.args.at l.k (omega arith) ∙ l.invariant

pub returns : goal.returns
returns c = let l = c.loop-k in sym (run_done l.board c.args.at l.k (omega arith)) ∙ l.invariant
