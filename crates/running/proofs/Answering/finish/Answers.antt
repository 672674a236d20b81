use Rattle.std.proofs.Common.{refl, sym, arith}
use Rattle.std.proofs.lemmas.Bool.Decides.{nat_tests}
use Rattle.running.proofs.BlockTurns.{waits, rests, refuses}
use Rattle.running.proofs.Answering.finish.Goals as goal
use Rattle.running.proofs.Answering.finish.Goals.{then-left-eq0-via-then-left-eq0, then-left-eq0-via-else-left-eq0+then-not-has_room}

pub returns-then-not-ended-clause-finishes : goal.returns-then-not-ended-clause-finishes
returns-then-not-ended-clause-finishes c = λ _ _ _ h is. waits h c.if-not-ended.true (omega (arith, c.saturating_sub.ensures)) refl

pub returns-then-left-eq0-clause-finishes : goal.returns-then-left-eq0-clause-finishes
returns-then-left-eq0-clause-finishes c = λ _ _ _ h is. elim c.then-left-eq0.branch [
  | then-left-eq0-via-then-left-eq0 w ↦ rests h c.if-not-ended.false (λ _. omega (arith, w.if-left-eq0.true)) refl refl
  | then-left-eq0-via-else-left-eq0+then-not-has_room w ↦ rests h c.if-not-ended.false (λ room. grind (arith, nat_tests)) refl refl
]

pub returns-clause-finishes : goal.returns-clause-finishes
returns-clause-finishes c = λ _ _ _ h is.
    refuses h c.if-not-ended.false (grind (arith, nat_tests)) (λ q. omega (arith, c.if-left-eq0.false)) c.answer_spoilt.ensures (sym is) refl
