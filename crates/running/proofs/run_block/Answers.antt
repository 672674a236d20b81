use Rattle.std.proofs.Common.{refl, arith, rules}
use Rattle.std.proofs.lemmas.Bool.Decides.{nat_tests}
use Rattle.running.proofs.BlockTurns.{no-feed, start, turn, no-room-left, handed}
use Rattle.running.proofs.run_block.Goals as goal

pub returns-then-is_none : goal.returns-then-is_none
returns-then-is_none c =
    let none = no-feed c.args.input.now _ c.line_end.ensures c.if-is_none.ensures in
    handed c.finish.new.self (c.finish.ensures.finishes _ _ _ (start none refl) refl) (search rules)

pub loop-e-init : goal.loop-e-init
loop-e-init c = (start (search rules) refl, search rules, c.known-known.ensures)

pub returns-then-not-has_room : goal.returns-then-not-has_room
returns-then-not-has_room c =
    handed c.loop-e.answering (no-room-left (rw c.in-Some.ensures.steps at c.loop-e.invariant.0) (grind (arith, nat_tests)) refl refl) (search rules)

pub loop-e-preserved : goal.loop-e-preserved
loop-e-preserved c =
    (turn (rw c.in-Some.ensures.steps at c.loop-e.invariant.0) (grind (arith, nat_tests)) c.answer_line.ensures.answered, search rules, c.answer_line.ensures.known)

pub returns : goal.returns
returns c =
    handed c.finish-2.new.self (c.finish-2.ensures.finishes _ _ _ (rw c.in-None.ensures.steps.0 at c.loop-e.invariant.0) refl) (search rules)
