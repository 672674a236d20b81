use Rattle.rules.specs.Known.{Knows}
use Rattle.checking.specs.Known.{known_of}
use Rattle.running.specs.BlockLoop.{Same, Turning, state_at}
use Rattle.running.proofs.run_block.Given as goal

-- `running::run_block` meets its contract. The invariant: what is left to do, the block of what is left of the input, joins to the whole; and what is known of board and work words is true.
abbrev pub invariant-loop-e : goal.invariant-loop-e
invariant-loop-e l =
    Turning l.input l.ended (state_at l.initial.answering) l.initial.answering.out.now l.answering l.at l.e-iterator × Same l.initial.answering l.answering × Knows (known_of l.known) l.answering.board.now l.answering.work.now
