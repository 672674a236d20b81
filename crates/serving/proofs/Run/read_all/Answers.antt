use Rattle.std.proofs.Common.{[], ◌-◌, ◌+◌, refl, rules, arith}
use Rattle.rules.proofs.Serving.{serves-none}
use Rattle.serving.specs.Serving.{joined, Full, most_reads}
use Rattle.serving.proofs.Steps.{few, reads_on, reads_end}
use Rattle.serving.proofs.Run.read_all.Goals as goal

pub loop-turn-init : goal.loop-turn-init
unfolding Full joined
loop-turn-init g c = record { same = search rules; read = record { pieces = []; full = tt; served = serves-none _; count = refl } }

pub pull-requires : goal.pull-requires
pull-requires g c =
    let i = c.loop-turn.invariant in
    (few _ _ i.read (omega arith), omega arith, omega (arith, i.same.room))

pub returns-in_err-held-clause-read : goal.returns-in_err-held-clause-read
returns-in_err-held-clause-read g c = rw c.from_residual.ensures (reads_end c.loop-turn.invariant.read c.in_err-held.ensures.pulled)

pub loop-turn-preserved : goal.loop-turn-preserved
loop-turn-preserved g c =
    let l = c.loop-turn in
    record { same = search rules; read = reads_on l.invariant.read c.in_ok-held.ensures.pulled (most_reads - (l._turn + 1)) (omega (arith, c.loop-turn-test.true)) }
