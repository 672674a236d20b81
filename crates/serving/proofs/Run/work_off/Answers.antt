use Rattle.std.proofs.Common.{[], ◌++◌, take, refl, append_assoc, rules, arith}
use Rattle.std.proofs.lemmas.List.{take-append-drop, take_rest}
use Rattle.serving.proofs.Steps.{resumes, stops, rest_place}
use Rattle.serving.proofs.Run.work_off.Goals as goal

pub rooms-init : goal.rooms-init
rooms-init g c = record { same = search rules; whole = ([], refl); served = λ _ _ f. f }

pub returns-then-used-eq0-clause-served : goal.returns-then-used-eq0-clause-served
returns-then-used-eq0-clause-served g c =
    let i = c.rooms.invariant in
    rw (rest_place c.args.input.now c.rooms.rest.now _ i.whole.1) (i.served _ _ (stops c.run_block-block.ensures (omega arith) (omega (arith, i.same.room))))

pub rooms-preserved : goal.rooms-preserved
rooms-preserved g c =
    let i = c.rooms.invariant in
    record {
      same = search rules;
      whole = (i.whole.0 ++ take c.run_block-block.result.consumed c.rooms.rest.now, rw (take_rest, append_assoc, take-append-drop) i.whole.1);
      served = λ _ _ f. i.served _ _ (resumes c.run_block-block.ensures f);
    }
