use Rattle.slotboard.proofs.run.Goals as goal

pub returns : goal.returns
returns g c =
    let asked = c.requires in
    rw (asked.0, asked.1) at (c.serve.ensures.large asked.2 asked.3)
