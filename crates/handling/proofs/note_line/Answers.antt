use Rattle.std.proofs.Common.{[], ◌∷◌, ap, ◌∙◌}
use Rattle.rules.specs.Letters.{letter_a}
use Rattle.rules.specs.Runs.{noted}
use Rattle.answers.specs.Values.{counts_of}
use Rattle.words.specs.declared.Key.{Key}
use Rattle.handling.proofs.note_line.Goals as goal

pub returns-in-Accept : goal.returns-in-Accept
returns-in-Accept c =
    let t = counts_of c.args.tally.now in
    rw c.in-Accept.is (c.note_order.ensures c.key.result.code ∙ ap (λ (k : Key). noted letter_a (k.code ∷ k.number ∷ []) t) c.key.ensures)
