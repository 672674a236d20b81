use Rattle.std.proofs.Common.{◌∙◌, sym, rules}
use Rattle.rules.proofs.Finding.{look_found}
use Rattle.words.specs.Carried.{key_of}
use Rattle.checking.proofs.Looking.{said-found}
use Rattle.checking.proofs.checks.stands_within.Goals as goal

pub returns : goal.returns
returns c =
    let key = key_of c.args.key in
    let w = c.args.board.now in
    search rules ∙ said-found w c.args.k key ∙ sym (look_found key w c.args.k)
