use Rattle.std.proofs.Common.{◌∙◌, ap, ℕ}
use Rattle.rules.specs.Check.{zeros}
use Rattle.rules.specs.Layout.{slot_words, reads}
use Rattle.checking.proofs.Chunks.{zeros_there}
use Rattle.checking.proofs.slots.is_blank.Goals as goal

pub returns : goal.returns
returns c = c.all_zero.ensures ∙ zeros_there c.args.board.now _ c.start_of.result c.min.result slot_words c.words_from-from.ensures c.min.ensures ∙ ap (λ (i : ℕ). zeros (reads c.args.board.now i slot_words)) c.start_of.ensures
