use Rattle.rules.specs.Layout.{slot_words}
use Rattle.words.proofs.Copies.{copied}
use Rattle.words.proofs.record_short.Goals as goal

pub returns : goal.returns
returns c = copied c.args.board.now _ c.copy_from_slice.new.self c.args.at c.min-few.result slot_words c.words_from-there.ensures c.min-few.ensures c.copy_from_slice.ensures.after
