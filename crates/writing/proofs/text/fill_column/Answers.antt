use Rattle.std.proofs.Common.{arith}
use Rattle.writing.proofs.Texts.{fronted}
use Rattle.writing.proofs.text.fill_column.Goals as goal

pub returns-then-v-lt-BEYOND_FIVE_PLACES : goal.returns-then-v-lt-BEYOND_FIVE_PLACES
returns-then-v-lt-BEYOND_FIVE_PLACES c = fronted c.args.places.now c.fill.new.self c.fill_places.new.places c.saturating_sub-spaces.result c.args.v (omega arith) (omega arith) (c.fill.ensures.after (λ y e. e)) c.fill_places.ensures
