use Rattle.std.proofs.Common.{rules}
use Rattle.writing.proofs.Texts.{columns-room, columns-more}
use Rattle.writing.proofs.text.Cursor.columns.Goals as goal

pub column-requires : goal.column-requires
column-requires c = search (rules, columns-room)

pub loop-v-preserved : goal.loop-v-preserved
loop-v-preserved c = search (rules, columns-more)
