use Rattle.std.proofs.Common.{rules}
use Rattle.writing.proofs.Lines.{l-none, l-room, l-more, l-last}
use Rattle.writing.proofs.text.Cursor.slot_lines.Goals as goal

pub slot_line-requires : goal.slot_line-requires
slot_line-requires c = search (rules, l-room)

pub loop-s-preserved : goal.loop-s-preserved
loop-s-preserved c = search (rules, l-more)

pub returns : goal.returns
returns c = search (rules, l-none)

pub returns-2 : goal.returns-2
returns-2 c = search (rules, l-last)
