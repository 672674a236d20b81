use Rattle.std.proofs.Common.{rules}
use Rattle.writing.proofs.Lines.{order-room, order-stored}
use Rattle.writing.proofs.text.Cursor.order_line.Goals as goal

pub byte-requires-2 : goal.byte-requires-2
byte-requires-2 c = search (rules, order-room)

pub returns : goal.returns
returns c = search (rules, order-stored)
