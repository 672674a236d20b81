use Rattle.std.proofs.Common.{rules}
use Rattle.writing.proofs.Texts.{feed-room, line-stored}
use Rattle.writing.proofs.text.Cursor.blocked_line.Goals as goal

pub returns : goal.returns
returns c = search (rules, line-stored)

pub byte-requires-2 : goal.byte-requires-2
byte-requires-2 c = search (rules, feed-room)
