use Rattle.std.proofs.Common.{rules}
use Rattle.handling.proofs.ReadLines.{turns_read, turns_unread}
use Rattle.handling.proofs.handle_next.Goals as goal

pub returns-in-Ok : goal.returns-in-Ok
returns-in-Ok c = search (rules, turns_read _ _ c.read_line.ensures _ c.in-Ok.is c.asked_line.ensures)

pub returns-in-Err : goal.returns-in-Err
returns-in-Err c = let a = c.args in search (rules, turns_unread _ _ c.read_line.ensures _ c.in-Err.is a.known.now a.board.now a.work.now c.unread_line.ensures)
