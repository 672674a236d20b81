use Rattle.std.proofs.Common.{rules}
use Rattle.writing.proofs.Lines.{k-none, k-room, k-more}
use Rattle.writing.proofs.text.Cursor.blocked_lines.Goals as goal

pub blocked_line-requires : goal.blocked_line-requires
blocked_line-requires c =
    let s = c.in-Some.ensures.steps in
    k-room _ _ _ _ c.loop-line.invariant.3 _ c.loop-line.invariant.2 _ _ s.1.0 s.1.1 s.1.2 c.requires

pub loop-line-preserved : goal.loop-line-preserved
loop-line-preserved c = search (rules, k-more)

pub returns : goal.returns
returns c = k-none _ _ _ _ c.loop-line.invariant.3 c.in-None.ensures.steps.1.0
