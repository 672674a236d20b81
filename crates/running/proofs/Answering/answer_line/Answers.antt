use Rattle.std.proofs.Common.{rules}
use Rattle.rules.specs.Runs.{framed}
use Rattle.running.proofs.LineAnswers.{answered, line-is, line-knows}
use Rattle.running.proofs.Answering.answer_line.Goals as goal

pub returns-clause-answered : goal.returns-clause-answered
returns-clause-answered c =
    let is = line-is _ _ _ _ c.args.self.now _ _ _ c.handle_next-reply.ensures c.requires.1 in
    answered (framed c.args.line.now) _ _ _ (search rules) is c.requires.0 c.put_reply-self.ensures

pub returns-clause-known : goal.returns-clause-known
returns-clause-known c = search (rules, line-knows _ _ _ _ c.args.self.now _ _ _ c.handle_next-reply.ensures c.requires.1)
