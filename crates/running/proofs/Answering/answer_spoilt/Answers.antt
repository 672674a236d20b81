use Rattle.std.proofs.Common.{ap, rules}
use Rattle.rules.specs.Runs.{spoilt, out_of}
use Rattle.running.proofs.LineAnswers.{answered}
use Rattle.running.proofs.Answering.answer_spoilt.Goals as goal

pub returns : goal.returns
returns c = let a = c.args.self.now in answered spoilt _ a _ (search rules) (ap out_of (c.unread_line-reply.ensures a.board.now a.work.now)) c.requires c.put_reply-self.ensures
