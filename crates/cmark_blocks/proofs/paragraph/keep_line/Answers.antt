use Rattle.std.proofs.Common.{is_ok}
use Rattle.cmark_blocks.proofs.SetextSteps.{read-pushed}
use Rattle.cmark_blocks.proofs.paragraph.keep_line.Goals as goal

pub returns-clause-read : goal.returns-clause-read
returns-clause-read c text h l = read-pushed text c.args.lines.now.items c.push.new.self.items c.args.last (is_ok c.push.result) c.push.ensures.items h l
