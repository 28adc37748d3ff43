use Rattle.std.specs.Prelude.{is_ok}
use Rattle.cmark_stream.proofs.StreamSteps.{html-kept, unchanged-by-fault}
use Rattle.cmark_stream.proofs.stream.Stream.push.Goals as goal

pub returns-then-ends_inside_character-clause-html : goal.returns-then-ends_inside_character-clause-html
returns-then-ends_inside_character-clause-html g c = (unchanged-by-fault g.E.EntityLookup.replacement c.args.self.now c.requires).keeps

pub returns-clause-html : goal.returns-clause-html
returns-clause-html g c = html-kept g.E.EntityLookup.replacement c.args.self.now (is_ok c.push_str.result) c.push_str.new.self c.args.chunk.now c.utf8.chunk c.push_str.ensures.bytes c.requires
