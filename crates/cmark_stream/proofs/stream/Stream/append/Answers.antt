use Rattle.std.proofs.Common.{refl}
use Rattle.cmark_stream.proofs.StreamSteps.{bytes-appended, unchanged-by-fault}
use Rattle.cmark_stream.proofs.stream.Stream.append.Goals as goal

pub returns-in_default : goal.returns-in_default
returns-in_default g c = (c.in_default.ensures.not_utf8 refl, unchanged-by-fault g.E.EntityLookup.replacement c.args.self.now c.requires)

pub returns : goal.returns
returns g c = bytes-appended g.E.EntityLookup.replacement c.args.self.now c.args.bytes.now c.in-Some.text.now c.push_str.new.self c.in-Some.begun c.in-Some.ensures.parts c.in_ok-push_str.ensures.bytes c.requires
