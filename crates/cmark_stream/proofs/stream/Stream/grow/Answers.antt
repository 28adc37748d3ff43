use Rattle.std.proofs.Common.{◌∙◌, ◌++◌, ap, length}
use Rattle.cmark_stream.specs.Streams.{settled_of}
use Rattle.cmark_stream.proofs.StreamSteps.{grown}
use Rattle.cmark_stream.proofs.stream.Stream.grow.Goals as goal

pub returns : goal.returns
returns g c =
    grown g.E.EntityLookup.replacement c.args.self.now c.requires.good c.args.rest c.requires.rest _ (ap length c.as_str-2.ensures.value) c.push_str.new.self c.requires.cut
    (c.in_ok-push_str.ensures.bytes ∙ ap (λ b. settled_of c.args.self.now ++ b) c.as_str.ensures.value)
