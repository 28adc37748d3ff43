use Rattle.std.proofs.Common.{refl}
use Rattle.cmark_stream.proofs.StreamSteps.{begun}
use Rattle.cmark_stream.proofs.stream.Stream.empty.Goals as goal

pub returns : goal.returns
returns g c = record {
  text = c.new-text.ensures.bytes;
  begun = c.new-begun.ensures;
  settled = c.new-settled.ensures.bytes;
  tail = c.new-tail.ensures.bytes;
  options = refl;
  entities = refl;
  limit = refl;
  schemes = refl;
  read = refl;
  good = begun g.E.EntityLookup.replacement _ c.new-text.ensures.bytes c.new-begun.ensures c.new-settled.ensures.bytes refl refl;
}
