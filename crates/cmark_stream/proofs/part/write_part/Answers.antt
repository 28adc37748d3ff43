use Rattle.std.proofs.Common.{string_bytes}
use Rattle.cmark_html.specs.Writer.{writing}
use Rattle.cmark_parser.specs.Filters.{filtered_by}
use Rattle.cmark_stream.proofs.PartSteps.{part-written}
use Rattle.cmark_stream.proofs.part.write_part.Goals as goal

pub returns : goal.returns
returns g c =
    part-written g.F.BrokenLinkCallback.answers g.E.EntityLookup.replacement (filtered_by c.args.filter.now) c.args.parser.now c.write_rest.new.parser (writing c.new-writer.result) (writing c.write_rest.new.writer) (string_bytes c.new-html.result) _
    c.new-writer.ensures c.new-html.ensures.bytes c.in_ok-write_rest.ensures.writes c.is_at_beginning-ends_at_beginning.ensures
