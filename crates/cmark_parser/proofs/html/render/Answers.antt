use Rattle.std.proofs.Common.{string_bytes}
use Rattle.std.proofs.lemmas.Result.{on_ok_weaker}
use Rattle.cmark_html.specs.Writer.{writing}
use Rattle.cmark_parser.specs.Rendering.{written}
use Rattle.cmark_parser.proofs.RenderSteps.{html-of-rest}
use Rattle.cmark_parser.proofs.html.render.Goals as goal

pub returns : goal.returns
returns g c =
    on_ok_weaker c.write_all.result
    (html-of-rest g.F.BrokenLinkCallback.answers g.E.EntityLookup.replacement (g.T.Filter.filtered c.args.filter.now) c.args.parser.now c.write_all.new.parser (writing c.new-writer.result) (string_bytes c.args.out.now)
    (written (writing c.write_all.new.writer) (string_bytes c.write_all.new.out)) c.new-writer.ensures) c.write_all.ensures
