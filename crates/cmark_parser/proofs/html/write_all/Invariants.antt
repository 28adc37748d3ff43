use Rattle.std.specs.Prelude.{◌≡◌, None, string_bytes}
use Rattle.cmark_html.specs.Writer.{writing}
use Rattle.cmark_parser.specs.Parsing.{IsReady, events_left}
use Rattle.cmark_parser.specs.Rendering.{WritesSome, written}
use Rattle.cmark_parser.proofs.html.write_all.Given as goal

abbrev pub invariant-loop-step : goal.invariant-loop-step
invariant-loop-step g l =
    WritesSome g.F.BrokenLinkCallback.answers g.E.EntityLookup.replacement (g.T.Filter.filtered l.filter) l.initial.parser (written (writing l.initial.writer) (string_bytes l.initial.out)) l.parser (written (writing l.writer) (string_bytes l.out)) × ((writing l.writer).image ≡ None)
    × IsReady g.F.BrokenLinkCallback.ready l.parser

abbrev pub decreases-loop-step : goal.decreases-loop-step
decreases-loop-step g l = events_left l.parser
