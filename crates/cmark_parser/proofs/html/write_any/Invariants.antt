use Rattle.std.specs.Prelude.{◌≤◌, string_bytes}
use Rattle.cmark_html.specs.Writer.{writing}
use Rattle.cmark_parser.specs.Parsing.{IsReady, events_left}
use Rattle.cmark_parser.specs.Rendering.{WritesSome, written}
use Rattle.cmark_parser.proofs.html.write_any.Given as goal

abbrev pub invariant-loop-out : goal.invariant-loop-out
invariant-loop-out g l =
    WritesSome g.F.BrokenLinkCallback.answers g.E.EntityLookup.replacement (g.T.Filter.filtered l.filter) l.initial.parser (written (writing l.initial.writer) (string_bytes l.initial.out)) l.parser (written (writing l.writer) (string_bytes l.out))
    × (events_left l.parser ≤ events_left l.initial.parser)
    × IsReady g.F.BrokenLinkCallback.ready l.parser

abbrev pub decreases-loop-out : goal.decreases-loop-out
decreases-loop-out g l = events_left l.parser
