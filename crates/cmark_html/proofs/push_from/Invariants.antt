use Rattle.std.proofs.Common.{◌≡◌, List, ◌++◌, string_bytes, map, Ok}
use Rattle.std.specs.Iterator.{IsFinite}
use Rattle.cmark_grammar.specs.Html.{at_line_start, pieces, moved_all}
use Rattle.cmark_text.specs.declared.event.Event.{Event}
use Rattle.cmark_text.specs.Shown.{shown}
use Rattle.cmark_html.specs.Writer.{writing}
use Rattle.cmark_html.proofs.push_from.Given as goal

abbrev pub invariant-loop-event : goal.invariant-loop-event
invariant-loop-event g l = record {
  can : g.I.Iterator.can_next l.iter;
  finite : IsFinite (g.I.Iterator.remaining l.iter);
  so_far : (events : List Event) × (l.yielded ≡ map Ok events) × (string_bytes l.out ≡ string_bytes l.initial.out ++ pieces (map shown events)) × (writing l.writer ≡ moved_all at_line_start (map shown events));
}
