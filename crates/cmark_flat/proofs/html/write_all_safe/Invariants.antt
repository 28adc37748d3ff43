use Rattle.std.proofs.Common.{◌≡◌, ◌++◌, map, string_bytes}
use Rattle.cmark_flat.specs.Render.{bare}
use Rattle.cmark_grammar.specs.Html.{at_line_start, moved_all, pieces}
use Rattle.cmark_html.specs.Writer.{writing}
use Rattle.cmark_safe.specs.SafeEvents.{safe}
use Rattle.cmark_text.specs.Ranged.{shown_ranged}
use Rattle.cmark_flat.proofs.html.write_all_safe.Given as goal

abbrev pub invariant-loop-ranged : goal.invariant-loop-ranged
invariant-loop-ranged l = record {
  written : string_bytes l.out ≡ string_bytes l.initial.out ++ pieces (map (safe l.further) (bare (map shown_ranged l.yielded)));
  kept : writing l.writer ≡ moved_all at_line_start (map (safe l.further) (bare (map shown_ranged l.yielded)));
}
