use Rattle.std.specs.Prelude.{⊤}
use Rattle.std.proofs.Common.{◌≡◌, ℕ, List, string_bytes, map, Ok}
use Rattle.std.specs.declared.ops.Range.{Range}
use Rattle.cmark_text.specs.declared.event.Event.{Event}
use Rattle.cmark_json.specs.Lines.{lines}
use Rattle.cmark_parser.specs.Parsing.{CanGo, IsReady, shown_item}
use Rattle.mdevents_run.proofs.lines.lines_of.Given as goal

abbrev pub invariant-loop-item : goal.invariant-loop-item
invariant-loop-item g l = record {
  can : CanGo g.E.EntityLookup.replacement l.iter.parser × IsReady (λ _. ⊤) l.iter.parser;
  so_far : (items : List (Event × Range ℕ)) × (l.yielded ≡ map Ok items) × (string_bytes l.output ≡ lines (map shown_item items));
}
