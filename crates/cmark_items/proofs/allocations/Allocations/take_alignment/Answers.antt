use Rattle.std.proofs.lemmas.List.{map-set}
use Rattle.std.proofs.Common.{ap, ◌∙◌, List, map, slice_set}
use Rattle.cmark_values.specs.declared.kind.Alignment.{Alignment}
use Rattle.cmark_items.specs.Tables.{Tables, without_alignments}
use Rattle.cmark_items.proofs.allocations.Allocations.take_alignment.Goals as goal

pub returns-clause-left : goal.returns-clause-left
returns-clause-left c =
    let inside = c.self.inside in
    let held = inside.alignments.items in
    let at_rows : List (List Alignment) → Tables = λ rows. record { texts = inside.texts.items; links = inside.links.items; alignments = rows; references = inside.refdefs; footnotes = inside.footdefs } in
    ap at_rows
    (map-set (λ row. row.items) held c.args.index.0 c.replace.new.dest
    ∙ ap (slice_set (map (λ row. row.items) held) c.args.index.0) (ap (λ row. row.items) c.replace.ensures.after ∙ c.new-none.ensures.items))
    ∙ ap (without_alignments c.args.index.0) c.self.view_is
