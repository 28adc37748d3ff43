use Rattle.std.proofs.Common.{◌≡◌, ℕ, List, ◌||◌, sym, ap, ◌∙◌}
use Rattle.cmark_grammar.specs.Options.{Options}
use Rattle.cmark_search.specs.Sets.{in_rows}
use Rattle.cmark_values.specs.Shown.{shown_options}
use Rattle.cmark_inline.specs.declared.special.TheConstants.{ALWAYS, CARET, EQUALS, FORMULAS, PIPE, PUNCTUATION, TILDE}
use Rattle.cmark_inline.proofs.SpecialRows.{all_layers, layer, no_row}
use Rattle.cmark_inline.proofs.special.special_bytes.Goals.{then-contains, else-contains}
use Rattle.cmark_inline.proofs.special.special_bytes.Goals as goal

pub returns : goal.returns
returns c = λ b small.
    let o : Options = shown_options c.args.options in
    let tildes : c.if-contains.tildes ≡ (o.strikethrough || o.subscript) =
    elim c.if-contains.branch [
      | then-contains w ↦ w.tildes-is ∙ w.if-contains.true ∙ sym (ap (λ t. t || o.subscript) (sym (c.contains-5.ensures tt) ∙ w.if-contains.true))
      | else-contains w ↦ w.tildes-is ∙ w.contains-tildes.ensures tt ∙ sym (ap (λ t. t || o.subscript) (sym (c.contains-5.ensures tt) ∙ w.if-contains.false))
    ] in
    let none = ap (λ (rows : List ℕ). in_rows rows b) c.of_rows.ensures ∙ no_row b small in
    let smart = layer c.with_rows-smart.result c.of_rows.result PUNCTUATION b _ o.smart_punctuation _ (c.with_rows-smart.ensures b) (c.contains.ensures tt) none in
    let math = layer c.with_rows-math.result c.with_rows-smart.result FORMULAS b _ o.math _ (c.with_rows-math.ensures b) (c.contains-2.ensures tt) smart in
    let highlight = layer c.with_rows-highlight.result c.with_rows-math.result EQUALS b _ o.highlight _ (c.with_rows-highlight.ensures b) (c.contains-3.ensures tt) math in
    let superscript = layer c.with_rows-superscript.result c.with_rows-highlight.result CARET b _ o.superscript _ (c.with_rows-superscript.ensures b) (c.contains-4.ensures tt) highlight in
    let struck = layer c.with_rows-struck.result c.with_rows-superscript.result TILDE b _ (o.strikethrough || o.subscript) _ (c.with_rows-struck.ensures b) tildes superscript in
    let tables = layer c.with_rows-tables.result c.with_rows-struck.result PIPE b _ o.tables _ (c.with_rows-tables.ensures b) (c.contains-6.ensures tt) struck in
    c.union.ensures.has b
    ∙ ap (λ (rows : List ℕ). in_rows rows b || in_rows c.with_rows-tables.result b) c.of_rows-2.ensures
    ∙ ap (λ t. in_rows ALWAYS b || t) tables
    ∙ all_layers o b small
