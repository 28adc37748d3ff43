use Rattle.std.proofs.Common.{◌≡◌, ◌+◌, sym, ap, ◌∙◌, drop, get_or, ℕ, List, false, arith}
use Rattle.std.specs.List.{prefix_len}
use Rattle.std.proofs.lemmas.List.{get_or_default}
use Rattle.cmark_grammar.specs.Formulas.{no_braces, context_of}
use Rattle.cmark_span_scan.specs.Dollars.{AreListed, braces_at, closing, dollars_in, stands_before}
use Rattle.cmark_span_scan.specs.declared.dollars.Dollar.{Dollar}
use Rattle.cmark_span_scan.proofs.DollarLinks.{linked-closes, place_at}
use Rattle.cmark_span_scan.proofs.DollarSteps.{IsListed, listed-at, closing-following}
use Rattle.cmark_span_scan.proofs.dollars.Dollars.closer.Goals as goal

-- any dollar sign
abbrev none : Dollar
none = record { place = 0; context = 0; is_escaped = false }

pub returns-clause-value : goal.returns-clause-value
returns-clause-value c =
    let text : List ℕ = c.args.text.now in
    let items : List Dollar = dollars_in text in
    let table : AreListed text c.args.self.now = c.requires.listed.table in
    let at : ℕ = c.args.at in
    let index : ℕ = c.index_of-index.result in
    let context : ℕ = context_of (braces_at text at) in
    let index-is : index ≡ prefix_len (stands_before at) items = c.index_of-index.ensures.value ∙ ap (prefix_len (stands_before at)) table.dollars_are in
    let listed : IsListed items at context none = listed-at 0 false no_braces text at at none (let q : at ≡ 0 + at = omega arith in q) c.requires.dollar.within c.requires.dollar.is in
    let following : closing (at + 1) context items ≡ closing (at + 1) context (drop index items) = closing-following (at + 1) context at items (omega arith) ∙ ap (λ n. closing (at + 1) context (drop n items)) (sym index-is) in
    let entry : get_or c.args.self.now.successors.items index c.index.result.now ≡ get_or c.args.self.now.successors.items index 0 = get_or_default c.args.self.now.successors.items index c.index.result.now 0 (omega (arith, index-is, listed.within, table.links.whole)) in
    c.place.ensures
    ∙ ap (place_at c.index.result.now) table.dollars_are
    ∙ ap (λ n. place_at n items) c.index.ensures
    ∙ ap (λ n. place_at n items) entry
    ∙ sym (following ∙ linked-closes text c.args.self.now.successors.items at index context none table.links (omega (arith, index-is, listed.within)) (ap (λ n. (get_or items n none).place) index-is ∙ listed.place_is) (ap (λ n. (get_or items n none).context) index-is ∙ listed.context_is))
