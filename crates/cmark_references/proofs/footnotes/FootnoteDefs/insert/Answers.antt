use Rattle.std.proofs.Common.{rules, ap, ◌∙◌, sym, subst, IsSome}
use Rattle.std.specs.Option.{unwrap_or}
use Rattle.std.specs.BTreeMap.Entry.{map_with_value}
use Rattle.cmark_values.specs.Labelled.{footnote_key}
use Rattle.cmark_references.specs.Definitions.{first_of, at_label}
use Rattle.cmark_references.specs.Footnotes.{footnote}
use Rattle.cmark_references.proofs.FirstSteps.{first_put, first_found, found_in}
use Rattle.cmark_references.proofs.SpellingSteps.{at}
use Rattle.cmark_references.proofs.footnotes.FootnoteDefs.insert.Goals as goal

pub returns-clause-first_stays : goal.returns-clause-first_stays
returns-clause-first_stays c folded =
    let e = c.in_ok-self-inside.field-0 in
    let w = c.or_insert.result.now in
    let put = first_put footnote_key c.args.label c.args.def w c.self.inside.defs (map_with_value e w)
    (c.or_insert.ensures.value ∙ ap (λ found. unwrap_or found c.args.def) c.in_ok-self-inside.ensures.value)
    (c.in_ok-self-inside.ensures.update.0 w)
    (c.in_ok-self-inside.ensures.update.1 w)
    (λ there. c.in_ok-self-inside.ensures.keys_stay (subst IsSome (sym c.in_ok-self-inside.ensures.value) there) w)
    folded in
    first_found footnote_key c.args.label c.args.def c.self.inside.defs.entries _ folded (found_in (at footnote_key folded) _ (map_with_value e w).entries (search rules) ∙ put)
    ∙ ap (λ table. first_of (footnote table folded) (at_label (footnote_key c.args.label) c.args.def folded)) c.self.view_is
