use Rattle.std.proofs.Common.{rules, ap, ◌∙◌, sym, subst, IsSome}
use Rattle.std.specs.Option.{unwrap_or}
use Rattle.std.specs.BTreeMap.Entry.{map_with_value}
use Rattle.cmark_values.specs.Labelled.{link_key}
use Rattle.cmark_references.specs.Definitions.{entry_of, first_of, at_label}
use Rattle.cmark_references.proofs.FirstSteps.{first_put, first_found, found_in}
use Rattle.cmark_references.proofs.SpellingSteps.{at}
use Rattle.cmark_references.proofs.definitions.RefDefs.insert.Goals as goal

pub returns-clause-spelled : goal.returns-clause-spelled
returns-clause-spelled c folded =
    let e = c.in_ok-self-inside.field-0 in
    let w = c.or_insert.result.now in
    found_in (at link_key folded) _ (map_with_value e w).entries (search rules)
    ∙ first_put link_key c.args.label c.args.def w c.self.inside.defs (map_with_value e w)
    (c.or_insert.ensures.value ∙ ap (λ found. unwrap_or found c.args.def) c.in_ok-self-inside.ensures.value)
    (c.in_ok-self-inside.ensures.update.0 w)
    (c.in_ok-self-inside.ensures.update.1 w)
    (λ there. c.in_ok-self-inside.ensures.keys_stay (subst IsSome (sym c.in_ok-self-inside.ensures.value) there) w)
    folded
    ∙ ap (λ table. first_of (entry_of table folded) (at_label (link_key c.args.label) (c.args.label, c.args.def) folded)) c.self.view_is

pub returns-clause-first_stays : goal.returns-clause-first_stays
returns-clause-first_stays c folded = first_found link_key c.args.label c.args.def c.args.self.now _ folded (returns-clause-spelled c folded)
