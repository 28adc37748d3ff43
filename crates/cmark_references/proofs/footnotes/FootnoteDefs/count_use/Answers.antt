use Rattle.std.proofs.Common.{rules, ◌≡◌, ap, ◌∙◌, subst, Some, IsSome, bytes_eq, if◌then◌else◌, option_map}
use Rattle.std.specs.BTreeMap.{get_by, UpdatesBy}
use Rattle.cmark_grammar.specs.Labels.{fold}
use Rattle.cmark_values.specs.Labelled.{footnote_key}
use Rattle.cmark_references.specs.Footnotes.{footnote, with_use}
use Rattle.cmark_references.proofs.DefinitionSteps.{rewritten, label_cmp}
use Rattle.cmark_references.proofs.footnotes.FootnoteDefs.count_use.Goals as goal

pub returns-in-Some-clause-counted : goal.returns-in-Some-clause-counted
returns-in-Some-clause-counted c folded =
    let old = c.self.inside.defs in
    let label = c.in_ok-label.label in
    let new = c.get_mut.follows.lender c.used.result in
    let there : get_by (label_cmp footnote_key label) old ≡ Some c.in-Some.def.now = search rules in
    let is_there : IsSome (get_by (label_cmp footnote_key label) old) = search rules in
    let updates : UpdatesBy (label_cmp footnote_key) (label_cmp footnote_key label) old new (Some (with_use c.in-Some.def.now)) =
    subst (λ v. UpdatesBy (label_cmp footnote_key) (label_cmp footnote_key label) old new (Some v)) c.used.ensures
    ((c.get_mut.follows.holds c.used.result).3 is_there) in
    subst (λ key. footnote new.entries folded ≡ (if bytes_eq folded key then option_map with_use (footnote old.entries folded) else footnote old.entries folded)) c.in_ok-label.ensures.key
    (rewritten footnote_key with_use label c.in-Some.def.now old new there updates folded)
    ∙ ap (λ table. if bytes_eq folded (fold c.args.label.now) then option_map with_use (footnote table folded) else footnote table folded) c.self.view_is
