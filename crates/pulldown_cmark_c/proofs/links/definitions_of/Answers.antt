use Rattle.std.proofs.Common.{◌≡◌, ◌++◌, All, None, Some, map, ap, subst, ◌∙◌}
use Rattle.cmark_flat.specs.Definitions.{flat_definitions}
use Rattle.cmark_grammar.specs.References.{references}
use Rattle.cmark_parser.specs.Parsing.{definitions}
use Rattle.cmark_references.specs.Definitions.{entry_of, shown_entry}
use Rattle.cmark_values.specs.Labelled.{link_key}
use Rattle.pulldown_cmark_c.proofs.ReferenceSteps.{all_first}
use Rattle.pulldown_cmark_c.proofs.links.definitions_of.Goals as goal

pub returns : goal.returns
returns g c =
    let p = c.in_ok-parser in
    let table = definitions p.parser in
    let some = p.ensures.reads.some (λ asked question. None) in
    let reading = p.ensures.reads.reads some.0 some.1 some.3 in
    let found = subst (λ t. All (λ e. entry_of t (link_key e.0) ≡ Some e) t) c.reference_definitions.ensures c.append_definitions.ensures.found in
    record {
      document = reading.document;
      definitions = map shown_entry table;
      derives = reading.derives;
      first = all_first table (references reading.document) (p.ensures.definitions reading.document reading.derives) found;
      output_is =
          c.in_ok-append_definitions.ensures.written
          ∙ ap (λ l. l ++ flat_definitions (map shown_entry c.reference_definitions.result.now)) c.new-output.ensures.items
          ∙ ap (λ t. flat_definitions (map shown_entry t)) c.reference_definitions.ensures;
    }
