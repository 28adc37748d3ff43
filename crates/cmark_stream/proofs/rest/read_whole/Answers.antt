use Rattle.std.proofs.Common.{[], refl}
use Rattle.std.proofs.lemmas.Str.{IsCharBoundary-start}
use Rattle.std.specs.Prelude.{string_bytes}
use Rattle.cmark_parser.specs.Filters.{filtered_by}
use Rattle.cmark_values.specs.Shown.{shown_options}
use Rattle.cmark_stream.proofs.RestSteps.{rest-same, rest-whole}
use Rattle.cmark_stream.proofs.rest.read_whole.Goals as goal

pub returns : goal.returns
returns g c = λ from.
    let options = shown_options c.args.options in
    let lookup = g.E.EntityLookup.replacement c.args.entities.now in
    let filtered = filtered_by c.args.filter.now in
    let tail = string_bytes c.in_ok-tail.tail in
    rest-same c.args.limit options lookup filtered c.args.text.now from (string_bytes c.new.result) [] tail 0 0 c.new.ensures.bytes refl
    (rest-whole c.args.limit options lookup filtered c.args.text.now from tail (IsCharBoundary-start c.args.text.now c.utf8.text) c.in_ok-tail.ensures)
