use Rattle.std.proofs.Common.{◌≡◌, List, ◌++◌, ◌∷◌, [], rules, map, string_bytes, sym, ap, ◌∙◌}
use Rattle.std.proofs.lemmas.List.{map-id, map_push}
use Rattle.std.proofs.lemmas.Result.{on_ok_weaker}
use Rattle.std.proofs.lemmas.Iterator.Adapters.{YieldsList-from_vec}
use Rattle.std.proofs.lemmas.Iterator.Consumers.{YieldsList-end}
use Rattle.cmark_flat.specs.Render.{bare}
use Rattle.cmark_grammar.specs.Event.{Event}
use Rattle.cmark_grammar.specs.Html.{at_line_start, html, moved_all, pieces}
use Rattle.cmark_html.specs.Writer.{writing}
use Rattle.cmark_html.proofs.HtmlSteps.{kept_on, written_end, written_on}
use Rattle.cmark_text.specs.declared.ranged.Ranged.{Ranged}
use Rattle.cmark_text.specs.Ranged.{shown_ranged}
use Rattle.cmark_text.specs.Shown.{shown}
use Rattle.cmark_flat.proofs.html.write_all.Goals as goal

one_more : (rs : List Ranged) (r : Ranged) → bare (map shown_ranged (rs ++ r ∷ [])) ≡ bare (map shown_ranged rs) ++ shown r.event ∷ []
one_more rs r = ap bare (map_push shown_ranged rs r) ∙ map_push (λ x. x.event) (map shown_ranged rs) (shown_ranged r)

pub loop-ranged-preserved : goal.loop-ranged-preserved
loop-ranged-preserved c =
    let i = c.loop-ranged.invariant in
    let rs = c.loop-ranged.yielded in
    let r = c.in-Some.ranged in
    let es : List Event = bare (map shown_ranged rs) in
    let w = writing c.loop-ranged.writer in
    record {
      written = written_on w es (shown r.event) i.kept (string_bytes c.args.out.now) (string_bytes c.loop-ranged.out) (string_bytes c.write_event.new.out) i.written c.in_ok-write_event.ensures.writes.ok
          ∙ ap (λ l. string_bytes c.args.out.now ++ pieces l) (sym (one_more rs r));
      kept = kept_on w es (shown r.event) i.kept (writing c.write_event.new.writer) c.in_ok-write_event.ensures.state ∙ ap (λ l. moved_all at_line_start l) (sym (one_more rs r));
    }

pub returns : goal.returns
returns c =
    let i = c.loop-ranged.invariant in
    let end = YieldsList-end (YieldsList-from_vec {s = c.into_iter-ranged-iterator.result} c.args.events.items (search rules) (search rules))
    c.loop-ranged.yielded c.loop-ranged.ranged-iterator c.loop-ranged.yielded_by c.next.result c.next.new.self c.in-None.is c.next.ensures.steps in
    let same : c.loop-ranged.yielded ≡ c.args.events.items = sym (map-id c.loop-ranged.yielded) ∙ end.0 in
    on_ok_weaker c.finish.result
    (λ more. written_end (writing c.loop-ranged.writer) (bare (map shown_ranged c.loop-ranged.yielded)) (string_bytes c.args.out.now) (string_bytes c.loop-ranged.out) (string_bytes c.finish.new.out) i.written i.kept more
    ∙ ap (λ l. string_bytes c.args.out.now ++ html (bare (map shown_ranged l))) same)
    c.finish.ensures.ok
