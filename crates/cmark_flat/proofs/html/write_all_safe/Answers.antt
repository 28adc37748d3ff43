use Rattle.std.proofs.Common.{◌≡◌, ℕ, List, ◌++◌, ◌∷◌, [], rules, map, string_bytes, sym, ap, ◌∙◌}
use Rattle.std.proofs.lemmas.List.{map-id, map_push}
use Rattle.std.proofs.lemmas.Result.{on_ok_weaker}
use Rattle.std.proofs.lemmas.Iterator.Adapters.{YieldsList-from_vec}
use Rattle.std.proofs.lemmas.Iterator.Consumers.{YieldsList-end}
use Rattle.cmark_flat.specs.Render.{bare}
use Rattle.cmark_grammar.specs.Event.{Event}
use Rattle.cmark_grammar.specs.Html.{at_line_start, html, moved, moved_all, piece, pieces}
use Rattle.cmark_html.specs.Writer.{writing}
use Rattle.cmark_html.proofs.HtmlSteps.{kept_on, written_end, written_on}
use Rattle.cmark_safe.specs.SafeEvents.{safe}
use Rattle.cmark_text.specs.declared.ranged.Ranged.{Ranged}
use Rattle.cmark_text.specs.Ranged.{shown_ranged}
use Rattle.cmark_text.specs.Shown.{shown}
use Rattle.cmark_flat.proofs.html.write_all_safe.Goals as goal

abbrev safe_forms : List ℕ → List Ranged → List Event
safe_forms further rs = map (safe further) (bare (map shown_ranged rs))

one_more : (further : List ℕ) (rs : List Ranged) (r : Ranged) → safe_forms further (rs ++ r ∷ []) ≡ safe_forms further rs ++ safe further (shown r.event) ∷ []
one_more further rs r =
    ap (λ l. map (safe further) (bare l)) (map_push shown_ranged rs r)
    ∙ ap (map (safe further)) (map_push (λ x. x.event) (map shown_ranged rs) (shown_ranged r))
    ∙ map_push (safe further) (bare (map shown_ranged rs)) (shown r.event)

pub loop-ranged-preserved : goal.loop-ranged-preserved
loop-ranged-preserved c =
    let i = c.loop-ranged.invariant in
    let further = c.args.further.now in
    let rs = c.loop-ranged.yielded in
    let r = c.in-Some.ranged in
    let e = safe further (shown r.event) in
    let is : shown c.in_ok-event.event ≡ e = c.in_ok-event.ensures.value in
    let es : List Event = safe_forms further rs in
    let w = writing c.loop-ranged.writer in
    record {
      written = written_on w es e i.kept (string_bytes c.args.out.now) (string_bytes c.loop-ranged.out) (string_bytes c.write_event.new.out) i.written
          (c.in_ok-write_event.ensures.writes.ok ∙ ap (λ x. string_bytes c.loop-ranged.out ++ piece w x) is)
          ∙ ap (λ l. string_bytes c.args.out.now ++ pieces l) (sym (one_more further rs r));
      kept = kept_on w es e i.kept (writing c.write_event.new.writer) (c.in_ok-write_event.ensures.state ∙ ap (moved w) is) ∙ ap (λ l. moved_all at_line_start l) (sym (one_more further rs r));
    }

pub returns : goal.returns
returns c =
    let i = c.loop-ranged.invariant in
    let further = c.args.further.now in
    let end = YieldsList-end (YieldsList-from_vec {s = c.into_iter-ranged-iterator.result} c.args.events.items (search rules) (search rules))
    c.loop-ranged.yielded c.loop-ranged.ranged-iterator c.loop-ranged.yielded_by c.next.result c.next.new.self c.in-None.is c.next.ensures.steps in
    let same : c.loop-ranged.yielded ≡ c.args.events.items = sym (map-id c.loop-ranged.yielded) ∙ end.0 in
    on_ok_weaker c.finish.result
    (λ more. written_end (writing c.loop-ranged.writer) (safe_forms further c.loop-ranged.yielded) (string_bytes c.args.out.now) (string_bytes c.loop-ranged.out) (string_bytes c.finish.new.out) i.written i.kept more
    ∙ ap (λ l. string_bytes c.args.out.now ++ html (safe_forms further l)) same)
    c.finish.ensures.ok
