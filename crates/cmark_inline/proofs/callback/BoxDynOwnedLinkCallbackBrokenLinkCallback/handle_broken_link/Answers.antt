use Rattle.std.proofs.Math.Path.{subst}
use Rattle.cmark_values.specs.Shown.{text_bytes}
use Rattle.cmark_inline.proofs.BoxedCallbacks.{said_at_home}
use Rattle.cmark_inline.proofs.callback.BoxDynOwnedLinkCallbackBrokenLinkCallback.handle_broken_link.Goals as goal

pub returns-clause-answers : goal.returns-clause-answers
returns-clause-answers g c =
    let link = c.args.link in
    said_at_home {F = λ k. (g.dyn-1.0.entry k).0.Denot}
    (λ k before after. (g.dyn-1.0.entry k).1.says before link.span.start link.span.end link.link_type (text_bytes link.reference) c.handle_owned.result after)
    c.args.self.now c.deref_box_mut-1.ensures.value.1 c.handle_owned.new.self
    (subst (λ t. (g.dyn-1.0.entry c.deref_box_mut-1.result.now.0).1.says c.deref_box_mut-1.result.now.1 link.span.start link.span.end link.link_type t c.handle_owned.result c.handle_owned.new.self)
    c.as_str.ensures c.handle_owned.ensures)
