use Rattle.std.proofs.Common.{ap, ◌∙◌}
use Rattle.cmark_grammar.specs.Letters.{after_if}
use Rattle.cmark_scan_bytes.proofs.EmailSteps.{is_at_sign, some-email}
use Rattle.cmark_scan_bytes.proofs.Lists.{rest_of}
use Rattle.cmark_scan_bytes.proofs.email.is_email.Goals as goal

pub returns-then-size-ge1 : goal.returns-then-size-ge1
returns-then-size-ge1 c =
    c.is_domain.ensures
    ∙ some-email c.args.bytes.now c.count-size.result c.count-size.ensures.value c.in-Some.domain.now (c.in-Some.ensures.value ∙ ap (after_if is_at_sign) (rest_of c.args.bytes.now c.count-size.result)) c.if-size-ge1.true
