use Rattle.std.proofs.Common.{◌==◌, sym, ap, ◌∙◌}
use Rattle.cmark_grammar.specs.Letters.{first_is}
use Rattle.cmark_scan_bytes.proofs.Lists.{rest_of}
use Rattle.cmark_scan_bytes.proofs.Links.{byte_at}
use Rattle.cmark_scan_bytes.proofs.link.address_size.Goals as goal

pub returns-then-begins_with-clause-within : goal.returns-then-begins_with-clause-within
returns-then-begins_with-clause-within c =
    (byte_at 62 c.count-size.result c.args.bytes.now (ap (first_is (λ b. b == 62)) (sym (rest_of c.args.bytes.now c.count-size.result)) ∙ sym c.if-begins_with.ensures)).0

pub returns-then-begins_with-clause-closed : goal.returns-then-begins_with-clause-closed
returns-then-begins_with-clause-closed c =
    (byte_at 62 c.count-size.result c.args.bytes.now (ap (first_is (λ b. b == 62)) (sym (rest_of c.args.bytes.now c.count-size.result)) ∙ sym c.if-begins_with.ensures)).1
