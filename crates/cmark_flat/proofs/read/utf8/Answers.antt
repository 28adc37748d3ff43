use Rattle.std.proofs.Common.{Some, ap, sym, ◌∙◌}
use Rattle.std.proofs.lemmas.Str.{is_utf8-from_IsUtf8}
use Rattle.cmark_flat.specs.Decode.{some_if}
use Rattle.cmark_flat.proofs.RecordLaw.{not_utf8}
use Rattle.cmark_flat.proofs.read.utf8.Goals as goal

pub returns-in-Ok : goal.returns-in-Ok
returns-in-Ok c =
    ap (λ b. some_if b c.args.bytes.now) (is_utf8-from_IsUtf8 c.args.bytes.now c.in-Ok.ensures.cases.1)
    ∙ ap (λ t. Some t) (sym c.in-Ok.ensures.cases.0)

pub returns-in-Err : goal.returns-in-Err
returns-in-Err c = ap (λ b. some_if b c.args.bytes.now) (not_utf8 c.args.bytes.now c.in-Err.ensures.cases.0)
