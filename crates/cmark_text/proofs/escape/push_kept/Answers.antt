use Rattle.std.proofs.Common.{◌≡◌, ◌+◌, ◌-◌, get_or, subst, arith}
use Rattle.std.proofs.lemmas.Str.{IsCharBoundary-after_ascii}
use Rattle.std.specs.Str.{IsCharBoundary}
use Rattle.cmark_text.proofs.Marks.{ascii-href_kept}
use Rattle.cmark_text.proofs.escape.push_kept.Goals as goal

-- the last byte is kept, and so ASCII
pub range-requires-clause-end_boundary : goal.range-requires-clause-end_boundary
range-requires-clause-end_boundary c =
    let last = c.args.to - 1 in
    let past : last + 1 ≡ c.args.to = omega arith in
    subst (IsCharBoundary c.args.url.now) past
    (IsCharBoundary-after_ascii c.args.url.now last c.utf8.url (omega arith)
    (ascii-href_kept (get_or c.args.url.now last 0) (c.type_inv.url last).fits (c.requires.kept last (omega arith) (omega arith))))
