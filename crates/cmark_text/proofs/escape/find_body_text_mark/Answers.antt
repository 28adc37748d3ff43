use Rattle.std.proofs.Common.{List, ℕ, refl, subst, arith}
use Rattle.std.proofs.lemmas.Bool.{agree_below_at}
use Rattle.memchr.specs.Find.{IsFirstByte}
use Rattle.cmark_search.specs.Sets.{in_keys}
use Rattle.cmark_search.proofs.Sets.{first-same}
use Rattle.cmark_text.specs.Marks.{is_body_text_mark}
use Rattle.cmark_text.specs.declared.escape.TheConstants.{BODY_TEXT_MARKS}
use Rattle.cmark_text.proofs.escape.find_body_text_mark.Goals as goal

-- the keys agree with the test at each byte
pub returns : goal.returns
returns c =
    first-same (in_keys BODY_TEXT_MARKS.now) is_body_text_mark c.args.text.now c.find_first.result (λ b small. agree_below_at (in_keys BODY_TEXT_MARKS.now) is_body_text_mark 256 b refl small)
    (λ k. omega (arith, c.type_inv.text k)) (subst (λ (bs : List ℕ). IsFirstByte (in_keys BODY_TEXT_MARKS.now) bs c.find_first.result) c.as_bytes.ensures.value c.find_first.ensures)
