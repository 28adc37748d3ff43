use Rattle.std.proofs.Common.{List, ℕ, refl, subst, arith, take}
use Rattle.std.proofs.lemmas.Bool.{agree_below_at}
use Rattle.memchr.specs.Find.{IsFirstByte}
use Rattle.cmark_search.specs.Sets.{in_keys}
use Rattle.cmark_search.proofs.Sets.{first-same, small-before}
use Rattle.cmark_text.specs.Marks.{is_body_text_mark}
use Rattle.cmark_text.specs.declared.escape.TheConstants.{BODY_TEXT_MARKS}
use Rattle.cmark_text.proofs.escape.find_mark_within.Goals as goal

-- the keys agree with the test at each byte
pub returns : goal.returns
returns c =
    first-same (in_keys BODY_TEXT_MARKS.now) is_body_text_mark (take c.args.len c.args.ahead.now) c.find_first_within.result (λ b small. agree_below_at (in_keys BODY_TEXT_MARKS.now) is_body_text_mark 256 b refl small)
    (λ k. small-before c.args.ahead.now c.args.len k (λ j. omega (arith, c.type_inv.ahead j)))
    (subst (λ (bs : List ℕ). IsFirstByte (in_keys BODY_TEXT_MARKS.now) (take c.args.len bs) c.find_first_within.result) c.as_bytes.ensures.value c.find_first_within.ensures)
