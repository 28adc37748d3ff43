-- The rows of the special bytes, by option.
use Rattle.std.proofs.Common.{◌≡◌, ℕ, ◌<◌, Bool, false, ◌==◌, ◌&&◌, ◌||◌, List, replicate, refl, ap, ◌∙◌}
use Rattle.std.specs.Prelude.{codes}
use Rattle.std.proofs.lemmas.Bool.{agree_below_at}
use Rattle.std.proofs.Math.Bool.{or-false}
use Rattle.cmark_grammar.specs.Options.{Options}
use Rattle.cmark_inline_model.specs.SpecialBytes.{is_always_special, is_one_of, is_special}
use Rattle.cmark_search.specs.Sets.{in_rows}
use Rattle.cmark_inline.specs.declared.special.TheConstants.{ALWAYS, CARET, EQUALS, FORMULAS, PIPE, PUNCTUATION, TILDE}

-- a set that was joined with the bytes of an option
pub layer : (result set rows : List ℕ) (b : ℕ) (is on rest : Bool) → in_rows result b ≡ ((is && in_rows rows b) || in_rows set b) → is ≡ on → in_rows set b ≡ rest
    → in_rows result b ≡ ((on && in_rows rows b) || rest)
layer result set rows b is on rest joined same under =
    joined ∙ ap (λ t. (t && in_rows rows b) || in_rows set b) same ∙ ap (λ t. (on && in_rows rows b) || t) under

pub no_row : (b : ℕ) → b < 128 → in_rows (replicate 16 0) b ≡ false
no_row b small = agree_below_at (in_rows (replicate 16 0)) (λ n. false) 128 b refl small

module _ (o : Options) where
  abbrev layers : (always pipe tilde caret equals formulas punctuation : Bool) → Bool
  layers always pipe tilde caret equals formulas punctuation =
      always
      || ((o.tables && pipe)
      || (((o.strikethrough || o.subscript) && tilde)
      || ((o.superscript && caret)
      || ((o.highlight && equals)
      || ((o.math && formulas)
      || (o.smart_punctuation && punctuation))))))

  -- all layers together are the special bytes
  pub all_layers : (b : ℕ) → b < 128
      → (in_rows ALWAYS b
      || ((o.tables && in_rows PIPE b)
      || (((o.strikethrough || o.subscript) && in_rows TILDE b)
      || ((o.superscript && in_rows CARET b)
      || ((o.highlight && in_rows EQUALS b)
      || ((o.math && in_rows FORMULAS b)
      || ((o.smart_punctuation && in_rows PUNCTUATION b) || false)))))))
      ≡ is_special o b
  all_layers b small =
      ap (λ t. in_rows ALWAYS b || ((o.tables && in_rows PIPE b) || (((o.strikethrough || o.subscript) && in_rows TILDE b) || ((o.superscript && in_rows CARET b) || ((o.highlight && in_rows EQUALS b) || ((o.math && in_rows FORMULAS b) || t)))))) (or-false (o.smart_punctuation && in_rows PUNCTUATION b))
      ∙ ap (λ t. layers t (in_rows PIPE b) (in_rows TILDE b) (in_rows CARET b) (in_rows EQUALS b) (in_rows FORMULAS b) (in_rows PUNCTUATION b)) (agree_below_at (in_rows ALWAYS) is_always_special 128 b refl small)
      ∙ ap (λ t. layers (is_always_special b) t (in_rows TILDE b) (in_rows CARET b) (in_rows EQUALS b) (in_rows FORMULAS b) (in_rows PUNCTUATION b)) (agree_below_at (in_rows PIPE) (λ n. n == 124) 128 b refl small)
      ∙ ap (λ t. layers (is_always_special b) (b == 124) t (in_rows CARET b) (in_rows EQUALS b) (in_rows FORMULAS b) (in_rows PUNCTUATION b)) (agree_below_at (in_rows TILDE) (λ n. n == 126) 128 b refl small)
      ∙ ap (λ t. layers (is_always_special b) (b == 124) (b == 126) t (in_rows EQUALS b) (in_rows FORMULAS b) (in_rows PUNCTUATION b)) (agree_below_at (in_rows CARET) (λ n. n == 94) 128 b refl small)
      ∙ ap (λ t. layers (is_always_special b) (b == 124) (b == 126) (b == 94) t (in_rows FORMULAS b) (in_rows PUNCTUATION b)) (agree_below_at (in_rows EQUALS) (λ n. n == 61) 128 b refl small)
      ∙ ap (λ t. layers (is_always_special b) (b == 124) (b == 126) (b == 94) (b == 61) t (in_rows PUNCTUATION b)) (agree_below_at (in_rows FORMULAS) (is_one_of (codes "${}")) 128 b refl small)
      ∙ ap (λ t. layers (is_always_special b) (b == 124) (b == 126) (b == 94) (b == 61) (is_one_of (codes "${}") b) t) (agree_below_at (in_rows PUNCTUATION) (is_one_of (codes ".-\"'")) 128 b refl small)
