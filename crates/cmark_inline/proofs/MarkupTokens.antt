-- A `<` that opens markup of the source begins only HTML or a text.
use Rattle.std.specs.Prelude.{Option, Some, None, ◌==◌, ◌||◌, ◌&&◌, is_none, if◌then◌else◌, take}
use Rattle.std.proofs.Common.{◌≡◌, ◌⊎◌, inl, inr, ℕ, suc, Bool, true, false, List, [], ◌∷◌, drop, refl, sym, ap, ◌∙◌, eqb-true, true≢false}
use Rattle.std.proofs.lemmas.Bool.{false_from_ne_true, or_cases, and_parts}
use Rattle.cmark_grammar.specs.Answers.{Lookup}
use Rattle.cmark_grammar.specs.Autolinks.{autolink_in}
use Rattle.cmark_grammar.specs.InlineHtml.{after_markup, takes_lines}
use Rattle.cmark_grammar.specs.InlineTokens.{autolink_or, begins, from, item_at, less_than, markup_or, size_to, source_from, tag_or_text}
use Rattle.cmark_grammar.specs.Items.{ItemKind, Plain, Own, Html, OwnedHtml, Token, Stands}
use Rattle.cmark_grammar.specs.LeafText.{Leaf}
use Rattle.cmark_grammar.specs.Letters.{first_is}
use Rattle.cmark_grammar.specs.LinkDefinitions.{Parsed}
use Rattle.cmark_grammar.specs.Options.{Options}
use Rattle.cmark_grammar.specs.Readers.{Reader}
use Rattle.cmark_grammar.specs.Tags.{after_tag, no_prefix}
use Rattle.cmark_inline_model.specs.PlacedTokens.{may_open_markup}
use Rattle.cmark_inline.specs.Tokens.{begins_at, reading, whole}
use Rattle.cmark_inline.proofs.TokenSteps.{from-is}

abbrev kind_marks : ItemKind → Bool
kind_marks Html = true
kind_marks (OwnedHtml bytes) = true
kind_marks Own = true
kind_marks other = false

-- HTML, or a text of its own
abbrev pub marks : Token → Bool
marks (Stands x resume) = kind_marks x.kind
marks _ = false

pub no-slash-there : (bs : List ℕ) → first_is (λ c. (c == 33) || (c == 63)) bs ≡ true → first_is (λ c. c == 92) bs ≡ false
no-slash-there [] e = absurd (true≢false (sym e))
no-slash-there (c ∷ cs) e = go (or_cases (c == 33) (c == 63) e)
  where
    go : ((c == 33) ≡ true) ⊎ ((c == 63) ≡ true) → first_is (λ d. d == 92) (c ∷ cs) ≡ false
    go (inl h) = ap (λ d. first_is (λ x. x == 92) (d ∷ cs)) (eqb-true c 33 h)
    go (inr h) = ap (λ d. first_is (λ x. x == 92) (d ∷ cs)) (eqb-true c 63 h)

no-link : (found : Option Parsed) → is_none found ≡ true → found ≡ None
no-link None e = refl
no-link (Some f) e = cc

module _ (reader : Reader) (leaf : Leaf) (at : ℕ) where
  tag_marks : (found : Option (List ℕ)) → marks (tag_or_text reader leaf at found) ≡ true
  tag_marks None = refl
  tag_marks (Some rest) = go (takes_lines (take (size_to reader leaf at rest) (from reader leaf at)))
    where
      go : (z : Bool) → kind_marks (if z then OwnedHtml (take (size_to reader leaf at rest) (from reader leaf at)) else Html) ≡ true
      go true = refl
      go false = refl

  markup_marks : (found : Option (List ℕ)) (t : Token) → marks t ≡ true → marks (markup_or reader leaf at found t) ≡ true
  markup_marks None t h = h
  markup_marks (Some rest) t h = refl

  -- the token at a `<` without an autolink or a backslash after it
  pub less-is : (bs : List ℕ) → autolink_in reader.options.email_autolinks bs ≡ None → first_is (λ c. c == 92) bs ≡ false
      → less_than reader leaf at bs ≡ markup_or reader leaf at (after_markup (source_from reader leaf at)) (tag_or_text reader leaf at (after_tag no_prefix (from reader leaf at)))
  less-is bs link slash =
      let others = markup_or reader leaf at (after_markup (source_from reader leaf at)) (tag_or_text reader leaf at (after_tag no_prefix (from reader leaf at))) in
      ap (λ z. if z then item_at Plain at (suc at) else autolink_or reader leaf at (autolink_in reader.options.email_autolinks bs) others) slash ∙ ap (λ m. autolink_or reader leaf at m others) link

  begins_marks : (l : List ℕ) → may_open_markup reader.options.email_autolinks l ≡ true → marks (begins reader leaf at l) ≡ true
  begins_marks [] e = absurd (true≢false (sym e))
  begins_marks (b ∷ bs) e =
      let none = is_none (autolink_in reader.options.email_autolinks bs) in
      let second = first_is (λ c. (c == 33) || (c == 63)) bs in
      let h = and_parts (b == 60) (none && second) e in
      let n = and_parts none second h.1 in
      ap (λ c. marks (begins reader leaf at (c ∷ bs))) (eqb-true b 60 h.0) ∙ ap marks (less-is bs (no-link (autolink_in reader.options.email_autolinks bs) n.0) (no-slash-there bs n.1))
      ∙ markup_marks (after_markup (source_from reader leaf at)) (tag_or_text reader leaf at (after_tag no_prefix (from reader leaf at))) (tag_marks (after_tag no_prefix (from reader leaf at)))

pub no-markup-by : (o : Options) (l : Lookup) (cell : Bool) (text : List ℕ) (at : ℕ) (t : Token) → begins_at o l cell text at ≡ t → marks t ≡ false → may_open_markup o.email_autolinks (drop at text) ≡ false
no-markup-by o l cell text at t is never =
    false_from_ne_true (may_open_markup o.email_autolinks (drop at text)) (λ e.
    true≢false (sym (begins_marks (reading o l text) (whole cell text) at (drop at text) e) ∙ ap marks (sym (ap (begins (reading o l text) (whole cell text) at) (from-is o l cell text at)) ∙ is) ∙ never))
