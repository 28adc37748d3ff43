-- Tokens at a `<` that opens no comment, declaration, CDATA section or processing instruction.
use Rattle.std.specs.Prelude.{Some, None, if◌then◌else◌, codes}
use Rattle.std.proofs.Common.{◌≡◌, ℕ, suc, ◌+◌, ◌-◌, ◌<◌, ◌≤◌, ◌==◌, ◌||◌, Bool, true, false, List, [], ◌∷◌, length, take, drop, get_or, refl, sym, ap, ◌∙◌, arith, length-drop, true≢false}
use Rattle.std.proofs.lemmas.Bool.{eq-eqb, or_parts, false_from_ne_true}
use Rattle.std.proofs.lemmas.Slice.Eq.{bytes_eq-Decides}
use Rattle.cmark_grammar.specs.Answers.{Lookup}
use Rattle.cmark_grammar.specs.Autolinks.{autolink_in}
use Rattle.cmark_grammar.specs.InlineHtml.{after_markup, after_opened, opened_in, after_inline_html, takes_lines}
use Rattle.cmark_grammar.specs.InlineTokens.{item_at, autolink_or, markup_or, tag_or_text, tag_kind, source_from, from, size_to, place_of}
use Rattle.cmark_grammar.specs.Items.{Plain, Own, Autolink, Html, OwnedHtml, Token}
use Rattle.cmark_grammar.specs.Letters.{first_is, starts, after_first_of}
use Rattle.cmark_grammar.specs.Options.{Options, no_options}
use Rattle.cmark_grammar.specs.Tags.{after_tag, no_prefix}
use Rattle.cmark_grammar.specs.Tokens.{slice}
use Rattle.cmark_values.specs.declared.text.CowStr.{CowStr}
use Rattle.cmark_scan_bytes.proofs.Lists.{rest_of}
use Rattle.cmark_inline.specs.LeastSteps.{begins_markup}
use Rattle.cmark_inline.specs.Tokens.{whole, reading, begins_at, opens_markup, shown_autolink, Says}
use Rattle.cmark_slots.specs.declared.slot.SlotKind.TheVariants as kind
use Rattle.cmark_inline.proofs.TokenSteps.{from-is, front, begins-with}

other-second : (c : ℕ) (prefix bs : List ℕ) → prefix ≡ 60 ∷ c ∷ [] → first_is (λ b. b == c) bs ≡ false → starts prefix (60 ∷ bs) ≡ false
other-second c prefix bs is e = false_from_ne_true (starts prefix (60 ∷ bs)) (λ t. go bs e ((bytes_eq-Decides (take (length prefix) (60 ∷ bs)) prefix).0 t))
  where
    go : (l : List ℕ) → first_is (λ b. b == c) l ≡ false → take (length prefix) (60 ∷ l) ≡ prefix → ⊥
    go [] f h = let same : 60 ∷ [] ≡ 60 ∷ c ∷ [] = sym (ap (λ (p : List ℕ). take (length p) (60 ∷ [])) is) ∙ h ∙ is in let n : 1 ≡ 2 = ap (λ (p : List ℕ). length p) same in omega (arith, n)
    go (d ∷ ds) f h =
        let same : take (length prefix) (60 ∷ (d ∷ ds)) ≡ 60 ∷ d ∷ [] = ap (λ p. take (length p) (60 ∷ (d ∷ ds))) is in
        let second : d ≡ c = ap (λ p. get_or p 1 0) (sym same ∙ h ∙ is) in
        true≢false (sym (eq-eqb d c second) ∙ f)

second-parts : (bs : List ℕ) → opens_markup bs ≡ false → (first_is (λ b. b == 33) bs ≡ false) × (first_is (λ b. b == 63) bs ≡ false)
second-parts [] e = (refl, refl)
second-parts (b ∷ bs) e = or_parts (b == 33) (b == 63) e

module _ (bs : List ℕ) (none : opens_markup bs ≡ false) where
  starts-one : starts (codes "<!") (60 ∷ bs) ≡ false
  starts-one = other-second 33 (codes "<!") bs refl (second-parts bs none).0

  starts-two : starts (codes "<?") (60 ∷ bs) ≡ false
  starts-two = other-second 63 (codes "<?") bs refl (second-parts bs none).1

  -- no markup begins there
  pub begins-none : begins_markup (60 ∷ bs) ≡ false
  begins-none = ap (λ z. z || starts (codes "<?") (60 ∷ bs)) starts-one ∙ starts-two

  no-markup : after_markup (60 ∷ bs) ≡ None
  no-markup =
      ap (λ z. if z then after_opened (opened_in (drop 2 (60 ∷ bs))) else if starts (codes "<?") (60 ∷ bs) then after_first_of (codes "?>") (drop 2 (60 ∷ bs)) else None) starts-one
      ∙ ap (λ z. if z then after_first_of (codes "?>") (drop 2 (60 ∷ bs)) else None) starts-two

  tag-alone : after_inline_html (60 ∷ bs) ≡ after_tag no_prefix (60 ∷ bs)
  tag-alone =
      ap (λ z. if z then after_opened (opened_in (drop 2 (60 ∷ bs))) else if starts (codes "<?") (60 ∷ bs) then after_first_of (codes "?>") (drop 2 (60 ∷ bs)) else after_tag no_prefix (60 ∷ bs)) starts-one
      ∙ ap (λ z. if z then after_first_of (codes "?>") (drop 2 (60 ∷ bs)) else after_tag no_prefix (60 ∷ bs)) starts-two

module _ (o : Options) (l : Lookup) (cell : Bool) (text : List ℕ) (at : ℕ) (lt : at < length text) (is : get_or text at 0 ≡ 60) where
  next-is : drop (suc at) text ≡ drop (at + 1) text
  next-is = ap (λ k. drop k text) (let q : suc at ≡ at + 1 = omega arith in q)

  abbrev others : Token
  others = markup_or (reading o l text) (whole cell text) at (after_markup (source_from (reading o l text) (whole cell text) at)) (tag_or_text (reading o l text) (whole cell text) at (after_tag no_prefix (from (reading o l text) (whole cell text) at)))

  abbrev by_slash : Bool → List ℕ → Token
  by_slash z rest = if z then item_at Plain at (suc at) else autolink_or (reading o l text) (whole cell text) at (autolink_in o.email_autolinks rest) others

  less-begins : begins_at o l cell text at ≡ by_slash (first_is (λ c. c == 92) (drop (at + 1) text)) (drop (at + 1) text)
  less-begins = begins-with o l cell text at 60 lt is ∙ ap (λ rest. by_slash (first_is (λ c. c == 92) rest) rest) next-is

  -- a backslash follows
  pub less-plain : first_is (λ c. c == 92) (drop (at + 1) text) ≡ true → begins_at o l cell text at ≡ item_at Plain at (at + 1)
  less-plain e = less-begins ∙ ap (λ z. by_slash z (drop (at + 1) text)) e ∙ ap (item_at Plain at) (let q : suc at ≡ at + 1 = omega arith in q)

  place-is : (end : ℕ) → end ≤ length text → place_of (reading o l text) (whole cell text) (drop end text) ≡ end
  place-is end le = let d = length-drop end text in let q : length text - length (drop end text) ≡ end = omega (arith, d, le) in q

  pub less-autolink : (end : ℕ) → first_is (λ c. c == 92) (drop (at + 1) text) ≡ false → Some (shown_autolink text at end) ≡ autolink_in o.email_autolinks (drop (at + 1) text) → end ≤ length text
      → begins_at o l cell text at ≡ item_at (Autolink (slice text (at + 1) (end - 1))) at end
  less-autolink end e found le =
      less-begins ∙ ap (λ z. by_slash z (drop (at + 1) text)) e ∙ ap (λ m. autolink_or (reading o l text) (whole cell text) at m others) (sym found)
      ∙ ap (item_at (Autolink (slice text (at + 1) (end - 1))) at) (place-is end le)

  module _ (slash : first_is (λ c. c == 92) (drop (at + 1) text) ≡ false) (link : None ≡ autolink_in o.email_autolinks (drop (at + 1) text)) (opens : opens_markup (drop (at + 1) text) ≡ false) where
    source-is : source_from (reading o l text) (whole cell text) at ≡ 60 ∷ drop (suc at) text
    source-is = ap (slice text at) (let q : length text - 0 ≡ length text = omega arith in q) ∙ rest_of text at ∙ front o l cell text at 60 lt is

    none-opens : opens_markup (drop (suc at) text) ≡ false
    none-opens = ap opens_markup next-is ∙ opens

    less-tag : begins_at o l cell text at ≡ tag_or_text (reading o l text) (whole cell text) at (after_tag no_prefix (drop at text))
    less-tag =
        less-begins ∙ ap (λ z. by_slash z (drop (at + 1) text)) slash ∙ ap (λ m. autolink_or (reading o l text) (whole cell text) at m others) (sym link)
        ∙ ap (λ m. markup_or (reading o l text) (whole cell text) at m (tag_or_text (reading o l text) (whole cell text) at (after_tag no_prefix (from (reading o l text) (whole cell text) at)))) (ap after_markup source-is ∙ no-markup (drop (suc at) text) none-opens)
        ∙ ap (λ x. tag_or_text (reading o l text) (whole cell text) at (after_tag no_prefix x)) (from-is o l cell text at)

    pub less-own : None ≡ after_tag no_prefix (drop at text) → begins_at o l cell text at ≡ item_at Own at (at + 1)
    less-own none = less-tag ∙ ap (tag_or_text (reading o l text) (whole cell text) at) (sym none) ∙ ap (item_at Own at) (let q : suc at ≡ at + 1 = omega arith in q)

    pub less-html : (end : ℕ) → Some (drop end text) ≡ after_tag no_prefix (drop at text) → at ≤ end → end ≤ length text
        → begins_at o l cell text at ≡ item_at (tag_kind (reading o l text) (whole cell text) (slice text at end)) at end
    less-html end found low le =
        let a = ap length (from-is o l cell text at) in let b = length-drop at text in let d = length-drop end text in
        less-tag ∙ ap (tag_or_text (reading o l text) (whole cell text) at) (sym found)
        ∙ ap (λ x. item_at (tag_kind (reading o l text) (whole cell text) (take (size_to (reading o l text) (whole cell text) at (drop end text)) x)) at (place_of (reading o l text) (whole cell text) (drop end text))) (from-is o l cell text at)
        ∙ ap (λ n. item_at (tag_kind (reading o l text) (whole cell text) (take n (drop at text))) at (place_of (reading o l text) (whole cell text) (drop end text))) (let q : size_to (reading o l text) (whole cell text) at (drop end text) ≡ end - at = omega (arith, a, b, d, low, le) in q)
        ∙ ap (item_at (tag_kind (reading o l text) (whole cell text) (slice text at end)) at) (place-is end le)

  pub html-says : (texts : List CowStr) (end : ℕ) → Says cell text texts at end (tag_kind (reading o l text) (whole cell text) (slice text at end)) kind.InlineHtml
  html-says texts end = go (takes_lines (slice text at end))
    where
      go : (z : Bool) → Says cell text texts at end (if z then OwnedHtml (slice text at end) else Html) kind.InlineHtml
      go true = refl
      go false = tt

-- inline HTML is a tag if nothing else opens
pub tag-find : (text : List ℕ) (at : ℕ) → at < length text → get_or text at 0 ≡ 60 → opens_markup (drop (at + 1) text) ≡ false → after_inline_html (drop at text) ≡ after_tag no_prefix (drop at text)
tag-find text at lt is none =
    let f : drop at text ≡ 60 ∷ drop (suc at) text = front no_options (λ name. None) false text at 60 lt is in
    let e : opens_markup (drop (suc at) text) ≡ false = ap (λ k. opens_markup (drop k text)) (let q : suc at ≡ at + 1 = omega arith in q) ∙ none in
    ap after_inline_html f ∙ tag-alone (drop (suc at) text) e ∙ ap (after_tag no_prefix) (sym f)
