-- Plain bytes without a gap are one text, in the leaf as in its text.
use Rattle.std.specs.Prelude.{suc, zero, ◌-◌, ◌==◌, ◌&&◌, ◌||◌, not, if◌then◌else◌, drop}
use Rattle.std.specs.List.{prefix_len}
use Rattle.std.proofs.Common.{◌≡◌, ◌⊎◌, inl, inr, ◌<◌, ◌≤◌, ◌+◌, ℕ, Bool, true, false, List, [], ◌∷◌, length, Option, Some, None, refl, sym, ap, ◌∙◌, subst, arith, eqb-true, true≢false, rules}
use Rattle.std.proofs.lemmas.Bool.{ltb-true, ltb-false, eq-eqb, false_from_ne_true}
use Rattle.cmark_grammar.specs.Autolinks.{autolink_in}
use Rattle.cmark_grammar.specs.CodeSpans.{backticks, code_in}
use Rattle.cmark_grammar.specs.Columns.{is_blank_byte}
use Rattle.cmark_grammar.specs.Flanking.{Flanking, flanking, is_run_delimiter}
use Rattle.cmark_grammar.specs.Formulas.{is_dollar, Braces, no_braces, braces_after}
use Rattle.cmark_grammar.specs.InlineHtml.{after_markup}
use Rattle.cmark_grammar.specs.InlineTokens.{item_at, bracket, is_plain, from, before, character_before, character_at, break_or, code_or, escaped_backtick, escape_at, entity_or, autolink_or, tag_or_text, source_from, markup_or, less_than, run_or, run_at, formula_or, dollar, smart_or, begins, begins_at, goes_on, plain_end, longest, token}
use Rattle.cmark_grammar.specs.Items.{ItemKind, Plain, Delimiters, Token, Stands, Opens, Closes}
use Rattle.cmark_grammar.specs.LeafText.{Leaf, InTurn}
use Rattle.cmark_grammar.specs.Letters.{first_is}
use Rattle.cmark_grammar.specs.LineBreaks.{LineBreak, backslash_break_in, blank_break_in}
use Rattle.cmark_grammar.specs.Lines.{is_content}
use Rattle.cmark_grammar.specs.LinkDefinitions.{Parsed}
use Rattle.cmark_grammar.specs.Readers.{Reader}
use Rattle.cmark_grammar.specs.Tags.{after_tag, no_prefix}
use Rattle.cmark_grammar.specs.Tokens.{Entity, entity_in}
use Rattle.cmark_inline_model.specs.PlacedTokens.{AreLeafPlaces, StandsUpTo, StopsAt, one_stretch, text_reader, placed, may_open_markup}
use Rattle.cmark_inline_model.proofs.PlacedTokens.{from-text, from-place, begins-at}
use Rattle.cmark_inline_model.proofs.TokenLaws.{Onward, begins-at-onward}
use Rattle.cmark_inline_model.proofs.WordBytes.{and-left, and-right, or-either}

le_or : (a b : ℕ) → (a ≤ b) ⊎ (b < a)
le_or a b = grind (arith, ltb-true, ltb-false)

module _ (reader : Reader) (leaf : Leaf) where
  -- ## After plain bytes reading continues where they end
  abbrev pub Shaped : Token → Type 0
  Shaped (Stands x resume) = is_plain x.kind ≡ true → x.end ≡ resume
  Shaped _ = Unit {0}

  when : (b : Bool) (x y : Token) → Shaped x → Shaped y → Shaped (if b then x else y)
  when true x y h k = h
  when false x y h k = k

  break_shaped : (at : ℕ) (found : Option LineBreak) (other : Token) → Shaped other → Shaped (break_or reader leaf at found other)
  break_shaped at found other h = grind arith

  code_shaped : (at size : ℕ) (found : Option Parsed) → Shaped (code_or reader leaf at size found)
  code_shaped at size None = λ e. refl
  code_shaped at size (Some found) = λ e. refl

  escaped_shaped : (at size : ℕ) (found : Option Parsed) → Shaped (escaped_backtick reader leaf at size found)
  escaped_shaped at size None = λ e. refl
  escaped_shaped at size (Some found) = λ e. refl

  entity_shaped : (at : ℕ) (found : Option Entity) → Shaped (entity_or reader leaf at found)
  entity_shaped at None = λ e. refl
  entity_shaped at (Some found) = λ e. refl

  autolink_shaped : (at : ℕ) (found : Option Parsed) (other : Token) → Shaped other → Shaped (autolink_or reader leaf at found other)
  autolink_shaped at None other h = h
  autolink_shaped at (Some found) other h = λ e. refl

  markup_shaped : (at : ℕ) (found : Option (List ℕ)) (other : Token) → Shaped other → Shaped (markup_or reader leaf at found other)
  markup_shaped at None other h = h
  markup_shaped at (Some rest) other h = λ e. absurd (true≢false (sym e))

  tag_shaped : (at : ℕ) (found : Option (List ℕ)) → Shaped (tag_or_text reader leaf at found)
  tag_shaped at None = λ e. refl
  tag_shaped at (Some rest) = λ e. refl

  formula_shaped : (kind : List ℕ → ItemKind) (at : ℕ) (found : Option Parsed) → Shaped (formula_or reader leaf kind at found)
  formula_shaped kind at None = λ e. refl
  formula_shaped kind at (Some found) = λ e. refl

  escape_shaped : (at : ℕ) (bs : List ℕ) → Shaped (escape_at reader leaf at bs)
  escape_shaped at bs = grind (arith, when, escaped_shaped)

  less_than_shaped : (at : ℕ) (bs : List ℕ) → Shaped (less_than reader leaf at bs)
  less_than_shaped at bs = grind (arith, when, autolink_shaped, markup_shaped, tag_shaped)

  run_shaped : (at delimiter size : ℕ) (beside : Flanking) → Shaped (run_or reader leaf at delimiter size beside)
  run_shaped at delimiter size beside =
      when (beside.opens || beside.closes) (item_at (Delimiters (record { delimiter = delimiter; run_length = size; at = 0; left = size; opens = beside.opens; closes = beside.closes })) at (at + size)) (item_at Plain at (at + size)) (λ e. refl) (λ e. refl)

  dollar_shaped : (at : ℕ) (bs : List ℕ) (braces : Braces) → Shaped (dollar reader leaf at bs braces)
  dollar_shaped at bs braces = grind (arith, when, formula_shaped)

  smart_shaped : (at b : ℕ) → Shaped (smart_or reader leaf at b)
  smart_shaped at b = grind (arith, when)

  pub begins-shaped : (at : ℕ) (l : List ℕ) → Shaped (begins reader leaf at l)
  begins-shaped at [] = tt
  begins-shaped at (b ∷ bs) =
      let plain = item_at Plain at (suc at) in
      let c9 = if reader.options.smart_punctuation then smart_or reader leaf at b else plain in
      let c8 = if reader.options.math && is_dollar b then dollar reader leaf at bs (braces_after false (before reader leaf at) no_braces) else c9 in
      let n = prefix_len (λ c. c == b) (b ∷ bs) in
      let c7 = if is_run_delimiter b then run_at reader leaf at b n else c8 in
      let c6 = if b == 93 then Closes (bracket false at (suc at)) else c7 in
      let c5 = if b == 91 then Opens (bracket false at (suc at)) else c6 in
      let bang = if first_is (λ c. c == 91) bs then Opens (bracket true at (at + 2)) else plain in
      let c4 = if b == 33 then bang else c5 in
      let c3 = if b == 60 then less_than reader leaf at bs else c4 in
      let c2 = if b == 96 then code_or reader leaf at (backticks (b ∷ bs)) (code_in (b ∷ bs)) else c3 in
      let c1 = if b == 38 then entity_or reader leaf at (entity_in reader.lookup bs) else c2 in
      let c0 = if b == 92 then break_or reader leaf at (backslash_break_in (b ∷ bs)) (escape_at reader leaf at bs) else c1 in
      when (is_blank_byte b || not (is_content b)) (break_or reader leaf at (blank_break_in (b ∷ bs)) plain) c0 (break_shaped at (blank_break_in (b ∷ bs)) plain (λ e. refl))
      (when (b == 92) (break_or reader leaf at (backslash_break_in (b ∷ bs)) (escape_at reader leaf at bs)) c1 (break_shaped at (backslash_break_in (b ∷ bs)) (escape_at reader leaf at bs) (escape_shaped at bs))
      (when (b == 38) (entity_or reader leaf at (entity_in reader.lookup bs)) c2 (entity_shaped at (entity_in reader.lookup bs))
      (when (b == 96) (code_or reader leaf at (backticks (b ∷ bs)) (code_in (b ∷ bs))) c3 (code_shaped at (backticks (b ∷ bs)) (code_in (b ∷ bs)))
      (when (b == 60) (less_than reader leaf at bs) c4 (less_than_shaped at bs)
      (when (b == 33) bang c5 (when (first_is (λ c. c == 91) bs) (Opens (bracket true at (at + 2))) plain tt (λ e. refl))
      (when (b == 91) (Opens (bracket false at (suc at))) c6 tt
      (when (b == 93) (Closes (bracket false at (suc at))) c7 tt
      (when (is_run_delimiter b) (run_at reader leaf at b n) c8 (run_shaped at b n (flanking reader.options b n (character_before reader leaf at) (character_at reader leaf (at + n))))
      (when (reader.options.math && is_dollar b) (dollar reader leaf at bs (braces_after false (before reader leaf at) no_braces)) c9 (dollar_shaped at bs (braces_after false (before reader leaf at) no_braces))
      (when reader.options.smart_punctuation (smart_or reader leaf at b) plain (smart_shaped at b) (λ e. refl)))))))))))

  -- ## Where markup may open, no text does
  abbrev pub NotPlain : Token → Type 0
  NotPlain (Stands x resume) = is_plain x.kind ≡ false
  NotPlain _ = Unit {0}

  less_than_not : (at : ℕ) (bs : List ℕ) → first_is (λ c. (c == 33) || (c == 63)) bs ≡ true → NotPlain (less_than reader leaf at bs)
  less_than_not at [] e = absurd (true≢false (sym e))
  less_than_not at (c ∷ bs) e =
      subst (λ z. NotPlain (if z then item_at Plain at (suc at) else autolink_or reader leaf at (autolink_in reader.options.email_autolinks (c ∷ bs)) others)) (sym slash) (link (autolink_in reader.options.email_autolinks (c ∷ bs)))
    where
      others : Token
      others = markup_or reader leaf at (after_markup (source_from reader leaf at)) (tag_or_text reader leaf at (after_tag no_prefix (from reader leaf at)))

      slash : (c == 92) ≡ false
      slash = grind (arith, or-either, eqb-true)

      tag : (found : Option (List ℕ)) → NotPlain (tag_or_text reader leaf at found)
      tag found = grind arith

      markup : (found : Option (List ℕ)) → NotPlain (markup_or reader leaf at found (tag_or_text reader leaf at (after_tag no_prefix (from reader leaf at))))
      markup None = tag (after_tag no_prefix (from reader leaf at))
      markup (Some rest) = refl

      link : (found : Option Parsed) → NotPlain (autolink_or reader leaf at found others)
      link None = markup (after_markup (source_from reader leaf at))
      link (Some found) = refl

  pub markup-not : (at : ℕ) (l : List ℕ) → may_open_markup reader.options.email_autolinks l ≡ true → NotPlain (begins reader leaf at l)
  markup-not at l e = search (rules, eqb-true, and-left, less_than_not, and-right)

  pub goes-stop : (t : Token) (item_end : ℕ) (more : ℕ → ℕ) → NotPlain t → goes_on reader leaf t item_end more ≡ item_end
  goes-stop (Stands item resume) item_end more h = ap (λ z. if z && (item.start == item_end) then more resume else item_end) h
  goes-stop _ item_end more h = refl

-- ## One text in the places of the source
module _ (reader : Reader) (leaf : Leaf) (text : List ℕ) (place : ℕ → ℕ) (h : AreLeafPlaces reader leaf text place) where
  abbrev one : Reader
  one = text_reader reader.options reader.lookup text

  abbrev alone : Leaf
  alone = one_stretch leaf.is_cell text

  turn : InTurn 0 alone.stretches (length text)
  turn = (omega arith, omega arith, omega arith)

  onward : (k : ℕ) → Onward one alone (length text) turn k (begins_at one alone k)
  onward k = begins-at-onward one alone (length text) turn k

  -- places tell bytes apart
  same_place : (j k : ℕ) → j ≤ length text → k ≤ length text → (place j == place k) ≡ (j == k)
  same_place j k a b = go (le_or j k) (le_or k j)
    where
      go : (j ≤ k) ⊎ (k < j) → (k ≤ j) ⊎ (j < k) → (place j == place k) ≡ (j == k)
      go (inl c) (inl d) = let e : j ≡ k = omega arith in eq-eqb (place j) (place k) (ap place e) ∙ sym (eq-eqb j k e)
      go (inl c) (inr d) = let o = h.places.order j k d b in
          false_from_ne_true (place j == place k) (λ t. (let q = eqb-true (place j) (place k) t in omega arith)) ∙ sym (false_from_ne_true (j == k) (λ t. (let q = eqb-true j k t in omega arith)))
      go (inr c) x = let o = h.places.order k j c a in
          false_from_ne_true (place j == place k) (λ t. (let q = eqb-true (place j) (place k) t in omega arith)) ∙ sym (false_from_ne_true (j == k) (λ t. (let q = eqb-true j k t in omega arith)))

  -- a text ends directly after a byte
  abbrev Ended : ℕ → Type 0
  Ended k = place k ≡ suc (place (k - 1))

  -- a text at an offset of the text, and its end
  record GoesOn (t t0 : Token) (k : ℕ) : Type 0 where
    same : (more more0 : ℕ → ℕ) → ((x : ℕ) → x ≤ length text → Ended x → more (place x) ≡ place (more0 x)) → goes_on reader leaf t (place k) more ≡ place (goes_on one alone t0 k more0)
    ends : (more0 : ℕ → ℕ) → Ended k → ((x : ℕ) → x ≤ length text → Ended x → Ended (more0 x)) → Ended (goes_on one alone t0 k more0)

  if_place : (b : Bool) (x y x0 y0 : ℕ) → x ≡ place x0 → y ≡ place y0 → (if b then x else y) ≡ place (if b then x0 else y0)
  if_place true x y x0 y0 p q = p
  if_place false x y x0 y0 p q = q

  placed_goes : (t0 : Token) (k : ℕ) → k ≤ length text → Onward one alone (length text) turn k t0 → Shaped one alone t0 → Shaped reader leaf (placed place t0) → GoesOn (placed place t0) t0 k
  placed_goes (Stands x resume) k le o s p = by (is_plain x.kind) refl
    where
      within : resume ≤ length text
      within = let w = o.2 in omega arith

      start_in : x.start ≤ length text
      start_in = let w = within in let a = o.0.ordered in let b = o.0.ends in omega arith

      by : (b : Bool) → is_plain x.kind ≡ b → GoesOn (placed place (Stands x resume)) (Stands x resume) k
      by false e = grind (arith, goes-stop)
      by true e = search (rules, same_place, start_in, if_place, within)
  placed_goes _ k le o s p = record { same = λ more more0 g. refl; ends = λ more0 f g. f }

  begins_goes : (k : ℕ) → k ≤ length text → GoesOn (begins_at reader leaf (place k)) (begins_at one alone k) k
  begins_goes k le = by (may_open_markup reader.options.email_autolinks (drop k text)) refl
    where
      by : (b : Bool) → may_open_markup reader.options.email_autolinks (drop k text) ≡ b → GoesOn (begins_at reader leaf (place k)) (begins_at one alone k) k
      by true e =
          let n = subst (λ l. NotPlain reader leaf (begins reader leaf (place k) l)) (sym (from-place reader leaf text place h k le)) (markup-not reader leaf (place k) (drop k text) e) in
          let m = subst (λ l. NotPlain one alone (begins one alone k l)) (sym (from-text reader leaf text place h k)) (markup-not one alone k (drop k text) e) in record {
            same = λ more more0 g. goes-stop reader leaf (begins_at reader leaf (place k)) (place k) more n ∙ ap place (sym (goes-stop one alone (begins_at one alone k) k more0 m));
            ends = λ more0 f g. subst Ended (sym (goes-stop one alone (begins_at one alone k) k more0 m)) f;
          }
      by false e =
          let q = begins-at reader leaf text place h k le e in
          subst (λ t. GoesOn t (begins_at one alone k) k) (sym q)
          (placed_goes (begins_at one alone k) k le (onward k) (begins-shaped one alone k (from one alone k)) (subst (Shaped reader leaf) q (begins-shaped reader leaf (place k) (from reader leaf (place k)))))

  plain_end_is : (n k : ℕ) → k ≤ length text → Ended k → (plain_end reader leaf n (place k) ≡ place (plain_end one alone n k)) × Ended (plain_end one alone n k)
  plain_end_is zero k le e = (refl, e)
  plain_end_is (suc n) k le e =
      let g = begins_goes k le in
      (g.same (plain_end reader leaf n) (plain_end one alone n) (λ x a b. (plain_end_is n x a b).0), g.ends (plain_end one alone n) e (λ x a b. (plain_end_is n x a b).1))

  longest_is : (t0 : Token) (k : ℕ) → Onward one alone (length text) turn k t0 → Shaped one alone t0 → Shaped reader leaf (placed place t0) → longest reader leaf (placed place t0) ≡ placed place (longest one alone t0)
  longest_is t0 k o s p = grind (arith, from-place, from-text, plain_end_is)

  -- the token there, except for markup that is searched in the source
  pub token-at : (k : ℕ) → k ≤ length text → may_open_markup reader.options.email_autolinks (drop k text) ≡ false → token reader leaf (place k) ≡ placed place (token one alone k)
  unfolding token
  token-at k le none = grind (arith, begins-at, longest_is, onward, begins-shaped)

-- plain bytes, up to an offset at which no plain byte begins, are one text
module _ (reader : Reader) (leaf : Leaf) where
  plain_reaches : (n at to : ℕ) → at ≤ to → to - at ≤ n → ((k : ℕ) → at ≤ k → k < to → StandsUpTo reader leaf k to) → StopsAt reader leaf to → plain_end reader leaf n at ≡ to
  plain_reaches zero at to le few all stops = omega arith
  plain_reaches (suc n) at to le few all stops = go (le_or to at) (λ end a b. plain_reaches n end to b (omega arith) (λ k c d. all k (omega arith) d) stops)
    where
      go : (to ≤ at) ⊎ (at < to) → ((end : ℕ) → at < end → end ≤ to → plain_end reader leaf n end ≡ to) → plain_end reader leaf (suc n) at ≡ to
      go (inl a) later = subst (λ k. plain_end reader leaf (suc n) k ≡ to) (let e : to ≡ at = omega arith in e) (stops (plain_end reader leaf n))
      go (inr a) later =
          let s = all at (omega arith) a in
          ap (λ t. goes_on reader leaf t at (plain_end reader leaf n)) s.token ∙ ap (λ z. if z then plain_end reader leaf n s.end else at) (eq-eqb at at refl) ∙ later s.end s.further s.within

  pub one-text : (at start end to : ℕ) → begins_at reader leaf at ≡ item_at Plain start end → end ≤ to → to - end ≤ length (from reader leaf end) → ((k : ℕ) → end ≤ k → k < to → StandsUpTo reader leaf k to) → StopsAt reader leaf to
      → token reader leaf at ≡ item_at Plain start to
  unfolding token
  one-text at start end to e le few all stops = ap (longest reader leaf) e ∙ ap (item_at Plain start) (plain_reaches (length (from reader leaf end)) end to le few all stops)
