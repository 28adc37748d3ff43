-- The end of inline HTML.
use Rattle.std.proofs.Common.{◌≡◌, ◌⊎◌, inl, inr, true≢false, ℕ, suc, ◌+◌, ◌-◌, ◌<◌, Bool, true, false, if◌then◌else◌, List, length, drop, Option, None, Some, refl, sym, ap, ◌∙◌, arith, length-drop, drop-drop}
use Rattle.std.specs.Prelude.{codes, option_map}
use Rattle.std.specs.Str.{IsUtf8, IsCharBoundary}
use Rattle.cmark_grammar.specs.InlineHtml.{opened_in, find_with, comment_find, processing_find, after_opened, after_inline_html, after_markup}
use Rattle.cmark_grammar.specs.Letters.{starts, after_first_of}
use Rattle.cmark_grammar.specs.Tags.{after_tag, no_prefix}
use Rattle.cmark_scan_bytes.proofs.Endings.{IsAfter, following-rest, following-boundary, tag-following, opened-following, processing-following}

-- the offset after the byte
rest_place : (text r : List ℕ) → IsAfter 62 text r → drop (length text - length r) text ≡ r
rest_place text r h =
    let n = ap length h.rest in let l = length-drop (suc h.place) text in let lt = h.inside in
    ap (λ k. drop k text) (let e : length text - length r ≡ suc h.place = omega arith in e) ∙ sym h.rest

-- the result of a find
find_in : (text : List ℕ) (at : ℕ) (o : Option (Option (List ℕ))) → ((r : List ℕ) → o ≡ Some (Some r) → IsAfter 62 (drop at text) r) → option_map (λ end. drop end text) (find_with text at o).end ≡ after_opened o
find_in text at None h = refl
find_in text at (Some None) h = refl
find_in text at (Some (Some r)) h = ap Some (rest_place text r (following-rest 62 text (drop at text) r (at, refl) (h r refl)))

module _ (text : List ℕ) (at : ℕ) where
  pub rest_is : (r : List ℕ) → IsAfter 62 (drop at text) r → drop (length text - length r) text ≡ r
  rest_is r h = rest_place text r (following-rest 62 text (drop at text) r (at, refl) h)

  pub rest_further : (r : List ℕ) → IsAfter 62 (drop at text) r → at < length text - length r
  rest_further r h =
      let n = ap length h.rest in let l = length-drop (suc h.place) (drop at text) in let m = length-drop at text in let lt = h.inside in
      omega arith

  -- after a tag
  module _ (rest r : List ℕ) (cut : rest ≡ drop at text) (is : Some r ≡ after_tag no_prefix rest) where
    tag : IsAfter 62 (drop at text) r
    tag = tag-following no_prefix (drop at text) r (ap (after_tag no_prefix) (sym cut) ∙ sym is)

    pub tag_value : Some (drop (length text - length r) text) ≡ after_tag no_prefix (drop at text)
    tag_value = ap Some (rest_is r tag) ∙ is ∙ ap (after_tag no_prefix) cut

    pub tag_further : at < length text - length r
    tag_further = rest_further r tag

    pub tag_ends : IsUtf8 text → IsCharBoundary text (length text - length r)
    tag_ends utf8 = following-boundary 62 text r (omega arith) utf8 (following-rest 62 text (drop at text) r (at, refl) tag)

  -- the choice by the bytes that open the markup
  abbrev pub chosen : (opens instructs : Bool) → Option (List ℕ)
  chosen opens instructs =
      if opens then after_opened (opened_in (drop 2 (drop at text))) else if instructs then after_first_of (codes "?>") (drop 2 (drop at text)) else after_tag no_prefix (drop at text)

  module _ (rest : List ℕ) (cut : rest ≡ drop at text) where
    inside : drop (at + 2) text ≡ drop 2 (drop at text)
    inside = sym (drop-drop 2 at text)

    pub markup_value : (bytes : List ℕ) (end : Option ℕ) → bytes ≡ text → starts (codes "<!") rest ≡ true → end ≡ (comment_find bytes (at + 2)).end → option_map (λ end. drop end text) end ≡ after_inline_html (drop at text)
    markup_value bytes end same opens is =
        ap (option_map (λ end. drop end text)) (is ∙ ap (λ bs. (comment_find bs (at + 2)).end) same)
        ∙ find_in text (at + 2) (opened_in (drop (at + 2) text)) (opened-following (drop (at + 2) text))
        ∙ ap (λ bs. after_opened (opened_in bs)) inside
        ∙ sym (ap (λ t. chosen t (starts (codes "<?") (drop at text))) (ap (starts (codes "<!")) (sym cut) ∙ opens))

    pub instruction_value : (bytes : List ℕ) (end : Option ℕ) → bytes ≡ text → starts (codes "<!") rest ≡ false → starts (codes "<?") rest ≡ true → end ≡ (processing_find bytes (at + 2)).end
        → option_map (λ end. drop end text) end ≡ after_inline_html (drop at text)
    instruction_value bytes end same other opens is =
        ap (option_map (λ end. drop end text)) (is ∙ ap (λ bs. (processing_find bs (at + 2)).end) same)
        ∙ find_in text (at + 2) (Some (after_first_of (codes "?>") (drop (at + 2) text))) (λ r e. processing-following (drop (at + 2) text) r cc)
        ∙ ap (after_first_of (codes "?>")) inside
        ∙ sym (ap (λ t. chosen t (starts (codes "<?") (drop at text))) (ap (starts (codes "<!")) (sym cut) ∙ other) ∙ ap (chosen false) (ap (starts (codes "<?")) (sym cut) ∙ opens))

    pub other_value : (r : List ℕ) → Some r ≡ after_tag no_prefix rest → starts (codes "<!") rest ≡ false → starts (codes "<?") rest ≡ false → Some (drop (length text - length r) text) ≡ after_inline_html (drop at text)
    other_value r is one two =
        tag_value rest r cut is
        ∙ sym (ap (λ t. chosen t (starts (codes "<?") (drop at text))) (ap (starts (codes "<!")) (sym cut) ∙ one) ∙ ap (chosen false) (ap (starts (codes "<?")) (sym cut) ∙ two))

    -- if markup opens, inline HTML is markup
    pub is_markup : (opens instructs : Bool) → starts (codes "<!") rest ≡ opens → starts (codes "<?") rest ≡ instructs → (opens ≡ true) ⊎ (instructs ≡ true) → after_inline_html (drop at text) ≡ after_markup (drop at text)
    is_markup true instructs a b h =
        ap (λ t. chosen t (starts (codes "<?") (drop at text))) (ap (starts (codes "<!")) (sym cut) ∙ a)
        ∙ sym (ap (λ t. if t then after_opened (opened_in (drop 2 (drop at text))) else if starts (codes "<?") (drop at text) then after_first_of (codes "?>") (drop 2 (drop at text)) else None) (ap (starts (codes "<!")) (sym cut) ∙ a))
    is_markup false true a b h =
        ap (λ t. chosen t (starts (codes "<?") (drop at text))) (ap (starts (codes "<!")) (sym cut) ∙ a)
        ∙ ap (chosen false) (ap (starts (codes "<?")) (sym cut) ∙ b)
        ∙ sym (ap (λ t. if t then after_opened (opened_in (drop 2 (drop at text))) else if starts (codes "<?") (drop at text) then after_first_of (codes "?>") (drop 2 (drop at text)) else None) (ap (starts (codes "<!")) (sym cut) ∙ a)
        ∙ ap (λ t. if t then after_first_of (codes "?>") (drop 2 (drop at text)) else None) (ap (starts (codes "<?")) (sym cut) ∙ b))
    is_markup false false a b (inl h) = absurd (true≢false (sym h))
    is_markup false false a b (inr h) = absurd (true≢false (sym h))
