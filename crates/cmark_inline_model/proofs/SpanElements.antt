-- What holds of each element among siblings holds among their spans.
use Rattle.std.specs.Prelude.{zero, suc, ◌-◌, get_or, drop, encode_utf8}
use Rattle.std.proofs.Common.{◌≡◌, ℕ, ◌+◌, List, [], ◌∷◌, Option, Some, None, refl, arith, rules}
use Rattle.cmark_grammar.specs.Items.{Autolink, Written, Item}
use Rattle.cmark_grammar.specs.Options.{Options}
use Rattle.cmark_grammar.specs.Siblings.{Inline, Nil, Single, Around, append, item, with_characters, element, item_then, address_link, from_place, display_from}
use Rattle.cmark_inline_model.specs.RunSpans.{put_gap, no_gaps, gaps_of, no_item, dressed}
use Rattle.cmark_inline_model.specs.SiblingsModel.{dress}
use Rattle.cmark_grammar.specs.Spans as spans
use Rattle.cmark_grammar.specs.Spans.{SpanKind, span_tag, span_width, Spans}
use Rattle.cmark_grammar.specs.Tag.{Tag, Link}
use Rattle.cmark_inline_model.proofs.KindViews.{kind-view}

-- the character of a quote, or any other item
abbrev pub quoted_then : Item → Inline → List ℕ → Inline
quoted_then x after cs = Single (item (Written (encode_utf8 (get_or cs 0 0))) x.start x.end) (with_characters after (drop 1 cs))

abbrev pub other_then : Item → Inline → List ℕ → Inline
other_then x after cs = Single x (with_characters after cs)

module _ (Holds : Tag → Inline → Type 0) where
  -- it holds of each element, with its content
  abbrev pub AllElements : Inline → Type 0
  AllElements Nil = Unit {0}
  AllElements (Single x after) = AllElements after
  AllElements (Around tag start end inside after) = Holds tag inside × AllElements inside × AllElements after

  abbrev AllGaps : List Inline → Type 0
  AllGaps [] = Unit {0}
  AllGaps (gap ∷ gaps) = AllElements gap × AllGaps gaps

  pub elements-append : (a b : Inline) → AllElements a → AllElements b → AllElements (append a b)
  elements-append Nil b h k = k
  elements-append (Single x after) b h k = elements-append after b h k
  elements-append (Around tag start end inside after) b h k = (h.0, h.1, elements-append after b h.2 k)

  characters_hold : (siblings : Inline) (cs : List ℕ) → AllElements siblings → AllElements (with_characters siblings cs)
  characters_hold Nil cs h = tt
  characters_hold (Around tag start end inside after) cs h = (h.0, h.1, characters_hold after cs h.2)
  characters_hold (Single x after) cs h = search (rules, kind-view, characters_hold after (drop 1 cs) h, characters_hold after cs h)

  put_holds : (put : Inline → Inline) (gaps : List Inline) → ((gap : Inline) → AllElements gap → AllElements (put gap)) → AllGaps gaps → AllGaps (put_gap put gaps)
  put_holds put [] keeps h = (keeps Nil tt, tt)
  put_holds put (gap ∷ gaps) keeps h = (keeps gap h.0, h.1)

  none_hold : (n : ℕ) (gaps : List Inline) → AllGaps gaps → AllGaps (no_gaps n gaps)
  none_hold zero gaps h = h
  none_hold (suc n) gaps h = (tt, none_hold n gaps h)

  gaps_hold : (siblings : Inline) → AllElements siblings → AllGaps (gaps_of siblings)
  gaps_hold Nil h = (tt, tt)
  gaps_hold (Around tag start end inside after) h = put_holds (Around tag start end inside) (gaps_of after) (λ gap k. (h.0, h.1, k)) (gaps_hold after h.2)
  gaps_hold (Single x after) h = grind (arith, kind-view, put_holds, none_hold, gaps_hold after h)

  gap_holds : (gaps : List Inline) (n : ℕ) → AllGaps gaps → AllElements (get_or gaps n Nil)
  gap_holds [] n h = tt
  gap_holds (gap ∷ gaps) zero h = h.0
  gap_holds (gap ∷ gaps) (suc n) h = gap_holds gaps n h.1

  module _ (options : Options) (spans_hold : (kind : SpanKind) (tag : Tag) (inside : Inline) → span_tag options kind ≡ Some tag → Holds tag inside) where
    dressed_hold : (gaps : List Inline) (bytes : List Item) (f : Spans) → AllGaps gaps → AllElements (dressed options gaps bytes f)
    dressed_hold gaps bytes spans.Nil h = tt
    dressed_hold gaps bytes (spans.Single at after) h = elements-append (get_or gaps (suc at) Nil) (dressed options gaps bytes after) (gap_holds gaps (suc at) h) (dressed_hold gaps bytes after h)
    dressed_hold gaps bytes (spans.Around span inside after) h = go (dressed_hold gaps bytes inside h) (dressed_hold gaps bytes after h) (span_tag options span.kind) refl
      where
        first : ℕ
        first = (get_or bytes span.start no_item).start

        last : ℕ
        last = (get_or bytes (span.end - 1) no_item).end

        inner : Inline
        inner = append (get_or gaps (span.start + span_width span.kind) Nil) (dressed options gaps bytes inside)

        others : Inline
        others = append (get_or gaps span.end Nil) (dressed options gaps bytes after)

        inner_holds : AllElements (dressed options gaps bytes inside) → AllElements inner
        inner_holds = elements-append (get_or gaps (span.start + span_width span.kind) Nil) (dressed options gaps bytes inside) (gap_holds gaps (span.start + span_width span.kind) h)

        others_hold : AllElements (dressed options gaps bytes after) → AllElements others
        others_hold = elements-append (get_or gaps span.end Nil) (dressed options gaps bytes after) (gap_holds gaps span.end h)

        go : AllElements (dressed options gaps bytes inside) → AllElements (dressed options gaps bytes after) → (tag : Option Tag) → span_tag options span.kind ≡ tag → AllElements (element tag first last inner others)
        go i j (Some tag) e = (spans_hold span.kind tag inner e, inner_holds i, others_hold j)
        go i j None e = others_hold j

    pub dress-elements : (siblings : Inline) → AllElements siblings → AllElements (dress options siblings)
    dress-elements siblings h = grind (arith, gaps_hold, characters_hold, elements-append, gap_holds, dressed_hold)

  -- ## Items and displays

  pub item-elements : (x : Item) (after : Inline) → ((address : List ℕ) (text : Item) → x.kind ≡ Autolink address → Holds (Link (address_link address)) (Single text Nil)) → AllElements after → AllElements (item_then x.kind x after)
  item-elements x after holds h = grind (arith, kind-view)

  from_holds : (place : ℕ) (siblings : Inline) → AllElements siblings → AllElements (from_place place siblings)
  from_holds place Nil h = tt
  from_holds place (Single x after) h = grind (arith, from_holds place after h)
  from_holds place (Around tag start end inside after) h = grind (arith, from_holds place after h.2)

  pub display-elements : (place end : ℕ) (siblings : Inline) → AllElements siblings → AllElements (display_from place end siblings)
  display-elements place end siblings h = grind (arith, from_holds)
