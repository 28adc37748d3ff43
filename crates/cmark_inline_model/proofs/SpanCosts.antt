-- The cost of the references of a leaf: in its spans and events at most that in its parts, and in the same order.
use Rattle.std.specs.Prelude.{zero, suc, ◌-◌, ◌==◌, nat_le, if◌then◌else◌, max, get_or, drop}
use Rattle.std.proofs.Common.{◌≡◌, ℕ, ◌+◌, ◌<◌, ◌≤◌, Bool, true, false, List, [], ◌∷◌, ◌++◌, length, Option, Some, None, refl, sym, ap, subst, arith, ◌∙◌, append_assoc, append-nil, rules}
use Rattle.cmark_grammar.specs.BracketDecisions.{linked as leading}
use Rattle.cmark_grammar.specs.Emphasis.{StandFrom, places_taken}
use Rattle.cmark_inline_model.specs.EmphasisModel.{spans_of}
use Rattle.cmark_grammar.specs.Event.{Start, End, Ranged}
use Rattle.cmark_grammar.specs.InlineReading.{inline_events, over}
use Rattle.cmark_grammar.specs.Items.{ItemKind, Own, Item}
use Rattle.cmark_grammar.specs.LinkType.{WikiLink}
use Rattle.cmark_grammar.specs.Options.{Options}
use Rattle.cmark_grammar.specs.Parts.{Parts, Nil as NoParts, Single as SinglePart, Form, Closing, Opening, Linking, Footnote, Wiki}
use Rattle.cmark_grammar.specs.Quotes.{quote_characters}
use Rattle.cmark_grammar.specs.Siblings.{Inline, Nil, Single, Around, append, item, quotes_of, with_characters, with_quotes, element, item_then, footnote_then, tag_by, wiki_tag, from_place, display_from, address_link}
use Rattle.cmark_inline_model.specs.RunSpans.{run_then, runs_from, run_bytes, put_gap, no_gaps, gap_then, gaps_of, no_item, dressed}
use Rattle.cmark_inline_model.specs.SiblingsModel.{dress, siblings_of, spans_in}
use Rattle.cmark_grammar.specs.Spans as spans
use Rattle.cmark_grammar.specs.Spans.{SpanKind, span_tag, span_width, Spans, TakePlaces}
use Rattle.cmark_grammar.specs.Tag.{Tag, Linked}
use Rattle.cmark_grammar.specs.TagEnd.{end_of}
use Rattle.cmark_inline_model.proofs.SpanPlaces.{places}
use Rattle.cmark_inline_model.specs.ReferenceExpansion.{costs}
use Rattle.cmark_inline_model.specs.ReadingLinks.{LinkEvent, Begins, of_tag, own_cost, costs_by, reference_costs}
use Rattle.cmark_inline_model.proofs.CostLists.{Fewer, fewer-same, fewer-then, fewer-following, fewer-both}
use Rattle.cmark_inline_model.proofs.KindViews.{KindView, AQuote, ARun, AnAutolink, AText, kind-view}
use Rattle.cmark_inline_model.proofs.LinkSpans.{TagView, tag-view, span-neither, item-neither}
use Rattle.cmark_inline_model.proofs.SpanElements.{quoted_then, other_then}

abbrev pub begun_cost : LinkEvent → List ℕ
begun_cost (Begins is_image linked) = own_cost linked
begun_cost _ = []

three : (a b c d : List ℕ) → (a ++ (b ++ c)) ++ d ≡ a ++ (b ++ (c ++ d))
three a b c d = append_assoc a (b ++ c) d ∙ ap (λ l. a ++ l) (append_assoc b c d)

-- ## The places of the runs

pub runs-stand : (siblings : Inline) (n : ℕ) → StandFrom n (runs_from siblings n)
runs-stand Nil n = tt
runs-stand (Around tag start end inside after) n = runs-stand after n
runs-stand (Single x after) n = go (λ m. runs-stand after m) x.kind (kind-view x.kind)
  where
    go : ((m : ℕ) → StandFrom m (runs_from after m)) → (kind : ItemKind) → KindView kind → StandFrom n (run_then n kind (runs_from after))
    go i kind h = grind arith

put_size : (put : Inline → Inline) (gaps : List Inline) (m : ℕ) → length gaps ≡ suc m → length (put_gap put gaps) ≡ suc m
put_size put [] m e = cc
put_size put (gap ∷ gaps) m e = e

none_size : (n : ℕ) (gaps : List Inline) → length (no_gaps n gaps) ≡ n + length gaps
none_size zero gaps = omega arith
none_size (suc n) gaps = let i = none_size n gaps in omega arith

gaps_size : (siblings : Inline) (n : ℕ) → length (gaps_of siblings) ≡ suc (places_taken (runs_from siblings n))
gaps_size Nil n = refl
gaps_size (Around tag start end inside after) n = put_size (Around tag start end inside) (gaps_of after) (places_taken (runs_from after n)) (gaps_size after n)
gaps_size (Single x after) n = go (λ m. gaps_size after m) x.kind (kind-view x.kind)
  where
    put : length (gaps_of after) ≡ suc (places_taken (runs_from after n)) → length (put_gap (Single x) (gaps_of after)) ≡ suc (places_taken (runs_from after n))
    put e = put_size (Single x) (gaps_of after) (places_taken (runs_from after n)) e

    go : ((m : ℕ) → length (gaps_of after) ≡ suc (places_taken (runs_from after m))) → (kind : ItemKind) → KindView kind
        → length (gap_then kind x (gaps_of after)) ≡ suc (places_taken (run_then n kind (runs_from after)))
    go i kind h = grind (arith, none_size, put)

pub takes-up : (f : Spans) (n m : ℕ) → TakePlaces n f m → n ≤ m
takes-up spans.Nil n m h = omega (arith, h)
takes-up (spans.Single at after) n m h = let i = takes-up after (suc n) m h.1 in omega arith
takes-up (spans.Around span inside after) n m h =
    let i = takes-up inside (n + span_width span.kind) h.mid h.inside in let j = takes-up after span.end m h.after in let e = h.end in omega arith

pub width-some : (kind : SpanKind) → 0 < span_width kind
width-some kind = grind arith

-- ## What elements are priced at

-- a price for elements, and one for what links and images lead by: nothing for spans of emphasis, autolinks and wikilinks
pub record IsPriced (priced : Tag → (end : ℕ) → List ℕ) (price : Linked → (end : ℕ) → List ℕ) : Type 0 where
  pub span : (options : Options) (kind : SpanKind) (tag : Tag) (end : ℕ) → span_tag options kind ≡ Some tag → priced tag end ≡ []
  pub linked : (is_image : Bool) (linked : Linked) (end : ℕ) → priced (tag_by is_image linked) end ≡ price linked end
  pub autolink : (uri : List ℕ) (end : ℕ) → price (address_link uri) end ≡ []
  pub wiki : (name : List ℕ) (has_pothole : Bool) (end : ℕ) → price (leading (WikiLink has_pothole) (record { url = name; title = [] }) []) end ≡ []

module _ (priced : Tag → (end : ℕ) → List ℕ) (price : Linked → (end : ℕ) → List ℕ) (is_priced : IsPriced priced price) where
  -- the prices of the links and images of parts, in the order of their closing brackets
  abbrev pub prices : Parts → List ℕ
  prices NoParts = []
  prices (SinglePart x after) = prices after
  prices (Form opener inside closer (Linking target) after) = prices inside ++ (price target.linked target.end ++ prices after)
  prices (Form opener inside closer (Footnote label end) after) = prices inside ++ prices after
  prices (Form opener inside closer (Wiki name display end) after) = prices inside ++ prices after
  prices (Closing closer after) = prices after
  prices (Opening opener after) = prices after

  -- in the order in which the elements end
  abbrev pub priced_in : Inline → List ℕ
  priced_in Nil = []
  priced_in (Single x after) = priced_in after
  priced_in (Around tag start end inside after) = priced_in inside ++ (priced tag end ++ priced_in after)

  -- ## Siblings and gaps

  costs_append : (a b : Inline) → priced_in (append a b) ≡ priced_in a ++ priced_in b
  costs_append Nil b = refl
  costs_append (Single x after) b = costs_append after b
  costs_append (Around tag start end inside after) b =
      ap (λ l. priced_in inside ++ (priced tag end ++ l)) (costs_append after b) ∙ sym (three (priced_in inside) (priced tag end) (priced_in after) (priced_in b))

  costs_quoted : (siblings : Inline) (cs : List ℕ) → priced_in (with_characters siblings cs) ≡ priced_in siblings
  costs_quoted Nil cs = refl
  costs_quoted (Around tag start end inside after) cs = ap (λ l. priced_in inside ++ (priced tag end ++ l)) (costs_quoted after cs)
  costs_quoted (Single x after) cs = search (rules, kind-view, quoted_then, other_then, costs_quoted after (drop 1 cs), costs_quoted after cs)

  abbrev gathered : List Inline → List ℕ
  gathered [] = []
  gathered (gap ∷ gaps) = priced_in gap ++ gathered gaps

  gathered_none : (n : ℕ) (gaps : List Inline) → gathered (no_gaps n gaps) ≡ gathered gaps
  gathered_none zero gaps = refl
  gathered_none (suc n) gaps = gathered_none n gaps

  gathered_single : (x : Item) (gaps : List Inline) → gathered (put_gap (Single x) gaps) ≡ gathered gaps
  gathered_single x [] = refl
  gathered_single x (gap ∷ gaps) = refl

  gathered_around : (tag : Tag) (start end : ℕ) (inside : Inline) (gaps : List Inline) → gathered (put_gap (Around tag start end inside) gaps) ≡ priced_in inside ++ (priced tag end ++ gathered gaps)
  gathered_around tag start end inside [] = append-nil (priced_in inside ++ (priced tag end ++ []))
  gathered_around tag start end inside (gap ∷ gaps) = three (priced_in inside) (priced tag end) (priced_in gap) (gathered gaps)

  gathered_gaps : (siblings : Inline) → gathered (gaps_of siblings) ≡ priced_in siblings
  gathered_gaps Nil = refl
  gathered_gaps (Around tag start end inside after) =
      gathered_around tag start end inside (gaps_of after) ∙ ap (λ l. priced_in inside ++ (priced tag end ++ l)) (gathered_gaps after)
  gathered_gaps (Single x after) = grind (arith, kind-view, gathered_single, gathered_none, gathered_gaps after)

  -- ## Spans

  module _ (options : Options) (gaps : List Inline) (bytes : List Item) where
    -- the costs of `count` gaps from one on
    abbrev some_gaps : (n count : ℕ) → List ℕ
    some_gaps n zero = []
    some_gaps n (suc count) = priced_in (get_or gaps n Nil) ++ some_gaps (suc n) count

    gaps_split : (a b n : ℕ) → some_gaps n (a + b) ≡ some_gaps n a ++ some_gaps (n + a) b
    gaps_split zero b n = let e : 0 + b ≡ b = omega arith in let f : n ≡ n + 0 = omega arith in ap (some_gaps n) e ∙ ap (λ k. some_gaps k b) f
    gaps_split (suc a) b n =
        let e : suc a + b ≡ suc (a + b) = omega arith in
        let f : suc n + a ≡ n + suc a = omega arith in
        ap (some_gaps n) e
        ∙ ap (λ l. priced_in (get_or gaps n Nil) ++ l) (gaps_split a b (suc n) ∙ ap (λ k. some_gaps (suc n) a ++ some_gaps k b) f)
        ∙ sym (append_assoc (priced_in (get_or gaps n Nil)) (some_gaps (suc n) a) (some_gaps (n + suc a) b))

    -- a gap with some spans after it
    gap_then_spans : (n k : ℕ) (f : Inline) → Fewer (priced_in f) (some_gaps (suc n) k) → Fewer (priced_in (append (get_or gaps n Nil) f)) (some_gaps n (suc k))
    gap_then_spans n k f h = search (rules, costs_append, fewer-both, fewer-same)

    element_costs : (kind : SpanKind) (start end : ℕ) (inside after : Inline) (first second : List ℕ) → Fewer (priced_in inside) first → Fewer (priced_in after) second
        → Fewer (priced_in (element (span_tag options kind) start end inside after)) (first ++ second)
    element_costs kind start end inside after first second h k = go (span_tag options kind) refl
      where
        go : (tag : Option Tag) → span_tag options kind ≡ tag → Fewer (priced_in (element tag start end inside after)) (first ++ second)
        go None e = fewer-following first (priced_in after) second k
        go (Some tag) e =
            subst (λ l. Fewer (priced_in inside ++ (l ++ priced_in after)) (first ++ second)) (sym (is_priced.span options kind tag end e))
            (fewer-both (priced_in inside) first (priced_in after) second h k)

    dressed_costs : (f : Spans) (n m : ℕ) → TakePlaces n f m → Fewer (priced_in (dressed options gaps bytes f)) (some_gaps (suc n) (m - n))
    dressed_costs spans.Nil n m h = record { less = omega arith; within = λ limit spent w. tt }
    dressed_costs (spans.Single at after) n m h =
        let up = takes-up after (suc n) m h.1 in
        let i = gap_then_spans (suc n) (m - suc n) (dressed options gaps bytes after) (dressed_costs after (suc n) m h.1) in
        let e : suc (m - suc n) ≡ m - n = omega arith in
        let s : suc n ≡ suc at = ap suc (sym h.0) in
        subst (λ k. Fewer (priced_in (append (get_or gaps k Nil) (dressed options gaps bytes after))) (some_gaps (suc n) (m - n))) s
        (subst (λ c. Fewer (priced_in (append (get_or gaps (suc n) Nil) (dressed options gaps bytes after))) (some_gaps (suc n) c)) e i)
    dressed_costs (spans.Around span inside after) n m h =
        let w = span_width span.kind in
        let some = width-some span.kind in
        let up = takes-up inside (n + w) h.mid h.inside in
        let on = takes-up after span.end m h.after in
        let ends = h.end in
        let a = h.mid - (n + w) in
        let b = m - span.end in
        let starts : n + w ≡ span.start + w = ap (λ k. k + w) (sym h.start) in
        let inner =
        subst (λ k. Fewer (priced_in (append (get_or gaps k Nil) (dressed options gaps bytes inside))) (some_gaps (n + w) (suc a))) starts
        (gap_then_spans (n + w) a (dressed options gaps bytes inside) (dressed_costs inside (n + w) h.mid h.inside)) in
        let others = gap_then_spans span.end b (dressed options gaps bytes after) (dressed_costs after span.end m h.after) in
        let counts : m - n ≡ (w - 1) + (suc a + ((w - 1) + suc b)) = omega arith in
        let e : suc n + (w - 1) ≡ n + w = omega arith in
        let f : (n + w) + suc a ≡ suc h.mid = omega arith in
        let g : suc h.mid + (w - 1) ≡ span.end = omega arith in
        let split : some_gaps (suc n) (m - n) ≡ some_gaps (suc n) (w - 1) ++ (some_gaps (n + w) (suc a) ++ (some_gaps (suc h.mid) (w - 1) ++ some_gaps span.end (suc b))) = cc (gaps_split (w - 1) (suc a + ((w - 1) + suc b)) (suc n), gaps_split (suc a) ((w - 1) + suc b) (n + w), gaps_split (w - 1) (suc b) (suc h.mid)) in
        let whole =
        element_costs span.kind (get_or bytes span.start no_item).start (get_or bytes (span.end - 1) no_item).end
        (append (get_or gaps (span.start + w) Nil) (dressed options gaps bytes inside))
        (append (get_or gaps span.end Nil) (dressed options gaps bytes after))
        (some_gaps (n + w) (suc a)) (some_gaps (suc h.mid) (w - 1) ++ some_gaps span.end (suc b))
        inner (fewer-following (some_gaps (suc h.mid) (w - 1)) _ (some_gaps span.end (suc b)) others) in
        subst (Fewer (priced_in (dressed options gaps bytes (spans.Around span inside after)))) (sym split) (fewer-following (some_gaps (suc n) (w - 1)) _ _ whole)

  gaps_shift : (options : Options) (bytes : List Item) (gap : Inline) (gaps : List Inline) (n count : ℕ) → some_gaps options (gap ∷ gaps) bytes (suc n) count ≡ some_gaps options gaps bytes n count
  gaps_shift options bytes gap gaps n zero = refl
  gaps_shift options bytes gap gaps n (suc count) = ap (λ l. priced_in (get_or gaps n Nil) ++ l) (gaps_shift options bytes gap gaps (suc n) count)

  gaps_all : (options : Options) (bytes : List Item) (gaps : List Inline) (count : ℕ) → length gaps ≡ count → some_gaps options gaps bytes 0 count ≡ gathered gaps
  gaps_all options bytes [] zero e = refl
  gaps_all options bytes [] (suc count) e = cc
  gaps_all options bytes (gap ∷ gaps) zero e = cc
  gaps_all options bytes (gap ∷ gaps) (suc count) e = ap (λ l. priced_in gap ++ l) (gaps_shift options bytes gap gaps 0 count ∙ gaps_all options bytes gaps count (let f : length gaps ≡ count = cc in f))

  module _ (options : Options) where
    dress_costs : (siblings : Inline) → Fewer (priced_in (dress options siblings)) (priced_in siblings)
    dress_costs siblings =
        let quoted = with_quotes siblings in
        let gaps = gaps_of quoted in
        let bytes = run_bytes quoted in
        let n = places_taken (runs_from quoted 0) in
        let own = dressed_costs options gaps bytes (spans_of (runs_from quoted 0)) 0 n (places (runs_from quoted 0) (runs-stand quoted 0)) in
        let e : n - 0 ≡ n = omega arith in
        let whole = gap_then_spans options gaps bytes 0 n (dressed options gaps bytes (spans_of (runs_from quoted 0)))
        (subst (λ c. Fewer (priced_in (dressed options gaps bytes (spans_of (runs_from quoted 0)))) (some_gaps options gaps bytes 1 c)) e own) in
        subst (Fewer (priced_in (dress options siblings)))
        (gaps_all options bytes gaps (suc n) (gaps_size quoted 0) ∙ gathered_gaps quoted ∙ costs_quoted siblings (quote_characters [] (quotes_of siblings))) whole

    item_costs : (x : Item) (after : Inline) → priced_in (item_then x.kind x after) ≡ priced_in after
    item_costs x after = go x.kind (kind-view x.kind)
      where
        go : (kind : ItemKind) → KindView kind → priced_in (item_then kind x after) ≡ priced_in after
        go _ (AQuote quote) = refl
        go _ (ARun run) = refl
        go _ (AnAutolink uri) = ap (λ l. l ++ priced_in after) (is_priced.linked false (address_link uri) x.end ∙ is_priced.autolink uri x.end)
        go _ (AText kind t) = ap priced_in (t.item x after)

    from_costs : (place : ℕ) (siblings : Inline) → Fewer (priced_in (from_place place siblings)) (priced_in siblings)
    from_costs place Nil = fewer-same []
    from_costs place (Single x after) = grind (arith, fewer-same, from_costs place after)
    from_costs place (Around tag start end inside after) = go (nat_le end place) (from_costs place after)
      where
        go : (b : Bool) → Fewer (priced_in (from_place place after)) (priced_in after) → Fewer (priced_in (if b then from_place place after else Around tag (max start place) end inside after)) (priced_in (Around tag start end inside after))
        go true i = search (rules, fewer-following)
        go false i = fewer-same (priced_in (Around tag start end inside after))

    display_costs : (place end : ℕ) (siblings : Inline) → Fewer (priced_in (display_from place end siblings)) (priced_in siblings)
    display_costs place end siblings = go (place == end)
      where
        go : (b : Bool) → Fewer (priced_in (if b then Single (item Own place place) Nil else from_place place siblings)) (priced_in siblings)
        go true = record { less = omega arith; within = λ limit spent w. tt }
        go false = from_costs place siblings

    footnote_costs : (is_image : Bool) (start : ℕ) (label : List ℕ) (end : ℕ) (others : Inline) → priced_in (footnote_then is_image start label end others) ≡ priced_in others
    footnote_costs true start label end others = refl
    footnote_costs false start label end others = refl

    wiki_costs : (is_image : Bool) (name : List ℕ) (has_pothole : Bool) (end : ℕ) → priced (wiki_tag is_image name has_pothole) end ≡ []
    wiki_costs is_image name has_pothole end = is_priced.linked is_image (leading (WikiLink has_pothole) (record { url = name; title = [] }) []) end ∙ is_priced.wiki name has_pothole end

    siblings_costs : (parts : Parts) → Fewer (priced_in (siblings_of options parts)) (prices parts)
    siblings_costs NoParts = fewer-same []
    siblings_costs (SinglePart x after) = subst (λ l. Fewer l (prices after)) (sym (item_costs x (siblings_of options after))) (siblings_costs after)
    siblings_costs (Form opener inside closer (Linking target) after) =
        let inner = siblings_of options inside in
        subst (λ l. Fewer (priced_in (dress options inner) ++ (l ++ priced_in (siblings_of options after))) (prices inside ++ (price target.linked target.end ++ prices after))) (sym (is_priced.linked opener.is_image target.linked target.end))
        (fewer-both (priced_in (dress options inner)) (prices inside) (price target.linked target.end ++ priced_in (siblings_of options after)) (price target.linked target.end ++ prices after)
        (fewer-then (priced_in (dress options inner)) (priced_in inner) (prices inside) (dress_costs inner) (siblings_costs inside))
        (fewer-both (price target.linked target.end) (price target.linked target.end) (priced_in (siblings_of options after)) (prices after) (fewer-same (price target.linked target.end)) (siblings_costs after)))
    siblings_costs (Form opener inside closer (Footnote label end) after) =
        subst (λ l. Fewer l (prices inside ++ prices after)) (sym (footnote_costs opener.is_image opener.start label end (siblings_of options after)))
        (fewer-following (prices inside) (priced_in (siblings_of options after)) (prices after) (siblings_costs after))
    siblings_costs (Form opener inside closer (Wiki name None end) after) =
        subst (λ l. Fewer (l ++ priced_in (siblings_of options after)) (prices inside ++ prices after)) (sym (wiki_costs opener.is_image name false end))
        (fewer-following (prices inside) (priced_in (siblings_of options after)) (prices after) (siblings_costs after))
    siblings_costs (Form opener inside closer (Wiki name (Some place) end) after) =
        let inner = siblings_of options inside in
        let display = display_from place closer.start inner in
        subst (λ l. Fewer (priced_in (dress options display) ++ (l ++ priced_in (siblings_of options after))) (prices inside ++ prices after)) (sym (wiki_costs opener.is_image name true end))
        (fewer-both (priced_in (dress options display)) (prices inside) (priced_in (siblings_of options after)) (prices after)
        (fewer-then (priced_in (dress options display)) (priced_in display) (prices inside) (dress_costs display) (fewer-then (priced_in display) (priced_in inner) (prices inside) (display_costs place closer.start inner) (siblings_costs inside)))
        (siblings_costs after))
    siblings_costs (Closing closer after) = siblings_costs after
    siblings_costs (Opening opener after) = siblings_costs after

    pub spans-priced : (parts : Parts) → Fewer (priced_in (spans_in options parts)) (prices parts)
    spans-priced parts = fewer-then (priced_in (spans_in options parts)) (priced_in (siblings_of options parts)) (prices parts) (dress_costs (siblings_of options parts)) (siblings_costs parts)

-- ## What references cost

abbrev pub own_priced : Tag → (end : ℕ) → List ℕ
own_priced tag end = begun_cost (of_tag tag)

abbrev pub own_price : Linked → (end : ℕ) → List ℕ
own_price linked end = own_cost linked

-- an autolink costs nothing
pub address-free : (address : List ℕ) → own_cost (address_link address) ≡ []
address-free address = grind arith

pub own_is_priced : IsPriced own_priced own_price
own_is_priced = grind (arith, span-neither, address-free)

-- in the order in which the elements end
abbrev pub costs_in : Inline → List ℕ
costs_in spans = priced_in own_priced own_price own_is_priced spans

own_prices : (parts : Parts) → prices own_priced own_price own_is_priced parts ≡ costs parts
own_prices NoParts = refl
own_prices (SinglePart x after) = own_prices after
own_prices (Form opener inside closer (Linking target) after) =
    ap (λ l. l ++ (own_cost target.linked ++ prices own_priced own_price own_is_priced after)) (own_prices inside) ∙ ap (λ l. costs inside ++ (own_cost target.linked ++ l)) (own_prices after)
own_prices (Form opener inside closer (Footnote label end) after) =
    ap (λ l. l ++ prices own_priced own_price own_is_priced after) (own_prices inside) ∙ ap (λ l. costs inside ++ l) (own_prices after)
own_prices (Form opener inside closer (Wiki name display end) after) =
    ap (λ l. l ++ prices own_priced own_price own_is_priced after) (own_prices inside) ∙ ap (λ l. costs inside ++ l) (own_prices after)
own_prices (Closing closer after) = own_prices after
own_prices (Opening opener after) = own_prices after

pub spans-costs : (options : Options) (parts : Parts) → Fewer (costs_in (spans_in options parts)) (costs parts)
spans-costs options parts = subst (Fewer (costs_in (spans_in options parts))) (own_prices parts) (spans-priced own_priced own_price own_is_priced options parts)

-- ## Events

pub events-costs : (source : List ℕ) (spans : Inline) (begun : List (List ℕ)) (rest : List Ranged) → reference_costs begun (inline_events source spans ++ rest) ≡ costs_in spans ++ reference_costs begun rest
events-costs source Nil begun rest = refl
events-costs source (Single x after) begun rest =
    ap (λ l. costs_by l begun (λ more. reference_costs more (inline_events source after ++ rest))) (item-neither source x x.kind) ∙ events-costs source after begun rest
events-costs source (Around t start end inside after) begun rest =
    ap (λ es. reference_costs begun (over source start end (Start t) ∷ es)) (append_assoc (inline_events source inside) (last ∷ inline_events source after) rest)
    ∙ go (λ up. events-costs source inside up more) (events-costs source after begun rest) (tag-view t)
  where
    last : Ranged
    last = over source start end (End (end_of t))

    more : List Ranged
    more = last ∷ (inline_events source after ++ rest)

    go : ((up : List (List ℕ)) → reference_costs up (inline_events source inside ++ more) ≡ costs_in inside ++ reference_costs up more)
        → reference_costs begun (inline_events source after ++ rest) ≡ costs_in after ++ reference_costs begun rest → TagView t
        → costs_by (of_tag t) begun (λ up. reference_costs up (inline_events source inside ++ more)) ≡ (costs_in inside ++ (begun_cost (of_tag t) ++ costs_in after)) ++ reference_costs begun rest
    go inner others h = grind (arith, more, three)
