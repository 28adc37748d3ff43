-- Links and images of a leaf's parts, of its spans, and of its events.
use Rattle.std.specs.Prelude.{zero, suc, ◌&&◌, ◌||◌, not, ◌<◌}
use Rattle.std.proofs.Common.{◌≡◌, ℕ, Bool, true, false, List, [], ◌∷◌, ◌++◌, Some, None, refl, sym, subst, arith, append_assoc}
use Rattle.cmark_grammar.specs.BracketDecisions.{linked}
use Rattle.cmark_grammar.specs.Event.{Start, End, Ranged}
use Rattle.cmark_grammar.specs.InlineReading.{event_of, inline_events, over}
use Rattle.cmark_grammar.specs.Items.{ItemKind, Item}
use Rattle.cmark_grammar.specs.LinkType.{WikiLink}
use Rattle.cmark_grammar.specs.Options.{Options}
use Rattle.cmark_grammar.specs.Parts.{Parts, Nil as NoParts, Single as SinglePart, Form, Closing, Opening, Linking, Footnote, Wiki}
use Rattle.cmark_grammar.specs.Questions.{Exchange}
use Rattle.cmark_grammar.specs.Readers.{Reader}
use Rattle.cmark_grammar.specs.Siblings.{Inline, Nil, Single, Around, tag_by, footnote_then, name_text, display_from, address_type, address_link}
use Rattle.cmark_inline_model.specs.SiblingsModel.{dress, siblings_of, spans_in}
use Rattle.cmark_grammar.specs.Spans.{SpanKind, span_tag}
use Rattle.cmark_grammar.specs.Tag as tag
use Rattle.cmark_grammar.specs.Tag.{Tag, Linked, Link, Image}
use Rattle.cmark_grammar.specs.TagEnd.{end_of}
use Rattle.cmark_inline_model.specs.FormedParts.{AllFormed}
use Rattle.cmark_inline_model.specs.LinkRules.{IsLed, IsFormedRightly}
use Rattle.cmark_inline_model.specs.NestedLinks.{holds_link, HasLinksApart}
use Rattle.cmark_inline_model.specs.OptionRules.{AllItems, IsLinkGiven, IsRead}
use Rattle.cmark_inline_model.specs.ReadingLinks.{LinkEvent, Begins, Finishes, Neither, of_tag, of_end, link_event, IsOfAutolink, MayBegin, ApartBy, LinksApart, LedBy, AreLed}
use Rattle.cmark_inline_model.proofs.SpanElements.{AllElements, dress-elements, item-elements, display-elements}

-- ## Tags

-- the end of an element ends a link or an image if its tag begins one
pub data TagView (t : Tag) : Type 0 where
  ALink : (is_image : Bool) (linked : Linked) → of_tag t ≡ Begins is_image linked → of_end (end_of t) ≡ Finishes is_image → TagView t
  NoLink : of_tag t ≡ Neither → of_end (end_of t) ≡ Neither → TagView t

pub tag-view : (t : Tag) → TagView t
tag-view (tag.Link linked) = ALink false linked refl refl
tag-view (tag.Image linked) = ALink true linked refl refl
tag-view _ = NoLink refl refl

-- the destination of a wikilink
abbrev wiki_linked : (name : List ℕ) → (has_pothole : Bool) → Linked
wiki_linked name has_pothole = linked (WikiLink has_pothole) (record { url = name; title = [] }) []

-- the elements that delimiter runs become are neither
pub span-neither : (options : Options) (kind : SpanKind) (t : Tag) → span_tag options kind ≡ Some t → of_tag t ≡ Neither
span-neither options kind t e = grind arith

pub item-neither : (source : List ℕ) (x : Item) (kind : ItemKind) → link_event (event_of source x kind) ≡ Neither
item-neither source x kind = grind arith

-- ## No link in a link

-- a link, if it is one, is an autolink
abbrev IsAuto : LinkEvent → Type 0
IsAuto (Begins false linked) = IsOfAutolink linked.link_type
IsAuto _ = Unit {0}

address_auto : (address : List ℕ) → IsOfAutolink (address_type address)
address_auto address = grind arith

abbrev AreAutos : Inline → Type 0
AreAutos spans = AllElements (λ t inside. IsAuto (of_tag t)) spans

abbrev HoldsApart : LinkEvent → Inline → Type 0
HoldsApart (Begins false linked) inside = AreAutos inside
HoldsApart _ inside = Unit {0}

abbrev AreApart : Inline → Type 0
AreApart spans = AllElements (λ t inside. HoldsApart (of_tag t) inside) spans

or_left : (a b : Bool) → (a || b) ≡ false → a ≡ false
or_left true b e = cc
or_left false b e = refl

or_right : (a b : Bool) → (a || b) ≡ false → b ≡ false
or_right true b e = cc
or_right false b e = e

module _ (options : Options) where
  span_auto : (kind : SpanKind) (t : Tag) (inside : Inline) → span_tag options kind ≡ Some t → IsAuto (of_tag t)
  span_auto kind t inside e = subst IsAuto (sym (span-neither options kind t e)) tt

  span_apart : (kind : SpanKind) (t : Tag) (inside : Inline) → span_tag options kind ≡ Some t → HoldsApart (of_tag t) inside
  span_apart kind t inside e = subst (λ l. HoldsApart l inside) (sym (span-neither options kind t e)) tt

  dress_autos : (siblings : Inline) → AreAutos siblings → AreAutos (dress options siblings)
  dress_autos siblings h = dress-elements (λ t inside. IsAuto (of_tag t)) options span_auto siblings h

  footnote_autos : (is_image : Bool) (start : ℕ) (label : List ℕ) (end : ℕ) (others : Inline) → AreAutos others → AreAutos (footnote_then is_image start label end others)
  footnote_autos true start label end others h = h
  footnote_autos false start label end others h = h

  footnote_apart : (is_image : Bool) (start : ℕ) (label : List ℕ) (end : ℕ) (others : Inline) → AreApart others → AreApart (footnote_then is_image start label end others)
  footnote_apart true start label end others h = h
  footnote_apart false start label end others h = h

  image_auto : (is_image : Bool) (linked : Linked) → not is_image ≡ false → IsAuto (of_tag (tag_by is_image linked))
  image_auto true linked e = tt
  image_auto false linked e = cc

  siblings_autos : (parts : Parts) → holds_link parts ≡ false → AreAutos (siblings_of options parts)
  siblings_autos NoParts e = tt
  siblings_autos (SinglePart x after) e = item-elements (λ t inside. IsAuto (of_tag t)) x (siblings_of options after) (λ address text e. address_auto address) (siblings_autos after e)
  siblings_autos (Form opener inside closer (Linking target) after) e =
      let others = or_right (not opener.is_image) (holds_link inside || holds_link after) e in (
        image_auto opener.is_image target.linked (or_left (not opener.is_image) (holds_link inside || holds_link after) e),
        dress_autos (siblings_of options inside) (siblings_autos inside (or_left (holds_link inside) (holds_link after) others)),
        siblings_autos after (or_right (holds_link inside) (holds_link after) others),
      )
  siblings_autos (Form opener inside closer (Footnote label end) after) e =
      footnote_autos opener.is_image opener.start label end (siblings_of options after) (siblings_autos after (or_right (holds_link inside) (holds_link after) e))
  siblings_autos (Form opener inside closer (Wiki name None end) after) e =
      let others = or_right (not opener.is_image) (holds_link inside || holds_link after) e in
      (image_auto opener.is_image (wiki_linked name false) (or_left (not opener.is_image) (holds_link inside || holds_link after) e), tt, siblings_autos after (or_right (holds_link inside) (holds_link after) others))
  siblings_autos (Form opener inside closer (Wiki name (Some place) end) after) e =
      let others = or_right (not opener.is_image) (holds_link inside || holds_link after) e in
      let inner = siblings_of options inside in (
        image_auto opener.is_image (wiki_linked name true) (or_left (not opener.is_image) (holds_link inside || holds_link after) e),
        dress_autos (display_from place closer.start inner)
            (display-elements (λ t inside. IsAuto (of_tag t)) place closer.start inner (siblings_autos inside (or_left (holds_link inside) (holds_link after) others))),
        siblings_autos after (or_right (holds_link inside) (holds_link after) others),
      )
  siblings_autos (Closing closer after) e = siblings_autos after e
  siblings_autos (Opening opener after) e = siblings_autos after e

  and_false : (a b : Bool) → a ≡ true → (a && b) ≡ false → b ≡ false
  and_false true b e f = f
  and_false false b e f = cc

  image_apart : (is_image : Bool) (linked : Linked) (inside : Inline) → (not is_image ≡ true → AreAutos inside) → HoldsApart (of_tag (tag_by is_image linked)) inside
  image_apart true linked inside h = tt
  image_apart false linked inside h = h refl

  dress_apart : (siblings : Inline) → AreApart siblings → AreApart (dress options siblings)
  dress_apart siblings h = dress-elements (λ t inside. HoldsApart (of_tag t) inside) options span_apart siblings h

  siblings_apart : (parts : Parts) → HasLinksApart parts → AreApart (siblings_of options parts)
  siblings_apart NoParts h = tt
  siblings_apart (SinglePart x after) h = item-elements (λ t inside. HoldsApart (of_tag t) inside) x (siblings_of options after) (λ address text e. tt) (siblings_apart after h)
  siblings_apart (Form opener inside closer (Linking target) after) h = (
    image_apart opener.is_image target.linked (dress options (siblings_of options inside)) (λ e. dress_autos (siblings_of options inside) (siblings_autos inside (and_false (not opener.is_image) (holds_link inside) e h.0))),
    dress_apart (siblings_of options inside) (siblings_apart inside h.1),
    siblings_apart after h.2,
  )
  siblings_apart (Form opener inside closer (Footnote label end) after) h = footnote_apart opener.is_image opener.start label end (siblings_of options after) (siblings_apart after h.2)
  siblings_apart (Form opener inside closer (Wiki name None end) after) h =
      (image_apart opener.is_image (wiki_linked name false) (name_text opener closer) (λ e. tt), tt, siblings_apart after h.2)
  siblings_apart (Form opener inside closer (Wiki name (Some place) end) after) h =
      let inner = siblings_of options inside in (
        image_apart opener.is_image (wiki_linked name true) (dress options (display_from place closer.start inner))
            (λ e. dress_autos (display_from place closer.start inner)
            (display-elements (λ t inside. IsAuto (of_tag t)) place closer.start inner (siblings_autos inside (and_false (not opener.is_image) (holds_link inside) e h.0)))),
        dress_apart (display_from place closer.start inner) (display-elements (λ t inside. HoldsApart (of_tag t) inside) place closer.start inner (siblings_apart inside h.1)),
        siblings_apart after h.2,
      )
  siblings_apart (Closing closer after) h = siblings_apart after h
  siblings_apart (Opening opener after) h = siblings_apart after h

  pub spans-apart : (parts : Parts) → HasLinksApart parts → AreApart (spans_in options parts)
  spans-apart parts h = dress_apart (siblings_of options parts) (siblings_apart parts h)

-- after an event that begins or ends a link, or does neither
abbrev Onward : (rest : List Ranged) → LinkEvent → (begun : ℕ) → Type 0
Onward rest l begun = ApartBy l begun (λ n. LinksApart n rest)

module _ (source : List ℕ) where
  -- if no link contains another, and, inside open links, all are autolinks
  events_apart : (spans : Inline) (begun : ℕ) (rest : List Ranged) → AreApart spans → (0 < begun → AreAutos spans) → LinksApart begun rest → LinksApart begun (inline_events source spans ++ rest)
  events_apart Nil begun rest h autos k = k
  events_apart (Single x after) begun rest h autos k =
      subst (λ l. ApartBy l begun (λ n. LinksApart n (inline_events source after ++ rest))) (sym (item-neither source x x.kind)) (events_apart after begun rest h autos k)
  events_apart (Around t start end inside after) begun rest h autos k =
      subst (λ es. LinksApart begun (over source start end (Start t) ∷ es)) (sym (append_assoc (inline_events source inside) (last ∷ inline_events source after) rest))
      (go (λ n some w. events_apart inside n more h.1 some w) (events_apart after begun rest h.2 (λ some. (autos some).2) k) (tag-view t))
    where
      last : Ranged
      last = over source start end (End (end_of t))

      more : List Ranged
      more = last ∷ (inline_events source after ++ rest)

      may : (linked : Linked) (n : ℕ) → (0 < n → IsOfAutolink linked.link_type) → MayBegin n linked
      may linked zero f = tt
      may linked (suc n) f = f (omega arith)

      go : ((n : ℕ) → (0 < n → AreAutos inside) → LinksApart n more → LinksApart n (inline_events source inside ++ more)) → LinksApart begun (inline_events source after ++ rest)
          → TagView t → ApartBy (of_tag t) begun (λ n. LinksApart n (inline_events source inside ++ more))
      go inner following (NoLink e f) = subst (λ l. Onward (inline_events source inside ++ more) l begun) (sym e) (inner begun (λ some. (autos some).1) (subst (λ l. Onward (inline_events source after ++ rest) l begun) (sym f) following))
      go inner following (ALink true linked e f) =
          subst (λ l. Onward (inline_events source inside ++ more) l begun) (sym e) (inner begun (λ some. (autos some).1) (subst (λ l. Onward (inline_events source after ++ rest) l begun) (sym f) following))
      go inner following (ALink false linked e f) =
          subst (λ l. Onward (inline_events source inside ++ more) l begun) (sym e)
          (may linked begun (λ some. subst IsAuto e (autos some).0), inner (suc begun) (λ some. subst (λ l. HoldsApart l inside) e h.0) (subst (λ l. Onward (inline_events source after ++ rest) l (suc begun)) (sym f) following))

  pub inline-apart : (spans : Inline) (rest : List Ranged) → AreApart spans → LinksApart 0 rest → LinksApart 0 (inline_events source spans ++ rest)
  inline-apart spans rest h k = events_apart spans 0 rest h (λ some. absurd (omega arith)) k

-- ## Where they lead

module _ (reader : Reader) (asked : List Exchange) where
  abbrev AreLedSpans : Inline → Type 0
  AreLedSpans spans = AllElements (λ t inside. LedBy reader asked (of_tag t)) spans

  pub events-led : (source : List ℕ) (spans : Inline) (rest : List Ranged) → AreLedSpans spans → AreLed reader asked rest → AreLed reader asked (inline_events source spans ++ rest)
  events-led source Nil rest h k = k
  events-led source (Single x after) rest h k = (subst (LedBy reader asked) (sym (item-neither source x x.kind)) tt, events-led source after rest h k)
  events-led source (Around t start end inside after) rest h k =
      let last : Ranged = over source start end (End (end_of t)) in
      let others = events-led source after rest h.2 k in
      subst (λ es. AreLed reader asked (over source start end (Start t) ∷ es)) (sym (append_assoc (inline_events source inside) (last ∷ inline_events source after) rest))
      (h.0, events-led source inside (last ∷ (inline_events source after ++ rest)) h.1 (ended (tag-view t), others))
    where
      ended : TagView t → LedBy reader asked (of_end (end_of t))
      ended (NoLink e f) = subst (LedBy reader asked) (sym f) tt
      ended (ALink is_image linked e f) = subst (LedBy reader asked) (sym f) tt

  address_led : (address : List ℕ) → IsLinkGiven reader.options (address_type address) → IsLed reader asked (address_link address)
  address_led address = grind arith

  tag_led : (is_image : Bool) (linked : Linked) → IsLed reader asked linked → LedBy reader asked (of_tag (tag_by is_image linked))
  tag_led true linked h = h
  tag_led false linked h = h

  footnote_led : (is_image : Bool) (start : ℕ) (label : List ℕ) (end : ℕ) (others : Inline) → AreLedSpans others → AreLedSpans (footnote_then is_image start label end others)
  footnote_led true start label end others h = h
  footnote_led false start label end others h = h

  module _ (options : Options) where
    dress_led : (siblings : Inline) → AreLedSpans siblings → AreLedSpans (dress options siblings)
    dress_led siblings h =
        dress-elements (λ t inside. LedBy reader asked (of_tag t)) options (λ kind t inside e. subst (LedBy reader asked) (sym (span-neither options kind t e)) tt) siblings h

    siblings_led : (parts : Parts) → AllItems (IsRead reader.options) parts → AllFormed (IsFormedRightly reader asked) parts → AreLedSpans (siblings_of options parts)
    siblings_led NoParts k h = tt
    siblings_led (SinglePart x after) k h =
        item-elements (λ t inside. LedBy reader asked (of_tag t)) x (siblings_of options after) (λ address text e. address_led address (subst (IsRead reader.options) e k.0)) (siblings_led after k.1 h)
    siblings_led (Form opener inside closer (Linking target) after) k h =
        (tag_led opener.is_image target.linked h.0, dress_led (siblings_of options inside) (siblings_led inside k.0 h.1), siblings_led after k.1 h.2)
    siblings_led (Form opener inside closer (Footnote label end) after) k h = footnote_led opener.is_image opener.start label end (siblings_of options after) (siblings_led after k.1 h.2)
    siblings_led (Form opener inside closer (Wiki name None end) after) k h = (tag_led opener.is_image (wiki_linked name false) (h.0, refl, refl), tt, siblings_led after k.1 h.2)
    siblings_led (Form opener inside closer (Wiki name (Some place) end) after) k h =
        let inner = siblings_of options inside in (
          tag_led opener.is_image (wiki_linked name true) (h.0, refl, refl),
          dress_led (display_from place closer.start inner) (display-elements (λ t inside. LedBy reader asked (of_tag t)) place closer.start inner (siblings_led inside k.0 h.1)),
          siblings_led after k.1 h.2,
        )
    siblings_led (Closing closer after) k h = siblings_led after k h
    siblings_led (Opening opener after) k h = siblings_led after k h

    pub spans-led : (parts : Parts) → AllItems (IsRead reader.options) parts → AllFormed (IsFormedRightly reader asked) parts → AreLedSpans (spans_in options parts)
    spans-led parts k h = dress_led (siblings_of options parts) (siblings_led parts k h)
