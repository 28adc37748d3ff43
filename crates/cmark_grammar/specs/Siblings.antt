-- The spans of a leaf, made from the parts of its text, one list of siblings after the other (CommonMark 6.2, "process emphasis").
use Rattle.std.specs.Prelude.{◌≡◌, ℕ, zero, suc, ◌+◌, ◌-◌, Bool, true, false, ◌==◌, nat_le, if◌then◌else◌, max, List, [], ◌∷◌, drop, get_or, encode_utf8, Option, Some, None}
use Rattle.cmark_grammar.specs.Autolinks.{has_scheme}
use Rattle.cmark_grammar.specs.BracketDecisions.{linked}
use Rattle.cmark_grammar.specs.Emphasis.{Pair, Sibling, Plain, Delimiter, IsEmphasis}
use Rattle.cmark_grammar.specs.Items.{ItemKind, Own, Written, Quoted, Delimiters, Autolink, FootnoteReference, Item, Bracket}
use Rattle.cmark_grammar.specs.LinkType as link_type
use Rattle.cmark_grammar.specs.Options.{Options}
use Rattle.cmark_grammar.specs.Parts.{Parts, Nil as NoParts, Single as SinglePart, Form, Closing, Opening, Linking, Footnote, Wiki}
use Rattle.cmark_grammar.specs.Quotes.{Quote, quote_characters}
use Rattle.cmark_grammar.specs.Spans as spans
use Rattle.cmark_grammar.specs.Spans.{span_tag, Spans}
use Rattle.cmark_grammar.specs.Tag.{Tag, Linked, Link, Image}

-- siblings: items, and elements around others
pub data Inline : Type 0 where
  Nil : Inline
  Single : (item : Item) → (after : Inline) → Inline
  Around : (tag : Tag) → (start end : ℕ) → (inside after : Inline) → Inline

abbrev pub append : Inline → Inline → Inline
append Nil other = other
append (Single item after) other = Single item (append after other)
append (Around tag start end inside after) other = Around tag start end inside (append after other)

abbrev pub item : ItemKind → (start end : ℕ) → Item
item kind start end = record { kind = kind; start = start; end = end }

-- ## Quotes (this profile's own): each becomes a character, which depends on its siblings

abbrev pub quote_then : ItemKind → List Quote → List Quote
quote_then (Quoted quote) qs = quote ∷ qs
quote_then _ qs = qs

abbrev pub quotes_of : Inline → List Quote
quotes_of Nil = []
quotes_of (Around tag start end inside after) = quotes_of after
quotes_of (Single x after) = quote_then x.kind (quotes_of after)

abbrev pub quote_as : (quoted other : List ℕ → Inline) → ItemKind → List ℕ → Inline
quote_as quoted other (Quoted quote) cs = quoted cs
quote_as quoted other _ cs = other cs

abbrev pub with_characters : Inline → List ℕ → Inline
with_characters Nil cs = Nil
with_characters (Around tag start end inside after) cs = Around tag start end inside (with_characters after cs)
with_characters (Single x after) cs =
    quote_as (λ cs. Single (item (Written (encode_utf8 (get_or cs 0 0))) x.start x.end) (with_characters after (drop 1 cs))) (λ cs. Single x (with_characters after cs)) x.kind cs

-- the siblings with a character for each quote
abbrev pub with_quotes : Inline → Inline
with_quotes siblings = with_characters siblings (quote_characters [] (quotes_of siblings))

-- ## Emphasis (CommonMark 6.2, GFM 6.5)

-- each sibling has a place: a delimiter run one for each of its bytes, any other sibling one
abbrev pub sibling_then : ℕ → ItemKind → (ℕ → List Sibling) → List Sibling
sibling_then n (Delimiters run) after = Delimiter (record { delimiter = run.delimiter; run_length = run.run_length; at = n; left = run.run_length; opens = run.opens; closes = run.closes }) ∷ after (n + run.run_length)
sibling_then n _ after = Plain n ∷ after (suc n)

abbrev pub siblings_from : Inline → ℕ → List Sibling
siblings_from Nil n = []
siblings_from (Single x after) n = sibling_then n x.kind (siblings_from after)
siblings_from (Around tag start end inside after) n = Plain n ∷ siblings_from after (suc n)

-- what is at each place: a byte of a run, or a sibling
abbrev pub byte_by_byte : (start run_length : ℕ) → List Inline → List Inline
byte_by_byte start zero after = after
byte_by_byte start (suc run_length) after = Single (item Own start (suc start)) Nil ∷ byte_by_byte (suc start) run_length after

abbrev pub item_by_item : ItemKind → Item → List Inline → List Inline
item_by_item (Delimiters run) x after = byte_by_byte x.start run.run_length after
item_by_item _ x after = Single x Nil ∷ after

abbrev pub one_by_one : Inline → List Inline
one_by_one Nil = []
one_by_one (Single x after) = item_by_item x.kind x (one_by_one after)
one_by_one (Around tag start end inside after) = Around tag start end inside Nil ∷ one_by_one after

-- where the first of some siblings begins, and where it ends
abbrev pub start_of : Inline → ℕ
start_of Nil = 0
start_of (Single x after) = x.start
start_of (Around tag start end inside after) = start

abbrev pub end_of : Inline → ℕ
end_of Nil = 0
end_of (Single x after) = x.end
end_of (Around tag start end inside after) = end

-- an element, or one text over all of it
abbrev pub element : Option Tag → (start end : ℕ) → (inside after : Inline) → Inline
element (Some tag) start end inside after = Around tag start end inside after
element None start end inside after = Single (item Own start end) after

module _ (options : Options) where
  -- spans around what is at their places; an element begins with the first of its bytes, and ends with the last
  abbrev pub with_spans : List Inline → Spans → Inline
  with_spans places spans.Nil = Nil
  with_spans places (spans.Single at after) = append (get_or places at Nil) (with_spans places after)
  with_spans places (spans.Around span inside after) =
      element (span_tag options span.kind) (start_of (get_or places span.start Nil)) (end_of (get_or places (span.end - 1) Nil)) (with_spans places inside) (with_spans places after)

  -- one list of siblings with its quotes and its emphasis
  pub record IsDressed (siblings result : Inline) : Type 0 where
    pub pairs : List Pair
    pub spans_are : Spans
    pub emphasis : IsEmphasis (siblings_from (with_quotes siblings) 0) pairs spans_are
    pub result_is : result ≡ with_spans (one_by_one (with_quotes siblings)) spans_are

-- ## The elements and texts of the parts

-- an address is a URI if it begins with a scheme, and else an email address (CommonMark 6.5)
abbrev pub address_type : List ℕ → link_type.LinkType
address_type address = if has_scheme address then link_type.Autolink else link_type.Email

-- an autolink is a link around its bytes (CommonMark 6.5)
abbrev pub address_link : List ℕ → Linked
address_link address = linked (address_type address) (record { url = address; title = [] }) []

abbrev pub item_then : ItemKind → Item → Inline → Inline
item_then (Autolink address) x after = Around (Link (address_link address)) x.start x.end (Single (item Own (suc x.start) (x.end - 1)) Nil) after
item_then _ x after = Single x after

abbrev pub text_then : Bracket → Inline → Inline
text_then bracket after = Single (item Own bracket.start bracket.end) after

abbrev pub tag_by : (is_image : Bool) → Linked → Tag
tag_by true linked = Image linked
tag_by false linked = Link linked

-- a footnote reference begins with its `[`; a `!` before it is a text (this profile's own)
abbrev pub footnote_then : (is_image : Bool) → (start : ℕ) → (label : List ℕ) → (end : ℕ) → Inline → Inline
footnote_then true start label end after = Single (item Own start (suc start)) (Single (item (FootnoteReference label) (suc start) end) after)
footnote_then false start label end after = Single (item (FootnoteReference label) start end) after

-- a wikilink shows its name, or the siblings after the pipe (this profile's own). These begin at a place: the sibling that contains the
-- byte there is cut to begin there. If there is none, an empty text is shown
abbrev pub wiki_tag : (is_image : Bool) → (name : List ℕ) → (has_pothole : Bool) → Tag
wiki_tag is_image name has_pothole = tag_by is_image (linked (link_type.WikiLink has_pothole) (record { url = name; title = [] }) [])

abbrev pub name_text : (opener closer : Bracket) → Inline
name_text opener closer = Single (item Own (suc opener.end) closer.start) Nil

-- the siblings from a place on
abbrev pub from_place : ℕ → Inline → Inline
from_place place Nil = Nil
from_place place (Single x after) = if nat_le x.end place then from_place place after else Single (item x.kind (max x.start place) x.end) after
from_place place (Around tag start end inside after) =
    if nat_le end place then from_place place after else Around tag (max start place) end inside after

abbrev pub display_from : (place end : ℕ) → Inline → Inline
display_from place end inner = if place == end then Single (item Own place place) Nil else from_place place inner

module _ (options : Options) where
  -- a link, an image and a wikilink with a text of its own contain a list of siblings. All other brackets are texts among those around them
  abbrev pub AreSiblings : Parts → Inline → Type 0
  AreSiblings NoParts siblings = siblings ≡ Nil
  AreSiblings (SinglePart x after) siblings = (others : Inline) × AreSiblings after others × (siblings ≡ item_then x.kind x others)
  AreSiblings (Form opener inside closer (Linking target) after) siblings =
      (inner spans others : Inline) × AreSiblings inside inner × IsDressed options inner spans × AreSiblings after others
      × (siblings ≡ Around (tag_by opener.is_image target.linked) opener.start target.end spans others)
  AreSiblings (Form opener inside closer (Footnote label end) after) siblings =
      (others : Inline) × AreSiblings after others × (siblings ≡ footnote_then opener.is_image opener.start label end others)
  AreSiblings (Form opener inside closer (Wiki name None end) after) siblings =
      (others : Inline) × AreSiblings after others × (siblings ≡ Around (wiki_tag opener.is_image name false) opener.start end (name_text opener closer) others)
  AreSiblings (Form opener inside closer (Wiki name (Some place) end) after) siblings =
      (inner spans others : Inline) × AreSiblings inside inner × IsDressed options (display_from place closer.start inner) spans × AreSiblings after others
      × (siblings ≡ Around (wiki_tag opener.is_image name true) opener.start end spans others)
  AreSiblings (Closing closer after) siblings = (others : Inline) × AreSiblings after others × (siblings ≡ text_then closer others)
  AreSiblings (Opening opener after) siblings = (others : Inline) × AreSiblings after others × (siblings ≡ text_then opener others)

  -- with the quotes and the emphasis of the outermost list they are the spans
  pub record AreSpans (parts : Parts) (spans : Inline) : Type 0 where
    pub siblings : Inline
    pub are : AreSiblings parts siblings
    pub dressed_so : IsDressed options siblings spans
