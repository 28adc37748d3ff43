-- HTML that is safe to show, whatever text it comes from. It consists of text, entities, and tags of a fixed list. Their values are
-- quoted, and their addresses are relative or of an allowed scheme.
use Rattle.std.specs.Char.{is_ascii_whitespace}
use Rattle.std.specs.List.{list_all}
use Rattle.std.specs.Prelude.{ℕ, Bool, true, false, ◌≡◌, ◌&&◌, nat_le, not, List, [], ◌∷◌, ◌++◌, codes}
use Rattle.cmark_grammar.specs.Html.{digit}
use Rattle.cmark_safe.specs.Schemes.{is_allowed, is_among, is_one_of}

-- the signs that are written as entities, and those entities
abbrev pub entities : List (List ℕ)
entities = codes "&amp;" ∷ codes "&lt;" ∷ codes "&gt;" ∷ codes "&quot;" ∷ codes "&#x27;" ∷ []

-- a value between quotation marks: no sign that ends it or begins a tag
pub data IsValue : List ℕ → Type 0 where
  Empty : IsValue []
  Byte : (b : ℕ) (more : List ℕ) → is_among (codes "&<>\"") b ≡ false → IsValue more → IsValue (b ∷ more)
  Entity : (entity more : List ℕ) → is_one_of entities entity ≡ true → IsValue more → IsValue (entity ++ more)

-- White space separates the classes of an element (HTML, section 2.3.7).
abbrev pub is_in_word : ℕ → Bool
is_in_word b = not (is_ascii_whitespace b)

-- a value without white space: within a class it adds no other class
pub record IsWord (word : List ℕ) : Type 0 where
  pub value : IsValue word
  pub one : list_all is_in_word word ≡ true

-- an address as it is written, with these further schemes
pub record IsAddress (further address : List ℕ) : Type 0 where
  pub value : IsValue address
  pub allowed : is_allowed further address ≡ true

-- a title, if there is one
pub data IsTitle : List ℕ → Type 0 where
  NoTitle : IsTitle []
  Title : (title : List ℕ) → IsValue title → IsTitle (codes " title=\"" ++ (title ++ codes "\""))

-- the prefix of each name that the text chose, so that it is no name of the page's own
abbrev pub own_prefix : List ℕ
own_prefix = codes "user-content-"

-- an anchor, if there is one
pub data IsAnchor : List ℕ → Type 0 where
  NoAnchor : IsAnchor []
  Anchor : (name : List ℕ) → IsValue name → IsAnchor (codes " id=\"" ++ (own_prefix ++ (name ++ codes "\"")))

-- the tags that never change
abbrev pub plain_tags : List (List ℕ)
plain_tags =
    codes "<p>" ∷ codes "</p>" ∷ codes "<blockquote>" ∷ codes "</blockquote>" ∷ codes "<pre>" ∷ codes "</pre>"
    ∷ codes "<code>" ∷ codes "</code>" ∷ codes "<ul>" ∷ codes "</ul>" ∷ codes "<ol>" ∷ codes "</ol>" ∷ codes "<li>" ∷ codes "</li>" ∷ codes "<dl>" ∷ codes "</dl>"
    ∷ codes "<dt>" ∷ codes "</dt>" ∷ codes "<dd>" ∷ codes "</dd>" ∷ codes "<table>" ∷ codes "</table>" ∷ codes "<thead>" ∷ codes "</thead>" ∷ codes "<tbody>" ∷ codes "</tbody>"
    ∷ codes "<tr>" ∷ codes "</tr>" ∷ codes "<th>" ∷ codes "</th>" ∷ codes "<td>" ∷ codes "</td>" ∷ codes "<em>" ∷ codes "</em>" ∷ codes "<strong>" ∷ codes "</strong>"
    ∷ codes "<del>" ∷ codes "</del>" ∷ codes "<sup>" ∷ codes "</sup>" ∷ codes "<sub>" ∷ codes "</sub>" ∷ codes "<mark>" ∷ codes "</mark>" ∷ codes "</a>" ∷ codes "</span>" ∷ codes "</div>"
    ∷ codes "<br />" ∷ codes "<hr />"
    ∷ codes "<span class=\"math math-inline\">" ∷ codes "<span class=\"math math-display\">"
    ∷ codes "<sup class=\"footnote-reference\">" ∷ codes "<sup class=\"footnote-definition-label\">"
    ∷ codes "<blockquote class=\"markdown-alert-note\">" ∷ codes "<blockquote class=\"markdown-alert-tip\">" ∷ codes "<blockquote class=\"markdown-alert-important\">"
    ∷ codes "<blockquote class=\"markdown-alert-warning\">" ∷ codes "<blockquote class=\"markdown-alert-caution\">"
    ∷ codes "<th style=\"text-align: left\">" ∷ codes "<th style=\"text-align: center\">" ∷ codes "<th style=\"text-align: right\">"
    ∷ codes "<td style=\"text-align: left\">" ∷ codes "<td style=\"text-align: center\">" ∷ codes "<td style=\"text-align: right\">"
    ∷ codes "<input disabled=\"\" type=\"checkbox\" checked=\"\"/>" ∷ codes "<input disabled=\"\" type=\"checkbox\"/>" ∷ []

abbrev pub is_level : ℕ → Bool
is_level level = nat_le 1 level && nat_le level 6

-- a tag, with these further schemes
pub data IsTag (further : List ℕ) : List ℕ → Type 0 where
  HeadingStart : (level : ℕ) (anchor : List ℕ) → is_level level ≡ true → IsAnchor anchor → IsTag further (codes "<h" ++ (digit level ∷ (anchor ++ codes ">")))
  HeadingEnd : (level : ℕ) → is_level level ≡ true → IsTag further (codes "</h" ++ (digit level ∷ codes ">"))
  Plain : (tag : List ℕ) → is_one_of plain_tags tag ≡ true → IsTag further tag
  LinkStart : (address title : List ℕ) → IsAddress further address → IsTitle title → IsTag further (codes "<a href=\"" ++ (address ++ (codes "\"" ++ (title ++ codes ">"))))
  Image : (address alternative title : List ℕ) → IsAddress further address → IsValue alternative → IsTitle title
      → IsTag further (codes "<img src=\"" ++ (address ++ (codes "\" alt=\"" ++ (alternative ++ (codes "\"" ++ (title ++ codes " />"))))))
  OrderedFrom : (first : List ℕ) → IsValue first → IsTag further (codes "<ol start=\"" ++ (first ++ codes "\">"))
  Language : (name : List ℕ) → IsWord name → IsTag further (codes "<code class=\"language-" ++ (name ++ codes "\">"))
  Footnote : (name : List ℕ) → IsValue name → IsTag further (codes "<div class=\"footnote-definition\" id=\"" ++ (own_prefix ++ (name ++ codes "\">")))
  ToFootnote : (name : List ℕ) → IsValue name → IsTag further (codes "<a href=\"#" ++ (own_prefix ++ (name ++ codes "\">")))

-- text with these tags only. A browser that reads it sees these elements with these attributes and no others: each of these tags lets it
-- read the rest only as text and tags
pub data IsSafe (further : List ℕ) : List ℕ → Type 0 where
  Nothing : IsSafe further []
  Sign : (b : ℕ) (more : List ℕ) → is_among (codes "&<>") b ≡ false → IsSafe further more → IsSafe further (b ∷ more)
  Written : (entity more : List ℕ) → is_one_of entities entity ≡ true → IsSafe further more → IsSafe further (entity ++ more)
  Tagged : (tag more : List ℕ) → IsTag further tag → IsSafe further more → IsSafe further (tag ++ more)
