-- The text of a leaf, divided by its brackets: items, the elements that pairs of brackets form, and brackets that are texts (CommonMark
-- 6.3).
use Rattle.std.specs.Prelude.{ℕ, suc, List, Option}
use Rattle.cmark_grammar.specs.Items.{Item, Bracket}
use Rattle.cmark_grammar.specs.Tag.{Linked}

-- the destination of a link or an image, and its end
pub record Target : Type 0 where
  pub linked : Linked
  pub end : ℕ

-- the element that a closing and an opening bracket form: a link or an image (CommonMark 6.3 and 6.4), a footnote reference, or a wikilink.
-- A wikilink shows its name, or the text from a place on (the last two are this profile's own)
pub data Formed : Type 0 where
  Linking : (target : Target) → Formed
  Footnote : (label : List ℕ) → (end : ℕ) → Formed
  Wiki : (name : List ℕ) → (display : Option ℕ) → (end : ℕ) → Formed

-- an item; the element of two brackets, with the parts between them; or a closing or opening bracket that is a text
pub data Parts : Type 0 where
  Nil : Parts
  Single : (item : Item) → (after : Parts) → Parts
  Form : (opener : Bracket) → (inside : Parts) → (closer : Bracket) → (formed : Formed) → (after : Parts) → Parts
  Closing : (closer : Bracket) → (after : Parts) → Parts
  Opening : (opener : Bracket) → (after : Parts) → Parts

-- the number of opening brackets in this list that are texts
abbrev pub openings : Parts → ℕ
openings Nil = 0
openings (Single item after) = openings after
openings (Form opener inside closer formed after) = openings after
openings (Closing closer after) = openings after
openings (Opening opener after) = suc (openings after)
