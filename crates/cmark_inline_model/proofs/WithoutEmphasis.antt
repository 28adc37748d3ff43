-- If siblings have no delimiter run of `=`, their spans are those of the grammar without highlight.
use Rattle.std.specs.Prelude.{◌==◌, ◌||◌, if◌then◌else◌, drop}
use Rattle.std.proofs.Common.{◌≡◌, ℕ, suc, ◌+◌, Bool, true, false, List, [], ◌∷◌, Some, None, refl, sym, ap, subst, ◌∙◌, eqb-true, arith, rules}
use Rattle.cmark_grammar.specs.Emphasis.{Run, Pair, Sibling, Plain as PlainSibling, Delimiter, Piece, Whole, Standing, agrees, pair_of, rest_of_opener, rest_of_closer, emphasis_kinds, tilde_kinds, caret_kinds, equals_kinds, kinds_of, wrapped, row, keep, stand, Misses, Closes, Pairs}
use Rattle.cmark_grammar.specs.Items.{ItemKind, Delimiters, Item}
use Rattle.cmark_grammar.specs.Options.{Options}
use Rattle.cmark_grammar.specs.Parts.{Parts, Nil as NoParts, Single as SinglePart, Form, Closing, Opening, Linking, Footnote, Wiki}
use Rattle.cmark_grammar.specs.Quotes.{quote_characters}
use Rattle.cmark_grammar.specs.Siblings.{Inline, Nil, Single, Around, quotes_of, with_characters, with_quotes, sibling_then, siblings_from, item_then, footnote_then, from_place, display_from, AreSiblings, AreSpans, IsDressed}
use Rattle.cmark_grammar.specs.Spans as spans
use Rattle.cmark_grammar.specs.Spans.{Spans}
use Rattle.cmark_inline_model.specs.OptionRules.{IsRead, AllItems}
use Rattle.cmark_inline_model.specs.WithoutHighlight.{agrees_without, kinds_without, wrapped_without, MissesWithout, ClosesWithout, PairsWithout, IsDressedWithout, AreSiblingsWithout, AreSpansWithout}
use Rattle.cmark_inline_model.proofs.KindViews.{kind-view}
use Rattle.cmark_inline_model.proofs.SpanElements.{quoted_then, other_then}

-- ## Runs of other bytes than `=`
abbrev pub IsOther : Run → Type 0
IsOther run = (run.delimiter == 61) ≡ false

or_none : (x : Bool) → (x || false) ≡ x
or_none true = refl
or_none false = refl

pub agrees-without : (opener closer : Run) → IsOther closer → agrees opener closer ≡ agrees_without opener closer
unfolding agrees
agrees-without opener closer e = cc (or_none (closer.delimiter == 126))

pub kinds-without : (delimiter count : ℕ) → (delimiter == 61) ≡ false → kinds_of delimiter count ≡ kinds_without delimiter count
unfolding kinds_of
kinds-without delimiter count e = ap (λ z. if delimiter == 126 then tilde_kinds count else if delimiter == 94 then caret_kinds count else if z then equals_kinds count else emphasis_kinds count) e

rest_other : (opener closer : Run) → IsOther closer → IsOther (rest_of_closer opener closer)
unfolding rest_of_closer
rest_other opener closer e = e

wrapped_same : (opener closer : Run) (inside : Spans) → IsOther closer → wrapped (pair_of opener closer) inside ≡ wrapped_without (pair_of opener closer) inside
unfolding pair_of
wrapped_same opener closer inside e = grind (arith, kinds-without)

wrapped_is : (opener closer : Run) (pair : Pair) (inside : Spans) → pair ≡ pair_of opener closer → IsOther closer → wrapped pair inside ≡ wrapped_without pair inside
wrapped_is opener closer pair inside i e = ap (λ p. wrapped p inside) i ∙ wrapped_same opener closer inside e ∙ sym (ap (λ p. wrapped_without p inside) i)

misses_to : (closer : Run) (pieces : List Piece) → IsOther closer → Misses closer pieces → MissesWithout closer pieces
misses_to closer [] e h = tt
misses_to closer (Whole spans ∷ pieces) e h = misses_to closer pieces e h
misses_to closer (Standing opener ∷ pieces) e h = (sym (agrees-without opener closer e) ∙ h.0, misses_to closer pieces e h.1)

misses_from : (closer : Run) (pieces : List Piece) → IsOther closer → MissesWithout closer pieces → Misses closer pieces
misses_from closer [] e h = tt
misses_from closer (Whole spans ∷ pieces) e h = misses_from closer pieces e h
misses_from closer (Standing opener ∷ pieces) e h = (agrees-without opener closer e ∙ h.0, misses_from closer pieces e h.1)

closes_to : (closer : Run) (pieces : List Piece) (pairs : List Pair) (rest : Run) (now : List Piece) → IsOther closer → Closes closer pieces pairs rest now → ClosesWithout closer pieces pairs rest now
closes_to closer pieces [] rest now e h = (misses_to closer pieces e h.0, h.1, h.2)
closes_to closer pieces (pair ∷ more) rest now e h = record {
  between = h.between;
  opener = h.opener;
  front = h.front;
  cut = h.cut;
  nearest = misses_to closer h.between e h.nearest;
  agree = sym (agrees-without h.opener closer e) ∙ h.agree;
  is = h.is;
  so = subst (λ inside. ClosesWithout (rest_of_closer h.opener closer) (Whole inside ∷ keep (rest_of_opener h.opener closer) h.front) more rest now) (wrapped_is h.opener closer pair (row h.between spans.Nil) h.is e)
      (closes_to (rest_of_closer h.opener closer) (Whole (wrapped pair (row h.between spans.Nil)) ∷ keep (rest_of_opener h.opener closer) h.front) more rest now (rest_other h.opener closer e) h.so);
}

closes_from : (closer : Run) (pieces : List Piece) (pairs : List Pair) (rest : Run) (now : List Piece) → IsOther closer → ClosesWithout closer pieces pairs rest now → Closes closer pieces pairs rest now
closes_from closer pieces [] rest now e h = (misses_from closer pieces e h.0, h.1, h.2)
closes_from closer pieces (pair ∷ more) rest now e h = record {
  between = h.between;
  opener = h.opener;
  front = h.front;
  cut = h.cut;
  nearest = misses_from closer h.between e h.nearest;
  agree = agrees-without h.opener closer e ∙ h.agree;
  is = h.is;
  so = subst (λ inside. Closes (rest_of_closer h.opener closer) (Whole inside ∷ keep (rest_of_opener h.opener closer) h.front) more rest now) (sym (wrapped_is h.opener closer pair (row h.between spans.Nil) h.is e))
      (closes_from (rest_of_closer h.opener closer) (Whole (wrapped_without pair (row h.between spans.Nil)) ∷ keep (rest_of_opener h.opener closer) h.front) more rest now (rest_other h.opener closer e) h.so);
}

-- ## Siblings
abbrev pub OtherRuns : List Sibling → Type 0
OtherRuns [] = Unit {0}
OtherRuns (PlainSibling at ∷ siblings) = OtherRuns siblings
OtherRuns (Delimiter run ∷ siblings) = IsOther run × OtherRuns siblings

pairs_to : (siblings : List Sibling) (pieces : List Piece) (pairs : List Pair) (last : List Piece) → OtherRuns siblings → Pairs siblings pieces pairs last → PairsWithout siblings pieces pairs last
pairs_to [] pieces pairs last o h = h
pairs_to (PlainSibling at ∷ siblings) pieces pairs last o h = pairs_to siblings (Whole (spans.Single at spans.Nil) ∷ pieces) pairs last o h
pairs_to (Delimiter run ∷ siblings) pieces pairs last o h = search (rules, closes_to, pairs_to siblings (stand h.rest h.now) h.others last o.1 h.so)

pairs_from : (siblings : List Sibling) (pieces : List Piece) (pairs : List Pair) (last : List Piece) → OtherRuns siblings → PairsWithout siblings pieces pairs last → Pairs siblings pieces pairs last
pairs_from [] pieces pairs last o h = h
pairs_from (PlainSibling at ∷ siblings) pieces pairs last o h = pairs_from siblings (Whole (spans.Single at spans.Nil) ∷ pieces) pairs last o h
pairs_from (Delimiter run ∷ siblings) pieces pairs last o h = search (rules, closes_from, pairs_from siblings (stand h.rest h.now) h.others last o.1 h.so)

abbrev pub IsOtherKind : ItemKind → Type 0
IsOtherKind (Delimiters run) = IsOther run
IsOtherKind _ = Unit {0}

abbrev pub HasOthers : Inline → Type 0
HasOthers Nil = Unit {0}
HasOthers (Single x after) = IsOtherKind x.kind × HasOthers after
HasOthers (Around tag start end inside after) = HasOthers after

-- if highlight is off, no run of `=` is read
pub read-other : (options : Options) → options.highlight ≡ false → (kind : ItemKind) → IsRead options kind → IsOtherKind kind
read-other options off kind h = grind (arith, eqb-true)

characters_other : (siblings : Inline) (cs : List ℕ) → HasOthers siblings → HasOthers (with_characters siblings cs)
characters_other Nil cs h = tt
characters_other (Around tag start end inside after) cs h = characters_other after cs h
characters_other (Single x after) cs h = search (rules, kind-view, quoted_then, other_then, characters_other after (drop 1 cs) h.1, characters_other after cs h.1)

item_others : (kind : ItemKind) (n : ℕ) (after : ℕ → List Sibling) → IsOtherKind kind → ((m : ℕ) → OtherRuns (after m)) → OtherRuns (sibling_then n kind after)
item_others (Delimiters run) n after h i = (h, i (n + run.run_length))
item_others kind n after h i = i (suc n)

siblings_other : (siblings : Inline) (n : ℕ) → HasOthers siblings → OtherRuns (siblings_from siblings n)
siblings_other Nil n h = tt
siblings_other (Around tag start end inside after) n h = siblings_other after (suc n) h
siblings_other (Single x after) n h = item_others x.kind n (siblings_from after) h.0 (λ m. siblings_other after m h.1)

quotes_other : (siblings : Inline) → HasOthers siblings → OtherRuns (siblings_from (with_quotes siblings) 0)
quotes_other siblings h = siblings_other (with_quotes siblings) 0 (characters_other siblings (quote_characters [] (quotes_of siblings)) h)

-- ## The spans of a leaf
module _ (options : Options) where
  dressed_to : (siblings result : Inline) → HasOthers siblings → IsDressed options siblings result → IsDressedWithout options siblings result
  dressed_to siblings result o h = grind (arith, pairs_to, quotes_other)

  dressed_from : (siblings result : Inline) → HasOthers siblings → IsDressedWithout options siblings result → IsDressed options siblings result
  dressed_from siblings result o h = grind (arith, pairs_from, quotes_other)

item_other : (x : Item) (after : Inline) → IsOtherKind x.kind → HasOthers after → HasOthers (item_then x.kind x after)
item_other x after h k = grind (arith, kind-view)

footnote_other : (is_image : Bool) (start : ℕ) (label : List ℕ) (end : ℕ) (after : Inline) → HasOthers after → HasOthers (footnote_then is_image start label end after)
footnote_other true start label end after h = (tt, (tt, h))
footnote_other false start label end after h = (tt, h)

from_other : (place : ℕ) (siblings : Inline) → HasOthers siblings → HasOthers (from_place place siblings)
from_other place Nil h = tt
from_other place (Single x after) h = grind (arith, from_other place after h.1)
from_other place (Around tag start end inside after) h = grind (arith, from_other place after h)

display_other : (place end : ℕ) (siblings : Inline) → HasOthers siblings → HasOthers (display_from place end siblings)
display_other place end siblings h = grind (arith, from_other)

module _ (options : Options) where
  -- the siblings of parts, none of which is a run of `=`
  siblings_to : (parts : Parts) (siblings : Inline) → AllItems IsOtherKind parts → AreSiblings options parts siblings → AreSiblingsWithout options parts siblings × HasOthers siblings
  siblings_to NoParts siblings o h = (h, subst HasOthers (sym h) tt)
  siblings_to (SinglePart x after) siblings o h = grind (arith, item_other, siblings_to after h.0 o.1 h.1)
  siblings_to (Form opener inside closer (Linking target) after) siblings o h = grind (arith, dressed_to, siblings_to inside h.0 o.0 h.3, siblings_to after h.2 o.1 h.5)
  siblings_to (Form opener inside closer (Footnote label end) after) siblings o h = grind (arith, footnote_other, siblings_to after h.0 o.1 h.1)
  siblings_to (Form opener inside closer (Wiki name None end) after) siblings o h = grind (arith, siblings_to after h.0 o.1 h.1)
  siblings_to (Form opener inside closer (Wiki name (Some place) end) after) siblings o h = grind (arith, dressed_to, display_other, siblings_to inside h.0 o.0 h.3, siblings_to after h.2 o.1 h.5)
  siblings_to (Closing closer after) siblings o h = grind (arith, siblings_to after h.0 o h.1)
  siblings_to (Opening opener after) siblings o h = grind (arith, siblings_to after h.0 o h.1)

  siblings_back : (parts : Parts) (siblings : Inline) → AllItems IsOtherKind parts → AreSiblingsWithout options parts siblings → AreSiblings options parts siblings × HasOthers siblings
  siblings_back NoParts siblings o h = (h, subst HasOthers (sym h) tt)
  siblings_back (SinglePart x after) siblings o h = grind (arith, item_other, siblings_back after h.0 o.1 h.1)
  siblings_back (Form opener inside closer (Linking target) after) siblings o h = grind (arith, dressed_from, siblings_back inside h.0 o.0 h.3, siblings_back after h.2 o.1 h.5)
  siblings_back (Form opener inside closer (Footnote label end) after) siblings o h = grind (arith, footnote_other, siblings_back after h.0 o.1 h.1)
  siblings_back (Form opener inside closer (Wiki name None end) after) siblings o h = grind (arith, siblings_back after h.0 o.1 h.1)
  siblings_back (Form opener inside closer (Wiki name (Some place) end) after) siblings o h = grind (arith, dressed_from, display_other, siblings_back inside h.0 o.0 h.3, siblings_back after h.2 o.1 h.5)
  siblings_back (Closing closer after) siblings o h = grind (arith, siblings_back after h.0 o h.1)
  siblings_back (Opening opener after) siblings o h = grind (arith, siblings_back after h.0 o h.1)

  pub spans-to : (parts : Parts) (become : Inline) → AllItems IsOtherKind parts → AreSpans options parts become → AreSpansWithout options parts become
  spans-to parts become o h = grind (arith, siblings_to, dressed_to)

  pub spans-from : (parts : Parts) (become : Inline) → AllItems IsOtherKind parts → AreSpansWithout options parts become → AreSpans options parts become
  spans-from parts become o h = grind (arith, siblings_back, dressed_from)
