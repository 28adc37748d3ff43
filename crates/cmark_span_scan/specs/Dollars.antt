-- The dollar signs of a text, and which of them close a formula (this profile's own).
use Rattle.std.specs.Prelude.{◌≡◌, ℕ, suc, ◌+◌, ◌-◌, ◌*◌, ◌<◌, ◌≤◌, Bool, true, false, not, ◌==◌, ◌&&◌, nat_le, nat_lt, if◌then◌else◌, List, [], ◌∷◌, ◌++◌, take, drop, reverse, length, get_or, slice_index, Option, Some, None}
use Rattle.std.specs.List.{prefix_len}
use Rattle.std.specs.Str.{IsCharBoundary}
use Rattle.cmark_grammar.specs.Characters.{dollar_sign}
use Rattle.cmark_grammar.specs.Formulas as grammar
use Rattle.cmark_grammar.specs.Formulas.{is_dollar, no_braces, context_of, after_byte, braces_after, inline_in, display_in}
use Rattle.cmark_grammar.specs.Letters.{first_is}
use Rattle.cmark_grammar.specs.LinkDefinitions.{Parsed, escapes_next}
use Rattle.cmark_grammar.specs.Tokens.{slice}
use Rattle.cmark_span_scan.specs.declared.braces.Braces.{Braces}
use Rattle.cmark_span_scan.specs.declared.dollars.Dollar.{Dollar}
use Rattle.cmark_span_scan.specs.declared.dollars.Dollars.{Dollars}
use Rattle.cmark_span_scan.specs.declared.dollars.Formula.{Formula}

-- the contexts entered: the code has the outermost first, and the grammar the innermost first
abbrev pub shown_braces : Braces → grammar.Braces
shown_braces braces = record { entered = reverse braces.entered.items; outermost = braces.outermost; next = braces.next }

-- this byte as a dollar sign, if it is one
abbrev pub dollar_here : (at : ℕ) → (escaped : Bool) → grammar.Braces → ℕ → List Dollar
dollar_here at escaped braces b = if is_dollar b then record { place = at; context = context_of braces; is_escaped = escaped } ∷ [] else []

-- the dollar signs of these bytes, which begin at an offset and come after these braces
abbrev pub dollars_from : (at : ℕ) → (escaped : Bool) → grammar.Braces → List ℕ → List Dollar
dollars_from at escaped braces [] = []
dollars_from at escaped braces (b ∷ bs) = dollar_here at escaped braces b ++ dollars_from (suc at) (escapes_next escaped b) (after_byte escaped b braces) bs

abbrev pub dollars_in : (text : List ℕ) → List Dollar
dollars_in text = dollars_from 0 false no_braces text

-- a dollar sign that closes no formula of this context
abbrev pub is_passed_in : (context : ℕ) → Dollar → Bool
is_passed_in context d = not (not d.is_escaped && (d.context == context))

-- the link of each of these dollar signs is the index of the next dollar sign that may close its formula
pub record AreLinks (listed : List Dollar) (links : List ℕ) : Type 0 where
  pub whole : length links ≡ length listed
  pub each : (i : ℕ) (d : Dollar) → i < length listed → get_or links i 0 ≡ i + 1 + prefix_len (is_passed_in (get_or listed i d).context) (drop (i + 1) listed)

-- the table belongs to this text, once it is listed
pub record AreListed (text : List ℕ) (dollars : Dollars) : Type 0 where
  pub dollars_are : dollars.listed.items ≡ dollars_in text
  pub links : AreLinks (dollars_in text) dollars.successors.items

abbrev pub AreDollarsOf : (text : List ℕ) → Dollars → Type 0
AreDollarsOf text dollars = dollars.is_listed ≡ true → AreListed text dollars

-- and it is listed
pub record HasListed (text : List ℕ) (dollars : Dollars) : Type 0 where
  pub is : dollars.is_listed ≡ true
  pub table : AreListed text dollars

-- a dollar sign is at this offset
pub record IsDollarAt (text : List ℕ) (at : ℕ) : Type 0 where
  pub within : at < length text
  pub is : slice_index text at ≡ dollar_sign

-- ## The number of dollar signs visited

abbrev pub stands_before : (place : ℕ) → Dollar → Bool
stands_before place d = nat_lt d.place place

-- the dollar sign that was looked up last is not after the offset from which on others are looked up
abbrev pub IsReached : (text : List ℕ) → (at : ℕ) → Dollars → Type 0
IsReached text at dollars = dollars.is_listed ≡ true → dollars.reached ≤ prefix_len (stands_before at) (dollars_in text)

-- an upper bound of the dollar signs still visited if formulas are looked up from an offset of the text on, in order. Each dollar sign is
-- visited twice to list it and once to find it by its offset. For each byte one closing dollar sign may be visited
abbrev pub may_visit : (text : List ℕ) → (at : ℕ) → Dollars → ℕ
may_visit text at dollars = (if dollars.is_listed then length (dollars_in text) - dollars.reached else 3 * length text) + (length text - at)

-- A formula was looked up at this offset, and the next one is looked up after it. The dollar signs visited for it were counted in the bound
-- before
pub record VisitsOn (text : List ℕ) (at : ℕ) (old new : Dollars) : Type 0 where
  pub grows : old.visited ≤ new.visited
  pub reached : IsReached text at old → IsReached text (at + 1) new
  pub pays : IsReached text at old → new.visited + may_visit text (at + 1) new ≤ old.visited + may_visit text at old

-- the table is listed: nothing changes if it was; otherwise all dollar signs are visited twice
pub record Lists (text : List ℕ) (old new : Dollars) : Type 0 where
  pub was : old.is_listed ≡ true → (new.visited ≡ old.visited) × (new.reached ≡ old.reached)
  pub made : old.is_listed ≡ false → (new.visited ≡ old.visited + length (dollars_in text) + length (dollars_in text)) × (new.reached ≡ 0)

-- the offset of the first of these dollar signs from `from` on that is in this context and not escaped by a backslash
abbrev pub closing : (from context : ℕ) → List Dollar → Option ℕ
closing from context [] = None
closing from context (d ∷ ds) = if nat_le from d.place && (not d.is_escaped && (d.context == context)) then Some d.place else closing from context ds

-- the braces before an offset
abbrev pub braces_at : (text : List ℕ) → (at : ℕ) → grammar.Braces
braces_at text at = braces_after false (take at text) no_braces

-- the formula that the dollar sign at this offset opens: display math if another dollar sign follows, and otherwise inline math
abbrev pub formula_at : (text : List ℕ) → (at : ℕ) → Option Parsed
formula_at text at =
    if first_is is_dollar (drop (at + 1) text) then display_in (braces_at text at) (drop (at + 2) text) else inline_in (braces_at text at) (drop (at + 1) text)

-- the content of a formula of a text, and the text after it
abbrev pub shown_formula : (text : List ℕ) → Formula → Parsed
shown_formula text formula = record { bytes = slice text formula.content_start formula.content_end; following = drop formula.end text }

-- the number of dollar signs at each end
abbrev pub signs_of : (is_display : Bool) → ℕ
signs_of is_display = if is_display then 2 else 1

-- a formula that is opened at this offset: it and its content begin and end at character boundaries
pub record IsFormulaAt (text : List ℕ) (at : ℕ) (formula : Formula) : Type 0 where
  pub opens : formula.content_start ≡ at + signs_of formula.is_display
  pub ordered : formula.content_start ≤ formula.content_end
  pub closes : formula.end ≡ formula.content_end + signs_of formula.is_display
  pub starts : IsCharBoundary text formula.content_start
  pub stops : IsCharBoundary text formula.content_end
  pub ends : IsCharBoundary text formula.end
