-- Formulas between dollar signs (this profile's own).
use Rattle.std.specs.Prelude.{ℕ, suc, ◌%◌, Bool, true, false, not, ◌==◌, ◌&&◌, if◌then◌else◌, List, [], ◌∷◌, drop, Option, Some, None}
use Rattle.std.specs.Char.{is_ascii_whitespace}
use Rattle.cmark_grammar.specs.Characters.{dollar_sign, left_brace, right_brace}
use Rattle.cmark_grammar.specs.Letters.{first_is}
use Rattle.cmark_grammar.specs.LinkDefinitions.{Parsed, put, escapes_next}

abbrev pub is_dollar : ℕ → Bool
is_dollar b = b == dollar_sign

-- a byte that is not white space
abbrev pub is_ink : ℕ → Bool
is_ink b = not (is_ascii_whitespace b)

-- the contexts between the braces of a leaf, numbered modulo 256. Entered: the contexts that are entered, the inner ones first. Outermost:
-- the number of the outermost context, which is 255 at first. Next: the number of the next context
pub record Braces : Type 0 where
  pub entered : List ℕ
  pub outermost : ℕ
  pub next : ℕ

abbrev pub no_braces : Braces
no_braces = record { entered = []; outermost = 255; next = 0 }

abbrev pub context_of : Braces → ℕ
context_of braces = elim braces.entered [ [] ↦ braces.outermost | c ∷ cs ↦ c ]

-- `{` enters the next context. `}` leaves a context; in the outermost one it gives this the next number
abbrev pub entered : Braces → Braces
entered braces = record { entered = braces.next % 256 ∷ braces.entered; outermost = braces.outermost; next = suc braces.next }

abbrev pub left_to : List ℕ → Braces → Braces
left_to [] braces = record { entered = []; outermost = braces.next % 256; next = suc braces.next }
left_to (c ∷ cs) braces = record { entered = cs; outermost = braces.outermost; next = braces.next }

-- the braces after another byte, unless a backslash escapes it
abbrev pub after_byte : (escaped : Bool) → ℕ → Braces → Braces
after_byte true b braces = braces
after_byte false b braces = if b == left_brace then entered braces else if b == right_brace then left_to braces.entered braces else braces

abbrev pub braces_after : (escaped : Bool) → List ℕ → Braces → Braces
braces_after escaped [] braces = braces
braces_after escaped (b ∷ bs) braces = braces_after (escapes_next escaped b) bs (after_byte escaped b braces)

-- The next unescaped dollar sign of the same context decides. For an inline formula it closes if the byte before it is not white space. For
-- a display formula it closes if a second dollar sign follows. Else there is no formula. `last` and the braces are those before these bytes
abbrev pub closes_formula : (is_display : Bool) → (last : ℕ) → (bs : List ℕ) → Bool
closes_formula true last bs = first_is is_dollar bs
closes_formula false last bs = is_ink last

abbrev pub formula_to : (is_display : Bool) → (context : ℕ) → (escaped : Bool) → (last : ℕ) → Braces → List ℕ → Option Parsed
formula_to is_display context escaped last braces [] = None
formula_to is_display context escaped last braces (b ∷ bs) =
    if not escaped && (is_dollar b && (context_of braces == context))
    then (if closes_formula is_display last bs then Some (record { bytes = []; following = drop (if is_display then 1 else 0) bs }) else None)
    else put b (formula_to is_display context (escapes_next escaped b) b (after_byte escaped b braces) bs)

-- the formula after one dollar sign and these braces, up to the dollar sign that closes it. It begins with a byte that is not white space,
-- so it is not empty. Example: `$a + b$`
abbrev pub inline_in : Braces → List ℕ → Option Parsed
inline_in braces bs = if first_is is_ink bs then formula_to false (context_of braces) false dollar_sign braces bs else None

-- the formula after two dollar signs, which may be empty. Example: `$$a$$`
abbrev pub display_in : Braces → List ℕ → Option Parsed
display_in braces bs = formula_to true (context_of braces) false dollar_sign braces bs
