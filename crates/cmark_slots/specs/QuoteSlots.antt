-- The slots of quotes with their characters.
use Rattle.std.specs.Prelude.{ℕ, zero, suc, List, [], ◌∷◌, map}
use Rattle.cmark_grammar.specs.Quotes.{quote_characters}
use Rattle.cmark_emphasis.specs.Shown.{shown_quote}
use Rattle.cmark_slots.specs.declared.quote.PlacedQuote.{PlacedQuote}
use Rattle.cmark_slots.specs.declared.slot.Slot.{Slot}
use Rattle.cmark_slots.specs.declared.slot.SlotKind.TheVariants as kind

-- the slot with this index is a character
abbrev pub with_character : (at character : ℕ) → List Slot → List Slot
with_character at character [] = []
with_character zero character (slot ∷ slots) = record { kind = kind.Character character; start = slot.start; end = slot.end } ∷ slots
with_character (suc at) character (slot ∷ slots) = slot ∷ with_character at character slots

-- each of these quotes has its character, one after the other
abbrev pub with_characters : List PlacedQuote → (characters : List ℕ) → List Slot → List Slot
with_characters [] characters slots = slots
with_characters (quote ∷ quotes) [] slots = slots
with_characters (quote ∷ quotes) (character ∷ characters) slots = with_characters quotes characters (with_character quote.slot character slots)

-- the characters of these quotes as one list of siblings
abbrev pub characters_of : List PlacedQuote → List ℕ
characters_of placed = quote_characters [] (map shown_quote (map (λ (p : PlacedQuote). p.quote) placed))
