-- Slots that become characters.
use Rattle.std.proofs.Common.{◌≡◌, ℕ, zero, suc, ◌+◌, ◌<◌, ◌≤◌, List, [], ◌∷◌, length, drop, get_or, set, refl, sym, ap, ◌∙◌, arith}
use Rattle.std.proofs.Math.Seq.{drop-cons}
use Rattle.std.specs.Prelude.{map}
use Rattle.std.proofs.lemmas.List.{drop_all, length-map}
use Rattle.cmark_emphasis.specs.Shown.{shown_quote}
use Rattle.cmark_grammar.specs.Quotes.{Quote, quote_characters}
use Rattle.cmark_slots.specs.QuoteSlots.{characters_of, with_character, with_characters}
use Rattle.cmark_slots.specs.declared.quote.PlacedQuote.{PlacedQuote}
use Rattle.cmark_slots.specs.declared.slot.Slot.{Slot}
use Rattle.cmark_slots.specs.declared.slot.SlotKind.TheVariants as kind

pub becomes : (slots : List Slot) (at character : ℕ) (d : Slot) → at < length slots
    → set slots at (record { kind = kind.Character character; start = (get_or slots at d).start; end = (get_or slots at d).end }) ≡ with_character at character slots
becomes [] at character d lt = absurd (omega (arith, lt))
becomes (slot ∷ slots) zero character d lt = refl
becomes (slot ∷ slots) (suc at) character d lt = ap (λ (l : List Slot). slot ∷ l) (becomes slots at character d (let q : at < length slots = omega (arith, lt) in q))

-- one more quote has its character
pub one-more : (placed : List PlacedQuote) (characters : List ℕ) (slots : List Slot) (at : ℕ) (d : PlacedQuote) (character : ℕ) → at < length placed → length characters ≡ length placed → character ≡ get_or characters at character
    → with_characters (drop (at + 1) placed) (drop (at + 1) characters) (with_character (get_or placed at d).slot character slots) ≡ with_characters (drop at placed) (drop at characters) slots
one-more placed characters slots at d character lt many made =
    let next : at + 1 ≡ suc at = omega arith in
    let there : at < length characters = omega (arith, lt, many) in
    let p : PlacedQuote = get_or placed at d in
    sym (
    ap (λ (ps : List PlacedQuote). with_characters ps (drop at characters) slots) (drop-cons placed at d lt)
    ∙ ap (λ (cs : List ℕ). with_characters (p ∷ drop (suc at) placed) cs slots) (drop-cons characters at character there ∙ ap (λ (c : ℕ). c ∷ drop (suc at) characters) (sym made))
    ∙ ap (λ (n : ℕ). with_characters (drop n placed) (drop n characters) (with_character p.slot character slots)) (sym next))

-- all quotes have their characters
pub all-written : (placed : List PlacedQuote) (characters : List ℕ) (slots : List Slot) (at : ℕ) → at ≡ length placed → with_characters (drop at placed) (drop at characters) slots ≡ slots
all-written placed characters slots at e = ap (λ (ps : List PlacedQuote). with_characters ps (drop at characters) slots) (drop_all at placed (let q : length placed ≤ at = omega (arith, e) in q))

-- there is one character for each quote
as-many : (before quotes : List Quote) → length (quote_characters before quotes) ≡ length quotes
as-many before [] = refl
as-many before (q ∷ quotes) = ap suc (as-many (q ∷ before) quotes)

pub many : (placed : List PlacedQuote) → length (characters_of placed) ≡ length placed
many placed =
    as-many [] (map shown_quote (map (λ (p : PlacedQuote). p.quote) placed))
    ∙ length-map (map (λ (p : PlacedQuote). p.quote) placed) shown_quote
    ∙ length-map placed (λ (p : PlacedQuote). p.quote)
