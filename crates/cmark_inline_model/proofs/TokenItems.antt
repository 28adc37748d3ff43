-- A property of each kind of item that a token of a leaf can be holds of its tokens, and of the items of its parts.
use Rattle.std.specs.Prelude.{suc, ◌==◌, ◌&&◌, ◌||◌, not, if◌then◌else◌}
use Rattle.std.specs.List.{prefix_len}
use Rattle.std.proofs.Common.{◌≡◌, ◌+◌, ℕ, Bool, true, false, List, [], ◌∷◌, length, Option, Some, None, refl, arith}
use Rattle.cmark_grammar.specs.Autolinks.{autolink_in}
use Rattle.cmark_grammar.specs.BracketDecisions.{decide}
use Rattle.cmark_grammar.specs.BracketReading.{Reads}
use Rattle.cmark_grammar.specs.BracketStates.{State, moved, opened, Decision}
use Rattle.cmark_grammar.specs.CodeSpans.{backticks, code_in}
use Rattle.cmark_grammar.specs.Columns.{is_blank_byte}
use Rattle.cmark_grammar.specs.Emphasis.{Run}
use Rattle.cmark_grammar.specs.Flanking.{is_delimiter_run, is_intraword, opens_beside, closes_beside, flanking, is_run_delimiter}
use Rattle.cmark_grammar.specs.Formulas.{is_dollar, Braces, no_braces, braces_after}
use Rattle.cmark_grammar.specs.InlineTokens.{item_at, bracket, is_plain, from, before, character_before, character_at, break_or, code_or, escaped_backtick, escape_at, entity_or, autolink_or, tag_or_text, markup_or, less_than, run_at, formula_or, dollar, smart_or, begins, begins_at, plain_end, longest, token, place_of}
use Rattle.cmark_grammar.specs.Items.{ItemKind, Plain, Written, Html, OwnedHtml, Delimiters, InlineMath, DisplayMath, SoftBreak, HardBreak, Item, Bracket, Token, Stands, Opens, Closes, Own, Code, Autolink, Quoted}
use Rattle.cmark_grammar.specs.LeafText.{Leaf}
use Rattle.cmark_grammar.specs.Letters.{first_is}
use Rattle.cmark_grammar.specs.LineBreaks.{LineBreak, backslash_break_in, blank_break_in}
use Rattle.cmark_grammar.specs.Lines.{is_content}
use Rattle.cmark_grammar.specs.LinkDefinitions.{Parsed}
use Rattle.cmark_grammar.specs.Parts.{Parts, Nil, Single, Form, Closing, Opening}
use Rattle.cmark_grammar.specs.Questions.{Saying}
use Rattle.cmark_grammar.specs.Quotes.{Quote}
use Rattle.cmark_grammar.specs.Readers.{Reader}
use Rattle.cmark_grammar.specs.Tokens.{Entity, entity_in}

module _ (reader : Reader) (leaf : Leaf) (Holds : ItemKind → (start end : ℕ) → Type 0) where
  -- it holds of each kind of item that a token of the leaf is, with the option that it needs
  pub record HoldsOfItems : Type 0 where
    pub plain : (start end : ℕ) → Holds Plain start end
    pub own : (start end : ℕ) → Holds Own start end
    pub written : (text : List ℕ) (start end : ℕ) → Holds (Written text) start end
    pub code : (text : List ℕ) (start end : ℕ) → Holds (Code text) start end
    pub html : (start end : ℕ) → Holds Html start end
    pub owned_html : (bytes : List ℕ) (start end : ℕ) → Holds (OwnedHtml bytes) start end
    pub soft_break : (start end : ℕ) → Holds SoftBreak start end
    pub hard_break : (start end : ℕ) → Holds HardBreak start end
    pub quoted : reader.options.smart_punctuation ≡ true → (quote : Quote) (start end : ℕ) → Holds (Quoted quote) start end
    pub inline_math : reader.options.math ≡ true → (text : List ℕ) (start end : ℕ) → Holds (InlineMath text) start end
    pub display_math : reader.options.math ≡ true → (text : List ℕ) (start end : ℕ) → Holds (DisplayMath text) start end
    pub run : (run : Run) (start : ℕ) → is_delimiter_run reader.options run.delimiter run.run_length ≡ true → Holds (Delimiters run) start (start + run.run_length)
    pub autolink : (at b : ℕ) (bs : List ℕ) (found : Parsed) → from reader leaf at ≡ b ∷ bs → autolink_in reader.options.email_autolinks bs ≡ Some found → Holds (Autolink found.bytes) at (place_of reader leaf found.following)

  abbrev pub HoldsOf : Token → Type 0
  HoldsOf (Stands item resume) = Holds item.kind item.start item.end
  HoldsOf _ = Unit {0}

  when : (b : Bool) (x y : Token) → (b ≡ true → HoldsOf x) → HoldsOf y → HoldsOf (if b then x else y)
  when true x y h k = h refl
  when false x y h k = k

  and_left : (a b : Bool) → (a && b) ≡ true → a ≡ true
  and_left true b e = refl
  and_left false b e = cc

  either_left : (a b c : Bool) → ((a && b) || (a && c)) ≡ true → a ≡ true
  either_left true b c e = refl
  either_left false b c e = cc

  module _ (holds : HoldsOfItems) (at : ℕ) (b : ℕ) (bs : List ℕ) (here : from reader leaf at ≡ b ∷ bs) where
    break_holds : (found : Option LineBreak) (other : Token) → HoldsOf other → HoldsOf (break_or reader leaf at found other)
    break_holds found other h = grind arith

    code_holds : (n : ℕ) (found : Option Parsed) → HoldsOf (code_or reader leaf at n found)
    code_holds n (Some found) = holds.code _ _ _
    code_holds n None = holds.own _ _

    entity_holds : (entity : Option Entity) → HoldsOf (entity_or reader leaf at entity)
    entity_holds (Some entity) = holds.written _ _ _
    entity_holds None = holds.plain _ _

    escaped_holds : (found : Option Parsed) → HoldsOf (escaped_backtick reader leaf (suc at) (backticks bs) found)
    escaped_holds (Some found) = holds.plain _ _
    escaped_holds None = holds.own _ _

    escape_holds : HoldsOf (escape_at reader leaf at bs)
    escape_holds = grind (arith, when, escaped_holds)

    markup_holds : (found : Option (List ℕ)) (other : Token) → HoldsOf other → HoldsOf (markup_or reader leaf at found other)
    markup_holds None other h = h
    markup_holds (Some rest) other h = holds.html _ _

    kind_holds : (lines : Bool) (bytes : List ℕ) (start end : ℕ) → Holds (if lines then OwnedHtml bytes else Html) start end
    kind_holds true bytes = holds.owned_html bytes
    kind_holds false bytes = holds.html

    tag_holds : (found : Option (List ℕ)) → HoldsOf (tag_or_text reader leaf at found)
    tag_holds found = grind (arith, kind_holds)

    autolink_holds : (found : Option Parsed) (other : Token) → autolink_in reader.options.email_autolinks bs ≡ found → HoldsOf other → HoldsOf (autolink_or reader leaf at found other)
    autolink_holds None other e h = h
    autolink_holds (Some found) other e h = holds.autolink at b bs found here e

    less_than_holds : HoldsOf (less_than reader leaf at bs)
    less_than_holds = grind (arith, when, autolink_holds, markup_holds, tag_holds)

    run_holds : (n : ℕ) → HoldsOf (run_at reader leaf at b n)
    run_holds n =
        let beside = flanking reader.options b n (character_before reader leaf at) (character_at reader leaf (at + n)) in
        let is_run = is_delimiter_run reader.options b n in
        let intraword = is_intraword reader.options b n in
        let opens = opens_beside intraword (character_before reader leaf at) (character_at reader leaf (at + n)) in
        let closes = closes_beside intraword (character_before reader leaf at) (character_at reader leaf (at + n)) in
        when (beside.opens || beside.closes) (item_at (Delimiters (record { delimiter = b; run_length = n; at = 0; left = n; opens = beside.opens; closes = beside.closes })) at (at + n)) (item_at Plain at (at + n))
        (λ e. holds.run (record { delimiter = b; run_length = n; at = 0; left = n; opens = beside.opens; closes = beside.closes }) at (either_left is_run opens closes e)) (holds.plain _ _)

    formula_holds : (kind : List ℕ → ItemKind) (found : Option Parsed) → ((text : List ℕ) (start end : ℕ) → Holds (kind text) start end) → HoldsOf (formula_or reader leaf kind at found)
    formula_holds kind (Some found) h = h _ _ _
    formula_holds kind None h = holds.own _ _

    dollar_holds : (braces : Braces) → reader.options.math ≡ true → HoldsOf (dollar reader leaf at bs braces)
    dollar_holds braces on = grind (arith, when, formula_holds)

    smart_holds : reader.options.smart_punctuation ≡ true → HoldsOf (smart_or reader leaf at b)
    smart_holds on = grind (arith, when)

    begins_holds : HoldsOf (begins reader leaf at (b ∷ bs))
    begins_holds =
        let plain = item_at Plain at (suc at) in
        let c9 = if reader.options.smart_punctuation then smart_or reader leaf at b else plain in
        let c8 = if reader.options.math && is_dollar b then dollar reader leaf at bs (braces_after false (before reader leaf at) no_braces) else c9 in
        let c7 = if is_run_delimiter b then run_at reader leaf at b (prefix_len (λ c. c == b) (b ∷ bs)) else c8 in
        let c6 = if b == 93 then Closes (bracket false at (suc at)) else c7 in
        let c5 = if b == 91 then Opens (bracket false at (suc at)) else c6 in
        let bang = if first_is (λ c. c == 91) bs then Opens (bracket true at (at + 2)) else plain in
        let c4 = if b == 33 then bang else c5 in
        let c3 = if b == 60 then less_than reader leaf at bs else c4 in
        let c2 = if b == 96 then code_or reader leaf at (backticks (b ∷ bs)) (code_in (b ∷ bs)) else c3 in
        let c1 = if b == 38 then entity_or reader leaf at (entity_in reader.lookup bs) else c2 in
        let c0 = if b == 92 then break_or reader leaf at (backslash_break_in (b ∷ bs)) (escape_at reader leaf at bs) else c1 in
        when (is_blank_byte b || not (is_content b)) (break_or reader leaf at (blank_break_in (b ∷ bs)) plain) c0 (λ e. break_holds (blank_break_in (b ∷ bs)) plain (holds.plain _ _))
        (when (b == 92) (break_or reader leaf at (backslash_break_in (b ∷ bs)) (escape_at reader leaf at bs)) c1 (λ e. break_holds (backslash_break_in (b ∷ bs)) (escape_at reader leaf at bs) escape_holds)
        (when (b == 38) (entity_or reader leaf at (entity_in reader.lookup bs)) c2 (λ e. entity_holds (entity_in reader.lookup bs))
        (when (b == 96) (code_or reader leaf at (backticks (b ∷ bs)) (code_in (b ∷ bs))) c3 (λ e. code_holds (backticks (b ∷ bs)) (code_in (b ∷ bs)))
        (when (b == 60) (less_than reader leaf at bs) c4 (λ e. less_than_holds)
        (when (b == 33) bang c5 (λ e. when (first_is (λ c. c == 91) bs) (Opens (bracket true at (at + 2))) plain (λ g. tt) (holds.plain _ _))
        (when (b == 91) (Opens (bracket false at (suc at))) c6 (λ e. tt)
        (when (b == 93) (Closes (bracket false at (suc at))) c7 (λ e. tt)
        (when (is_run_delimiter b) (run_at reader leaf at b (prefix_len (λ c. c == b) (b ∷ bs))) c8 (λ e. run_holds (prefix_len (λ c. c == b) (b ∷ bs)))
        (when (reader.options.math && is_dollar b) (dollar reader leaf at bs (braces_after false (before reader leaf at) no_braces)) c9
        (λ e. dollar_holds (braces_after false (before reader leaf at) no_braces) (and_left reader.options.math (is_dollar b) e))
        (when reader.options.smart_punctuation (smart_or reader leaf at b) plain smart_holds (holds.plain _ _)))))))))))

  begins_at_holds : HoldsOfItems → (at : ℕ) (l : List ℕ) → from reader leaf at ≡ l → HoldsOf (begins reader leaf at l)
  begins_at_holds holds at [] e = tt
  begins_at_holds holds at (b ∷ bs) e = begins_holds holds at b bs e

  longest_holds : HoldsOfItems → (t : Token) → HoldsOf t → HoldsOf (longest reader leaf t)
  longest_holds holds (Stands item resume) h = when (is_plain item.kind) (item_at Plain item.start (plain_end reader leaf (length (from reader leaf resume)) resume)) (Stands item resume) (λ e. holds.plain _ _) h
  longest_holds holds _ h = tt

  pub token-holds : HoldsOfItems → (at : ℕ) → HoldsOf (token reader leaf at)
  unfolding token
  token-holds holds at = longest_holds holds (begins_at reader leaf at) (begins_at_holds holds at (from reader leaf at) refl)

-- it holds of each item of these parts
abbrev pub OfItems : (Item → Type 0) → Parts → Type 0
OfItems Holds Nil = Unit {0}
OfItems Holds (Single item after) = Holds item × OfItems Holds after
OfItems Holds (Form opener inside closer formed after) = OfItems Holds inside × OfItems Holds after
OfItems Holds (Closing closer after) = OfItems Holds after
OfItems Holds (Opening opener after) = OfItems Holds after

-- a property of the items of a text's tokens holds of the items of its parts
pub items-hold : (token : ℕ → Token) (decide : State → (closer : Bracket) → Decision) (Says : Saying) (Holds : Item → Type 0)
    → ((at resume : ℕ) (item : Item) → token at ≡ Stands item resume → Holds item) → (s : State) (parts : Parts) (t : State) → Reads token decide Says s parts t → OfItems Holds parts
items-hold token decide Says Holds keeps s Nil t h = tt
items-hold token decide Says Holds keeps s (Single item after) t h = (keeps s.at h.0 item h.1, items-hold token decide Says Holds keeps (moved h.0 s) after t h.2)
items-hold token decide Says Holds keeps s (Form opener inside closer formed after) t h =
    (items-hold token decide Says Holds keeps (opened opener s) inside h.until h.inside, items-hold token decide Says Holds keeps h.next after t h.after)
items-hold token decide Says Holds keeps s (Closing closer after) t h = items-hold token decide Says Holds keeps h.next after t h.after
items-hold token decide Says Holds keeps s (Opening opener after) t h = items-hold token decide Says Holds keeps (opened opener s) after t h.1
