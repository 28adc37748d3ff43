-- The parts that a pass has read, laid out as a row of slots, with the indices of the opening brackets that are texts.
use Rattle.std.specs.Prelude.{◌≡◌, ℕ, suc, ◌+◌, List, [], ◌∷◌, ◌++◌, length, drop, take, Some}
use Rattle.cmark_grammar.specs.Emphasis.{Run, Sibling, Delimiter}
use Rattle.cmark_grammar.specs.Items.{ItemKind, Delimiters, Bracket, Own}
use Rattle.cmark_grammar.specs.Options.{Options}
use Rattle.cmark_grammar.specs.Parts.{Parts, Opening, openings}
use Rattle.cmark_grammar.specs.Quotes.{Quote}
use Rattle.cmark_grammar.specs.Siblings.{Inline, Nil, Single, Around, item, quotes_of}
use Rattle.cmark_inline_model.specs.SiblingsModel.{siblings_of}
use Rattle.cmark_inline_model.specs.PartLists.{join, Cut, cut_at}
use Rattle.cmark_inline_model.specs.SlotRows.{Slot, ItemSlot, LaysOut}

-- ## Delimiter runs

-- the runs of a list of siblings
abbrev pub run_before : ItemKind → List Run → List Run
run_before (Delimiters run) runs = run ∷ runs
run_before _ runs = runs

abbrev pub runs_in : Inline → List Run
runs_in Nil = []
runs_in (Single x after) = run_before x.kind (runs_in after)
runs_in (Around tag start end inside after) = runs_in after

-- the number of their bytes
abbrev pub bytes_in : List Run → ℕ
bytes_in [] = 0
bytes_in (run ∷ runs) = run.run_length + bytes_in runs

-- as siblings, their bytes counted from an index on
abbrev pub counted : (at : ℕ) → List Run → List Sibling
counted at [] = []
counted at (run ∷ runs) = Delimiter (record { delimiter = run.delimiter; run_length = run.run_length; at = at; left = run.run_length; opens = run.opens; closes = run.closes }) ∷ counted (at + run.run_length) runs

-- ## Rows

-- an opening bracket, with the numbers of slots, runs and quotes before it
pub record BracketPlace : Type 0 where
  pub bracket : Bracket
  pub slot : ℕ
  pub runs : ℕ
  pub quotes : ℕ

abbrev pub text_slot : Bracket → Slot
text_slot bracket = ItemSlot (item Own bracket.start bracket.end)

module _ (options : Options) where
  -- parts laid out on both sides of an opening bracket that is a text; no other one is among the parts after it
  pub record LaysBracket (Before : Parts → List Slot → (bytes quotes : List ℕ) → Type 0) (b : BracketPlace) (parts : Parts) (slots : List Slot) (bytes quotes : List ℕ) : Type 0 where
    pub before : Parts
    pub opener : Bracket
    pub opener_is : b.bracket ≡ opener
    pub inside : Parts
    pub parts_are : parts ≡ join before (Opening opener inside)
    pub none : openings inside ≡ 0
    pub front : List Slot
    pub following : List Slot
    pub slots_are : slots ≡ front ++ (text_slot opener ∷ following)
    pub slot_is : b.slot ≡ length front
    pub runs_is : b.runs ≡ length (runs_in (siblings_of options before))
    pub quotes_is : b.quotes ≡ length (quotes_of (siblings_of options before))
    pub front_bytes : List ℕ
    pub after_bytes : List ℕ
    pub bytes_are : bytes ≡ front_bytes ++ after_bytes
    pub front_quotes : List ℕ
    pub after_quotes : List ℕ
    pub quotes_are : quotes ≡ front_quotes ++ after_quotes
    pub laid_before : Before before front front_bytes front_quotes
    pub laid_after : LaysOut (suc (length front)) (siblings_of options inside) following after_bytes after_quotes

  -- parts laid out as a row, with the records of their opening brackets that are texts, the nearest first
  abbrev pub LaysParts : List BracketPlace → Parts → List Slot → (bytes quotes : List ℕ) → Type 0
  LaysParts [] parts slots bytes quotes = (openings parts ≡ 0) × LaysOut 0 (siblings_of options parts) slots bytes quotes
  LaysParts (b ∷ bs) parts slots bytes quotes = LaysBracket (λ p s c d. LaysParts bs p s c d) b parts slots bytes quotes

  -- a row with its runs and its quotes
  pub record IsRow (bs : List BracketPlace) (parts : Parts) (slots : List Slot) (bytes quotes : List ℕ) (runs : List Run) (quoted : List Quote) : Type 0 where
    pub laid : LaysParts bs parts slots bytes quotes
    pub runs_are : runs_in (siblings_of options parts) ≡ runs
    pub quoted_are : quotes_of (siblings_of options parts) ≡ quoted

  -- the row cut at the opening bracket after which there are `nearer` others: its slot, the part before it, and the part after it
  pub record CutsRow (nearer : ℕ) (bs : List BracketPlace) (parts : Parts) (slots : List Slot) (bytes quotes : List ℕ) (runs : List Run) (quoted : List Quote) : Type 0 where
    pub cut : Cut
    pub cut_is : cut_at nearer parts ≡ Some cut
    pub place : BracketPlace
    pub place_is : drop nearer bs ≡ place ∷ drop (suc nearer) bs
    pub opener_is : place.bracket ≡ cut.opener
    pub front : List Slot
    pub following : List Slot
    pub slots_are : slots ≡ front ++ (text_slot cut.opener ∷ following)
    pub slot_is : place.slot ≡ length front
    pub front_bytes : List ℕ
    pub after_bytes : List ℕ
    pub bytes_are : bytes ≡ front_bytes ++ after_bytes
    pub bytes_count : length front_bytes ≡ bytes_in (take place.runs runs)
    pub front_quotes : List ℕ
    pub after_quotes : List ℕ
    pub quotes_are : quotes ≡ front_quotes ++ after_quotes
    pub quotes_count : length front_quotes ≡ place.quotes
    pub before : IsRow (drop (suc nearer) bs) cut.before front front_bytes front_quotes (take place.runs runs) (take place.quotes quoted)
    pub laid_after : LaysOut (suc (length front)) (siblings_of options cut.inside) following after_bytes after_quotes
    pub runs_after : runs_in (siblings_of options cut.inside) ≡ drop place.runs runs
    pub quoted_after : quotes_of (siblings_of options cut.inside) ≡ drop place.quotes quoted
