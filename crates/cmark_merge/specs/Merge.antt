-- Adjacent texts, merged: each longest run of two or more texts becomes one text.
use Rattle.std.specs.Prelude.{ℕ, List, [], ◌∷◌, ◌++◌, Option, Some, None, Result, Ok, Err}
use Rattle.cmark_grammar.specs.Event.{Event, Text, Ranged}

-- a text with its range
pub record TextAt : Type 0 where
  pub text : List ℕ
  pub start : ℕ
  pub end : ℕ

abbrev pub texts : List TextAt → List ℕ
texts [] = []
texts (t ∷ ts) = t.text ++ texts ts

abbrev pub last_end : TextAt → List TextAt → ℕ
last_end t [] = t.end
last_end t (u ∷ us) = last_end u us

-- a text and the texts after it as one: their bytes, from the start of the first to the end of the last
abbrev pub joined : TextAt → List TextAt → TextAt
joined t ts = record { text = t.text ++ texts ts; start = t.start; end = last_end t ts }

abbrev pub unless_empty : {A : Type 0} → List ℕ → A → List A
unless_empty [] x = []
unless_empty (b ∷ bs) x = x ∷ []

-- the items among which texts are merged; `item_of` is the item of a text
module _ {A : Type 0} (item_of : TextAt → A) where
  -- the items of a longest run: a single text is kept as it is, and of several texts nothing is left if all are empty
  abbrev pub merged_run : List TextAt → List A
  merged_run [] = []
  merged_run (t ∷ []) = item_of t ∷ []
  merged_run (t ∷ u ∷ us) = unless_empty (joined t (u ∷ us)).text (item_of (joined t (u ∷ us)))

  -- a run and the item after it: if the item is a text it belongs to the run, else the run ends
  abbrev pub run_with : List TextAt → Option TextAt → A → (List TextAt → List A) → List A
  run_with run (Some t) x Following = Following (run ++ t ∷ [])
  run_with run None x Following = merged_run run ++ x ∷ Following []

-- `text_of` is the text of an item, if the item is one
module _ {A : Type 0} (text_of : A → Option TextAt) (item_of : TextAt → A) where
  -- a run and all items after it
  abbrev pub merge_after : List TextAt → List A → List A
  merge_after run [] = merged_run item_of run
  merge_after run (x ∷ xs) = run_with item_of run (text_of x) x (λ longer. merge_after longer xs)

  abbrev pub merge : List A → List A
  merge xs = merge_after [] xs

-- only the event `Text` is a text; code, HTML and formulas are not
abbrev pub text_between : Event → (start end : ℕ) → Option TextAt
text_between (Text text) start end = Some (record { text = text; start = start; end = end })
text_between _ start end = None

-- events without ranges
abbrev pub text_of_event : Event → Option TextAt
text_of_event e = text_between e 0 0

abbrev pub event_of : TextAt → Event
event_of t = Text t.text

abbrev pub merge_events : List Event → List Event
merge_events events = merge text_of_event event_of events

-- events with ranges
abbrev pub text_of_ranged : Ranged → Option TextAt
text_of_ranged r = text_between r.event r.start r.end

abbrev pub ranged_of : TextAt → Ranged
ranged_of t = record { event = Text t.text; start = t.start; end = t.end }

abbrev pub merge_ranged : List Ranged → List Ranged
merge_ranged events = merge text_of_ranged ranged_of events

-- an error item is not a text, so it separates two runs
abbrev pub text_of_ok : {A E : Type 0} → (A → Option TextAt) → Result A E → Option TextAt
text_of_ok text_of (Ok x) = text_of x
text_of_ok text_of (Err e) = None

-- every event except an empty text
abbrev pub IsNoEmptyText : Event → Type 0
IsNoEmptyText (Text []) = ⊥
IsNoEmptyText _ = Unit {0}

abbrev pub NoEmptyTexts : List Event → Type 0
NoEmptyTexts [] = Unit {0}
NoEmptyTexts (e ∷ es) = IsNoEmptyText e × NoEmptyTexts es
