-- The least number of steps that the searches of a leaf take, and the uses of footnotes that are counted. Both depend on the parts as which
-- the grammar reads the leaf.
use Rattle.std.specs.Prelude.{◌≡◌, ℕ, ◌+◌, ◌-◌, ◌<◌, ◌≤◌, Bool, true, ◌||◌, if◌then◌else◌, List, [], ◌++◌, length, drop, slice_index, codes, Option, None, IfSome, is_some}
use Rattle.cmark_emphasis.specs.Least.{least_examined}
use Rattle.cmark_span_scan.specs.Dollars.{formula_at}
use Rattle.cmark_grammar.specs.Characters.{backtick, dollar_sign}
use Rattle.cmark_grammar.specs.Answers.{Lookup}
use Rattle.cmark_grammar.specs.Autolinks.{autolink_in}
use Rattle.cmark_grammar.specs.BracketDecisions.{decide}
use Rattle.cmark_grammar.specs.BracketReading.{ReadsWhole}
use Rattle.cmark_grammar.specs.BracketStates.{State}
use Rattle.cmark_grammar.specs.CodeSpans.{code_in}
use Rattle.cmark_grammar.specs.Emphasis.{runs_of}
use Rattle.cmark_grammar.specs.InlineHtml.{after_markup}
use Rattle.cmark_grammar.specs.InlineTokens.{token}
use Rattle.cmark_grammar.specs.Items.{ItemKind, Code, InlineMath, DisplayMath, Html, Item}
use Rattle.cmark_grammar.specs.LeafReading.{entering}
use Rattle.cmark_grammar.specs.LeafText.{Leaf}
use Rattle.cmark_grammar.specs.Letters.{starts}
use Rattle.cmark_grammar.specs.Options.{Options}
use Rattle.cmark_grammar.specs.Parts.{Formed, Linking, Parts, Nil, Single, Form, Closing, Opening}
use Rattle.cmark_grammar.specs.Questions.{Exchange, IsNext}
use Rattle.cmark_grammar.specs.Readers.{Reader}
use Rattle.cmark_grammar.specs.Siblings.{Inline}
use Rattle.cmark_inline_model.specs.RunSpans.{runs_from}
use Rattle.cmark_inline_model.specs.SiblingsModel.{siblings_of}
use Rattle.cmark_references.specs.declared.definitions.RefDefs.{RefDefs}
use Rattle.cmark_references.specs.declared.footnotes.FootnoteDefs.{FootnoteDefs}
use Rattle.cmark_leaf_text.specs.Reads.{text_of}
use Rattle.cmark_leaf_text.specs.declared.leaf_text.LeafText.{LeafText}
use Rattle.cmark_values.specs.declared.text.CowStr.{CowStr}
use Rattle.cmark_inline.specs.Decided.{ReadsSame}
use Rattle.cmark_inline.specs.MarkupInSource.{source_from}
use Rattle.cmark_inline.specs.Reached.{ReadsPlaces}
use Rattle.cmark_inline.specs.Resolved.{Answered}
use Rattle.cmark_inline.specs.Tokens.{opens_markup}
use Rattle.cmark_inline.specs.Uses.{RiseBy, uses_of}
use Rattle.cmark_inline.specs.declared.callback.BrokenLink.{BrokenLink}
use Rattle.cmark_inline.specs.declared.markup.Unclosed.{Unclosed}
use Rattle.cmark_inline.specs.declared.step.Sought.{Sought}
use Rattle.cmark_inline.specs.declared.steps.Steps.{Steps}

-- ## Code spans and formulas

-- the least number of runs that are visited to find the end of an item: only the run that closes it
abbrev pub closers_of : ItemKind → ℕ
closers_of (Code text) = 1
closers_of (InlineMath text) = 1
closers_of (DisplayMath text) = 1
closers_of _ = 0

abbrev pub least_closers : Parts → ℕ
least_closers Nil = 0
least_closers (Single x after) = closers_of x.kind + least_closers after
least_closers (Form opener inside closer formed after) = least_closers inside + least_closers after
least_closers (Closing closer after) = least_closers after
least_closers (Opening opener after) = least_closers after

-- ## Markup

-- comments, declarations and CDATA sections begin with `<!`, and processing instructions with `<?`. No tag begins with either (CommonMark 6.6)
abbrev pub begins_markup : List ℕ → Bool
begins_markup bs = starts (codes "<!") bs || starts (codes "<?") bs

-- the least number of bytes that are passed to find the end of an item: the bytes of markup, except its first two
abbrev pub passed_in : ItemKind → (source : List ℕ) → (start end : ℕ) → ℕ
passed_in Html source start end = if begins_markup (drop start source) then end - start - 2 else 0
passed_in _ source start end = 0

abbrev pub passed_of : (source : List ℕ) → Item → ℕ
passed_of source x = passed_in x.kind source x.start x.end

abbrev pub least_html : (source : List ℕ) → Parts → ℕ
least_html source Nil = 0
least_html source (Single x after) = passed_of source x + least_html source after
least_html source (Form opener inside closer formed after) = least_html source inside + least_html source after
least_html source (Closing closer after) = least_html source after
least_html source (Opening opener after) = least_html source after

-- ## Open runs

-- the least number of open runs that the searches in one list of siblings examine
abbrev pub least_among : Inline → ℕ
least_among siblings = least_examined (runs_of (runs_from siblings 0))

-- the least number between two brackets: a link or an image holds a list of siblings of its own
abbrev pub least_formed : Options → Formed → (inside : Parts) → ℕ
least_formed options (Linking target) inside = least_among (siblings_of options inside)
least_formed options _ inside = 0

-- the least number in all lists of siblings between brackets
abbrev pub least_within : Options → Parts → ℕ
least_within options Nil = 0
least_within options (Single x after) = least_within options after
least_within options (Form opener inside closer formed after) = least_formed options formed inside + (least_within options inside + least_within options after)
least_within options (Closing closer after) = least_within options after
least_within options (Opening opener after) = least_within options after

-- the least number in all lists of siblings, the outermost one included
abbrev pub least_openers : Options → Parts → ℕ
least_openers options parts = least_within options parts + least_among (siblings_of options parts)

-- ## While a leaf is read

-- the number of runs of backticks and of dollar signs that were visited so far
abbrev pub visited_in : Sought → ℕ
visited_in sought = sought.runs.visited + sought.dollars.visited

-- the counts while a leaf is read: those of its searches, and those of the footnotes, before the leaf (`begun`) and now (`notes`)
pub record Tally : Type 0 where
  pub sought : Sought
  pub begun : FootnoteDefs
  pub notes : FootnoteDefs

-- at least the steps that these parts need were taken. The runs of the outermost list are not resolved yet, so they do not count. The uses
-- are those of the footnote references in the parts
pub record AreCounted (reader : Reader) (parts : Parts) (tally : Tally) (examined : ℕ) : Type 0 where
  pub html : least_html reader.source parts ≤ tally.sought.unclosed.passed
  pub openers : least_within reader.options parts ≤ examined
  pub closers : least_closers parts ≤ visited_in tally.sought
  pub uses : RiseBy (λ folded. uses_of folded parts) tally.begun tally.notes

-- if a code span or a formula begins at the offset `at`, the call has visited the run that closes it
pub record VisitsAt (text : List ℕ) (at : ℕ) (before after : Sought) : Type 0 where
  pub runs : before.runs.visited ≤ after.runs.visited
  pub signs : before.dollars.visited ≤ after.dollars.visited
  pub code : slice_index text at ≡ backtick → is_some (code_in (drop at text)) ≡ true → before.runs.visited < after.runs.visited
  pub formula : slice_index text at ≡ dollar_sign → is_some (formula_at text at) ≡ true → before.dollars.visited < after.dollars.visited

-- if these bytes begin with markup that is closed, a search has passed all of its bytes except the first two
abbrev pub PassesFound : (bytes : List ℕ) → (before after : Unclosed) → Type 0
PassesFound bytes before after = IfSome (after_markup bytes) (λ rest. before.passed + (length bytes - length rest) ≤ after.passed + 2)

-- if closed markup begins in the source at the offset `at`, and no autolink does, the call has passed it
pub record PassesAt (emails : Bool) (leaf : LeafText) (at : ℕ) (before after : Unclosed) : Type 0 where
  pub grows : before.passed ≤ after.passed
  pub markup : slice_index (text_of leaf) at ≡ 60 → autolink_in emails (drop (at + 1) (text_of leaf)) ≡ None → opens_markup (drop (at + 1) (text_of leaf)) ≡ true → PassesFound (source_from leaf at) before after

-- ## A leaf

-- the grammar reads the leaf as these parts, for the answers that the callback gave, whatever is asked after this leaf
pub record IsReadAs {F : Type 0} (R : F → BrokenLink → Option (CowStr × CowStr) → F → Type 0) (reader : Reader) (read : Leaf) (expansion_left : ℕ) (parts : Parts) (before after : F) : Type 0 where
  pub asked : List Exchange
  pub answered : Answered R asked before after
  pub last : State
  pub reads : (rest : List Exchange) → ReadsWhole (token reader read) (decide reader read) (IsNext (asked ++ rest)) (entering read (record { expansion_left = expansion_left; asked = [] })) parts last

-- the counters have grown by at least the steps that the parts of the leaf need
pub record TakesSteps {F : Type 0} (R : F → BrokenLink → Option (CowStr × CowStr) → F → Type 0) (reader : Reader) (read : Leaf) (expansion_left : ℕ) (old new : Steps) (before after : F) : Type 0 where
  pub parts : Parts
  pub read_as : IsReadAs R reader read expansion_left parts before after
  pub html : old.html + least_html reader.source parts ≤ new.html
  pub openers : old.openers + least_openers reader.options parts ≤ new.openers
  pub closers : old.closers + least_closers parts ≤ new.closers

-- this holds for each reading of this leaf by the grammar, with these options, entities, definitions and footnotes
abbrev pub CountsLeast : {F : Type 0} → (F → BrokenLink → Option (CowStr × CowStr) → F → Type 0) → Options → Lookup → RefDefs → FootnoteDefs → LeafText → (expansion_left : ℕ) → (old new : Steps) → (before after : F) → Type 0
CountsLeast R options lookup references footnotes leaf expansion_left old new before after =
    (reader : Reader) (read : Leaf) (place : ℕ → ℕ) → ReadsSame options lookup references footnotes leaf reader read place → ReadsPlaces leaf reader read place
    → TakesSteps R reader read expansion_left old new before after

-- the use counts have risen by the footnote references in the parts of the leaf
pub record TakesUses {F : Type 0} (R : F → BrokenLink → Option (CowStr × CowStr) → F → Type 0) (reader : Reader) (read : Leaf) (expansion_left : ℕ) (old new : FootnoteDefs) (before after : F) : Type 0 where
  pub parts : Parts
  pub read_as : IsReadAs R reader read expansion_left parts before after
  pub uses : RiseBy (λ folded. uses_of folded parts) old new

-- this holds for each reading of this leaf by the grammar, with these options, entities, definitions and footnotes
abbrev pub CountsUses : {F : Type 0} → (F → BrokenLink → Option (CowStr × CowStr) → F → Type 0) → Options → Lookup → RefDefs → LeafText → (expansion_left : ℕ) → (old new : FootnoteDefs) → (before after : F) → Type 0
CountsUses R options lookup references leaf expansion_left old new before after =
    (reader : Reader) (read : Leaf) (place : ℕ → ℕ) → ReadsSame options lookup references old leaf reader read place → ReadsPlaces leaf reader read place
    → TakesUses R reader read expansion_left old new before after
