-- The results of the call at a special byte.
use Rattle.std.specs.Prelude.{◌≡◌, ◌⊎◌, ℕ, ◌≤◌, ◌<◌, Bool, true, List, slice_index}
use Rattle.cmark_grammar.specs.Answers.{Lookup}
use Rattle.cmark_grammar.specs.InlineTokens.{bracket}
use Rattle.cmark_grammar.specs.Items.{Opens}
use Rattle.cmark_grammar.specs.Lines.{is_content}
use Rattle.cmark_grammar.specs.Options.{Options}
use Rattle.cmark_leaf_text.specs.declared.leaf_text.LeafText.{LeafText}
use Rattle.cmark_leaf_text.specs.Reads.{is_cell_of, text_of}
use Rattle.cmark_inline.specs.BracketViews.{after_opening}
use Rattle.cmark_inline.specs.Closers.{OpensAs}
use Rattle.cmark_inline.specs.MarkupInSource.{ReadsLess}
use Rattle.cmark_inline.specs.Tokens.{Escapes, TakesEscaped, AppendsRun, AppendsQuote, PassesOver, EscapesPipe, PutsBracket, begins_at}
use Rattle.cmark_inline.specs.declared.state.InlineState.{InlineState}
use Rattle.cmark_inline.specs.declared.step.Cursor.{Cursor}

-- an opening bracket begins at the cursor
pub record OpensBracket (options : Options) (lookup : Lookup) (is_cell : Bool) (text : List ℕ) (here : Cursor) (old new : InlineState) (next : Cursor) : Type 0 where
  pub is_image : Bool
  pub token : begins_at options lookup is_cell text here.at ≡ Opens (bracket is_image here.at next.at)
  pub inside : next.at ≡ after_opening is_image here.at
  pub bytes : (k : ℕ) → here.at ≤ k → k < next.at → is_content (slice_index text k) ≡ true
  pub pending : next.pending ≡ next.at
  pub puts : PutsBracket is_image here.pending here.at next.at old new
  pub opens : OpensAs options.wikilinks is_image text here.at next.at old new

-- one of these results. `ReadsLess` includes `Passes` and `Appends`, and has the results at a `<`
abbrev pub ReadsSpecial : Options → Lookup → LeafText → (here : Cursor) → (old new : InlineState) → (next : Cursor) → Type 0
ReadsSpecial options lookup leaf here old new next =
    ReadsLess options lookup leaf here old new next
    ⊎ (Escapes options lookup (is_cell_of leaf) (text_of leaf) here old new next
    ⊎ (TakesEscaped options lookup (is_cell_of leaf) (text_of leaf) here old new next
    ⊎ (AppendsRun options lookup (is_cell_of leaf) (text_of leaf) here old new next
    ⊎ (AppendsQuote options lookup (is_cell_of leaf) (text_of leaf) here old new next
    ⊎ (OpensBracket options lookup (is_cell_of leaf) (text_of leaf) here old new next
    ⊎ (PassesOver options lookup (is_cell_of leaf) (text_of leaf) here old new next
    ⊎ EscapesPipe options lookup (is_cell_of leaf) (text_of leaf) here old new next))))))
