-- Link reference definitions that were found (CommonMark 4.7).
use Rattle.std.specs.Prelude.{◌≡◌, ℕ, List, [], ◌∷◌, ◌++◌, take}
use Rattle.cmark_grammar.specs.Answers.{Lookup}
use Rattle.cmark_grammar.specs.Derivation.{last_content_end, reference_of}
use Rattle.cmark_grammar.specs.LinkDefinitions.{Definition}
use Rattle.cmark_grammar.specs.Options.{Options}
use Rattle.cmark_line_rules.specs.Rests.{row_of}
use Rattle.cmark_line_rules.specs.declared.line_rest.LineRest.{LineRest}
use Rattle.cmark_block_model.specs.BlockPass.{block_begun}
use Rattle.cmark_block_model.specs.OpenBlocks as model
use Rattle.cmark_blocks.specs.declared.state.Pass.{Pass}
use Rattle.cmark_blocks.specs.Gathered.{texts_at}
use Rattle.cmark_blocks.specs.Runs.{Runs}

-- a definition is added after the others
abbrev pub definition_kept : Lookup → Definition → (start end : ℕ) → model.Pass → model.Pass
definition_kept lookup definition start end p = record p { references = p.references ++ reference_of lookup definition start end ∷ [] }

-- a definition begins as a block, with `more` lines to come
abbrev pub definition_begun : Lookup → Definition → (start end more : ℕ) → model.Pass → model.Pass
definition_begun lookup definition start end more p = let q = definition_kept lookup definition start end (block_begun p) in record q { leaf = model.InDefinition more }

module _ {E : Type 0} (replacement : E → Lookup) where
  -- the line and the `more` lines after it, which continue a paragraph, end here
  abbrev pub StopsAt : Pass E → LineRest → (more : ℕ) → (content_end : ℕ) → Type 0
  StopsAt pass first more content_end =
      (text : List ℕ) (options : Options) (lookup : Lookup) (m : model.Pass) → Runs replacement text options lookup m pass →
      content_end ≡ last_content_end (row_of first) (take more (texts_at text options lookup m (row_of first).line_end))
