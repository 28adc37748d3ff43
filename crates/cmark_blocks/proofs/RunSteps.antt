-- The pass in another state, after one part of it has changed.
use Rattle.std.proofs.Common.{◌≡◌, ℕ, Bool, true, false, List, [], ◌∷◌, ◌++◌, Option, Some, None, refl, ap, subst, ◌∙◌, Vec, Global, ◌==◌}
use Rattle.cmark_grammar.specs.Options.{Options}
use Rattle.cmark_grammar.specs.Answers.{Lookup}
use Rattle.cmark_references.specs.Definitions.{reference_at}
use Rattle.cmark_references.specs.Footnotes.{footnote}
use Rattle.cmark_items.specs.Tables.{defined}
use Rattle.cmark_block_model.specs.Drawing.{Drawing}
use Rattle.cmark_block_model.specs.OpenBlocks as model
use Rattle.cmark_builder.specs.declared.builder.Builder.{Builder}
use Rattle.cmark_builder.specs.Drawn.{Draws}
use Rattle.cmark_blocks.specs.declared.siblings.Siblings.{Siblings}
use Rattle.cmark_blocks.specs.declared.state.Pass.{Pass}
use Rattle.cmark_blocks.specs.declared.state.OpenContainer.{OpenContainer}
use Rattle.cmark_blocks.specs.Shown.{shown_siblings, ShowsContainer, ShowsContainers, list_of}
use Rattle.cmark_block_model.specs.BlockPass.{item_begun, list_begun, list_goes_on}
use Rattle.std.specs.Prelude.{if◌then◌else◌}
use Rattle.std.proofs.lemmas.Option.{same_Some}
use Rattle.cmark_blocks.specs.declared.state.OpenLeaf.{OpenLeaf}
use Rattle.cmark_blocks.specs.declared.state.OpenLeaf.TheVariants as leaf
use Rattle.cmark_line_rules.specs.declared.line_rest.LineRest.{LineRest}
use Rattle.cmark_blocks.specs.Runs.{State, RunsIn, ShowsLeaf}

pub shows-snoc : (cs : List OpenContainer) (ms : List model.OpenContainer) (c : OpenContainer) (m : model.OpenContainer) → ShowsContainers cs ms → ShowsContainer c m → ShowsContainers (cs ++ c ∷ []) (ms ++ m ∷ [])
shows-snoc [] [] c m s t = (t, tt)
shows-snoc [] (n ∷ ms) c m s t = absurd s
shows-snoc (b ∷ cs) [] c m s t = absurd s
shows-snoc (b ∷ cs) (n ∷ ms) c m s t = (s.0, shows-snoc cs ms c m s.1 t)

pub shows-unsnoc : (cs : List OpenContainer) (ms : List model.OpenContainer) (c : OpenContainer) (m : model.OpenContainer) → ShowsContainers (cs ++ c ∷ []) (ms ++ m ∷ []) → ShowsContainers cs ms × ShowsContainer c m
shows-unsnoc [] [] c m s = (tt, s.0)
shows-unsnoc [] (n ∷ []) c m s = absurd s.1
shows-unsnoc [] (n ∷ (o ∷ ms)) c m s = absurd s.1
shows-unsnoc (b ∷ []) [] c m s = absurd s.1
shows-unsnoc (b ∷ (d ∷ cs)) [] c m s = absurd s.1
shows-unsnoc (b ∷ cs) (n ∷ ms) c m s = let rest = shows-unsnoc cs ms c m s.1 in ((s.0, rest.0), rest.1)

pub shows-none : (ms : List model.OpenContainer) (m : model.OpenContainer) → ShowsContainers [] (ms ++ m ∷ []) → ⊥
shows-none [] m s = s
shows-none (n ∷ ms) m s = s

-- an item continues a list of its character, and else begins one
module _ (delimiter : ℕ) (number : Option ℕ) (start : ℕ) (p : model.Pass) where
  pub goes-on : (o : Option model.OpenList) (l : model.OpenList) → list_of delimiter o ≡ Some l → item_begun delimiter number start p o ≡ list_goes_on l p
  goes-on None l e = absurd (let q : None ≡ Some l = e in cc)
  goes-on (Some k) l e = go (k.delimiter == delimiter) e
    where
      go : (b : Bool) → (if b then Some k else None) ≡ Some l → (if b then list_goes_on k p else list_begun delimiter number start p) ≡ list_goes_on l p
      go true e = ap (λ x. list_goes_on x p) (same_Some k l e)
      go false e = absurd (let q : None ≡ Some l = e in cc)

  pub begins : (o : Option model.OpenList) → list_of delimiter o ≡ None → item_begun delimiter number start p o ≡ list_begun delimiter number start p
  begins None e = refl
  begins (Some k) e = go (k.delimiter == delimiter) e
    where
      go : (b : Bool) → (if b then Some k else None) ≡ None → (if b then list_goes_on k p else list_begun delimiter number start p) ≡ list_begun delimiter number start p
      go true e = absurd (let q : Some k ≡ None = e in cc)
      go false e = refl

module _ {E : Type 0} (replacement : E → Lookup) (text : List ℕ) (options : Options) (lookup : Lookup) (m : model.Pass) (pass : State E) where
  -- something was drawn
  pub runs-builder : (b : Builder) (d : Drawing) → RunsIn replacement text options lookup m pass → Draws text b d → defined b.allocations ≡ defined pass.builder.allocations → RunsIn replacement text options lookup (record m { drawing = d }) (record pass { builder = b })
  runs-builder b d runs draws same = record {
    text_is = runs.text_is;
    options_is = runs.options_is;
    lookup_is = runs.lookup_is;
    drawing = draws;
    inner = runs.inner;
    outer = runs.outer;
    bare = runs.bare;
    leaf = runs.leaf;
    line_end = runs.line_end;
    references = λ folded. ap (λ d. reference_at d.references folded) same ∙ runs.references folded;
    footnotes = λ folded. ap (λ d. footnote d.footnotes folded) same ∙ runs.footnotes folded;
  }

  -- the innermost siblings
  pub runs-inner : (s : Siblings) (t : model.Siblings) → RunsIn replacement text options lookup m pass → shown_siblings s ≡ t → RunsIn replacement text options lookup (record m { inner = t }) (record pass { inner = s })
  runs-inner s t runs e = record {
    text_is = runs.text_is;
    options_is = runs.options_is;
    lookup_is = runs.lookup_is;
    drawing = runs.drawing;
    inner = e;
    outer = runs.outer;
    bare = runs.bare;
    leaf = runs.leaf;
    line_end = runs.line_end;
    references = runs.references;
    footnotes = runs.footnotes;
  }

  pub list_is : RunsIn replacement text options lookup m pass → (shown_siblings pass.inner).list ≡ m.inner.list
  list_is runs = ap (λ s. s.list) runs.inner

  -- the open containers
  pub runs-outer : (outer : Vec OpenContainer Global) (ms : List model.OpenContainer) → RunsIn replacement text options lookup m pass → ShowsContainers outer.items ms → RunsIn replacement text options lookup (record m { outer = ms }) (record pass { outer = outer.items })
  runs-outer outer ms runs shows = record {
    text_is = runs.text_is;
    options_is = runs.options_is;
    lookup_is = runs.lookup_is;
    drawing = runs.drawing;
    inner = runs.inner;
    outer = shows;
    bare = runs.bare;
    leaf = runs.leaf;
    line_end = runs.line_end;
    references = runs.references;
    footnotes = runs.footnotes;
  }

  -- the open leaf, and the lines that wait
  pub runs-waiting : (open_leaf : OpenLeaf) (blanks : Vec LineRest Global) (l : model.OpenLeaf) → RunsIn replacement text options lookup m pass
      → ShowsLeaf text open_leaf blanks.items l → RunsIn replacement text options lookup (record m { leaf = l }) (record pass { leaf = open_leaf; lines = blanks.items })
  runs-waiting open_leaf blanks l runs shows = record {
    text_is = runs.text_is;
    options_is = runs.options_is;
    lookup_is = runs.lookup_is;
    drawing = runs.drawing;
    inner = runs.inner;
    outer = runs.outer;
    bare = runs.bare;
    leaf = shows;
    line_end = runs.line_end;
    references = runs.references;
    footnotes = runs.footnotes;
  }

  -- the open leaf
  pub runs-leaf : (open_leaf : OpenLeaf) (l : model.OpenLeaf) → RunsIn replacement text options lookup m pass → ShowsLeaf text open_leaf pass.lines l → RunsIn replacement text options lookup (record m { leaf = l }) (record pass { leaf = open_leaf })
  runs-leaf open_leaf l runs shows = record {
    text_is = runs.text_is;
    options_is = runs.options_is;
    lookup_is = runs.lookup_is;
    drawing = runs.drawing;
    inner = runs.inner;
    outer = runs.outer;
    bare = runs.bare;
    leaf = shows;
    line_end = runs.line_end;
    references = runs.references;
    footnotes = runs.footnotes;
  }

  -- no lines are kept if no leaf is open
  pub none_after_closed : pass.leaf ≡ leaf.Closed → RunsIn replacement text options lookup m pass → pass.lines ≡ []
  none_after_closed is runs = (subst (λ l. ShowsLeaf text l pass.lines m.leaf) is runs.leaf).1

  -- no leaf is open, and no lines wait
  pub runs-closed : (blanks : Vec LineRest Global) → RunsIn replacement text options lookup m pass → blanks.items ≡ []
      → RunsIn replacement text options lookup (record m { leaf = model.Closed }) (record pass { leaf = leaf.Closed; lines = blanks.items })
  runs-closed blanks runs none = runs-waiting leaf.Closed blanks model.Closed runs (refl, none)

  -- whether the innermost container is a bare item
  pub runs-bare : (bare : Bool) → RunsIn replacement text options lookup m pass → RunsIn replacement text options lookup (record m { bare = bare }) (record pass { bare = bare })
  runs-bare bare runs = record {
    text_is = runs.text_is;
    options_is = runs.options_is;
    lookup_is = runs.lookup_is;
    drawing = runs.drawing;
    inner = runs.inner;
    outer = runs.outer;
    bare = refl;
    leaf = runs.leaf;
    line_end = runs.line_end;
    references = runs.references;
    footnotes = runs.footnotes;
  }

  -- the place at which the next line begins
  pub runs-line_end : (line_end there : ℕ) → RunsIn replacement text options lookup m pass → line_end ≡ there → RunsIn replacement text options lookup (record m { line_end = there }) (record pass { line_end = line_end })
  runs-line_end line_end there runs same = record {
    text_is = runs.text_is;
    options_is = runs.options_is;
    lookup_is = runs.lookup_is;
    drawing = runs.drawing;
    inner = runs.inner;
    outer = runs.outer;
    bare = runs.bare;
    leaf = runs.leaf;
    line_end = same;
    references = runs.references;
    footnotes = runs.footnotes;
  }
