-- The results of the calls, as results at a special byte.
use Rattle.std.proofs.Common.{◌≡◌, ◌⊎◌, inl, inr, ℕ, Bool, List, Result, subst}
use Rattle.std.specs.declared.alloc.AllocError.{AllocError}
use Rattle.std.proofs.lemmas.Result.{IfOk-weaker}
use Rattle.cmark_grammar.specs.Answers.{Lookup}
use Rattle.cmark_grammar.specs.Options.{Options}
use Rattle.cmark_leaf_text.specs.Reads.{is_cell_of, text_of}
use Rattle.cmark_leaf_text.specs.declared.leaf_text.LeafText.{LeafText}
use Rattle.cmark_inline.specs.ReadsLeafOn.{ReadsLeafOn}
use Rattle.cmark_inline.specs.ReadsOn.{ReadsOn}
use Rattle.cmark_inline.specs.SpecialReads.{OpensBracket, ReadsSpecial}
use Rattle.cmark_inline.specs.Tokens.{Passes, Appends, Escapes, TakesEscaped, AppendsRun, AppendsQuote, PassesOver, EscapesPipe}
use Rattle.cmark_inline.specs.declared.state.InlineState.{InlineState}
use Rattle.cmark_inline.specs.declared.step.Cursor.{Cursor}

module _ (o : Options) (l : Lookup) (leaf : LeafText) (text : List ℕ) (same : text ≡ text_of leaf) (here : Cursor) (old new : InlineState) (next : Cursor) where
  pub passes : Passes o l (is_cell_of leaf) text here old new next → ReadsSpecial o l leaf here old new next
  passes h = inl (inl (subst (λ t. Passes o l (is_cell_of leaf) t here old new next) same h))

  pub appends : Appends o l (is_cell_of leaf) text here old new next → ReadsSpecial o l leaf here old new next
  appends h = inl (inr (inr (inl (subst (λ t. Appends o l (is_cell_of leaf) t here old new next) same h))))

  pub escapes : Escapes o l (is_cell_of leaf) text here old new next → ReadsSpecial o l leaf here old new next
  escapes h = inr (inl (subst (λ t. Escapes o l (is_cell_of leaf) t here old new next) same h))

  pub takes-escaped : TakesEscaped o l (is_cell_of leaf) text here old new next → ReadsSpecial o l leaf here old new next
  takes-escaped h = inr (inr (inl (subst (λ t. TakesEscaped o l (is_cell_of leaf) t here old new next) same h)))

  pub appends-run : AppendsRun o l (is_cell_of leaf) text here old new next → ReadsSpecial o l leaf here old new next
  appends-run h = inr (inr (inr (inl (subst (λ t. AppendsRun o l (is_cell_of leaf) t here old new next) same h))))

  pub appends-quote : AppendsQuote o l (is_cell_of leaf) text here old new next → ReadsSpecial o l leaf here old new next
  appends-quote h = inr (inr (inr (inr (inl (subst (λ t. AppendsQuote o l (is_cell_of leaf) t here old new next) same h)))))

  pub opens : OpensBracket o l (is_cell_of leaf) text here old new next → ReadsSpecial o l leaf here old new next
  opens h = inr (inr (inr (inr (inr (inl (subst (λ t. OpensBracket o l (is_cell_of leaf) t here old new next) same h))))))

  pub passes-over : PassesOver o l (is_cell_of leaf) text here old new next → ReadsSpecial o l leaf here old new next
  passes-over h = inr (inr (inr (inr (inr (inr (inl (subst (λ t. PassesOver o l (is_cell_of leaf) t here old new next) same h)))))))

  pub escapes-pipe : EscapesPipe o l (is_cell_of leaf) text here old new next → ReadsSpecial o l leaf here old new next
  escapes-pipe h = inr (inr (inr (inr (inr (inr (inr (subst (λ t. EscapesPipe o l (is_cell_of leaf) t here old new next) same h)))))))

  pub passes-or-appends : Passes o l (is_cell_of leaf) text here old new next ⊎ Appends o l (is_cell_of leaf) text here old new next → ReadsSpecial o l leaf here old new next
  passes-or-appends (inl h) = passes h
  passes-or-appends (inr h) = appends h

  backslash-read : Passes o l (is_cell_of leaf) text here old new next ⊎ (Appends o l (is_cell_of leaf) text here old new next ⊎ (Escapes o l (is_cell_of leaf) text here old new next ⊎ EscapesPipe o l (is_cell_of leaf) text here old new next))
      → ReadsSpecial o l leaf here old new next
  backslash-read (inl h) = passes h
  backslash-read (inr (inl h)) = appends h
  backslash-read (inr (inr (inl h))) = escapes h
  backslash-read (inr (inr (inr h))) = escapes-pipe h

  pub backslash-reads : (cell : Bool) → cell ≡ is_cell_of leaf
      → Passes o l cell text here old new next ⊎ (Appends o l cell text here old new next ⊎ (Escapes o l cell text here old new next ⊎ EscapesPipe o l cell text here old new next)) → ReadsSpecial o l leaf here old new next
  backslash-reads cell in-leaf h =
      backslash-read (subst (λ z. Passes o l z text here old new next ⊎ (Appends o l z text here old new next ⊎ (Escapes o l z text here old new next ⊎ EscapesPipe o l z text here old new next))) in-leaf h)

  pub backticks-read : Appends o l (is_cell_of leaf) text here old new next ⊎ TakesEscaped o l (is_cell_of leaf) text here old new next → ReadsSpecial o l leaf here old new next
  backticks-read (inl h) = appends h
  backticks-read (inr h) = takes-escaped h

  pub passes-or-opens : Passes o l (is_cell_of leaf) text here old new next ⊎ OpensBracket o l (is_cell_of leaf) text here old new next → ReadsSpecial o l leaf here old new next
  passes-or-opens (inl h) = passes h
  passes-or-opens (inr h) = opens h

  pub run-reads : Passes o l (is_cell_of leaf) text here old new next ⊎ AppendsRun o l (is_cell_of leaf) text here old new next → ReadsSpecial o l leaf here old new next
  run-reads (inl h) = passes h
  run-reads (inr h) = appends-run h

pub reads-leaf : (leaf : LeafText) (text : List ℕ) (here : Cursor) (old new : InlineState) (result : Result Cursor AllocError) → ReadsOn text here old new result → ReadsLeafOn leaf text here old new result
reads-leaf leaf text here old new result r = record {
  expansion_left = r.expansion_left;
  steps = r.steps;
  sound = λ h. IfOk-weaker result _ _ (λ next k. k.sound h) r.keeps;
  ends = IfOk-weaker result _ _ (λ next k. k.ends leaf) r.keeps;
  moves = r.moves;
}
