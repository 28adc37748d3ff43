-- The lines that a container keeps, and the places of the rest of each.
use Rattle.std.proofs.Common.{◌≡◌, ℕ, Bool, true, false, ◌&&◌, ◌||◌, List, [], ◌∷◌, Option, Some, None, refl, sym, ap, ◌∙◌, subst}
use Rattle.std.specs.Prelude.{if◌then◌else◌, option_map, IfSome}
use Rattle.std.specs.Str.{IsCharBoundary}
use Rattle.cmark_grammar.specs.Rows.{Row, without, hold, is_blank_line}
use Rattle.cmark_grammar.specs.BlockQuoteKind.{BlockQuoteKind}
use Rattle.cmark_grammar.specs.Containers as grammar
use Rattle.cmark_grammar.specs.Containers.{is_block_quote, block_quote_width, keep_as, keeps, strip_as, strip}
use Rattle.cmark_block_model.proofs.RowPlaces.{strip-line_end}
use Rattle.cmark_block_model.proofs.RowEdges.{strips-good}
use Rattle.cmark_line_rules.specs.Rests.{row_of, IsIn}
use Rattle.cmark_line_rules.specs.Starts.{Shows, block_quote_entered}
use Rattle.cmark_line_rules.specs.declared.line_rest.LineRest.{LineRest}
use Rattle.cmark_line_rules.specs.declared.container.Container.{Container}
use Rattle.cmark_line_rules.specs.declared.container.Container.TheVariants as kept
use Rattle.cmark_line_rules.proofs.RestSteps.{in-moved}

-- a blank line ends a bare item
pub blank-ends : (k : grammar.Container) (r : Row) → r.lazy ≡ false → is_blank_line r ≡ true → None ≡ keeps k true r
unfolding keeps
blank-ends k r whole blank =
    sym (ap (λ z. if z || (true && is_blank_line r) then None else keep_as k r) whole ∙ ap (λ z. if false || (true && z) then None else keep_as k r) blank)

-- else it does not matter whether the line before was bare
pub bare-kept : (k : grammar.Container) (bare : Bool) (r : Row) → (bare && is_blank_line r) ≡ false → keeps k false r ≡ keeps k bare r
unfolding keeps
bare-kept k bare r e = ap (λ z. if r.lazy || z then None else keep_as k r) (sym e)

pub block_quote-keeps : (alert : Option BlockQuoteKind) (r : Row) → r.lazy ≡ false → block_quote_entered r ≡ keeps (grammar.BlockQuote alert) false r
unfolding keeps
block_quote-keeps alert r whole = ap (λ z. if z || (false && is_blank_line r) then None else (if is_block_quote r then Some (without (block_quote_width r) r) else None)) (sym whole)

-- the containers that are shown
pub shows-block_quote : (s : Container) (k : grammar.Container) → s ≡ kept.BlockQuote → Shows s k → (alert : Option BlockQuoteKind) × (k ≡ grammar.BlockQuote alert)
shows-block_quote s k is h = by k (subst (λ x. Shows x k) is h)
  where
    by : (k : grammar.Container) → Shows kept.BlockQuote k → (alert : Option BlockQuoteKind) × (k ≡ grammar.BlockQuote alert)
    by (grammar.BlockQuote alert) p = (alert, refl)
    by (grammar.Item delimiter number width task) p = absurd p
    by (grammar.Footnote label old size) p = absurd p
    by (grammar.ListDefinition width) p = absurd p

pub shows-item : (s : Container) (w : ℕ) (k : grammar.Container) → s ≡ kept.Item w → Shows s k → (delimiter : ℕ) × ((number : Option ℕ) × ((task : Option Bool) × (k ≡ grammar.Item delimiter number w task)))
shows-item s w k is h = by k (subst (λ x. Shows x k) is h)
  where
    by : (k : grammar.Container) → Shows (kept.Item w) k → (delimiter : ℕ) × ((number : Option ℕ) × ((task : Option Bool) × (k ≡ grammar.Item delimiter number w task)))
    by (grammar.BlockQuote alert) p = absurd p
    by (grammar.Item delimiter number width task) p = (delimiter, (number, (task, ap (λ n. grammar.Item delimiter number n task) (sym p))))
    by (grammar.Footnote label old size) p = absurd p
    by (grammar.ListDefinition width) p = absurd p

pub shows-footnote : (s : Container) (old : Bool) (k : grammar.Container) → s ≡ kept.Footnote old → Shows s k → (label : List ℕ) × ((size : ℕ) × (k ≡ grammar.Footnote label old size))
shows-footnote s old k is h = by k (subst (λ x. Shows x k) is h)
  where
    by : (k : grammar.Container) → Shows (kept.Footnote old) k → (label : List ℕ) × ((size : ℕ) × (k ≡ grammar.Footnote label old size))
    by (grammar.BlockQuote alert) p = absurd p
    by (grammar.Item delimiter number width task) p = absurd p
    by (grammar.Footnote label o size) p = (label, (size, ap (λ z. grammar.Footnote label z size) (sym p)))
    by (grammar.ListDefinition width) p = absurd p

pub shows-definition : (s : Container) (w : ℕ) (k : grammar.Container) → s ≡ kept.Definition w → Shows s k → k ≡ grammar.ListDefinition w
shows-definition s w k is h = by k (subst (λ x. Shows x k) is h)
  where
    by : (k : grammar.Container) → Shows (kept.Definition w) k → k ≡ grammar.ListDefinition w
    by (grammar.BlockQuote alert) p = absurd p
    by (grammar.Item delimiter number width task) p = absurd p
    by (grammar.Footnote label old size) p = absurd p
    by (grammar.ListDefinition width) p = ap grammar.ListDefinition (sym p)

-- a definition keeps a line as an item of its width does
pub definition-keeps : (w : ℕ) (r : Row) → keeps (grammar.Item 0 None w None) false r ≡ keeps (grammar.ListDefinition w) false r
unfolding keeps
definition-keeps w r = refl

-- a footnote definition keeps a line as an item of four columns does
pub footnote-keeps : (label : List ℕ) (size : ℕ) (r : Row) → keeps (grammar.Item 0 None 4 None) false r ≡ keeps (grammar.Footnote label false size) false r
unfolding keeps
footnote-keeps label size r = refl

pub old-blank : (label : List ℕ) (size : ℕ) (r : Row) → is_blank_line r ≡ true → None ≡ keeps (grammar.Footnote label true size) false r
unfolding keeps
old-blank label size r blank = go r.lazy ∙ ap (λ z. if r.lazy || (false && is_blank_line r) then None else (if z then None else Some (hold r))) (sym blank)
  where
    go : (z : Bool) → None ≡ (if z || (false && is_blank_line r) then None else (if true then None else Some (hold r)))
    go true = refl
    go false = refl

pub old-keeps : (label : List ℕ) (size : ℕ) (r : Row) → r.lazy ≡ false → is_blank_line r ≡ false → Some (hold r) ≡ keeps (grammar.Footnote label true size) false r
unfolding keeps
old-keeps label size r whole blank =
    ap (λ z. if false || (false && is_blank_line r) then None else (if z then None else Some (hold r))) (sym blank)
    ∙ ap (λ z. if z || (false && is_blank_line r) then None else (if is_blank_line r then None else Some (hold r))) (sym whole)

-- the rest of a line of a text inside a container is part of the text
pub kept-in : (text : List ℕ) (rest : LineRest) (k : grammar.Container) (o : Option LineRest) → option_map row_of o ≡ keeps k false (row_of rest) → IsIn text rest → IfSome o (IsIn text)
kept-in text rest k None is h = tt
kept-in text rest k (Some moved) is h =
    let same : strip k false (row_of rest) ≡ row_of moved = ap (λ o. strip_as o (row_of rest)) (sym is) in
    in-moved text rest moved (strip k false (row_of rest)) (sym same) (strip-line_end k false (row_of rest)) (strips-good (IsCharBoundary text) k false (row_of rest ∷ []) (h.good, tt)).0 h
