-- The drawing if a paragraph may be a title.
use Rattle.std.proofs.Common.{◌≡◌, ℕ, Bool, true, false, Option, Some, None, option_map, ◌||◌, refl, ap, ◌∙◌}
use Rattle.cmark_block_model.specs.BlockPass.{definitions_in, list_closed, ended, ended_but, released_from, title_released, title_made}
use Rattle.std.specs.Prelude.{is_some}
use Rattle.cmark_grammar.specs.BlockDocument.{DefinitionList, DefinitionListTitle}
use Rattle.cmark_block_model.specs.Drawing.{Drawing, retitled, enclosed}
use Rattle.cmark_block_model.specs.OpenBlocks.{OpenList, Title, Siblings, Pass}
use Rattle.cmark_blocks.specs.Titles.{list_around, with_title}

pub released-around : (t : Option Title) (d : Drawing) → title_released t d ≡ released_from (list_around t) d
released-around None d = refl
released-around (Some t) d = refl

-- if some list was open, the last node became a title in it
pub made-some : (o : Option OpenList) (parted : Bool) (start : ℕ) (p : Pass) → is_some o ≡ true → title_made o parted start p ≡ record p { drawing = retitled DefinitionListTitle p.drawing; inner = with_title o parted start p.inner }
made-some (Some l) parted start p e = refl
made-some None parted start p e = absurd (let q : false ≡ true = e in cc)

pub made-none : (o : Option OpenList) (parted : Bool) (start : ℕ) (p : Pass) → is_some o ≡ false → title_made o parted start p ≡ record p { drawing = enclosed (DefinitionList false) DefinitionListTitle p.drawing; inner = with_title o parted start p.inner }
made-none None parted start p e = refl
made-none (Some l) parted start p e = absurd (let q : true ≡ false = e in cc)

pub shown-some : {A B : Type 0} (f : A → B) (o : Option A) → is_some (option_map f o) ≡ is_some o
shown-some f None = refl
shown-some f (Some x) = refl

-- a definition list is open, or no such list is
pub but-some : (o : Option OpenList) (s : Siblings) (d : Drawing) → is_some o ≡ true → ended_but o s d ≡ d
but-some (Some l) s d e = refl
but-some None s d e = absurd (let q : false ≡ true = e in cc)

pub but-none : (o : Option OpenList) (s : Siblings) (d : Drawing) → is_some o ≡ false → ended_but o s d ≡ ended s d
but-none None s d e = refl
but-none (Some l) s d e = absurd (let q : true ≡ false = e in cc)

-- if no list is open, and the last paragraph is in none, nothing is closed
pub no-list : {A : Type 0} (o : Option A) (other : Bool) → (is_some o || other) ≡ false → o ≡ None
no-list None other e = refl
no-list (Some x) other e = absurd (let q : true ≡ false = e in cc)

no-other : {A : Type 0} (o : Option A) (other : Bool) → (is_some o || other) ≡ false → other ≡ false
no-other None other e = e
no-other (Some x) other e = absurd (let q : true ≡ false = e in cc)

around-none : (t : Option Title) (d : Drawing) → is_some (list_around t) ≡ false → title_released t d ≡ d
around-none None d e = refl
around-none (Some t) d e = ap (λ o. released_from o d) (no-list t.list false (ap (λ z. z || false) e))

pub ended-alone : (s : Siblings) (d : Drawing) → (is_some s.list || is_some (list_around s.title)) ≡ false → ended s d ≡ d
ended-alone s d e =
    ap (λ o. list_closed o (title_released s.title d)) (no-list s.list (is_some (list_around s.title)) e)
    ∙ around-none s.title d (no-other s.list (is_some (list_around s.title)) e)

pub but-alone : (s : Siblings) (d : Drawing) → (is_some s.list || is_some (list_around s.title)) ≡ false → ended_but (definitions_in s.list) s d ≡ d
but-alone s d e = ap (λ o. ended_but (definitions_in o) s d) (no-list s.list (is_some (list_around s.title)) e) ∙ ended-alone s d e
