-- The block structure of lines: the blocks and the lines of each block (CommonMark 3 to 5). Example: the two lines `> a` and `b` are a
-- block quote around one paragraph.
use Rattle.std.specs.Prelude.{◌≡◌, ◌⊎◌, ℕ, Bool, true, false, List, [], ◌∷◌, ◌++◌, length, Some, None}
use Rattle.cmark_grammar.specs.Rows.{Row, shown}
use Rattle.cmark_grammar.specs.Leaves.{underlines}
use Rattle.cmark_grammar.specs.Containers.{Container, BlockQuote, Item, ListDefinition, keeps, is_bare_start, bare_after, insides}
use Rattle.cmark_grammar.specs.Openings.{Leaf, LinkDefinition, Blank, Nests, Takes, Plain, opens_at, texts, lazily}
use Rattle.cmark_grammar.specs.Options.{Options}
use Rattle.cmark_grammar.specs.Places.{Place, Apart, AfterLazy, AfterTask, AfterTitle, allows_lazy, over_blank}

-- the blocks of some lines, in their order. Each has its lines, without the prefixes of the containers around it; a container has the
-- blocks inside it. List items are not yet gathered into lists
pub data Blocks : Type 0 where
  Nil : Blocks
  BlankLine : (line : Row) → (after : Blocks) → Blocks
  Paragraph : (first : Row) → (more : List Row) → (after : Blocks) → Blocks
  SetextHeading : (level : ℕ) → (first : Row) → (more : List Row) → (underline : Row) → (after : Blocks) → Blocks
  LeafBlock : (leaf : Leaf) → (first : Row) → (more : List Row) → (after : Blocks) → Blocks
  ContainerBlock : (container : Container) → (first : Row) → (more : List Row) → (inside after : Blocks) → Blocks

-- the second blocks after the first
abbrev pub join : Blocks → Blocks → Blocks
join Nil other = other
join (BlankLine line after) other = BlankLine line (join after other)
join (Paragraph first more after) other = Paragraph first more (join after other)
join (SetextHeading level first more underline after) other = SetextHeading level first more underline (join after other)
join (LeafBlock leaf first more after) other = LeafBlock leaf first more (join after other)
join (ContainerBlock container first more inside after) other = ContainerBlock container first more inside (join after other)

-- the place of the line directly after this leaf: after a link reference definition a lazy line may begin a paragraph
abbrev pub after_leaf : Leaf → Place
after_leaf (LinkDefinition definition) = AfterLazy
after_leaf _ = Apart

-- the place of the first line inside this container, or of the line after an alert's tag
abbrev pub place_in : Container → Place
place_in (BlockQuote None) = Apart
place_in (BlockQuote (Some kind)) = AfterLazy
place_in (Item delimiter number width None) = Apart
place_in (Item delimiter number width (Some is_checked)) = AfterTask
place_in _ = Apart

-- the place of the line after this container: after a definition of a definition list another one may begin
abbrev pub after_container : Container → Place
after_container (ListDefinition width) = AfterTitle
after_container _ = Apart

-- whether a lazy line may follow these blocks. Their last line is in a paragraph, or is an alert's tag, or is in a leaf after which a lazy
-- line may begin a paragraph. So: the value if there is no block
abbrev pub ends_lazily : (so : Bool) → Blocks → Bool
ends_lazily so Nil = so
ends_lazily so (BlankLine line after) = ends_lazily false after
ends_lazily so (Paragraph first more after) = ends_lazily true after
ends_lazily so (SetextHeading level first more underline after) = ends_lazily false after
ends_lazily so (LeafBlock leaf first more after) = ends_lazily (allows_lazy (after_leaf leaf)) after
ends_lazily so (ContainerBlock container first more inside after) = ends_lazily (ends_lazily (allows_lazy (place_in container)) inside) after

-- a property of the next line, if there is one
abbrev pub Next : (Row → List Row → Type 0) → List Row → Type 0
Next P [] = Unit {0}
Next P (r ∷ rest) = P r (shown rest)

module _ (options : Options) where
  -- the line continues a paragraph: it does not interrupt it, and is no underline (CommonMark 4.8)
  abbrev pub IsText : Row → List Row → Type 0
  IsText r ahead = (texts options r ahead ≡ true) × (underlines r ≡ None)

  -- each of the first lines continues the paragraph; the lines ahead of it are the others and `rest`
  abbrev pub AreText : List Row → List Row → Type 0
  AreText [] rest = Unit {0}
  AreText (r ∷ more) rest = IsText r (shown (more ++ rest)) × AreText more rest

  -- the line ends a paragraph, and is no underline
  abbrev pub IsNoText : Row → List Row → Type 0
  IsNoText r ahead = (texts options r ahead ≡ false) × (underlines r ≡ None)

  -- a line of a container that lacks the prefix is a lazy continuation line (CommonMark 5.1): it interrupts nothing
  abbrev pub AreLazy : Container → (bare : Bool) → List Row → List Row → Type 0
  AreLazy k bare [] rest = Unit {0}
  AreLazy k bare (r ∷ more) rest = (keeps k bare r ≡ None → lazily options k r (shown (more ++ rest)) ≡ true) × AreLazy k false more rest

  -- a container ends before a line that lacks the prefix and is not lazy
  abbrev pub Ends : Container → (bare : Bool) → Blocks → List Row → Type 0
  Ends k bare inside rest = Next (λ r ahead. (keeps k bare r ≡ None) × (ends_lazily (allows_lazy (place_in k)) inside ≡ true → lazily options k r ahead ≡ false)) rest

  -- a paragraph begins on a line with all prefixes. A lazy line begins one only directly after a leaf that allows it, or after an alert's
  -- tag, and only if the line is text
  abbrev pub MayBegin : Place → Row → Type 0
  MayBegin place first = (first.lazy ≡ false) ⊎ ((allows_lazy place ≡ true) × (texts options first [] ≡ true))

  -- all lines are a blank one and the lines of the blocks after it
  pub record HasBlankLine (After : List Row → Type 0) (place : Place) (all : List Row) (line : Row) : Type 0 where
    pub rest : List Row
    pub cut : all ≡ line ∷ rest
    pub opened : opens_at options place line (shown rest) ≡ Blank
    pub after : After rest

  -- all lines are a paragraph (CommonMark 4.8) and the lines of the blocks after it: the others continue it, and the next line ends it
  pub record HasParagraph (After : List Row → Type 0) (place : Place) (all : List Row) (first : Row) (more : List Row) : Type 0 where
    pub rest : List Row
    pub cut : all ≡ first ∷ (more ++ rest)
    pub begun : MayBegin place first
    pub opened : opens_at options place first (shown (more ++ rest)) ≡ Plain
    pub others : AreText more rest
    pub stops : Next IsNoText rest
    pub after : After rest

  -- all lines are a setext heading (CommonMark 4.3), whose content is a paragraph, its underline, and the lines of the blocks after it
  pub record HasSetextHeading (After : List Row → Type 0) (place : Place) (all : List Row) (level : ℕ) (first : Row) (more : List Row) (underline : Row) : Type 0 where
    pub rest : List Row
    pub cut : all ≡ first ∷ (more ++ (underline ∷ rest))
    pub begun : MayBegin place first
    pub opened : opens_at options place first (shown (more ++ (underline ∷ rest))) ≡ Plain
    pub others : AreText more (underline ∷ rest)
    pub underlined : underlines underline ≡ Some level
    pub after : After rest

  -- all lines are a leaf, with the number of further lines that its opening gives, and the lines of the blocks after it
  pub record HasLeaf (After : List Row → Type 0) (place : Place) (all : List Row) (leaf : Leaf) (first : Row) (more : List Row) : Type 0 where
    pub rest : List Row
    pub cut : all ≡ first ∷ (more ++ rest)
    pub opened : opens_at options place first (shown (more ++ rest)) ≡ Takes leaf (length more)
    pub after : After rest

  -- all lines are a container (CommonMark 5) and the lines of the blocks after it. Its later lines have its prefix or are lazy, and the
  -- next line ends it
  pub record HasContainer (Inside After : List Row → Type 0) (place : Place) (all : List Row) (k : Container) (first : Row) (more : List Row) (inside : Blocks) : Type 0 where
    pub rest : List Row
    pub cut : all ≡ first ∷ (more ++ rest)
    pub opened : opens_at options place first (shown (more ++ rest)) ≡ Nests k
    pub contents : Inside (insides k first more)
    pub others : AreLazy k (is_bare_start k first) more rest
    pub stops : Ends k (bare_after (is_bare_start k first) more) inside rest
    pub after : After rest

  -- these lines, the first of them at that place, have these blocks
  abbrev pub Body : Place → List Row → Blocks → Type 0
  Body place all Nil = all ≡ []
  Body place all (BlankLine line after) = HasBlankLine (λ rest. Body (over_blank place) rest after) place all line
  Body place all (Paragraph first more after) = HasParagraph (λ rest. Body AfterTitle rest after) place all first more
  Body place all (SetextHeading level first more underline after) = HasSetextHeading (λ rest. Body Apart rest after) place all level first more underline
  Body place all (LeafBlock leaf first more after) = HasLeaf (λ rest. Body (after_leaf leaf) rest after) place all leaf first more
  Body place all (ContainerBlock k first more inside after) =
      HasContainer (λ lines. Body (place_in k) lines inside) (λ rest. Body (after_container k) rest after) place all k first more inside
