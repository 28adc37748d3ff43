-- The containers that keep an empty line.
use Rattle.std.specs.Prelude.{◌≡◌, ℕ, Bool, true, false, not, List, [], ◌∷◌, drop}
use Rattle.std.proofs.Props.{props}
use Rattle.cmark_line_rules.specs.declared.container.Container.{Container}
use Rattle.cmark_line_rules.specs.declared.container.Container.TheVariants as container
use Rattle.cmark_blocks.specs.declared.state.OpenContainer.{OpenContainer}

-- an item, a definition and a footnote definition keep a line of which nothing is left. A block quote does not, since the line lacks its
-- marker (CommonMark 5.1 and 5.2). A footnote definition in the old style ends at a blank line (this profile's own)
abbrev pub keeps_empty : Container → Bool
keeps_empty container.BlockQuote = false
keeps_empty (container.Item width) = true
keeps_empty (container.Footnote old) = not old
keeps_empty (container.Definition width) = true

-- each of these containers keeps an empty line
abbrev pub KeepEmpty : List OpenContainer → Type 0
KeepEmpty [] = Unit {0}
KeepEmpty (c ∷ cs) = (keeps_empty c.container ≡ true) × KeepEmpty cs

-- each container after the first `strict` ones keeps an empty line
abbrev pub KeepEmptyFrom : (strict : ℕ) → List OpenContainer → Type 0
KeepEmptyFrom strict outer = KeepEmpty (drop strict outer)

KeepEmpty-prop : (outer : List OpenContainer) → IsProp (KeepEmpty outer)
KeepEmpty-prop [] = Prim.hlevel props
KeepEmpty-prop (c ∷ cs) = Prim.hlevel (props, KeepEmpty-prop cs)

-- this has one proof at most, so it may be a ghost field
pub KeepEmptyFrom-prop : (strict : ℕ) (outer : List OpenContainer) → IsProp (KeepEmptyFrom strict outer)
KeepEmptyFrom-prop strict outer = KeepEmpty-prop (drop strict outer)
