-- The link of a reference, by its definition or by the callback's answer.
use Rattle.std.specs.Prelude.{◌≡◌, ◌⊎◌, ◌+◌, ◌-◌, ℕ, length, List, [], drop, Option, Some, None, IfSome, Bool, false, if◌then◌else◌, option_map}
use Rattle.cmark_grammar.specs.LinkDefinitions.{Parsed}
use Rattle.cmark_grammar.specs.LinkTails.{LinkTail, after_collapsed, is_bracketed_label, link_tail_in, reference_label_in}
use Rattle.cmark_grammar.specs.LinkType as link
use Rattle.cmark_values.specs.declared.kind.LinkType.{LinkType}
use Rattle.cmark_grammar.specs.Answers.{Lookup}
use Rattle.cmark_grammar.specs.Options.{Options}
use Rattle.cmark_grammar.specs.Siblings.{address_type}
use Rattle.cmark_grammar.specs.Tokens.{slice, title_lines}
use Rattle.cmark_grammar.specs.Unescaped.{unescaped}
use Rattle.cmark_references.specs.declared.definitions.LinkDef.{LinkDef}
use Rattle.cmark_values.specs.Shown.{shown_link_type, text_bytes}
use Rattle.cmark_values.specs.declared.text.CowStr.{CowStr}
use Rattle.cmark_inline.specs.Footnoted.{is_footnote_label, unless_footnote}
use Rattle.cmark_inline.specs.declared.callback.BrokenLink.{BrokenLink}
use Rattle.cmark_inline.specs.declared.reference.LinkReference.{LinkReference}
use Rattle.cmark_inline.specs.declared.reference.Destination.{Destination}
use Rattle.cmark_references.specs.declared.link.Link.{Link}
use Rattle.cmark_inline.specs.declared.link.Target.{Target}
use Rattle.cmark_inline.specs.Stands.{IsTarget}

-- the bytes of a title; empty if there is none
abbrev pub title_or_none : Option CowStr → List ℕ
title_or_none None = []
title_or_none (Some title) = text_bytes title

-- the destination and the title of a link
pub record Said : Type 0 where
  pub destination : List ℕ
  pub title : List ℕ

abbrev pub said_by : LinkDef → Said
said_by def = record { destination = text_bytes def.dest; title = title_or_none def.title }

abbrev pub shown_destination : Destination → Said
shown_destination found = record { destination = text_bytes found.dest_url; title = text_bytes found.title }

abbrev pub said_in : Link → Said
said_in parts = record { destination = text_bytes parts.dest_url; title = text_bytes parts.title }

-- a reference as it is written (CommonMark 6.3): its label, its form, and the bytes after it, with a `[]` (`following`) and
-- without it (`resume`)
pub record Reference : Type 0 where
  pub label : List ℕ
  pub form : link.LinkType
  pub following : List ℕ
  pub resume : List ℕ

abbrev pub shown_link_reference : (text : List ℕ) → LinkReference → Reference
shown_link_reference text link_reference = record { label = link_reference.label.now; form = shown_link_type link_reference.link_type; following = drop link_reference.end text; resume = drop link_reference.resume text }

-- a collapsed reference if `[]` follows, and otherwise a shortcut one
abbrev pub collapsed_or_shortcut : (label following : List ℕ) → Option (List ℕ) → Reference
collapsed_or_shortcut label following (Some resume) = record { label = label; form = link.Collapsed; following = following; resume = resume }
collapsed_or_shortcut label following None = record { label = label; form = link.Shortcut; following = following; resume = following }

-- the reference by the bracket's own label, if the text is a label and not a footnote's
abbrev pub by_own_label : Options → (label following : List ℕ) → Option Reference
by_own_label options label following =
    if is_footnote_label options label then None
    else if is_bracketed_label label then Some (collapsed_or_shortcut label following (after_collapsed following))
    else None

-- the full reference, if a label in brackets follows that is not a footnote's. Otherwise the reference by the bracket's own label, unless
-- the closing bracket ends the label of an earlier full reference
abbrev pub full_or_own : Options → Option Parsed → (closes_label : Bool) → (label following : List ℕ) → Option Reference
full_or_own options (Some found) closes_label label following = Some (record { label = found.bytes; form = link.Reference; following = found.following; resume = found.following })
full_or_own options None closes_label label following = if closes_label then None else by_own_label options label following

abbrev pub reference_after : Options → (closes_label : Bool) → (label following : List ℕ) → Option Reference
reference_after options closes_label label following = full_or_own options (unless_footnote options (reference_label_in following)) closes_label label following

-- the question about a reference whose label has no definition: its bytes in the source, its form, and the normal form of its label
pub record IsQuestion (kind : LinkType) (name : List ℕ) (from to : ℕ) (question : BrokenLink) : Type 0 where
  pub form : question.link_type ≡ kind
  pub label : text_bytes question.reference ≡ name
  pub start : question.span.start ≡ from
  pub end : question.span.end ≡ to

abbrev pub parted : Destination → CowStr × CowStr
parted found = (found.dest_url, found.title)

-- the callback was asked this question, and answered `found`
abbrev pub Answers : {F : Type 0} → (F → BrokenLink → Option (CowStr × CowStr) → F → Type 0) → LinkType → (label : List ℕ) → (start end : ℕ) → (before after : F) → Option Destination → Type 0
Answers R form label start end before after found = (question : BrokenLink) × IsQuestion form label start end question × R before question (option_map parted found) after

abbrev pub target_link : Target → Link
target_link target = target.link

-- the link of this form to a destination. Its id is the normal form of a label
pub record IsLed (kind : LinkType) (label : List ℕ) (found : Destination) (parts : Link) : Type 0 where
  pub form : parts.link_type ≡ kind
  pub id : text_bytes parts.id ≡ label
  pub dest_url : parts.dest_url ≡ found.dest_url
  pub title : parts.title ≡ found.title

-- the link of a reference by its definition: it has the form of the reference
abbrev pub IsDefined : LinkType → (label : List ℕ) → LinkDef → Option Link → Type 0
IsDefined form label def None = ⊥
IsDefined form label def (Some parts) = (parts.link_type ≡ form) × (text_bytes parts.id ≡ label) × (said_in parts ≡ said_by def)

-- the link of a reference by the callback's answer: its form is the unknown variant
abbrev pub IsAnswered : LinkType → (label : List ℕ) → Option Destination → Option Link → Type 0
IsAnswered form label None None = Unit {0}
IsAnswered form label None (Some parts) = ⊥
IsAnswered form label (Some found) None = ⊥
IsAnswered form label (Some found) (Some parts) = (shown_link_type parts.link_type ≡ link.to_unknown (shown_link_type form)) × (text_bytes parts.id ≡ label) × (parts.dest_url ≡ found.dest_url) × (parts.title ≡ found.title)

-- the link of a reference, by the definition of its label. If there is no definition, and only then, the callback is asked. The id is the
-- normal form of the label
abbrev pub Refers : {F : Type 0} → (F → BrokenLink → Option (CowStr × CowStr) → F → Type 0) → Option LinkDef → LinkType → (label : List ℕ) → (start end : ℕ) → (before after : F) → Option Link → Type 0
Refers R (Some def) form label start end before after found = (after ≡ before) × IsDefined form label def found
Refers R None form label start end before after found = (destination : Option Destination) × Answers R form label start end before after destination × IsAnswered form label destination found

-- the questions for a reference, if memory was refused: either nothing was asked, or its question, and only if no definition has its label
abbrev pub AsksOfReference : {F : Type 0} → (F → BrokenLink → Option (CowStr × CowStr) → F → Type 0) → Option LinkDef → LinkType → (label : List ℕ) → (start end : ℕ) → (before after : F) → Type 0
AsksOfReference R (Some def) form label start end before after = after ≡ before
AsksOfReference R None form label start end before after = (after ≡ before) ⊎ ((destination : Option Destination) × Answers R form label start end before after destination)

-- the rest of the reference expansion limit after a reference: its destination and its title are subtracted if it forms a link
abbrev pub left_after : (left : ℕ) → Option Target → ℕ
left_after left None = left
left_after left (Some target) = (left - length (text_bytes target.link.dest_url)) - length (text_bytes target.link.title)

-- an inline link, and the bytes after it. Its id is empty
pub record InlineLink : Type 0 where
  pub form : link.LinkType
  pub id : List ℕ
  pub said : Said
  pub following : List ℕ

abbrev pub resolved_title : Lookup → (is_cell : Bool) → Option (List ℕ) → List ℕ
resolved_title lookup is_cell None = []
resolved_title lookup is_cell (Some title) = unescaped lookup is_cell (title_lines false title)

-- the escapes and entities in the destination and the title are resolved (CommonMark 6.3). In a table's cell, `\\|` is `|` in them (this
-- profile's own)
abbrev pub inline_link : Lookup → (is_cell : Bool) → LinkTail → InlineLink
inline_link lookup is_cell tail = record {
  form = link.Inline;
  id = [];
  said = record { destination = unescaped lookup is_cell tail.destination; title = resolved_title lookup is_cell tail.title };
  following = tail.following;
}

abbrev pub shown_target : (text : List ℕ) → Target → InlineLink
shown_target text target = record { form = shown_link_type target.link.link_type; id = text_bytes target.link.id; said = said_in target.link; following = drop target.end text }

-- `found` is the inline link whose closing bracket ends at the offset `at` of the text; `None` if there is none
pub record FindsInline (lookup : Lookup) (is_cell : Bool) (text : List ℕ) (at : ℕ) (found : Option Target) : Type 0 where
  pub value : option_map (shown_target text) found ≡ option_map (inline_link lookup is_cell) (link_tail_in (drop at text))
  pub target : IfSome found (IsTarget text at)
  pub resume : IfSome found (λ (target : Target). target.resume ≡ target.end)

-- an autolink (CommonMark 6.5): its destination is the bytes between the angle brackets, which also decide its type
pub record IsAutolink (text : List ℕ) (at end : ℕ) (parts : Link) : Type 0 where
  pub form : shown_link_type parts.link_type ≡ address_type (slice text (at + 1) (end - 1))
  pub destination : text_bytes parts.dest_url ≡ slice text (at + 1) (end - 1)
  pub title : text_bytes parts.title ≡ []
  pub id : text_bytes parts.id ≡ []
