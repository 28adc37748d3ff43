-- The parts of a wikilink, and the slots that it shows (this profile's own).
use Rattle.std.specs.Prelude.{◌≡◌, ◌==◌, ℕ, ◌+◌, ◌-◌, ◌<◌, nat_lt, Bool, true, false, ◌&&◌, if◌then◌else◌, List, [], ◌∷◌, ◌++◌, length, drop, Option, None, Some}
use Rattle.cmark_grammar.specs.Characters.{right_bracket}
use Rattle.cmark_grammar.specs.BracketDecisions.{name_in, after_pipe}
use Rattle.cmark_grammar.specs.Letters.{first_is}
use Rattle.cmark_grammar.specs.LinkType as link
use Rattle.cmark_grammar.specs.Options.{Options}
use Rattle.cmark_grammar.specs.Tokens.{slice}
use Rattle.cmark_leaf_text.specs.declared.leaf_text.LeafText.{LeafText}
use Rattle.cmark_leaf_text.specs.Reads.{IsFirstFrom, place_of, source_of, text_of}
use Rattle.cmark_values.specs.Shown.{shown_link_type, text_bytes}
use Rattle.cmark_slots.specs.Doubled.{nearest}
use Rattle.cmark_slots.specs.declared.bracket.Bracket.{Bracket}
use Rattle.cmark_slots.specs.declared.bracket.Brackets.{Brackets}
use Rattle.cmark_references.specs.declared.link.Link.{Link}
use Rattle.cmark_slots.specs.declared.slot.Slot.{Slot}
use Rattle.cmark_slots.specs.declared.slot.SlotKind.TheVariants as kind
use Rattle.cmark_inline.specs.declared.wikilink.Wikilink.{Wikilink}
use Rattle.cmark_slots.specs.Cuts.{Hides, IsFirstAfter, cut_at}

-- the bytes of the source between a doubled bracket and a closing one, and the offset where they begin
abbrev pub wiki_start : LeafText → Bracket → ℕ
wiki_start leaf doubled = place_of leaf (doubled.inside - 1) + 1

abbrev pub wiki_text : LeafText → Bracket → (close : ℕ) → List ℕ
wiki_text leaf doubled close = slice (source_of leaf) (wiki_start leaf doubled) (place_of leaf close)

-- the display text begins at the first byte of the leaf's text that is at this place of the source or after it
abbrev pub ShowsFrom : LeafText → Option ℕ → Option ℕ → Type 0
ShowsFrom leaf None None = Unit {0}
ShowsFrom leaf (Some place) (Some at) = IsFirstFrom leaf place at
ShowsFrom leaf None (Some at) = ⊥
ShowsFrom leaf (Some place) None = ⊥

-- the name is the text before the first pipe, and the display text begins after the pipe
pub record IsWikilink (leaf : LeafText) (doubled : Bracket) (close : ℕ) (wikilink : Wikilink) : Type 0 where
  pub name : wikilink.name.now ≡ name_in (wiki_text leaf doubled close)
  pub some : 0 < length wikilink.name.now
  pub display : ShowsFrom leaf (after_pipe (wiki_start leaf doubled) (wiki_text leaf doubled close)) wikilink.display
  pub ends : wikilink.source_end ≡ place_of leaf close

abbrev pub has_pothole : Option ℕ → Bool
has_pothole None = false
has_pothole (Some at) = true

-- the destination is the name, and the title and the id are empty
pub record IsNamed (wikilink : Wikilink) (parts : Link) : Type 0 where
  pub form : shown_link_type parts.link_type ≡ link.WikiLink (has_pothole wikilink.display)
  pub destination : text_bytes parts.dest_url ≡ wikilink.name.now
  pub title : text_bytes parts.title ≡ []
  pub id : text_bytes parts.id ≡ []

-- a closing bracket directly before another one forms a wikilink with the nearest doubled bracket under three conditions. That bracket is
-- active, at least one byte is between the two, and the name is not empty
abbrev pub is_wikilink : LeafText → (close : ℕ) → Option (Bracket × Bool) → Bool
is_wikilink leaf close None = false
is_wikilink leaf close (Some nearest) = nearest.1 && (nat_lt nearest.0.inside close && nat_lt 0 (length (name_in (wiki_text leaf nearest.0 close))))

abbrev pub forms_wikilink : Options → LeafText → (close : ℕ) → (doubled : Brackets) → Bool
forms_wikilink options leaf close doubled =
    options.wikilinks && (first_is (λ b. b == right_bracket) (drop (close + 1) (text_of leaf)) && is_wikilink leaf close (nearest doubled))

-- the slot for the name if there is no pipe, or for an empty text if nothing follows the pipe
abbrev pub shown_name : Bracket → (close source_end : ℕ) → Option ℕ → List Slot
shown_name doubled close source_end None = record { kind = kind.SourceText source_end; start = doubled.inside; end = close } ∷ []
shown_name doubled close source_end (Some place) = if place == close then record { kind = kind.Empty; start = close; end = close + 1 } ∷ [] else []

abbrev pub display_place : (close : ℕ) → Option ℕ → ℕ
display_place close None = close
display_place close (Some place) = place

-- of the slots after a doubled bracket, only those that a wikilink shows stay. They begin at the index `at`
pub record Shows (text : List ℕ) (doubled : Bracket) (close : ℕ) (wikilink : Wikilink) (old new : List Slot) (at : ℕ) : Type 0 where
  pub first : IsFirstAfter old (doubled.slot + 1) (display_place close wikilink.display) at
  pub between : List Slot
  pub hides : Hides (doubled.slot + 1) at old between
  pub slots_are : new ≡ cut_at text (display_place close wikilink.display) at between ++ shown_name doubled close wikilink.source_end wikilink.display
