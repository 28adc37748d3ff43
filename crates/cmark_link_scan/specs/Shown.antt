-- The meaning of structs.
use Rattle.std.specs.Prelude.{◌<◌, ◌≤◌, ◌-◌, ℕ, List, drop, option_copied}
use Rattle.std.specs.Str.{IsCharBoundary}
use Rattle.cmark_grammar.specs.LinkDefinitions.{Parsed}
use Rattle.cmark_grammar.specs.LineBreaks as breaks
use Rattle.cmark_grammar.specs.LinkTails as tails
use Rattle.cmark_link_scan.specs.declared.part.Part.{Part}
use Rattle.cmark_link_scan.specs.declared.label.ReferenceLabel.{ReferenceLabel}
use Rattle.cmark_link_scan.specs.declared.breaks.LineBreak.{LineBreak}
use Rattle.cmark_link_scan.specs.declared.breaks.Parting.{Parting}
use Rattle.cmark_link_scan.specs.declared.link.Inside.{Inside}
use Rattle.cmark_link_scan.specs.declared.link.LinkTail.{LinkTail}

abbrev pub shown_part : Part → Parsed
shown_part part = record { bytes = part.part.now; following = part.following.now }

abbrev pub shown_label : (text : List ℕ) → ReferenceLabel → Parsed
shown_label text label = record { bytes = label.label.now; following = drop label.end text }

abbrev pub shown_inside : Inside → tails.LinkTail
shown_inside inside = record { destination = inside.destination.now; title = option_copied inside.title; following = inside.following.now }

abbrev pub shown_tail : (text : List ℕ) → LinkTail → tails.LinkTail
shown_tail text tail = record { destination = tail.destination.now; title = option_copied tail.title; following = drop tail.end text }

abbrev pub shown_parting : Parting → breaks.LineBreak
shown_parting parting = record { is_hard = parting.is_hard; before = parting.before; following = parting.following.now }

abbrev pub shown_break : (text : List ℕ) → (at : ℕ) → LineBreak → breaks.LineBreak
shown_break text at break = record { is_hard = break.is_hard; before = break.start - at; following = drop break.end text }

-- a break from this place on; its ends are character boundaries
pub record IsBreakAt (text : List ℕ) (at : ℕ) (break : LineBreak) : Type 0 where
  pub following : at ≤ break.start
  pub ordered : break.start < break.end
  pub starts : IsCharBoundary text break.start
  pub ends : IsCharBoundary text break.end
