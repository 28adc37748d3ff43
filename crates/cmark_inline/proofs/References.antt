-- The link that a reference leads to.
use Rattle.std.proofs.Common.{◌≡◌, inl, inr, ℕ, List, ap, ◌∙◌, Some, None}
use Rattle.std.specs.Prelude.{Option, option_map}
use Rattle.cmark_references.specs.declared.definitions.LinkDef.{LinkDef}
use Rattle.cmark_values.specs.Shown.{text_bytes}
use Rattle.cmark_values.specs.declared.kind.LinkType.{LinkType}
use Rattle.cmark_values.specs.declared.text.CowStr.{CowStr}
use Rattle.cmark_inline.specs.Linked.{Answers, AsksOfReference, IsAnswered, IsLed, Refers, said_by, said_in, shown_destination}
use Rattle.cmark_inline.specs.declared.callback.BrokenLink.{BrokenLink}
use Rattle.cmark_inline.specs.declared.reference.Destination.{Destination}
use Rattle.cmark_references.specs.declared.link.Link.{Link}

module _ {F : Type 0} (R : F → BrokenLink → Option (CowStr × CowStr) → F → Type 0) where
  pub by-definition : (def : Option LinkDef) (form : LinkType) (label : List ℕ) (start end : ℕ) (before after : F) (found : Destination) (parts : Link)
      → option_map shown_destination (Some found) ≡ option_map said_by def → after ≡ before → IsLed form label found parts
      → Refers R def form label start end before after (Some parts)
  by-definition None form label start end before after found parts e same led = absurd (none e)
    where
      none : Some (shown_destination found) ≡ None → ⊥
      none q = let z : ⊥ = cc in z
  by-definition (Some def) form label start end before after found parts e same led = (same, (led.form, led.id, said ∙ some e))
    where
      said : said_in parts ≡ shown_destination found
      said = ap (λ (c : CowStr). record { destination = text_bytes c; title = text_bytes parts.title }) led.dest_url ∙ ap (λ (c : CowStr). record { destination = text_bytes found.dest_url; title = text_bytes c }) led.title

      some : Some (shown_destination found) ≡ Some (said_by def) → shown_destination found ≡ said_by def
      some q = let z : shown_destination found ≡ said_by def = cc in z

  pub by-answer : (def : Option LinkDef) (form : LinkType) (label : List ℕ) (start end : ℕ) (before after : F) (destination : Option Destination) (found : Option Link)
      → option_map shown_destination None ≡ option_map said_by def
      → Answers R form label start end before after destination → IsAnswered form label destination found
      → Refers R def form label start end before after found
  by-answer None form label start end before after destination found e answers is = (destination, answers, is)
  by-answer (Some def) form label start end before after destination found e answers is = absurd (none e)
    where
      none : None ≡ Some (said_by def) → ⊥
      none q = let z : ⊥ = cc in z

  -- ## The questions that were asked, if memory was refused

  pub asks-nothing : (def : Option LinkDef) (form : LinkType) (label : List ℕ) (start end : ℕ) (before after : F) → after ≡ before → AsksOfReference R def form label start end before after
  asks-nothing None form label start end before after same = inl same
  asks-nothing (Some def) form label start end before after same = same

  pub asks-answered : (def : Option LinkDef) (form : LinkType) (label : List ℕ) (start end : ℕ) (before after : F) (destination : Option Destination)
      → option_map shown_destination None ≡ option_map said_by def → Answers R form label start end before after destination → AsksOfReference R def form label start end before after
  asks-answered None form label start end before after destination e answers = inr (destination, answers)
  asks-answered (Some def) form label start end before after destination e answers = absurd (none e)
    where
      none : None ≡ Some (said_by def) → ⊥
      none q = let z : ⊥ = cc in z
