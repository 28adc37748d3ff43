-- Each item is read with its option.
use Rattle.std.proofs.Common.{ℕ, arith}
use Rattle.cmark_grammar.specs.BracketDecisions.{decide}
use Rattle.cmark_grammar.specs.BracketReading.{Reads}
use Rattle.cmark_grammar.specs.BracketStates.{State}
use Rattle.cmark_grammar.specs.InlineTokens.{token}
use Rattle.cmark_grammar.specs.Items.{ItemKind}
use Rattle.cmark_grammar.specs.LeafText.{Leaf}
use Rattle.cmark_grammar.specs.Parts.{Parts, Nil, Single, Form, Closing, Opening}
use Rattle.cmark_grammar.specs.Questions.{Saying}
use Rattle.cmark_grammar.specs.Readers.{Reader}
use Rattle.cmark_inline_model.specs.OptionRules.{IsRead, AllItems}
use Rattle.cmark_inline_model.proofs.Addresses.{address-given}
use Rattle.cmark_inline_model.proofs.TokenItems.{HoldsOfItems, token-holds, OfItems, items-hold}

module _ (reader : Reader) (leaf : Leaf) where
  abbrev HasOption : ItemKind → (start end : ℕ) → Type 0
  HasOption kind start end = IsRead reader.options kind

  options_hold : HoldsOfItems reader leaf HasOption
  options_hold = grind (arith, address-given)

  all_items : (parts : Parts) → OfItems (λ item. IsRead reader.options item.kind) parts → AllItems (IsRead reader.options) parts
  all_items Nil h = tt
  all_items (Single item after) h = (h.0, all_items after h.1)
  all_items (Form opener inside closer formed after) h = (all_items inside h.0, all_items after h.1)
  all_items (Closing closer after) h = all_items after h
  all_items (Opening opener after) h = all_items after h

  pub leaf-items : (Says : Saying) (s : State) (parts : Parts) (t : State) → Reads (token reader leaf) (decide reader leaf) Says s parts t → AllItems (IsRead reader.options) parts
  leaf-items Says s parts t h = grind (arith, all_items, items-hold, token-holds, options_hold)
