-- The cost of the references of a leaf that end up to an offset: in its events at most that in its parts, and nothing before it.
use Rattle.std.specs.Prelude.{nat_le, if◌then◌else◌}
use Rattle.std.proofs.Common.{◌≡◌, ℕ, ◌+◌, ◌<◌, ◌≤◌, Bool, true, false, List, [], ◌∷◌, ◌++◌, refl, ap, arith, append_assoc}
use Rattle.cmark_grammar.specs.Event.{Start, End, Ranged}
use Rattle.cmark_grammar.specs.InlineReading.{inline_events, over}
use Rattle.cmark_grammar.specs.Items.{Bracket}
use Rattle.cmark_grammar.specs.Options.{Options}
use Rattle.cmark_grammar.specs.Parts.{Formed, Parts, Nil as NoParts, Single as SinglePart, Form, Closing, Opening, Linking, Footnote, Wiki}
use Rattle.cmark_grammar.specs.Siblings.{Inline, Nil, Single, Around}
use Rattle.cmark_inline_model.specs.SiblingsModel.{spans_in}
use Rattle.cmark_grammar.specs.Tag.{Tag, Linked}
use Rattle.cmark_grammar.specs.TagEnd.{end_of}
use Rattle.cmark_inline_model.specs.ReferenceExpansion.{cost, costs}
use Rattle.cmark_inline_model.specs.PartRanges.{StandBetween}
use Rattle.cmark_inline_model.specs.PartRanges as ranges
use Rattle.cmark_inline_model.specs.ReadingLinks.{LinkEvent, of_tag, of_end, own_cost, spent_by, spent_before}
use Rattle.cmark_inline_model.proofs.CostLists.{total, total-append, sum-total}
use Rattle.cmark_inline_model.proofs.LinkSpans.{TagView, ALink, NoLink, tag-view, span-neither, item-neither}
use Rattle.cmark_inline_model.proofs.PartOrders.{part-up}
use Rattle.cmark_inline_model.proofs.SpanCosts.{address-free, begun_cost, IsPriced, prices, priced_in, spans-priced}

module _ (place : ℕ) where
  abbrev pub priced_to : Tag → (end : ℕ) → List ℕ
  priced_to tag end = if nat_le end place then begun_cost (of_tag tag) else []

  abbrev pub price_to : Linked → (end : ℕ) → List ℕ
  price_to linked end = if nat_le end place then own_cost linked else []

  if_none : (b : Bool) (l : List ℕ) → l ≡ [] → (if b then l else []) ≡ []
  if_none true l e = e
  if_none false l e = refl

  pub to-is-priced : IsPriced priced_to price_to
  to-is-priced = grind (arith, if_none, begun_cost, span-neither, address-free)

  -- the cost of the references of these parts that end up to the offset
  abbrev pub spent_to : Parts → ℕ
  spent_to parts = total (prices priced_to price_to to-is-priced parts)

  abbrev pub spent_in : Inline → ℕ
  spent_in spans = total (priced_in priced_to price_to to-is-priced spans)

  pub spans-spent : (options : Options) (parts : Parts) → spent_in (spans_in options parts) ≤ spent_to parts
  spans-spent options parts = let f = spans-priced priced_to price_to to-is-priced options parts in f.less

  price_less : (linked : Linked) (end : ℕ) → total (price_to linked end) ≤ total (own_cost linked)
  price_less linked end = grind (arith, total)

  price_later : (linked : Linked) (end : ℕ) → place < end → total (price_to linked end) ≡ 0
  price_later linked end h = grind (arith, total)

  pub spent-form : (a : List ℕ) (b : List ℕ) (c : List ℕ) → total (a ++ (b ++ c)) ≡ total a + (total b + total c)
  spent-form a b c = let e = total-append a (b ++ c) in let f = total-append b c in omega arith

  -- no more than all of them
  pub spent-less : (parts : Parts) → spent_to parts ≤ total (costs parts)
  spent-less NoParts = omega arith
  spent-less (SinglePart x after) = spent-less after
  spent-less (Form opener inside closer (Linking target) after) = grind (arith, price_less, spent-form, prices, to-is-priced, spent-less inside, spent-less after)
  spent-less (Form opener inside closer (Footnote label end) after) = grind (arith, total-append, prices, to-is-priced, spent-less inside, spent-less after)
  spent-less (Form opener inside closer (Wiki name display end) after) = grind (arith, total-append, prices, to-is-priced, spent-less inside, spent-less after)
  spent-less (Closing closer after) = spent-less after
  spent-less (Opening opener after) = spent-less after

  -- parts after the offset cost nothing
  pub spent-none : (from : ℕ) (parts : Parts) (to : ℕ) → StandBetween from parts to → place < from → spent_to parts ≡ 0
  spent-none from NoParts to h w = refl
  spent-none from (SinglePart x after) to h w = let a = h.0 in let b = h.1 in spent-none x.end after to h.2 (omega arith)
  spent-none from (Form opener inside closer (Linking target) after) to h w =
      let a = h.0 in let b = h.1 in let u = part-up opener.end inside closer.start h.2 in let c = h.3 in let d = h.4 in
      let i = spent-none opener.end inside closer.start h.2 (omega arith) in
      let j = spent-none target.end after to h.5 (omega arith) in
      let p = price_later target.linked target.end (omega arith) in
      let e = spent-form (prices priced_to price_to to-is-priced inside) (price_to target.linked target.end) (prices priced_to price_to to-is-priced after) in
      omega arith
  spent-none from (Form opener inside closer (Footnote label end) after) to h w =
      let a = h.0 in let b = h.1 in let u = part-up opener.end inside closer.start h.2 in let c = h.3 in let d = h.4 in
      let i = spent-none opener.end inside closer.start h.2 (omega arith) in
      let j = spent-none end after to h.5 (omega arith) in
      let e = total-append (prices priced_to price_to to-is-priced inside) (prices priced_to price_to to-is-priced after) in
      omega arith
  spent-none from (Form opener inside closer (Wiki name display end) after) to h w =
      let a = h.0 in let b = h.1 in let u = part-up opener.end inside closer.start h.2 in let c = h.3 in let d = h.4 in
      let i = spent-none opener.end inside closer.start h.2 (omega arith) in
      let j = spent-none end after to h.5 (omega arith) in
      let e = total-append (prices priced_to price_to to-is-priced inside) (prices priced_to price_to to-is-priced after) in
      omega arith
  spent-none from (Closing closer after) to h w = let a = h.0 in let b = h.1 in spent-none closer.end after to h.2 (omega arith)
  spent-none from (Opening opener after) to h w = let a = h.0 in let b = h.1 in spent-none opener.end after to h.2 (omega arith)

  -- a form that ends after the offset costs only its content and the later parts
  pub spent-inside : (opener : Bracket) (inside : Parts) (closer : Bracket) (formed : Formed) (after : Parts) → place < ranges.end_of formed → spent_to after ≡ 0 → spent_to (Form opener inside closer formed after) ≡ spent_to inside
  spent-inside opener inside closer formed after h k = grind (arith, price_later, spent-form, prices, to-is-priced, total-append)

  -- and no form costs more than is subtracted from the limit
  pub spent-form-less : (opener : Bracket) (inside : Parts) (closer : Bracket) (formed : Formed) (after : Parts)
      → spent_to (Form opener inside closer formed after) ≤ total (costs inside) + (total (cost formed) + spent_to after)
  spent-form-less opener inside closer formed after = grind (arith, spent-less, price_less, spent-form, prices, to-is-priced, total-append)

  -- ## Events

  by_total : (l : LinkEvent) (end : ℕ) → spent_by l end place ≡ total (if nat_le end place then begun_cost l else [])
  by_total l end = grind (arith, total, sum-total, if_none)

  ended : (t : Tag) (end : ℕ) → TagView t → spent_by (of_end (end_of t)) end place ≡ 0
  ended t end (NoLink e f) = ap (λ l. spent_by l end place) f
  ended t end (ALink is_image linked e f) = ap (λ l. spent_by l end place) f

  pub events-spent : (source : List ℕ) (spans : Inline) (rest : List Ranged) → spent_before place (inline_events source spans ++ rest) ≡ spent_in spans + spent_before place rest
  events-spent source Nil rest = omega arith
  events-spent source (Single x after) rest = grind (arith, item-neither, events-spent source after rest)
  events-spent source (Around t start end inside after) rest =
      let last = over source start end (End (end_of t)) in
      let j = ap (λ es. spent_before place (over source start end (Start t) ∷ es)) (append_assoc (inline_events source inside) (last ∷ inline_events source after) rest) in
      let i = events-spent source inside (last ∷ (inline_events source after ++ rest)) in
      let k = events-spent source after rest in
      let b = by_total (of_tag t) end in
      let n = ended t end (tag-view t) in
      let f = spent-form (priced_in priced_to price_to to-is-priced inside) (priced_to t end) (priced_in priced_to price_to to-is-priced after) in
      omega arith
