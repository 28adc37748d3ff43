-- Links and images among the events of a text: no link is in a link except autolinks (CommonMark 6.3 and 6.5), and each has its destination
-- (4.7). References cost a part of the reference expansion limit (this profile's own).
use Rattle.std.specs.Prelude.{◌≡◌, ◌⊎◌, ℕ, zero, suc, pred, ◌+◌, Bool, true, false, nat_le, if◌then◌else◌, List, [], ◌∷◌, ◌++◌, length, sum}
use Rattle.cmark_grammar.specs.Event.{Event, Start, End, Ranged}
use Rattle.cmark_grammar.specs.LinkType.{LinkType, Autolink, Email}
use Rattle.cmark_grammar.specs.Questions.{Exchange}
use Rattle.cmark_grammar.specs.Readers.{Reader}
use Rattle.cmark_grammar.specs.Tag.{Tag, Linked, Link, Image}
use Rattle.cmark_grammar.specs.TagEnd as end
use Rattle.cmark_grammar.specs.TagEnd.{TagEnd}
use Rattle.cmark_inline_model.specs.ReferenceExpansion.{cost_as}
use Rattle.cmark_inline_model.specs.LinkRules.{IsLed}

-- the event begins a link or an image, ends one, or does neither
pub data LinkEvent : Type 0 where
  Begins : (is_image : Bool) → (linked : Linked) → LinkEvent
  Finishes : (is_image : Bool) → LinkEvent
  Neither : LinkEvent

abbrev pub of_tag : Tag → LinkEvent
of_tag (Link linked) = Begins false linked
of_tag (Image linked) = Begins true linked
of_tag _ = Neither

abbrev pub of_end : TagEnd → LinkEvent
of_end end.Link = Finishes false
of_end end.Image = Finishes true
of_end _ = Neither

abbrev pub link_event : Event → LinkEvent
link_event (Start tag) = of_tag tag
link_event (End tag) = of_end tag
link_event _ = Neither

-- ## No link in a link

-- an autolink, to a URI or to an email address
abbrev pub IsOfAutolink : LinkType → Type 0
IsOfAutolink link_type = (link_type ≡ Autolink) ⊎ (link_type ≡ Email)

-- a link that begins inside others is an autolink
abbrev pub MayBegin : (begun : ℕ) → Linked → Type 0
MayBegin zero linked = Unit {0}
MayBegin (suc begun) linked = IsOfAutolink linked.link_type

abbrev pub ApartBy : LinkEvent → (begun : ℕ) → (Others : (begun : ℕ) → Type 0) → Type 0
ApartBy (Begins false linked) begun Others = MayBegin begun linked × Others (suc begun)
ApartBy (Begins true linked) begun Others = Others begun
ApartBy (Finishes false) begun Others = Others (pred begun)
ApartBy (Finishes true) begun Others = Others begun
ApartBy Neither begun Others = Others begun

-- inside `begun` links that are open
abbrev pub LinksApart : (begun : ℕ) → List Ranged → Type 0
LinksApart begun [] = Unit {0}
LinksApart begun (r ∷ rs) = ApartBy (link_event r.event) begun (λ n. LinksApart n rs)

-- ## Their destinations

abbrev pub LedBy : Reader → (asked : List Exchange) → LinkEvent → Type 0
LedBy reader asked (Begins is_image linked) = IsLed reader asked linked
LedBy reader asked (Finishes is_image) = Unit {0}
LedBy reader asked Neither = Unit {0}

abbrev pub AreLed : Reader → (asked : List Exchange) → List Ranged → Type 0
AreLed reader asked [] = Unit {0}
AreLed reader asked (r ∷ rs) = LedBy reader asked (link_event r.event) × AreLed reader asked rs

-- ## Their cost

-- the bytes of a reference's destination and title; other links and images cost nothing
abbrev pub own_cost : Linked → List ℕ
own_cost linked = cost_as linked.link_type (length linked.destination + length linked.title)

abbrev pub finished : (begun : List (List ℕ)) → (others : List (List ℕ) → List ℕ) → List ℕ
finished [] others = others []
finished (own ∷ begun) others = own ++ others begun

abbrev pub costs_by : LinkEvent → (begun : List (List ℕ)) → (others : List (List ℕ) → List ℕ) → List ℕ
costs_by (Begins is_image linked) begun others = others (own_cost linked ∷ begun)
costs_by (Finishes is_image) begun others = finished begun others
costs_by Neither begun others = others begun

-- the costs of the references, in the order in which they end, after those that are open at the start
abbrev pub reference_costs : (begun : List (List ℕ)) → List Ranged → List ℕ
reference_costs begun [] = []
reference_costs begun (r ∷ rs) = costs_by (link_event r.event) begun (λ more. reference_costs more rs)

-- the cost of a reference whose range ends at `place` or before it
abbrev pub spent_by : LinkEvent → (end place : ℕ) → ℕ
spent_by (Begins is_image linked) end place = if nat_le end place then sum (own_cost linked) else 0
spent_by (Finishes is_image) end place = 0
spent_by Neither end place = 0

abbrev pub spent_before : (place : ℕ) → List Ranged → ℕ
spent_before place [] = 0
spent_before place (r ∷ rs) = spent_by (link_event r.event) r.end place + spent_before place rs
