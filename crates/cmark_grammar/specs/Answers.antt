-- The facts that the caller knows and the text does not contain: the texts of entities (CommonMark 2.5), and the answers to questions about
-- labels (this profile's own).
use Rattle.std.specs.Prelude.{ℕ, List, Option}

-- the text of each entity name, if it has one: a function of the name, without `&` and `;`
abbrev pub Lookup : Type 0
Lookup = List ℕ → Option (List ℕ)

-- the destination and the title of a link
pub record Destination : Type 0 where
  pub url : List ℕ
  pub title : List ℕ
