use Rattle.std.proofs.Common.{◌∙◌, ap, ◌||◌, ℕ, List}
use Rattle.cmark_search.specs.Sets.{in_rows}
use Rattle.cmark_search.proofs.Unions.{joined-read}
use Rattle.cmark_search.proofs.search.AsciiSet.union.Goals as goal

pub returns : goal.returns
returns c = record {
  has = λ byte. joined-read c.self.inside.rows c.other.inside.rows c.self.told c.other.told byte
      ∙ ap (λ (rows : List ℕ). in_rows rows byte || in_rows c.other.inside.rows byte) c.self.view_is
      ∙ ap (λ (rows : List ℕ). in_rows c.args.self.now byte || in_rows rows byte) c.other.view_is;
}
