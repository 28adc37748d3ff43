use Rattle.std.proofs.Common.{◌<◌, ◌≤◌, true, not, ◌==◌, refl, sym, ap, subst, ◌∙◌, length, arith}
use Rattle.std.specs.Str.{IsCharBoundary}
use Rattle.cmark_grammar.specs.Rows.{Row}
use Rattle.cmark_leaf_nodes.specs.TextColumns.{StandInText}
use Rattle.cmark_leaf_nodes.proofs.TextColumnSteps.{line-in_text}
use Rattle.cmark_line_rules.specs.Rests.{row_of, IsIn}
use Rattle.cmark_values.specs.Shown.{shown_options}
use Rattle.cmark_blocks.specs.Cuts.{shown_undecided}
use Rattle.cmark_blocks.proofs.CutSteps.{is-first}
use Rattle.cmark_blocks.proofs.SearchSteps.{chosen, searches-start, searches-step}
use Rattle.cmark_blocks.proofs.state.Pass.find_cut.Goals as goal

pub loop-self-init : goal.loop-self-init
loop-self-init g c = (
  refl,
  subst (IsCharBoundary c.args.self.now.text.now) c.requires.starts.line_end c.args.self.now.begins,
  λ settled. searches-start g.E.EntityLookup.replacement c.args.self.now c.args.from c.requires.starts settled (not (c.args.from == 0)) (is-first c.args.from),
)

pub facts_of-facts-requires : goal.facts_of-facts-requires
facts_of-facts-requires g c =
    let same = c.as_bytes.ensures.value in
    let now = c.loop-self.self in
    let within : now.line_end ≤ length c.as_bytes.result.now = omega (arith, c.loop-self-test.true, ap length same) in
    record {
      placed = subst (λ t. IsIn t c.new-line.result) same
          (c.new-line.ensures.placed c.as_bytes.ensures.utf8 (subst (λ t. IsCharBoundary t now.line_end) (sym same) now.begins));
      in_text = subst (λ t. StandInText t (row_of c.new-line.result).columns) same
          (line-in_text c.as_bytes.result.now now.line_end (row_of c.new-line.result) within c.new-line.ensures.line (λ at. ap (λ (r : Row). r.columns) (c.new-line.ensures.none at)));
    }

pub feed-requires : goal.feed-requires
feed-requires g c =
    let same = c.as_bytes.ensures.value in
    let now = c.loop-self.self in
    let within : now.line_end ≤ length c.as_bytes.result.now = omega (arith, c.loop-self-test.true, ap length same) in
    record {
      line = record {
        placed = subst (λ t. IsIn t c.new-line.result) same
            (c.new-line.ensures.placed c.as_bytes.ensures.utf8 (subst (λ t. IsCharBoundary t now.line_end) (sym same) now.begins));
        in_text = subst (λ t. StandInText t (row_of c.new-line.result).columns) same
            (line-in_text c.as_bytes.result.now now.line_end (row_of c.new-line.result) within c.new-line.ensures.line (λ at. ap (λ (r : Row). r.columns) (c.new-line.ensures.none at)));
      };
    }

pub loop-self-preserved : goal.loop-self-preserved
loop-self-preserved g c =
    let replacement = g.E.EntityLookup.replacement in
    let same = c.as_bytes.ensures.value in
    let first = c.args.self.now in
    let old = c.loop-self.self in
    let lt : old.line_end < length c.as_bytes.result.now = omega (arith, c.loop-self-test.true, ap length same) in
    let facts = c.facts_of-facts in (
      c.feed.ensures.text ∙ c.loop-self.invariant.0,
      chosen (IsCharBoundary first.text.now) _ old.line_end c.loop-self.search.cut c.after-search.result.cut c.after-search.ensures.cut
          (subst (λ t. IsCharBoundary t old.line_end) (ap (λ t. t.now) c.loop-self.invariant.0) old.begins) c.loop-self.invariant.1,
      λ settled. searches-step replacement first.text.now (shown_options first.options) (replacement first.entities.now) c.args.from old c.feed.new.self c.new-line.result c.loop-self.search.cut c.loop-self.search.is_resolved c.loop-self.search.after_item (shown_undecided c.loop-self.search.undecided)
          (c.loop-self.invariant.2 settled) c.as_bytes.result.now same lt c.new-line.ensures.line (c.new-line.ensures.further lt)
          facts.result.begins facts.result.lists.is_outside facts.result.lists.is_apart facts.result.lists.is_marked facts.result.is_decided facts.result.is_blank facts.result.is_blind
          facts.ensures.begins facts.ensures.is_outside facts.ensures.is_unmarked facts.ensures.is_apart facts.ensures.is_marked facts.ensures.is_decided facts.ensures.is_blank facts.ensures.is_blind
          c.in_ok-feed.ensures.runs c.in_ok-feed.ensures.line_end
          c.after-search.result.cut c.after-search.result.is_resolved c.after-search.result.after_item (shown_undecided c.after-search.result.undecided) c.after-search.ensures.cut c.after-search.ensures.resolved c.after-search.ensures.after_item
          (ap shown_undecided c.after-search.ensures.undecided ∙ c.after-undecided.ensures),
    )

pub returns-clause-settled : goal.returns-clause-settled
returns-clause-settled g c = λ settled. (c.loop-self.invariant.2 settled).searched.settled

pub returns-clause-boundary : goal.returns-clause-boundary
returns-clause-boundary g c = c.loop-self.invariant.1

pub returns-clause-order : goal.returns-clause-order
returns-clause-order g c = λ settled. (c.loop-self.invariant.2 settled).searched.order
