use Rattle.std.proofs.Common.{◌≡◌, ◌⊎◌, ◌+◌, ◌<◌, ◌≤◌, ℕ, List, get_or, inl, inr, true, refl, sym, ap, subst, ◌∙◌, arith, rules}
use Rattle.cmark_grammar.specs.InlineTokens.{bracket, item_at}
use Rattle.cmark_grammar.specs.Items.{Plain, Opens}
use Rattle.cmark_grammar.specs.Lines.{is_content}
use Rattle.cmark_values.specs.Shown.{shown_options}
use Rattle.cmark_inline.specs.Closers.{OpensAs}
use Rattle.cmark_inline.specs.Tokens.{PutsBracket}
use Rattle.cmark_inline.proofs.PlainChains.{before-or-following}
use Rattle.cmark_inline.proofs.SpecialSteps.{image-opens, mark-stands}
use Rattle.cmark_inline.proofs.Keeping.{keeps-same}
use Rattle.cmark_inline.proofs.LastCalls.{ok-by-three}
use Rattle.cmark_inline.proofs.state.InlineState.exclamation.Goals as goal

-- the two bytes end no line
two : (text : List ℕ) (at : ℕ) → get_or text at 0 ≡ 33 → get_or text (at + 1) 0 ≡ 91 → (k : ℕ) → at ≤ k → k < at + 2 → is_content (get_or text k 0) ≡ true
two text at one next k low high = go (before-or-following k at)
  where
    go : (k ≤ at) ⊎ (at < k) → is_content (get_or text k 0) ≡ true
    go (inl le) = ap (λ n. is_content (get_or text n 0)) (let q : k ≡ at = omega (arith, le, low) in q) ∙ ap is_content one
    go (inr lt) = ap (λ n. is_content (get_or text n 0)) (let q : k ≡ at + 1 = omega (arith, lt, high) in q) ∙ ap is_content next

pub returns-clause-token : goal.returns-clause-token
returns-clause-token c = λ l cell is.
    inl (record {
      token = mark-stands (shown_options c.args.options) l cell c.args.text.now c.args.here.at c.requires.byte.within is (sym c.if-is_followed_by.ensures.value) ∙ ap (item_at Plain c.args.here.at) (sym c.pass.ensures.at);
      pending = c.pass.ensures.pending;
      same = refl;
    })

pub returns-then-is_followed_by-clause-token : goal.returns-then-is_followed_by-clause-token
returns-then-is_followed_by-clause-token c = λ l cell is.
    let a = c.following.ensures.value in
    let b = c.following-inside.ensures.value in
    ok-by-three c.open_bracket.result _ _ _ _ c.open_bracket.ensures.at c.open_bracket.ensures.puts c.open_bracket.ensures.opens (λ next places puts opened.
    let e : c.args.here.at + 2 ≡ next.at = (let q : c.args.here.at + 2 ≡ c.following-inside.result = omega (arith, a, b) in q) ∙ sym places.1 in
    inr (record {
      is_image = true;
      token = image-opens (shown_options c.args.options) l cell c.args.text.now c.args.here.at c.requires.byte.within is (sym c.if-is_followed_by.ensures.value) ∙ ap (λ k. Opens (bracket true c.args.here.at k)) e;
      inside = sym e;
      bytes = λ k low high. two c.args.text.now c.args.here.at is (c.if-is_followed_by.ensures.byte refl) k low (omega (arith, high, e));
      pending = places.0 ∙ sym places.1;
      puts = subst (λ k. PutsBracket true c.args.here.pending c.args.here.at k c.args.self.now c.open_bracket.new.self) (sym places.1) puts;
      opens = subst (λ k. OpensAs (shown_options c.args.options).wikilinks true c.args.text.now c.args.here.at k c.args.self.now c.open_bracket.new.self) (sym places.1) opened;
    }))

pub returns-clause-reads_on : goal.returns-clause-reads_on
returns-clause-reads_on c = record {
  expansion_left = refl;
  steps = refl;
  keeps = keeps-same c.args.self.now;
  moves = search rules;
}
