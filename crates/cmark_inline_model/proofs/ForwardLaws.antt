-- Tokens and decisions of a leaf lead forward in it and are inside it.
use Rattle.std.proofs.Common.{◌≡◌, inl, inr, ◌<◌, ◌≤◌, ℕ, List, length, Option, Some, None, subst, arith}
use Rattle.cmark_grammar.specs.BracketDecisions.{following, place, decide}
use Rattle.cmark_grammar.specs.BracketStates.{State, StaysText, Forms, Result, Outcome}
use Rattle.cmark_grammar.specs.InlineTokens.{token}
use Rattle.cmark_grammar.specs.Items.{Bracket, Closes}
use Rattle.cmark_grammar.specs.LeafText.{Leaf, end_of, InTurn}
use Rattle.cmark_grammar.specs.LinkTails.{LinkTail}
use Rattle.cmark_grammar.specs.Questions.{Exchange}
use Rattle.cmark_grammar.specs.Readers.{Reader}
use Rattle.cmark_inline_model.proofs.ShorterRests.{TailBelow, link_tail-shorter}
use Rattle.cmark_inline_model.specs.PartRanges.{ReachesBy, Reaches, KeepsRanges}
use Rattle.cmark_inline_model.specs.Progress.{Always, IsForward}
use Rattle.cmark_inline_model.proofs.DecisionLaws.{always-by, decide-fits}
use Rattle.cmark_inline_model.proofs.DecisionShape.{IsPlace, Shape}
use Rattle.cmark_inline_model.proofs.LeafPlaces.{place-within, place-from, some-fit}
use Rattle.cmark_inline_model.proofs.TokenLaws.{Onward, token-onward, token-ends}
use Rattle.cmark_inline_model.proofs.TokenSizes.{first-size}

module _ (reader : Reader) (leaf : Leaf) (size : ℕ) (turn : InTurn 0 leaf.stretches size) where
  abbrev end : ℕ
  end = end_of leaf.stretches

  -- offsets after a closing bracket
  rest_place : (closer : Bracket) (rest : List ℕ) → closer.end ≤ end → length rest ≤ length (following reader leaf closer.end) → (closer.end ≤ place reader leaf rest) × (place reader leaf rest ≤ end)
  rest_place closer rest w h =
      (place-from reader.source leaf.stretches size turn (length rest) closer.end h w, place-within reader.source leaf.stretches size turn (length rest))

  pub is-place : (closer : Bracket) (p : ℕ) → closer.end ≤ end → IsPlace reader leaf closer p → (closer.end ≤ p) × (p ≤ end)
  is-place closer p w (inl e) = (omega arith, omega arith)
  is-place closer p w (inr h) = let r = rest_place closer h.0 w h.1 in let e = h.2 in let x = r.0 in let y = r.1 in (omega arith, omega arith)

  tail_rest : (n : ℕ) (o : Option LinkTail) (tail : LinkTail) → TailBelow n o → o ≡ Some tail → length tail.following < n
  tail_rest n None tail h e = cc
  tail_rest n (Some other) tail h e = subst (λ (o : Option LinkTail). TailBelow n o) e h

  shape_reaches : (s : State) (closer : Bracket) → closer.end ≤ end → (asked : List Exchange) (o : Outcome) → Shape reader leaf s closer asked o → Reaches closer.end end o
  shape_reaches s closer w asked o h = grind (arith, tail_rest, link_tail-shorter, rest_place, is-place, first-size, some-fit)

  pub closer-is : (at : ℕ) (closer : Bracket) → token reader leaf at ≡ Closes closer → Onward reader leaf size turn at (Closes closer)
  closer-is at closer e = subst (Onward reader leaf size turn at) e (token-onward reader leaf size turn at)

  reaches : (s : State) (closer : Bracket) → token reader leaf s.at ≡ Closes closer → Always (Reaches closer.end end) (decide reader leaf s closer)
  reaches s closer e =
      let c = closer-is s.at closer e in
      let x = c.1 in let y = c.2 in
      always-by reader leaf s closer (Reaches closer.end end) (shape_reaches s closer (omega arith))

  following_at : (from to : ℕ) (result : Result) → ReachesBy from result to → from ≤ to
  following_at from to StaysText h = h
  following_at from to (Forms nearer formed) h = let x = h.0 in let y = h.1 in omega arith

  comes_after : (s : State) (closer : Bracket) → token reader leaf s.at ≡ Closes closer → Always (λ o. s.at < o.after.at) (decide reader leaf s closer)
  comes_after s closer e =
      let c = closer-is s.at closer e in
      let x = c.1 in let y = c.2 in
      always-by reader leaf s closer (λ o. s.at < o.after.at)
      (λ asked o h. (let r = shape_reaches s closer (omega arith) asked o h in let m = following_at closer.end o.after.at o.result r.following in omega arith))

  pub leaf-forward : IsForward (token reader leaf) (decide reader leaf) end
  leaf-forward = grind (arith, token-ends, token-onward, comes_after, decide-fits)

  pub leaf-ranges : KeepsRanges (token reader leaf) (decide reader leaf) end
  leaf-ranges = grind (arith, token-onward, closer-is, reaches)
