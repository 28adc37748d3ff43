-- The effect of a closing bracket, from its calls.
use Rattle.std.specs.Prelude.{if◌then◌else◌, not, ◌&&◌, option_map, Option, Some, None}
use Rattle.std.proofs.Common.{◌≡◌, ℕ, Bool, List, [], ◌∷◌, ◌++◌, refl, sym, ap, subst, ◌∙◌}
use Rattle.cmark_grammar.specs.Answers.{Lookup}
use Rattle.cmark_grammar.specs.BracketStates.{new_opener}
use Rattle.cmark_grammar.specs.Options.{Options}
use Rattle.cmark_references.specs.declared.definitions.RefDefs.{RefDefs}
use Rattle.cmark_leaf_text.specs.declared.leaf_text.LeafText.{LeafText}
use Rattle.cmark_values.specs.declared.text.CowStr.{CowStr}
use Rattle.cmark_inline.specs.BracketViews.{IsFresh, IsPlaced, StandFor, after_opening}
use Rattle.cmark_inline.specs.Closers.{FormsTarget, LinksTaken, OpensAs}
use Rattle.cmark_slots.specs.Doubled.{touching, with_double}
use Rattle.cmark_inline.proofs.OpenSteps.{pushed}
use Rattle.cmark_inline.specs.Decided.{EndsWithin, TargetDecides}
use Rattle.cmark_inline.specs.Stands.{SameSpans}
use Rattle.cmark_slots.specs.declared.bracket.Bracket.{Bracket}
use Rattle.cmark_inline.specs.declared.callback.BrokenLink.{BrokenLink}
use Rattle.cmark_inline.specs.declared.link.Target.{Target}
use Rattle.cmark_inline.specs.declared.state.InlineState.{InlineState}
use Rattle.cmark_inline.specs.declared.step.Cursor.{Cursor}

module _ {F : Type 0} (R : F → BrokenLink → Option (CowStr × CowStr) → F → Type 0) (options : Options) (lookup : Lookup) (references : RefDefs) (leaf : LeafText) (text : List ℕ) (taken : Option Bracket) (bracket : Bracket) (close : ℕ)
    (old between : InlineState) (found : Option Target) (before after : F) (took : taken ≡ Some bracket) (decides : TargetDecides R options lookup references leaf text bracket close old between found before after)
    (same : SameSpans old between) (label : EndsWithin text old.label_close → EndsWithin text between.label_close) (table : between.links ≡ old.links) (texts : between.texts ≡ old.texts) (quotes : between.quotes ≡ old.quotes) where
  pub links-none : found ≡ None → LinksTaken R options lookup references leaf text taken close old between None before after
  links-none none =
      subst (λ (t : Option Bracket). LinksTaken R options lookup references leaf text t close old between None before after) (sym took)
      (record { target = None; between = between; decides = subst (λ (t : Option Target). TargetDecides R options lookup references leaf text bracket close old between t before after) none decides; same = same; label = label; table = table; texts = texts; quotes = quotes; formed = refl })

  pub links-some : (target : Target) (new : InlineState) (next : Cursor) → found ≡ Some target → FormsTarget options bracket target between new next → LinksTaken R options lookup references leaf text taken close old new (Some next) before after
  links-some target new next some formed =
      subst (λ (t : Option Bracket). LinksTaken R options lookup references leaf text t close old new (Some next) before after) (sym took)
      (record { target = Some target; between = between; decides = subst (λ (t : Option Target). TargetDecides R options lookup references leaf text bracket close old between t before after) some decides; same = same; label = label; table = table; texts = texts; quotes = quotes; formed = formed })

-- the new bracket is the nearest
pub opens-as : (wikilinks is_image : Bool) (text : List ℕ) (at inside : ℕ) (old new : InlineState) (b : Bracket) → b.is_image ≡ is_image → b.start ≡ at → b.inside ≡ inside
    → new.brackets.standing.items ≡ old.brackets.standing.items ++ (b ∷ []) → new.brackets.inactive_below ≡ old.brackets.inactive_below
    → new.doubled.standing.items ≡ (if not b.is_image && wikilinks then with_double (touching at old.brackets) b.inside old.doubled.standing.items else old.doubled.standing.items) → new.doubled.inactive_below ≡ old.doubled.inactive_below
    → new.expansion_left ≡ old.expansion_left → new.label_close ≡ old.label_close → OpensAs wikilinks is_image text at inside old new
opens-as wikilinks is_image text at inside old new b image start end are inactive_below pairs inactive_pairs left label = λ place bracket s bs order shows is in_text in_source.
    let placed : IsPlaced place (new_opener bracket) b = record {
      bracket = is ∙ ap (λ z. record { is_image = z; start = place at; end = place inside }) (sym image) ∙ ap (λ n. record { is_image = b.is_image; start = place n; end = place inside }) (sym start) ∙ ap (λ n. record { is_image = b.is_image; start = place b.start; end = place n }) (sym end);
      in_text = end ∙ in_text ∙ ap (λ z. after_opening z at) (sym image) ∙ ap (after_opening b.is_image) (sym start);
      in_source = ap place end ∙ in_source ∙ ap (λ z. after_opening z (place at)) (sym image) ∙ ap (λ n. after_opening b.is_image (place n)) (sym start);
    } in
    let r = pushed wikilinks place at s.openers bs old.brackets new.brackets old.doubled new.doubled bracket b shows.openers shows.fresh placed start order are inactive_below pairs inactive_pairs in (
      b,
      are,
      record {
        openers = subst (λ n. StandFor wikilinks place n (new_opener bracket ∷ s.openers) (b ∷ bs) new.brackets new.doubled) end r.0;
        fresh = subst (λ n. IsFresh n new.brackets.inactive_below (new_opener bracket ∷ s.openers) (b ∷ bs)) end r.1;
        remembers = record { expansion_left = shows.remembers.expansion_left ∙ sym left; label = shows.remembers.label ∙ ap (option_map place) (sym label); within = subst (EndsWithin text) (sym label) shows.remembers.within };
      },
    )
