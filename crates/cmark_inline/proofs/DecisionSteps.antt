-- The outcome of a reference, in the code and in the grammar.
use Rattle.std.specs.Prelude.{if◌then◌else◌, Option, Some, None, option_map}
use Rattle.std.proofs.Common.{◌≡◌, ◌⊎◌, inl, inr, ℕ, ◌-◌, ◌==◌, true, false, List, [], ◌∷◌, ◌++◌, length, refl, sym, ap, subst, ◌∙◌}
use Rattle.cmark_grammar.specs.Answers as given
use Rattle.cmark_grammar.specs.BlockDocument as block
use Rattle.cmark_grammar.specs.BracketDecisions.{Named, links, stays, refers, defined_or_asked, answered, with_answer, question, linked, or_empty}
use Rattle.cmark_grammar.specs.BracketStates.{State, Outcome, Decision, Settled, Asks}
use Rattle.cmark_grammar.specs.Items as items
use Rattle.cmark_grammar.specs.Labels.{fold, normal_form}
use Rattle.cmark_grammar.specs.LeafText.{Leaf}
use Rattle.cmark_grammar.specs.LinkType as link
use Rattle.cmark_grammar.specs.OpenBrackets.{Taken}
use Rattle.cmark_grammar.specs.Questions.{Question, Exchange}
use Rattle.cmark_grammar.specs.Readers.{Reader}
use Rattle.cmark_references.specs.declared.definitions.LinkDef.{LinkDef}
use Rattle.cmark_values.specs.Shown.{shown_link_type, text_bytes}
use Rattle.cmark_values.specs.declared.kind.LinkType.{LinkType}
use Rattle.cmark_values.specs.declared.text.CowStr.{CowStr}
use Rattle.cmark_inline.specs.Decided.{AsksOf, said, shown_answer, shown_question, target_outcome, with_left, LeadsTo}
use Rattle.cmark_inline.specs.Linked.{AsksOfReference, Said, said_by, said_in, Refers, Answers, IsAnswered, IsQuestion, parted, left_after, target_link}
use Rattle.cmark_inline.specs.declared.callback.BrokenLink.{BrokenLink}
use Rattle.cmark_inline.specs.declared.reference.Destination.{Destination}
use Rattle.cmark_inline.specs.declared.link.Target.{Target}

module _ {F : Type 0} (R : F → BrokenLink → Option (CowStr × CowStr) → F → Type 0) (reader : Reader) (leaf : Leaf) (place : ℕ → ℕ) (taken : Taken) (closer : items.Bracket) where
  abbrev Leads : (decision : Decision) (s : State) (expansion_left : ℕ) (label_close : Option ℕ) (found : Option Target) (before after : F) → Type 0
  Leads decision s expansion_left label_close found before after = LeadsTo R reader leaf place taken closer decision s expansion_left label_close found before after

  -- nothing is formed, and nothing is asked
  pub stays-settled : (decision : Decision) (s : State) (expansion_left : ℕ) (label_close : Option ℕ) (found : Option Target) (before after : F) → decision ≡ Settled (stays reader leaf closer s)
      → found ≡ None → after ≡ before → expansion_left ≡ s.expansion_left → label_close ≡ s.label_close → Leads decision s expansion_left label_close found before after
  stays-settled decision s expansion_left label_close found before after e none same left label =
      subst (λ d. Leads d s expansion_left label_close found before after) (sym e)
      (subst (λ (t : Option Target). Leads (Settled (stays reader leaf closer s)) s expansion_left label_close t before after) (sym none)
      (record { asked = s.asked; comes = (ap (λ n. stays reader leaf closer (with_left n label_close s.asked s)) left ∙ ap (λ l. stays reader leaf closer (with_left s.expansion_left l s.asked s)) label, same) }))

  -- the links are equal
  same : (s : State) (label_close : Option ℕ) (asked : List Exchange) (t : Target) (form : link.LinkType) (destination title id : List ℕ) (left end resume : ℕ)
      → shown_link_type t.link.link_type ≡ form → text_bytes t.link.dest_url ≡ destination → text_bytes t.link.title ≡ title → text_bytes t.link.id ≡ id
      → left ≡ (s.expansion_left - length destination) - length title → place t.end ≡ end → place t.resume ≡ resume → label_close ≡ s.label_close
      → target_outcome reader leaf place taken closer (with_left left label_close asked s) (Some t)
      ≡ links reader leaf taken (linked form (record { url = destination; title = title }) id) end resume (with_left ((s.expansion_left - length destination) - length title) s.label_close asked s)
  same s label_close asked t form destination title id left end resume a b c d e f g h =
      ap (λ z. links reader leaf taken (record { link_type = z; destination = text_bytes t.link.dest_url; title = text_bytes t.link.title; id = text_bytes t.link.id }) (place t.end) (place t.resume) (with_left left label_close asked s)) a
      ∙ ap (λ z. links reader leaf taken (record { link_type = form; destination = z; title = text_bytes t.link.title; id = text_bytes t.link.id }) (place t.end) (place t.resume) (with_left left label_close asked s)) b
      ∙ ap (λ z. links reader leaf taken (record { link_type = form; destination = destination; title = z; id = text_bytes t.link.id }) (place t.end) (place t.resume) (with_left left label_close asked s)) c
      ∙ ap (λ z. links reader leaf taken (record { link_type = form; destination = destination; title = title; id = z }) (place t.end) (place t.resume) (with_left left label_close asked s)) d
      ∙ ap (λ z. links reader leaf taken (record { link_type = form; destination = destination; title = title; id = id }) z (place t.resume) (with_left left label_close asked s)) f
      ∙ ap (λ z. links reader leaf taken (record { link_type = form; destination = destination; title = title; id = id }) end z (with_left left label_close asked s)) g
      ∙ ap (λ z. links reader leaf taken (record { link_type = form; destination = destination; title = title; id = id }) end resume (with_left z label_close asked s)) e
      ∙ ap (λ z. links reader leaf taken (record { link_type = form; destination = destination; title = title; id = id }) end resume (with_left ((s.expansion_left - length destination) - length title) z asked s)) h

  -- the questions are equal
  same-question : (named : Named) (form : LinkType) → named.link_type ≡ shown_link_type form → (link : BrokenLink) → IsQuestion form (normal_form named.label) taken.opener.bracket.start named.end link
      → shown_question link ≡ question reader leaf named taken.opener.bracket
  same-question named form shown link q =
      ap (λ (z : LinkType). record { start = link.span.start; end = link.span.end; link_type = shown_link_type z; reference = text_bytes link.reference }) q.form
      ∙ ap (λ z. record { start = link.span.start; end = link.span.end; link_type = z; reference = text_bytes link.reference }) (sym shown)
      ∙ ap (λ z. record { start = link.span.start; end = link.span.end; link_type = named.link_type; reference = z }) q.label
      ∙ ap (λ z. record { start = z; end = link.span.end; link_type = named.link_type; reference = normal_form named.label }) q.start
      ∙ ap (λ z. record { start = taken.opener.bracket.start; end = z; link_type = named.link_type; reference = normal_form named.label }) q.end

  -- a reference, if something is left of the reference expansion limit
  led : (named : Named) (s : State) (form : LinkType) (defined : Option block.Reference) (def : Option LinkDef) (expansion_left : ℕ) (label_close : Option ℕ) (found : Option Target) (before after : F)
      → reader.has_callback ≡ true → option_map said defined ≡ option_map said_by def → named.link_type ≡ shown_link_type form
      → Refers R def form (normal_form named.label) taken.opener.bracket.start named.end before after (option_map target_link found)
      → expansion_left ≡ left_after s.expansion_left found → label_close ≡ s.label_close → ((t : Target) → found ≡ Some t → (place t.end ≡ named.end) × (place t.resume ≡ named.resume))
      → Leads (defined_or_asked reader leaf defined named taken closer s) s expansion_left label_close found before after
  led named s form None (Some def) expansion_left label_close found before after callback defs shown refers left label ends = absurd (let z : ⊥ = cc in z)
  led named s form (Some reference) None expansion_left label_close found before after callback defs shown refers left label ends = absurd (let z : ⊥ = cc in z)
  led named s form (Some reference) (Some def) expansion_left label_close None before after callback defs shown refers left label ends = absurd refers.1
  led named s form (Some reference) (Some def) expansion_left label_close (Some t) before after callback defs shown refers left label ends =
      let told : said_in t.link ≡ said reference = refers.1.2 ∙ sym (some defs) in
      let destination = ap (λ (x : Said). x.destination) told in
      let title = ap (λ (x : Said). x.title) told in
      let e = ends t refl in
      record {
        asked = s.asked;
        comes = (
          same s label_close s.asked t named.link_type reference.destination (or_empty reference.title) (normal_form named.label) expansion_left named.end named.resume
              (ap shown_link_type refers.1.0 ∙ sym shown) destination title refers.1.1
              (left ∙ ap (λ l. (s.expansion_left - length l) - length (text_bytes t.link.title)) destination ∙ ap (λ l. (s.expansion_left - length reference.destination) - length l) title) e.0 e.1 label,
          refers.0,
        );
      }
    where
      some : Some (said reference) ≡ Some (said_by def) → said reference ≡ said_by def
      some q = let z : said reference ≡ said_by def = cc in z
  led named s form None None expansion_left label_close found before after callback defs shown refers left label ends =
      subst (λ d. Leads d s expansion_left label_close found before after) (sym (ap (λ z. if z then Asks asks replied else Settled (stays reader leaf closer s)) callback)) (go refers.0 found (refers.1, refers.2) left ends)
    where
      asks : Question
      asks = question reader leaf named taken.opener.bracket

      replied : Option given.Destination → Outcome
      replied answer = answered reader leaf named taken closer (with_answer reader leaf asks answer s) answer

      asked : Option given.Destination → List Exchange
      asked answer = s.asked ++ (record { question = asks; answer = answer } ∷ [])

      go : (d : Option Destination) (t : Option Target) → Answers R form (normal_form named.label) taken.opener.bracket.start named.end before after d × IsAnswered form (normal_form named.label) d (option_map target_link t)
          → expansion_left ≡ left_after s.expansion_left t → ((x : Target) → t ≡ Some x → (place x.end ≡ named.end) × (place x.resume ≡ named.resume)) → Leads (Asks asks replied) s expansion_left label_close t before after
      go None None h l e = record {
        asked = asked None;
        comes = (
          None,
          record { link = h.0.0; told = None; question_is = same-question named form shown h.0.0 h.0.1; answer_is = refl; run = h.0.2 },
          ap (λ n. stays reader leaf closer (with_left n label_close (asked None) s)) l ∙ ap (λ z. stays reader leaf closer (with_left s.expansion_left z (asked None) s)) label,
        );
      }
      go None (Some t) h l e = absurd h.1
      go (Some d) None h l e = absurd h.1
      go (Some d) (Some t) h l e =
          let answer : given.Destination = record { url = text_bytes d.dest_url; title = text_bytes d.title } in
          let p = e t refl in
          let url = ap text_bytes h.1.2 in
          let title = ap text_bytes h.1.3 in
          record {
            asked = asked (Some answer);
            comes = (
              Some answer,
              record { link = h.0.0; told = Some (parted d); question_is = same-question named form shown h.0.0 h.0.1; answer_is = refl; run = h.0.2 },
              same s label_close (asked (Some answer)) t (link.to_unknown named.link_type) answer.url answer.title (normal_form named.label) expansion_left named.end named.resume
                  (h.1.0 ∙ ap link.to_unknown (sym shown)) url title h.1.1
                  (l ∙ ap (λ z. (s.expansion_left - length z) - length (text_bytes t.link.title)) url ∙ ap (λ z. (s.expansion_left - length answer.url) - length z) title) p.0 p.1 label,
            );
          }

  -- a reference, if nothing is left of the reference expansion limit: nothing is looked up or asked
  pub refers-spent : (named : Named) (s : State) (expansion_left : ℕ) (label_close : Option ℕ) (before after : F) → s.expansion_left ≡ 0 → after ≡ before → expansion_left ≡ s.expansion_left → label_close ≡ s.label_close
      → Leads (refers reader leaf named taken closer s) s expansion_left label_close None before after
  refers-spent named s expansion_left label_close before after spent same left label =
      stays-settled (refers reader leaf named taken closer s) s expansion_left label_close None before after
      (ap (λ n. if n == 0 then Settled (stays reader leaf closer s) else defined_or_asked reader leaf (reader.definition (fold named.label)) named taken closer s) spent) refl same left label

  pub refers-led : (named : Named) (s : State) (form : LinkType) (def : Option LinkDef) (expansion_left : ℕ) (label_close : Option ℕ) (found : Option Target) (before after : F)
      → reader.has_callback ≡ true → option_map said (reader.definition (fold named.label)) ≡ option_map said_by def → (s.expansion_left == 0) ≡ false → named.link_type ≡ shown_link_type form
      → Refers R def form (normal_form named.label) taken.opener.bracket.start named.end before after (option_map target_link found)
      → expansion_left ≡ left_after s.expansion_left found → label_close ≡ s.label_close → ((t : Target) → found ≡ Some t → (place t.end ≡ named.end) × (place t.resume ≡ named.resume))
      → Leads (refers reader leaf named taken closer s) s expansion_left label_close found before after
  refers-led named s form def expansion_left label_close found before after callback defs some shown refers left label ends =
      subst (λ d. Leads d s expansion_left label_close found before after)
      (sym (ap (λ z. if z then Settled (stays reader leaf closer s) else defined_or_asked reader leaf (reader.definition (fold named.label)) named taken closer s) some))
      (led named s form (reader.definition (fold named.label)) def expansion_left label_close found before after callback defs shown refers left label ends)

  -- the questions for this reference, if memory was refused
  asks-led : (named : Named) (s : State) (form : LinkType) (defined : Option block.Reference) (def : Option LinkDef) (before after : F) → reader.has_callback ≡ true → option_map said defined ≡ option_map said_by def → named.link_type ≡ shown_link_type form
      → AsksOfReference R def form (normal_form named.label) taken.opener.bracket.start named.end before after → AsksOf R (defined_or_asked reader leaf defined named taken closer s) before after
  asks-led named s form None (Some def) before after callback defs shown asks = absurd (let z : ⊥ = cc in z)
  asks-led named s form (Some reference) None before after callback defs shown asks = absurd (let z : ⊥ = cc in z)
  asks-led named s form (Some reference) (Some def) before after callback defs shown asks = asks
  asks-led named s form None None before after callback defs shown asks =
      subst (λ d. AsksOf R d before after) (sym (ap (λ z. if z then Asks its replied else Settled (stays reader leaf closer s)) callback)) (go asks)
    where
      its : Question
      its = question reader leaf named taken.opener.bracket

      replied : Option given.Destination → Outcome
      replied answer = answered reader leaf named taken closer (with_answer reader leaf its answer s) answer

      go : (after ≡ before) ⊎ ((destination : Option Destination) × Answers R form (normal_form named.label) taken.opener.bracket.start named.end before after destination) → AsksOf R (Asks its replied) before after
      go (inl same) = inl same
      go (inr h) =
          let told = option_map parted h.0 in
          inr (option_map shown_answer told, record { link = h.1.0; told = told; question_is = same-question named form shown h.1.0 h.1.1; answer_is = refl; run = h.1.2 })

  pub refers-asks : (named : Named) (s : State) (form : LinkType) (def : Option LinkDef) (before after : F) → reader.has_callback ≡ true → option_map said (reader.definition (fold named.label)) ≡ option_map said_by def → (s.expansion_left == 0) ≡ false
      → named.link_type ≡ shown_link_type form → AsksOfReference R def form (normal_form named.label) taken.opener.bracket.start named.end before after → AsksOf R (refers reader leaf named taken closer s) before after
  refers-asks named s form def before after callback defs some shown asks =
      subst (λ d. AsksOf R d before after)
      (sym (ap (λ z. if z then Settled (stays reader leaf closer s) else defined_or_asked reader leaf (reader.definition (fold named.label)) named taken closer s) some))
      (asks-led named s form (reader.definition (fold named.label)) def before after callback defs shown asks)
