-- Decoding the bytes of proper definitions and replies gives these.
use Rattle.std.proofs.Common.{◌≡◌, ℕ, false, List, [], ◌∷◌, ◌++◌, Option, Some, None, refl, sym, ap, subst, ◌∙◌}
use Rattle.std.specs.Prelude.{IfSome}
use Rattle.std.specs.List.{AllByRecursion, flat_map}
use Rattle.std.proofs.lemmas.List.Concat.{flat_map-cons}
use Rattle.cmark_grammar.specs.Answers.{Destination}
use Rattle.cmark_grammar.specs.BlockDocument.{Reference}
use Rattle.cmark_flat.specs.Decode.{◌>>=◌, Group, each, groups, is_further, later, parts_at}
use Rattle.cmark_flat.specs.Definitions.{definition_of, definition_parts, definition_record, definition_records}
use Rattle.cmark_flat.specs.Laws.{DefinitionsAreDecoded, IsProperDefinition, IsProperReply, IsText, RepliesAreDecoded}
use Rattle.cmark_flat.specs.Numbers.{label_part, title_part}
use Rattle.cmark_flat.specs.Questions.{Reply, answer_parts, reply_of, reply_record, reply_records}
use Rattle.cmark_flat.specs.Records.{FlatRecord}
use Rattle.cmark_flat.proofs.EventLaw.{AreFurther, later_all, later_at, no_parts_at, parts_all}
use Rattle.cmark_flat.proofs.FlatLaw.{AllFit, fit_then, nothing_holds, part_fits, text_holds}
use Rattle.cmark_flat.proofs.RecordLaw.{records_again}

-- elements that have a record of their own and further ones, which `f` finds again
module _ {A : Type 0} (own : A → FlatRecord) (parts : A → List FlatRecord) (f : Group → Option A) (IsProper : A → Type 0)
    (is_own : (a : A) → is_further (own a) ≡ false) (further : (a : A) → AreFurther (parts a)) (found : (a : A) → IsProper a → f (record { own = own a; parts = parts a }) ≡ Some a)
    (fit : (a : A) → IsProper a → AllFit (own a ∷ parts a)) where
  abbrev all_records : A → List FlatRecord
  all_records a = own a ∷ parts a

  abbrev group_of : A → Group
  group_of a = record { own = own a; parts = parts a }

  no_parts : (xs : List A) → parts_at (flat_map all_records xs) ≡ []
  no_parts [] = refl
  no_parts (a ∷ xs) = ap parts_at (flat_map-cons all_records a xs) ∙ no_parts_at (own a) (parts a ++ flat_map all_records xs) (is_own a)

  later_is : (xs : List A) → later (flat_map all_records xs) ≡ groups (flat_map all_records xs)
  later_is [] = refl
  later_is (a ∷ xs) = ap later (flat_map-cons all_records a xs) ∙ later_at (own a) (parts a ++ flat_map all_records xs) (is_own a) ∙ ap groups (sym (flat_map-cons all_records a xs))

  one_group : (a : A) (rest : List FlatRecord) → parts_at rest ≡ [] → groups (all_records a ++ rest) ≡ group_of a ∷ later rest
  one_group a rest h = rw (parts_all (parts a) rest (further a) h, later_all (parts a) rest (further a)) refl

  pub all_again : (xs : List A) → AllByRecursion IsProper xs → each f (groups (flat_map all_records xs)) ≡ Some xs
  all_again [] proper = refl
  all_again (a ∷ xs) proper =
      let rest : List FlatRecord = flat_map all_records xs in
      let grouped : groups (flat_map all_records (a ∷ xs)) ≡ group_of a ∷ groups rest = ap groups (flat_map-cons all_records a xs) ∙ one_group a rest (no_parts xs) ∙ ap (λ gs. group_of a ∷ gs) (later_is xs) in
      ap (each f) grouped
      ∙ ap (λ o. o >>= λ first. each f (groups rest) >>= λ others. Some (first ∷ others)) (found a proper.0)
      ∙ ap (λ o. o >>= λ others. Some (a ∷ others)) (all_again xs proper.1)

  pub all_fit : (xs : List A) → AllByRecursion IsProper xs → AllFit (flat_map all_records xs)
  all_fit [] proper = tt
  all_fit (a ∷ xs) proper = subst AllFit (sym (flat_map-cons all_records a xs)) (fit_then (all_records a) _ (fit a proper.0) (all_fit xs proper.1))

-- ---- definitions

definition_further : (title : Option (List ℕ)) (label : List ℕ) → AreFurther (definition_parts title label)
definition_further None label = (refl, tt)
definition_further (Some title) label = (refl, (refl, tt))

definition_found : (title : Option (List ℕ)) (label destination : List ℕ) (start end : ℕ)
    → let d : Reference = record { label = label; destination = destination; title = title; start = start; end = end } in definition_of (record { own = definition_record d; parts = definition_parts title label }) ≡ Some d
definition_found None label destination start end = refl
definition_found (Some title) label destination start end = refl

definition_parts_fit : (title : Option (List ℕ)) (label : List ℕ) → IfSome title IsText → IsText label → AllFit (definition_parts title label)
definition_parts_fit None label proper named = (part_fits label_part label (text_holds label named), tt)
definition_parts_fit (Some title) label proper named = (part_fits title_part title (text_holds title proper), (part_fits label_part label (text_holds label named), tt))

definition_fits : (d : Reference) → IsProperDefinition d → AllFit (definition_records d)
definition_fits d proper =
    let holds = text_holds d.destination proper.2 in
    (record { start = proper.0; end = proper.1; size = holds.0; utf8 = holds.1 }, definition_parts_fit d.title d.label proper.3 proper.4)

pub definitions_are_decoded : DefinitionsAreDecoded
definitions_are_decoded ds proper =
    ap (λ o. o >>= λ rs. each definition_of (groups rs))
    (records_again (flat_map definition_records ds)
    (all_fit definition_record (λ d. definition_parts d.title d.label) definition_of IsProperDefinition (λ d. refl) (λ d. definition_further d.title d.label) (λ d _. definition_found d.title d.label d.destination d.start d.end) definition_fits ds proper))
    ∙ all_again definition_record (λ d. definition_parts d.title d.label) definition_of IsProperDefinition (λ d. refl) (λ d. definition_further d.title d.label) (λ d _. definition_found d.title d.label d.destination d.start d.end) definition_fits ds proper

-- ---- replies

reply_further : (answer : Option Destination) → AreFurther (answer_parts answer)
reply_further None = tt
reply_further (Some destination) = (refl, tt)

reply_found : (answer : Option Destination) (start end : ℕ)
    → let r : Reply = record { start = start; end = end; answer = answer } in reply_of (record { own = reply_record r; parts = answer_parts answer }) ≡ Some r
reply_found None start end = refl
reply_found (Some destination) start end = refl

reply_records_fit : (start end : ℕ) (answer : Option Destination) → IsProperReply (record { start = start; end = end; answer = answer }) → AllFit (reply_records (record { start = start; end = end; answer = answer }))
reply_records_fit start end None proper = (record { start = proper.0; end = proper.1; size = nothing_holds.0; utf8 = nothing_holds.1 }, tt)
reply_records_fit start end (Some destination) proper =
    let holds = text_holds destination.url proper.2.0 in
    (record { start = proper.0; end = proper.1; size = holds.0; utf8 = holds.1 }, (part_fits title_part destination.title (text_holds destination.title proper.2.1), tt))

pub replies_are_decoded : RepliesAreDecoded
replies_are_decoded rs proper =
    ap (λ o. o >>= λ qs. each reply_of (groups qs))
    (records_again (flat_map reply_records rs)
    (all_fit reply_record (λ r. answer_parts r.answer) reply_of IsProperReply (λ r. refl) (λ r. reply_further r.answer) (λ r _. reply_found r.answer r.start r.end) (λ r p. reply_records_fit r.start r.end r.answer p) rs proper))
    ∙ all_again reply_record (λ r. answer_parts r.answer) reply_of IsProperReply (λ r. refl) (λ r. reply_further r.answer) (λ r _. reply_found r.answer r.start r.end) (λ r p. reply_records_fit r.start r.end r.answer p) rs proper
