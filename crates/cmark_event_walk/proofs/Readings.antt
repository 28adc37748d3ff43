-- Steps of a walk with spans: the events that are left.
use Rattle.std.proofs.Common.{◌≡◌, inl, inr, ℕ, zero, suc, ◌≤◌, ◌-◌, arith, Bool, true, false, List, [], ◌∷◌, ◌++◌, append_assoc, append-nil, length, Option, refl, sym, ap, ◌∙◌, subst}
use Rattle.std.specs.Prelude.{Err, IfOk, IfSome, None, Ok, OnOk, Result, Some, option_map}
use Rattle.std.specs.Global.{Vec}
use Rattle.cmark_grammar.specs.Answers.{Lookup}
use Rattle.cmark_grammar.specs.Event.{Ranged, Text}
use Rattle.cmark_grammar.specs.LeafReading.{Between, ReadsLeaf as ReadsGrammarLeaf}
use Rattle.cmark_grammar.specs.LeafText.{Leaf, Stretch}
use Rattle.cmark_inline_model.specs.LeafSpans.{IsRange}
use Rattle.cmark_grammar.specs.Options.{Options}
use Rattle.cmark_grammar.specs.Questions.{Exchange, IsNext}
use Rattle.cmark_grammar.specs.Readers.{Reader}
use Rattle.cmark_grammar.specs.SpanDocuments.{Segment, Given as GivenOf, Content, Left}
use Rattle.cmark_grammar.specs.Tokens.{slice}
use Rattle.cmark_inline.specs.Asking.{AsksOnce, AsksUpTo}
use Rattle.cmark_inline.specs.Decided.{shown_answer, shown_question}
use Rattle.cmark_inline.specs.Linked.{said_by}
use Rattle.cmark_slot_events.specs.LeafStates.{GivesLong}
use Rattle.cmark_slot_events.specs.LinkStarts as starts
use Rattle.cmark_slot_events.specs.LinkStarts.{IsStartFirst}
use Rattle.cmark_inline.specs.PlainStretches.{StandUpTo}
use Rattle.cmark_inline.specs.Resolved.{Answered}
use Rattle.cmark_slot_events.specs.Events.{AreLeft, events_to_come}
use Rattle.cmark_slot_events.specs.Opens.{AreOpened}
use Rattle.cmark_text.specs.Ranged.{shown_ranged}
use Rattle.cmark_text.specs.declared.ranged.Ranged.{Ranged as Given}
use Rattle.cmark_inline.specs.declared.callback.BrokenLink.{BrokenLink}
use Rattle.cmark_slot_events.specs.declared.leaf_events.LeafEvents.{LeafEvents}
use Rattle.cmark_inline_model.specs.FirstEvents.{BeginWithEnd}
use Rattle.cmark_inline_model.specs.PlacedLeaves.{StandWhole}
use Rattle.cmark_inline_model.specs.PlainLines.{ArePlainLines, line_events}
use Rattle.cmark_inline_model.proofs.Backwards.{left-given, left-leaf}
use Rattle.cmark_inline_model.proofs.DecisionLaws.{decide-recorded}
use Rattle.cmark_inline_model.proofs.DecisionShifted.{decide-shifted}
use Rattle.cmark_inline_model.proofs.PlainLines.{joined-lines, last-some, plain-leaf, plain-lines}
use Rattle.cmark_references.specs.Definitions.{definition}
use Rattle.cmark_references.specs.Links.{shown_link}
use Rattle.cmark_references.specs.declared.link.Link.{Link}
use Rattle.cmark_references.specs.declared.definitions.RefDefs.{RefDefs}
use Rattle.cmark_leaf_text.specs.declared.stretch.LeafLine.{LeafLine}
use Rattle.cmark_values.specs.declared.text.CowStr.{CowStr}
use Rattle.cmark_block_walk.specs.declared.walk.Walk.{Walk}
use Rattle.cmark_block_walk.specs.Walking as walking
use Rattle.cmark_block_walk.specs.Walking.{lines_of}
use Rattle.cmark_event_walk.specs.declared.span_walk.SpanWalk.{SpanWalk}
use Rattle.cmark_event_walk.specs.Walking.{ArePlaced, Ends, EntersLeaf, Gives, GivesLines, GivesStart, HasAsked, HasRange, IsOnlyLine, IsReadBy, Passes, ReadsLeaf, ReadsSame, Remains, StandsAt, callback_of, definitions_of, expansion_left_of, link_in, link_to_come, opened_of, source_of, spans_to_come}
use Rattle.cmark_event_walk.proofs.Walks.{Lasts, following-at, closed, closed-at, met-by, one-left, same-at, spanned-at}

-- a text in which each byte stands for itself
stand-whole : (options : Options) (lookup : Lookup) (is_cell : Bool) (text : List ℕ) → StandUpTo options lookup is_cell text 0 (length text) → StandWhole options lookup is_cell text
stand-whole options lookup is_cell text h k lt blank =
    let i = h k (omega arith) lt blank in
    record { end = i.end; further = i.further; within = i.within; token = i.token }

one-line : (ss : List Stretch) (line : LeafLine) → lines_of ss ≡ line ∷ [] → ss ≡ record { start = line.start; end = line.content_end } ∷ []
one-line [] line e = absurd (let q : [] ≡ line ∷ [] = e in cc)
one-line (s ∷ []) line e = ap (λ (l : List LeafLine). stretches l) e
  where
    stretches : List LeafLine → List Stretch
    stretches [] = []
    stretches (l ∷ ls) = record { start = l.start; end = l.content_end } ∷ []
one-line (s ∷ (t ∷ ss)) line e = absurd (let q : line_of s ∷ (line_of t ∷ lines_of ss) ≡ line ∷ [] = e in cc)
  where
    line_of : Stretch → LeafLine
    line_of s = record { start = s.start; content_end = s.end; line_end = s.end }

-- the range of a line
pub plain-range : (source : List ℕ) (lines : List LeafLine) (text : List ℕ) (start end : ℕ) → (only : IsOnlyLine source lines text start end) → IsRange source only.line.start only.line.content_end
plain-range source lines text start end only =
    let some = only.part.some in
    record { ordered = (let q : only.line.start ≤ only.line.content_end = omega (arith, some) in q); within = only.part.within; starts = only.part.starts; ends = only.part.ends }

-- two facts of a call that did not run out of memory
pub on-both : {A B : Type 0} (r : Result A B) (P Q : Type 0) → OnOk r P → OnOk r Q → OnOk r (P × Q)
on-both (Ok a) P Q p q = (p, q)
on-both (Err b) P Q p q = tt

module _ {F : Type 0} (Says : F → BrokenLink → Option (CowStr × CowStr) → F → Type 0) where
  -- some questions, and then some more
  pub answered-on : (xs ys : List Exchange) (a b c : F) → Answered Says xs a b → Answered Says ys b c → Answered Says (xs ++ ys) a c
  answered-on [] ys a b c h k = subst (λ x. Answered Says ys x c) h k
  answered-on (x ∷ xs) ys a b c h k = (h.0, h.1, answered-on xs ys h.0 b c h.2 k)

  pub asked-on : (old head mid new : F) → HasAsked Says old head → mid ≡ head → HasAsked Says mid new → HasAsked Says old new
  asked-on old head mid new h e k = (h.0 ++ k.0, answered-on h.0 k.0 old head new h.1 (subst (λ x. Answered Says k.0 x new) e k.1))

  pub asked-same : (old head mid : F) → HasAsked Says old head → mid ≡ head → HasAsked Says old mid
  asked-same old head mid h e = (h.0, subst (λ x. Answered Says h.0 old x) (sym e) h.1)

  asked-once : (old head new : F) → HasAsked Says old head → AsksOnce Says head new → HasAsked Says old new
  asked-once old head new h (inl e) = asked-same old head new h e
  asked-once old head new h (inr once) =
      let x : Exchange = record { question = shown_question once.0; answer = option_map shown_answer once.1 } in
      (h.0 ++ x ∷ [], answered-on h.0 (x ∷ []) old head new h.1 (new, record { link = once.0; told = once.1; question_is = refl; answer_is = refl; run = once.2 }, refl))

  -- at most `n` questions are some questions
  pub asked-up-to : (n : ℕ) (before after : F) → AsksUpTo Says n before after → HasAsked Says before after
  asked-up-to zero before after h = ([], h)
  asked-up-to (suc n) before after h = asked-once before h.0 after (asked-up-to n before h.0 h.1) h.2

module _ {E F : Type 0} (replacement : E → Lookup) (reader : Reader) where
  -- the events that are left after the current leaf
  remains-left : (walk : SpanWalk E F) (r : IsReadBy replacement reader walk) (rest : List Exchange) (events : List Ranged) (m : Remains replacement reader walk rest events) → Left reader r.left (expansion_left_of walk) rest m.later
  remains-left walk r rest events m = subst (λ l. Left reader l (expansion_left_of walk) rest m.later) (one-left walk m.read_by.left r.left m.read_by.stands.blocks r.stands.blocks) m.reads

  -- if the walk is in no leaf, the events that are left are those of the other events and leaves
  pub outside-remains : (walk : SpanWalk E F) (r : IsReadBy replacement reader walk) → walk.in_leaf ≡ false → (rest : List Exchange) (events : List Ranged) → Left reader r.left (expansion_left_of walk) rest events → Remains replacement reader walk rest events
  outside-remains walk r out rest events h = record { read_by = r; later = events; reads = h; are = sym (ap (λ b. spans_to_come b walk ++ events) out) }

  pub remains-outside : (walk : SpanWalk E F) (r : IsReadBy replacement reader walk) → walk.in_leaf ≡ false → (rest : List Exchange) (events : List Ranged) → Remains replacement reader walk rest events → Left reader r.left (expansion_left_of walk) rest events
  remains-outside walk r out rest events m = subst (Left reader r.left (expansion_left_of walk) rest) (sym (m.are ∙ ap (λ b. spans_to_come b walk ++ m.later) out)) (remains-left walk r rest events m)

module _ {E F : Type 0} (Says : F → BrokenLink → Option (CowStr × CowStr) → F → Type 0) (replacement : E → Lookup) where
  -- over the turns of a call's loop no event is passed, for each reader
  abbrev pub ReadsOn : (old new : SpanWalk E F) → Type 0
  ReadsOn old new = (reader : Reader) → IsReadBy replacement reader old → Passes Says replacement reader [] old new

  -- if an end is next, the events that were left are still left, for each reader
  abbrev pub KeepsEnd : (old new : SpanWalk E F) → Type 0
  KeepsEnd old new = (reader : Reader) (exchanges : List Exchange) (events : List Ranged) → Remains replacement reader old exchanges events → BeginWithEnd events → Remains replacement reader new exchanges events

  pub record Turns (Ready : F → Type 0) (old walk : SpanWalk E F) : Type 0 where
    pub ready : Ready (callback_of walk)
    pub lasts : Lasts old walk
    pub reads : ReadsOn old walk
    pub ends : KeepsEnd old walk
    pub asked : HasAsked Says (callback_of old) (callback_of walk)

  module _ (reader : Reader) where
    -- no event was passed yet
    pub passes-none : (walk : SpanWalk E F) → IsReadBy replacement reader walk → Passes Says replacement reader [] walk walk
    passes-none walk r = record { taken = []; answered = refl; read_by = r; back = λ rest events m. m }

    -- one step after another
    pub passes-on : (old mid new : SpanWalk E F) (front : List Ranged) → Passes Says replacement reader [] old mid → Passes Says replacement reader front mid new → Passes Says replacement reader front old new
    passes-on old mid new front p q = record {
      taken = p.taken ++ q.taken;
      answered = answered-on Says p.taken q.taken (callback_of old) (callback_of mid) (callback_of new) p.answered q.answered;
      read_by = q.read_by;
      back = λ rest events m. subst (λ xs. Remains replacement reader old xs (front ++ events)) (sym (append_assoc p.taken q.taken rest)) (p.back (q.taken ++ rest) (front ++ events) (q.back rest events m));
    }

    pub ends-on : (old mid new : SpanWalk E F) → Passes Says replacement reader [] old mid → Ends Says replacement reader mid new → Ends Says replacement reader old new
    ends-on old mid new p e = record {
      taken = p.taken ++ e.taken;
      answered = answered-on Says p.taken e.taken (callback_of old) (callback_of mid) (callback_of new) p.answered e.answered;
      none = p.back e.taken [] e.none;
    }

    -- ## In a leaf

    same-events : (walk : SpanWalk E F) (leaf_events : LeafEvents) → ReadsSame replacement reader walk → ReadsSame replacement reader (record walk { events = leaf_events })
    same-events walk leaf_events s = record { source = s.source; options_are = s.options_are; lookup_is = s.lookup_is; definitions = s.definitions; footnotes_are = s.footnotes_are; callback = s.callback }

    -- a call passes some events of the leaf, or none
    pub spanned : (walk : SpanWalk E F) (leaf_events : LeafEvents) (front : List Ranged) (r : IsReadBy replacement reader walk) → walk.in_leaf ≡ true → StandsAt (record walk { events = leaf_events }) r.left
        → events_to_come walk.leaf walk.events ≡ front ++ events_to_come walk.leaf leaf_events → Passes Says replacement reader front walk (record walk { events = leaf_events })
    spanned walk leaf_events front r inside stands first = record { taken = []; answered = refl; read_by = read; back = back }
      where
        new : SpanWalk E F
        new = record walk { events = leaf_events }

        read : IsReadBy replacement reader new
        read = record { left = r.left; stands = stands; placed = r.placed; same = same-events walk leaf_events r.same }

        back : (rest : List Exchange) (events : List Ranged) → Remains replacement reader new rest events → Remains replacement reader walk rest (front ++ events)
        back rest events m = record {
          read_by = r;
          later = m.later;
          reads = remains-left replacement reader new read rest events m;
          are =
              ap (λ l. front ++ l) (m.are ∙ ap (λ b. spans_to_come b new ++ m.later) inside)
              ∙ sym (append_assoc front (events_to_come walk.leaf leaf_events) m.later)
              ∙ ap (λ l. l ++ m.later) (sym first)
              ∙ sym (ap (λ b. spans_to_come b walk ++ m.later) inside);
        }

    -- an event that is not a short one is passed
    pub long-gives : {X : Type 0} (result : Result Given X) (walk : SpanWalk E F) (leaf_events : LeafEvents) (r : IsReadBy replacement reader walk) → walk.in_leaf ≡ true → leaf_events.slots ≡ walk.events.slots → AreOpened (source_of walk) leaf_events.walk.opened.items → OnOk result (AreLeft walk.leaf leaf_events)
        → IfOk result (λ given. GivesLong walk.leaf walk.events given leaf_events)
        → IfOk result (λ given. Gives Says replacement reader walk given (record walk { events = leaf_events }))
    long-gives (Ok given) walk leaf_events r inside slots opened left gives = record {
      range = gives.follows.range;
      passes = spanned walk leaf_events (shown_ranged given ∷ []) r inside (spanned-at walk leaf_events r.left r.stands inside slots opened left) gives.events;
    }
    long-gives (Err x) walk leaf_events r inside slots opened left gives = tt

    -- the start of a link is passed
    pub start-passes : (walk : SpanWalk E F) (leaf_events : LeafEvents) (r : IsReadBy replacement reader walk) → walk.in_leaf ≡ true → StandsAt (record walk { events = leaf_events }) r.left
        → IfSome (starts.link_to_come walk.events) (λ link. IsStartFirst (source_of walk) (opened_of walk) (shown_link link) leaf_events.walk.opened.items (events_to_come walk.leaf walk.events) (events_to_come walk.leaf leaf_events))
        → IfSome (link_to_come walk) (λ link. GivesStart Says replacement reader walk (shown_link link) (record walk { events = leaf_events }))
    start-passes walk leaf_events r inside stands first = subst (λ b. IfSome (link_in b walk) Starts) (sym inside) (go (starts.link_to_come walk.events) first)
      where
        Starts : Link → Type 0
        Starts link = GivesStart Says replacement reader walk (shown_link link) (record walk { events = leaf_events })

        go : (found : Option Link) → IfSome found (λ link. IsStartFirst (source_of walk) (opened_of walk) (shown_link link) leaf_events.walk.opened.items (events_to_come walk.leaf walk.events) (events_to_come walk.leaf leaf_events)) → IfSome found Starts
        go None h = tt
        go (Some link) h = record { given = h.given; is = h.is; range = h.follows.range; passes = spanned walk leaf_events (h.given ∷ []) r inside stands h.first }

    -- the leaf has no more events
    pub closed-passes : (walk : SpanWalk E F) (leaf_events : LeafEvents) (r : IsReadBy replacement reader walk) → walk.in_leaf ≡ true → events_to_come walk.leaf walk.events ≡ []
        → Passes Says replacement reader [] walk (closed walk leaf_events)
    closed-passes walk leaf_events r inside none = record { taken = []; answered = refl; read_by = read; back = back }
      where
        new : SpanWalk E F
        new = closed walk leaf_events

        read : IsReadBy replacement reader new
        read = record {
          left = r.left;
          stands = closed-at walk leaf_events r.left r.stands;
          placed = r.placed;
          same = record { source = r.same.source; options_are = r.same.options_are; lookup_is = r.same.lookup_is; definitions = r.same.definitions; footnotes_are = r.same.footnotes_are; callback = r.same.callback };
        }

        back : (rest : List Exchange) (events : List Ranged) → Remains replacement reader new rest events → Remains replacement reader walk rest events
        back rest events m = record {
          read_by = r;
          later = events;
          reads = remains-outside replacement reader new read refl rest events m;
          are = sym (ap (λ b. spans_to_come b walk ++ events) inside ∙ ap (λ l. l ++ events) none);
        }

    -- ## Outside of a leaf

    module _ (mid : SpanWalk E F) (walk : Walk) (lines : Vec LeafLine) (out : mid.in_leaf ≡ false) (same-text : walking.text_of walk ≡ walking.text_of mid.walk) (known : walking.definitions_of walk ≡ definitions_of mid) where
      pub met-same : (budget : ℕ) → ReadsSame replacement reader mid → ReadsSame replacement reader (met-by mid walk lines out same-text budget)
      met-same budget s = record {
        source = s.source;
        options_are = s.options_are;
        lookup_is = s.lookup_is;
        definitions = λ folded. s.definitions folded ∙ ap (λ (t : RefDefs). option_map said_by (definition t folded)) (sym known);
        footnotes_are = s.footnotes_are;
        callback = s.callback;
      }

      -- the next is an event of a block
      pub event-passes : (budget : ℕ) (e : Ranged) (others : List Segment) (r : IsReadBy replacement reader mid) → r.left ≡ GivenOf e ∷ others → walking.Remains walk others → budget ≡ mid.budget - 1
          → HasRange (source_of mid) e × Passes Says replacement reader (e ∷ []) mid (met-by mid walk lines out same-text budget)
      event-passes budget e others r is remains less =
          let new : SpanWalk E F = met-by mid walk lines out same-text budget in
          let placed : ArePlaced reader (GivenOf e ∷ others) = subst (ArePlaced reader) is r.placed in
          let read : IsReadBy replacement reader new = record { left = others; stands = following-at mid walk lines out same-text budget r.left (GivenOf e) others r.stands is remains less; placed = placed.1; same = met-same budget r.same } in (
            subst (λ t. HasRange t e) r.same.source placed.0,
            record {
              taken = [];
              answered = refl;
              read_by = read;
              back = λ rest events m.
                  outside-remains replacement reader mid r out rest (e ∷ events)
                  (subst (λ l. Left reader l (expansion_left_of mid) rest (e ∷ events)) (sym is) (left-given reader e others (expansion_left_of mid) rest events (remains-outside replacement reader new read out rest events m)));
            },
          )

      -- the next is an event of another kind, which the walk over blocks has not passed
      pub long-passes : (r : IsReadBy replacement reader mid) → walking.Remains walk r.left → Passes Says replacement reader [] mid (met-by mid walk lines out same-text mid.budget)
      long-passes r remains =
          let new : SpanWalk E F = met-by mid walk lines out same-text mid.budget in
          let read : IsReadBy replacement reader new = record { left = r.left; stands = same-at mid walk lines out same-text r.left r.stands remains; placed = r.placed; same = met-same mid.budget r.same } in
          record {
            taken = [];
            answered = refl;
            read_by = read;
            back = λ rest events m. outside-remains replacement reader mid r out rest events (remains-outside replacement reader new read out rest events m);
          }

      -- nothing is left
      pub over-ends : (r : IsReadBy replacement reader mid) → r.left ≡ [] → Ends Says replacement reader mid (met-by mid walk lines out same-text mid.budget)
      over-ends r is = record {
        taken = [];
        answered = refl;
        none = outside-remains replacement reader mid r out [] [] (subst (λ l. Left reader l (expansion_left_of mid) [] []) (sym is) (record { after = record { expansion_left = expansion_left_of mid; asked = [] }; reads = (refl, refl); asked = refl }));
      }

      -- the events of a leaf come before the events that are left after it
      following-leaf : (leaf : Leaf) (others : List Segment) (r : IsReadBy replacement reader mid) → r.left ≡ Content leaf ∷ others → (taken rest : List Exchange) (spans later : List Ranged) (between : Between)
          → ReadsGrammarLeaf reader (IsNext taken) leaf (record { expansion_left = expansion_left_of mid; asked = [] }) spans between → between.asked ≡ taken
          → Left reader others between.expansion_left rest later → Remains replacement reader mid (taken ++ rest) (spans ++ later)
      following-leaf leaf others r is taken rest spans later between h asked left =
          outside-remains replacement reader mid r out (taken ++ rest) (spans ++ later)
          (subst (λ l. Left reader l (expansion_left_of mid) (taken ++ rest) (spans ++ later)) (sym is)
          (left-leaf reader (decide-recorded reader) (decide-shifted reader) leaf others (expansion_left_of mid) taken rest spans later between h asked left))

      -- the walk enters a leaf
      pub leaf-passes : (budget : ℕ) (leaf : Leaf) (others : List Segment) (new : SpanWalk E F) (r : IsReadBy replacement reader mid) → r.left ≡ Content leaf ∷ others → EntersLeaf others new
          → ReadsLeaf Says replacement reader leaf (met-by mid walk lines out same-text budget) new → Passes Says replacement reader [] mid new
      leaf-passes budget leaf others new r is enters reads = record { taken = reads.resolves.asked; answered = reads.resolves.answered; read_by = read; back = back }
        where
          taken : List Exchange
          taken = reads.resolves.asked

          placed : ArePlaced reader (Content leaf ∷ others)
          placed = subst (ArePlaced reader) is r.placed

          read : IsReadBy replacement reader new
          read = record { left = others; stands = enters.stands; placed = placed.1; same = reads.same }

          between : Between
          between = record { expansion_left = expansion_left_of new; asked = taken }

          leaf-read : ReadsGrammarLeaf reader (IsNext taken) leaf (record { expansion_left = expansion_left_of mid; asked = [] }) (events_to_come new.leaf new.events) between
          leaf-read = subst (λ xs. ReadsGrammarLeaf reader (IsNext xs) leaf (record { expansion_left = expansion_left_of mid; asked = [] }) (events_to_come new.leaf new.events) between) (append-nil taken) (reads.resolves.reads [])

          back : (rest : List Exchange) (events : List Ranged) → Remains replacement reader new rest events → Remains replacement reader mid (taken ++ rest) events
          back rest events m =
              subst (Remains replacement reader mid (taken ++ rest)) (sym (m.are ∙ ap (λ b. spans_to_come b new ++ m.later) enters.inside))
              (following-leaf leaf others r is taken rest (events_to_come new.leaf new.events) m.later between leaf-read refl (remains-left replacement reader new read rest events m))

      -- the walk passes a leaf that the grammar reads without a question
      read-passes : (budget : ℕ) (leaf : Leaf) (others : List Segment) (spans : List Ranged) (r : IsReadBy replacement reader mid) → r.left ≡ Content leaf ∷ others → walking.Remains walk others → budget ≡ mid.budget - 1
          → (let between : Between = record { expansion_left = expansion_left_of mid; asked = [] } in ReadsGrammarLeaf reader (IsNext []) leaf between spans between) → Passes Says replacement reader spans mid (met-by mid walk lines out same-text budget)
      read-passes budget leaf others spans r is remains less leaf-read = record { taken = []; answered = refl; read_by = read; back = back }
        where
          new : SpanWalk E F
          new = met-by mid walk lines out same-text budget

          placed : ArePlaced reader (Content leaf ∷ others)
          placed = subst (ArePlaced reader) is r.placed

          read : IsReadBy replacement reader new
          read = record { left = others; stands = following-at mid walk lines out same-text budget r.left (Content leaf) others r.stands is remains less; placed = placed.1; same = met-same budget r.same }

          back : (rest : List Exchange) (events : List Ranged) → Remains replacement reader new rest events → Remains replacement reader mid rest (spans ++ events)
          back rest events m = following-leaf leaf others r is [] rest spans events (record { expansion_left = expansion_left_of mid; asked = [] }) leaf-read refl (remains-outside replacement reader new read out rest events m)

      -- a leaf consists of adjacent lines: its text is in the source
      module _ (budget : ℕ) (leaf : Leaf) (others : List Segment) (text : List ℕ) (start end : ℕ) (r : IsReadBy replacement reader mid) (is : r.left ≡ Content leaf ∷ others) (remains : walking.Remains walk others) (less : budget ≡ mid.budget - 1) (only : IsOnlyLine (source_of mid) lines.items text start end) (are : lines.items ≡ lines_of leaf.stretches) where
        text-is : text ≡ slice reader.source only.line.start only.line.content_end
        text-is = only.is ∙ ap (λ (t : List ℕ). slice t only.line.start only.line.content_end) (sym r.same.source)

        text-within : only.line.content_end ≤ length reader.source
        text-within = subst (λ (t : List ℕ). only.line.content_end ≤ length t) (sym r.same.source) only.part.within

        -- the leaf is one plain text
        pub plain-passes : StandUpTo reader.options reader.lookup leaf.is_cell text 0 (length text)
            → Passes Says replacement reader (record { event = Text text; start = only.line.start; end = only.line.content_end } ∷ []) mid (met-by mid walk lines out same-text budget)
        plain-passes plain =
            let between : Between = record { expansion_left = expansion_left_of mid; asked = [] } in
            let some = only.part.some in
            let whole = stand-whole reader.options reader.lookup leaf.is_cell text plain in
            read-passes budget leaf others (record { event = Text text; start = only.line.start; end = only.line.content_end } ∷ []) r is remains less
            (subst (λ (t : List ℕ). ReadsGrammarLeaf reader (IsNext []) leaf between (record { event = Text t; start = only.line.start; end = only.line.content_end } ∷ []) between) (sym text-is)
            (plain-leaf reader [] leaf between only.line.start only.line.content_end (one-line leaf.stretches only.line (sym are ∙ only.alone)) some text-within (subst (StandWhole reader.options reader.lookup leaf.is_cell) text-is whole)))

        -- the leaf is several plain lines
        pub lines-given : (plain : List (List ℕ)) (last : List ℕ) → ArePlainLines reader.options reader.lookup leaf.is_cell text 0 plain last → GivesLines Says replacement reader mid text (met-by mid walk lines out same-text budget)
        lines-given plain last h =
            let between : Between = record { expansion_left = expansion_left_of mid; asked = [] } in
            record {
              start = only.line.start;
              lines = plain;
              last = last;
              text_is = joined-lines reader.options reader.lookup leaf.is_cell text 0 plain last h;
              some = last-some reader.options reader.lookup leaf.is_cell text 0 plain last h;
              passes =
                  read-passes budget leaf others (line_events only.line.start plain last) r is remains less
                  (plain-lines reader [] leaf between only.line.start only.line.content_end plain last (one-line leaf.stretches only.line (sym are ∙ only.alone)) text-within
                  (subst (λ (t : List ℕ). ArePlainLines reader.options reader.lookup leaf.is_cell t 0 plain last) text-is h));
            }
