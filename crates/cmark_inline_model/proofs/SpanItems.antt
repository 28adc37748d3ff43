-- What holds of the kind of each item among siblings holds among their spans, and of the events.
use Rattle.std.specs.Prelude.{zero, suc, ◌-◌, ◌==◌, ◌||◌, if◌then◌else◌, get_or, drop}
use Rattle.std.proofs.Common.{◌≡◌, ℕ, ◌+◌, Bool, true, false, List, [], ◌∷◌, ◌++◌, Option, Some, None, refl, sym, subst, ◌∙◌, eqb-true, append_assoc, arith, rules}
use Rattle.cmark_grammar.specs.BracketDecisions.{linked}
use Rattle.cmark_grammar.specs.Emphasis.{emphasis_kinds, tilde_kinds, caret_kinds, equals_kinds, kinds_of}
use Rattle.cmark_inline_model.specs.EmphasisModel.{spans_of}
use Rattle.cmark_grammar.specs.Event.{Start, End, Ranged}
use Rattle.cmark_grammar.specs.Flanking.{is_delimiter_run}
use Rattle.cmark_grammar.specs.InlineReading.{event_of, inline_events, over}
use Rattle.cmark_grammar.specs.Items.{ItemKind, Item}
use Rattle.cmark_grammar.specs.LinkType as link_type
use Rattle.cmark_grammar.specs.Options.{Options}
use Rattle.cmark_grammar.specs.Parts.{Parts, Nil as NoParts, Single as SinglePart, Form, Closing, Opening, Linking, Footnote, Wiki}
use Rattle.cmark_grammar.specs.Questions.{Exchange}
use Rattle.cmark_grammar.specs.Quotes.{quote_characters}
use Rattle.cmark_grammar.specs.Readers.{Reader}
use Rattle.cmark_grammar.specs.Siblings.{Inline, Nil, Single, Around, append, quotes_of, with_characters, with_quotes, element, item_then, tag_by, from_place, display_from, footnote_then}
use Rattle.cmark_inline_model.specs.RunSpans.{run_then, runs_from, run_bytes, bytes_then, put_gap, no_gaps, gaps_of, no_item, dressed}
use Rattle.cmark_inline_model.specs.SiblingsModel.{dress, siblings_of, spans_in}
use Rattle.cmark_grammar.specs.Spans as spans
use Rattle.cmark_grammar.specs.Spans.{SpanKind, SingleTilde, Caret, DoubleEquals, span_tag, span_width, Spans}
use Rattle.cmark_grammar.specs.Tag.{Tag, Linked}
use Rattle.cmark_grammar.specs.TagEnd.{end_of}
use Rattle.cmark_inline_model.specs.FormedParts.{AllFormed}
use Rattle.cmark_inline_model.specs.LinkRules.{IsFormedRightly, LeadsBy}
use Rattle.cmark_inline_model.specs.OptionRules.{IsRead, AllItems, IsLinkGiven, IsTagGiven, IsEndGiven, IsGiven, AreGiven}
use Rattle.cmark_inline_model.proofs.KindViews.{KindView, kind-view}
use Rattle.cmark_inline_model.proofs.SpanElements.{quoted_then, other_then}
use Rattle.cmark_inline_model.proofs.SpanKinds.{AllKinds, AllSpans, OfDelimiter, OfRuns, spans-hold}

some_is : {A : Type 0} {a b : A} → Some a ≡ Some b → a ≡ b
some_is e = cc

or_first : (a b : Bool) → (a || b) ≡ true → b ≡ false → a ≡ true
or_first true b e f = refl
or_first false b e f = sym f ∙ e

module _ (options : Options) where
  -- each item is read, and each element given, with its option
  abbrev pub AreRead : Inline → Type 0
  AreRead Nil = Unit {0}
  AreRead (Single x after) = IsRead options x.kind × AreRead after
  AreRead (Around tag start end inside after) = IsTagGiven options tag × AreRead inside × AreRead after

  abbrev GapsRead : List Inline → Type 0
  GapsRead [] = Unit {0}
  GapsRead (gap ∷ gaps) = AreRead gap × GapsRead gaps

  abbrev ItemsRead : List Item → Type 0
  ItemsRead [] = Unit {0}
  ItemsRead (x ∷ xs) = IsRead options x.kind × ItemsRead xs

  read_append : (a b : Inline) → AreRead a → AreRead b → AreRead (append a b)
  read_append Nil b h k = k
  read_append (Single x after) b h k = (h.0, read_append after b h.1 k)
  read_append (Around tag start end inside after) b h k = (h.0, h.1, read_append after b h.2 k)

  characters_read : (siblings : Inline) (cs : List ℕ) → AreRead siblings → AreRead (with_characters siblings cs)
  characters_read Nil cs h = tt
  characters_read (Around tag start end inside after) cs h = (h.0, h.1, characters_read after cs h.2)
  characters_read (Single x after) cs h = search (rules, kind-view, quoted_then, other_then, characters_read after (drop 1 cs) h.1, characters_read after cs h.1)

  put_read : (put : Inline → Inline) (gaps : List Inline) → ((gap : Inline) → AreRead gap → AreRead (put gap)) → GapsRead gaps → GapsRead (put_gap put gaps)
  put_read put [] keeps h = (keeps Nil tt, tt)
  put_read put (gap ∷ gaps) keeps h = (keeps gap h.0, h.1)

  none_read : (n : ℕ) (gaps : List Inline) → GapsRead gaps → GapsRead (no_gaps n gaps)
  none_read zero gaps h = h
  none_read (suc n) gaps h = (tt, none_read n gaps h)

  gaps_read : (siblings : Inline) → AreRead siblings → GapsRead (gaps_of siblings)
  gaps_read Nil h = (tt, tt)
  gaps_read (Around tag start end inside after) h = put_read (Around tag start end inside) (gaps_of after) (λ gap k. (h.0, h.1, k)) (gaps_read after h.2)
  gaps_read (Single x after) h = grind (arith, kind-view, put_read, none_read, gaps_read after h.1)

  bytes_read : (start size : ℕ) (after : List Item) → ItemsRead after → ItemsRead (bytes_then start size after)
  bytes_read start zero after h = h
  bytes_read start (suc size) after h = (tt, bytes_read (suc start) size after h)

  runs_read : (siblings : Inline) → ItemsRead (run_bytes siblings)
  runs_read Nil = tt
  runs_read (Around tag start end inside after) = runs_read after
  runs_read (Single x after) = grind (arith, kind-view, bytes_read, runs_read after)

  gap_read : (gaps : List Inline) (n : ℕ) → GapsRead gaps → AreRead (get_or gaps n Nil)
  gap_read [] n h = tt
  gap_read (gap ∷ gaps) zero h = h.0
  gap_read (gap ∷ gaps) (suc n) h = gap_read gaps n h.1

  byte_read : (bytes : List Item) (n : ℕ) → ItemsRead bytes → IsRead options (get_or bytes n no_item).kind
  byte_read [] n h = tt
  byte_read (x ∷ bytes) zero h = h.0
  byte_read (x ∷ bytes) (suc n) h = byte_read bytes n h.1

  -- ## Elements of delimiter runs

  -- one tilde is an element with strikethrough or subscript, a caret with superscript, and two equals signs with highlight
  abbrev KindRead : SpanKind → Type 0
  KindRead SingleTilde = (options.strikethrough || options.subscript) ≡ true
  KindRead Caret = options.superscript ≡ true
  KindRead DoubleEquals = options.highlight ≡ true
  KindRead _ = Unit {0}

  tag_read : (kind : SpanKind) (t : Tag) → KindRead kind → span_tag options kind ≡ Some t → IsTagGiven options t
  tag_read kind t h e = grind (arith, some_is, or_first)

  emphasis_kinds_read : (count : ℕ) → AllKinds KindRead (emphasis_kinds count)
  emphasis_kinds_read zero = tt
  emphasis_kinds_read (suc zero) = (tt, tt)
  emphasis_kinds_read (suc (suc count)) = (tt, emphasis_kinds_read count)

  tilde_kinds_read : (options.strikethrough || options.subscript) ≡ true → (count : ℕ) → AllKinds KindRead (tilde_kinds count)
  tilde_kinds_read on zero = tt
  tilde_kinds_read on (suc zero) = (on, tt)
  tilde_kinds_read on (suc (suc count)) = (tt, tilde_kinds_read on count)

  caret_kinds_read : options.superscript ≡ true → (count : ℕ) → AllKinds KindRead (caret_kinds count)
  caret_kinds_read on zero = tt
  caret_kinds_read on (suc count) = (on, caret_kinds_read on count)

  equals_kinds_read : options.highlight ≡ true → (count : ℕ) → AllKinds KindRead (equals_kinds count)
  equals_kinds_read on zero = tt
  equals_kinds_read on (suc zero) = (tt, tt)
  equals_kinds_read on (suc (suc count)) = (on, equals_kinds_read on count)

  tilde_on : (size : ℕ) → is_delimiter_run options 126 size ≡ true → (options.strikethrough || options.subscript) ≡ true
  tilde_on size e = grind arith

  caret_on : (size : ℕ) → is_delimiter_run options 94 size ≡ true → options.superscript ≡ true
  caret_on size e = grind arith

  equals_on : (size : ℕ) → is_delimiter_run options 61 size ≡ true → options.highlight ≡ true
  equals_on size e = grind arith

  delimiter_read : (delimiter size : ℕ) → is_delimiter_run options delimiter size ≡ true → OfDelimiter KindRead delimiter
  unfolding kinds_of
  delimiter_read delimiter size e count = go (delimiter == 126) refl (delimiter == 94) refl (delimiter == 61) refl
    where
      go : (a : Bool) → (delimiter == 126) ≡ a → (b : Bool) → (delimiter == 94) ≡ b → (c : Bool) → (delimiter == 61) ≡ c → AllKinds KindRead (if a then tilde_kinds count else if b then caret_kinds count else if c then equals_kinds count else emphasis_kinds count)
      go true f b g c i = tilde_kinds_read (tilde_on size (subst (λ m. is_delimiter_run options m size ≡ true) (eqb-true delimiter 126 f) e)) count
      go false f true g c i = caret_kinds_read (caret_on size (subst (λ m. is_delimiter_run options m size ≡ true) (eqb-true delimiter 94 g) e)) count
      go false f false g true i = equals_kinds_read (equals_on size (subst (λ m. is_delimiter_run options m size ≡ true) (eqb-true delimiter 61 i) e)) count
      go false f false g false i = emphasis_kinds_read count

  marks_read : (siblings : Inline) (n : ℕ) → AreRead siblings → OfRuns KindRead (runs_from siblings n)
  marks_read Nil n h = tt
  marks_read (Around tag start end inside after) n h = marks_read after n h.2
  marks_read (Single x after) n h = go (λ m. marks_read after m h.1) x.kind h.0 (kind-view x.kind)
    where
      go : ((m : ℕ) → OfRuns KindRead (runs_from after m)) → (kind : ItemKind) → IsRead options kind → KindView kind → OfRuns KindRead (run_then n kind (runs_from after))
      go i kind k h = grind (arith, delimiter_read)

  dressed_read : (gaps : List Inline) (bytes : List Item) (f : Spans) → AllSpans KindRead f → GapsRead gaps → ItemsRead bytes → AreRead (dressed options gaps bytes f)
  dressed_read gaps bytes spans.Nil a h k = tt
  dressed_read gaps bytes (spans.Single at after) a h k =
      (byte_read bytes at k, read_append (get_or gaps (suc at) Nil) (dressed options gaps bytes after) (gap_read gaps (suc at) h) (dressed_read gaps bytes after a h k))
  dressed_read gaps bytes (spans.Around span inside after) a h k =
      go (span_tag options span.kind) refl
      (read_append (get_or gaps (span.start + span_width span.kind) Nil) (dressed options gaps bytes inside) (gap_read gaps (span.start + span_width span.kind) h) (dressed_read gaps bytes inside a.1 h k))
      (read_append (get_or gaps span.end Nil) (dressed options gaps bytes after) (gap_read gaps span.end h) (dressed_read gaps bytes after a.2 h k))
    where
      go : (tag : Option Tag) → span_tag options span.kind ≡ tag → AreRead (append (get_or gaps (span.start + span_width span.kind) Nil) (dressed options gaps bytes inside))
          → AreRead (append (get_or gaps span.end Nil) (dressed options gaps bytes after))
          → AreRead (element tag (get_or bytes span.start no_item).start (get_or bytes (span.end - 1) no_item).end
          (append (get_or gaps (span.start + span_width span.kind) Nil) (dressed options gaps bytes inside)) (append (get_or gaps span.end Nil) (dressed options gaps bytes after)))
      go (Some tag) e i j = (tag_read span.kind tag a.0 e, i, j)
      go None e i j = (tt, j)

  dress_read : (siblings : Inline) → AreRead siblings → AreRead (dress options siblings)
  dress_read siblings h =
      let quoted = with_quotes siblings in
      let characters = characters_read siblings (quote_characters [] (quotes_of siblings)) h in
      let gaps = gaps_read quoted characters in
      let kinds = spans-hold KindRead (runs_from quoted 0) (marks_read quoted 0 characters) in
      read_append (get_or (gaps_of quoted) 0 Nil) (dressed options (gaps_of quoted) (run_bytes quoted) (spans_of (runs_from quoted 0))) (gap_read (gaps_of quoted) 0 gaps)
      (dressed_read (gaps_of quoted) (run_bytes quoted) (spans_of (runs_from quoted 0)) kinds gaps (runs_read quoted))

  item_read : (x : Item) (after : Inline) → IsRead options x.kind → AreRead after → AreRead (item_then x.kind x after)
  item_read x after h k = grind (arith, kind-view)

  from_read : (place : ℕ) (siblings : Inline) → AreRead siblings → AreRead (from_place place siblings)
  from_read place Nil h = tt
  from_read place (Single x after) h = grind (arith, from_read place after h.1)
  from_read place (Around tag start end inside after) h = grind (arith, from_read place after h.2)

  display_read : (place end : ℕ) (siblings : Inline) → AreRead siblings → AreRead (display_from place end siblings)
  display_read place end siblings h = grind (arith, from_read)

  footnote_read : (is_image : Bool) (start : ℕ) (label : List ℕ) (end : ℕ) (others : Inline) → options.footnotes ≡ true → AreRead others → AreRead (footnote_then is_image start label end others)
  footnote_read true start label end others on h = (tt, (on, h))
  footnote_read false start label end others on h = (on, h)

  link_read : (is_image : Bool) (linked : Linked) → IsLinkGiven options linked.link_type → IsTagGiven options (tag_by is_image linked)
  link_read true linked h = tt
  link_read false linked h = h

-- the parts of a leaf
module _ (reader : Reader) (asked : List Exchange) where
  abbrev wiki_linked : (name : List ℕ) → (has_pothole : Bool) → Linked
  wiki_linked name has_pothole = linked (link_type.WikiLink has_pothole) (record { url = name; title = [] }) []

  led_given : (t : link_type.LinkType) (l : Linked) → LeadsBy t reader asked l → IsLinkGiven reader.options t
  led_given link_type.Email l h = h.0
  led_given _ l h = tt

  siblings_read : (parts : Parts) → AllItems (IsRead reader.options) parts → AllFormed (IsFormedRightly reader asked) parts → AreRead reader.options (siblings_of reader.options parts)
  siblings_read NoParts h k = tt
  siblings_read (SinglePart x after) h k = item_read reader.options x (siblings_of reader.options after) h.0 (siblings_read after h.1 k)
  siblings_read (Form opener inside closer (Linking target) after) h k =
      (link_read reader.options opener.is_image target.linked (led_given target.linked.link_type target.linked k.0), dress_read reader.options (siblings_of reader.options inside) (siblings_read inside h.0 k.1), siblings_read after h.1 k.2)
  siblings_read (Form opener inside closer (Footnote label end) after) h k =
      footnote_read reader.options opener.is_image opener.start label end (siblings_of reader.options after) k.0 (siblings_read after h.1 k.2)
  siblings_read (Form opener inside closer (Wiki name None end) after) h k =
      (link_read reader.options opener.is_image (wiki_linked name false) tt, (tt, tt), siblings_read after h.1 k.2)
  siblings_read (Form opener inside closer (Wiki name (Some place) end) after) h k = grind (arith, dress_read, display_read, link_read, siblings_read inside h.0 k.1, siblings_read after h.1 k.2)
  siblings_read (Closing closer after) h k = (tt, siblings_read after h k)
  siblings_read (Opening opener after) h k = (tt, siblings_read after h k)

  pub spans-read : (parts : Parts) → AllItems (IsRead reader.options) parts → AllFormed (IsFormedRightly reader asked) parts → AreRead reader.options (spans_in reader.options parts)
  spans-read parts h k = dress_read reader.options (siblings_of reader.options parts) (siblings_read parts h k)

-- their events
module _ (options : Options) (source : List ℕ) where
  event_given : (x : Item) (kind : ItemKind) → IsRead options kind → IsGiven options (event_of source x kind)
  event_given x kind h = grind arith

  end_given : (tag : Tag) → IsTagGiven options tag → IsEndGiven options (end_of tag)
  end_given tag h = grind arith

  pub events-given : (spans : Inline) (rest : List Ranged) → AreRead options spans → AreGiven options rest → AreGiven options (inline_events source spans ++ rest)
  events-given Nil rest h k = k
  events-given (Single x after) rest h k = (event_given x x.kind h.0, events-given after rest h.1 k)
  events-given (Around tag start end inside after) rest h k =
      let last : Ranged = over source start end (End (end_of tag)) in
      subst (λ es. AreGiven options (over source start end (Start tag) ∷ es)) (sym (append_assoc (inline_events source inside) (last ∷ inline_events source after) rest))
      (h.0, events-given inside (last ∷ (inline_events source after ++ rest)) h.1 (end_given tag h.0, events-given after rest h.2 k))
