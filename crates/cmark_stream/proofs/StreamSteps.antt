-- A text that grows.
use Rattle.std.proofs.Common.{◌≡◌, ◌≢◌, ℕ, zero, suc, ◌≤◌, Bool, true, false, List, [], ◌∷◌, ◌++◌, true≢false, None, Some, Result, Ok, Err, length, refl, sym, ap, ◌∙◌, subst, append_assoc, append-nil, arith, length-append}
use Rattle.std.proofs.lemmas.Str.{IsCharBoundary-start, IsUtf8-string_bytes}
use Rattle.arrayvec.specs.ArrayVec.{ArrayVec}
use Rattle.std.specs.Prelude.{◌↔◌, IfOk, IsTrue, IsCharBoundary, IsUtf8, OnErr, OnOk, if◌then◌else◌, is_ok, string_bytes}
use Rattle.std.specs.declared.alloc.AllocError.{AllocError}
use Rattle.std.specs.Global.{Global}
use Rattle.std.specs.declared.string.String.{String}
use Rattle.cmark_grammar.specs.Answers.{Lookup}
use Rattle.cmark_grammar.specs.Headline.{IsHtmlWithin}
use Rattle.cmark_parser.proofs.RenderSteps.{as_they_are}
use Rattle.cmark_parser.specs.Rendering.{IsHtmlBy}
use Rattle.cmark_safe.specs.SafeHtml.{IsSafe}
use Rattle.cmark_stream.specs.Chunks.{BeginsCharacter, IsCutInto, IsNeverUtf8}
use Rattle.cmark_stream.specs.Rests.{IsShownUpTo, kept_at}
use Rattle.cmark_stream.specs.Streams.{Appended, Appends, IsRest, IsShown, IsStream, KeepsHtml, KeepsText, Refreshed, Refreshes, Tells, Unchanged, begun_of, bytes_of, filter_for, filter_of, lookup_of, options_of, profile_of, schemes_of, settled_of, tail_of, text_of}
use Rattle.cmark_stream.specs.declared.fault.StreamFault.{StreamFault}
use Rattle.cmark_stream.specs.declared.fault.StreamFault.TheVariants.{NoMemory, NotUtf8}
use Rattle.cmark_stream.specs.declared.rest.Rest.{Rest}
use Rattle.cmark_stream.specs.declared.stream.Change.{Change}
use Rattle.cmark_stream.specs.declared.stream.Change.TheVariants.{Grown}
use Rattle.cmark_stream.specs.declared.stream.Stream.{Stream}
use Rattle.cmark_stream.proofs.CutCharacters.{never-after, nothing-begins}
use Rattle.cmark_stream.proofs.RestSteps.{shown-grown, starts-shown}
use Rattle.cmark_stream.proofs.SafeWriting.{written-safely}

-- ## A chunk

module _ {E : Type 0} (replacement : E → Lookup) (old : Stream E) where
  -- the text grew
  stream-grown : (text : String Global) (more : List ℕ) → IsUtf8 more → string_bytes text ≡ text_of old ++ more → IsStream replacement old → IsStream replacement (record old { text = text })
  stream-grown text more utf8 e h = record {
    shown = subst (λ b. IsShownUpTo (profile_of replacement old) (filter_of old) b old.cut (settled_of old)) (sym e)
        (shown-grown (profile_of replacement old) (filter_of old) (text_of old) more old.cut (settled_of old) utf8 h.shown);
    opened = h.opened;
    unread = let size = ap length e in let unread = h.unread in omega (arith, size, unread, length-append (text_of old) more);
    begun = h.begun;
  }

  stream-pushed : (is_ok : Bool) (text : String Global) (more : List ℕ) → IsUtf8 more → string_bytes text ≡ (if is_ok then text_of old ++ more else text_of old) → IsStream replacement old → IsStream replacement (record old { text = text })
  stream-pushed true text more utf8 e h = stream-grown text more utf8 e h
  stream-pushed false text more utf8 e h = stream-grown text [] ([], (refl, refl)) (e ∙ sym (append-nil (text_of old))) h

  -- nothing but the text and what is kept of a character differs
  kept-html : (text : String Global) (begun : ArrayVec ℕ) → IsStream replacement (record old { text = text; begun = begun }) → KeepsHtml replacement old (record old { text = text; begun = begun })
  kept-html text begun good = record { settled = refl; tail = refl; options = refl; entities = refl; limit = refl; schemes = refl; cut = refl; read = refl; good = good }

  -- a chunk was appended, or memory for it was refused
  pub html-kept : (is_ok : Bool) (text : String Global) (more : List ℕ) → IsUtf8 more → string_bytes text ≡ (if is_ok then text_of old ++ more else text_of old) → IsStream replacement old → KeepsHtml replacement old (record old { text = text })
  html-kept is_ok text more utf8 e h = kept-html text old.begun (stream-pushed is_ok text more utf8 e h)

  -- the whole characters of some bytes were appended
  pub bytes-appended : (bytes piece : List ℕ) (text : String Global) (begun : ArrayVec ℕ) → IsCutInto bytes piece begun.items → string_bytes text ≡ text_of old ++ piece → IsStream replacement old
      → Appended replacement old bytes (record old { text = text; begun = begun })
  bytes-appended bytes piece text begun cut e h =
      let grown = stream-grown text piece cut.utf8 e h in
      record {
        joined = ap (λ l. l ++ begun.items) e ∙ append_assoc (text_of old) piece begun.items ∙ ap (λ l. text_of old ++ l) (sym cut.joined);
        keeps = kept-html text begun (record { shown = grown.shown; opened = grown.opened; unread = grown.unread; begun = cut.begins });
      }

  -- a fault before anything changed
  pub unchanged-by-fault : IsStream replacement old → Unchanged replacement old old
  unchanged-by-fault h = record { text = refl; begun = refl; keeps = record { settled = refl; tail = refl; options = refl; entities = refl; limit = refl; schemes = refl; cut = refl; read = refl; good = h } }

  -- ## The clauses of bytes that were pushed

  module _ (chunk bytes : List ℕ) (all : bytes ≡ begun_of old ++ chunk) (new : Stream E) where
    pub bytes-joined : (result : Result (Unit {0}) StreamFault) → Appends replacement bytes old result new → OnOk result (bytes_of new ≡ bytes_of old ++ chunk)
    bytes-joined (Ok done) h = h.joined ∙ ap (λ l. text_of old ++ l) all ∙ sym (append_assoc (text_of old) (begun_of old) chunk)
    bytes-joined (Err e) h = tt

    pub bytes-never : (result : Result (Unit {0}) StreamFault) → Appends replacement bytes old result new → result ≡ Err NotUtf8 → IsNeverUtf8 (bytes_of old ++ chunk)
    bytes-never (Ok done) h e = absurd (no-fault e)
      where
        no-fault : Ok done ≡ Err NotUtf8 → ⊥
        no-fault f = cc
    bytes-never (Err NoMemory) h e = absurd (no-memory e)
      where
        no-memory : (let r : Result (Unit {0}) StreamFault = Err NoMemory in r) ≡ Err NotUtf8 → ⊥
        no-memory f = cc
    bytes-never (Err NotUtf8) h e =
        subst IsNeverUtf8 (ap (λ l. text_of old ++ l) all ∙ sym (append_assoc (text_of old) (begun_of old) chunk))
        (never-after (text_of old) bytes (IsUtf8-string_bytes old.text) h.0)

    pub bytes-keep : (result : Result (Unit {0}) StreamFault) → Appends replacement bytes old result new → KeepsHtml replacement old new
    bytes-keep (Ok done) h = h.keeps
    bytes-keep (Err NoMemory) h = h.keeps
    bytes-keep (Err NotUtf8) h = h.1.keeps

    pub bytes-same-text : (result : Result (Unit {0}) StreamFault) → Appends replacement bytes old result new → OnErr result (text_of new ≡ text_of old)
    bytes-same-text (Ok done) h = tt
    bytes-same-text (Err NoMemory) h = h.text
    bytes-same-text (Err NotUtf8) h = h.1.text

    pub bytes-same-begun : (result : Result (Unit {0}) StreamFault) → Appends replacement bytes old result new → OnErr result (begun_of new ≡ begun_of old)
    bytes-same-begun (Ok done) h = tt
    bytes-same-begun (Err NoMemory) h = h.begun
    bytes-same-begun (Err NotUtf8) h = h.1.begun

pub pushed : {T E : Type 0} (r : Result T E) (bytes longer same : List ℕ) → bytes ≡ (if is_ok r then longer else same) → OnOk r (bytes ≡ longer)
pushed (Ok x) bytes longer same e = e
pushed (Err x) bytes longer same e = tt

pub refused : {T E : Type 0} (r : Result T E) (bytes longer same : List ℕ) → bytes ≡ (if is_ok r then longer else same) → OnErr r (bytes ≡ same)
refused (Ok x) bytes longer same e = tt
refused (Err x) bytes longer same e = e

-- no byte is kept
pub none-begun : (b : Bool) (begun : List ℕ) → (IsTrue b ↔ (begun ≢ [])) → b ≡ false → begun ≡ []
none-begun b [] h e = refl
none-begun b (x ∷ xs) h e = absurd (true≢false (sym (h.1 (λ f. cons-nil f)) ∙ e))
  where
    cons-nil : (x ∷ xs) ≡ [] → ⊥
    cons-nil f = cc

-- bytes after none
pub after-none : (begun chunk : List ℕ) → begun ≡ [] → chunk ≡ begun ++ chunk
after-none begun chunk none = ap (λ l. l ++ chunk) (sym none)

-- ## The steps of a refresh

module _ {E : Type 0} (replacement : E → Lookup) (s : Stream E) where
  -- the empty text
  pub begun : text_of s ≡ [] → begun_of s ≡ [] → settled_of s ≡ [] → s.cut ≡ 0 → s.read ≡ 0 → IsStream replacement s
  begun no_text no_begun none cut_is read_is = record {
    shown =
        subst (λ n. IsShownUpTo (profile_of replacement s) (filter_of s) (text_of s) n (settled_of s)) (sym cut_is)
        (subst (IsShownUpTo (profile_of replacement s) (filter_of s) (text_of s) 0) (sym none)
        (starts-shown (profile_of replacement s) (filter_of s) (text_of s) (IsCharBoundary-start (text_of s) (subst IsUtf8 (sym no_text) ([], (refl, refl))))));
    opened = omega (arith, cut_is, read_is);
    unread = omega (arith, read_is);
    begun = subst BeginsCharacter (sym no_begun) nothing-begins;
  }

module _ {E : Type 0} (replacement : E → Lookup) (old : Stream E) (h : IsStream replacement old) where
  module _ (rest : Rest) (r : IsRest replacement old rest) (read : ℕ) (all : read ≡ length (text_of old)) where
    kept-later : rest.cut ≢ 0 → kept_at rest.cut (settled_of old) ≡ settled_of old
    kept-later later = go rest.cut refl
      where
        go : (n : ℕ) → rest.cut ≡ n → kept_at n (settled_of old) ≡ settled_of old
        go zero e = absurd (later e)
        go (suc n) e = refl

    cut-within : rest.cut ≤ read
    cut-within = let within = r.boundary.0 in omega (arith, all, within)

    -- the blocks before a new cut were settled
    pub grown : (settled : String Global) → rest.cut ≢ 0 → string_bytes settled ≡ settled_of old ++ string_bytes rest.settled
        → Refreshed replacement old Grown (record old { settled = settled; tail = rest.tail; cut = rest.cut; read = read })
    grown settled later e = record {
      keeps = record { text = refl; begun = refl; options = refl; entities = refl; limit = refl; schemes = refl };
      shown = subst (IsShown replacement old)
          (ap (λ l. l ++ (string_bytes rest.settled ++ string_bytes rest.tail)) (kept-later later) ∙ sym (append_assoc (settled_of old) (string_bytes rest.settled) (string_bytes rest.tail)) ∙ ap (λ l. l ++ string_bytes rest.tail) (sym e))
          (r.shows (settled_of old) h.shown);
      tells = (string_bytes rest.settled, e);
      read = all;
      good = record {
        shown = subst (IsShownUpTo (profile_of replacement old) (filter_of old) (text_of old) rest.cut) (ap (λ l. l ++ string_bytes rest.settled) (kept-later later) ∙ sym e) (r.settles (settled_of old) h.shown);
        opened = cut-within;
        unread = omega (arith, all);
        begun = h.begun;
      };
    }

    -- all was read anew
    pub begun-anew : (change : Change) (settled : String Global) → rest.cut ≡ 0 → Tells change (settled_of old) [] → string_bytes settled ≡ []
        → Refreshed replacement old change (record old { settled = settled; tail = rest.tail; cut = 0; read = read })
    begun-anew change settled anew tells none = record {
      keeps = record { text = refl; begun = refl; options = refl; entities = refl; limit = refl; schemes = refl };
      shown = subst (λ b. IsShown replacement old (b ++ string_bytes rest.tail)) (sym none) (r.whole anew).1;
      tells = subst (Tells change (settled_of old)) (sym none) tells;
      read = all;
      good = record {
        shown = subst (IsShownUpTo (profile_of replacement old) (filter_of old) (text_of old) 0) (sym none)
            (starts-shown (profile_of replacement old) (filter_of old) (text_of old) (subst (IsCharBoundary (text_of old)) anew r.boundary));
        opened = omega arith;
        unread = omega (arith, all);
        begun = h.begun;
      };
    }

-- ## The clauses of a refresh

module _ {E : Type 0} (replacement : E → Lookup) (old new : Stream E) where
  pub refresh-keeps : (result : Result Change AllocError) → Refreshes replacement old result new → KeepsText old new
  refresh-keeps (Ok change) h = h.keeps
  refresh-keeps (Err e) h = h.text

  pub refresh-good : (result : Result Change AllocError) → Refreshes replacement old result new → IsStream replacement new
  refresh-good (Ok change) h = h.good
  refresh-good (Err e) h = h.html.good

  pub refresh-shows : (result : Result Change AllocError) → Refreshes replacement old result new → OnOk result (IsShown replacement old (settled_of new ++ tail_of new))
  refresh-shows (Ok change) h = h.shown
  refresh-shows (Err e) h = tt

  pub refresh-plain : (result : Result Change AllocError) → Refreshes replacement old result new → schemes_of old ≡ None
      → OnOk result (IsHtmlWithin old.limit (text_of old) (options_of old) (lookup_of replacement old) (settled_of new ++ tail_of new))
  refresh-plain (Ok change) h none =
      as_they_are old.limit (text_of old) (options_of old) (lookup_of replacement old) (settled_of new ++ tail_of new)
      (subst (λ schemes. IsHtmlBy old.limit (filter_for schemes) (text_of old) (options_of old) (lookup_of replacement old) (settled_of new ++ tail_of new)) none h.shown)
  refresh-plain (Err e) h none = tt

  pub refresh-safe : (result : Result Change AllocError) → Refreshes replacement old result new → (schemes : List ℕ) → schemes_of old ≡ Some schemes → OnOk result (IsSafe schemes (settled_of new ++ tail_of new))
  refresh-safe (Ok change) h schemes some =
      let shown = subst (λ schemes. IsHtmlBy old.limit (filter_for schemes) (text_of old) (options_of old) (lookup_of replacement old) (settled_of new ++ tail_of new)) some h.shown in
      written-safely schemes (settled_of new ++ tail_of new) shown.events shown.output_is
  refresh-safe (Err e) h schemes some = tt

  pub refresh-tells : (result : Result Change AllocError) → Refreshes replacement old result new → IfOk result (λ change. Tells change (settled_of old) (settled_of new))
  refresh-tells (Ok change) h = h.tells
  refresh-tells (Err e) h = tt

  pub refresh-read : (result : Result Change AllocError) → Refreshes replacement old result new → OnOk result (new.read ≡ length (text_of new))
  refresh-read (Ok change) h = h.read
  refresh-read (Err e) h = tt

  pub refresh-refused : (result : Result Change AllocError) → Refreshes replacement old result new → OnErr result (KeepsHtml replacement old new)
  refresh-refused (Ok change) h = tt
  refresh-refused (Err e) h = h.html
