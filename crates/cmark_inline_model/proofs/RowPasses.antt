-- Each step of a pass over a leaf preserves the slots of the parts that it has read, and at the end the leaf's events are read from them.
use Rattle.std.specs.Prelude.{drop, take, Some}
use Rattle.std.proofs.Common.{◌≡◌, true, ℕ, zero, suc, ◌-◌, ◌<◌, true≢false, List, [], ◌∷◌, ◌++◌, length, refl, sym, ap, ◌∙◌, subst, arith, append_assoc, append-nil, length-append, rules}
use Rattle.std.proofs.Math.Seq.{drop-append_seam, take-append_seam}
use Rattle.cmark_grammar.specs.BracketDecisions.{decide}
use Rattle.cmark_grammar.specs.BracketReading.{Comes, Reads}
use Rattle.cmark_grammar.specs.BracketStates.{State, moved, opened, StaysText, Forms}
use Rattle.cmark_grammar.specs.Emphasis.{Run, Pair, IsEmphasis}
use Rattle.cmark_grammar.specs.Event.{Ranged}
use Rattle.cmark_grammar.specs.InlineReading.{inline_events}
use Rattle.cmark_grammar.specs.InlineTokens.{token}
use Rattle.cmark_grammar.specs.Items.{ItemKind, Own, Quoted, Delimiters, Autolink, Item, Bracket, Stands, Opens, Closes, Ends}
use Rattle.cmark_grammar.specs.LeafReading.{Between, entering, leaving, ReadsLeaf}
use Rattle.cmark_grammar.specs.LeafText.{Leaf}
use Rattle.cmark_grammar.specs.Parts.{Parts, Nil, Single, Form, Closing, Opening, Formed, Linking, Target, openings}
use Rattle.cmark_grammar.specs.Questions.{Exchange, AnyAnswer, IsNext}
use Rattle.cmark_grammar.specs.Quotes.{Quote, quote_characters}
use Rattle.cmark_grammar.specs.Readers.{Reader}
use Rattle.cmark_grammar.specs.Siblings.{item, quotes_of, tag_by, address_link}
use Rattle.cmark_inline_model.specs.SiblingsModel.{dress, siblings_of, spans_in}
use Rattle.cmark_grammar.specs.Spans.{Spans}
use Rattle.cmark_grammar.specs.Tag.{Link}
use Rattle.cmark_inline_model.specs.BracketPass.{Pass, pass, formed_by, closed_by}
use Rattle.cmark_inline_model.specs.LikeSlots.{IsLike, AreLike}
use Rattle.cmark_inline_model.specs.PartLists.{join, Cut, cut_at}
use Rattle.cmark_inline_model.specs.RowParts.{BracketPlace, text_slot, runs_in, bytes_in, counted, IsRow, CutsRow}
use Rattle.cmark_inline_model.specs.RowPasses.{StandsFor, IsReached, has_own_slot}
use Rattle.cmark_inline_model.specs.SlotRows.{Slot, ItemSlot, BeginSlot, EndSlot, run_slots, run_places, seen, slots_of, LaysOut, marked, marks_by, quoted, slot_events}
use Rattle.cmark_inline_model.proofs.BracketsSound.{joined, results}
use Rattle.cmark_inline_model.proofs.DecisionLaws.{decide-recorded}
use Rattle.cmark_inline_model.proofs.LeafLaws.{leaf-next}
use Rattle.cmark_inline_model.proofs.LikeSlots.{like-quoted, like-marked, like-events}
use Rattle.cmark_inline_model.proofs.RowParts.{row-whole, grown-row, opened-row, cut-row, formed-row, row-dressed, dressed-following}
use Rattle.cmark_inline_model.proofs.SiblingsOne.{spans-sound}
use Rattle.cmark_inline_model.proofs.SlotLaws.{slots-give}

-- ## Slots that are like others, one after the other

module _ (source : List ℕ) where
  like-length : (a b : List Slot) → AreLike source a b → length a ≡ length b
  like-length [] b h = sym (ap length h)
  like-length (s ∷ a) [] h = absurd h
  like-length (s ∷ a) (t ∷ b) h = ap suc (like-length a b h.1)

  pub like-both : (a b c d : List Slot) → AreLike source a b → AreLike source c d → AreLike source (a ++ c) (b ++ d)
  like-both [] b c d h k = subst (λ l. AreLike source c (l ++ d)) (sym h) k
  like-both (s ∷ a) [] c d h k = absurd h
  like-both (s ∷ a) (t ∷ b) c d h k = (h.0, like-both a b c d h.1 k)

  pub like-take : (n : ℕ) (a b c : List Slot) → n ≡ length b → AreLike source a (b ++ c) → AreLike source (take n a) b
  like-take zero a [] c e h = refl
  like-take zero a (t ∷ b) c e h = absurd (omega arith)
  like-take (suc n) a [] c e h = absurd (omega arith)
  like-take (suc n) [] (t ∷ b) c e h = absurd (let z = ap length h in omega arith)
  like-take (suc n) (s ∷ a) (t ∷ b) c e h = (h.0, like-take n a b c (omega arith) h.1)

  pub like-drop : (n : ℕ) (a b c : List Slot) → n ≡ length b → AreLike source a (b ++ c) → AreLike source (drop n a) c
  like-drop zero a [] c e h = h
  like-drop zero a (t ∷ b) c e h = absurd (omega arith)
  like-drop (suc n) a [] c e h = absurd (omega arith)
  like-drop (suc n) [] (t ∷ b) c e h = absurd (let z = ap length h in omega arith)
  like-drop (suc n) (s ∷ a) (t ∷ b) c e h = like-drop n a b c (omega arith) h.1

module _ (reader : Reader) (leaf : Leaf) (before : Between) where
  -- ## The steps
  pub reached-first : IsReached reader leaf before (pass (entering leaf before) Nil) [] [] [] [] [] []
  reached-first = record { reads = refl; row = []; is_row = record { laid = (refl, (refl, refl, refl)); runs_are = refl; quoted_are = refl }; like = refl }

  module _ (p : Pass) (bs : List BracketPlace) (slots : List Slot) (bytes quotes : List ℕ) (runs : List Run) (quoted_are : List Quote) (h : IsReached reader leaf before p bs slots bytes quotes runs quoted_are) where
    many : length slots ≡ length h.row
    many = like-length reader.source slots h.row h.like

    -- parts at the end
    reached-more : (next : State) (piece : Parts) (more : List Slot) (more_bytes more_quotes : List ℕ) → openings piece ≡ 0 → Reads (token reader leaf) (decide reader leaf) AnyAnswer (entering leaf before) (join p.here piece) next
        → StandsFor reader (length slots) piece more more_bytes more_quotes
        → IsReached reader leaf before (pass next (join p.here piece)) bs (slots ++ more) (bytes ++ more_bytes) (quotes ++ more_quotes) (runs ++ runs_in (siblings_of reader.options piece)) (quoted_are ++ quotes_of (siblings_of reader.options piece))
    reached-more next piece more more_bytes more_quotes none reads s = record {
      reads = reads;
      row = h.row ++ s.row;
      is_row = grown-row reader.options bs p.here piece h.row s.row bytes more_bytes quotes more_quotes runs quoted_are h.is_row none (subst (λ n. LaysOut n (siblings_of reader.options piece) s.row more_bytes more_quotes) many s.laid);
      like = like-both reader.source slots h.row more s.row h.like s.like;
    }

    pub reached-item : (x : Item) (resume : ℕ) (more : List Slot) (more_bytes more_quotes : List ℕ) → token reader leaf p.state.at ≡ Stands x resume → StandsFor reader (length slots) (Single x Nil) more more_bytes more_quotes
        → IsReached reader leaf before (pass (moved resume p.state) (join p.here (Single x Nil))) bs (slots ++ more) (bytes ++ more_bytes) (quotes ++ more_quotes) (runs ++ runs_in (siblings_of reader.options (Single x Nil)))
        (quoted_are ++ quotes_of (siblings_of reader.options (Single x Nil)))
    reached-item x resume more more_bytes more_quotes t s = search (rules, reached-more, joined)

    -- an item with one slot
    own_laid : (kind : ItemKind) (start end at : ℕ) → has_own_slot kind ≡ true → LaysOut at (siblings_of reader.options (Single (item kind start end) Nil)) (ItemSlot (item kind start end) ∷ []) [] []
    own_laid kind start end at e = grind arith

    no_run : (kind : ItemKind) (start end : ℕ) → has_own_slot kind ≡ true → runs_in (siblings_of reader.options (Single (item kind start end) Nil)) ≡ []
    no_run (Delimiters run) start end e = absurd (true≢false (sym e))
    no_run kind start end e = refl

    no_quote : (kind : ItemKind) (start end : ℕ) → has_own_slot kind ≡ true → quotes_of (siblings_of reader.options (Single (item kind start end) Nil)) ≡ []
    no_quote (Quoted quote) start end e = absurd (true≢false (sym e))
    no_quote kind start end e = refl

    pub reached-own : (kind : ItemKind) (start end resume : ℕ) (slot : Slot) → token reader leaf p.state.at ≡ Stands (item kind start end) resume → has_own_slot kind ≡ true → IsLike reader.source slot (ItemSlot (item kind start end))
        → IsReached reader leaf before (pass (moved resume p.state) (join p.here (Single (item kind start end) Nil))) bs (slots ++ (slot ∷ [])) bytes quotes runs quoted_are
    reached-own kind start end resume slot t own s =
        let r = reached-item (item kind start end) resume (slot ∷ []) [] [] t (record { row = ItemSlot (item kind start end) ∷ []; laid = own_laid kind start end (length slots) own; like = (s, refl) }) in
        let q = pass (moved resume p.state) (join p.here (Single (item kind start end) Nil)) in
        let l = slots ++ (slot ∷ []) in
        let rs = runs_in (siblings_of reader.options (Single (item kind start end) Nil)) in
        let qs = quotes_of (siblings_of reader.options (Single (item kind start end) Nil)) in
        subst (λ x. IsReached reader leaf before q bs l x quotes runs quoted_are) (append-nil bytes)
        (subst (λ x. IsReached reader leaf before q bs l (bytes ++ []) x runs quoted_are) (append-nil quotes)
        (subst (λ x. IsReached reader leaf before q bs l (bytes ++ []) (quotes ++ []) x quoted_are) (ap (λ y. runs ++ y) (no_run kind start end own) ∙ append-nil runs)
        (subst (λ x. IsReached reader leaf before q bs l (bytes ++ []) (quotes ++ []) (runs ++ rs) x) (ap (λ y. quoted_are ++ y) (no_quote kind start end own) ∙ append-nil quoted_are) r)))

    -- a delimiter run, with a slot for each byte
    pub reached-run : (run : Run) (start end resume : ℕ) (more : List Slot) → token reader leaf p.state.at ≡ Stands (item (Delimiters run) start end) resume → AreLike reader.source more (run_slots start run.run_length [])
        → IsReached reader leaf before (pass (moved resume p.state) (join p.here (Single (item (Delimiters run) start end) Nil))) bs (slots ++ more) (bytes ++ run_places (length slots) run.run_length []) quotes (runs ++ (run ∷ [])) quoted_are
    reached-run run start end resume more t s =
        let x = item (Delimiters run) start end in
        let r = reached-item x resume more (run_places (length slots) run.run_length []) [] t (record { row = run_slots start run.run_length []; laid = ([], [], refl, refl, (refl, refl, refl)); like = s }) in
        let q = pass (moved resume p.state) (join p.here (Single x Nil)) in
        subst (λ y. IsReached reader leaf before q bs (slots ++ more) (bytes ++ run_places (length slots) run.run_length []) y (runs ++ (run ∷ [])) quoted_are) (append-nil quotes)
        (subst (λ y. IsReached reader leaf before q bs (slots ++ more) (bytes ++ run_places (length slots) run.run_length []) (quotes ++ []) (runs ++ (run ∷ [])) y) (append-nil quoted_are) r)

    -- a quote
    pub reached-quote : (quote : Quote) (start end resume : ℕ) (slot : Slot) → token reader leaf p.state.at ≡ Stands (item (Quoted quote) start end) resume → IsLike reader.source slot (ItemSlot (item (Quoted quote) start end))
        → IsReached reader leaf before (pass (moved resume p.state) (join p.here (Single (item (Quoted quote) start end) Nil))) bs (slots ++ (slot ∷ [])) bytes (quotes ++ (length slots ∷ [])) runs (quoted_are ++ (quote ∷ []))
    reached-quote quote start end resume slot t s =
        let x = item (Quoted quote) start end in
        let r = reached-item x resume (slot ∷ []) [] (length slots ∷ []) t (record { row = ItemSlot x ∷ []; laid = ([], [], refl, refl, (refl, refl, refl)); like = (s, refl) }) in
        let q = pass (moved resume p.state) (join p.here (Single x Nil)) in
        subst (λ y. IsReached reader leaf before q bs (slots ++ (slot ∷ [])) y (quotes ++ (length slots ∷ [])) runs (quoted_are ++ (quote ∷ []))) (append-nil bytes)
        (subst (λ y. IsReached reader leaf before q bs (slots ++ (slot ∷ [])) (bytes ++ []) (quotes ++ (length slots ∷ [])) y (quoted_are ++ (quote ∷ []))) (append-nil runs) r)

    -- an autolink, with the slots of its begin, its text and its end
    pub reached-autolink : (uri : List ℕ) (start end resume : ℕ) (slot : Slot) → token reader leaf p.state.at ≡ Stands (item (Autolink uri) start end) resume → IsLike reader.source slot (ItemSlot (item Own (suc start) (end - 1)))
        → IsReached reader leaf before (pass (moved resume p.state) (join p.here (Single (item (Autolink uri) start end) Nil))) bs (slots ++ (BeginSlot (Link (address_link uri)) start end ∷ (slot ∷ (EndSlot ∷ [])))) bytes quotes runs quoted_are
    reached-autolink uri start end resume slot t s =
        let x = item (Autolink uri) start end in
        let more = BeginSlot (Link (address_link uri)) start end ∷ (slot ∷ (EndSlot ∷ [])) in
        let inner = ItemSlot (item Own (suc start) (end - 1)) ∷ [] in
        let r = reached-item x resume more [] [] t
        (record { row = BeginSlot (Link (address_link uri)) start end ∷ (inner ++ (EndSlot ∷ [])); laid = (inner, [], refl, refl, (refl, refl, refl)); like = (refl, (s, (refl, refl))) }) in
        let q = pass (moved resume p.state) (join p.here (Single x Nil)) in
        let l = slots ++ more in
        subst (λ y. IsReached reader leaf before q bs l y quotes runs quoted_are) (append-nil bytes)
        (subst (λ y. IsReached reader leaf before q bs l (bytes ++ []) y runs quoted_are) (append-nil quotes)
        (subst (λ y. IsReached reader leaf before q bs l (bytes ++ []) (quotes ++ []) y quoted_are) (append-nil runs)
        (subst (λ y. IsReached reader leaf before q bs l (bytes ++ []) (quotes ++ []) (runs ++ []) y) (append-nil quoted_are) r)))

    pub reached-opening : (opener : Bracket) (slot : Slot) → token reader leaf p.state.at ≡ Opens opener → IsLike reader.source slot (text_slot opener)
        → IsReached reader leaf before (pass (opened opener p.state) (join p.here (Opening opener Nil))) (record { bracket = opener; slot = length slots; runs = length runs; quotes = length quoted_are } ∷ bs) (slots ++ (slot ∷ [])) bytes quotes runs
        quoted_are
    reached-opening opener slot t s = record {
      reads = joined (token reader leaf) (decide reader leaf) AnyAnswer (entering leaf before) p.here p.state (Opening opener Nil) (opened opener p.state) h.reads (t, refl);
      row = h.row ++ (text_slot opener ∷ []);
      is_row = subst (λ n. IsRow reader.options (record { bracket = opener; slot = n; runs = length runs; quotes = length quoted_are } ∷ bs) (join p.here (Opening opener Nil)) (h.row ++ (text_slot opener ∷ [])) bytes quotes runs quoted_are) (sym many)
          (opened-row reader.options bs p.here opener h.row bytes quotes runs quoted_are h.is_row);
      like = like-both reader.source slots h.row (slot ∷ []) (text_slot opener ∷ []) h.like (s, refl);
    }

    pub reached-closing : (closer : Bracket) (next : State) (slot : Slot) → token reader leaf p.state.at ≡ Closes closer → Comes AnyAnswer p.state.asked (decide reader leaf p.state closer) (record { result = StaysText; after = next })
        → IsLike reader.source slot (text_slot closer) → IsReached reader leaf before (closed_by p closer (record { result = StaysText; after = next })) bs (slots ++ (slot ∷ [])) bytes quotes runs quoted_are
    reached-closing closer next slot t c s =
        let r = reached-more next (Closing closer Nil) (slot ∷ []) [] [] refl (results (token reader leaf) (decide reader leaf) AnyAnswer (entering leaf before) p closer StaysText next t c h.reads)
        (record { row = text_slot closer ∷ []; laid = ([], refl, (refl, refl, refl)); like = (s, refl) }) in
        let q = closed_by p closer (record { result = StaysText; after = next }) in
        let l = slots ++ (slot ∷ []) in
        subst (λ x. IsReached reader leaf before q bs l x quotes runs quoted_are) (append-nil bytes)
        (subst (λ x. IsReached reader leaf before q bs l (bytes ++ []) x runs quoted_are) (append-nil quotes)
        (subst (λ x. IsReached reader leaf before q bs l (bytes ++ []) (quotes ++ []) x quoted_are) (append-nil runs) (subst (λ x. IsReached reader leaf before q bs l (bytes ++ []) (quotes ++ []) (runs ++ []) x) (append-nil quoted_are) r)))

    -- ## What brackets form
    module _ (closer : Bracket) (nearer : ℕ) (formed : Formed) (next : State) (place : BracketPlace) (there : drop nearer bs ≡ place ∷ drop (suc nearer) bs) (t : token reader leaf p.state.at ≡ Closes closer)
        (comes : Comes AnyAnswer p.state.asked (decide reader leaf p.state closer) (record { result = Forms nearer formed; after = next })) where
      pub inside : nearer < length bs
      inside = go nearer bs (ap length there)
        where
          go : (n : ℕ) (l : List BracketPlace) → length (drop n l) ≡ suc (length (drop (suc nearer) bs)) → n < length l
          go zero [] e = absurd (omega arith)
          go zero (b ∷ l) e = omega arith
          go (suc n) [] e = absurd (omega arith)
          go (suc n) (b ∷ l) e = let i = go n l e in omega arith

      pub c : CutsRow reader.options nearer bs p.here h.row bytes quotes runs quoted_are
      c = cut-row reader.options nearer bs p.here h.row bytes quotes runs quoted_are inside h.is_row

      pub place_is : c.place ≡ place
      place_is = grind arith

      abbrev pub count : ℕ
      count = bytes_in (take place.runs runs)

      count_is : length c.front_bytes ≡ count
      count_is = c.bytes_count ∙ ap (λ (b : BracketPlace). bytes_in (take b.runs runs)) place_is

      quotes_count : length c.front_quotes ≡ place.quotes
      quotes_count = c.quotes_count ∙ ap (λ (b : BracketPlace). b.quotes) place_is

      pub slot_is : place.slot ≡ length c.front
      slot_is = ap (λ (b : BracketPlace). b.slot) (sym place_is) ∙ c.slot_is

      front_bytes : c.front_bytes ≡ take count bytes
      front_bytes = sym (ap (take count) c.bytes_are ∙ ap (λ n. take n (c.front_bytes ++ c.after_bytes)) (sym count_is) ∙ take-append_seam c.front_bytes c.after_bytes)

      pub after_bytes : c.after_bytes ≡ drop count bytes
      after_bytes = sym (ap (drop count) c.bytes_are ∙ ap (λ n. drop n (c.front_bytes ++ c.after_bytes)) (sym count_is) ∙ drop-append_seam c.front_bytes c.after_bytes)

      front_quotes : c.front_quotes ≡ take place.quotes quotes
      front_quotes = sym (ap (take place.quotes) c.quotes_are ∙ ap (λ n. take n (c.front_quotes ++ c.after_quotes)) (sym quotes_count) ∙ take-append_seam c.front_quotes c.after_quotes)

      pub after_quotes : c.after_quotes ≡ drop place.quotes quotes
      after_quotes = sym (ap (drop place.quotes) c.quotes_are ∙ ap (λ n. drop n (c.front_quotes ++ c.after_quotes)) (sym quotes_count) ∙ drop-append_seam c.front_quotes c.after_quotes)

      abbrev pub to : Pass
      to = closed_by p closer (record { result = Forms nearer formed; after = next })

      abbrev pub piece : Parts
      piece = Form c.cut.opener c.cut.inside closer formed Nil

      pub to_is : to ≡ pass next (join c.cut.before piece)
      to_is = ap (formed_by p closer formed next) c.cut_is

      abbrev pub others : List BracketPlace
      others = drop (suc nearer) bs

      -- with these slots instead of the opening bracket's and all later ones
      pub reached-piece : (front more row : List Slot) → AreLike reader.source front c.front → AreLike reader.source more row → LaysOut (length c.front) (siblings_of reader.options piece) row [] [] → runs_in (siblings_of reader.options piece) ≡ []
          → quotes_of (siblings_of reader.options piece) ≡ []
          → IsReached reader leaf before to others (front ++ more) (take count bytes) (take place.quotes quotes) (take place.runs runs) (take place.quotes quoted_are)
      reached-piece front more row lf lm laid no_runs no_quotes =
          let r = formed-row reader.options nearer bs p.here piece h.row row bytes quotes runs quoted_are c refl no_runs no_quotes laid in
          record {
            reads = results (token reader leaf) (decide reader leaf) AnyAnswer (entering leaf before) p closer (Forms nearer formed) next t comes h.reads;
            row = c.front ++ row;
            is_row = subst (λ (x : Pass). IsRow reader.options others x.here (c.front ++ row) (take count bytes) (take place.quotes quotes) (take place.runs runs) (take place.quotes quoted_are)) (sym to_is)
                (subst (λ (b : BracketPlace). IsRow reader.options others (join c.cut.before piece) (c.front ++ row) (take count bytes) (take place.quotes quotes) (take b.runs runs) (take b.quotes quoted_are)) place_is
                (subst (λ l. IsRow reader.options others (join c.cut.before piece) (c.front ++ row) l (take place.quotes quotes) (take c.place.runs runs) (take c.place.quotes quoted_are)) front_bytes
                (subst (λ l. IsRow reader.options others (join c.cut.before piece) (c.front ++ row) c.front_bytes l (take c.place.runs runs) (take c.place.quotes quoted_are)) front_quotes r)));
            like = like-both reader.source front c.front more row lf lm;
          }

      -- a construct that has no runs and no quotes of its own, and does not depend on the content of the brackets
      pub reached-formed : (more : List Slot)
          → ((cut : Cut) → cut_at nearer p.here ≡ Some cut → cut.opener ≡ place.bracket → StandsFor reader place.slot (Form cut.opener cut.inside closer formed Nil) more [] [])
          → ((cut : Cut) → (runs_in (siblings_of reader.options (Form cut.opener cut.inside closer formed Nil)) ≡ []) × (quotes_of (siblings_of reader.options (Form cut.opener cut.inside closer formed Nil)) ≡ []))
          → IsReached reader leaf before to others (take place.slot slots ++ more) (take count bytes) (take place.quotes quotes) (take place.runs runs) (take place.quotes quoted_are)
      reached-formed more stands none =
          let s = stands c.cut c.cut_is (sym c.opener_is ∙ ap (λ (b : BracketPlace). b.bracket) place_is) in
          let n = none c.cut in
          reached-piece (take place.slot slots) more s.row
          (like-take reader.source place.slot slots c.front (text_slot c.cut.opener ∷ c.following) slot_is (subst (AreLike reader.source slots) c.slots_are h.like)) s.like
          (subst (λ i. LaysOut i (siblings_of reader.options piece) s.row [] []) slot_is s.laid) n.0 n.1

      -- the slots after the opening bracket, with quotes and emphasis
      abbrev pub dressed_slots : List Pair → List Slot
      dressed_slots pairs =
          marked reader.options (drop (bytes_in (take place.runs runs)) bytes) (marks_by (length (drop (bytes_in (take place.runs runs)) bytes)) pairs)
          (quoted (drop place.quotes quotes) (quote_characters [] (drop place.quotes quoted_are)) slots) []

      pub record DressedLike (pairs : List Pair) : Type 0 where
        pub own : List Slot
        pub front_like : AreLike reader.source (take place.slot (dressed_slots pairs)) c.front
        pub own_like : AreLike reader.source (drop (suc place.slot) (dressed_slots pairs)) own
        pub own_is : seen own ≡ slots_of (dress reader.options (siblings_of reader.options c.cut.inside))

      dressed-like : (pairs : List Pair) (spans : Spans) → IsEmphasis (counted 0 (drop place.runs runs)) pairs spans → DressedLike pairs
      dressed-like pairs spans e =
          let text : List Slot = text_slot c.cut.opener ∷ [] in
          let s = dressed-following reader.options nearer bs p.here h.row bytes quotes runs quoted_are c pairs spans (subst (λ (b : BracketPlace). IsEmphasis (counted 0 (drop b.runs runs)) pairs spans) (sym place_is) e) in
          let made : List Slot → List ℕ → List ℕ → BracketPlace → List Slot = λ l bs qs b. marked reader.options bs (marks_by (length bs) pairs) (quoted qs (quote_characters [] (drop b.quotes quoted_are)) l) [] in
          let same : made h.row (drop count bytes) (drop place.quotes quotes) place ≡ (c.front ++ text) ++ s.own = search (rules, place_is, after_bytes, after_quotes) in
          let like : AreLike reader.source (dressed_slots pairs) (made h.row (drop count bytes) (drop place.quotes quotes) place) = search (rules, like-marked, like-quoted) in
          let cut : AreLike reader.source (dressed_slots pairs) ((c.front ++ text) ++ s.own) = subst (AreLike reader.source (dressed_slots pairs)) same like in
          let l = length-append c.front text in
          record {
            own = s.own;
            front_like = like-take reader.source place.slot (dressed_slots pairs) c.front (text ++ s.own) slot_is (subst (AreLike reader.source (dressed_slots pairs)) (append_assoc c.front text s.own) cut);
            own_like = like-drop reader.source (suc place.slot) (dressed_slots pairs) (c.front ++ text) s.own (let a = slot_is in let q : suc place.slot ≡ length (c.front ++ text) = omega arith in q) cut;
            own_is = s.stand_for;
          }

  -- a link or an image around the content of its brackets
  pub reached-link : (p : Pass) (bs : List BracketPlace) (slots : List Slot) (bytes quotes : List ℕ) (runs : List Run) (quoted_are : List Quote) → (h : IsReached reader leaf before p bs slots bytes quotes runs quoted_are)
      → (closer : Bracket) (nearer : ℕ) (target : Target) (next : State) (place : BracketPlace) (there : drop nearer bs ≡ place ∷ drop (suc nearer) bs) (t : token reader leaf p.state.at ≡ Closes closer)
      → (comes : Comes AnyAnswer p.state.asked (decide reader leaf p.state closer) (record { result = Forms nearer (Linking target); after = next })) (pairs : List Pair) (spans : Spans) → IsEmphasis (counted 0 (drop place.runs runs)) pairs spans
      → IsReached reader leaf before (closed_by p closer (record { result = Forms nearer (Linking target); after = next })) (drop (suc nearer) bs)
      (take place.slot
      (marked reader.options (drop (bytes_in (take place.runs runs)) bytes) (marks_by (length (drop (bytes_in (take place.runs runs)) bytes)) pairs) (quoted (drop place.quotes quotes) (quote_characters [] (drop place.quotes quoted_are)) slots) [])
      ++ (BeginSlot (tag_by place.bracket.is_image target.linked) place.bracket.start target.end
      ∷ (drop (suc place.slot)
      (marked reader.options (drop (bytes_in (take place.runs runs)) bytes) (marks_by (length (drop (bytes_in (take place.runs runs)) bytes)) pairs) (quoted (drop place.quotes quotes) (quote_characters [] (drop place.quotes quoted_are)) slots) [])
      ++ (EndSlot ∷ []))))
      (take (bytes_in (take place.runs runs)) bytes) (take place.quotes quotes) (take place.runs runs) (take place.quotes quoted_are)
  reached-link p bs slots bytes quotes runs quoted_are h closer nearer target next place there t comes pairs spans e =
      let x = dressed-like p bs slots bytes quotes runs quoted_are h closer nearer (Linking target) next place there t comes pairs spans e in
      let cut_row = c p bs slots bytes quotes runs quoted_are h closer nearer (Linking target) next place there t comes in
      let all = dressed_slots p bs slots bytes quotes runs quoted_are h closer nearer (Linking target) next place there t comes pairs in
      let opener : place.bracket ≡ cut_row.cut.opener = ap (λ (b : BracketPlace). b.bracket) (sym (place_is p bs slots bytes quotes runs quoted_are h closer nearer (Linking target) next place there t comes)) ∙ cut_row.opener_is in
      let begin : Bracket → Slot = λ b. BeginSlot (tag_by b.is_image target.linked) b.start target.end in
      reached-piece p bs slots bytes quotes runs quoted_are h closer nearer (Linking target) next place there t comes (take place.slot all) (begin place.bracket ∷ (drop (suc place.slot) all ++ (EndSlot ∷ [])))
      (begin cut_row.cut.opener ∷ (x.own ++ (EndSlot ∷ []))) x.front_like
      (ap begin (sym opener), like-both reader.source (drop (suc place.slot) all) x.own (EndSlot ∷ []) (EndSlot ∷ []) x.own_like (refl, refl))
      (x.own, [], x.own_is, refl, (refl, refl, refl)) refl refl

  -- ## The end
  pub reached-end : (p : Pass) (bs : List BracketPlace) (slots : List Slot) (bytes quotes : List ℕ) (runs : List Run) (quoted_are : List Quote) → IsReached reader leaf before p bs slots bytes quotes runs quoted_are → token reader leaf p.state.at ≡ Ends
      → (pairs : List Pair) (spans : Spans) → IsEmphasis (counted 0 runs) pairs spans → (all rest : List Exchange) → all ≡ p.state.asked ++ rest
      → ReadsLeaf reader (IsNext all) leaf before (slot_events reader.source (marked reader.options bytes (marks_by (length bytes) pairs) (quoted quotes (quote_characters [] quoted_are) slots) []) []) (leaving p.state)
  reached-end p bs slots bytes quotes runs quoted_are h t pairs spans e all rest a =
      leaf-next reader leaf (decide-recorded reader leaf) AnyAnswer before (leaving p.state) events all rest a
      (record {
        parts = p.here;
        last = p.state;
        spans = spans_in reader.options p.here;
        reads = record { reads = h.reads; ends = t };
        are = spans-sound reader.options p.here;
        events_are = events_are;
        after_is = refl;
      })
    where
      now : List Slot → List Slot
      now l = marked reader.options bytes (marks_by (length bytes) pairs) (quoted quotes (quote_characters [] quoted_are) l) []

      events : List Ranged
      events = slot_events reader.source (now slots) []

      events_are : slot_events reader.source (now slots) [] ≡ inline_events reader.source (spans_in reader.options p.here)
      events_are =
          let s = row-dressed reader.options (siblings_of reader.options p.here) [] h.row h.row bytes quotes runs quoted_are refl (row-whole reader.options bs p.here h.row bytes quotes h.is_row.laid) h.is_row.runs_are h.is_row.quoted_are pairs spans e in
          like-events reader.source (now slots) (now h.row) []
          (like-marked reader.source reader.options bytes (marks_by (length bytes) pairs) (quoted quotes (quote_characters [] quoted_are) slots) (quoted quotes (quote_characters [] quoted_are) h.row) []
          (like-quoted reader.source quotes (quote_characters [] quoted_are) slots h.row h.like))
          ∙ ap (λ l. slot_events reader.source l []) (s.cut ∙ sym (append-nil s.own))
          ∙ slots-give reader.source (spans_in reader.options p.here) s.own [] [] s.stand_for
          ∙ append-nil (inline_events reader.source (spans_in reader.options p.here))
