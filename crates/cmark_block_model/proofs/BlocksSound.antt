-- The model's blocks are the blocks of the lines: an invariant of the open block, line by line.
use Rattle.std.proofs.Common.{◌≡◌, ◌⊎◌, inl, inr, ⊎_elim, ℕ, zero, suc, ◌+◌, ◌≤◌, ◌<◌, Bool, true, false, ◌&&◌, List, [], ◌∷◌, ◌++◌, length, refl, sym, ap, ◌∙◌, subst, arith, append_assoc, append-nil, Option, Some, None, true≢false, rules}
use Rattle.cmark_grammar.specs.Rows.{Row, rows, rows_from, lazy_row, show_as, shown}
use Rattle.cmark_grammar.specs.Lines.{lines}
use Rattle.cmark_grammar.specs.Leaves.{underlines}
use Rattle.cmark_grammar.specs.Containers.{Container, is_alert, unless_tag, enter, keeps, strip, strips, is_bare_start, bare_after, insides}
use Rattle.cmark_grammar.specs.Openings.{Opening, Blank, Nests, Takes, Plain, opens_at, texts, lazily}
use Rattle.cmark_grammar.specs.Blocks.{Blocks, Nil, BlankLine, Paragraph, SetextHeading, LeafBlock, ContainerBlock, join, after_leaf, after_container, place_in, ends_lazily, IsText, AreText, AreLazy, MayBegin, Body}
use Rattle.cmark_block_model.specs.BlocksModel.{Open, Between, AfterTag, InParagraph, InLeaf, InContainer, close, takes_lazy, within, inside_begun, begin_as, begin_in, begin_at, begin, place_after, underline_or, goes_on_or, kept_or, feed, feed_all, blocks}
use Rattle.cmark_block_model.proofs.BlockLaws.{at-whole, at-len, at-enter, enter-lazy, strip_lazy, strip_whole, strip-still, lazily-texts, texts-lazily, texts_or}
use Rattle.cmark_grammar.specs.Options.{Options}
use Rattle.cmark_grammar.specs.Places.{Place, Apart, AfterLazy, AfterTitle, allows_lazy, over_blank}

module _ (options : Options) where
  pub join_assoc : (a b c : Blocks) → join (join a b) c ≡ join a (join b c)
  join_assoc Nil b c = refl
  join_assoc (BlankLine line after) b c = ap (BlankLine line) (join_assoc after b c)
  join_assoc (Paragraph first more after) b c = ap (Paragraph first more) (join_assoc after b c)
  join_assoc (SetextHeading level first more underline after) b c = ap (SetextHeading level first more underline) (join_assoc after b c)
  join_assoc (LeafBlock leaf first more after) b c = ap (LeafBlock leaf first more) (join_assoc after b c)
  join_assoc (ContainerBlock k first more inside after) b c = ap (ContainerBlock k first more inside) (join_assoc after b c)

  pub join-Nil : (a : Blocks) → join a Nil ≡ a
  join-Nil Nil = refl
  join-Nil (BlankLine line after) = ap (BlankLine line) (join-Nil after)
  join-Nil (Paragraph first more after) = ap (Paragraph first more) (join-Nil after)
  join-Nil (SetextHeading level first more underline after) = ap (SetextHeading level first more underline) (join-Nil after)
  join-Nil (LeafBlock leaf first more after) = ap (LeafBlock leaf first more) (join-Nil after)
  join-Nil (ContainerBlock k first more inside after) = ap (ContainerBlock k first more inside) (join-Nil after)

  pub ends_lazily-join : (so : Bool) (a b : Blocks) → ends_lazily so (join a b) ≡ ends_lazily (ends_lazily so a) b
  ends_lazily-join so Nil b = refl
  ends_lazily-join so (BlankLine line after) b = ends_lazily-join false after b
  ends_lazily-join so (Paragraph first more after) b = ends_lazily-join true after b
  ends_lazily-join so (SetextHeading level first more underline after) b = ends_lazily-join false after b
  ends_lazily-join so (LeafBlock leaf first more after) b = ends_lazily-join (allows_lazy (after_leaf leaf)) after b
  ends_lazily-join so (ContainerBlock k first more inside after) b = ends_lazily-join (ends_lazily (allows_lazy (place_in k)) inside) after b

  pub place_after-join : (place : Place) (a b : Blocks) → place_after place (join a b) ≡ place_after (place_after place a) b
  place_after-join place Nil b = refl
  place_after-join place (BlankLine line after) b = place_after-join (over_blank place) after b
  place_after-join place (Paragraph first more after) b = place_after-join AfterTitle after b
  place_after-join place (SetextHeading level first more underline after) b = place_after-join Apart after b
  place_after-join place (LeafBlock leaf first more after) b = place_after-join (after_leaf leaf) after b
  place_after-join place (ContainerBlock k first more inside after) b = place_after-join (after_container k) after b

  -- the lines ahead that are shown of shown lines
  pub shown-shown : (a b : List Row) → shown (a ++ shown b) ≡ shown (a ++ b)
  shown-shown [] [] = refl
  shown-shown [] (r ∷ b) = go r.lazy refl (shown-shown [] b)
    where
      go : (z : Bool) → r.lazy ≡ z → shown (shown b) ≡ shown b → shown (show_as z r (shown b)) ≡ show_as z r (shown b)
      go true e ih = refl
      go false e ih = ap (λ w. show_as w r (shown (shown b))) e ∙ ap (λ l. r ∷ l) ih
  shown-shown (r ∷ a) b = ap (show_as r.lazy r) (shown-shown a b)

  pub shown_rest : (more : List Row) (r : Row) (rest ahead : List Row) → shown rest ≡ ahead → shown (more ++ show_as r.lazy r ahead) ≡ shown (more ++ r ∷ rest)
  shown_rest more r rest ahead e = ap (λ a. shown (more ++ show_as r.lazy r a)) (sym e) ∙ shown-shown more (r ∷ rest)

  shown_push : (more : List Row) (r : Row) (ahead : List Row) → shown ahead ≡ ahead → shown (more ++ show_as r.lazy r ahead) ≡ shown ((more ++ r ∷ []) ++ ahead)
  shown_push more r ahead e = shown_rest more r ahead ahead e ∙ ap shown (sym (append_assoc more (r ∷ []) ahead))

  same_shown : (more a b : List Row) → shown a ≡ shown b → shown (more ++ a) ≡ shown (more ++ b)
  same_shown more a b e = sym (shown-shown more a) ∙ ap (λ l. shown (more ++ l)) e ∙ shown-shown more b

  shown_row : (r : Row) (rest ahead : List Row) → shown rest ≡ ahead → shown (show_as r.lazy r ahead) ≡ shown (r ∷ rest)
  shown_row r rest ahead e = shown_rest [] r rest ahead e

  AreText-same : (more a b : List Row) → shown a ≡ shown b → AreText options more a → AreText options more b
  AreText-same [] a b e t = tt
  AreText-same (m ∷ more) a b e t = (subst (IsText options m) (same_shown more a b e) t.0, AreText-same more a b e t.1)

  AreText-push : (more : List Row) (r : Row) (ahead : List Row) → shown ahead ≡ ahead → AreText options more (show_as r.lazy r ahead) → IsText options r ahead → AreText options (more ++ r ∷ []) ahead
  AreText-push [] r ahead still t is = (subst (IsText options r) (sym still) is, tt)
  AreText-push (m ∷ more) r ahead still t is = (subst (IsText options m) (shown_push more r ahead still) t.0, AreText-push more r ahead still t.1 is)

  pub bare_false : (ls : List Row) → bare_after false ls ≡ false
  bare_false [] = refl
  bare_false (l ∷ ls) = refl

  pub bare_push : (b : Bool) (more : List Row) (r : Row) → bare_after b (more ++ r ∷ []) ≡ false
  bare_push b [] r = refl
  bare_push b (m ∷ more) r = refl

  AreLazy-same : (k : Container) (b : Bool) (more x y : List Row) → shown x ≡ shown y → AreLazy options k b more x → AreLazy options k b more y
  AreLazy-same k b [] x y e t = tt
  AreLazy-same k b (m ∷ more) x y e t = ((λ lacks. ap (lazily options k m) (sym (same_shown more x y e)) ∙ t.0 lacks), AreLazy-same k false more x y e t.1)

  AreLazy-push : (k : Container) (b : Bool) (more : List Row) (r : Row) (ahead : List Row) → shown ahead ≡ ahead → AreLazy options k b more (show_as r.lazy r ahead) → (keeps k (bare_after b more) r ≡ None → lazily options k r ahead ≡ true) → AreLazy options k b (more ++ r ∷ []) ahead
  AreLazy-push k b [] r ahead still t is = ((λ lacks. ap (lazily options k r) still ∙ is lacks), tt)
  AreLazy-push k b (m ∷ more) r ahead still t is =
      ((λ lacks. ap (lazily options k m) (sym (shown_push more r ahead still)) ∙ t.0 lacks), AreLazy-push k false more r ahead still t.1 (λ lacks. is (subst (λ z. keeps k z r ≡ None) (bare_false more) lacks)))

  -- these lines have these blocks, and any lines with these ahead may follow them
  abbrev pub Follows : (so : Place) → List Row → Blocks → Place → List Row → List Row → Type 0
  Follows so before closed following known ahead =
      (rest : List Row) (after : Blocks) → shown rest ≡ ahead → Body options following (known ++ rest) after → Body options so (before ++ (known ++ rest)) (join closed after)

  pub record IsBetween (so : Place) (all : List Row) (closed : Blocks) (ahead : List Row) : Type 0 where
    pub follows : Follows so all closed (place_after Apart closed) [] ahead
    pub ended : ends_lazily (allows_lazy so) closed ≡ false

  -- a block that is open: its lines so far end all lines so far
  pub record Began (so : Place) (all : List Row) (closed : Blocks) (first : Row) (more ahead : List Row) (opening : Opening) : Type 0 where
    pub before : List Row
    pub following : Place
    pub cut : all ≡ before ++ (first ∷ more)
    pub follows : Follows so before closed following (first ∷ more) ahead
    pub begun : MayBegin options following first
    pub opened : opens_at options following first (shown (more ++ ahead)) ≡ opening

  -- these lines lead to this open block, with these ahead
  abbrev pub Holds : (so : Place) → List Row → Open → List Row → Type 0
  Holds so all (Between closed) ahead = IsBetween so all closed ahead
  Holds so all AfterTag ahead = (so ≡ AfterLazy) × (all ≡ [])
  Holds so all (InParagraph closed first more) ahead = Began so all closed first more ahead Plain × AreText options more ahead
  Holds so all (InLeaf closed leaf first had left) ahead = Began so all closed first had ahead (Takes leaf (length had + left)) × (left ≤ length ahead)
  Holds so all (InContainer closed k first more inside) ahead =
      Began so all closed first more ahead (Nests k) × Holds (place_in k) (insides k first more) inside (within k (bare_after (is_bare_start k first) more) ahead)
      × AreLazy options k (is_bare_start k first) more ahead

  -- the lines end after a block
  ends_with : (so : Place) (all : List Row) (closed : Blocks) (first : Row) (more : List Row) (opening : Opening) (block : Blocks) → (b : Began so all closed first more [] opening) → Body options b.following (first ∷ (more ++ [])) block → Body options so all (join closed block)
  ends_with so all closed first more opening block b body =
      subst (λ ls. Body options so ls (join closed block)) (ap (λ ls. b.before ++ (first ∷ ls)) (append-nil more) ∙ sym b.cut) (b.follows [] block refl body)

  all_left : (n left : ℕ) → left ≤ 0 → n + left ≡ n
  all_left n left le = omega arith

  -- when the lines end, the open block is a body
  pub close_body : (so : Place) (all : List Row) (o : Open) → Holds so all o [] → Body options so all (close o)
  close_body so all (Between closed) h =
      subst (λ ls. Body options so ls closed) (append-nil all) (subst (Body options so (all ++ [])) (join-Nil closed) (h.follows [] Nil refl refl))
  close_body so all AfterTag h = h.1
  close_body so all (InParagraph closed first more) h = search (rules, ends_with)
  close_body so all (InLeaf closed leaf first had left) h = search (rules, ends_with, all_left)
  close_body so all (InContainer closed k first more inside) h =
      ends_with so all closed first more (Nests k) (ContainerBlock k first more (close inside) Nil) h.0
      (record { rest = []; cut = refl; opened = h.0.opened; contents = close_body (place_in k) (insides k first more) inside h.1; others = h.2; stops = tt; after = refl })

  -- the open block determines whether a lazy line may follow
  pub close_ends : (so : Place) (all : List Row) (o : Open) (ahead : List Row) → Holds so all o ahead → ends_lazily (allows_lazy so) (close o) ≡ takes_lazy o
  close_ends so all (Between closed) ahead h = h.ended
  close_ends so all AfterTag ahead h = ap allows_lazy h.0
  close_ends so all (InParagraph closed first more) ahead h = ends_lazily-join (allows_lazy so) closed (Paragraph first more Nil)
  close_ends so all (InLeaf closed leaf first had left) ahead h = ends_lazily-join (allows_lazy so) closed (LeafBlock leaf first had Nil)
  close_ends so all (InContainer closed k first more inside) ahead h =
      ends_lazily-join (allows_lazy so) closed (ContainerBlock k first more (close inside) Nil) ∙ close_ends (place_in k) (insides k first more) inside (within k (bare_after (is_bare_start k first) more) ahead) h.1

  -- another line belongs to the block
  grows : (so : Place) (all : List Row) (closed : Blocks) (first : Row) (more : List Row) (r : Row) (ahead : List Row) (opening : Opening) → shown ahead ≡ ahead → Began so all closed first more (show_as r.lazy r ahead) opening → Began so (all ++ r ∷ []) closed first (more ++ r ∷ []) ahead opening
  grows so all closed first more r ahead opening still b = grind (arith, append_assoc, shown_push)

  -- a line continues after a block that ends before it
  past_block : (so : Place) (all : List Row) (closed : Blocks) (first : Row) (more : List Row) (r : Row) (ahead : List Row) (opening : Opening) (block : Blocks) (following : Place) → (b : Began so all closed first more (show_as r.lazy r ahead) opening) → ((rest : List Row) (after : Blocks) → shown rest ≡ ahead → Body options following (r ∷ rest) after → Body options b.following (first ∷ (more ++ (r ∷ rest))) (join block after)) → Follows so all (join closed block) following (r ∷ []) ahead
  past_block so all closed first more r ahead opening block following b body_of rest after e body = grind (arith, append_assoc, join_assoc)

  -- directly after an alert's tag
  after_tag : (k : Container) (r : Row) (o : Open) (ahead : List Row) → Holds (place_in k) (r ∷ []) o ahead → Holds (place_in k) (unless_tag (is_alert k) r []) (inside_begun (is_alert k) o) ahead
  after_tag k r o ahead h = grind arith

  -- the opening of a line
  begin_in_holds : (so : Place) (n : ℕ) (before : List Row) (closed : Blocks) (following : Place) (r : Row) (ahead : List Row) → length r.columns < n → MayBegin options following r → shown ahead ≡ ahead → over_blank following ≡ over_blank (place_after Apart closed) → Follows so before closed following (r ∷ []) ahead → Holds so (before ++ r ∷ []) (begin_in options n following closed r ahead) ahead
  begin_in_holds so zero before closed following r ahead lt begun still stands follows = absurd (omega arith)
  begin_in_holds so (suc n) before closed following r ahead lt begun still stands follows =
      go (opens_at options following r ahead) refl (λ k e w. begin_in_holds (place_in k) n [] Nil (place_in k) (enter k r) (within k (is_bare_start k r) ahead) (let q : length (enter k r).columns < length r.columns = at-enter options following k r ahead e in omega arith) (inl (enter-lazy options k r ∙ w)) (shown-shown [] (strips k (is_bare_start k r) ahead)) (starts k) (λ rest after e body. body))
    where
      starts : (k : Container) → over_blank (place_in k) ≡ Apart
      starts k = grind arith

      began : (o : Opening) → opens_at options following r ahead ≡ o → Began so (before ++ r ∷ []) closed r [] ahead o
      began o e = record { before = before; following = following; cut = refl; follows = follows; begun = begun; opened = ap (opens_at options following r) still ∙ e }

      blank : over_blank following ≡ place_after Apart (join closed (BlankLine r Nil))
      blank = stands ∙ sym (place_after-join Apart closed (BlankLine r Nil))

      go : (o : Opening) → opens_at options following r ahead ≡ o → ((k : Container) → opens_at options following r ahead ≡ Nests k → r.lazy ≡ false → Holds (place_in k) (enter k r ∷ []) (begin_in options n (place_in k) Nil (enter k r) (within k (is_bare_start k r) ahead)) (within k (is_bare_start k r) ahead)) → Holds so (before ++ r ∷ []) (begin_as o (λ k. begin_in options n (place_in k) Nil (enter k r) (within k (is_bare_start k r) ahead)) closed r) ahead
      go Blank e ih = grind (arith, append_assoc, join_assoc, blank, ends_lazily-join)
      go (Nests k) e ih = grind (arith, at-whole, began, after_tag)
      go (Takes leaf m) e ih = (began (Takes leaf (length {A = Row} [] + m)) (e ∙ ap (Takes leaf) (let z : m ≡ 0 + m = omega arith in z)), at-len options following r ahead leaf m e)
      go Plain e ih = (began Plain e, tt)

  begin_at_holds : (so : Place) (before : List Row) (closed : Blocks) (following : Place) (r : Row) (ahead : List Row) → MayBegin options following r → shown ahead ≡ ahead → over_blank following ≡ over_blank (place_after Apart closed) → Follows so before closed following (r ∷ []) ahead → Holds so (before ++ r ∷ []) (begin_at options following closed r ahead) ahead
  begin_at_holds so before closed following r ahead = begin_in_holds so (suc (length r.columns)) before closed following r ahead (omega arith)

  -- after a block that has ended
  begin_holds : (so : Place) (before : List Row) (closed : Blocks) (following : Place) (r : Row) (ahead : List Row) → MayBegin options following r → shown ahead ≡ ahead → place_after Apart closed ≡ following → Follows so before closed following (r ∷ []) ahead → Holds so (before ++ r ∷ []) (begin options closed r ahead) ahead
  unfolding begin
  begin_holds so before closed following r ahead begun still is follows =
      subst (λ z. Holds so (before ++ r ∷ []) (begin_at options z closed r ahead) ahead) (sym is) (begin_at_holds so before closed following r ahead begun still (ap over_blank (sym is)) follows)

  -- a line lacks no prefix, or continues the open paragraph
  abbrev pub Suits : Open → Row → Type 0
  Suits o r = (r.lazy ≡ false) ⊎ ((texts options (lazy_row r) [] ≡ true) × (takes_lazy o ≡ true))

  -- the lines ahead inside a container, with one further line
  pub within_row : (k : Container) (b : Bool) (r : Row) (ahead : List Row) → within k b (show_as r.lazy r ahead) ≡ show_as (strip k b r).lazy (strip k b r) (within k false ahead)
  within_row k b r ahead = grind (arith, strip-still)

  -- no line is ahead inside a container if the prefix is missing
  within_off : (k : Container) (b : Bool) (r : Row) (ahead : List Row) → keeps k b r ≡ None → within k b (show_as r.lazy r ahead) ≡ []
  within_off k b r ahead ne = within_row k b r ahead ∙ ap (λ z. show_as z (strip k b r) (within k false ahead)) (ap (λ s. s.lazy) (strip_lazy options k b r ne))

  pub strips_push : (k : Container) (b : Bool) (more : List Row) (r : Row) → strips k b (more ++ r ∷ []) ≡ strips k b more ++ strip k (bare_after b more) r ∷ []
  strips_push k b [] r = refl
  strips_push k b (m ∷ more) r = ap (λ ls. strip k b m ∷ ls) (strips_push k false more r ∙ ap (λ z. strips k false more ++ strip k z r ∷ []) (bare_false more))

  unless_push : (is_tag : Bool) (r s : Row) (rs : List Row) → unless_tag is_tag r (rs ++ s ∷ []) ≡ unless_tag is_tag r rs ++ s ∷ []
  unless_push true r s rs = refl
  unless_push false r s rs = refl

  pub insides_push : (k : Container) (first : Row) (more : List Row) (r : Row) → insides k first (more ++ r ∷ []) ≡ insides k first more ++ strip k (bare_after (is_bare_start k first) more) r ∷ []
  insides_push k first more r = grind (arith, strips_push, unless_push)

  pub is_both : (t b : Bool) → (t && b) ≡ true → (t ≡ true) × (b ≡ true)
  is_both true b e = (refl, e)
  is_both false b e = absurd (true≢false (sym e))

  not_both : (t b : Bool) → (t && b) ≡ false → b ≡ true → t ≡ false
  not_both true b e i = absurd (true≢false (sym i ∙ e))
  not_both false b e i = refl

  pub feed_holds : (so : Place) (all : List Row) (o : Open) (r : Row) (ahead : List Row) → Suits o r → shown ahead ≡ ahead → Holds so all o (show_as r.lazy r ahead) → Holds so (all ++ r ∷ []) (feed options o r ahead) ahead
  feed_holds so all (Between closed) r ahead suits still h = grind (arith, begin_holds)
  feed_holds so all AfterTag r ahead suits still h =
      subst (λ ls. Holds so (ls ++ r ∷ []) (begin_at options AfterLazy Nil r ahead) ahead) (sym h.1)
      (begin_at_holds so [] Nil AfterLazy r ahead (begun suits) still refl (λ rest after e body. subst (λ z. Body options z (r ∷ rest) after) (sym h.0) body))
    where
      begun : Suits AfterTag r → MayBegin options AfterLazy r
      begun (inl w) = inl w
      begun (inr p) = ⊎_elim inl (λ t. inr (refl, t)) (texts_or options r [] p.0)
  feed_holds so all (InParagraph closed first more) r ahead suits still h = under (underlines r) refl
    where
      whole : texts options r ahead ≡ false → Suits (InParagraph closed first more) r → r.lazy ≡ false
      whole ne (inl w) = w
      whole ne (inr p) = ⊎_elim (λ w. w) (λ t. absurd (true≢false (sym t ∙ ne))) (texts_or options r ahead p.0)

      opened : (rest : List Row) → shown rest ≡ ahead → opens_at options h.0.following first (shown (more ++ (r ∷ rest))) ≡ Plain
      opened rest e = ap (opens_at options h.0.following first) (sym (shown_rest more r rest ahead e)) ∙ h.0.opened

      others : (rest : List Row) → shown rest ≡ ahead → AreText options more (r ∷ rest)
      others rest e = AreText-same more (show_as r.lazy r ahead) (r ∷ rest) (shown_row r rest ahead e) h.1

      text : underlines r ≡ None → (o : Bool) → texts options r ahead ≡ o → Holds so (all ++ r ∷ []) (goes_on_or o (InParagraph closed first (more ++ r ∷ [])) (begin options (join closed (Paragraph first more Nil)) r ahead)) ahead
      text eu true e = (grows so all closed first more r ahead Plain still h.0, AreText-push more r ahead still h.1 (e, eu))
      text eu false e =
          begin_holds so all (join closed (Paragraph first more Nil)) AfterTitle r ahead (inl (whole e suits)) still (place_after-join Apart closed (Paragraph first more Nil))
          (past_block so all closed first more r ahead Plain (Paragraph first more Nil) AfterTitle h.0 (λ rest after s body. record {
            rest = r ∷ rest;
            cut = refl;
            begun = h.0.begun;
            opened = opened rest s;
            others = others rest s;
            stops = (ap (texts options r) s ∙ e, eu);
            after = body;
          }))

      under : (u : Option ℕ) → underlines r ≡ u → Holds so (all ++ r ∷ []) (underline_or u (λ level. Between (join closed (SetextHeading level first more r Nil))) (goes_on_or (texts options r ahead) (InParagraph closed first (more ++ r ∷ [])) (begin options (join closed (Paragraph first more Nil)) r ahead))) ahead
      under None e = text e (texts options r ahead) refl
      under (Some level) e = grind (arith, ends_lazily-join, append_assoc, join_assoc, opened, others, place_after-join)
  feed_holds so all (InLeaf closed leaf first had zero) r ahead suits still h =
      begin_holds so all (join closed (LeafBlock leaf first had Nil)) (after_leaf leaf) r ahead (begun suits) still (place_after-join Apart closed (LeafBlock leaf first had Nil))
      (past_block so all closed first had r ahead (Takes leaf (length had + 0)) (LeafBlock leaf first had Nil) (after_leaf leaf) h.0 (λ rest after s body. record {
        rest = r ∷ rest;
        cut = refl;
        opened = ap (opens_at options h.0.following first) (sym (shown_rest had r rest ahead s)) ∙ h.0.opened ∙ ap (Takes leaf) (all_left (length had) 0 (omega arith));
        after = body;
      }))
    where
      begun : Suits (InLeaf closed leaf first had zero) r → MayBegin options (after_leaf leaf) r
      begun (inl w) = inl w
      begun (inr p) = ⊎_elim inl (λ t. inr (p.1, t)) (texts_or options r [] p.0)
  feed_holds so all (InLeaf closed leaf first had (suc left)) r ahead suits still h =
      (subst (λ n. Began so (all ++ r ∷ []) closed first (had ++ r ∷ []) ahead (Takes leaf n)) (count had) (grows so all closed first had r ahead (Takes leaf (length had + suc left)) still h.0), come r.lazy h.1)
    where
      count : (ls : List Row) → length ls + suc left ≡ length (ls ++ r ∷ []) + left
      count [] = omega arith
      count (l ∷ ls) = let ih = count ls in omega (arith, ih)

      come : (z : Bool) → suc left ≤ length (show_as z r ahead) → left ≤ length ahead
      come true le = omega arith
      come false le = omega arith
  feed_holds so all (InContainer closed k first more inside) r ahead suits still h =
      go (keeps k bare r) refl (lazily options k r ahead && takes_lazy inside) refl
      (λ s. feed_holds (place_in k) (insides k first more) inside (strip k bare r) (within k false ahead) s (shown-shown [] (strips k false ahead)) (subst (λ a. Holds (place_in k) (insides k first more) inside a) (within_row k bare r ahead) h.1))
    where
      bare : Bool
      bare = bare_after (is_bare_start k first) more

      block : Blocks
      block = ContainerBlock k first more (close inside) Nil

      whole : keeps k bare r ≡ None → (takes_lazy inside ≡ true → lazily options k r ahead ≡ false) → Suits (InContainer closed k first more inside) r → r.lazy ≡ false
      whole nq np h = grind (arith, texts-lazily)

      off : keeps k bare r ≡ None → (takes_lazy inside ≡ true → lazily options k r ahead ≡ false) → Holds so (all ++ r ∷ []) (begin options (join closed block) r ahead) ahead
      off nq np =
          begin_holds so all (join closed block) (after_container k) r ahead (inl (whole nq np suits)) still (place_after-join Apart closed block)
          (past_block so all closed first more r ahead (Nests k) block (after_container k) h.0 (λ rest after s body. record {
            rest = r ∷ rest;
            cut = refl;
            opened = ap (opens_at options h.0.following first) (sym (shown_rest more r rest ahead s)) ∙ h.0.opened;
            contents = close_body (place_in k) (insides k first more) inside (subst (λ a. Holds (place_in k) (insides k first more) inside a) (within_off k bare r ahead nq) h.1);
            others = AreLazy-same k (is_bare_start k first) more (show_as r.lazy r ahead) (r ∷ rest) (shown_row r rest ahead s) h.2;
            stops = (nq, λ ends. ap (lazily options k r) s ∙ np (sym (close_ends (place_in k) (insides k first more) inside (within k bare (show_as r.lazy r ahead)) h.1) ∙ ends));
            after = body;
          }))

      on : (keeps k bare r ≡ None → lazily options k r ahead ≡ true) → Holds (place_in k) (insides k first more ++ strip k bare r ∷ []) (feed options inside (strip k bare r) (within k false ahead)) (within k false ahead) → Holds so (all ++ r ∷ []) (InContainer closed k first (more ++ r ∷ []) (feed options inside (strip k bare r) (within k false ahead))) ahead
      on may i = search (rules, grows, bare, bare_push, insides_push, AreLazy-push)

      -- inside the container the line lacks no prefix, or continues the paragraph
      go : (o : Option Row) → keeps k bare r ≡ o → (l : Bool) → (lazily options k r ahead && takes_lazy inside) ≡ l → (Suits inside (strip k bare r) → Holds (place_in k) (insides k first more ++ strip k bare r ∷ []) (feed options inside (strip k bare r) (within k false ahead)) (within k false ahead)) → Holds so (all ++ r ∷ []) (kept_or o l (InContainer closed k first (more ++ r ∷ []) (feed options inside (strip k bare r) (within k false ahead))) (begin options (join closed block) r ahead)) ahead
      go (Some s) e l el ih = on (λ lacks. absurd (let q : Some s ≡ None = sym e ∙ lacks in cc)) (ih (inl (strip_whole options k bare r s e)))
      go None e true el ih = let p = is_both (lazily options k r ahead) (takes_lazy inside) el in on (λ lacks. p.0) (ih (inr (ap (λ s. texts options (lazy_row s) []) (strip_lazy options k bare r e) ∙ lazily-texts options k r ahead [] p.0, p.1)))
      go None e false el ih = off e (not_both (lazily options k r ahead) (takes_lazy inside) el)

  -- all lines of a text are whole
  abbrev pub AreWhole : List Row → Type 0
  AreWhole [] = Unit {0}
  AreWhole (r ∷ rs) = (r.lazy ≡ false) × AreWhole rs

  pub rows_from-whole : (at : ℕ) (ls : List (List ℕ)) → AreWhole (rows_from at ls)
  rows_from-whole at [] = tt
  rows_from-whole at (l ∷ ls) = (refl, rows_from-whole (at + length l) ls)

  pub rows-whole : (text : List ℕ) → AreWhole (rows text)
  rows-whole text = rows_from-whole 0 (lines text)

  feed_all_holds : (all more : List Row) (o : Open) → AreWhole more → Holds Apart all o (shown more) → Holds Apart (all ++ more) (feed_all options o more) []
  feed_all_holds all [] o whole h = rw append-nil h
  feed_all_holds all (r ∷ more) o whole h =
      subst (λ ls. Holds Apart ls (feed_all options (feed options o r (shown more)) more) []) (append_assoc all (r ∷ []) more)
      (feed_all_holds (all ++ r ∷ []) more (feed options o r (shown more)) whole.1 (feed_holds Apart all o r (shown more) (inl whole.0) (shown-shown [] more) h))

  -- any whole lines have the blocks of the pass over them
  pub lines-body : (rs : List Row) → AreWhole rs → Body options Apart rs (close (feed_all options (Between Nil) rs))
  lines-body rs whole = close_body Apart rs (feed_all options (Between Nil) rs) (feed_all_holds [] rs (Between Nil) whole (record { follows = λ rest after e body. body; ended = refl }))

  pub blocks-body : (text : List ℕ) → Body options Apart (rows text) (blocks options text)
  unfolding blocks
  blocks-body text =
      close_body Apart (rows text) (feed_all options (Between Nil) (rows text))
      (feed_all_holds [] (rows text) (Between Nil) (rows-whole text) (record { follows = λ rest after e body. body; ended = refl }))
