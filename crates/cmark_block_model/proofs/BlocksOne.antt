-- Lines are the blocks of one structure: each that they are is the model's.
use Rattle.std.proofs.Common.{◌≡◌, ◌⊎◌, inl, inr, ⊎_elim, ℕ, zero, suc, ◌<◌, ◌≤◌, Bool, true, false, ◌&&◌, List, [], ◌∷◌, ◌++◌, length, refl, sym, ap, ◌∙◌, subst, arith, append_assoc, append-nil, Option, Some, None, true≢false}
use Rattle.cmark_grammar.specs.Rows.{Row, rows, lazy_row, show_as, shown}
use Rattle.cmark_grammar.specs.Leaves.{underlines}
use Rattle.cmark_grammar.specs.Containers.{Container, is_alert, unless_tag, enter, keeps, strip, strips, is_bare_start, bare_after, insides}
use Rattle.cmark_grammar.specs.Openings.{Leaf, Blank, Nests, Takes, opens_at, texts, lazily}
use Rattle.cmark_grammar.specs.Blocks.{Blocks, Nil, BlankLine, Paragraph, SetextHeading, LeafBlock, ContainerBlock, join, after_leaf, after_container, place_in, ends_lazily, AreText, Next, IsNoText, AreLazy, Ends, Body}
use Rattle.cmark_block_model.specs.BlocksModel.{Open, Between, AfterTag, InParagraph, InLeaf, InContainer, close, takes_lazy, within, inside_begun, begin_as, begin_in, begin_at, begin, place_after, kept_or, feed, feed_all, blocks}
use Rattle.cmark_block_model.proofs.BlockLaws.{at-lazy, at-len, underlines-lazy, at-enter, keeps-lazy, strip_lazy, lazy-same, texts-lazy}
use Rattle.cmark_block_model.proofs.BlocksSound.{join_assoc, join-Nil, place_after-join, shown-shown, bare_false, bare_push, is_both, within_row, Holds, close_ends, feed_holds, AreWhole, rows-whole}
use Rattle.cmark_grammar.specs.Options.{Options}
use Rattle.cmark_grammar.specs.Places.{Place, Apart, AfterLazy, AfterTitle, allows_lazy, over_blank}

module _ (options : Options) where
  -- with more lines to come, the open block grows into these blocks
  pub record GoesOnParagraph (closed : Blocks) (first : Row) (had more : List Row) (all : Blocks) : Type 0 where
    pub tail : List Row
    pub rest : List Row
    pub after : Blocks
    pub split : more ≡ tail ++ rest
    pub is : all ≡ join closed (Paragraph first (had ++ tail) after)
    pub others : AreText options tail rest
    pub stops : Next (IsNoText options) rest
    pub body : Body options AfterTitle rest after

  pub record GoesOnHeading (closed : Blocks) (first : Row) (had more : List Row) (all : Blocks) : Type 0 where
    pub tail : List Row
    pub underline : Row
    pub rest : List Row
    pub level : ℕ
    pub after : Blocks
    pub split : more ≡ tail ++ (underline ∷ rest)
    pub is : all ≡ join closed (SetextHeading level first (had ++ tail) underline after)
    pub others : AreText options tail (underline ∷ rest)
    pub underlined : underlines underline ≡ Some level
    pub body : Body options Apart rest after

  pub record GoesOnLeaf (closed : Blocks) (leaf : Leaf) (first : Row) (had : List Row) (left : ℕ) (more : List Row) (all : Blocks) : Type 0 where
    pub tail : List Row
    pub rest : List Row
    pub after : Blocks
    pub split : more ≡ tail ++ rest
    pub count : length tail ≡ left
    pub is : all ≡ join closed (LeafBlock leaf first (had ++ tail) after)
    pub whole : (AreWhole options) tail
    pub body : Body options (after_leaf leaf) rest after

  pub record GoesOnContainer (Inside : List Row → Blocks → Type 0) (closed : Blocks) (k : Container) (first : Row) (had more : List Row) (all : Blocks) : Type 0 where
    pub tail : List Row
    pub rest : List Row
    pub inside : Blocks
    pub after : Blocks
    pub split : more ≡ tail ++ rest
    pub is : all ≡ join closed (ContainerBlock k first (had ++ tail) inside after)
    pub contents : Inside (strips k (bare_after (is_bare_start k first) had) tail) inside
    pub others : AreLazy options k (bare_after (is_bare_start k first) had) tail rest
    pub stops : Ends options k (bare_after (bare_after (is_bare_start k first) had) tail) inside rest
    pub body : Body options (after_container k) rest after

  pub record GoesOnBetween (closed : Blocks) (more : List Row) (all : Blocks) : Type 0 where
    pub after : Blocks
    pub is : all ≡ join closed after
    pub past : allows_lazy (place_after Apart closed) ≡ false
    pub body : Body options (place_after Apart closed) more after

  abbrev pub Extends : Open → List Row → Blocks → Type 0
  Extends (Between closed) more all = GoesOnBetween closed more all
  Extends AfterTag more all = Body options AfterLazy more all
  Extends (InParagraph closed first had) more all = GoesOnParagraph closed first had more all ⊎ GoesOnHeading closed first had more all
  Extends (InLeaf closed leaf first had left) more all = GoesOnLeaf closed leaf first had left more all
  Extends (InContainer closed k first had inside) more all = GoesOnContainer (λ ls bs. Extends inside ls bs) closed k first had more all

  -- the lines ahead inside a container
  within_shown : (k : Container) (b : Bool) (ls : List Row) → within k b (shown ls) ≡ shown (strips k b ls)
  within_shown k b [] = refl
  within_shown k b (r ∷ ls) = within_row options k b r (shown ls) ∙ ap (show_as (strip k b r).lazy (strip k b r)) (within_shown k false ls)

  -- and up to the container's end
  within_tail : (k : Container) (inside : Blocks) (bare : Bool) (tail rest : List Row) → Ends options k (bare_after bare tail) inside rest → within k bare (shown (tail ++ rest)) ≡ shown (strips k bare tail)
  within_tail k inside bare tail rest stops = within_shown k bare (tail ++ rest) ∙ up_to bare tail rest stops
    where
      up_to : (b : Bool) (t q : List Row) → Ends options k (bare_after b t) inside q → shown (strips k b (t ++ q)) ≡ shown (strips k b t)
      up_to b [] [] s = refl
      up_to b [] (q ∷ qs) s = ap (λ z. show_as z (strip k b q) (shown (strips k false qs))) (ap (λ s. s.lazy) (strip_lazy options k b q s.0))
      up_to b (r ∷ t) q s = ap (show_as (strip k b r).lazy (strip k b r)) (up_to false t q (subst (λ z. Ends options k z inside q) (sym (bare_false options t)) s))

  -- if all taken lines are shown, they lack no prefix
  all_whole : (took rest : List Row) → length took ≤ length (shown (took ++ rest)) → (AreWhole options) took
  all_whole [] rest le = tt
  all_whole (q ∷ took) rest le = go q.lazy refl le (λ l. all_whole took rest l)
    where
      go : (z : Bool) → q.lazy ≡ z → length (q ∷ took) ≤ length (show_as z q (shown (took ++ rest))) → (length took ≤ length (shown (took ++ rest)) → (AreWhole options) took) → (q.lazy ≡ false) × (AreWhole options) took
      go true e le ih = absurd (omega arith)
      go false e le ih = (e, ih (omega arith))

  -- the first line of a body is lazy only if it begins a paragraph directly after a leaf that allows it
  body_lazy : (following : Place) (r : Row) (more : List Row) (all : Blocks) → Body options following (r ∷ more) all → r.lazy ≡ true → (allows_lazy following ≡ true) × (texts options r [] ≡ true)
  body_lazy following r more Nil b lazy = cc
  body_lazy following r more (BlankLine line after) b lazy = grind (arith, at-lazy)
  body_lazy following r more (Paragraph first took after) b lazy = grind arith
  body_lazy following r more (SetextHeading level first took underline after) b lazy = grind arith
  body_lazy following r more (LeafBlock leaf first took after) b lazy = grind (arith, at-lazy)
  body_lazy following r more (ContainerBlock k first took inside after) b lazy = grind (arith, at-lazy)

  body_whole : (following : Place) (r : Row) (more : List Row) (all : Blocks) → allows_lazy following ≡ false → Body options following (r ∷ more) all → r.lazy ≡ false
  body_whole following r more all none b = grind (arith, body_lazy)

  -- a body without lines has no blocks
  body_none : (following : Place) (all : Blocks) → Body options following [] all → all ≡ Nil
  body_none following Nil b = refl
  body_none following (BlankLine line after) b = absurd (let c = b.cut in cc)
  body_none following (Paragraph first more after) b = absurd (let c : [] ≡ first ∷ (more ++ b.rest) = b.cut in cc)
  body_none following (SetextHeading level first more underline after) b = absurd (let c : [] ≡ first ∷ (more ++ (underline ∷ b.rest)) = b.cut in cc)
  body_none following (LeafBlock leaf first more after) b = absurd (let c : [] ≡ first ∷ (more ++ b.rest) = b.cut in cc)
  body_none following (ContainerBlock k first more inside after) b = absurd (let c : [] ≡ first ∷ (more ++ b.rest) = b.cut in cc)

  nothing_of : (tail rest : List Row) → [] ≡ tail ++ rest → (tail ≡ []) × (rest ≡ [])
  nothing_of [] rest e = (refl, sym e)
  nothing_of (t ∷ tail) rest e = absurd (let q : [] ≡ t ∷ (tail ++ rest) = e in cc)

  next_of : (r : Row) (more tail rest : List Row) → r ∷ more ≡ tail ++ rest → ((tail ≡ []) × (rest ≡ r ∷ more)) ⊎ ((t : List Row) × (tail ≡ r ∷ t) × (more ≡ t ++ rest))
  next_of r more [] rest e = inl (refl, sym e)
  next_of r more (s ∷ t) rest e = let same : s ≡ r = cc in inr (t, ap (λ x. x ∷ t) same, cc)

  -- if no line is left, the blocks are the model's
  extends_close : (o : Open) (all : Blocks) → Extends o [] all → all ≡ close o
  extends_close AfterTag all h = body_none AfterLazy all h
  extends_close (Between closed) all h = h.is ∙ ap (join closed) (body_none (place_after Apart closed) h.after h.body) ∙ join-Nil options closed
  extends_close (InParagraph closed first had) all (inl h) = grind (arith, nothing_of, append-nil, body_none)
  extends_close (InParagraph closed first had) all (inr h) =
      absurd (let s = nothing_of h.tail (h.underline ∷ h.rest) h.split in let q : h.underline ∷ h.rest ≡ [] = s.1 in cc)
  extends_close (InLeaf closed leaf first had left) all h = grind (arith, nothing_of, append-nil, body_none)
  extends_close (InContainer closed k first had inside) all h =
      let s = nothing_of h.tail h.rest h.split in
      h.is
      ∙ ap (λ t. join closed (ContainerBlock k first (had ++ t) h.inside h.after)) s.0
      ∙ ap (λ t. join closed (ContainerBlock k first t h.inside h.after)) (append-nil had)
      ∙ ap (λ i. join closed (ContainerBlock k first had i h.after)) (extends_close inside h.inside (subst (λ t. Extends inside (strips k (bare_after (is_bare_start k first) had) t) h.inside) s.0 h.contents))
      ∙ ap (λ a. join closed (ContainerBlock k first had (close inside) a)) (body_none (after_container k) h.after (subst (λ l. Body options (after_container k) l h.after) s.1 h.body))

  over_blank-lazy : (place : Place) → allows_lazy (over_blank place) ≡ false
  over_blank-lazy place = grind arith

  following-strict : (k : Container) → allows_lazy (after_container k) ≡ false
  following-strict k = grind arith

  inside_extends : (k : Container) (o : Open) (first : Row) (more : List Row) (inside : Blocks) → (Body options (place_in k) (first ∷ more) inside → Extends o more inside) → Body options (place_in k) (unless_tag (is_alert k) first more) inside → Extends (inside_begun (is_alert k) o) more inside
  inside_extends k o first more inside h body = grind arith

  -- the open block after the opening of a line grows into these blocks
  begin_extends : (n : ℕ) (closed : Blocks) (following : Place) (r : Row) (more : List Row) (all : Blocks) → length r.columns < n → over_blank following ≡ over_blank (place_after Apart closed) → Body options following (r ∷ more) all → Extends (begin_in options n following closed r (shown more)) more (join closed all)
  begin_extends zero closed following r more all lt stands b = absurd (omega arith)
  begin_extends (suc n) closed following r more all lt stands b =
      goes all b (λ k took inside body opened. begin_extends n Nil (place_in k) (enter k r) took inside (let l : length (enter k r).columns < length r.columns = at-enter options following k r (shown more) opened in omega arith) (starts k) body)
    where
      starts : (k : Container) → over_blank (place_in k) ≡ Apart
      starts k = grind arith

      goes : (all : Blocks) → Body options following (r ∷ more) all → ((k : Container) (took : List Row) (inside : Blocks) → Body options (place_in k) (enter k r ∷ took) inside → opens_at options following r (shown more) ≡ Nests k → Extends (begin_in options n (place_in k) Nil (enter k r) (shown took)) took inside) → Extends (begin_as (opens_at options following r (shown more)) (λ k. begin_in options n (place_in k) Nil (enter k r) (within k (is_bare_start k r) (shown more))) closed r) more (join closed all)
      goes Nil b ih = absurd (let c : r ∷ more ≡ [] = b in cc)
      goes (BlankLine line after) b ih =
          let e : line ≡ r = let c = b.cut in cc in
          let m : more ≡ b.rest = let c = b.cut in cc in
          let o : opens_at options following r (shown more) ≡ Blank = subst (λ s. opens_at options following s (shown more) ≡ Blank) e (ap (λ l. opens_at options following line (shown l)) m ∙ b.opened) in
          rw o (record { after = after; is = ap (λ s. join closed (BlankLine s after)) e ∙ sym (join_assoc options closed (BlankLine r Nil) after); past = ap allows_lazy (place_after-join options Apart closed (BlankLine r Nil)) ∙ over_blank-lazy (place_after Apart closed); body = subst (λ z. Body options z more after) (stands ∙ sym (place_after-join options Apart closed (BlankLine r Nil))) (subst (λ l. Body options (over_blank following) l after) (sym m) b.after) })
      goes (Paragraph first took after) b ih = grind arith
      goes (SetextHeading level first took underline after) b ih = grind arith
      goes (LeafBlock leaf first took after) b ih =
          let e : first ≡ r = let c = b.cut in cc in
          let m : more ≡ took ++ b.rest = let c = b.cut in cc in
          let o : opens_at options following r (shown more) ≡ Takes leaf (length took) = subst (λ s. opens_at options following s (shown more) ≡ Takes leaf (length took)) e (ap (λ l. opens_at options following first (shown l)) m ∙ b.opened) in
          rw o (record { tail = took; rest = b.rest; after = after; split = m; count = refl; is = ap (λ s. join closed (LeafBlock leaf s took after)) e; whole = all_whole took b.rest (at-len options following first (shown (took ++ b.rest)) leaf (length took) b.opened); body = b.after })
      goes (ContainerBlock k first took inside after) b ih = grind (arith, within_tail, inside_extends)

  begin_at_all : (closed : Blocks) (following : Place) (r : Row) (more : List Row) (after : Blocks) → over_blank following ≡ over_blank (place_after Apart closed) → Body options following (r ∷ more) after → Extends (begin_at options following closed r (shown more)) more (join closed after)
  begin_at_all closed following r more after stands b = begin_extends (suc (length r.columns)) closed following r more after (omega arith) stands b

  begin_all : (closed : Blocks) (following : Place) (r : Row) (more : List Row) (after : Blocks) → place_after Apart closed ≡ following → Body options following (r ∷ more) after → Extends (begin options closed r (shown more)) more (join closed after)
  unfolding begin
  begin_all closed following r more after is b =
      subst (λ z. Extends (begin_at options z closed r (shown more)) more (join closed after)) (sym is) (begin_at_all closed following r more after (ap over_blank (sym is)) b)

  -- a lazy line comes only if the open block takes one
  lazy_suits : (o : Open) (r : Row) (more : List Row) (all : Blocks) → r.lazy ≡ true → Extends o (r ∷ more) all → (texts options r [] ≡ true) × (takes_lazy o ≡ true)
  lazy_suits (Between closed) r more all lazy h = absurd (true≢false (sym lazy ∙ body_whole (place_after Apart closed) r more h.after h.past h.body))
  lazy_suits AfterTag r more all lazy h = ((body_lazy AfterLazy r more all h lazy).1, refl)
  lazy_suits (InParagraph closed first had) r more all lazy (inl h) = grind (arith, body_whole, texts-lazy, next_of)
  lazy_suits (InParagraph closed first had) r more all lazy (inr h) = grind (arith, underlines-lazy, texts-lazy, next_of)
  lazy_suits (InLeaf closed leaf first had left) r more all lazy h = grind (arith, body_lazy, next_of)
  lazy_suits (InContainer closed k first had inside) r more all lazy h =
      ⊎_elim
      (λ e. absurd (true≢false (sym lazy ∙ body_whole (after_container k) r more h.after (following-strict k) (subst (λ l. Body options (after_container k) l h.after) e.1 h.body))))
      (λ e.
      let p = lazy_suits inside (lazy_row r) (strips k false e.0) h.inside refl (subst (λ q. Extends inside (q ∷ strips k false e.0) h.inside) (strip_lazy options k (bare_after (is_bare_start k first) had) r (keeps-lazy options k (bare_after (is_bare_start k first) had) r lazy)) (subst (λ l. Extends inside (strips k (bare_after (is_bare_start k first) had) l) h.inside) e.1 h.contents)) in
      (subst (λ q. texts options q [] ≡ true) (lazy-same options r lazy) p.0, p.1))
      (next_of r more h.tail h.rest h.split)

  -- another line
  step : (so : Place) (before : List Row) (o : Open) (r : Row) (more : List Row) (all : Blocks) (ahead : List Row) → Holds options so before o ahead → Extends o (r ∷ more) all → Extends (feed options o r (shown more)) more all
  step so before (Between closed) r more all ahead holds h =
      subst (Extends (begin options closed r (shown more)) more) (sym h.is) (begin_all closed (place_after Apart closed) r more h.after refl h.body)
  step so before AfterTag r more all ahead holds h = begin_at_all Nil AfterLazy r more all refl h
  step so before (InParagraph closed first had) r more all ahead holds (inl h) = ⊎_elim off on (next_of r more h.tail h.rest h.split)
    where
      off : (h.tail ≡ []) × (h.rest ≡ r ∷ more) → Extends (feed options (InParagraph closed first had) r (shown more)) more all
      off e = grind (arith, is, begin_all, place_after-join)
        where
          is : all ≡ join (join closed (Paragraph first had Nil)) h.after
          is = cc (append-nil had, join_assoc options closed (Paragraph first had Nil) h.after)

      on : (t : List Row) × (h.tail ≡ r ∷ t) × (more ≡ t ++ h.rest) → Extends (feed options (InParagraph closed first had) r (shown more)) more all
      on e = grind (arith, append_assoc)
  step so before (InParagraph closed first had) r more all ahead holds (inr h) = ⊎_elim under on (next_of r more h.tail (h.underline ∷ h.rest) h.split)
    where
      under : (h.tail ≡ []) × (h.underline ∷ h.rest ≡ r ∷ more) → Extends (feed options (InParagraph closed first had) r (shown more)) more all
      under e = grind (arith, place_after-join, append-nil, join_assoc)

      on : (t : List Row) × (h.tail ≡ r ∷ t) × (more ≡ t ++ (h.underline ∷ h.rest)) → Extends (feed options (InParagraph closed first had) r (shown more)) more all
      on e = grind (arith, append_assoc)
  step so before (InLeaf closed leaf first had zero) r more all ahead holds h = grind (arith, none_left, is, begin_all, place_after-join)
    where
      none_left : (t : List Row) → length t ≡ 0 → t ≡ []
      none_left [] e = refl
      none_left (q ∷ t) e = absurd (let z : 0 < length (q ∷ t) = omega arith in omega arith)

      is : h.tail ≡ [] → all ≡ join (join closed (LeafBlock leaf first had Nil)) h.after
      is e = cc (append-nil had, join_assoc options closed (LeafBlock leaf first had Nil) h.after)
  step so before (InLeaf closed leaf first had (suc left)) r more all ahead holds h =
      ⊎_elim
      (λ e. absurd (let z : length h.tail ≡ 0 = ap length e.0 in let y : length h.tail ≡ suc left = h.count in omega arith))
      (λ e. record {
        tail = e.0;
        rest = h.rest;
        after = h.after;
        split = e.2;
        count = let z : length h.tail ≡ length (r ∷ e.0) = ap length e.1 in let y : length h.tail ≡ suc left = h.count in omega arith;
        is = h.is ∙ ap (λ t. join closed (LeafBlock leaf first (had ++ t) h.after)) e.1 ∙ ap (λ t. join closed (LeafBlock leaf first t h.after)) (sym (append_assoc had (r ∷ []) e.0));
        whole = let w : (AreWhole options) (r ∷ e.0) = subst (AreWhole options) e.1 h.whole in w.1;
        body = h.body;
      })
      (next_of r more h.tail h.rest h.split)
  step so before (InContainer closed k first had inside) r more all ahead holds h =
      ⊎_elim off
      (λ e. on e (step (place_in k) (insides k first had) inside (strip k bare r) (strips k false e.0) h.inside (within k bare ahead) holds.1 (subst (λ l. Extends inside (strips k bare l) h.inside) e.1 h.contents)))
      (next_of r more h.tail h.rest h.split)
    where
      bare : Bool
      bare = bare_after (is_bare_start k first) had

      block : Blocks
      block = ContainerBlock k first had (close inside) Nil

      off : (h.tail ≡ []) × (h.rest ≡ r ∷ more) → Extends (feed options (InContainer closed k first had inside) r (shown more)) more all
      off e = go (keeps k bare r) stops.0 (lazily options k r (shown more) && takes_lazy inside) refl (λ z. stops.1 (ap (ends_lazily (allows_lazy (place_in k))) same ∙ close_ends options (place_in k) (insides k first had) inside (within k bare ahead) holds.1 ∙ z))
        where
          stops : Ends options k bare h.inside (r ∷ more)
          stops = subst (λ l. Ends options k bare h.inside l) e.1 (subst (λ t. Ends options k (bare_after bare t) h.inside h.rest) e.0 h.stops)

          same : h.inside ≡ close inside
          same = extends_close inside h.inside (subst (λ t. Extends inside (strips k bare t) h.inside) e.0 h.contents)

          is : all ≡ join (join closed block) h.after
          is = grind (arith, append-nil, same, join_assoc, block)

          begun : Extends (begin options (join closed block) r (shown more)) more all
          begun = subst (Extends (begin options (join closed block) r (shown more)) more) (sym is) (begin_all (join closed block) (after_container k) r more h.after (place_after-join options Apart closed block) (subst (λ l. Body options (after_container k) l h.after) e.1 h.body))

          go : (o : Option Row) → o ≡ None → (l : Bool) → (lazily options k r (shown more) && takes_lazy inside) ≡ l → (takes_lazy inside ≡ true → lazily options k r (shown more) ≡ false) → Extends (kept_or o l (InContainer closed k first (had ++ r ∷ []) (feed options inside (strip k bare r) (within k false (shown more)))) (begin options (join closed block) r (shown more))) more all
          go o e l el np = grind (arith, is_both, begun)

      on : (e : (t : List Row) × (h.tail ≡ r ∷ t) × (more ≡ t ++ h.rest)) → Extends (feed options inside (strip k bare r) (shown (strips k false e.0))) (strips k false e.0) h.inside → Extends (feed options (InContainer closed k first had inside) r (shown more)) more all
      on e ih = go (keeps k bare r) refl (lazily options k r (shown more) && takes_lazy inside) refl
        where
          stops : Ends options k (bare_after false e.0) h.inside h.rest
          stops = subst (λ z. Ends options k z h.inside h.rest) (sym (bare_false options e.0)) (subst (λ t. Ends options k (bare_after bare t) h.inside h.rest) e.1 h.stops)

          same : within k false (shown more) ≡ shown (strips k false e.0)
          same = ap (λ l. within k false (shown l)) e.2 ∙ within_tail k h.inside false e.0 h.rest stops

          others : AreLazy options k bare (r ∷ e.0) h.rest
          others = subst (λ l. AreLazy options k bare l h.rest) e.1 h.others

          goes_on : Extends (InContainer closed k first (had ++ r ∷ []) (feed options inside (strip k bare r) (within k false (shown more)))) more all
          goes_on = grind (arith, append_assoc, bare, same, others, stops, bare_push)

          suits : keeps k bare r ≡ None → (lazily options k r (shown more) ≡ true) × (takes_lazy inside ≡ true)
          suits lacks = grind (arith, lazy_suits, strip_lazy, bare)

          go : (o : Option Row) → keeps k bare r ≡ o → (l : Bool) → (lazily options k r (shown more) && takes_lazy inside) ≡ l → Extends (kept_or o l (InContainer closed k first (had ++ r ∷ []) (feed options inside (strip k bare r) (within k false (shown more)))) (begin options (join closed block) r (shown more))) more all
          go o e l el = grind (arith, goes_on, suits)

  all_steps : (before more : List Row) (o : Open) (all : Blocks) → (AreWhole options) more → Holds options Apart before o (shown more) → Extends o more all → Extends (feed_all options o more) [] all
  all_steps before [] o all whole holds h = h
  all_steps before (r ∷ more) o all whole holds h =
      all_steps (before ++ r ∷ []) more (feed options o r (shown more)) all whole.1 (feed_holds options Apart before o r (shown more) (inl whole.0) (shown-shown options [] more) holds) (step Apart before o r more all (shown (r ∷ more)) holds h)

  -- the one structure of a text's blocks
  pub blocks-only : (text : List ℕ) (all : Blocks) → Body options Apart (rows text) all → all ≡ blocks options text
  unfolding blocks
  blocks-only text all body =
      extends_close (feed_all options (Between Nil) (rows text)) all
      (all_steps [] (rows text) (Between Nil) all (rows-whole options text) (record { follows = λ rest after e body. body; ended = refl }) (record { after = all; is = refl; past = refl; body = body }))
