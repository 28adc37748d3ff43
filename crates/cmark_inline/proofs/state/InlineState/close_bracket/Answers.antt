use Rattle.std.specs.Prelude.{false, Option, IfSome, is_some}
use Rattle.std.proofs.Common.{rules, arith, ◌≡◌, ◌++◌, ◌∷◌, [], refl, sym, ap, subst, ◌∙◌, inl}
use Rattle.cmark_grammar.specs.BracketDecisions.{decide, is_there}
use Rattle.cmark_leaf_text.specs.Reads.{IsPart, is_cell_of}
use Rattle.cmark_values.specs.Shown.{shown_options}
use Rattle.cmark_inline.specs.Footnoted.{footnote_of, forms_footnote}
use Rattle.cmark_inline.specs.Closers.{AsksOfLink, LinksTaken}
use Rattle.cmark_slots.specs.Slots.{HoldNoLink}
use Rattle.cmark_inline.specs.Stands.{Moves}
use Rattle.cmark_slots.specs.declared.bracket.Bracket.{Bracket}
use Rattle.cmark_inline.specs.declared.state.InlineState.{InlineState}
use Rattle.cmark_inline.specs.declared.step.Cursor.{Cursor}
use Rattle.cmark_slots.specs.declared.slot.SlotKind.TheVariants as kind
use Rattle.cmark_inline.proofs.AsksSteps.{asks-none, links-ask}
use Rattle.cmark_inline.proofs.ClosingReads.{SameRows, puts-one, rows-brackets, rows-doubled, rows-on, rows-same, rows-unlinked, text-reads}
use Rattle.cmark_inline.proofs.CloserMakes.{footnote-closes, inside-up, linked-asks, linked-closes, remembers-on, taken-stage, text-closes, tried-stage, wikilink-closes, IsTriedStage}
use Rattle.cmark_inline.specs.Sound.{IsTakenFrom}
use Rattle.cmark_inline.proofs.Keeping.{keeps-pending, keeps-puts, some-taken}
use Rattle.cmark_slots.specs.Standing.{AreEnded}
use Rattle.cmark_inline.proofs.LastCalls.{ok-by-two, ok-by-three, on-err}
use Rattle.cmark_inline.proofs.UsesCounted.{kept-rise, none-counted}
use Rattle.std.proofs.lemmas.Option.{IfSome_then}
use Rattle.cmark_inline.specs.AtCloser.{CanLink, FormsPair, FormsReference, StandsSound}
use Rattle.cmark_inline.proofs.state.InlineState.close_bracket.Goals as goal

pub returns-in-Some-clause-closes : goal.returns-in-Some-clause-closes
returns-in-Some-clause-closes g c = λ reader read place closer s bs r at shows.
    let o = shown_options c.args.reader.now.options in
    let l = g.E.EntityLookup.replacement c.args.reader.now.entities.now in
    let refs = c.args.reader.now.references.now in
    let notes = c.args.footnotes.now in
    let took : InlineState = c.take_bracket-taken.new.self in
    let new : InlineState = c.wikilink.new.self in
    let i = taken-stage o l refs notes c.args.leaf.now c.args.text.now c.requires.text.same reader read place closer s bs c.args.here.at r at c.args.self.now shows c.flush.new.self took c.take_bracket-taken.result c.in_ok-flush.ensures.others c.take_bracket-taken.ensures.others c.take_bracket-taken.ensures.takes in
    let pair = subst (λ (x : Option Cursor). IfSome x (FormsPair o c.args.leaf.now c.args.text.now c.args.here.at took new)) c.in-Some.is c.in_ok-next.ensures.pair in
    wikilink-closes o l refs notes c.args.leaf.now c.args.text.now c.requires.text.same reader read place closer s bs c.args.here.at r at c.args.self.now shows
    g.F.BrokenLinkCallback.answers c.in-Some.next c.args.footnotes.now new c.args.callback.now c.args.callback.now c.args.here.pending took i.view
    (ap is_some (sym c.in-Some.is) ∙ c.in_ok-next.ensures.forms)
    pair.leaves
    (remembers-on o l refs notes c.args.leaf.now c.args.text.now c.requires.text.same reader read place closer s bs c.args.here.at r at c.args.self.now shows took new i.remembers c.wikilink.ensures.limits.expansion_left c.wikilink.ensures.limits.label_close)
    pair.at (pair.pending ∙ sym pair.at) refl (λ folded. refl)
    c.flush.new.self (record { pushes = c.in_ok-flush.ensures.slots; others = c.in_ok-flush.ensures.others }) (rows-brackets c.flush.new.self took c.take_bracket-taken.ensures.others) c.take_bracket-taken.ensures.sound c.take_bracket-taken.ensures.stands
    pair.writes

pub returns-in-Some-2-clause-closes : goal.returns-in-Some-2-clause-closes
returns-in-Some-2-clause-closes g c = λ reader read place closer s bs r at shows.
    let o = shown_options c.args.reader.now.options in
    let l = g.E.EntityLookup.replacement c.args.reader.now.entities.now in
    let refs = c.args.reader.now.references.now in
    let notes = c.args.footnotes.now in
    let took : InlineState = c.take_bracket-taken.new.self in
    let st : InlineState = c.wikilink.new.self in
    let new : InlineState = c.footnote.new.self in
    let i = taken-stage o l refs notes c.args.leaf.now c.args.text.now c.requires.text.same reader read place closer s bs c.args.here.at r at c.args.self.now shows c.flush.new.self took c.take_bracket-taken.result c.in_ok-flush.ensures.others c.take_bracket-taken.ensures.others c.take_bracket-taken.ensures.takes in
    let j = tried-stage o l refs notes c.args.leaf.now c.args.text.now c.requires.text.same reader read place closer s bs c.args.here.at r at c.args.self.now shows took st c.take_bracket-taken.result i ((c.in_ok-next.ensures.tries c.in_default.is).others) ((c.in_ok-next.ensures.tries c.in_default.is).tried) (ap is_some (sym c.in_default.is) ∙ c.in_ok-next.ensures.forms) in
    let formed = subst (λ (x : Option Cursor). IfSome x (FormsReference c.take_bracket-taken.result (footnote_of o (is_cell_of c.args.leaf.now) (is_there c.args.here.at st.label_close) c.args.text.now c.args.here.at c.take_bracket-taken.result) c.args.here.at st new)) c.in-Some-2.is c.in_ok-next-2.ensures.forms in
    footnote-closes o l refs notes c.args.leaf.now c.args.text.now c.requires.text.same reader read place closer s bs c.args.here.at r at c.args.self.now shows
    g.F.BrokenLinkCallback.answers c.in-Some-2.next c.footnote.new.footnotes new c.args.callback.now c.args.callback.now c.args.here.pending st c.take_bracket-taken.result j.ready j.taken_as j.remembers
    (ap is_some (sym c.in-Some-2.is) ∙ c.in_ok-next-2.ensures.decides.forms)
    (inside-up c.args.text.now c.args.here.at c.take_bracket-taken.result (IfSome_then c.take_bracket-taken.result c.take_bracket-taken.ensures.opening (λ b h. h.bracket)))
    formed.leaves
    (remembers-on o l refs notes c.args.leaf.now c.args.text.now c.requires.text.same reader read place closer s bs c.args.here.at r at c.args.self.now shows st new j.remembers c.footnote.ensures.limits.expansion_left c.footnote.ensures.limits.label_close)
    formed.at (formed.pending ∙ sym formed.at) refl c.in_ok-next-2.ensures.decides.counts formed.keeps j.texts
    c.flush.new.self (record { pushes = c.in_ok-flush.ensures.slots; others = c.in_ok-flush.ensures.others })
    (rows-on c.flush.new.self took st (rows-brackets c.flush.new.self took c.take_bracket-taken.ensures.others) (rows-doubled took st ((c.in_ok-next.ensures.tries c.in_default.is).others)))
    formed.writes

pub returns-in-Some-3-clause-closes : goal.returns-in-Some-3-clause-closes
returns-in-Some-3-clause-closes g c = λ reader read place closer s bs r at shows.
    let o = shown_options c.args.reader.now.options in
    let l = g.E.EntityLookup.replacement c.args.reader.now.entities.now in
    let refs = c.args.reader.now.references.now in
    let notes = c.args.footnotes.now in
    let took : InlineState = c.take_bracket-taken.new.self in
    let st : InlineState = c.wikilink.new.self in
    let i = taken-stage o l refs notes c.args.leaf.now c.args.text.now c.requires.text.same reader read place closer s bs c.args.here.at r at c.args.self.now shows c.flush.new.self took c.take_bracket-taken.result c.in_ok-flush.ensures.others c.take_bracket-taken.ensures.others c.take_bracket-taken.ensures.takes in
    let j = tried-stage o l refs notes c.args.leaf.now c.args.text.now c.requires.text.same reader read place closer s bs c.args.here.at r at c.args.self.now shows took st c.take_bracket-taken.result i ((c.in_ok-next.ensures.tries c.in_default.is).others) ((c.in_ok-next.ensures.tries c.in_default.is).tried) (ap is_some (sym c.in_default.is) ∙ c.in_ok-next.ensures.forms) in
    let same : c.footnote.new.self ≡ st = c.in_ok-next-2.ensures.decides.same c.in_default-2.is in
    let k = subst (λ (x : InlineState). IsTriedStage o l refs notes c.args.leaf.now c.args.text.now c.requires.text.same reader read place closer s bs c.args.here.at r at c.args.self.now shows x c.take_bracket-taken.result) (sym same) j in
    let moves = subst (λ (x : Option Cursor). IfSome x (Moves c.args.text.now c.args.here.at c.link.new.self)) c.in-Some-3.is c.in_ok-next-3.ensures.goes_on.moves in
    linked-closes o l refs notes c.args.leaf.now c.args.text.now c.requires.text.same reader read place closer s bs c.args.here.at r at c.args.self.now shows
    g.F.BrokenLinkCallback.answers c.in-Some-3.next c.footnote.new.footnotes c.link.new.self c.args.callback.now c.link.new.callback c.args.here.pending c.footnote.new.self c.take_bracket-taken.result k.ready k.taken_as k.remembers
    (subst (λ (x : InlineState). false ≡ forms_footnote o notes (footnote_of o (is_cell_of c.args.leaf.now) (is_there c.args.here.at x.label_close) c.args.text.now c.args.here.at c.take_bracket-taken.result)) (sym same) (ap is_some (sym c.in_default-2.is) ∙ c.in_ok-next-2.ensures.decides.forms))
    (subst (λ (x : Option Cursor). LinksTaken g.F.BrokenLinkCallback.answers o l refs c.args.leaf.now c.args.text.now c.take_bracket-taken.result c.args.here.at c.footnote.new.self c.link.new.self x c.args.callback.now c.link.new.callback) c.in-Some-3.is c.in_ok-next-3.ensures.links)
    moves.further moves.cursor.at.0 k.table
    (none-counted o (footnote_of o (is_cell_of c.args.leaf.now) (is_there c.args.here.at st.label_close) c.args.text.now c.args.here.at c.take_bracket-taken.result) notes c.footnote.new.footnotes (ap is_some (sym c.in_default-2.is) ∙ c.in_ok-next-2.ensures.decides.forms) c.in_ok-next-2.ensures.decides.counts)
    c.flush.new.self (record { pushes = c.in_ok-flush.ensures.slots; others = c.in_ok-flush.ensures.others })
    (rows-on c.flush.new.self took c.footnote.new.self (rows-brackets c.flush.new.self took c.take_bracket-taken.ensures.others) (rows-on took st c.footnote.new.self (rows-doubled took st ((c.in_ok-next.ensures.tries c.in_default.is).others)) (rows-same st c.footnote.new.self same)))
    (subst (λ (x : InlineState). IfSome c.take_bracket-taken.result (IsTakenFrom x)) (sym same) (some-taken c.take_bracket-taken.result took st ((c.in_ok-next.ensures.tries c.in_default.is).taken) (IfSome_then c.take_bracket-taken.result c.take_bracket-taken.ensures.opening (λ b h. h.taken))))

pub returns-clause-closes : goal.returns-clause-closes
returns-clause-closes g c = ok-by-three c.put.result _ _ _ _ c.put.ensures.at c.put.ensures.end c.put.ensures.slots (λ next reached ended slots. λ reader read place closer s bs r at shows.
    let o = shown_options c.args.reader.now.options in
    let l = g.E.EntityLookup.replacement c.args.reader.now.entities.now in
    let refs = c.args.reader.now.references.now in
    let notes = c.args.footnotes.now in
    let took : InlineState = c.take_bracket-taken.new.self in
    let st : InlineState = c.wikilink.new.self in
    let i = taken-stage o l refs notes c.args.leaf.now c.args.text.now c.requires.text.same reader read place closer s bs c.args.here.at r at c.args.self.now shows c.flush.new.self took c.take_bracket-taken.result c.in_ok-flush.ensures.others c.take_bracket-taken.ensures.others c.take_bracket-taken.ensures.takes in
    let j = tried-stage o l refs notes c.args.leaf.now c.args.text.now c.requires.text.same reader read place closer s bs c.args.here.at r at c.args.self.now shows took st c.take_bracket-taken.result i ((c.in_ok-next.ensures.tries c.in_default.is).others) ((c.in_ok-next.ensures.tries c.in_default.is).tried) (ap is_some (sym c.in_default.is) ∙ c.in_ok-next.ensures.forms) in
    let same : c.footnote.new.self ≡ st = c.in_ok-next-2.ensures.decides.same c.in_default-2.is in
    let k = subst (λ (x : InlineState). IsTriedStage o l refs notes c.args.leaf.now c.args.text.now c.requires.text.same reader read place closer s bs c.args.here.at r at c.args.self.now shows x c.take_bracket-taken.result) (sym same) j in
    let put = c.put.ensures.others in
    let links = subst (λ (x : Option Cursor). LinksTaken g.F.BrokenLinkCallback.answers o l refs c.args.leaf.now c.args.text.now c.take_bracket-taken.result c.args.here.at c.footnote.new.self c.link.new.self x c.args.callback.now c.link.new.callback) c.in_default-3.is c.in_ok-next-3.ensures.links in
    let rows : SameRows c.flush.new.self c.link.new.self = rows-on c.flush.new.self took c.link.new.self (rows-brackets c.flush.new.self took c.take_bracket-taken.ensures.others) (rows-on took st c.link.new.self (rows-doubled took st ((c.in_ok-next.ensures.tries c.in_default.is).others)) (rows-on st c.footnote.new.self c.link.new.self (rows-same st c.footnote.new.self same)
    (rows-unlinked g.F.BrokenLinkCallback.answers o l refs c.args.leaf.now c.args.text.now c.take_bracket-taken.result c.args.here.at c.footnote.new.self c.link.new.self c.args.callback.now c.link.new.callback links))) in
    text-closes o l refs notes c.args.leaf.now c.args.text.now c.requires.text.same reader read place closer s bs c.args.here.at r at c.args.self.now shows
    g.F.BrokenLinkCallback.answers next c.footnote.new.footnotes c.put.new.self c.args.callback.now c.link.new.callback c.args.here.pending c.footnote.new.self c.link.new.self c.take_bracket-taken.result k.ready k.taken_as k.remembers
    (subst (λ (x : InlineState). false ≡ forms_footnote o notes (footnote_of o (is_cell_of c.args.leaf.now) (is_there c.args.here.at x.label_close) c.args.text.now c.args.here.at c.take_bracket-taken.result)) (sym same) (ap is_some (sym c.in_default-2.is) ∙ c.in_ok-next-2.ensures.decides.forms))
    links
    (ap (λ (x : InlineState). x.brackets) put) (ap (λ (x : InlineState). x.doubled) put) (ap (λ (x : InlineState). x.expansion_left) put) (ap (λ (x : InlineState). x.label_close) put)
    (reached ∙ c.following-following_it.ensures.value) (ended ∙ sym reached) (ap (λ (x : InlineState). x.links) put) k.table
    (none-counted o (footnote_of o (is_cell_of c.args.leaf.now) (is_there c.args.here.at st.label_close) c.args.text.now c.args.here.at c.take_bracket-taken.result) notes c.footnote.new.footnotes (ap is_some (sym c.in_default-2.is) ∙ c.in_ok-next-2.ensures.decides.forms) c.in_ok-next-2.ensures.decides.counts)
    (let e = ap (λ (x : InlineState). x.delimiters.examined) put ∙ rows.examined ∙ ap (λ (x : InlineState). x.delimiters.examined) c.in_ok-flush.ensures.others in omega (arith, e))
    (λ after comes.
    text-reads c.args.leaf.now reader read place closer s bs c.args.here.pending c.args.here.at c.args.self.now c.flush.new.self c.link.new.self c.put.new.self (record { pushes = c.in_ok-flush.ensures.slots; others = c.in_ok-flush.ensures.others }) rows
    c.args.text.now c.requires.text.same at (puts-one c.args.here.at _ c.link.new.self.slots.items c.put.new.self.slots.items slots ∙ ap (λ n. c.link.new.self.slots.items ++ (record { kind = kind.Text; start = c.args.here.at; end = n } ∷ [])) c.following-following_it.ensures.value)
    (ap (λ (x : InlineState). x.texts.items) put) (ap (λ (x : InlineState). x.links.items) put) (ap (λ (x : InlineState). x.delimiters.placed.items) put) (ap (λ (x : InlineState). x.quotes.placed.items) put) after comes))

pub take_bracket-taken-requires-clause-sound : goal.take_bracket-taken-requires-clause-sound
take_bracket-taken-requires-clause-sound g c = (keeps-pending c.args.self.now c.flush.new.self c.in_ok-flush.ensures.others c.args.here.pending c.args.here.at c.in_ok-flush.ensures.slots).sound c.requires.sound

pub wikilink-requires-clause-close : goal.wikilink-requires-clause-close
wikilink-requires-clause-close g c = subst (IsPart c.args.text.now c.args.here.at) c.following-following_it.ensures.value c.following-following_it.ensures.part

pub footnote-requires-clause-close : goal.footnote-requires-clause-close
footnote-requires-clause-close g c = subst (IsPart c.args.text.now c.args.here.at) c.following-following_it.ensures.value c.following-following_it.ensures.part

pub returns-in_err-next-clause-asks : goal.returns-in_err-next-clause-asks
returns-in_err-next-clause-asks g c = record {
  ready = search rules;
  asks = (inl refl);
  spent = (λ none. (refl, c.wikilink.ensures.limits.expansion_left ∙ ap (λ (s : InlineState). s.expansion_left) c.take_bracket-taken.ensures.others ∙ c.flush.ensures.expansion_left ∙ none));
}

pub returns-in-Some-clause-asks : goal.returns-in-Some-clause-asks
returns-in-Some-clause-asks g c = record {
  ready = search rules;
  asks = (inl refl);
  spent = (λ none. (refl, c.wikilink.ensures.limits.expansion_left ∙ ap (λ (s : InlineState). s.expansion_left) c.take_bracket-taken.ensures.others ∙ c.flush.ensures.expansion_left ∙ none));
}

pub returns-in_err-next-2-clause-asks : goal.returns-in_err-next-2-clause-asks
returns-in_err-next-2-clause-asks g c = record {
  ready = search rules;
  asks = (inl refl);
  spent = (λ none. (refl, c.footnote.ensures.limits.expansion_left ∙ c.wikilink.ensures.limits.expansion_left ∙ ap (λ (s : InlineState). s.expansion_left) c.take_bracket-taken.ensures.others ∙ c.flush.ensures.expansion_left ∙ none));
}

pub returns-in-Some-2-clause-asks : goal.returns-in-Some-2-clause-asks
returns-in-Some-2-clause-asks g c = record {
  ready = search rules;
  asks = (inl refl);
  spent = (λ none. (refl, c.footnote.ensures.limits.expansion_left ∙ c.wikilink.ensures.limits.expansion_left ∙ ap (λ (s : InlineState). s.expansion_left) c.take_bracket-taken.ensures.others ∙ c.flush.ensures.expansion_left ∙ none));
}

pub returns-in_err-next-3-clause-asks : goal.returns-in_err-next-3-clause-asks
returns-in_err-next-3-clause-asks g c = record {
  ready = search rules;
  asks = c.link.ensures.asks.asks;
  spent = (λ none. c.link.ensures.asks.spent (c.footnote.ensures.limits.expansion_left ∙ c.wikilink.ensures.limits.expansion_left ∙ ap (λ (s : InlineState). s.expansion_left) c.take_bracket-taken.ensures.others ∙ c.flush.ensures.expansion_left ∙ none));
}

pub returns-in-Some-3-clause-asks : goal.returns-in-Some-3-clause-asks
returns-in-Some-3-clause-asks g c = record {
  ready = search rules;
  asks = c.link.ensures.asks.asks;
  spent = (λ none. c.link.ensures.asks.spent (c.footnote.ensures.limits.expansion_left ∙ c.wikilink.ensures.limits.expansion_left ∙ ap (λ (s : InlineState). s.expansion_left) c.take_bracket-taken.ensures.others ∙ c.flush.ensures.expansion_left ∙ none));
}

pub returns-clause-asks : goal.returns-clause-asks
returns-clause-asks g c = record {
  ready = search rules;
  asks = c.link.ensures.asks.asks;
  spent = (λ none. let same = c.link.ensures.asks.spent (c.footnote.ensures.limits.expansion_left ∙ c.wikilink.ensures.limits.expansion_left ∙ ap (λ (s : InlineState). s.expansion_left) c.take_bracket-taken.ensures.others ∙ c.flush.ensures.expansion_left ∙ none) in (same.0, ap (λ (s : InlineState). s.expansion_left) c.put.ensures.others ∙ same.1));
}

pub returns-in_err-flush-clause-asks : goal.returns-in_err-flush-clause-asks
returns-in_err-flush-clause-asks g c = record {
  ready = search rules;
  asks = (inl refl);
  spent = search rules;
}

pub returns-in_err-next-2-clause-uses : goal.returns-in_err-next-2-clause-uses
returns-in_err-next-2-clause-uses g c = record {
  footnotes = c.footnote.ensures.uses.footnotes;
  rise = c.footnote.ensures.uses.rise;
}

pub returns-in-Some-2-clause-uses : goal.returns-in-Some-2-clause-uses
returns-in-Some-2-clause-uses g c = record {
  footnotes = c.footnote.ensures.uses.footnotes;
  rise = c.footnote.ensures.uses.rise;
}

pub returns-in_err-next-3-clause-uses : goal.returns-in_err-next-3-clause-uses
returns-in_err-next-3-clause-uses g c = record {
  footnotes = c.footnote.ensures.uses.footnotes;
  rise = c.footnote.ensures.uses.rise;
}

pub returns-in-Some-3-clause-uses : goal.returns-in-Some-3-clause-uses
returns-in-Some-3-clause-uses g c = record {
  footnotes = c.footnote.ensures.uses.footnotes;
  rise = c.footnote.ensures.uses.rise;
}

pub returns-clause-uses : goal.returns-clause-uses
returns-clause-uses g c = record {
  footnotes = c.footnote.ensures.uses.footnotes;
  rise = c.footnote.ensures.uses.rise;
}

pub take_bracket-taken-requires-clause-stands : goal.take_bracket-taken-requires-clause-stands
take_bracket-taken-requires-clause-stands g c = c.in_ok-flush.ensures.stands

pub returns-in_err-flush-clause-uses : goal.returns-in_err-flush-clause-uses
returns-in_err-flush-clause-uses g c = record {
  footnotes = search rules;
  rise = (kept-rise 1 c.args.footnotes.now c.args.footnotes.now (λ folded. refl));
}

pub returns-in_err-next-clause-uses : goal.returns-in_err-next-clause-uses
returns-in_err-next-clause-uses g c = record {
  footnotes = search rules;
  rise = (kept-rise 1 c.args.footnotes.now c.args.footnotes.now (λ folded. refl));
}

pub returns-in-Some-clause-uses : goal.returns-in-Some-clause-uses
returns-in-Some-clause-uses g c = record {
  footnotes = search rules;
  rise = (kept-rise 1 c.args.footnotes.now c.args.footnotes.now (λ folded. refl));
}

pub returns-in_err-flush-clause-stops : goal.returns-in_err-flush-clause-stops
returns-in_err-flush-clause-stops g c = on-err c.from_residual.result _ (λ reader read place closer s bs r at shows.
    asks-none g.F.BrokenLinkCallback.answers (decide reader read s closer) c.args.callback.now c.args.callback.now refl)

pub returns-in_err-next-clause-stops : goal.returns-in_err-next-clause-stops
returns-in_err-next-clause-stops g c = on-err c.from_residual-in_err-next.result _ (λ reader read place closer s bs r at shows.
    asks-none g.F.BrokenLinkCallback.answers (decide reader read s closer) c.args.callback.now c.args.callback.now refl)

pub returns-in_err-next-2-clause-stops : goal.returns-in_err-next-2-clause-stops
returns-in_err-next-2-clause-stops g c = on-err c.from_residual-in_err-next-2.result _ (λ reader read place closer s bs r at shows.
    asks-none g.F.BrokenLinkCallback.answers (decide reader read s closer) c.args.callback.now c.args.callback.now refl)

pub returns-in_err-next-3-clause-stops : goal.returns-in_err-next-3-clause-stops
returns-in_err-next-3-clause-stops g c = on-err c.from_residual-in_err-next-3.result _ (λ reader read place closer s bs r at shows.
    let o = shown_options c.args.reader.now.options in
    let l = g.E.EntityLookup.replacement c.args.reader.now.entities.now in
    let refs = c.args.reader.now.references.now in
    let notes = c.args.footnotes.now in
    let took : InlineState = c.take_bracket-taken.new.self in
    let st : InlineState = c.wikilink.new.self in
    let i = taken-stage o l refs notes c.args.leaf.now c.args.text.now c.requires.text.same reader read place closer s bs c.args.here.at r at c.args.self.now shows c.flush.new.self took c.take_bracket-taken.result c.in_ok-flush.ensures.others c.take_bracket-taken.ensures.others c.take_bracket-taken.ensures.takes in
    let j = tried-stage o l refs notes c.args.leaf.now c.args.text.now c.requires.text.same reader read place closer s bs c.args.here.at r at c.args.self.now shows took st c.take_bracket-taken.result i ((c.in_ok-next.ensures.tries c.in_default.is).others) ((c.in_ok-next.ensures.tries c.in_default.is).tried) (ap is_some (sym c.in_default.is) ∙ c.in_ok-next.ensures.forms) in
    let same : c.footnote.new.self ≡ st = c.in_ok-next-2.ensures.decides.same c.in_default-2.is in
    linked-asks o l refs notes c.args.leaf.now c.args.text.now c.requires.text.same reader read place closer s bs c.args.here.at r at c.args.self.now shows
    g.F.BrokenLinkCallback.answers c.args.callback.now c.link.new.callback st c.take_bracket-taken.result j
    (ap is_some (sym c.in_default-2.is) ∙ c.in_ok-next-2.ensures.decides.forms)
    (subst (λ (x : InlineState). AsksOfLink g.F.BrokenLinkCallback.answers o l refs c.args.leaf.now c.args.text.now c.take_bracket-taken.result c.args.here.at x c.args.callback.now c.link.new.callback) same c.in_err-next-3.ensures.stops))

pub returns-clause-stops : goal.returns-clause-stops
returns-clause-stops g c = on-err c.put.result _ (λ reader read place closer s bs r at shows.
    let o = shown_options c.args.reader.now.options in
    let l = g.E.EntityLookup.replacement c.args.reader.now.entities.now in
    let refs = c.args.reader.now.references.now in
    let notes = c.args.footnotes.now in
    let took : InlineState = c.take_bracket-taken.new.self in
    let st : InlineState = c.wikilink.new.self in
    let i = taken-stage o l refs notes c.args.leaf.now c.args.text.now c.requires.text.same reader read place closer s bs c.args.here.at r at c.args.self.now shows c.flush.new.self took c.take_bracket-taken.result c.in_ok-flush.ensures.others c.take_bracket-taken.ensures.others c.take_bracket-taken.ensures.takes in
    let j = tried-stage o l refs notes c.args.leaf.now c.args.text.now c.requires.text.same reader read place closer s bs c.args.here.at r at c.args.self.now shows took st c.take_bracket-taken.result i ((c.in_ok-next.ensures.tries c.in_default.is).others) ((c.in_ok-next.ensures.tries c.in_default.is).tried) (ap is_some (sym c.in_default.is) ∙ c.in_ok-next.ensures.forms) in
    let same : c.footnote.new.self ≡ st = c.in_ok-next-2.ensures.decides.same c.in_default-2.is in
    linked-asks o l refs notes c.args.leaf.now c.args.text.now c.requires.text.same reader read place closer s bs c.args.here.at r at c.args.self.now shows
    g.F.BrokenLinkCallback.answers c.args.callback.now c.link.new.callback st c.take_bracket-taken.result j
    (ap is_some (sym c.in_default-2.is) ∙ c.in_ok-next-2.ensures.decides.forms)
    (subst (λ (x : InlineState). AsksOfLink g.F.BrokenLinkCallback.answers o l refs c.args.leaf.now c.args.text.now c.take_bracket-taken.result c.args.here.at x c.args.callback.now c.link.new.callback) same
    (links-ask g.F.BrokenLinkCallback.answers o l refs c.args.leaf.now c.args.text.now c.args.here.at c.take_bracket-taken.result c.footnote.new.self c.link.new.self _ c.args.callback.now c.link.new.callback c.in_ok-next-3.ensures.links)))

pub returns-in-Some-clause-passes : goal.returns-in-Some-clause-passes
returns-in-Some-clause-passes g c = record {
  sound = c.in_ok-next.ensures.sound;
  ends = (λ e.
      let leaf = c.args.leaf.now in
      let flushed = (keeps-pending c.args.self.now c.flush.new.self c.in_ok-flush.ensures.others c.args.here.pending c.args.here.at c.in_ok-flush.ensures.slots).ends leaf e in
      let took : AreEnded leaf c.take_bracket-taken.new.self.slots.items = subst (λ (s : InlineState). AreEnded leaf s.slots.items) (sym c.take_bracket-taken.ensures.others) flushed in
      let tried = c.in_ok-next.ensures.ends took in
      tried);
  moves = (subst (λ (x : Option Cursor). IfSome x (FormsPair (shown_options c.args.reader.now.options) c.args.leaf.now c.args.text.now c.args.here.at c.take_bracket-taken.new.self c.wikilink.new.self)) c.in-Some.is c.in_ok-next.ensures.pair).moves;
  flushes = (record { flushed = c.flush.new.self; pushes = c.in_ok-flush.ensures.slots; others = c.in_ok-flush.ensures.others });
}

pub returns-in-Some-2-clause-passes : goal.returns-in-Some-2-clause-passes
returns-in-Some-2-clause-passes g c = record {
  sound = c.in_ok-next-2.ensures.goes_on.sound;
  ends = (λ e.
      let leaf = c.args.leaf.now in
      let flushed = (keeps-pending c.args.self.now c.flush.new.self c.in_ok-flush.ensures.others c.args.here.pending c.args.here.at c.in_ok-flush.ensures.slots).ends leaf e in
      let took : AreEnded leaf c.take_bracket-taken.new.self.slots.items = subst (λ (s : InlineState). AreEnded leaf s.slots.items) (sym c.take_bracket-taken.ensures.others) flushed in
      let tried = c.in_ok-next.ensures.ends took in
      c.in_ok-next-2.ensures.goes_on.ends leaf tried);
  moves = (subst (λ (x : Option Cursor). IfSome x (Moves c.args.text.now c.args.here.at c.footnote.new.self)) c.in-Some-2.is c.in_ok-next-2.ensures.goes_on.moves);
  flushes = (record { flushed = c.flush.new.self; pushes = c.in_ok-flush.ensures.slots; others = c.in_ok-flush.ensures.others });
}

pub returns-in-Some-3-clause-passes : goal.returns-in-Some-3-clause-passes
returns-in-Some-3-clause-passes g c = record {
  sound = c.in_ok-next-3.ensures.goes_on.sound;
  ends = (λ e.
      let leaf = c.args.leaf.now in
      let flushed = (keeps-pending c.args.self.now c.flush.new.self c.in_ok-flush.ensures.others c.args.here.pending c.args.here.at c.in_ok-flush.ensures.slots).ends leaf e in
      let took : AreEnded leaf c.take_bracket-taken.new.self.slots.items = subst (λ (s : InlineState). AreEnded leaf s.slots.items) (sym c.take_bracket-taken.ensures.others) flushed in
      let tried = c.in_ok-next.ensures.ends took in
      c.in_ok-next-3.ensures.goes_on.ends leaf (c.in_ok-next-2.ensures.goes_on.ends leaf tried));
  moves = (subst (λ (x : Option Cursor). IfSome x (Moves c.args.text.now c.args.here.at c.link.new.self)) c.in-Some-3.is c.in_ok-next-3.ensures.goes_on.moves);
  flushes = (record { flushed = c.flush.new.self; pushes = c.in_ok-flush.ensures.slots; others = c.in_ok-flush.ensures.others });
}

pub returns-clause-passes : goal.returns-clause-passes
returns-clause-passes g c = ok-by-two c.put.result _ _ _ c.put.ensures.slots c.put.ensures.moves (λ next slots moves.
    let leaf = c.args.leaf.now in
    let put = keeps-puts c.link.new.self c.put.new.self c.put.ensures.others c.args.here.at c.args.here.at _ slots ((refl, refl, refl), λ i. refl) in
    record {
      sound = put.sound c.in_ok-next-3.ensures.goes_on.sound;
      ends = λ e.
          (let flushed = (keeps-pending c.args.self.now c.flush.new.self c.in_ok-flush.ensures.others c.args.here.pending c.args.here.at c.in_ok-flush.ensures.slots).ends leaf e in
          let took : AreEnded leaf c.take_bracket-taken.new.self.slots.items = subst (λ (s : InlineState). AreEnded leaf s.slots.items) (sym c.take_bracket-taken.ensures.others) flushed in
          put.ends leaf (c.in_ok-next-3.ensures.goes_on.ends leaf (c.in_ok-next-2.ensures.goes_on.ends leaf (c.in_ok-next.ensures.ends took))));
      moves = moves;
      flushes = record { flushed = c.flush.new.self; pushes = c.in_ok-flush.ensures.slots; others = c.in_ok-flush.ensures.others };
    })

pub wikilink-requires-clause-at : goal.wikilink-requires-clause-at
wikilink-requires-clause-at g c = record { stands = c.take_bracket-taken.ensures.stands; sound = c.take_bracket-taken.ensures.sound }

pub footnote-requires-clause-at : goal.footnote-requires-clause-at
footnote-requires-clause-at g c = record { stands = (c.in_ok-next.ensures.tries c.in_default.is).stands; sound = c.in_ok-next.ensures.sound }

pub footnote-requires-clause-opening : goal.footnote-requires-clause-opening
footnote-requires-clause-opening g c =
    let tried = c.in_ok-next.ensures.tries c.in_default.is in
    IfSome_then c.take_bracket-taken.result c.take_bracket-taken.ensures.opening (λ b h. record { bracket = h.bracket; taken = tried.taken b h.taken })

pub link-requires : goal.link-requires
link-requires g c =
    let same : c.footnote.new.self ≡ c.wikilink.new.self = c.in_ok-next-2.ensures.decides.same c.in_default-2.is in
    let tried = c.in_ok-next.ensures.tries c.in_default.is in
    let at : StandsSound c.args.text.now c.args.here.at c.footnote.new.self = record { stands = c.in_ok-next-2.ensures.goes_on.stands c.in_default-2.is; sound = c.in_ok-next-2.ensures.goes_on.sound } in
    let opening : IfSome c.take_bracket-taken.result (CanLink c.args.text.now c.args.here.at c.footnote.new.self) =
    subst (λ (s : InlineState). IfSome c.take_bracket-taken.result (CanLink c.args.text.now c.args.here.at s)) (sym same)
    (IfSome_then c.take_bracket-taken.result c.take_bracket-taken.ensures.opening (λ (b : Bracket) h. record { bracket = h.bracket; taken = tried.taken b h.taken; free = λ plain. subst (λ (s : InlineState). HoldNoLink s.slots.items b.slot) (sym tried.others) (h.free plain) })) in
    let close = subst (IsPart c.args.text.now c.args.here.at) c.following-following_it.ensures.value c.following-following_it.ensures.part in
    λ k. ((refl, tt), (c.requires.text, (at, (opening, (close, c.requires.ready)))))

pub put-requires : goal.put-requires
put-requires g c =
    let part = c.following-following_it.ensures.part in
    let edge = c.requires.byte.cursor.at in
    record {
      stands = c.in_ok-next-3.ensures.goes_on.stands c.in_default-3.is;
      pending = record { starts = edge; stops = edge; following = omega arith };
      next = record { ordered = part.some; is = record { part = part; before = omega arith; content = tt }; further = part.some; kind = refl };
    }
