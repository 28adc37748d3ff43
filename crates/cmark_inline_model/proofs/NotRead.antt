-- Readings that a text does not have: no events of a leaf are written so, and no questions are put so.
use Rattle.std.specs.Prelude.{◌≡◌, ℕ, true, false, List, [], ◌∷◌, codes, bytes_eq, None}
use Rattle.std.specs.Str.{chars}
use Rattle.std.proofs.Common.{refl, sym, ap, ◌∙◌, true≢false}
use lib.Utf8.{encode}
use Rattle.caseless.proofs.Computing.{caseless}
use Rattle.ucd_category.proofs.Computing.{ucd_category}
use Rattle.cmark_grammar.specs.BracketDecisions.{decide}
use Rattle.cmark_grammar.specs.Emphasis.{agrees, pair_of, rest_of_opener, rest_of_closer, kinds_of, deactivates}
use Rattle.cmark_inline_model.specs.EmphasisModel.{closed}
use Rattle.cmark_grammar.specs.Event.{Ranged}
use Rattle.cmark_grammar.specs.Flanking.{is_unicode_white_space, is_unicode_punctuation}
use Rattle.cmark_grammar.specs.InlineReading.{inline_events}
use Rattle.cmark_grammar.specs.InlineTokens.{token}
use Rattle.cmark_grammar.specs.Items.{Ends}
use Rattle.cmark_grammar.specs.LeafReading.{Between, ReadsLeaf, entering, leaving}
use Rattle.cmark_grammar.specs.LeafText.{Leaf, end_of}
use Rattle.cmark_grammar.specs.LinkType.{LinkType, Collapsed, Reference, Shortcut}
use Rattle.cmark_grammar.specs.Options.{Options, no_options}
use Rattle.cmark_grammar.specs.Questions.{Exchange, IsNext}
use Rattle.cmark_grammar.specs.Readers.{Reader}
use Rattle.cmark_inline_model.specs.SiblingsModel.{spans_in}
use Rattle.cmark_inline_model.specs.LeafModel.{leaf_end, leaf_events, leaf_after}
use Rattle.cmark_inline_model.proofs.BracketQuestions.{plan_of, next-plan}
use Rattle.cmark_inline_model.proofs.BracketsOne.{parts-one}
use Rattle.cmark_inline_model.proofs.SampleReading.{plain_reader, defining_reader, asking, stretch, paragraph, whole, start, html_of}
use Rattle.cmark_inline_model.proofs.SiblingsOne.{spans-one}

module _ (reader : Reader) (leaf : Leaf) (before : Between) (all : List Exchange) where
  -- a reading is the model's
  events-only : token reader leaf (leaf_end reader (plan_of all) leaf before).at ≡ Ends → (events : List Ranged) (after : Between) → ReadsLeaf reader (IsNext all) leaf before events after
      → (events ≡ leaf_events reader (plan_of all) leaf before) × (after ≡ leaf_after reader (plan_of all) leaf before)
  events-only e events after h =
      let p = parts-one (token reader leaf) (decide reader leaf) (IsNext all) (plan_of all) (next-plan all) (end_of leaf.stretches) (entering leaf before) h.parts h.last e h.reads in
      (h.events_are ∙ ap (inline_events reader.source) (spans-one reader.options h.parts h.spans h.are ∙ ap (spans_in reader.options) p.0), h.after_is ∙ ap leaving p.1)

-- whatever the answers are, no reading of the leaf has this HTML
abbrev pub Refused : Reader → Leaf → (wrong : List ℕ) → Type 0
Refused reader leaf wrong = (all : List Exchange) (events : List Ranged) (after : Between) → ReadsLeaf reader (IsNext all) leaf start events after → html_of events ≡ wrong → ⊥

refused : (reader : Reader) (leaf : Leaf) (wrong : List ℕ) → ((all : List Exchange) → token reader leaf (leaf_end reader (plan_of all) leaf start).at ≡ Ends)
    → ((all : List Exchange) → bytes_eq (html_of (leaf_events reader (plan_of all) leaf start)) wrong ≡ false) → bytes_eq wrong wrong ≡ true → Refused reader leaf wrong
refused reader leaf wrong ends differs same all events after h is =
    let right : html_of (leaf_events reader (plan_of all) leaf start) ≡ wrong = sym (ap html_of (events-only reader leaf start all (ends all) events after h).0) ∙ is in
    true≢false (sym same ∙ sym (ap (λ w. bytes_eq w wrong) right) ∙ differs all)

abbrev wikilinks : Options
wikilinks = record no_options { wikilinks = true }

abbrev math : Options
math = record no_options { math = true }

abbrev footnotes : Options
footnotes = record no_options { footnotes = true }

abbrev strikethrough : Options
strikethrough = record no_options { strikethrough = true }

-- a link in a link
pub link_in_link : Refused (plain_reader no_options (codes "[a [b](c) d](e)")) (whole (codes "[a [b](c) d](e)")) (codes "<a href=\"e\">a <a href=\"c\">b</a> d</a>")
unfolding caseless encode chars token decide ucd_category is_unicode_white_space is_unicode_punctuation agrees pair_of rest_of_opener rest_of_closer kinds_of deactivates closed
link_in_link = refused (plain_reader no_options (codes "[a [b](c) d](e)")) (whole (codes "[a [b](c) d](e)")) (codes "<a href=\"e\">a <a href=\"c\">b</a> d</a>") (λ all. refl) (λ all. refl) refl

-- emphasis over the end of a link
pub emphasis_over_link_end : Refused (plain_reader no_options (codes "*a [b*](c)")) (whole (codes "*a [b*](c)")) (codes "<em>a <a href=\"c\">b</em></a>")
unfolding caseless encode chars token decide ucd_category is_unicode_white_space is_unicode_punctuation agrees pair_of rest_of_opener rest_of_closer kinds_of deactivates closed
emphasis_over_link_end = refused (plain_reader no_options (codes "*a [b*](c)")) (whole (codes "*a [b*](c)")) (codes "<em>a <a href=\"c\">b</em></a>") (λ all. refl) (λ all. refl) refl

-- a code span that begins in an autolink
pub code_in_autolink : Refused (plain_reader no_options (codes "<http://a`b>c`")) (whole (codes "<http://a`b>c`")) (codes "&lt;http://a<code>b&gt;c</code>")
unfolding caseless encode chars token decide ucd_category is_unicode_white_space is_unicode_punctuation agrees pair_of rest_of_opener rest_of_closer kinds_of deactivates closed
code_in_autolink = refused (plain_reader no_options (codes "<http://a`b>c`")) (whole (codes "<http://a`b>c`")) (codes "&lt;http://a<code>b&gt;c</code>") (λ all. refl) (λ all. refl) refl

-- a shortcut reference, although the label of the full reference has no definition
pub shortcut_after_full : Refused (defining_reader no_options (codes "[x][y]")) (whole (codes "[x][y]")) (codes "<a href=\"/u\">x</a>[y]")
unfolding caseless encode chars token decide ucd_category is_unicode_white_space is_unicode_punctuation agrees pair_of rest_of_opener rest_of_closer kinds_of deactivates closed
shortcut_after_full = refused (defining_reader no_options (codes "[x][y]")) (whole (codes "[x][y]")) (codes "<a href=\"/u\">x</a>[y]") (λ all. refl) (λ all. refl) refl

-- a closing run that takes the farther opening one
pub farther_opener : Refused (plain_reader no_options (codes "*a *b*")) (whole (codes "*a *b*")) (codes "<em>a *b</em>")
unfolding caseless encode chars token decide ucd_category is_unicode_white_space is_unicode_punctuation agrees pair_of rest_of_opener rest_of_closer kinds_of deactivates closed
farther_opener = refused (plain_reader no_options (codes "*a *b*")) (whole (codes "*a *b*")) (codes "<em>a *b</em>") (λ all. refl) (λ all. refl) refl

-- runs that the rule of three keeps apart
pub without_rule_of_three : Refused (plain_reader no_options (codes "*a**b*")) (whole (codes "*a**b*")) (codes "<em>a</em><em>b</em>")
unfolding caseless encode chars token decide ucd_category is_unicode_white_space is_unicode_punctuation agrees pair_of rest_of_opener rest_of_closer kinds_of deactivates closed
without_rule_of_three = refused (plain_reader no_options (codes "*a**b*")) (whole (codes "*a**b*")) (codes "<em>a</em><em>b</em>") (λ all. refl) (λ all. refl) refl

-- a wikilink, although one of its brackets became a link
pub wikilink_over_link : Refused (plain_reader wikilinks (codes "![[a](b)c]]")) (whole (codes "![[a](b)c]]")) (codes "<img src=\"a%5D(b)c\" alt=\"a](b)c\" />")
unfolding caseless encode chars token decide ucd_category is_unicode_white_space is_unicode_punctuation agrees pair_of rest_of_opener rest_of_closer kinds_of deactivates closed
wikilink_over_link = refused (plain_reader wikilinks (codes "![[a](b)c]]")) (whole (codes "![[a](b)c]]")) (codes "<img src=\"a%5D(b)c\" alt=\"a](b)c\" />") (λ all. refl) (λ all. refl) refl

-- a formula of an empty text
pub empty_formula : Refused (plain_reader math (codes "$$")) (whole (codes "$$")) (codes "<span class=\"math math-inline\"></span>")
unfolding caseless encode chars token decide ucd_category is_unicode_white_space is_unicode_punctuation agrees pair_of rest_of_opener rest_of_closer kinds_of deactivates closed
empty_formula = refused (plain_reader math (codes "$$")) (whole (codes "$$")) (codes "<span class=\"math math-inline\"></span>") (λ all. refl) (λ all. refl) refl

-- an escape in a code span
pub escape_in_code : Refused (plain_reader no_options (codes "`a\\`b`")) (whole (codes "`a\\`b`")) (codes "<code>a`b</code>")
unfolding caseless encode chars token decide ucd_category is_unicode_white_space is_unicode_punctuation agrees pair_of rest_of_opener rest_of_closer kinds_of deactivates closed
escape_in_code = refused (plain_reader no_options (codes "`a\\`b`")) (whole (codes "`a\\`b`")) (codes "<code>a`b</code>") (λ all. refl) (λ all. refl) refl

-- code without the blanks before its lines
pub blanks_lost_in_code : Refused (plain_reader no_options (codes "`a\n   b`")) (whole (codes "`a\n   b`")) (codes "<code>a b</code>")
unfolding caseless encode chars token decide ucd_category is_unicode_white_space is_unicode_punctuation agrees pair_of rest_of_opener rest_of_closer kinds_of deactivates closed
blanks_lost_in_code = refused (plain_reader no_options (codes "`a\n   b`")) (whole (codes "`a\n   b`")) (codes "<code>a b</code>") (λ all. refl) (λ all. refl) refl

-- a comment without the prefixes of its lines
pub comment_without_prefix : Refused (plain_reader no_options (codes "> x <!-- a\n> b -->")) (paragraph (stretch 2 11 ∷ stretch 13 18 ∷ [])) (codes "x <!-- a\nb -->")
unfolding caseless encode chars token decide ucd_category is_unicode_white_space is_unicode_punctuation agrees pair_of rest_of_opener rest_of_closer kinds_of deactivates closed
comment_without_prefix = refused (plain_reader no_options (codes "> x <!-- a\n> b -->")) (paragraph (stretch 2 11 ∷ stretch 13 18 ∷ [])) (codes "x <!-- a\nb -->") (λ all. refl) (λ all. refl) refl

-- a tag with the prefixes of its lines
pub tag_with_prefix : Refused (plain_reader no_options (codes "> <foo\n> bar>")) (paragraph (stretch 2 7 ∷ stretch 9 13 ∷ [])) (codes "<foo\n> bar>")
unfolding caseless encode chars token decide ucd_category is_unicode_white_space is_unicode_punctuation agrees pair_of rest_of_opener rest_of_closer kinds_of deactivates closed
tag_with_prefix = refused (plain_reader no_options (codes "> <foo\n> bar>")) (paragraph (stretch 2 7 ∷ stretch 9 13 ∷ [])) (codes "<foo\n> bar>") (λ all. refl) (λ all. refl) refl

-- a declaration that does not see the marker of a block quote
pub declaration_over_marker : Refused (plain_reader no_options (codes "> x <!A\n> b>")) (paragraph (stretch 2 8 ∷ stretch 10 12 ∷ [])) (codes "x <!A\nb>")
unfolding caseless encode chars token decide ucd_category is_unicode_white_space is_unicode_punctuation agrees pair_of rest_of_opener rest_of_closer kinds_of deactivates closed
declaration_over_marker = refused (plain_reader no_options (codes "> x <!A\n> b>")) (paragraph (stretch 2 8 ∷ stretch 10 12 ∷ [])) (codes "x <!A\nb>") (λ all. refl) (λ all. refl) refl

-- a link around a footnote reference
pub link_around_footnote : Refused (defining_reader footnotes (codes "a [b [^1] c](u)")) (whole (codes "a [b [^1] c](u)")) (codes "a <a href=\"u\">b {^1} c</a>")
unfolding caseless encode chars token decide ucd_category is_unicode_white_space is_unicode_punctuation agrees pair_of rest_of_opener rest_of_closer kinds_of deactivates closed
link_around_footnote = refused (defining_reader footnotes (codes "a [b [^1] c](u)")) (whole (codes "a [b [^1] c](u)")) (codes "a <a href=\"u\">b {^1} c</a>") (λ all. refl) (λ all. refl) refl

-- a tag that takes precedence over an earlier code span
pub tag_before_code : Refused (plain_reader no_options (codes "`<a href=\"`\">`")) (whole (codes "`<a href=\"`\">`")) (codes "`<a href=\"`\">`")
unfolding caseless encode chars token decide ucd_category is_unicode_white_space is_unicode_punctuation agrees pair_of rest_of_opener rest_of_closer kinds_of deactivates closed
tag_before_code = refused (plain_reader no_options (codes "`<a href=\"`\">`")) (whole (codes "`<a href=\"`\">`")) (codes "`<a href=\"`\">`") (λ all. refl) (λ all. refl) refl

-- blanks beside a line break
pub blanks_around_break : Refused (plain_reader no_options (codes "a \n b")) (whole (codes "a \n b")) (codes "a \n b")
unfolding caseless encode chars token decide ucd_category is_unicode_white_space is_unicode_punctuation agrees pair_of rest_of_opener rest_of_closer kinds_of deactivates closed
blanks_around_break = refused (plain_reader no_options (codes "a \n b")) (whole (codes "a \n b")) (codes "a \n b") (λ all. refl) (λ all. refl) refl

-- a tilde that pairs with two
pub tildes_of_two_lengths : Refused (plain_reader strikethrough (codes "a ~b~~ c")) (whole (codes "a ~b~~ c")) (codes "a <del>b</del>~ c")
unfolding caseless encode chars token decide ucd_category is_unicode_white_space is_unicode_punctuation agrees pair_of rest_of_opener rest_of_closer kinds_of deactivates closed
tildes_of_two_lengths = refused (plain_reader strikethrough (codes "a ~b~~ c")) (whole (codes "a ~b~~ c")) (codes "a <del>b</del>~ c") (λ all. refl) (λ all. refl) refl

-- a code span that a shorter run closes
pub short_closing_run : Refused (plain_reader no_options (codes "``a`b``")) (whole (codes "``a`b``")) (codes "<code>a</code>b``")
unfolding caseless encode chars token decide ucd_category is_unicode_white_space is_unicode_punctuation agrees pair_of rest_of_opener rest_of_closer kinds_of deactivates closed
short_closing_run = refused (plain_reader no_options (codes "``a`b``")) (whole (codes "``a`b``")) (codes "<code>a</code>b``") (λ all. refl) (λ all. refl) refl

-- ## Questions

-- the starts and ends of questions
abbrev pub places : List Exchange → List ℕ
places [] = []
places (x ∷ xs) = x.question.start ∷ x.question.end ∷ places xs

-- no reading of the whole text puts exactly these questions
abbrev pub NeverAsked : Reader → Between → (wrong : List Exchange) → Type 0
NeverAsked reader before wrong = (events : List Ranged) (after : Between) → ReadsLeaf reader (IsNext wrong) (whole reader.source) before events after → after.asked ≡ wrong → ⊥

never_asked : (reader : Reader) (before : Between) (wrong : List Exchange) → token reader (whole reader.source) (leaf_end reader (plan_of wrong) (whole reader.source) before).at ≡ Ends
    → bytes_eq (places (leaf_after reader (plan_of wrong) (whole reader.source) before).asked) (places wrong) ≡ false → bytes_eq (places wrong) (places wrong) ≡ true → NeverAsked reader before wrong
never_asked reader before wrong ends differs same events after h is =
    let right : places (leaf_after reader (plan_of wrong) (whole reader.source) before).asked ≡ places wrong =
    ap places (sym (ap Between.asked (events-only reader (whole reader.source) before wrong ends events after h).1) ∙ is) in
    true≢false (sym same ∙ sym (ap (λ w. bytes_eq w (places wrong)) right) ∙ differs)

abbrev asking_defined : List ℕ → Reader
asking_defined text = record (defining_reader no_options text) { has_callback = true }

abbrev spent : Between
spent = record { expansion_left = 0; asked = [] }

abbrev unanswered : (start end : ℕ) → LinkType → List ℕ → Exchange
unanswered start end link_type reference = record { question = record { start = start; end = end; link_type = link_type; reference = reference }; answer = None }

-- a question about a label that has a definition
pub question_with_definition : NeverAsked (asking_defined (codes "[x]")) start (unanswered 0 3 Shortcut (codes "x") ∷ [])
unfolding caseless encode chars token decide ucd_category is_unicode_white_space is_unicode_punctuation agrees pair_of rest_of_opener rest_of_closer kinds_of deactivates closed
question_with_definition = never_asked (asking_defined (codes "[x]")) start (unanswered 0 3 Shortcut (codes "x") ∷ []) refl refl refl

-- a question that is put twice
pub question_twice : NeverAsked (asking no_options (codes "[a][]")) start (unanswered 0 3 Collapsed (codes "a") ∷ unanswered 0 3 Collapsed (codes "a") ∷ [])
unfolding caseless encode chars token decide ucd_category is_unicode_white_space is_unicode_punctuation agrees pair_of rest_of_opener rest_of_closer kinds_of deactivates closed
question_twice = never_asked (asking no_options (codes "[a][]")) start (unanswered 0 3 Collapsed (codes "a") ∷ unanswered 0 3 Collapsed (codes "a") ∷ []) refl refl refl

-- questions that are not in the order of their closing brackets
pub questions_out_of_order : NeverAsked (asking no_options (codes "[a [b] c]")) start (unanswered 0 9 Shortcut (codes "a [b] c") ∷ unanswered 3 6 Shortcut (codes "b") ∷ [])
unfolding caseless encode chars token decide ucd_category is_unicode_white_space is_unicode_punctuation agrees pair_of rest_of_opener rest_of_closer kinds_of deactivates closed
questions_out_of_order = never_asked (asking no_options (codes "[a [b] c]")) start (unanswered 0 9 Shortcut (codes "a [b] c") ∷ unanswered 3 6 Shortcut (codes "b") ∷ []) refl refl refl

-- questions that are not in the order of the text
pub second_before_first : NeverAsked (asking no_options (codes "[b] [c]")) start (unanswered 4 7 Shortcut (codes "c") ∷ unanswered 0 3 Shortcut (codes "b") ∷ [])
unfolding caseless encode chars token decide ucd_category is_unicode_white_space is_unicode_punctuation agrees pair_of rest_of_opener rest_of_closer kinds_of deactivates closed
second_before_first = never_asked (asking no_options (codes "[b] [c]")) start (unanswered 4 7 Shortcut (codes "c") ∷ unanswered 0 3 Shortcut (codes "b") ∷ []) refl refl refl

-- a question about the label of a full reference by itself
pub label_asked_again : NeverAsked (asking no_options (codes "[a][b]")) start (unanswered 0 6 Reference (codes "b") ∷ unanswered 3 6 Shortcut (codes "b") ∷ [])
unfolding caseless encode chars token decide ucd_category is_unicode_white_space is_unicode_punctuation agrees pair_of rest_of_opener rest_of_closer kinds_of deactivates closed
label_asked_again = never_asked (asking no_options (codes "[a][b]")) start (unanswered 0 6 Reference (codes "b") ∷ unanswered 3 6 Shortcut (codes "b") ∷ []) refl refl refl

-- a question although the reference expansion limit is used up
pub question_at_limit : NeverAsked (asking no_options (codes "[a]")) spent (unanswered 0 3 Shortcut (codes "a") ∷ [])
unfolding caseless encode chars token decide ucd_category is_unicode_white_space is_unicode_punctuation agrees pair_of rest_of_opener rest_of_closer kinds_of deactivates closed
question_at_limit = never_asked (asking no_options (codes "[a]")) spent (unanswered 0 3 Shortcut (codes "a") ∷ []) refl refl refl

-- a question that reaches over the brackets of a collapsed reference
pub question_over_brackets : NeverAsked (asking no_options (codes "[a][]")) start (unanswered 0 5 Collapsed (codes "a") ∷ [])
unfolding caseless encode chars token decide ucd_category is_unicode_white_space is_unicode_punctuation agrees pair_of rest_of_opener rest_of_closer kinds_of deactivates closed
question_over_brackets = never_asked (asking no_options (codes "[a][]")) start (unanswered 0 5 Collapsed (codes "a") ∷ []) refl refl refl
