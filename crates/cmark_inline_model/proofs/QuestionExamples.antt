-- Questions about references, and their answers, computed.
use Rattle.std.specs.Prelude.{◌≡◌, ℕ, true, List, [], ◌∷◌, codes, map, replicate, Option, Some, None}
use Rattle.std.specs.Str.{chars}
use Rattle.std.proofs.Common.{refl}
use lib.Utf8.{encode}
use Rattle.caseless.proofs.Computing.{caseless}
use Rattle.ucd_category.proofs.Computing.{ucd_category}
use Rattle.cmark_grammar.specs.Answers.{Destination}
use Rattle.cmark_grammar.specs.BlockDocument.{Reference as Definition}
use Rattle.cmark_grammar.specs.BracketDecisions.{decide}
use Rattle.cmark_grammar.specs.Emphasis.{agrees, pair_of, rest_of_opener, rest_of_closer, kinds_of, deactivates}
use Rattle.cmark_inline_model.specs.EmphasisModel.{closed}
use Rattle.cmark_grammar.specs.Event.{Start, End, Text, Ranged}
use Rattle.cmark_grammar.specs.Flanking.{is_unicode_white_space, is_unicode_punctuation}
use Rattle.cmark_grammar.specs.InlineTokens.{token}
use Rattle.cmark_grammar.specs.LinkType.{LinkType, Reference, Collapsed, CollapsedUnknown, Shortcut}
use Rattle.cmark_grammar.specs.Options.{Options, no_options}
use Rattle.cmark_grammar.specs.Questions.{Question, Exchange, Plan}
use Rattle.cmark_grammar.specs.Tag.{Link}
use Rattle.cmark_grammar.specs.TagEnd.{end_of as end_tag}
use Rattle.cmark_inline_model.specs.LeafModel.{leaf_events, leaf_after}
use Rattle.cmark_inline_model.specs.ReadingLinks.{reference_costs, spent_before}
use Rattle.cmark_inline_model.proofs.SampleReading.{never, plain_reader, defining_reader, asking, stretch, paragraph, whole, start, html_of, questions, answered_html, leading}

-- only the second question has an answer other than None
abbrev second : Plan
second [] question = None
second (first ∷ asked) question = Some (record { url = codes "/u"; title = [] })

abbrev example : Destination
example = record { url = codes "http://example.com"; title = codes "my example website" }

-- each question is
abbrev website : Plan
website asked question = Some example

abbrev question : (start end : ℕ) → LinkType → List ℕ → Question
question start end link_type reference = record { start = start; end = end; link_type = link_type; reference = reference }

abbrev footnotes : Options
footnotes = record no_options { footnotes = true }

-- each full reference is asked about by its label, which is no shortcut reference then
two_full : questions never (codes "[a][b][c]") ≡ question 0 6 Reference (codes "b") ∷ (question 3 9 Reference (codes "c") ∷ [])
unfolding caseless encode chars token decide ucd_category is_unicode_white_space is_unicode_punctuation agrees pair_of rest_of_opener rest_of_closer kinds_of deactivates closed
two_full = refl

two_full_text : answered_html never (codes "[a][b][c]") ≡ codes "[a][b][c]"
unfolding caseless encode chars token decide ucd_category is_unicode_white_space is_unicode_punctuation agrees pair_of rest_of_opener rest_of_closer kinds_of deactivates closed
two_full_text = refl

full_then_shortcut : questions never (codes "[a][b] [c]") ≡ question 0 6 Reference (codes "b") ∷ (question 7 10 Shortcut (codes "c") ∷ [])
unfolding caseless encode chars token decide ucd_category is_unicode_white_space is_unicode_punctuation agrees pair_of rest_of_opener rest_of_closer kinds_of deactivates closed
full_then_shortcut = refl

-- brackets inside are asked about first
inside_first : questions never (codes "[a [b] c]") ≡ question 3 6 Shortcut (codes "b") ∷ []
unfolding caseless encode chars token decide ucd_category is_unicode_white_space is_unicode_punctuation agrees pair_of rest_of_opener rest_of_closer kinds_of deactivates closed
inside_first = refl

-- the question of a collapsed reference does not reach over its `[]`
collapsed : questions never (codes "[c][]") ≡ question 0 3 Collapsed (codes "c") ∷ []
unfolding caseless encode chars token decide ucd_category is_unicode_white_space is_unicode_punctuation agrees pair_of rest_of_opener rest_of_closer kinds_of deactivates closed
collapsed = refl

-- the question of an image begins with its `!`
image_question : questions never (codes "x ![c  d]") ≡ question 2 9 Shortcut (codes "c d") ∷ []
unfolding caseless encode chars token decide ucd_category is_unicode_white_space is_unicode_punctuation agrees pair_of rest_of_opener rest_of_closer kinds_of deactivates closed
image_question = refl

-- an inline link asks nothing, and a link in its text makes a bracket inactive
not_at_link : questions never (codes "[a [b](c)] [d](e)") ≡ []
unfolding caseless encode chars token decide ucd_category is_unicode_white_space is_unicode_punctuation agrees pair_of rest_of_opener rest_of_closer kinds_of deactivates closed
not_at_link = refl

-- an answer makes a link, and makes the brackets before it inactive
answered : answered_html second (codes "[x [a] [b] c][]") ≡ codes "[x [a] <a href=\"/u\">b</a> c][]"
unfolding caseless encode chars token decide ucd_category is_unicode_white_space is_unicode_punctuation agrees pair_of rest_of_opener rest_of_closer kinds_of deactivates closed
answered = refl

my_website : answered_html website (codes "Hello world, check out [my website][].") ≡ codes "Hello world, check out <a href=\"http://example.com\" title=\"my example website\">my website</a>."
unfolding caseless encode chars token decide ucd_category is_unicode_white_space is_unicode_punctuation agrees pair_of rest_of_opener rest_of_closer kinds_of deactivates closed
my_website = refl

-- a reference that the callback answered has a type of its own
answered_types : map Ranged.event (leaf_events (asking no_options (codes "[a][]")) website (whole (codes "[a][]")) start)
    ≡ Start (Link (leading CollapsedUnknown (codes "http://example.com") (codes "my example website") (codes "a"))) ∷ (Text (codes "a")
    ∷ (End (end_tag (Link (leading CollapsedUnknown (codes "http://example.com") (codes "my example website") (codes "a")))) ∷ []))
unfolding caseless encode chars token decide ucd_category is_unicode_white_space is_unicode_punctuation agrees pair_of rest_of_opener rest_of_closer kinds_of deactivates closed
answered_types = refl

-- if the limit is used up, no question is put
limit_spent : (leaf_after (asking no_options (codes "[a]")) never (whole (codes "[a]")) (record { expansion_left = 0; asked = [] })).asked ≡ []
unfolding caseless encode chars token decide ucd_category is_unicode_white_space is_unicode_punctuation agrees pair_of rest_of_opener rest_of_closer kinds_of deactivates closed
limit_spent = refl

-- references are looked up as long as something is left of the limit, and each takes its destination and its title off
limit_overspent : html_of (leaf_events (defining_reader no_options (codes "[x] [x] [x]")) never (whole (codes "[x] [x] [x]")) (record { expansion_left = 3; asked = [] })) ≡ codes "<a href=\"/u\">x</a> <a href=\"/u\">x</a> [x]"
unfolding caseless encode chars token decide ucd_category is_unicode_white_space is_unicode_punctuation agrees pair_of rest_of_opener rest_of_closer kinds_of deactivates closed
limit_overspent = refl

-- the destination and title of an answer are subtracted from the limit too
limit_of_questions : (leaf_after (asking no_options (codes "[a] [b]")) website (whole (codes "[a] [b]")) (record { expansion_left = 30; asked = [] })).asked ≡ record { question = question 0 3 Shortcut (codes "a"); answer = Some example } ∷ []
unfolding caseless encode chars token decide ucd_category is_unicode_white_space is_unicode_punctuation agrees pair_of rest_of_opener rest_of_closer kinds_of deactivates closed
limit_of_questions = refl

-- a footnote reference needs nothing of the limit
footnote_at_limit : html_of (leaf_events (defining_reader footnotes (codes "[^1] [x]")) never (whole (codes "[^1] [x]")) (record { expansion_left = 0; asked = [] })) ≡ codes "{^1} [x]"
unfolding caseless encode chars token decide ucd_category is_unicode_white_space is_unicode_punctuation agrees pair_of rest_of_opener rest_of_closer kinds_of deactivates closed
footnote_at_limit = refl

-- no callback asks nothing
quiet : (leaf_after (plain_reader no_options (codes "[a]")) website (whole (codes "[a]")) start).asked ≡ []
unfolding caseless encode chars token decide ucd_category is_unicode_white_space is_unicode_punctuation agrees pair_of rest_of_opener rest_of_closer kinds_of deactivates closed
quiet = refl

-- the questions of a leaf come after those of the leaf before, and the rest of the limit is passed on
next_leaf : map Exchange.question (leaf_after (asking no_options (codes "[a] [b]")) never (paragraph (stretch 4 7 ∷ [])) (leaf_after (asking no_options (codes "[a] [b]")) never (paragraph (stretch 0 3 ∷ [])) start)).asked
    ≡ question 0 3 Shortcut (codes "a") ∷ (question 4 7 Shortcut (codes "b") ∷ [])
unfolding caseless encode chars token decide ucd_category is_unicode_white_space is_unicode_punctuation agrees pair_of rest_of_opener rest_of_closer kinds_of deactivates closed
next_leaf = refl

-- of three references with a destination of 60,000 bytes two fit into a limit of 100,000: at the third the limit is used up
abbrev long : List ℕ → Option Definition
long label = Some (record { label = codes "x"; destination = replicate 60000 117; title = None; start = 0; end = 0 })

abbrev places : List Ranged → List ℕ
places [] = []
places (r ∷ rs) = r.start ∷ r.end ∷ places rs

two_of_three : places (leaf_events (record (plain_reader no_options (codes "[x] [x] [x]")) { definition = long }) never (whole (codes "[x] [x] [x]")) start)
    ≡ 0 ∷ 3 ∷ 1 ∷ 2 ∷ 0 ∷ 3 ∷ 3 ∷ 4 ∷ 4 ∷ 7 ∷ 5 ∷ 6 ∷ 4 ∷ 7 ∷ 7 ∷ 8 ∷ 8 ∷ 9 ∷ 9 ∷ 10 ∷ 10 ∷ 11 ∷ []
unfolding caseless encode chars token decide ucd_category is_unicode_white_space is_unicode_punctuation agrees pair_of rest_of_opener rest_of_closer kinds_of deactivates closed
two_of_three = refl

-- references cost the bytes of their destination and title, where they end
abbrev two_references : List Ranged
two_references = leaf_events (defining_reader no_options (codes "[x] ![x]")) never (whole (codes "[x] ![x]")) start

costs_in_order : reference_costs [] two_references ≡ 2 ∷ (2 ∷ [])
unfolding caseless encode chars token decide ucd_category is_unicode_white_space is_unicode_punctuation agrees pair_of rest_of_opener rest_of_closer kinds_of deactivates closed
costs_in_order = refl

costs_up_to_places : map (λ place. spent_before place two_references) (2 ∷ (3 ∷ (7 ∷ (8 ∷ [])))) ≡ 0 ∷ (2 ∷ (2 ∷ (4 ∷ [])))
unfolding caseless encode chars token decide ucd_category is_unicode_white_space is_unicode_punctuation agrees pair_of rest_of_opener rest_of_closer kinds_of deactivates closed
costs_up_to_places = refl
