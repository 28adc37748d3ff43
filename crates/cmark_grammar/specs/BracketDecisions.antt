-- The result of a closing bracket (CommonMark 6.3 and 6.4). All places are places of the source.
use Rattle.std.specs.Prelude.{ℕ, suc, ◌-◌, Bool, true, false, not, ◌==◌, ◌&&◌, ◌||◌, if◌then◌else◌, List, [], ◌∷◌, ◌++◌, length, drop, map, take, Option, Some, None}
use Rattle.cmark_grammar.specs.Characters.{caret, pipe, right_bracket}
use Rattle.cmark_grammar.specs.Answers.{Destination}
use Rattle.cmark_grammar.specs.BlockDocument as block
use Rattle.cmark_grammar.specs.BracketStates.{Opener, State, moved, StaysText, Forms, Outcome, Decision, Settled, Asks}
use Rattle.cmark_grammar.specs.InlineTokens.{from, place_of}
use Rattle.cmark_grammar.specs.Items.{Bracket}
use Rattle.cmark_grammar.specs.Labels.{fold, normal_form}
use Rattle.cmark_grammar.specs.LabelsOverLines.{as_in_cell}
use Rattle.cmark_grammar.specs.LeafText.{Leaf}
use Rattle.cmark_grammar.specs.Letters.{first_is}
use Rattle.cmark_grammar.specs.Lines.{is_content}
use Rattle.cmark_grammar.specs.LinkDefinitions.{Parsed}
use Rattle.cmark_grammar.specs.LinkTails.{LinkTail, link_tail_in, after_collapsed, is_bracketed_label, reference_label_in}
use Rattle.cmark_grammar.specs.LinkType.{LinkType, Inline, Reference, Collapsed, Shortcut, to_unknown}
use Rattle.cmark_grammar.specs.OpenBrackets.{Taken, nearest, used_up, doubled, undoubled, tried, inactive, after_link, dropped}
use Rattle.cmark_grammar.specs.Parts.{Formed, Linking, Footnote, Wiki}
use Rattle.cmark_grammar.specs.Questions.{Question}
use Rattle.cmark_grammar.specs.Readers.{Reader}
use Rattle.cmark_grammar.specs.Tag.{Linked}
use Rattle.cmark_grammar.specs.Tokens.{slice, title_lines}
use Rattle.cmark_grammar.specs.Unescaped.{unescaped}

abbrev pub linked : LinkType → Destination → (id : List ℕ) → Linked
linked link_type found id = record { link_type = link_type; destination = found.url; title = found.title; id = id }

abbrev pub or_empty : Option (List ℕ) → List ℕ
or_empty None = []
or_empty (Some bytes) = bytes

abbrev pub is_there : ℕ → Option ℕ → Bool
is_there place None = false
is_there place (Some other) = place == other

-- a written reference: its label; its form; the place at which it ends; and the place at which reading resumes if it forms a link. The
-- second place is after a following `[]`
pub record Named : Type 0 where
  pub label : List ℕ
  pub link_type : LinkType
  pub end : ℕ
  pub resume : ℕ

-- the bytes before the first `|`, if there is one, and the place after it
abbrev pub name_in : List ℕ → List ℕ
name_in [] = []
name_in (b ∷ bs) = if b == pipe then [] else b ∷ name_in bs

abbrev pub after_pipe : (at : ℕ) → List ℕ → Option ℕ
after_pipe at [] = None
after_pipe at (b ∷ bs) = if b == pipe then Some (suc at) else after_pipe (suc at) bs

module _ (reader : Reader) (leaf : Leaf) where
  abbrev pub following : ℕ → List ℕ
  following at = from reader leaf at

  abbrev pub place : List ℕ → ℕ
  place rest = place_of reader leaf rest

  -- the leaf's bytes between two places
  abbrev pub between : (start end : ℕ) → List ℕ
  between start end = take (length (following start) - length (following end)) (following start)

  abbrev pub stays : Bracket → State → Outcome
  stays closer s = record { result = StaysText; after = moved closer.end s }

  -- with the taken bracket it forms this, and reading resumes after it. The taken bracket and the nearer ones are no longer texts
  abbrev pub forms : Taken → Formed → (resume : ℕ) → (change : List Opener → List Opener) → State → Outcome
  forms taken formed resume change s =
      record { result = Forms taken.nearer formed; after = record s { at = resume; openers = change (drop (suc taken.nearer) s.openers) } }

  -- a link, which contains no other link, or an image
  abbrev pub links : Taken → Linked → (end resume : ℕ) → State → Outcome
  links taken linked end resume s = forms taken (Linking (record { linked = linked; end = end })) resume (after_link taken.opener.bracket.is_image) s

  -- ## Inline links

  abbrev pub tail_destination : LinkTail → Destination
  tail_destination tail =
      record { url = unescaped reader.lookup leaf.is_cell tail.destination; title = unescaped reader.lookup leaf.is_cell (title_lines false (or_empty tail.title)) }

  -- an inline link (CommonMark 6.3), with the destination and the title in parentheses
  abbrev pub inline_link : LinkTail → Taken → State → Outcome
  inline_link tail taken s = links taken (linked Inline (tail_destination tail) []) (place tail.following) (place tail.following) s

  -- ## References

  -- a reference gets its destination: the bytes of the destination and of the title are subtracted from the reference expansion limit (this
  -- profile's own)
  abbrev pub leads : Named → LinkType → Destination → Taken → State → Outcome
  leads named link_type found taken s =
      links taken (linked link_type found (normal_form named.label)) named.end named.resume (record s { expansion_left = s.expansion_left - length found.url - length found.title })

  -- if no definition has its label, the callback is asked, if there is one (this profile's own)
  abbrev pub question : Named → Bracket → Question
  question named opener = record { start = opener.start; end = named.end; link_type = named.link_type; reference = normal_form named.label }

  abbrev pub answered : Named → Taken → Bracket → State → Option Destination → Outcome
  answered named taken closer s None = stays closer s
  answered named taken closer s (Some found) = leads named (to_unknown named.link_type) found taken s

  abbrev pub with_answer : Question → Option Destination → State → State
  with_answer question answer s = record s { asked = s.asked ++ (record { question = question; answer = answer } ∷ []) }

  abbrev pub ask : Named → Taken → Bracket → State → Decision
  ask named taken closer s =
      if reader.has_callback
      then Asks (question named taken.opener.bracket) (λ answer. answered named taken closer (with_answer (question named taken.opener.bracket) answer s) answer)
      else Settled (stays closer s)

  -- its definition gives the destination
  abbrev pub defined_or_asked : Option block.Reference → Named → Taken → Bracket → State → Decision
  defined_or_asked (Some found) named taken closer s =
      Settled (leads named named.link_type (record { url = found.destination; title = or_empty found.title }) taken s)
  defined_or_asked None named taken closer s = ask named taken closer s

  -- when the reference expansion limit is used up, nothing is looked up and no question is asked (this profile's own)
  abbrev pub refers : Named → Taken → Bracket → State → Decision
  refers named taken closer s =
      if s.expansion_left == 0 then Settled (stays closer s) else defined_or_asked (reader.definition (fold named.label)) named taken closer s

  -- ## Footnote references (this profile's own)

  abbrev pub one_line_footnotes : Bool
  one_line_footnotes = reader.options.footnotes && not reader.options.old_footnotes

  abbrev pub is_one_line : List ℕ → Bool
  is_one_line [] = true
  is_one_line (b ∷ bs) = is_content b && is_one_line bs

  -- a `^` and a label, which is on one line except for old footnotes
  abbrev pub is_footnote_label : List ℕ → Bool
  is_footnote_label [] = false
  is_footnote_label (b ∷ bs) = reader.options.footnotes && ((b == caret) && (is_bracketed_label bs && (reader.options.old_footnotes || is_one_line bs)))

  -- its label needs a footnote definition, except for old footnotes; all brackets before it are dropped
  abbrev pub footnote_reference : (label : List ℕ) → Taken → Bracket → State → Decision
  footnote_reference label taken closer s =
      if one_line_footnotes && not (reader.has_footnote (fold label)) then Settled (stays closer s)
      else Settled (forms taken (Footnote (normal_form label) closer.end) closer.end (map dropped) s)

  -- ## The order of the attempts: an inline link, a full reference, and then, by the text between the brackets, a footnote reference or a
  -- collapsed or shortcut reference

  abbrev pub as_label : List ℕ → List ℕ
  as_label bytes = (as_in_cell leaf.is_cell (record { bytes = bytes; following = [] })).bytes

  abbrev pub collapsed_or_shortcut : (label : List ℕ) → (end : ℕ) → Option (List ℕ) → Named
  collapsed_or_shortcut label end None = record { label = label; link_type = Shortcut; end = end; resume = end }
  collapsed_or_shortcut label end (Some rest) = record { label = label; link_type = Collapsed; end = end; resume = place rest }

  -- the text between the brackets is the label: of a footnote reference, or of a collapsed or shortcut reference (CommonMark 6.3)
  abbrev pub by_own_label : (label : List ℕ) → Taken → Bracket → State → Decision
  by_own_label label taken closer s =
      if is_footnote_label label then footnote_reference (as_label (drop 1 label)) taken closer s
      else if is_bracketed_label label then refers (collapsed_or_shortcut (as_label label) closer.end (after_collapsed (following closer.end))) taken closer s
      else Settled (stays closer s)

  -- the bracket that closes the label of a full reference forms no reference by the text between its brackets
  abbrev pub full_reference : Parsed → Taken → Bracket → State → Decision
  full_reference found taken closer s =
      let end = place found.following in
      refers (record { label = as_label found.bytes; link_type = Reference; end = end; resume = end }) taken closer (record s { label_close = Some (end - 1) })

  abbrev pub reference_or : Option Parsed → Taken → Bracket → State → Decision
  reference_or (Some found) taken closer s = full_reference found taken closer s
  reference_or None taken closer s =
      if is_there closer.start s.label_close then Settled (stays closer s)
      else by_own_label (between taken.opener.bracket.end closer.start) taken closer s

  abbrev pub unless_footnote : Option Parsed → Option Parsed
  unless_footnote None = None
  unless_footnote (Some found) = if is_footnote_label found.bytes then None else Some found

  -- an inline link, if the parentheses are there, else a reference (CommonMark 6.3)
  abbrev pub link_or : Option LinkTail → Taken → Bracket → State → Decision
  link_or (Some tail) taken closer s = Settled (inline_link tail taken s)
  link_or None taken closer s = reference_or (unless_footnote (reference_label_in (following closer.end))) taken closer s

  -- without an opening bracket, or with an inactive one, the closing bracket is a text (CommonMark 6.3)
  abbrev pub with_taken : Option Taken → Bracket → State → Decision
  with_taken None closer s = Settled (stays closer s)
  with_taken (Some taken) closer s =
      if taken.opener.is_inactive then Settled (stays closer s) else link_or (link_tail_in (following closer.end)) taken closer s

  -- ## Wikilinks (this profile's own)

  -- a wikilink's name is the source before the first `|`. The wikilink ends after the second closing bracket. Example: `[[name|text]]`
  abbrev pub wiki_text : (first : Taken) → Bracket → List ℕ
  wiki_text first closer = slice reader.source (suc first.opener.bracket.end) closer.start

  -- a wikilink makes the brackets before it inactive, and no longer doubled
  abbrev pub wikilink : (first : Taken) → Bracket → State → Outcome
  wikilink first closer s =
      forms first (Wiki (name_in (wiki_text first closer)) (after_pipe (suc first.opener.bracket.end) (wiki_text first closer)) (suc closer.end)) (suc closer.end)
      (λ os. map undoubled (map inactive os)) s

  -- the doubled bracket is tried: it must be active, and the name must not be empty
  abbrev pub wikilink_or : Option Taken → Option Taken → Bracket → State → Decision
  wikilink_or None taken closer s = with_taken taken closer s
  wikilink_or (Some first) taken closer s =
      if first.opener.is_inactive || (length (name_in (wiki_text first closer)) == 0)
      then with_taken taken closer (record s { openers = tried first.nearer s.openers })
      else Settled (wikilink first closer s)

  -- the closing bracket takes the nearest opening one that is not used up. Directly before another closing bracket it tries the nearest
  -- doubled one first
  abbrev pub taking : Option Taken → Bracket → State → Decision
  taking taken closer s =
      if reader.options.wikilinks && first_is (λ b. b == right_bracket) (following closer.end) then wikilink_or (doubled s.openers) taken closer s
      else with_taken taken closer s

  -- the decision about a closing bracket
  unfoldable pub decide : State → (closer : Bracket) → Decision
  decide s closer = taking (nearest s.openers) closer (record s { openers = used_up s.openers })
