-- The opening of a line, as that of the grammar.
use Rattle.std.specs.Prelude.{◌≡◌, ℕ, ◌+◌, ◌<◌, ◌≤◌, Bool, ◌||◌, true, List, length, Some}
use Rattle.std.specs.Str.{IsCharBoundary}
use Rattle.cmark_grammar.specs.Characters.{left_bracket}
use Rattle.cmark_grammar.specs.Options.{Options}
use Rattle.cmark_grammar.specs.Rows.{Row, words_of, start_of}
use Rattle.cmark_grammar.specs.Leaves.{counted, code_continuation, is_thematic_break, is_atx_heading, fence_of}
use Rattle.cmark_grammar.specs.HtmlBlocks.{html_kind, html_lines}
use Rattle.cmark_grammar.specs.LinkDefinitions.{definition_in, bytes_over}
use Rattle.cmark_grammar.specs.Containers.{begins_with}
use Rattle.cmark_grammar.specs.Openings as grammar
use Rattle.cmark_grammar.specs.Openings.{table_if, text_lines, defined_if, or_else, fenced_if, is_some_fence, html_interrupts}
use Rattle.cmark_grammar.specs.TableRows.{table_head}
use Rattle.cmark_values.specs.Shown.{level_number}
use Rattle.cmark_scan_lines.specs.HtmlLines.{kind_number}
use Rattle.cmark_scan_lines.specs.LeafLines.{shown_fence, HasPlace}
use Rattle.cmark_scan_lines.specs.declared.leaf.CodeFence.{CodeFence}
use Rattle.cmark_line_rules.specs.Rests.{row_of, IsIn}
use Rattle.cmark_line_rules.specs.Starts.{shown_start, inside_of, Enters, HasMarker}
use Rattle.cmark_line_rules.specs.declared.opening.Opening.{Opening}
use Rattle.cmark_line_rules.specs.declared.opening.Opening.TheVariants.{Blank, Nests, IndentedCode, Html, ThematicBreak, AtxHeading, FencedCode, Bracket, Plain}

-- the opening of a line whose bracket may belong to a link. It is a link reference definition, if this line and those ahead form one, and
-- else a table or a paragraph
abbrev pub bracket_of : Options → Row → List Row → grammar.Opening
bracket_of options r ahead = or_else (defined_if (length (text_lines options ahead)) (definition_in (bytes_over r (text_lines options ahead)))) (table_if options (table_head options r ahead) ahead)

-- the opening of the line, with these lines ahead
abbrev pub opened : Options → Opening → Row → List Row → grammar.Opening
opened options Blank r ahead = grammar.Blank
opened options (Nests start) r ahead = grammar.Nests (shown_start options r start)
opened options IndentedCode r ahead = grammar.Takes grammar.IndentedCode (counted code_continuation ahead)
opened options (Html kind) r ahead = grammar.Takes (grammar.HtmlBlock (kind_number kind)) (html_lines (kind_number kind) r ahead)
opened options ThematicBreak r ahead = grammar.Takes grammar.ThematicBreak 0
opened options (AtxHeading level) r ahead = grammar.Takes (grammar.AtxHeading (level_number level)) 0
opened options (FencedCode indent fence) r ahead = fenced_if (Some (shown_fence indent (words_of r) fence)) ahead
opened options Bracket r ahead = bracket_of options r ahead
opened options Plain r ahead = table_if options (table_head options r ahead) ahead

-- the line inside a container is the one after the container's marker
abbrev pub HasInside : Opening → Row → Type 0
HasInside (Nests start) r = Enters r start
HasInside _ r = Unit {0}

-- the label of a footnote definition is between brackets
abbrev pub IsMarked : Opening → Row → Type 0
IsMarked (Nests start) r = HasMarker r start
IsMarked _ r = Unit {0}

-- the line inside it has fewer columns
abbrev pub InsideIsShorter : Opening → Row → Type 0
InsideIsShorter (Nests start) r = length (row_of (inside_of start)).columns < length r.columns
InsideIsShorter _ r = Unit {0}

-- the info string of a fence is at its places in the words
abbrev pub HasInfo : Opening → Row → Type 0
HasInfo (FencedCode indent fence) r = HasPlace (words_of r) fence
HasInfo _ r = Unit {0}

-- the places are in order, and are character boundaries of this text
abbrev pub InfoStands : List ℕ → Row → CodeFence → Type 0
InfoStands text r fence =
    (fence.info_start ≤ fence.info_end) × (start_of r + fence.info_end ≤ r.content_end) × IsCharBoundary text (start_of r + fence.info_start) × IsCharBoundary text (start_of r + fence.info_end)

abbrev pub InfoIsIn : List ℕ → Opening → Row → Type 0
InfoIsIn text (FencedCode indent fence) r = InfoStands text r fence
InfoIsIn text _ r = Unit {0}

-- a line that may begin a definition begins with a bracket
abbrev pub HasBracket : Opening → Row → Type 0
HasBracket Bracket r = begins_with left_bracket (words_of r) ≡ true
HasBracket _ r = Unit {0}

-- the line inside a container is part of this text
abbrev pub InsideIsIn : List ℕ → Opening → Type 0
InsideIsIn text (Nests start) = IsIn text (inside_of start)
InsideIsIn text _ = Unit {0}

-- whether the words of a line with this indent begin a leaf that interrupts a paragraph
abbrev pub leaf_interrupts : (indent : ℕ) → List ℕ → Bool
leaf_interrupts indent words = is_thematic_break words || (is_atx_heading words || (is_some_fence (fence_of indent words) || html_interrupts (html_kind words)))
