-- The numbers in flat records.
use Rattle.std.specs.Prelude.{ℕ}

-- the kinds of records
abbrev pub further_kind : ℕ
further_kind = 0

abbrev pub start_kind : ℕ
start_kind = 1

abbrev pub end_kind : ℕ
end_kind = 2

abbrev pub text_kind : ℕ
text_kind = 3

abbrev pub code_kind : ℕ
code_kind = 4

abbrev pub inline_math_kind : ℕ
inline_math_kind = 5

abbrev pub display_math_kind : ℕ
display_math_kind = 6

abbrev pub html_kind : ℕ
html_kind = 7

abbrev pub inline_html_kind : ℕ
inline_html_kind = 8

abbrev pub footnote_reference_kind : ℕ
footnote_reference_kind = 9

abbrev pub soft_break_kind : ℕ
soft_break_kind = 10

abbrev pub hard_break_kind : ℕ
hard_break_kind = 11

abbrev pub rule_kind : ℕ
rule_kind = 12

abbrev pub task_list_marker_kind : ℕ
task_list_marker_kind = 13

abbrev pub definition_kind : ℕ
definition_kind = 14

abbrev pub question_kind : ℕ
question_kind = 15

abbrev pub answer_kind : ℕ
answer_kind = 16

-- the tags of elements; a record of another kind than a start, an end or a further record has none
abbrev pub paragraph_tag : ℕ
paragraph_tag = 1

abbrev pub heading_tag : ℕ
heading_tag = 2

abbrev pub block_quote_tag : ℕ
block_quote_tag = 3

abbrev pub code_block_tag : ℕ
code_block_tag = 4

abbrev pub html_block_tag : ℕ
html_block_tag = 5

abbrev pub list_tag : ℕ
list_tag = 6

abbrev pub item_tag : ℕ
item_tag = 7

abbrev pub footnote_definition_tag : ℕ
footnote_definition_tag = 8

abbrev pub definition_list_tag : ℕ
definition_list_tag = 9

abbrev pub definition_list_title_tag : ℕ
definition_list_title_tag = 10

abbrev pub definition_list_definition_tag : ℕ
definition_list_definition_tag = 11

abbrev pub table_tag : ℕ
table_tag = 12

abbrev pub table_head_tag : ℕ
table_head_tag = 13

abbrev pub table_row_tag : ℕ
table_row_tag = 14

abbrev pub table_cell_tag : ℕ
table_cell_tag = 15

abbrev pub emphasis_tag : ℕ
emphasis_tag = 16

abbrev pub strong_tag : ℕ
strong_tag = 17

abbrev pub strikethrough_tag : ℕ
strikethrough_tag = 18

abbrev pub superscript_tag : ℕ
superscript_tag = 19

abbrev pub subscript_tag : ℕ
subscript_tag = 20

abbrev pub highlight_tag : ℕ
highlight_tag = 21

abbrev pub link_tag : ℕ
link_tag = 22

abbrev pub image_tag : ℕ
image_tag = 23

abbrev pub metadata_block_tag : ℕ
metadata_block_tag = 24

abbrev pub no_tag : ℕ
no_tag = 0

-- the contents of further records
abbrev pub title_part : ℕ
title_part = 1

abbrev pub label_part : ℕ
label_part = 2

abbrev pub heading_id_part : ℕ
heading_id_part = 3

abbrev pub class_part : ℕ
class_part = 4

abbrev pub attribute_part : ℕ
attribute_part = 5

abbrev pub value_part : ℕ
value_part = 6

abbrev pub no_value_part : ℕ
no_value_part = 7

abbrev pub first_number_part : ℕ
first_number_part = 8

-- the link types
abbrev pub inline_link : ℕ
inline_link = 0

abbrev pub reference_link : ℕ
reference_link = 1

abbrev pub reference_unknown_link : ℕ
reference_unknown_link = 2

abbrev pub collapsed_link : ℕ
collapsed_link = 3

abbrev pub collapsed_unknown_link : ℕ
collapsed_unknown_link = 4

abbrev pub shortcut_link : ℕ
shortcut_link = 5

abbrev pub shortcut_unknown_link : ℕ
shortcut_unknown_link = 6

abbrev pub autolink_link : ℕ
autolink_link = 7

abbrev pub email_link : ℕ
email_link = 8

abbrev pub wikilink_link : ℕ
wikilink_link = 9

abbrev pub wikilink_with_pothole_link : ℕ
wikilink_with_pothole_link = 10

-- the alignments of a table's columns
abbrev pub unaligned_column : ℕ
unaligned_column = 0

abbrev pub left_column : ℕ
left_column = 1

abbrev pub center_column : ℕ
center_column = 2

abbrev pub right_column : ℕ
right_column = 3

-- the kinds of block quotes
abbrev pub no_alert_quote : ℕ
no_alert_quote = 0

abbrev pub note_quote : ℕ
note_quote = 1

abbrev pub tip_quote : ℕ
tip_quote = 2

abbrev pub important_quote : ℕ
important_quote = 3

abbrev pub warning_quote : ℕ
warning_quote = 4

abbrev pub caution_quote : ℕ
caution_quote = 5

-- the kinds of code blocks
abbrev pub indented_block : ℕ
indented_block = 0

abbrev pub fenced_block : ℕ
fenced_block = 1

-- the kinds of metadata blocks
abbrev pub yaml_metadata : ℕ
yaml_metadata = 0

abbrev pub pluses_metadata : ℕ
pluses_metadata = 1

-- the data of a list that is bulleted or ordered, and of a checkbox
abbrev pub no : ℕ
no = 0

abbrev pub yes : ℕ
yes = 1

-- the data of whatever needs none
abbrev pub no_data : ℕ
no_data = 0
