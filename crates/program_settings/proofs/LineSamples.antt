-- Command lines whose results are computed.
use Rattle.std.proofs.Common.{◌≡◌, ◌∷◌, [], true, false, List, Some, None, codes, refl}
use Rattle.clap.specs.Words.{Kinds, Row, Text, fault_of, matches_of, takes}
use Rattle.clap.specs.declared.error.kind.ErrorKind.TheVariants.{ArgumentConflict, DisplayHelp, DisplayVersion, TooManyValues, UnknownArgument}
use Rattle.clap.proofs.OnLiterals.{clap_on_literals}
use Rattle.program_settings.specs.Line.{bits_given, file_given, flags, is_safe_given, line_command}
use Rattle.program_settings.specs.declared.program.Program.TheVariants.{Mdhtml, Mdevents}

abbrev line : List Text → List Text
line words = codes "mdhtml" ∷ words

abbrev rows : List Text → List Row
rows words = matches_of (line_command Mdhtml) (line words)

abbrev faults : List Text → Kinds
faults words = fault_of (line_command Mdhtml) (line words)

no_words : bits_given flags (rows []) ≡ 0
unfolding clap_on_literals
no_words = refl

two_flags : bits_given flags (rows (codes "--gfm" ∷ codes "--tables" ∷ [])) ≡ 2050
unfolding clap_on_literals
two_flags = refl

two_flags_are_taken : takes (line_command Mdhtml) (line (codes "--gfm" ∷ codes "--tables" ∷ [])) ≡ true
unfolding clap_on_literals
two_flags_are_taken = refl

old_footnotes_are_footnotes : bits_given flags (rows (codes "--old-footnotes" ∷ [])) ≡ 516
unfolding clap_on_literals
old_footnotes_are_footnotes = refl

a_file : file_given (rows (codes "--entities" ∷ codes "names.json" ∷ [])) ≡ Some (codes "names.json")
unfolding clap_on_literals
a_file = refl

a_file_after_an_equals_sign : file_given (rows (codes "--entities=names.json" ∷ [])) ≡ Some (codes "names.json")
unfolding clap_on_literals
a_file_after_an_equals_sign = refl

no_file : file_given (rows (codes "--math" ∷ [])) ≡ None
unfolding clap_on_literals
no_file = refl

help_is_asked_for : faults (codes "--help" ∷ []) ≡ DisplayHelp ∷ []
unfolding clap_on_literals
help_is_asked_for = refl

the_version_is_asked_for : faults (codes "-V" ∷ []) ≡ DisplayVersion ∷ []
unfolding clap_on_literals
the_version_is_asked_for = refl

an_unknown_flag : faults (codes "--table" ∷ []) ≡ UnknownArgument ∷ []
unfolding clap_on_literals
an_unknown_flag = refl

a_word_beside_the_flags : faults (codes "file.md" ∷ []) ≡ UnknownArgument ∷ []
unfolding clap_on_literals
a_word_beside_the_flags = refl

a_flag_twice : faults (codes "--math" ∷ codes "--math" ∷ []) ≡ ArgumentConflict ∷ []
unfolding clap_on_literals
a_flag_twice = refl

a_flag_with_a_value : faults (codes "--math=1" ∷ []) ≡ TooManyValues ∷ []
unfolding clap_on_literals
a_flag_with_a_value = refl

safe_html_is_asked_for : is_safe_given (rows (codes "--safe" ∷ codes "--math" ∷ [])) ≡ true
unfolding clap_on_literals
safe_html_is_asked_for = refl

safe_html_sets_no_option : bits_given flags (rows (codes "--safe" ∷ [])) ≡ 0
unfolding clap_on_literals
safe_html_sets_no_option = refl

safe_html_is_not_asked_for : is_safe_given (rows (codes "--math" ∷ [])) ≡ false
unfolding clap_on_literals
safe_html_is_not_asked_for = refl

safe_html_twice : faults (codes "--safe" ∷ codes "--safe" ∷ []) ≡ ArgumentConflict ∷ []
unfolding clap_on_literals
safe_html_twice = refl

mdevents_takes_no_flag_for_safe_html : fault_of (line_command Mdevents) (codes "mdevents" ∷ codes "--safe" ∷ []) ≡ UnknownArgument ∷ []
unfolding clap_on_literals
mdevents_takes_no_flag_for_safe_html = refl
