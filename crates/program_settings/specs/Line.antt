-- The meaning of the words of a command line. `clap`'s definition of a simple command says how words are read.
use Rattle.std.specs.Prelude.{◌≡◌, ◌⊎◌, ◌∷◌, [], ℕ, Bool, true, false, List, Some, Option, fold, codes, if◌then◌else◌, Result, MatchResult}
use Rattle.std.specs.Option.{option_map_or}
use Rattle.std.specs.Str.{bytes_eq}
use Rattle.std.specs.Int.RustNames.{bit_or}
use Rattle.clap.specs.Simple.{on_top}
use Rattle.clap.specs.Words.{App, IsAmong, Kinds, Row, Rule, Text, first_of, new_app, new_rule, with_rule}
use Rattle.clap.specs.declared.builder.action.ArgAction.TheVariants.{Set, SetTrue}
use Rattle.clap.specs.declared.error.kind.ErrorKind.{ErrorKind}
use Rattle.clap.specs.declared.error.kind.ErrorKind.TheVariants.{DisplayHelp, DisplayVersion, OutOfMemory}
use Rattle.cmark_values.specs.declared.options.Options.{Options}
use Rattle.program_settings.specs.declared.flags.LineFlag.{LineFlag}
use Rattle.program_settings.specs.declared.line.LineFault.{LineFault}
use Rattle.program_settings.specs.declared.line.LineFault.TheVariants.{Help, Bad, Memory}
use Rattle.program_settings.specs.declared.line.Settings.{Settings}
use Rattle.program_settings.specs.declared.program.Program.{Program}
use Rattle.program_settings.specs.declared.program.Program.TheVariants.{Mdhtml, Mdevents}

-- the number whose bits are the options
abbrev pub option_bits : Options → ℕ
option_bits options = options.0

-- each flag, without its two hyphens, and the bits that it sets: the bits of its option
abbrev pub flags : List (Text × ℕ)
flags =
    (codes "tables", 2) ∷
    (codes "footnotes", 4) ∷
    (codes "strikethrough", 8) ∷
    (codes "tasklists", 16) ∷
    (codes "smart-punctuation", 32) ∷
    (codes "heading-attributes", 64) ∷
    (codes "yaml-metadata", 128) ∷
    (codes "plus-metadata", 256) ∷
    (codes "old-footnotes", 516) ∷
    (codes "math", 1024) ∷
    (codes "gfm", 2048) ∷
    (codes "definition-list", 4096) ∷
    (codes "superscript", 8192) ∷
    (codes "subscript", 16384) ∷
    (codes "wikilinks", 32768) ∷
    (codes "highlight", 65536) ∷
    (codes "email-autolinks", 131072) ∷
    (codes "github", 133150) ∷ []

abbrev pub shown_flag : LineFlag → Text × ℕ
shown_flag flag = (flag.name.now, option_bits flag.option)

-- ---- the command

-- a flag of the command: it takes no value
abbrev pub flag_rule : Text → Rule
flag_rule name = record (new_rule name) { long = Some name; action = Some SetTrue }

abbrev pub with_flag_rules : App → List (Text × ℕ) → App
with_flag_rules = fold (λ app flag. with_rule app (flag_rule flag.0))

-- `--entities FILE`
abbrev pub file_rule : Rule
file_rule = record (new_rule (codes "entities")) { long = Some (codes "entities"); action = Some Set; value_names = 1 }

-- a command that has `--version`
abbrev pub with_version : App → App
with_version = on_top (λ shape. record shape { has_version = true })

-- the command of this name: a version, and the flags of the options
abbrev pub options_command : Text → App
options_command name = with_flag_rules (with_version (new_app name)) flags

abbrev pub name_of : Program → Text
name_of Mdhtml = codes "mdhtml"
name_of Mdevents = codes "mdevents"

abbrev pub writes_html : Program → Bool
writes_html Mdhtml = true
writes_html Mdevents = false

-- the flag for safe HTML, which a program has if it writes HTML
abbrev pub safe_flag : Text
safe_flag = codes "safe"

abbrev pub with_safe_rule : (writes_html : Bool) → App → App
with_safe_rule true app = with_rule app (flag_rule safe_flag)
with_safe_rule false app = app

-- the command of a program: the flags of the options, the flag for safe HTML if the program writes HTML, and the file
abbrev pub line_command : Program → App
line_command program = with_rule (with_safe_rule (writes_html program) (options_command (name_of program))) file_rule

-- ---- the meaning of its words

-- a flag that was given has the value `true`
abbrev pub is_given : Text → List Row → Bool
is_given name rows = option_map_or (λ value. bytes_eq value (codes "true")) (first_of name rows) false

-- the bits, with the bits of the flag if it was given
abbrev pub bits_with : List Row → ℕ → Text × ℕ → ℕ
bits_with rows bits flag = if is_given flag.0 rows then bit_or bits flag.1 else bits

-- the bits of the flags that were given
abbrev pub bits_given : List (Text × ℕ) → List Row → ℕ
bits_given all rows = fold (bits_with rows) 0 all

-- the flag for safe HTML was given
abbrev pub is_safe_given : List Row → Bool
is_safe_given rows = is_given safe_flag rows

abbrev pub file_given : List Row → Option Text
file_given = first_of (codes "entities")

-- ---- faults

-- the words ask for a text
abbrev pub asks_for_text : ErrorKind → Bool
asks_for_text DisplayHelp = true
asks_for_text DisplayVersion = true
asks_for_text _ = false

-- the fault of a line that is refused with this error
abbrev pub HasLineFault : ErrorKind → LineFault → Type 0
HasLineFault kind (Help text) = asks_for_text kind ≡ true
HasLineFault kind Bad = (asks_for_text kind ≡ false) × (kind ≡ OutOfMemory → ⊥)
HasLineFault kind Memory = (asks_for_text kind ≡ true) ⊎ (kind ≡ OutOfMemory)

-- the faults of words that can be refused only with these kinds. A text comes only if they ask for it, and Bad only if they are refused
-- for another reason; Memory may come at any time
abbrev pub MayFail : Kinds → LineFault → Type 0
MayFail kinds (Help text) = (kind : ErrorKind) × IsAmong kind kinds × (asks_for_text kind ≡ true)
MayFail kinds Bad = (kind : ErrorKind) × IsAmong kind kinds × (asks_for_text kind ≡ false)
MayFail kinds Memory = Unit {0}

-- settings are returned only if there is no such kind
abbrev pub AnswersBy : Kinds → Result Settings LineFault → Type 0
AnswersBy kinds result = MatchResult result (λ settings. kinds ≡ []) (MayFail kinds)
