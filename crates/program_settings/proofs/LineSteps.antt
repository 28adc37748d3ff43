-- Facts about the command that hold for all words.
use Rattle.std.proofs.Common.{◌≡◌, ◌∙◌, ◌⊎◌, ◌≤◌, ◌<◌, ◌∷◌, [], arith, length, map, true, false, true≢false, List, None, Result, Ok, Err, IfOk, inl, inr, refl, sym, ap}
use Rattle.std.specs.declared.alloc.AllocError.{AllocError}
use Rattle.clap.specs.Words.{AddsArg, App, HasMatchesOf, IsAmong, Kinds, Text, app_of, fault_of, found_of, is_simple, is_simple_and_free, matches_of, rows_of, rule_of, with_rule}
use Rattle.clap.specs.declared.builder.arg.Arg.{Arg}
use Rattle.clap.specs.declared.builder.command.Command.{Command}
use Rattle.clap.specs.declared.error.kind.ErrorKind.{ErrorKind}
use Rattle.clap.specs.declared.error.kind.ErrorKind.TheVariants.{OutOfMemory}
use Rattle.clap.specs.declared.parser.matches.ArgMatches.{ArgMatches}
use Rattle.clap.proofs.OnLiterals.{clap_on_literals}
use Rattle.program_settings.specs.Line.{HasLineFault, MayFail, asks_for_text, bits_given, file_given, file_rule, flags, is_safe_given, line_command, name_of, options_command, with_safe_rule, writes_html}
use Rattle.program_settings.specs.declared.line.LineFault.{LineFault}
use Rattle.program_settings.specs.declared.line.LineFault.TheVariants.{Help, Bad, Memory}
use Rattle.program_settings.specs.declared.program.Program.{Program}
use Rattle.program_settings.specs.declared.program.Program.TheVariants.{Mdhtml, Mdevents}

pub simple_and_free : (program : Program) → is_simple_and_free (line_command program) ≡ true
unfolding clap_on_literals
simple_and_free Mdhtml = refl
simple_and_free Mdevents = refl

pub simple : (program : Program) → is_simple (line_command program) ≡ true
unfolding clap_on_literals
simple Mdhtml = refl
simple Mdevents = refl

-- a command to which the file's argument is added
pub file_added : (program : Program) (old : Command) (a : Arg) (result : Result Command AllocError)
    → IfOk result (AddsArg old a) → rule_of a ≡ file_rule → a.global ≡ false
    → app_of old ≡ with_safe_rule (writes_html program) (options_command (name_of program)) → IfOk result (λ c. app_of c ≡ line_command program)
file_added program old a (Ok made) adds rule local is = adds.shape local ∙ ap (with_rule (app_of old)) rule ∙ ap (λ app. with_rule app file_rule) is
file_added program old a (Err e) adds rule local is = tt

-- the matches of the command are those of its words
pub rows_are : (a : App) (program : Program) (words : List Text) (m : ArgMatches) → a ≡ line_command program → HasMatchesOf a words m → rows_of (found_of m) ≡ matches_of (line_command program) words
rows_are a program words m is has = (has (ap is_simple is ∙ simple program)).0 ∙ ap (λ command. matches_of command words) is

-- a refusal of the command is a fault of its kind
pub may_fail : (kinds : Kinds) (kind : ErrorKind) (fault : LineFault) → (kind ≡ OutOfMemory) ⊎ IsAmong kind kinds → HasLineFault kind fault → MayFail kinds fault
may_fail kinds kind (Help text) (inl out) asks = absurd (true≢false (sym asks ∙ ap asks_for_text out))
may_fail kinds kind (Help text) (inr among) asks = (kind, among, asks)
may_fail kinds kind Bad (inl out) has = absurd (has.1 out)
may_fail kinds kind Bad (inr among) has = (kind, among, has.0)
may_fail kinds kind Memory among has = tt

-- refused memory becomes the fault Memory
pub is_memory : (kind : ErrorKind) (fault : LineFault) → kind ≡ OutOfMemory → HasLineFault kind fault → fault ≡ Memory
is_memory kind (Help text) out asks = absurd (true≢false (sym asks ∙ ap asks_for_text out))
is_memory kind Bad out has = absurd (has.1 out)
is_memory kind Memory out has = refl

-- the program's name alone gives no flags, and is accepted
pub no_bits : (program : Program) (word : Text) → bits_given flags (matches_of (line_command program) (word ∷ [])) ≡ 0
unfolding clap_on_literals
no_bits Mdhtml word = refl
no_bits Mdevents word = refl

pub not_safe : (program : Program) (word : Text) → is_safe_given (matches_of (line_command program) (word ∷ [])) ≡ false
unfolding clap_on_literals
not_safe Mdhtml word = refl
not_safe Mdevents word = refl

pub no_file : (program : Program) (word : Text) → file_given (matches_of (line_command program) (word ∷ [])) ≡ None
unfolding clap_on_literals
no_file Mdhtml word = refl
no_file Mdevents word = refl

pub no_fault : (program : Program) (word : Text) → fault_of (line_command program) (word ∷ []) ≡ []
unfolding clap_on_literals
no_fault Mdhtml word = refl
no_fault Mdevents word = refl

-- a list of one word, as it is shown
pub only_word : {A : Type 0} (f : A → Text) (words : List A) → 1 ≤ length words → length words < 2 → (word : Text) × (map f words ≡ word ∷ [])
only_word f [] low high = absurd (omega arith)
only_word f (w ∷ []) low high = (f w, refl)
only_word f (w ∷ v ∷ ws) low high = absurd (omega arith)
