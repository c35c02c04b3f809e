-- What words say, as clap cuts them.
use Rattle.std.proofs.Common.{◌≡◌, Bool, List, [], ◌∷◌, length, map, codes, Option, Some, None, Ok, Err, refl, ap, sym, inr, ◌∙◌}
use Rattle.std.specs.Prelude.{option_map, unwrap_or, Box}
use Rattle.clap.proofs.WalkLemmas.{raw_values-rows}
use Rattle.clap.specs.Faults.{fault_of}
use Rattle.clap.specs.Kinds.{Kinds}
use Rattle.clap.specs.Matches.{matched_of, raw_values, subcommand_name_of}
use Rattle.clap.specs.Simple.{subcommand_of, subcommand_rows, subcommand_rows_of}
use Rattle.std.specs.Borrow.{Bor}
use Rattle.std.specs.Box.{box_value}
use Rattle.clap.specs.declared.parser.matches.ArgMatches.TheViews.{out-ArgMatches, out-SubCommand}
use Rattle.clap.specs.declared.parser.matches.SubCommand.{SubCommand}
use Rattle.clap.specs.Walk.{Row, Text, rows_of}
use Rattle.clap.specs.declared.parser.matches.ArgMatches.{ArgMatches}
use Rattle.clap.specs.declared.parser.matches.Found.{Found}
use Rattle.command_line.specs.declared.fault.WordsFault.{WordsFault}
use Rattle.command_line.specs.declared.fault.WordsFault.TheVariants.{NoMemory, Usage}
use Rattle.command_line.specs.CommandWords.{IsMisuse, RefusesWords, invocation_of}
use Rattle.command_line.specs.FormatOptions.{OptionTexts}
use Rattle.command_line.specs.ImageValues.{options_read}
use Rattle.command_line.specs.Invocations.{InvocationRecord}
use Rattle.command_line.specs.Misuses.{MisuseRecord, Reading, said_as, when}
use Rattle.command_parser.specs.CommandLines.{IsUnread, LineRecord, is_behind_dashes, line_invoked, line_said, line_with, positional_in, said_by_cut, texts_in, unless_refused, with_values}
use Rattle.command_parser.specs.Grammar.{grammar}
use Rattle.command_parser.specs.Memory.{IsMemoryEnd}
use Rattle.command_parser.specs.Unread.{unread, unread_argument}

-- words that clap takes
taken-invoked : (words : List Text) → fault_of grammar words ≡ [] → line_invoked words ≡ said_by_cut words (subcommand_of grammar words)
unfolding line_invoked
taken-invoked words taken = ap (λ (kinds : Kinds). unless_refused kinds words (said_by_cut words (subcommand_of grammar words))) taken

-- words that clap refuses
refused-invoked : (words : List Text) (kinds : Kinds) → fault_of grammar words ≡ kinds → (kinds ≡ [] → ⊥) → line_invoked words ≡ Err (unread_argument words)
unfolding line_invoked
refused-invoked words [] is some = absurd (some refl)
refused-invoked words (kind ∷ kinds) is some = ap (λ (k : Kinds). unless_refused k words (said_by_cut words (subcommand_of grammar words))) is

pub unread-invoked : (words : List Text) (fault : WordsFault) → IsMisuse (IsUnread words) fault → IsMisuse (λ misuse. line_invoked words ≡ Err misuse) fault
unread-invoked words (Usage misuse) is = refused-invoked words (fault_of grammar words) refl is.0 ∙ ap (λ (m : MisuseRecord). Err m) (sym is.1)
unread-invoked words NoMemory is = tt

-- what the getters read
said-some : (words : List Text) (name : Text) (found : Found) (options : OptionTexts) (texts : List Text) (behind : Bool) → subcommand_of grammar words ≡ Some (name, rows_of found)
    → options ≡ texts_in (rows_of found) → texts ≡ unwrap_or (option_map raw_values (matched_of found (codes "words"))) [] → behind ≡ is_behind_dashes words (length texts)
    → said_by_cut words (subcommand_of grammar words) ≡ said_as (line_with options) (invocation_of name options texts behind)
said-some words name found options texts behind is is_options are is_behind =
    let positional : texts ≡ positional_in (rows_of found) = are ∙ ap (λ o. unwrap_or o []) (raw_values-rows found (codes "words")) in
    ap (said_by_cut words) is ∙ rw (is_behind, is_options, positional) refl

-- the command that a parse met
pub entered-is : (found : ArgMatches) (name : Text) (rows : List Row) → Some name ≡ subcommand_name_of found → Some rows ≡ option_map (λ p. p.1) (subcommand_rows_of found)
    → subcommand_rows_of found ≡ Some (name, rows)
entered-is found name rows named are = pair (subcommand_rows_of found) (named ∙ first (out-ArgMatches found).subcommand) are
  where
    first : {Z : Type 0} (o : Option (Box SubCommand Z)) → option_map (λ b. (out-SubCommand (box_value b)).name.now) o ≡ option_map (λ (p : Text × List Row). p.0) (subcommand_rows o)
    first None = refl
    first (Some b) = refl

    pair : (o : Option (Text × List Row)) → Some name ≡ option_map (λ p. p.0) o → Some rows ≡ option_map (λ p. p.1) o → o ≡ Some (name, rows)
    pair None is are = let clash : Some name ≡ None = is in cc
    pair (Some p) is are = let first : name ≡ p.0 = cc in let second : rows ≡ p.1 = cc in rw (first, second) refl

-- the positional words, of which there may be none
pub texts-are : (o : Option (Bor (List (Bor Text)))) (d : Bor (List (Bor Text))) → d.now ≡ [] → map (λ word. word.now) (unwrap_or o d).now ≡ unwrap_or (option_map (λ s. map (λ v. v.now) s.now) o) []
texts-are None d none = ap (map (λ word. word.now)) none
texts-are (Some s) d none = refl

-- what the words invoke, of a parse that met a command
pub said-is : (words : List Text) (matches : ArgMatches) (found : Found) (name bytes : Text) (options : OptionTexts) (texts : List Text) (behind : Bool)
    → fault_of grammar words ≡ [] → subcommand_rows_of matches ≡ subcommand_of grammar words → Some name ≡ subcommand_name_of matches
    → Some (rows_of found) ≡ option_map (λ p. p.1) (subcommand_rows_of matches) → bytes ≡ name → options ≡ texts_in (rows_of found)
    → texts ≡ unwrap_or (option_map raw_values (matched_of found (codes "words"))) [] → behind ≡ is_behind_dashes words (length texts)
    → line_invoked words ≡ said_as (line_with options) (invocation_of bytes options texts behind)
said-is words matches found name bytes options texts behind taken cut named are same is_options are_texts is_behind =
    taken-invoked words taken
    ∙ said-some words bytes found options texts behind (sym cut ∙ entered-is matches bytes (rows_of found) (ap (λ t. Some t) same ∙ named) are) is_options are_texts is_behind

-- a command that refuses words
pub refused-line : (words : List Text) (options : OptionTexts) (said : Reading InvocationRecord) (fault : WordsFault) → line_invoked words ≡ said_as (line_with options) said
    → RefusesWords said fault → IsMisuse (λ misuse. line_invoked words ≡ Err misuse) fault
refused-line words options said (Usage misuse) is refuses = is ∙ ap (said_as (line_with options)) refuses
refused-line words options said NoMemory is refuses = tt

-- a reader whose allocation was refused
pub reader-memory : {A : Type 0} (words : List Text) (said : Reading A) (fault : WordsFault) → RefusesWords said fault → IsMemoryEnd words fault
reader-memory words said (Usage misuse) refuses = tt
reader-memory words said NoMemory refuses = inr refuses

-- arguments that invoke nothing
pub line_said-misused : (words : List Text) (fault : WordsFault) → IsMisuse (λ misuse. line_invoked words ≡ Err misuse) fault → IsMisuse (λ misuse. line_said words ≡ Err misuse) fault
unfolding line_said
line_said-misused words (Usage misuse) is = ap (λ (said : Reading LineRecord). when said with_values) is
line_said-misused words NoMemory is = tt

-- a command, whose options say values of an image
pub line_said-read : (words : List Text) (line : LineRecord) → line_invoked words ≡ Ok line → options_read line.options ≡ Ok tt → line_said words ≡ Ok line
unfolding line_said
line_said-read words line is read = ap (λ (said : Reading LineRecord). when said with_values) is ∙ ap (λ (said : Reading (Unit {0})). when said (λ done. Ok line)) read

-- or of which one doesn't
pub line_said-unread : (words : List Text) (line : LineRecord) (fault : WordsFault) → line_invoked words ≡ Ok line → RefusesWords (options_read line.options) fault
    → IsMisuse (λ misuse. line_said words ≡ Err misuse) fault
unfolding line_said
line_said-unread words line (Usage misuse) is refuses = ap (λ (said : Reading LineRecord). when said with_values) is ∙ ap (λ (said : Reading (Unit {0})). when said (λ done. Ok line)) refuses
line_said-unread words line NoMemory is refuses = tt

-- arguments in which clap finds no command
pub none-said : (words : List Text) (matches : ArgMatches) → fault_of grammar words ≡ [] → subcommand_rows_of matches ≡ subcommand_of grammar words
    → None ≡ option_map (λ p. p.1) (subcommand_rows_of matches) → line_invoked words ≡ Err unread
none-said words matches taken cut are = taken-invoked words taken ∙ ap (said_by_cut words) (sym cut ∙ none-is (subcommand_rows_of matches) are)
  where
    none-is : (o : Option (Text × List Row)) → None ≡ option_map (λ (p : Text × List Row). p.1) o → o ≡ None
    none-is None are = refl
    none-is (Some p) are = let clash : None ≡ Some p.1 = are in cc
