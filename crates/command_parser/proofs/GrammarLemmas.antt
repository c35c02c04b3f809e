-- Positional words as they are described to clap.
use Rattle.std.proofs.Common.{◌≡◌, ◌<◌, ◌+◌, ℕ, Bool, true, false, List, [], ◌∷◌, ◌++◌, length, map, take, get_or, codes, Option, Some, None, Bor, refl, ap, ap₂, inl, inr, ◌∙◌}
use Rattle.std.specs.Prelude.{◌||◌, IsSomeAnd}
use Rattle.std.proofs.lemmas.List.{map-append, take_more}
use Rattle.clap.specs.Adds.{AddsAliases}
use Rattle.clap.specs.Faults.{fault_of, is_simple_and_free}
use Rattle.clap.specs.Kinds.{HasKind, Kinds}
use Rattle.clap.specs.Lexer.{usize_max}
use Rattle.clap.proofs.OnLiterals.{clap_on_literals}
use Rattle.clap.specs.Simple.{App, is_simple, new_rule, with_rule, with_subcommand}
use Rattle.clap.specs.Values.{kind_of}
use Rattle.clap.specs.Walk.{Rule, Text, rule_of}
use Rattle.clap.specs.declared.builder.action.ArgAction.{ArgAction}
use Rattle.clap.specs.declared.builder.action.ArgAction.TheVariants.{Append}
use Rattle.clap.specs.declared.builder.arg.Arg.{Arg}
use Rattle.clap.specs.declared.builder.range.ValueRange.{ValueRange}
use Rattle.clap.specs.declared.error.Error.{Error}
use Rattle.clap.specs.declared.error.kind.ErrorKind.TheVariants.{OutOfMemory}
use Rattle.command_parser.specs.declared.rows.CommandRow.{CommandRow}
use Rattle.command_parser.specs.declared.option_rows.OptionRow.{OptionRow}
use Rattle.command_parser.specs.Commands.{CommandText, OptionText, commands}
use Rattle.command_parser.specs.Grammar.{command_app, command_text, grammar, option_rule, option_text, with_commands, with_options, word_rule}

is-some : (o : Option ValueRange) (range : ValueRange) → IsSomeAnd o (λ r. r ≡ range) → o ≡ Some range
is-some None range is = absurd is
is-some (Some r) range is = ap (λ x. Some x) is

abbrev any_number : ValueRange
any_number = record { start_inclusive = 0; end_inclusive = usize_max }

pub rule_of-words : (a b c d : Arg) → rule_of a ≡ new_rule (codes "words") → b ≡ record a { num_vals = b.num_vals } → IsSomeAnd b.num_vals (λ r. r ≡ any_number)
    → c ≡ record b { action = Some Append } → d ≡ record c { trailing_var_arg = true } → rule_of d ≡ word_rule
rule_of-words a b c d new ranged range acts trails =
    ap rule_of trails ∙ ap (λ (r : Rule). record r { trailing_var_arg = true })
    (ap rule_of acts ∙ ap (λ (r : Rule). record r { action = Some Append })
    (ap rule_of ranged ∙ ap₂ (λ (r : Rule) (o : Option ValueRange). record r { range = o }) new (is-some b.num_vals any_number range)))

map-names : (names : List (Bor Text)) → map (λ (alias : Bor Text × Bool). alias.0.now) (map (λ n. (n, false)) names) ≡ map (λ n. n.now) names
map-names [] = refl
map-names (n ∷ ns) = ap (λ more. n.now ∷ more) (map-names ns)

-- an option, as it is made step by step
pub rule_of-option : (a b c d : Arg) (name : Bor Text) (others : List (Bor Text)) (act : ArgAction) → rule_of a ≡ new_rule name.now → b ≡ record a { long = Some name }
    → c ≡ record b { action = Some act } → AddsAliases c d (map (λ n. (n, false)) others)
    → rule_of d ≡ record (new_rule name.now) { long = Some name.now; aliases = map (λ n. n.now) others; action = Some act }
rule_of-option a b c d name others act new longs acts adds =
    let told : rule_of c ≡ record (new_rule name.now) { long = Some name.now; action = Some act } =
    ap rule_of acts ∙ ap (λ (r : Rule). record r { action = Some act }) (ap rule_of longs ∙ ap (λ (r : Rule). record r { long = Some name.now }) new) in
    let none : map (λ (alias : Bor Text × Bool). alias.0.now) c.aliases.items ≡ [] = ap (λ (r : Rule). r.aliases) told in
    let aliases : map (λ (alias : Bor Text × Bool). alias.0.now) d.aliases.items ≡ map (λ n. n.now) others =
    ap (map (λ alias. alias.0.now)) adds.1 ∙ (map-append (λ (alias : Bor Text × Bool). alias.0.now) c.aliases.items (map (λ n. (n, false)) others)
    ∙ ap₂ ◌++◌ none (map-names others)) in
    ap rule_of adds.0 ∙ ap₂ (λ (r : Rule) (names : List Text). record r { aliases = names }) told aliases

-- one option more
pub with_options-last : (a : App) (options : List OptionText) (option : OptionText) → with_options a (options ++ option ∷ []) ≡ with_rule (with_options a options) (option_rule option)
unfolding with_options
with_options-last a [] option = refl
with_options-last a (o ∷ os) option = with_options-last (with_rule a (option_rule o)) os option

-- one command more
pub with_commands-last : (a : App) (commands : List CommandText) (command : CommandText) → with_commands a (commands ++ command ∷ []) ≡ with_subcommand (with_commands a commands) (command_app command).top
unfolding with_commands
with_commands-last a [] command = refl
with_commands-last a (c ∷ cs) command = with_commands-last (with_subcommand a (command_app c).top) cs command

pub with_options-more : (a : App) (rows : List OptionRow) (i : ℕ) (d : OptionRow) → i < length rows
    → with_options a (map option_text (take (i + 1) rows)) ≡ with_rule (with_options a (map option_text (take i rows))) (option_rule (option_text (get_or rows i d)))
with_options-more a rows i d there =
    ap (with_options a) (ap (map option_text) (take_more rows i d there) ∙ map-append option_text (take i rows) (get_or rows i d ∷ []))
    ∙ with_options-last a (map option_text (take i rows)) (option_text (get_or rows i d))

pub with_commands-more : (a : App) (rows : List CommandRow) (i : ℕ) (d : CommandRow) → i < length rows
    → with_commands a (map command_text (take (i + 1) rows)) ≡ with_subcommand (with_commands a (map command_text (take i rows))) (command_app (command_text (get_or rows i d))).top
with_commands-more a rows i d there =
    ap (with_commands a) (ap (map command_text) (take_more rows i d there) ∙ map-append command_text (take i rows) (get_or rows i d ∷ []))
    ∙ with_commands-last a (map command_text (take i rows)) (command_text (get_or rows i d))

pub or-none : (b c : Bool) → c ≡ false → (b || c) ≡ b
or-none true c none = refl
or-none false c none = none

pub with_options-none : (a : App) → a ≡ with_options a []
unfolding with_options
with_options-none a = refl

pub with_commands-none : (a : App) → a ≡ with_commands a []
unfolding with_commands
with_commands-none a = refl

-- clap says what it makes of words for such commands
pub is_simple-grammar : is_simple grammar ≡ true
unfolding grammar commands with_commands with_options clap_on_literals
is_simple-grammar = refl

-- and by which kinds it refuses words
pub is_free-grammar : is_simple_and_free grammar ≡ true
unfolding grammar commands with_commands with_options clap_on_literals
is_free-grammar = refl

-- an error other than a failed allocation has a kind
has-kinds : (kinds : Kinds) (error : Error) → HasKind kinds error → (kind_of error ≡ OutOfMemory → ⊥) → kinds ≡ [] → ⊥
has-kinds kinds error (inl memory) other none = other memory
has-kinds [] error (inr among) other none = among
has-kinds (kind ∷ kinds) error (inr among) other none = let clash : kind ∷ kinds ≡ [] = none in cc

-- words that the program's command line refuses
pub refused-grammar : (a : App) (words : List Text) (error : Error) → a ≡ grammar → HasKind (fault_of a words) error → (kind_of error ≡ OutOfMemory → ⊥) → fault_of grammar words ≡ [] → ⊥
refused-grammar a words error is kinds other none = has-kinds (fault_of a words) error kinds other (ap (λ (b : App). fault_of b words) is ∙ none)
