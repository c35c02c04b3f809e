-- What `nbd --all [--cache N] STACK BINDING...` says.
use Rattle.std.specs.Prelude.{codes, List, Ok, map, ℕ, ◌==◌, ◌∷◌, [], not}
use Rattle.std.specs.List.{list_any}
use Rattle.std.specs.Str.{bytes_eq}
use Rattle.command_line.specs.Bindings.{BindingRecord, binding_record}
use Rattle.command_line.specs.BindingWords.{bindings_of}
use Rattle.command_line.specs.FormatOptions.{OptionTexts}
use Rattle.command_line.specs.Misuses.{Reading, refuse_if, when}
use Rattle.command_line.specs.Positional.{positional}
use Rattle.command_line.specs.Values.{cache_said}
use Rattle.command_line.specs.declared.misuse.Cause.TheVariants.{NameWithAll, StandardInput}
use Rattle.command_line.specs.declared.words.exports.ExportsWords.{ExportsWords}

pub record ExportsRecord : Type 0 where
  pub cache : ℕ
  pub stack : List ℕ
  pub bindings : List BindingRecord

-- the argument after STACK is a binding, which has an `=` (61), and no device's name
abbrev pub no_name : List (List ℕ) → Reading (Unit {0})
no_name [] = Ok tt
no_name (word ∷ words) = refuse_if (not (list_any (λ b. b == 61) word)) word NameWithAll

-- STACK isn't `-`, the standard input, which is the client's
unfoldable pub exports_said : OptionTexts → List (List ℕ) → Reading ExportsRecord
exports_said texts words =
    when (positional (codes "STACK") words) (λ stack.
    when (refuse_if (bytes_eq stack.0 (codes "-")) (codes "STACK") StandardInput) (λ a.
    when (no_name stack.1) (λ b.
    when (cache_said texts.cache) (λ cache.
    when (bindings_of stack.1) (λ bindings. Ok (record {
      cache = cache;
      stack = stack.0;
      bindings = bindings;
    }))))))

-- what the program's own value says
abbrev pub exports_record : ExportsWords → ExportsRecord
exports_record w = record {
  cache = w.cache;
  stack = w.stack.now;
  bindings = map binding_record w.bindings.items;
}
