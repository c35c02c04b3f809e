-- What `store [--cache N] [--progress] [--first N] STACK NAME SOURCE BINDING...` says.
use Rattle.std.specs.Prelude.{◌&&◌, codes, Bool, List, Ok, map, ℕ}
use Rattle.std.specs.Str.{bytes_eq}
use Rattle.command_line.specs.Bindings.{BindingRecord, binding_record}
use Rattle.command_line.specs.BindingWords.{bindings_of}
use Rattle.command_line.specs.FormatOptions.{OptionTexts}
use Rattle.command_line.specs.Misuses.{Reading, refuse_if, when}
use Rattle.command_line.specs.Positional.{positional}
use Rattle.command_line.specs.Values.{cache_said, first_said}
use Rattle.command_line.specs.declared.misuse.Cause.TheVariants.{StandardInput}
use Rattle.command_line.specs.declared.words.store.StoreWords.{StoreWords}

pub record StoreRecord : Type 0 where
  pub cache : ℕ
  pub first : ℕ
  pub stack : List ℕ
  pub name : List ℕ
  pub source : List ℕ
  pub bindings : List BindingRecord
  pub progress : Bool

unfoldable pub store_said : OptionTexts → List (List ℕ) → Reading StoreRecord
store_said texts words =
    when (positional (codes "STACK") words) (λ stack.
    when (positional (codes "NAME") stack.1) (λ name.
    when (positional (codes "SOURCE") name.1) (λ source.
    when (refuse_if (bytes_eq stack.0 (codes "-") && bytes_eq source.0 (codes "-")) (codes "SOURCE") StandardInput) (λ a.
    when (cache_said texts.cache) (λ cache.
    when (first_said texts.first) (λ first.
    when (bindings_of source.1) (λ bindings. Ok (record {
      cache = cache;
      first = first;
      stack = stack.0;
      name = name.0;
      source = source.0;
      bindings = bindings;
      progress = texts.progress;
    }))))))))

-- what the program's own value says
abbrev pub store_record : StoreWords → StoreRecord
store_record w = record {
  cache = w.cache;
  first = w.first;
  stack = w.stack.now;
  name = w.name.now;
  source = w.source.now;
  bindings = map binding_record w.bindings.items;
  progress = w.progress;
}
