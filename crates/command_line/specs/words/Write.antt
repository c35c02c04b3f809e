-- What `write [--cache N] STACK NAME FIRST SOURCE BINDING...` says.
use Rattle.std.specs.Prelude.{◌&&◌, codes, List, Ok, map, ℕ}
use Rattle.std.specs.Str.{bytes_eq}
use Rattle.command_line.specs.Bindings.{BindingRecord, binding_record}
use Rattle.command_line.specs.BindingWords.{bindings_of}
use Rattle.command_line.specs.FormatOptions.{OptionTexts}
use Rattle.command_line.specs.Misuses.{Reading, refuse_if, when}
use Rattle.command_line.specs.Positional.{number_at, positional}
use Rattle.command_line.specs.Values.{cache_said}
use Rattle.command_line.specs.declared.misuse.Cause.TheVariants.{StandardInput}
use Rattle.command_line.specs.declared.words.write.WriteWords.{WriteWords}

pub record WriteRecord : Type 0 where
  pub cache : ℕ
  pub stack : List ℕ
  pub name : List ℕ
  pub first : ℕ
  pub source : List ℕ
  pub bindings : List BindingRecord

unfoldable pub write_said : OptionTexts → List (List ℕ) → Reading WriteRecord
write_said texts words =
    when (positional (codes "STACK") words) (λ stack.
    when (positional (codes "NAME") stack.1) (λ name.
    when (number_at (codes "FIRST") name.1) (λ first.
    when (positional (codes "SOURCE") first.1) (λ source.
    when (refuse_if (bytes_eq stack.0 (codes "-") && bytes_eq source.0 (codes "-")) (codes "SOURCE") StandardInput) (λ a.
    when (cache_said texts.cache) (λ cache.
    when (bindings_of source.1) (λ bindings. Ok (record {
      cache = cache;
      stack = stack.0;
      name = name.0;
      first = first.0;
      source = source.0;
      bindings = bindings;
    }))))))))

-- what the program's own value says
abbrev pub write_record : WriteWords → WriteRecord
write_record w = record {
  cache = w.cache;
  stack = w.stack.now;
  name = w.transfer.name.now;
  first = w.transfer.first;
  source = w.transfer.source.now;
  bindings = map binding_record w.bindings.items;
}
