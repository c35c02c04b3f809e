-- What `read [--cache N] STACK NAME FIRST COUNT BINDING...` says.
use Rattle.std.specs.Prelude.{codes, List, Ok, map, ℕ}
use Rattle.command_line.specs.Bindings.{BindingRecord, binding_record}
use Rattle.command_line.specs.BindingWords.{bindings_of}
use Rattle.command_line.specs.FormatOptions.{OptionTexts}
use Rattle.command_line.specs.Misuses.{Reading, when}
use Rattle.command_line.specs.Positional.{number_at, positional}
use Rattle.command_line.specs.Values.{cache_said}
use Rattle.command_line.specs.declared.words.read.ReadWords.{ReadWords}

pub record ReadRecord : Type 0 where
  pub cache : ℕ
  pub stack : List ℕ
  pub name : List ℕ
  pub first : ℕ
  pub count : ℕ
  pub bindings : List BindingRecord

unfoldable pub read_said : OptionTexts → List (List ℕ) → Reading ReadRecord
read_said texts words =
    when (positional (codes "STACK") words) (λ stack.
    when (positional (codes "NAME") stack.1) (λ name.
    when (number_at (codes "FIRST") name.1) (λ first.
    when (number_at (codes "COUNT") first.1) (λ count.
    when (cache_said texts.cache) (λ cache.
    when (bindings_of count.1) (λ bindings. Ok (record {
      cache = cache;
      stack = stack.0;
      name = name.0;
      first = first.0;
      count = count.0;
      bindings = bindings;
    })))))))

-- what the program's own value says
abbrev pub read_record : ReadWords → ReadRecord
read_record w = record {
  cache = w.cache;
  stack = w.stack.now;
  name = w.sectors.name.now;
  first = w.sectors.first;
  count = w.sectors.count;
  bindings = map binding_record w.bindings.items;
}
