-- What `cat [--cache N] [--progress] [--first N] [--count N] STACK NAME BINDING...` says.
use Rattle.std.specs.Prelude.{codes, Bool, List, Option, Ok, map, ℕ}
use Rattle.command_line.specs.Bindings.{BindingRecord, binding_record}
use Rattle.command_line.specs.BindingWords.{bindings_of}
use Rattle.command_line.specs.FormatOptions.{OptionTexts}
use Rattle.command_line.specs.Misuses.{Reading, when}
use Rattle.command_line.specs.Positional.{positional}
use Rattle.command_line.specs.Values.{cache_said, count_said, first_said}
use Rattle.command_line.specs.declared.words.cat.CatWords.{CatWords}

pub record CatRecord : Type 0 where
  pub cache : ℕ
  pub first : ℕ
  pub count : Option ℕ
  pub stack : List ℕ
  pub name : List ℕ
  pub bindings : List BindingRecord
  pub progress : Bool

unfoldable pub cat_said : OptionTexts → List (List ℕ) → Reading CatRecord
cat_said texts words =
    when (positional (codes "STACK") words) (λ stack.
    when (positional (codes "NAME") stack.1) (λ name.
    when (cache_said texts.cache) (λ cache.
    when (first_said texts.first) (λ first.
    when (count_said texts.count) (λ count.
    when (bindings_of name.1) (λ bindings. Ok (record {
      cache = cache;
      first = first;
      count = count;
      stack = stack.0;
      name = name.0;
      bindings = bindings;
      progress = texts.progress;
    })))))))

-- what the program's own value says
abbrev pub cat_record : CatWords → CatRecord
cat_record w = record {
  cache = w.cache;
  first = w.first;
  count = w.count;
  stack = w.stack.now;
  name = w.name.now;
  bindings = map binding_record w.bindings.items;
  progress = w.progress;
}
