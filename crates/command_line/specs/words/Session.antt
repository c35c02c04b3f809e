-- What `session [--cache N] BINDING...` says.
use Rattle.std.specs.Prelude.{List, Ok, map, ℕ}
use Rattle.command_line.specs.Bindings.{BindingRecord, binding_record}
use Rattle.command_line.specs.BindingWords.{bindings_of}
use Rattle.command_line.specs.FormatOptions.{OptionTexts}
use Rattle.command_line.specs.Misuses.{Reading, when}
use Rattle.command_line.specs.Values.{cache_said}
use Rattle.command_line.specs.declared.words.session.SessionWords.{SessionWords}

pub record SessionRecord : Type 0 where
  pub cache : ℕ
  pub bindings : List BindingRecord

unfoldable pub session_said : OptionTexts → List (List ℕ) → Reading SessionRecord
session_said texts words =
    when (cache_said texts.cache) (λ cache.
    when (bindings_of words) (λ bindings. Ok (record {
      cache = cache;
      bindings = bindings;
    })))

-- what the program's own value says
abbrev pub session_record : SessionWords → SessionRecord
session_record w = record {
  cache = w.cache;
  bindings = map binding_record w.bindings.items;
}
