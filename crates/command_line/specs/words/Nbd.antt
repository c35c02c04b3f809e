-- What `nbd [--cache N] STACK NAME BINDING...` says.
use Rattle.std.specs.Prelude.{codes, List, Ok, map, ℕ}
use Rattle.std.specs.Str.{bytes_eq}
use Rattle.command_line.specs.Bindings.{BindingRecord, binding_record}
use Rattle.command_line.specs.BindingWords.{bindings_of}
use Rattle.command_line.specs.FormatOptions.{OptionTexts}
use Rattle.command_line.specs.Misuses.{Reading, refuse_if, when}
use Rattle.command_line.specs.Positional.{positional}
use Rattle.command_line.specs.Values.{cache_said}
use Rattle.command_line.specs.declared.misuse.Cause.TheVariants.{StandardInput}
use Rattle.command_line.specs.declared.words.nbd.NbdWords.{NbdWords}

pub record NbdRecord : Type 0 where
  pub cache : ℕ
  pub stack : List ℕ
  pub name : List ℕ
  pub bindings : List BindingRecord

-- STACK isn't `-`, the standard input, which is the client's
unfoldable pub nbd_said : OptionTexts → List (List ℕ) → Reading NbdRecord
nbd_said texts words =
    when (positional (codes "STACK") words) (λ stack.
    when (positional (codes "NAME") stack.1) (λ name.
    when (refuse_if (bytes_eq stack.0 (codes "-")) (codes "STACK") StandardInput) (λ a.
    when (cache_said texts.cache) (λ cache.
    when (bindings_of name.1) (λ bindings. Ok (record {
      cache = cache;
      stack = stack.0;
      name = name.0;
      bindings = bindings;
    }))))))

-- what the program's own value says
abbrev pub nbd_record : NbdWords → NbdRecord
nbd_record w = record {
  cache = w.device.cache;
  stack = w.device.stack.now;
  name = w.device.name.now;
  bindings = map binding_record w.bindings.items;
}
