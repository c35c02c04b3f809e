-- What `copy [--cache N] [--differing] [--map FILE] [--retries N] [--no-scrape] [--progress] (STACK NAME OUT BINDING... | --disk [--grow] DISK OUT)` says.
use Rattle.std.specs.Prelude.{◌&&◌, not, codes, Bool, List, Option, Ok, map, ℕ}
use Rattle.command_line.specs.Bindings.{BindingRecord, binding_record}
use Rattle.command_line.specs.BindingWords.{bindings_of}
use Rattle.command_line.specs.FormatOptions.{OptionTexts, text_of}
use Rattle.command_line.specs.Misuses.{Reading, refuse_if, when}
use Rattle.command_line.specs.Positional.{positional}
use Rattle.command_line.specs.SourceWords.{SourceRecord, no_binding, source_first, source_record}
use Rattle.command_line.specs.Values.{cache_said, map_said, retries_said}
use Rattle.command_line.specs.declared.misuse.Cause.TheVariants.{WithoutDisk}
use Rattle.command_line.specs.declared.words.copy.CopyWords.{CopyWords}

pub record CopyRecord : Type 0 where
  pub cache : ℕ
  pub differing : Bool
  pub grow : Bool
  pub source : SourceRecord
  pub out : List ℕ
  pub bindings : List BindingRecord
  pub map : Option (List ℕ)
  pub retries : ℕ
  pub no_scrape : Bool
  pub progress : Bool

unfoldable pub copy_said : OptionTexts → List (List ℕ) → Reading CopyRecord
copy_said texts words =
    when (source_first texts.disk words) (λ source.
    when (positional (codes "OUT") source.1) (λ out.
    when (cache_said texts.cache) (λ cache.
    when (map_said texts.map) (λ path.
    when (retries_said texts.retries) (λ retries.
    when (refuse_if (texts.grow && not texts.disk) (codes "--grow") WithoutDisk) (λ a.
    when (no_binding texts.disk out.1) (λ none.
    when (bindings_of out.1) (λ bindings. Ok (record {
      cache = cache;
      differing = texts.differing;
      grow = texts.grow;
      source = source.0;
      out = out.0;
      bindings = bindings;
      map = path;
      retries = retries;
      no_scrape = texts.no_scrape;
      progress = texts.progress;
    })))))))))

-- what the program's own value says
abbrev pub copy_record : CopyWords → CopyRecord
copy_record w = record {
  cache = w.cache;
  differing = w.differing;
  grow = w.grow;
  source = source_record w.source;
  out = w.out.now;
  bindings = map binding_record w.bindings.items;
  map = text_of w.map;
  retries = w.retries;
  no_scrape = w.no_scrape;
  progress = w.progress;
}
