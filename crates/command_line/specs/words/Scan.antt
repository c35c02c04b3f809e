-- What `scan [--cache N] [--map FILE] [--retries N] [--no-scrape] [--progress] [--json | --chart] (STACK NAME BINDING... | --disk DISK)` says.
use Rattle.std.specs.Prelude.{Bool, List, Option, Ok, map, ℕ}
use Rattle.charts.specs.declared.form.ReportForm.{ReportForm}
use Rattle.command_line.specs.Bindings.{BindingRecord, binding_record}
use Rattle.command_line.specs.BindingWords.{bindings_of}
use Rattle.command_line.specs.FormatOptions.{OptionTexts, text_of}
use Rattle.command_line.specs.Misuses.{Reading, when}
use Rattle.command_line.specs.SourceWords.{SourceRecord, no_binding, source_first, source_record}
use Rattle.command_line.specs.Values.{cache_said, map_said, report_form, retries_said}
use Rattle.command_line.specs.declared.words.scan.ScanWords.{ScanWords}

pub record ScanRecord : Type 0 where
  pub cache : ℕ
  pub source : SourceRecord
  pub bindings : List BindingRecord
  pub map : Option (List ℕ)
  pub retries : ℕ
  pub no_scrape : Bool
  pub progress : Bool
  pub form : ReportForm

unfoldable pub scan_said : OptionTexts → List (List ℕ) → Reading ScanRecord
scan_said texts words =
    when (source_first texts.disk words) (λ source.
    when (cache_said texts.cache) (λ cache.
    when (map_said texts.map) (λ path.
    when (retries_said texts.retries) (λ retries.
    when (report_form texts.json texts.chart) (λ form.
    when (no_binding texts.disk source.1) (λ none.
    when (bindings_of source.1) (λ bindings. Ok (record {
      cache = cache;
      source = source.0;
      bindings = bindings;
      map = path;
      retries = retries;
      no_scrape = texts.no_scrape;
      progress = texts.progress;
      form = form;
    }))))))))

-- what the program's own value says
abbrev pub scan_record : ScanWords → ScanRecord
scan_record w = record {
  cache = w.cache;
  source = source_record w.source;
  bindings = map binding_record w.bindings.items;
  map = text_of w.map;
  retries = w.retries;
  no_scrape = w.no_scrape;
  progress = w.progress;
  form = w.form;
}
