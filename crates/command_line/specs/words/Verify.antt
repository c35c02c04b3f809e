-- What `verify [--all [--json | --chart]] [--hash-offset BYTES] [--root-hash-file FILE | --pin FILE] [--progress] DATA HASH [ROOT]` says.
use Rattle.std.specs.Prelude.{◌&&◌, not, codes, Bool, List, Ok, ℕ}
use Rattle.charts.specs.declared.form.ReportForm.{ReportForm}
use Rattle.command_line.specs.FormatOptions.{OptionTexts}
use Rattle.command_line.specs.Misuses.{Reading, refuse_if, when}
use Rattle.command_line.specs.Positional.{positional, root_or_pin_alone}
use Rattle.command_line.specs.Values.{RootOrPinRecord, offset_of, report_form, root_or_pin_record}
use Rattle.command_line.specs.OptionGroups.{tree_stated}
use Rattle.command_line.specs.declared.misuse.Cause.TheVariants.{WithoutAll}
use Rattle.command_line.specs.declared.words.verify.VerifyWords.{VerifyWords}

pub record VerifyRecord : Type 0 where
  pub data_path : List ℕ
  pub hash_path : List ℕ
  pub root : RootOrPinRecord
  pub hash_offset : ℕ
  pub all : Bool
  pub form : ReportForm
  pub progress : Bool

unfoldable pub verify_said : OptionTexts → List (List ℕ) → Reading VerifyRecord
verify_said texts words =
    when (positional (codes "DATA") words) (λ data_path.
    when (positional (codes "HASH") data_path.1) (λ hash_path.
    when (tree_stated texts) (λ a.
    when (refuse_if (texts.json && not texts.all) (codes "--json") WithoutAll) (λ b.
    when (refuse_if (texts.chart && not texts.all) (codes "--chart") WithoutAll) (λ c.
    when (report_form texts.json texts.chart) (λ form.
    when (offset_of (codes "--hash-offset") texts.hash_offset) (λ hash_offset.
    when (root_or_pin_alone texts.pin texts.root_hash_file hash_path.1) (λ root.
    Ok (record {
      data_path = data_path.0;
      hash_path = hash_path.0;
      root = root;
      hash_offset = hash_offset;
      all = texts.all;
      form = form;
      progress = texts.progress;
    })))))))))

-- what the program's own value says
abbrev pub verify_record : VerifyWords → VerifyRecord
verify_record w = record {
  data_path = w.data_path.now;
  hash_path = w.hash_path.now;
  root = root_or_pin_record w.root;
  hash_offset = w.hash_offset;
  all = w.all;
  form = w.form;
  progress = w.progress;
}
