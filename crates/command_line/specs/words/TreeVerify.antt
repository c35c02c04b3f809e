-- What `verify --no-superblock --salt HEX [--all [--json | --chart]] [OPTIONS] DATA HASH [ROOT]` says.
use Rattle.std.specs.Prelude.{◌&&◌, not, is_some, codes, Bool, List, Ok, ℕ}
use Rattle.charts.specs.declared.form.ReportForm.{ReportForm}
use Rattle.command_line.specs.FormatOptions.{OptionTexts}
use Rattle.command_line.specs.Misuses.{Reading, refuse_if, when}
use Rattle.command_line.specs.Positional.{positional, root_alone}
use Rattle.command_line.specs.Values.{RootRecord, offset_of, report_form, root_record}
use Rattle.command_line.specs.declared.misuse.Cause.TheVariants.{Missing, WithoutAll}
use Rattle.command_line.specs.declared.words.tree_verify.TreeVerifyWords.{TreeVerifyWords}

pub record TreeVerifyRecord : Type 0 where
  pub data_path : List ℕ
  pub hash_path : List ℕ
  pub root : RootRecord
  pub hash_offset : ℕ
  pub all : Bool
  pub form : ReportForm
  pub progress : Bool

-- with the salt, which no superblock says
unfoldable pub tree_verify_said : OptionTexts → List (List ℕ) → Reading TreeVerifyRecord
tree_verify_said texts words =
    when (positional (codes "DATA") words) (λ data_path.
    when (positional (codes "HASH") data_path.1) (λ hash_path.
    when (refuse_if (texts.json && not texts.all) (codes "--json") WithoutAll) (λ a.
    when (refuse_if (texts.chart && not texts.all) (codes "--chart") WithoutAll) (λ b.
    when (report_form texts.json texts.chart) (λ form.
    when (refuse_if (not (is_some texts.salt)) (codes "--salt") Missing) (λ c.
    when (offset_of (codes "--hash-offset") texts.hash_offset) (λ hash_offset.
    when (root_alone texts.root_hash_file hash_path.1) (λ root.
    Ok (record {
      data_path = data_path.0;
      hash_path = hash_path.0;
      root = root;
      hash_offset = hash_offset;
      all = texts.all;
      form = form;
      progress = texts.progress;
    })))))))))

-- what the program's own value says
abbrev pub tree_verify_record : TreeVerifyWords → TreeVerifyRecord
tree_verify_record w = record {
  data_path = w.data_path.now;
  hash_path = w.hash_path.now;
  root = root_record w.root;
  hash_offset = w.hash_offset;
  all = w.all;
  form = w.form;
  progress = w.progress;
}
