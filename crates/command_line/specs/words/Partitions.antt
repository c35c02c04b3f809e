-- What `partitions [--sector-size 512|4096] [--json | --stack | --root ROOT | --pin FILE] [--writable] [--fec PARTITION [--fec-roots N]] IMAGE` says.
use Rattle.std.specs.Prelude.{codes, Bool, List, Option, Ok, option_map, ℕ}
use Rattle.command_line.specs.FecFiles.{FecRecord, fec_choice_of, fec_record}
use Rattle.command_line.specs.FormatOptions.{OptionTexts}
use Rattle.command_line.specs.Misuses.{Reading, refuse_if, when}
use Rattle.command_line.specs.OptionGroups.{is_parity_alone, is_writable_table}
use Rattle.command_line.specs.Positional.{no_more, positional}
use Rattle.command_line.specs.Values.{FormRecord, form_of, form_record, sector_size_of}
use Rattle.command_line.specs.declared.misuse.Cause.TheVariants.{Missing, WithoutStack}
use Rattle.command_line.specs.declared.words.partitions.PartitionsWords.{PartitionsWords}

pub record PartitionsRecord : Type 0 where
  pub image : List ℕ
  pub sector_size : ℕ
  pub form : FormRecord
  pub writable : Bool
  pub fec : Option FecRecord

unfoldable pub partitions_said : OptionTexts → List (List ℕ) → Reading PartitionsRecord
partitions_said texts words =
    when (positional (codes "IMAGE") words) (λ image.
    when (no_more image.1) (λ none.
    when (sector_size_of texts.sector_size) (λ sector_size.
    when (refuse_if (is_writable_table texts) (codes "--writable") WithoutStack) (λ a.
    when (fec_choice_of texts.fec texts.fec_roots) (λ fec.
    when (refuse_if (is_parity_alone texts) (codes "--root") Missing) (λ b.
    when (form_of texts.pin texts.root texts.stack texts.json) (λ form.
    Ok (record {
      image = image.0;
      sector_size = sector_size;
      form = form;
      writable = texts.writable;
      fec = fec;
    }))))))))

-- what the program's own value says
abbrev pub partitions_record : PartitionsWords → PartitionsRecord
partitions_record w = record {
  image = w.image.now;
  sector_size = w.sector_size;
  form = form_record w.form;
  writable = w.writable;
  fec = option_map fec_record w.fec;
}
