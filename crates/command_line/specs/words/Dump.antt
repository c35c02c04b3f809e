-- What `dump [--hash-offset BYTES] [--json] [--pin ROOT] HASH` says.
use Rattle.std.specs.Prelude.{codes, Bool, true, false, List, Option, Some, None, Ok, ℕ}
use Rattle.command_line.specs.FormatOptions.{OptionTexts}
use Rattle.command_line.specs.Misuses.{Reading, misused, when}
use Rattle.command_line.specs.Positional.{no_more, positional}
use Rattle.command_line.specs.Values.{offset_of, root_said}
use Rattle.command_line.specs.declared.misuse.Cause.TheVariants.{WithPin}
use Rattle.command_line.specs.declared.words.dump.DumpForm.{DumpForm}
use Rattle.command_line.specs.declared.words.dump.DumpForm.TheVariants.{Lines, Object, Pin}
use Rattle.command_line.specs.declared.words.dump.DumpWords.{DumpWords}

-- a line for each field, a JSON object, or the pin of a root hash; at most one of `--pin ROOT` and `--json` is given
unfoldable pub dump_form : Option (List ℕ) → Bool → Reading DumpForm
dump_form None false = Ok Lines
dump_form None true = Ok Object
dump_form (Some word) true = misused (codes "--json") WithPin
dump_form (Some word) false = when (root_said (codes "--pin") word) (λ bytes. Ok (Pin bytes))

pub record DumpRecord : Type 0 where
  pub hash_path : List ℕ
  pub hash_offset : ℕ
  pub form : DumpForm

unfoldable pub dump_said : OptionTexts → List (List ℕ) → Reading DumpRecord
dump_said texts words =
    when (positional (codes "HASH") words) (λ hash_path.
    when (no_more hash_path.1) (λ none.
    when (dump_form texts.pin texts.json) (λ form.
    when (offset_of (codes "--hash-offset") texts.hash_offset) (λ hash_offset.
    Ok (record {
      hash_path = hash_path.0;
      hash_offset = hash_offset;
      form = form;
    })))))

-- what the program's own value says
abbrev pub dump_record : DumpWords → DumpRecord
dump_record w = record {
  hash_path = w.hash_path.now;
  hash_offset = w.hash_offset;
  form = w.form;
}
