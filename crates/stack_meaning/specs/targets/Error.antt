-- `error`: all reads and writes fail.
use Rattle.std.specs.Prelude.{◌≡◌, [], true, Err}
use Rattle.stack_meaning.specs.Outcomes.{error_target}
use Rattle.stack_meaning.specs.Said.{Said}
use Rattle.stack_meaning.specs.Putting.{stopped}
use Rattle.stack_meaning.specs.TargetMeaning.{TargetMeaning, own}

-- a sector of an `error` line
abbrev pub error_said : Said
error_said = record { means = λ images. Err error_target; may = λ chains bytes. ⊥; meets = λ fault. fault ≡ error_target; entries = []; reaches = []; encrypts = ⊥ }

abbrev pub error_meaning : TargetMeaning
error_meaning = record {
  meant = own (record { said = λ below d l s. error_said; put = λ reads puts s sectors images. stopped error_target images; keeps = λ below certain leaves chain. ⊥ });
  together = λ s. true;
}
