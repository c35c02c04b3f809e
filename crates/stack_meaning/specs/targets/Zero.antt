-- `zero`: reads return zeros, writes are discarded.
use Rattle.std.specs.Prelude.{◌≡◌, [], true, Ok}
use Rattle.stack_meaning.specs.Outcomes.{zero_sector}
use Rattle.stack_meaning.specs.Said.{Said}
use Rattle.stack_meaning.specs.Putting.{done}
use Rattle.stack_meaning.specs.TargetMeaning.{TargetMeaning, own}

-- a sector of zeros
abbrev pub zero_said : Said
zero_said = record { means = λ images. Ok zero_sector; may = λ chains bytes. bytes ≡ zero_sector; meets = λ fault. ⊥; entries = []; reaches = []; encrypts = ⊥ }

abbrev pub zero_meaning : TargetMeaning
zero_meaning = record {
  meant = own (record { said = λ below d l s. zero_said; put = λ reads puts s sectors images. done images; keeps = λ below certain leaves chain. ⊥ });
  together = λ s. true;
}
