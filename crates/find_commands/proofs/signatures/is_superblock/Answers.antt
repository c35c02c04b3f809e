use Rattle.std.proofs.Common.{Result, is_ok, ap, sym, ◌∙◌}
use Rattle.verity_format.specs.declared.decoding.SuperFault.{SuperFault}
use Rattle.verity_format.specs.Superblock.{SuperRecord, super_fault}
use Rattle.find_commands.proofs.FieldLemmas.{decoded}
use Rattle.find_commands.proofs.signatures.is_superblock.Goals as goal

pub returns-in-Ok : goal.returns-in-Ok
returns-in-Ok c = sym (ap (λ (x : Result SuperRecord SuperFault). is_ok x) c.in-Ok.is) ∙ decoded c.decode.result (super_fault c.args.sector.now) c.decode.ensures.err

pub returns-in-Err : goal.returns-in-Err
returns-in-Err c = sym (ap (λ (x : Result SuperRecord SuperFault). is_ok x) c.in-Err.is) ∙ decoded c.decode.result (super_fault c.args.sector.now) c.decode.ensures.err
