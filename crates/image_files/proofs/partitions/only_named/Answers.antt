use Rattle.std.proofs.Common.{◌++◌, filter, option_to_list, refl, sym, ◌∙◌}
use Rattle.std.proofs.lemmas.List.{at_drop_all}
use Rattle.command_line.specs.FilePlaces.{named_partition_record}
use Rattle.image_files.specs.Partitions.{is_named, single}
use Rattle.image_files.proofs.NamedPartitionLemmas.{single-found}
use Rattle.image_files.proofs.partitions.only_named.Goals as goal

pub loop-partition-init : goal.loop-partition-init
loop-partition-init c = refl

pub returns-clause-ok : goal.returns-clause-ok
returns-clause-ok c =
    sym (single-found c.loop-partition.found)
    ∙ sym (at_drop_all (λ xs. single (option_to_list c.loop-partition.found ++ filter (is_named (named_partition_record c.args.named)) xs)) c.args.partitions.now c.loop-partition.partition-index c.loop-partition-test.false)
    ∙ c.loop-partition.invariant
