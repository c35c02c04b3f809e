use Rattle.partition_commands.proofs.NoteLemmas.{on_err-both}
use Rattle.partition_commands.proofs.invoke.invoke_partitions.Goals as goal

pub returns-in-Stack-clause-ok : goal.returns-in-Stack-clause-ok
returns-in-Stack-clause-ok g c = rw c.in-Stack.is (rw c.size_of-size.ensures at c.stack_of_image.ensures.ok)

pub returns-in-Object-clause-ok : goal.returns-in-Object-clause-ok
returns-in-Object-clause-ok g c = rw c.in-Object.is (rw c.size_of-size.ensures at c.object_of_image.ensures.ok)

pub returns-in-Lines-clause-err : goal.returns-in-Lines-clause-err
returns-in-Lines-clause-err g c =
    let ends = rw c.size_of-size.ensures at c.partitions_of_image.ensures.err in
    let noted = rw c.size_of-size.ensures at c.partitions_of_image.ensures.noted in
    rw c.in-Lines.is (on_err-both c.partitions_of_image.result _ _ ends noted)

pub returns-in-Stack-clause-err : goal.returns-in-Stack-clause-err
returns-in-Stack-clause-err g c =
    let ends = rw c.size_of-size.ensures at c.stack_of_image.ensures.err in
    let noted = rw c.size_of-size.ensures at c.stack_of_image.ensures.noted in
    rw c.in-Stack.is (on_err-both c.stack_of_image.result _ _ ends noted)

pub returns-in-Object-clause-err : goal.returns-in-Object-clause-err
returns-in-Object-clause-err g c =
    let ends = rw c.size_of-size.ensures at c.object_of_image.ensures.err in
    let noted = rw c.size_of-size.ensures at c.object_of_image.ensures.noted in
    rw c.in-Object.is (on_err-both c.object_of_image.result _ _ ends noted)

pub returns-in-Root-clause-err : goal.returns-in-Root-clause-err
returns-in-Root-clause-err g c =
    let ends = rw c.size_of-size.ensures at c.root_stack_of_image.ensures.err in
    let noted = rw c.size_of-size.ensures at c.root_stack_of_image.ensures.noted in
    rw c.in-Root.is (on_err-both c.root_stack_of_image.result _ _ ends noted)

pub returns-in-Pin-clause-err : goal.returns-in-Pin-clause-err
returns-in-Pin-clause-err g c =
    let ends = rw c.size_of-size.ensures at c.pinned_stack_of_image.ensures.err in
    let noted = rw c.size_of-size.ensures at c.pinned_stack_of_image.ensures.noted in
    rw c.in-Pin.is (on_err-both c.pinned_stack_of_image.result _ _ ends noted)
