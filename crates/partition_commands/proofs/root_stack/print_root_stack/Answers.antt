use Rattle.std.proofs.Common.{List, inl, inr, refl, ap, sym, arith, ◌∙◌}
use Rattle.std.proofs.lemmas.Result.{IfErr-weaker, on_ok_weaker}
use Rattle.partition_table.specs.declared.partition.Partition.{Partition}
use Rattle.partition_commands.specs.declared.fault.PartitionsFault.TheVariants.{NoMemory, Refused}
use Rattle.partition_commands.specs.declared.refusal.PartitionRefusal.TheVariants.{Table}
use Rattle.partition_commands.specs.RootCommands.{FindsPair, image_plan}
use Rattle.partition_commands.specs.Roots.{image_partitions}
use Rattle.partition_commands.proofs.EndingLemmas.{err-from, less-room, say-root}
use Rattle.partition_commands.proofs.NoteLemmas.{on_err-any}
use Rattle.partition_commands.proofs.root_stack.print_root_stack.Goals as goal

pub returns-in_err-table-clause-err : goal.returns-in_err-table-clause-err
returns-in_err-table-clause-err g c =
    err-from c.from_residual.result _ (Refused (Table c.in_err-table.field-0.0)) c.from_residual.ensures.1
    (inl (inl (record { fault = c.in_err-table.field-0.0; read_device = c.find_noted.new.device; none = c.in_err-table.ensures.err; is = refl })))

pub returns-in_err-both-clause-err : goal.returns-in_err-both-clause-err
returns-in_err-both-clause-err g c =
    err-from c.from_residual-in_err-both.result _ (Refused c.in_err-both.field-0.0) c.from_residual-in_err-both.ensures.1
    (inl (inr (inl (record {
      table = c.in_ok-table.table;
      read_device = c.find_noted.new.device;
      found = c.in_ok-table.ensures.ok.found;
      refused = ap (λ (ps : List Partition). image_partitions ps c.args.trusted.now.root) (sym c.deref.ensures.value) ∙ sym c.in_err-both.ensures;
    }))))

pub returns-in_err-superblock-clause-err : goal.returns-in_err-superblock-clause-err
returns-in_err-superblock-clause-err g c =
    err-from c.from_residual-in_err-superblock.result _ (Refused c.in_err-superblock.field-0.0) c.from_residual-in_err-superblock.ensures.1
    (inl (inr (inr (
      c.in_err-superblock.ensures.err.0,
      record {
        table = c.in_ok-table.table;
        read_device = c.find_noted.new.device;
        found = c.in_ok-table.ensures.ok.found;
        both = c.in_ok-both.both;
        both_is = ap (λ (ps : List Partition). image_partitions ps c.args.trusted.now.root) (sym c.deref.ensures.value) ∙ sym c.in_ok-both.ensures;
        signed_device = c.find_signature-signed.new.device;
        read = c.find_signature-signed.ensures.read;
        ends = c.in_err-superblock.ensures.err.1;
      },
    ))))

pub returns-in_err-parity-clause-err : goal.returns-in_err-parity-clause-err
returns-in_err-parity-clause-err g c =
    let pair : FindsPair g.D.BlockDev.state c.args.device c.args.plan.now.stack.size c.args.trusted.now = record {
      table = c.in_ok-table.table;
      read_device = c.find_noted.new.device;
      found = c.in_ok-table.ensures.ok.found;
      both = c.in_ok-both.both;
      both_is = ap (λ (ps : List Partition). image_partitions ps c.args.trusted.now.root) (sym c.deref.ensures.value) ∙ sym c.in_ok-both.ensures;
      super = c.in_ok-superblock.superblock;
      signed_device = c.find_signature-signed.new.device;
      signed = c.find_signature-signed.result;
      sought = rw c.deref-2.ensures.value at c.find_signature-signed.ensures;
      fitting = c.in_ok-superblock.ensures.ok;
    } in
    let lacks = rw c.sectors-sectors.ensures.size at c.in_err-parity.ensures.err in
    err-from c.from_residual-in_err-parity.result _ c.in_err-parity.field-0.0 c.from_residual-in_err-parity.ensures.1 (inr (record { pair = pair; lacks = lacks }))

pub parity_in-requires : goal.parity_in-requires
parity_in-requires g c = omega (arith, c.in_ok-superblock.ensures.ok.inside, c.sectors-sectors.ensures.size, c.sectors-sectors.ensures.small)

pub returns-in_err-text-clause-err : goal.returns-in_err-text-clause-err
returns-in_err-text-clause-err g c =
    let pair : FindsPair g.D.BlockDev.state c.args.device c.args.plan.now.stack.size c.args.trusted.now = record {
      table = c.in_ok-table.table;
      read_device = c.find_noted.new.device;
      found = c.in_ok-table.ensures.ok.found;
      both = c.in_ok-both.both;
      both_is = ap (λ (ps : List Partition). image_partitions ps c.args.trusted.now.root) (sym c.deref.ensures.value) ∙ sym c.in_ok-both.ensures;
      super = c.in_ok-superblock.superblock;
      signed_device = c.find_signature-signed.new.device;
      signed = c.find_signature-signed.result;
      sought = rw c.deref-2.ensures.value at c.find_signature-signed.ensures;
      fitting = c.in_ok-superblock.ensures.ok;
    } in
    let has = rw c.sectors-sectors.ensures.size at c.in_ok-parity.ensures.ok in
    err-from c.from_residual-in_err-text.result _ NoMemory (rw c.in_err-text.ensures.err.0 at c.from_residual-in_err-text.ensures.1)
    (inl (record { pair = pair; parity = c.in_ok-parity.parity; has = has; refused = c.in_err-text.ensures.err.1 }))

pub returns-in_err-push_signature-clause-err : goal.returns-in_err-push_signature-clause-err
returns-in_err-push_signature-clause-err g c =
    let pair : FindsPair g.D.BlockDev.state c.args.device c.args.plan.now.stack.size c.args.trusted.now = record {
      table = c.in_ok-table.table;
      read_device = c.find_noted.new.device;
      found = c.in_ok-table.ensures.ok.found;
      both = c.in_ok-both.both;
      both_is = ap (λ (ps : List Partition). image_partitions ps c.args.trusted.now.root) (sym c.deref.ensures.value) ∙ sym c.in_ok-both.ensures;
      super = c.in_ok-superblock.superblock;
      signed_device = c.find_signature-signed.new.device;
      signed = c.find_signature-signed.result;
      sought = rw c.deref-2.ensures.value at c.find_signature-signed.ensures;
      fitting = c.in_ok-superblock.ensures.ok;
    } in
    let has = rw c.sectors-sectors.ensures.size at c.in_ok-parity.ensures.ok in
    let refused = c.in_err-push_signature.field-0.0 in
    let low = less-room c.in_ok-superblock.superblock c.args.trusted.now.root c.in_ok-parity.parity refused c.in_err-push_signature.ensures.err in
    err-from c.from_residual-in_err-push_signature.result _ NoMemory c.from_residual-in_err-push_signature.ensures.1
    (inl (record { pair = pair; parity = c.in_ok-parity.parity; has = has; refused = (refused.asked, low, refused.refused) }))

pub returns-clause-ok : goal.returns-clause-ok
returns-clause-ok g c =
    let pair : FindsPair g.D.BlockDev.state c.args.device c.args.plan.now.stack.size c.args.trusted.now = record {
      table = c.in_ok-table.table;
      read_device = c.find_noted.new.device;
      found = c.in_ok-table.ensures.ok.found;
      both = c.in_ok-both.both;
      both_is = ap (λ (ps : List Partition). image_partitions ps c.args.trusted.now.root) (sym c.deref.ensures.value) ∙ sym c.in_ok-both.ensures;
      super = c.in_ok-superblock.superblock;
      signed_device = c.find_signature-signed.new.device;
      signed = c.find_signature-signed.result;
      sought = rw c.deref-2.ensures.value at c.find_signature-signed.ensures;
      fitting = c.in_ok-superblock.ensures.ok;
    } in
    let has = rw c.sectors-sectors.ensures.size at c.in_ok-parity.ensures.ok in
    let said = rw (c.sectors-sectors.ensures.size, c.deref-3.ensures.value, c.in_ok-push_signature.ensures.ok, c.in_ok-text.ensures.ok) at c.say_loadable.ensures.ok in
    on_ok_weaker c.say_loadable.result (λ both. record { pair = pair; parity = c.in_ok-parity.parity; has = has; loads = both.0; printed = both.1; noted = c.in_ok-table.ensures.ok.noted }) said

pub returns-clause-err : goal.returns-clause-err
returns-clause-err g c =
    let pair : FindsPair g.D.BlockDev.state c.args.device c.args.plan.now.stack.size c.args.trusted.now = record {
      table = c.in_ok-table.table;
      read_device = c.find_noted.new.device;
      found = c.in_ok-table.ensures.ok.found;
      both = c.in_ok-both.both;
      both_is = ap (λ (ps : List Partition). image_partitions ps c.args.trusted.now.root) (sym c.deref.ensures.value) ∙ sym c.in_ok-both.ensures;
      super = c.in_ok-superblock.superblock;
      signed_device = c.find_signature-signed.new.device;
      signed = c.find_signature-signed.result;
      sought = rw c.deref-2.ensures.value at c.find_signature-signed.ensures;
      fitting = c.in_ok-superblock.ensures.ok;
    } in
    let has = rw c.sectors-sectors.ensures.size at c.in_ok-parity.ensures.ok in
    let ended = rw (c.sectors-sectors.ensures.size, c.deref-3.ensures.value, c.in_ok-push_signature.ensures.ok, c.in_ok-text.ensures.ok) at c.say_loadable.ensures.err in
    IfErr-weaker c.say_loadable.result _ _ (say-root g.D.BlockDev.state c.args.device (image_plan c.args.plan.now) c.args.trusted.now pair c.in_ok-parity.parity has c.say_loadable.new.writer.failed) ended

pub returns-in_err-table-clause-noted : goal.returns-in_err-table-clause-noted
returns-in_err-table-clause-noted g c =
    err-from c.from_residual.result _ (Refused (Table c.in_err-table.field-0.0)) c.from_residual.ensures.1 (inl (tt, c.in_err-table.ensures.unnoted))

pub returns-in_err-both-clause-noted : goal.returns-in_err-both-clause-noted
returns-in_err-both-clause-noted g c = on_err-any c.from_residual-in_err-both.result _ (λ fault. inr (g.D.BlockDev.state c.find_noted.new.device, c.in_ok-table.table, c.in_ok-table.ensures.ok))

pub returns-in_err-superblock-clause-noted : goal.returns-in_err-superblock-clause-noted
returns-in_err-superblock-clause-noted g c = on_err-any c.from_residual-in_err-superblock.result _ (λ fault. inr (g.D.BlockDev.state c.find_noted.new.device, c.in_ok-table.table, c.in_ok-table.ensures.ok))

pub returns-in_err-parity-clause-noted : goal.returns-in_err-parity-clause-noted
returns-in_err-parity-clause-noted g c = on_err-any c.from_residual-in_err-parity.result _ (λ fault. inr (g.D.BlockDev.state c.find_noted.new.device, c.in_ok-table.table, c.in_ok-table.ensures.ok))

pub returns-in_err-text-clause-noted : goal.returns-in_err-text-clause-noted
returns-in_err-text-clause-noted g c = on_err-any c.from_residual-in_err-text.result _ (λ fault. inr (g.D.BlockDev.state c.find_noted.new.device, c.in_ok-table.table, c.in_ok-table.ensures.ok))

pub returns-in_err-push_signature-clause-noted : goal.returns-in_err-push_signature-clause-noted
returns-in_err-push_signature-clause-noted g c = on_err-any c.from_residual-in_err-push_signature.result _ (λ fault. inr (g.D.BlockDev.state c.find_noted.new.device, c.in_ok-table.table, c.in_ok-table.ensures.ok))

pub returns-clause-noted : goal.returns-clause-noted
returns-clause-noted g c = on_err-any c.say_loadable.result _ (λ fault. inr (g.D.BlockDev.state c.find_noted.new.device, c.in_ok-table.table, c.in_ok-table.ensures.ok))

pub returns-in_err-table-clause-quiet : goal.returns-in_err-table-clause-quiet
returns-in_err-table-clause-quiet g c = on_err-any c.from_residual.result _ (λ fault. inr refl)

pub returns-in_err-both-clause-quiet : goal.returns-in_err-both-clause-quiet
returns-in_err-both-clause-quiet g c = on_err-any c.from_residual-in_err-both.result _ (λ fault. inr refl)

pub returns-in_err-superblock-clause-quiet : goal.returns-in_err-superblock-clause-quiet
returns-in_err-superblock-clause-quiet g c = on_err-any c.from_residual-in_err-superblock.result _ (λ fault. inr refl)

pub returns-in_err-parity-clause-quiet : goal.returns-in_err-parity-clause-quiet
returns-in_err-parity-clause-quiet g c = on_err-any c.from_residual-in_err-parity.result _ (λ fault. inr refl)

pub returns-in_err-text-clause-quiet : goal.returns-in_err-text-clause-quiet
returns-in_err-text-clause-quiet g c = on_err-any c.from_residual-in_err-text.result _ (λ fault. inr refl)

pub returns-in_err-push_signature-clause-quiet : goal.returns-in_err-push_signature-clause-quiet
returns-in_err-push_signature-clause-quiet g c = on_err-any c.from_residual-in_err-push_signature.result _ (λ fault. inr refl)
