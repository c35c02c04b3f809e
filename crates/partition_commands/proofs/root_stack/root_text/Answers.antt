use Rattle.std.proofs.Common.{◌≡◌, ◌∙◌, ℕ, [], Option, false, codes, ap, length, refl, subst, arith}
use Rattle.allocation.specs.Refusal.{IsOutOfMemory}
use Rattle.dm_table.specs.declared.parity.Parity.{Parity}
use Rattle.image_files.specs.Partitions.{part_of}
use Rattle.stack_files.proofs.lemmas.EntryLemmas.{append-four}
use Rattle.stack_files.specs.DiskEntries.{entry_text, linear_line}
use Rattle.stack_rules.proofs.lemmas.PassingLemmas.{out_of_memory-more}
use Rattle.verity_format.specs.declared.tree.VerityTree.{VerityTree}
use Rattle.verity_format.specs.Line.{LineNames, parity_of, text_room, verity_text}
use Rattle.verity_format.specs.Trees.{superblock_tree}
use Rattle.partition_commands.specs.declared.fault.PartitionsFault.TheVariants.{NoMemory}
use Rattle.partition_commands.specs.RootStacks.{image_entry, image_names, image_room, parity_entry}
use Rattle.partition_commands.proofs.EndingLemmas.{err-from, exit_room}
use Rattle.partition_commands.proofs.ImageTextLemmas.{image-text}
use Rattle.partition_commands.proofs.root_stack.root_text.Goals as goal

pub returns-in_err-line-clause-err : goal.returns-in_err-line-clause-err
returns-in_err-line-clause-err c =
    let super = c.args.found.now.superblock in
    let parity = c.args.found.now.parity in
    let root = c.args.root.now in
    let names : Option Parity → LineNames = λ p. record { data_name = codes "/dev/mapper/data"; hash_name = codes "/dev/mapper/hash"; parity = p } in
    let same : text_room c.tree.result (names (parity_of c.line_parity.result)) root 1 ≡ text_room (superblock_tree super) (image_names parity) root 1 =
    ap (λ (t : VerityTree). text_room t (names (parity_of c.line_parity.result)) root 1) c.tree.ensures.value
    ∙ ap (λ (p : Option Parity). text_room (superblock_tree super) (names p) root 1) c.line_parity.ensures in
    let refused = subst IsOutOfMemory same c.in_err-line.ensures.err in
    err-from c.from_residual.result _ NoMemory c.from_residual.ensures.1
    (refl, out_of_memory-more (text_room (superblock_tree super) (image_names parity) root 1) (image_room super root parity) (omega arith) refused)

pub returns-in_err-push_root-clause-err : goal.returns-in_err-push_root-clause-err
returns-in_err-push_root-clause-err c =
    let super = c.args.found.now.superblock in
    let parity = c.args.found.now.parity in
    let root = c.args.root.now in
    let names : Option Parity → LineNames = λ p. record { data_name = codes "/dev/mapper/data"; hash_name = codes "/dev/mapper/hash"; parity = p } in
    let same : verity_text c.tree.result (names (parity_of c.line_parity.result)) root 1 ≡ verity_text (superblock_tree super) (image_names parity) root 1 =
    ap (λ (t : VerityTree). verity_text t (names (parity_of c.line_parity.result)) root 1) c.tree.ensures.value
    ∙ ap (λ (p : Option Parity). verity_text (superblock_tree super) (names p) root 1) c.line_parity.ensures in
    exit_room c.from_residual-in_err-push_root.result (image_room super root parity) c.in_err-push_root.field-0.0 c.from_residual-in_err-push_root.ensures.1
    (omega (arith, c.in_err-push_root.ensures.err, ap (length {A = ℕ}) (c.deref.ensures.value ∙ c.in_ok-line.ensures.ok ∙ same)))

pub returns-clause-ok : goal.returns-clause-ok
unfolding image_entry
returns-clause-ok c =
    let size = c.args.size in
    let both = c.args.found.now.both in
    let super = c.args.found.now.superblock in
    let parity = c.args.found.now.parity in
    let root = c.args.root.now in
    let names : Option Parity → LineNames = λ p. record { data_name = codes "/dev/mapper/data"; hash_name = codes "/dev/mapper/hash"; parity = p } in
    let same : verity_text c.tree.result (names (parity_of c.line_parity.result)) root 1 ≡ verity_text (superblock_tree super) (image_names parity) root 1 =
    ap (λ (t : VerityTree). verity_text t (names (parity_of c.line_parity.result)) root 1) c.tree.ensures.value
    ∙ ap (λ (p : Option Parity). verity_text (superblock_tree super) (names p) root 1) c.line_parity.ensures in
    let first = rw (c.new-text.ensures.items, c.part_of.ensures) at c.in_ok-push_linear_entry.ensures.ok in
    let second = rw c.part_of-2.ensures at c.in_ok-push_linear_entry-2.ensures.ok in
    let fourth = rw (c.deref.ensures.value ∙ c.in_ok-line.ensures.ok ∙ same) at c.in_ok-push_root.ensures.ok in
    append-four [] _ _ _ _ (entry_text c.args.writable (codes "data") (linear_line (part_of size both.«data»))) (entry_text false (codes "hash") (linear_line (part_of size both.verity)))
    (parity_entry parity) (image_entry super root parity) first second c.in_ok-push_parity.ensures.ok fourth
    ∙ image-text c.args.writable size both super root parity
