use Rattle.std.proofs.Common.{◌≡◌, length, map, ap, sym, ◌∙◌, subst}
use Rattle.std.proofs.lemmas.List.{with_items_is}
use Rattle.tree_repair.specs.CopyReads.{ReadsCopyOnce}
use Rattle.tree_repair.specs.Sources.{AreEachRead}
use Rattle.tree_repair.proofs.large_reads.read_one.Goals as goal

pub returns-clause-read : goal.returns-clause-read
returns-clause-read g c =
    let state = g.C.BlockDev.state in
    let copies = c.args.copies.now in
    let held : length c.read_slice.new.copies ≡ copies.len = c.read_slice.auto.copies ∙ ap (λ l. length l) c.as_mut_slice.ensures.value ∙ sym copies.ok.0 in
    subst (λ l. AreEachRead (map state copies.items) (map state l)) (sym (with_items_is copies c.read_slice.new.copies held)) (rw c.as_mut_slice.ensures.value at c.read_slice.ensures.read)

pub returns-clause-once : goal.returns-clause-once
returns-clause-once g c =
    let state = g.C.BlockDev.state in
    let copies = c.args.copies.now in
    let held : length c.read_slice.new.copies ≡ copies.len = c.read_slice.auto.copies ∙ ap (λ l. length l) c.as_mut_slice.ensures.value ∙ sym copies.ok.0 in
    subst (λ l. ReadsCopyOnce c.args.k c.args.first c.read_slice.new.bytes (map state copies.items) (map state l)) (sym (with_items_is copies c.read_slice.new.copies held)) (rw c.as_mut_slice.ensures.value at c.read_slice.ensures.once)
