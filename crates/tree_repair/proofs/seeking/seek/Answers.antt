use Rattle.std.proofs.Common.{◌≡◌, ◌/◌, ℕ, length, map, ap, sym, ◌∙◌, subst}
use Rattle.std.specs.Prelude.{IfNone}
use Rattle.std.proofs.lemmas.List.{length-map, with_items_is}
use Rattle.tree_repair.specs.Bounds.{AreReadAtMost}
use Rattle.tree_repair.specs.Sources.{AreEachRead, AreNotIn, wanted}
use Rattle.tree_repair.proofs.seeking.seek.Goals as goal

pub returns-clause-read : goal.returns-clause-read
returns-clause-read g c =
    let state = g.C.BlockDev.state in
    let copies = c.args.copies.now in
    let held : length c.seek_copies.new.copies ≡ copies.len = c.seek_copies.auto.copies ∙ ap (λ l. length l) c.as_mut_slice.ensures.value ∙ sym copies.ok.0 in
    subst (λ l. AreEachRead (map state copies.items) (map state l)) (sym (with_items_is copies c.seek_copies.new.copies held)) (rw c.as_mut_slice.ensures.value at c.seek_copies.ensures.read)

pub returns-clause-found : goal.returns-clause-found
returns-clause-found g c = rw c.as_mut_slice.ensures.value at c.seek_copies.ensures.found

pub returns-clause-none : goal.returns-clause-none
returns-clause-none g c =
    let state = g.C.BlockDev.state in
    let copies = c.args.copies.now in
    let w = wanted c.args.salt.now c.args.digest.now (length c.args.block.now / 512) in
    let held : length c.seek_copies.new.copies ≡ copies.len = c.seek_copies.auto.copies ∙ ap (λ l. length l) c.as_mut_slice.ensures.value ∙ sym copies.ok.0 in
    subst (λ l. IfNone c.seek_copies.result (AreNotIn (map state copies.items) (map state l) c.args.first w (length (map state copies.items)))) (sym (with_items_is copies c.seek_copies.new.copies held))
    (subst (λ (n : ℕ). IfNone c.seek_copies.result (AreNotIn (map state copies.items) (map state c.seek_copies.new.copies) c.args.first w n)) (sym (length-map copies.items state))
    (rw c.as_mut_slice.ensures.value at c.seek_copies.ensures.none))

pub returns-clause-asked : goal.returns-clause-asked
returns-clause-asked g c =
    let state = g.C.BlockDev.state in
    let copies = c.args.copies.now in
    let held : length c.seek_copies.new.copies ≡ copies.len = c.seek_copies.auto.copies ∙ ap (λ l. length l) c.as_mut_slice.ensures.value ∙ sym copies.ok.0 in
    subst (λ l. AreReadAtMost (map state copies.items) (length c.args.block.now / 512) (map state l)) (sym (with_items_is copies c.seek_copies.new.copies held)) (rw c.as_mut_slice.ensures.value at c.seek_copies.ensures.asked)
