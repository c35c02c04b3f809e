use Rattle.std.proofs.Common.{◌≡◌, length, map, ap, sym, ◌∙◌, subst}
use Rattle.std.proofs.lemmas.List.{with_items_is}
use Rattle.update_commands.specs.Listings.{AreEachOnlyRead}
use Rattle.update_commands.proofs.listing.list_copies.Goals as goal

pub returns : goal.returns
returns g c =
    let state = g.C.BlockDev.state in
    let copies = c.args.hash_copies.now in
    let held : length c.list_seeds.new.hash_copies ≡ copies.len = c.list_seeds.auto.hash_copies ∙ ap (λ l. length l) c.as_mut_slice.ensures.value ∙ sym copies.ok.0 in
    subst (λ l. AreEachOnlyRead (map state copies.items) (map state l)) (sym (with_items_is copies c.list_seeds.new.hash_copies held)) (rw c.as_mut_slice.ensures.value at c.list_seeds.ensures)
