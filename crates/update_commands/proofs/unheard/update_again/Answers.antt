use Rattle.std.proofs.Common.{IsTrue, ap, inl, inr, refl, subst, sym, ◌∙◌}
use Rattle.tree_repair.specs.Worlds.{RepairWorld}
use Rattle.update_commands.proofs.unheard.update_again.Goals as goal

pub returns-then-not-data_writable : goal.returns-then-not-data_writable
returns-then-not-data_writable g c = inl (inl (sym c.writable-data_writable.ensures ∙ c.if-not-data_writable.true), (refl, refl))

pub returns-then-not-hash_writable : goal.returns-then-not-hash_writable
returns-then-not-hash_writable g c = inl (inr (sym c.writable-hash_writable.ensures ∙ c.if-not-hash_writable.true), (refl, refl))

pub update_unheard-requires : goal.update_unheard-requires
update_unheard-requires g c =
    let world = c.image_of-image.ensures in
    record {
      data_writable = λ write. subst IsTrue (sym (ap (λ (w : RepairWorld). w.data_dev.may_write) world)) (sym c.writable-data_writable.ensures ∙ c.if-not-data_writable.false);
      hash_writable = λ write. subst IsTrue (sym (ap (λ (w : RepairWorld). w.hash_dev.may_write) world)) (sym c.writable-hash_writable.ensures ∙ c.if-not-hash_writable.false);
    }

pub returns : goal.returns
returns g c =
    let world = c.image_of-image.ensures in
    inr (record {
      again = c.image_of-image.result.world;
      data_same = ap (λ (w : RepairWorld). w.data_dev) world;
      hash_same = ap (λ (w : RepairWorld). w.hash_dev) world;
      ends = c.update_unheard.ensures;
    })
