use Rattle.std.proofs.Common.{ap, inl, inr, refl, sym, ◌∙◌}
use Rattle.fec_commands.specs.declared.fault.FecFault.TheVariants.{Verity}
use Rattle.image_commands.specs.declared.fault.ImageFault.{ImageFault}
use Rattle.image_commands.specs.declared.fault.ImageFault.TheVariants.{Open}
use Rattle.verity_commands.specs.declared.verity_fault.VerityFault.TheVariants.{Image}
use Rattle.assemble_commands.proofs.EndLemmas.{err-from}
use Rattle.assemble_commands.proofs.assemble.invoke_assemble.Goals as goal

pub returns-in_err-found-clause-err : goal.returns-in_err-found-clause-err
returns-in_err-found-clause-err g c =
    let cause = c.in_err-found.field-0.0 in
    err-from c.from_residual.result _ (Verity (Image cause)) c.from_residual.ensures.1 (inl (inr (inl (cause, refl, inl (inl (c.in_err-found.ensures.err, refl), refl))), refl))

pub returns-in_default-clause-err : goal.returns-in_default-clause-err
returns-in_default-clause-err g c = inl (inl (refl, (sym c.in_ok-found.ensures.ok ∙ c.in_default.is, (refl, refl))), refl)

pub returns-in_err-check_root_path-clause-err : goal.returns-in_err-check_root_path-clause-err
returns-in_err-check_root_path-clause-err g c =
    let cause = c.in_err-check_root_path.field-0.0 in
    err-from c.from_residual-in_err-check_root_path.result _ (Verity (Image cause)) c.from_residual-in_err-check_root_path.ensures.1
    (inl (inr (inl (cause, refl, inl (inr (inl (rw c.places_of.ensures at c.in_err-check_root_path.ensures.err)), refl))), refl))

pub returns-in_err-check_apart-clause-err : goal.returns-in_err-check_apart-clause-err
returns-in_err-check_apart-clause-err g c =
    let cause = c.in_err-check_apart.field-0.0 in
    err-from c.from_residual-in_err-check_apart.result _ (Verity (Image cause)) c.from_residual-in_err-check_apart.ensures.1
    (inl (
      inr (inl (
        cause,
        refl,
        inl (
          inr (inr (inl (record {
            tried = c.check_root_path.new.images;
            path = rw c.places_of.ensures at c.in_ok-check_root_path.ensures.ok;
            same = c.in_err-check_apart.ensures.err;
          }))),
          refl,
        ),
      )),
      refl,
    ))

pub returns-in_err-data-clause-err : goal.returns-in_err-data-clause-err
returns-in_err-data-clause-err g c =
    let file = c.in_err-data.field-0.0 in
    err-from c.from_residual-in_err-data.result _ (Verity (Image (Open file))) c.from_residual-in_err-data.ensures.1
    (inl (
      inr (inl (
        Open file,
        refl,
        inl (
          inr (inr (inr (record {
            tried = c.check_root_path.new.images;
            compared = c.check_apart.new.images;
            file = file;
            path = rw c.places_of.ensures at c.in_ok-check_root_path.ensures.ok;
            apart = c.in_ok-check_apart.ensures.ok;
            refused = c.in_err-data.ensures.err;
            is = refl;
          }))),
          refl,
        ),
      )),
      refl,
    ))

pub returns-in_err-plan-clause-err : goal.returns-in_err-plan-clause-err
returns-in_err-plan-clause-err g c =
    let cause = c.in_err-plan.field-0.0 in
    err-from c.from_residual-in_err-plan.result _ (Verity (Image cause)) c.from_residual-in_err-plan.ensures.1
    (inl (
      inr (inl (
        cause,
        refl,
        inr (inl (record {
          image = c.in_ok-data.data;
          opens = record {
            tried = c.check_root_path.new.images;
            compared = c.check_apart.new.images;
            path = rw c.places_of.ensures at c.in_ok-check_root_path.ensures.ok;
            apart = c.in_ok-check_apart.ensures.ok;
            opens = c.in_ok-data.ensures.ok;
          };
          unplanned = rw c.sectors-sectors.ensures.size at c.in_err-plan.ensures.err;
        })),
      )),
      refl,
    ))

pub returns-in_err-made-clause-err : goal.returns-in_err-made-clause-err
returns-in_err-made-clause-err g c =
    err-from c.from_residual-in_err-made.result _ c.in_err-made.field-0.0 c.from_residual-in_err-made.ensures.1
    (inl (
      inr (inr (record {
        opened = c.open_place.new.images;
        kinds = c.in-Some.kinds;
        image = c.in_ok-data.data;
        plan = c.in_ok-plan.plan;
        kinds_are = sym c.in_ok-found.ensures.ok ∙ c.in-Some.is;
        opens = record {
          tried = c.check_root_path.new.images;
          compared = c.check_apart.new.images;
          path = rw c.places_of.ensures at c.in_ok-check_root_path.ensures.ok;
          apart = c.in_ok-check_apart.ensures.ok;
          opens = c.in_ok-data.ensures.ok;
        };
        is_plan = rw c.sectors-sectors.ensures.size at c.in_ok-plan.ensures.ok;
        ends = rw c.watched_data-data_dev.ensures at (rw c.place_use.ensures at c.in_err-made.ensures.err);
      })),
      refl,
    ))

pub returns-in_err-finish-clause-err : goal.returns-in_err-finish-clause-err
returns-in_err-finish-clause-err g c =
    let cause = c.in_err-finish.field-0.0 in
    err-from c.from_residual-in_err-finish.result _ (Verity (Image cause)) c.from_residual-in_err-finish.ensures.1
    (elim c.in_err-finish.ensures.err [
      | inl unpinned ↦ inl (
        inr (inl (
          cause,
          refl,
          inr (inr (record {
            filled = c.fill_disk.new.images;
            plan = c.in_ok-plan.plan;
            made = c.in_ok-made.made;
            fills = record {
              opened = c.open_place.new.images;
              kinds = c.in-Some.kinds;
              image = c.in_ok-data.data;
              kinds_are = sym c.in_ok-found.ensures.ok ∙ c.in-Some.is;
              opens = record {
                tried = c.check_root_path.new.images;
                compared = c.check_apart.new.images;
                path = rw c.places_of.ensures at c.in_ok-check_root_path.ensures.ok;
                apart = c.in_ok-check_apart.ensures.ok;
                opens = c.in_ok-data.ensures.ok;
              };
              is_plan = rw c.sectors-sectors.ensures.size at c.in_ok-plan.ensures.ok;
              fills = rw c.watched_data-data_dev.ensures at (rw c.place_use.ensures at c.in_ok-made.ensures.ok);
            };
            unpinned = unpinned.0;
          })),
        )),
        unpinned.1,
      )
      | inr unprinted ↦ inr (
        ap (λ (f : ImageFault). Verity (Image f)) unprinted.0,
        (
          unprinted.1.0,
          record {
            filled = c.fill_disk.new.images;
            plan = c.in_ok-plan.plan;
            made = c.in_ok-made.made;
            fills = record {
              opened = c.open_place.new.images;
              kinds = c.in-Some.kinds;
              image = c.in_ok-data.data;
              kinds_are = sym c.in_ok-found.ensures.ok ∙ c.in-Some.is;
              opens = record {
                tried = c.check_root_path.new.images;
                compared = c.check_apart.new.images;
                path = rw c.places_of.ensures at c.in_ok-check_root_path.ensures.ok;
                apart = c.in_ok-check_apart.ensures.ok;
                opens = c.in_ok-data.ensures.ok;
              };
              is_plan = rw c.sectors-sectors.ensures.size at c.in_ok-plan.ensures.ok;
              fills = rw c.watched_data-data_dev.ensures at (rw c.place_use.ensures at c.in_ok-made.ensures.ok);
            };
            pinned = unprinted.1.1;
          },
        ),
      )
    ])

pub returns-clause-ok : goal.returns-clause-ok
returns-clause-ok g c = record {
  filled = c.fill_disk.new.images;
  plan = c.in_ok-plan.plan;
  made = c.in_ok-made.made;
  fills = record {
    opened = c.open_place.new.images;
    kinds = c.in-Some.kinds;
    image = c.in_ok-data.data;
    kinds_are = sym c.in_ok-found.ensures.ok ∙ c.in-Some.is;
    opens = record {
      tried = c.check_root_path.new.images;
      compared = c.check_apart.new.images;
      path = rw c.places_of.ensures at c.in_ok-check_root_path.ensures.ok;
      apart = c.in_ok-check_apart.ensures.ok;
      opens = c.in_ok-data.ensures.ok;
    };
    is_plan = rw c.sectors-sectors.ensures.size at c.in_ok-plan.ensures.ok;
    fills = rw c.watched_data-data_dev.ensures at (rw c.place_use.ensures at c.in_ok-made.ensures.ok);
  };
  finishes = c.in_ok-finish.ensures.ok;
}
