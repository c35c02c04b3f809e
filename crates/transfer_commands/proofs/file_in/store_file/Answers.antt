use Rattle.std.proofs.Common.{Bool, Ok, inl, inr, refl, subst}
use Rattle.stack_files.specs.Endings.{opening_ending}
use Rattle.stack_files.specs.NamedDevices.{device_place}
use Rattle.stack_files.specs.declared.stack_fault.StackFault.TheVariants.{Open}
use Rattle.transfer_commands.specs.declared.stream_fault.StreamFault.TheVariants.{Stack, Write}
use Rattle.transfer_commands.proofs.StreamOpeningLemmas.{err-from}
use Rattle.transfer_commands.proofs.file_in.store_file.Goals as goal

pub returns-in_err-over-clause-err : goal.returns-in_err-over-clause-err
returns-in_err-over-clause-err g c =
    err-from c.from_residual.result _ (Stack (opening_ending c.in_err-over.field-0.0)) c.from_residual.ensures.1 (inl (refl, inl (c.in_err-over.field-0.0, refl, c.in_err-over.ensures.err)))

pub returns-in-Err-clause-err : goal.returns-in-Err-clause-err
returns-in-Err-clause-err g c =
    inl (
      refl,
      inr (inl (record {
        over = c.in_ok-over.over;
        image = c.in_ok-over.image;
        between = c.open_with_input.new.images;
        opened = c.in_ok-over.ensures.ok;
        fails = (refl, rw c.in-Err.is at c.has_part_sector.ensures);
      })),
    )

pub returns-in_err-stack-clause-err : goal.returns-in_err-stack-clause-err
returns-in_err-stack-clause-err g c =
    err-from c.from_residual-in_err-stack.result _ (Stack c.in_err-stack.field-0.0) c.from_residual-in_err-stack.ensures.1
    (inl (
      refl,
      inr (inr (record {
        over = c.in_ok-over.over;
        image = c.in_ok-over.image;
        part = c.in-Ok.part;
        opened = record { between = c.open_with_input.new.images; opened = c.in_ok-over.ensures.ok; measured = rw c.in-Ok.is at c.has_part_sector.ensures };
        fails = c.in_err-stack.ensures.err;
      })),
    ))

pub returns-in_err-say_stored-in-Ok-outcome-clause-err : goal.returns-in_err-say_stored-in-Ok-outcome-clause-err
returns-in_err-say_stored-in-Ok-outcome-clause-err g c =
    err-from c.from_residual-in_err-say_stored-in-Ok-outcome.result _ Write c.from_residual-in_err-say_stored-in-Ok-outcome.ensures.1
    (inr (inr (
      c.in-Ok-outcome.written,
      record {
        at = device_place c.in_ok-stack.stack c.in_ok-stack.device.0;
        image = c.in_ok-over.image;
        left = c.store_whole-outcome.new.stack;
        between = c.has_part_sector.new.self;
        found = record {
          over = c.in_ok-over.over;
          opened = record {
            between = c.open_with_input.new.images;
            opened = c.in_ok-over.ensures.ok;
            measured = subst (λ (b : Bool). g.I.Images.relations.measures c.open_with_input.new.images c.args.source.now (Ok b) c.has_part_sector.new.self) (c.in-Ok-outcome.ensures.whole refl) c.in-Ok.ensures;
          };
          has = c.in_ok-stack.ensures.ok;
        };
        stored = c.in-Ok-outcome.ensures.ok;
        back = c.close_stack.ensures;
      },
      c.in_err-say_stored-in-Ok-outcome.ensures.failed,
    )))

pub returns-in-Ok-outcome-clause-ok : goal.returns-in-Ok-outcome-clause-ok
returns-in-Ok-outcome-clause-ok g c = record {
  n = c.in-Ok-outcome.written;
  stored = record {
    at = device_place c.in_ok-stack.stack c.in_ok-stack.device.0;
    image = c.in_ok-over.image;
    left = c.store_whole-outcome.new.stack;
    between = c.has_part_sector.new.self;
    found = record {
      over = c.in_ok-over.over;
      opened = record {
        between = c.open_with_input.new.images;
        opened = c.in_ok-over.ensures.ok;
        measured = subst (λ (b : Bool). g.I.Images.relations.measures c.open_with_input.new.images c.args.source.now (Ok b) c.has_part_sector.new.self) (c.in-Ok-outcome.ensures.whole refl) c.in-Ok.ensures;
      };
      has = c.in_ok-stack.ensures.ok;
    };
    stored = c.in-Ok-outcome.ensures.ok;
    back = c.close_stack.ensures;
  };
  printed = c.in_ok-say_stored-in-Ok-outcome.ensures.ok;
}

pub returns-clause-err : goal.returns-clause-err
returns-clause-err g c = inr (inl (record {
  at = device_place c.in_ok-stack.stack c.in_ok-stack.device.0;
  image = c.in_ok-over.image;
  part = c.in-Ok.part;
  left = c.store_whole-outcome.new.stack;
  source = c.store_whole-outcome.new.source;
  between = c.has_part_sector.new.self;
  found = record {
    over = c.in_ok-over.over;
    opened = record { between = c.open_with_input.new.images; opened = c.in_ok-over.ensures.ok; measured = c.in-Ok.ensures };
    has = c.in_ok-stack.ensures.ok;
  };
  fails = c.in-Err-outcome.ensures.err;
  quiet = refl;
  back = c.close_stack.ensures;
}))

-- ---- what is printed among the errors

pub returns-in_err-over-clause-noted : goal.returns-in_err-over-clause-noted
returns-in_err-over-clause-noted g c = inr ((opening_ending c.in_err-over.field-0.0, inl (c.in_err-over.field-0.0, refl, c.in_err-over.ensures.err)), refl)

pub returns-in-Err-clause-noted : goal.returns-in-Err-clause-noted
returns-in-Err-clause-noted g c = inr (
  (
    Open (record { fault = c.in-Err.fault; path = c.args.source }),
    inr (inl (record {
      over = c.in_ok-over.over;
      image = c.in_ok-over.image;
      between = c.open_with_input.new.images;
      opened = c.in_ok-over.ensures.ok;
      fails = (refl, rw c.in-Err.is at c.has_part_sector.ensures);
    })),
  ),
  refl,
)

pub returns-in_err-stack-clause-noted : goal.returns-in_err-stack-clause-noted
returns-in_err-stack-clause-noted g c = inr (
  (
    c.in_err-stack.field-0.0,
    inr (inr (record {
      over = c.in_ok-over.over;
      image = c.in_ok-over.image;
      part = c.in-Ok.part;
      opened = record { between = c.open_with_input.new.images; opened = c.in_ok-over.ensures.ok; measured = rw c.in-Ok.is at c.has_part_sector.ensures };
      fails = c.in_err-stack.ensures.err;
    })),
  ),
  refl,
)

pub returns-in_err-say_stored-in-Ok-outcome-clause-noted : goal.returns-in_err-say_stored-in-Ok-outcome-clause-noted
returns-in_err-say_stored-in-Ok-outcome-clause-noted g c = inl (
  c.in_ok-stack.stack,
  record {
    d = c.in_ok-stack.device.0;
    image = c.in_ok-over.image;
    part = c.in-Ok.part;
    between = c.has_part_sector.new.self;
    found = record {
      over = c.in_ok-over.over;
      opened = record { between = c.open_with_input.new.images; opened = c.in_ok-over.ensures.ok; measured = c.in-Ok.ensures };
      has = c.in_ok-stack.ensures.ok;
    };
  },
  rw c.config.ensures.value at c.note_unchecked.ensures.noted,
)

pub returns-in-Ok-outcome-clause-noted : goal.returns-in-Ok-outcome-clause-noted
returns-in-Ok-outcome-clause-noted g c = inl (
  c.in_ok-stack.stack,
  record {
    d = c.in_ok-stack.device.0;
    image = c.in_ok-over.image;
    part = c.in-Ok.part;
    between = c.has_part_sector.new.self;
    found = record {
      over = c.in_ok-over.over;
      opened = record { between = c.open_with_input.new.images; opened = c.in_ok-over.ensures.ok; measured = c.in-Ok.ensures };
      has = c.in_ok-stack.ensures.ok;
    };
  },
  rw c.config.ensures.value at c.note_unchecked.ensures.noted,
)

pub returns-clause-noted : goal.returns-clause-noted
returns-clause-noted g c = inl (
  c.in_ok-stack.stack,
  record {
    d = c.in_ok-stack.device.0;
    image = c.in_ok-over.image;
    part = c.in-Ok.part;
    between = c.has_part_sector.new.self;
    found = record {
      over = c.in_ok-over.over;
      opened = record { between = c.open_with_input.new.images; opened = c.in_ok-over.ensures.ok; measured = c.in-Ok.ensures };
      has = c.in_ok-stack.ensures.ok;
    };
  },
  rw c.config.ensures.value at c.note_unchecked.ensures.noted,
)
