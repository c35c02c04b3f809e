use Rattle.std.proofs.Common.{inl, inr, refl}
use Rattle.std.proofs.lemmas.Result.{IfErr-weaker, on_ok_weaker}
use Rattle.stack_files.specs.NamedDevices.{device_place}
use Rattle.scan_commands.specs.Counting.{listed_by}
use Rattle.scan_commands.proofs.OpeningLemmas.{err-from}
use Rattle.scan_commands.proofs.copy.copy_device.Goals as goal
use Rattle.scan_commands.proofs.copy.copy_device.Goals.{in-Some-4, in-None-4}

pub copy_synced-left-requires : goal.copy_synced-left-requires
copy_synced-left-requires g c = record { device = c.in_ok-stack.ensures.there; room = c.in_ok-stack.ensures.room; allowed = c.in_ok-stack.ensures.writable }

pub returns-in_err-used-clause-err : goal.returns-in_err-used-clause-err
returns-in_err-used-clause-err g c =
    err-from c.from_residual.result _ c.in_err-used.field-0.0 c.from_residual.ensures.1 (inl (refl, inl (rw c.map_plan-map.ensures at c.in_err-used.ensures.err)))

pub returns-in_err-stack-clause-err : goal.returns-in_err-stack-clause-err
returns-in_err-stack-clause-err g c =
    err-from c.from_residual-in_err-stack.result _ c.in_err-stack.field-0.0 c.from_residual-in_err-stack.ensures.1
    (inl (refl, inr (record { used = c.in_ok-used.used; first = c.use_map_beside.new.images; map_used = rw c.map_plan-map.ensures at c.in_ok-used.ensures.ok; fails = rw c.source_beside-read.ensures at c.in_err-stack.ensures.err })))

pub returns-clause-err : goal.returns-clause-err
returns-clause-err g c = inr (inl (record {
  before = listed_by g.W.Write.contents c.args.writer.now;
  told = listed_by g.W.Write.contents c.copy_synced-left.new.writer;
  begun = refl;
  stopped = record {
    at = device_place c.in_ok-stack.stack c.in_ok-stack.device.0;
    image = c.in_ok-stack.image;
    image' = c.copy_synced-left.result.0.out;
    left = c.copy_synced-left.result.0.stack;
    used = c.in_ok-used.used;
    first = c.use_map_beside.new.images;
    between = c.open_with_room.new.images;
    behind = c.copy_synced-left.new.images;
    map_used = rw c.map_plan-map.ensures at c.in_ok-used.ensures.ok;
    found = rw c.source_beside-read.ensures at c.in_ok-stack.ensures.ok;
    stops = rw c.in-Err.is at c.copy_synced-left.ensures.err;
    back = c.close.ensures;
  };
  kept = refl;
}))

pub returns-in-Ok-clause-ok : goal.returns-in-Ok-clause-ok
returns-in-Ok-clause-ok g c = on_ok_weaker c.tell_counts.result (λ told. record {
  counts = c.in-Ok.counts;
  before = listed_by g.W.Write.contents c.args.writer.now;
  told = listed_by g.W.Write.contents c.copy_synced-left.new.writer;
  begun = refl;
  done = record {
    at = device_place c.in_ok-stack.stack c.in_ok-stack.device.0;
    image = c.in_ok-stack.image;
    image' = c.copy_synced-left.result.0.out;
    left = _;
    used = c.in_ok-used.used;
    first = c.use_map_beside.new.images;
    between = c.open_with_room.new.images;
    behind = c.copy_synced-left.new.images;
    map_used = rw c.map_plan-map.ensures at c.in_ok-used.ensures.ok;
    found = rw c.source_beside-read.ensures at c.in_ok-stack.ensures.ok;
    copied = rw c.in-Ok.is at c.copy_synced-left.ensures.ok;
    back = c.close.ensures;
  };
  reported = told;
}) c.tell_counts.ensures.ok

pub returns-in-Ok-clause-err : goal.returns-in-Ok-clause-err
returns-in-Ok-clause-err g c = IfErr-weaker c.tell_counts.result _ _ (λ fault ends. inr (inr (record {
  counts = c.in-Ok.counts;
  before = listed_by g.W.Write.contents c.args.writer.now;
  told = listed_by g.W.Write.contents c.copy_synced-left.new.writer;
  begun = refl;
  done = record {
    at = device_place c.in_ok-stack.stack c.in_ok-stack.device.0;
    image = c.in_ok-stack.image;
    image' = c.copy_synced-left.result.0.out;
    left = _;
    used = c.in_ok-used.used;
    first = c.use_map_beside.new.images;
    between = c.open_with_room.new.images;
    behind = c.copy_synced-left.new.images;
    map_used = rw c.map_plan-map.ensures at c.in_ok-used.ensures.ok;
    found = rw c.source_beside-read.ensures at c.in_ok-stack.ensures.ok;
    copied = rw c.in-Ok.is at c.copy_synced-left.ensures.ok;
    back = c.close.ensures;
  };
  ends = ends;
}))) c.tell_counts.ensures.err

-- ---- what is printed among the errors

pub returns-in_err-used-clause-noted : goal.returns-in_err-used-clause-noted
returns-in_err-used-clause-noted g c = inr ((c.in_err-used.field-0.0, inl (rw c.map_plan-map.ensures at c.in_err-used.ensures.err)), refl)

pub returns-in_err-stack-clause-noted : goal.returns-in_err-stack-clause-noted
returns-in_err-stack-clause-noted g c =
    inr ((c.in_err-stack.field-0.0, inr (record { used = c.in_ok-used.used; first = c.use_map_beside.new.images; map_used = rw c.map_plan-map.ensures at c.in_ok-used.ensures.ok; fails = rw c.source_beside-read.ensures at c.in_err-stack.ensures.err })), refl)

pub returns-in-Ok-clause-noted : goal.returns-in-Ok-clause-noted
returns-in-Ok-clause-noted g c = inl (
  c.in_ok-stack.stack,
  record {
    d = c.in_ok-stack.device.0;
    image = c.in_ok-stack.image;
    used = c.in_ok-used.used;
    first = c.use_map_beside.new.images;
    between = c.open_with_room.new.images;
    map_used = rw c.map_plan-map.ensures at c.in_ok-used.ensures.ok;
    found = rw c.source_beside-read.ensures at c.in_ok-stack.ensures.ok;
  },
  rw c.config.ensures.value at c.note_unchecked.ensures.noted,
)

pub returns-clause-noted : goal.returns-clause-noted
returns-clause-noted g c = elim c.match-left-4.branch [
  | in-Some-4 w ↦ rw w.output-is (inl (
    c.in_ok-stack.stack,
    record {
      d = c.in_ok-stack.device.0;
      image = c.in_ok-stack.image;
      used = c.in_ok-used.used;
      first = c.use_map_beside.new.images;
      between = c.open_with_room.new.images;
      map_used = rw c.map_plan-map.ensures at c.in_ok-used.ensures.ok;
      found = rw c.source_beside-read.ensures at c.in_ok-stack.ensures.ok;
    },
    rw c.config.ensures.value at c.note_unchecked.ensures.noted,
  ))
  | in-None-4 w ↦ rw w.output-is (inl (
    c.in_ok-stack.stack,
    record {
      d = c.in_ok-stack.device.0;
      image = c.in_ok-stack.image;
      used = c.in_ok-used.used;
      first = c.use_map_beside.new.images;
      between = c.open_with_room.new.images;
      map_used = rw c.map_plan-map.ensures at c.in_ok-used.ensures.ok;
      found = rw c.source_beside-read.ensures at c.in_ok-stack.ensures.ok;
    },
    rw c.config.ensures.value at c.note_unchecked.ensures.noted,
  ))
]
