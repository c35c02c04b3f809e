-- What the system's call says of a faithful file.
use Rattle.std.proofs.Common.{rules, refl}
use Rattle.std.specs.Prelude.{false, true}
use Rattle.std.proofs.lemmas.Bool.{false≢true}
use Rattle.block_device.specs.Call.{Write}
use Rattle.block_device.specs.Faithful.{LiesWithin, called-keeps_faith}
use Rattle.block_device.proofs.file.FileDevBlockDev.write.Goals as goal

pub returns-in-Ok-clause-moved : goal.returns-in-Ok-clause-moved
returns-in-Ok-clause-moved c =
    let within : LiesWithin c.args.self.now.sectors (Write c.args.first c.args.bytes.now true) = search rules in
    let k = called-keeps_faith _ _ _ c.args.self.now.sectors within c.in-Ok.ensures.call in
    record { same = record { size = refl; may_write = refl; steady = k.faithful; never_fails = λ h. h }; reads = refl; writes = search rules; failures = refl; dirty = refl; before = k.holds.0; after = k.holds.1 }

pub returns-in-Ok-clause-image : goal.returns-in-Ok-clause-image
returns-in-Ok-clause-image c = let within : LiesWithin c.args.self.now.sectors (Write c.args.first c.args.bytes.now true) = search rules in
    let k = called-keeps_faith _ _ _ c.args.self.now.sectors within c.in-Ok.ensures.call in search rules

pub returns-in-Ok-clause-call : goal.returns-in-Ok-clause-call
returns-in-Ok-clause-call c =
    let within : LiesWithin c.args.self.now.sectors (Write c.args.first c.args.bytes.now true) = search rules in
    let k = called-keeps_faith _ _ _ c.args.self.now.sectors within c.in-Ok.ensures.call in (
      record {
        moved = record { same = record { size = refl; may_write = refl; steady = k.faithful; never_fails = λ h. h }; reads = refl; writes = search rules; failures = refl; dirty = refl; before = k.holds.0; after = k.holds.1 };
        image = search rules;
        sure = search rules;
      },
      (c.in-Ok.ensures.call, refl),
    )

pub returns-in-Err-clause-moved : goal.returns-in-Err-clause-moved
returns-in-Err-clause-moved c =
    let within : LiesWithin c.args.self.now.sectors (Write c.args.first c.args.bytes.now false) = search rules in
    let k = called-keeps_faith _ _ _ c.args.self.now.sectors within c.in-Err.ensures.call in
    record { same = record { size = refl; may_write = refl; steady = k.faithful; never_fails = λ h. h }; reads = refl; writes = search rules; failures = search rules; dirty = refl; before = k.holds.0; after = k.holds.1 }

pub returns-in-Err-clause-call : goal.returns-in-Err-clause-call
returns-in-Err-clause-call c =
    let within : LiesWithin c.args.self.now.sectors (Write c.args.first c.args.bytes.now false) = search rules in
    let k = called-keeps_faith _ _ _ c.args.self.now.sectors within c.in-Err.ensures.call in (
      record {
        moved = record { same = record { size = refl; may_write = refl; steady = k.faithful; never_fails = λ h. h }; reads = refl; writes = search rules; failures = search rules; dirty = refl; before = k.holds.0; after = k.holds.1 };
        image = search rules;
        sure = λ h. absurd (false≢true h);
      },
      (c.in-Err.ensures.call, (c.in-Err.kind, c.in-Err.ensures.err, c.is_lack_of_space-self.ensures)),
    )
