-- What the system's call says of a faithful file.
use Rattle.std.proofs.Common.{rules, refl}
use Rattle.std.proofs.lemmas.Bool.{false≢true}
use Rattle.block_device.specs.Call.{Read}
use Rattle.block_device.specs.Faithful.{LiesWithin, called-keeps_faith}
use Rattle.block_device.proofs.file.FileDevBlockDev.read.Goals as goal

pub returns-then-read_at-clause-moved : goal.returns-then-read_at-clause-moved
returns-then-read_at-clause-moved c =
    let within : LiesWithin c.args.self.now.sectors (Read c.args.first c.read_at.new.out c.read_at.result) = search rules in
    let k = called-keeps_faith _ _ _ c.args.self.now.sectors within c.read_at.ensures in
    record { same = record { size = refl; may_write = refl; steady = k.faithful; never_fails = λ h. h }; reads = search rules; writes = refl; failures = refl; dirty = refl; image = k.holds.0 }

pub returns-then-read_at-clause-bytes : goal.returns-then-read_at-clause-bytes
returns-then-read_at-clause-bytes c = let within : LiesWithin c.args.self.now.sectors (Read c.args.first c.read_at.new.out c.read_at.result) = search rules in
    let k = called-keeps_faith _ _ _ c.args.self.now.sectors within c.read_at.ensures in search rules

pub returns-then-read_at-clause-call : goal.returns-then-read_at-clause-call
returns-then-read_at-clause-call c =
    let within : LiesWithin c.args.self.now.sectors (Read c.args.first c.read_at.new.out c.read_at.result) = search rules in
    let k = called-keeps_faith _ _ _ c.args.self.now.sectors within c.read_at.ensures in (
      record {
        moved = record { same = record { size = refl; may_write = refl; steady = k.faithful; never_fails = λ h. h }; reads = search rules; writes = refl; failures = refl; dirty = refl; image = k.holds.0 };
        answer = search rules;
        sure = search rules;
      },
      search rules,
    )

pub returns-clause-moved : goal.returns-clause-moved
returns-clause-moved c =
    let within : LiesWithin c.args.self.now.sectors (Read c.args.first c.read_at.new.out c.read_at.result) = search rules in
    let k = called-keeps_faith _ _ _ c.args.self.now.sectors within c.read_at.ensures in
    record { same = record { size = refl; may_write = refl; steady = k.faithful; never_fails = λ h. h }; reads = search rules; writes = refl; failures = search rules; dirty = refl; image = k.holds.0 }

pub returns-clause-call : goal.returns-clause-call
returns-clause-call c =
    let within : LiesWithin c.args.self.now.sectors (Read c.args.first c.read_at.new.out c.read_at.result) = search rules in
    let k = called-keeps_faith _ _ _ c.args.self.now.sectors within c.read_at.ensures in (
      record {
        moved = record { same = record { size = refl; may_write = refl; steady = k.faithful; never_fails = λ h. h }; reads = search rules; writes = refl; failures = search rules; dirty = refl; image = k.holds.0 };
        answer = search rules;
        sure = λ h. absurd (false≢true h);
      },
      search rules,
    )
