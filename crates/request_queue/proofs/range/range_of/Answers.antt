use Rattle.std.proofs.Common.{◌≡◌, ◌⊎◌, ◌<◌, ◌+◌, arith, inl, inr, sym}
use Rattle.stack_rules.specs.Names.{mapped, device_named, size}
use Rattle.request_queue.proofs.RangeLemmas.{named-none, named-some, range_of-none, range_of-past, range_of-length, range_of-ok}
use Rattle.request_queue.proofs.range.range_of.Goals as goal
use Rattle.request_queue.proofs.range.range_of.Goals.{then-count-sectors-via-then-count-sectors, then-count-sectors-via-else-count-sectors+then-first-sectors, then-count-eq0-via-then-count-eq0, then-count-eq0-via-else-count-eq0+then-count-gt-MOST_COUNT}

pub returns-in_default-clause-value : goal.returns-in_default-clause-value
returns-in_default-clause-value c =
    sym (range_of-none c.args.config.now c.args.name.now c.args.first c.args.count (named-none (device_named c.args.config.now c.args.name.now) c.in_default.ensures))

pub returns-then-count-sectors-clause-value : goal.returns-then-count-sectors-clause-value
returns-then-count-sectors-clause-value c =
    let past : size c.args.config.now (mapped c.in-Some.device.0) < c.args.first + c.args.count = elim c.then-count-sectors.branch [
      | then-count-sectors-via-then-count-sectors w ↦ omega (arith, c.sectors-sectors.ensures, w.if-count-sectors.true)
      | then-count-sectors-via-else-count-sectors+then-first-sectors w ↦ omega (arith, c.sectors-sectors.ensures, w.if-count-sectors.false, w.if-first-sectors.true)
    ] in
    sym (range_of-past c.args.config.now c.args.name.now c.args.first c.args.count c.in-Some.device.0
    (named-some (device_named c.args.config.now c.args.name.now) c.in-Some.device c.in-Some.ensures) past)

pub returns-then-count-eq0-clause-value : goal.returns-then-count-eq0-clause-value
returns-then-count-eq0-clause-value c =
    let bad : (c.args.count ≡ 0) ⊎ (2048 < c.args.count) = elim c.then-count-eq0.branch [
      | then-count-eq0-via-then-count-eq0 w ↦ inl w.if-count-eq0.true
      | then-count-eq0-via-else-count-eq0+then-count-gt-MOST_COUNT w ↦ inr w.if-count-gt-MOST_COUNT.true
    ] in
    sym (range_of-length c.args.config.now c.args.name.now c.args.first c.args.count c.in-Some.device.0
    (named-some (device_named c.args.config.now c.args.name.now) c.in-Some.device c.in-Some.ensures)
    (omega (arith, c.sectors-sectors.ensures, c.if-count-sectors.false, c.if-first-sectors.false)) bad)

pub returns-clause-value : goal.returns-clause-value
returns-clause-value c =
    sym (range_of-ok c.args.config.now c.args.name.now c.args.first c.args.count c.in-Some.device.0
    (named-some (device_named c.args.config.now c.args.name.now) c.in-Some.device c.in-Some.ensures)
    (omega (arith, c.sectors-sectors.ensures, c.if-count-sectors.false, c.if-first-sectors.false))
    (omega (arith, c.if-count-eq0.false)) (omega (arith, c.if-count-gt-MOST_COUNT.false)))
