use Rattle.std.proofs.Common.{◌+◌, ◌<◌, ◌≤◌, ◌/◌, ◌∙◌, arith, inl, inr, subst, sym}
use Rattle.std.specs.Prelude.{Bool, ℕ}
use Rattle.nbd_protocol.specs.Exports.{export_record}
use Rattle.nbd_server.specs.Status.{EndsByLines, HasStatus, IsLineStatus}
use Rattle.nbd_server.proofs.ExtentLemmas.{kind-other, kind-same}
use Rattle.nbd_server.proofs.StatusLemmas.{extent-begins, extent-status, told-ended, told-first, told-full, told-next, told-all, told-one, rest-of}
use Rattle.nbd_server.specs.declared.extent.ExtentKind.{ExtentKind}
use Rattle.nbd_server.specs.declared.extent.ExtentKind.TheVariants as known
use Rattle.stack_rules.specs.Names.{mapped}
use Rattle.nbd_server.specs.Extents.{HasKind, most_runs}
use Rattle.nbd_server.proofs.status.status_of.Goals as goal

not-below : (n : ℕ) → n < n → ⊥
not-below n below = omega (arith, below)

pub returns-then-one : goal.returns-then-one
returns-then-one c =
    let e = export_record c.args.export.now in
    let first = c.status.result in
    let is = IsLineStatus c.args.config.now e c.args.offset in
    let told = extent-status c.args.config.now e c.args.offset most_runs c.args.offset c.args.len c.joined_at-runs.result.0 first (omega arith) c.joined_at-runs.ensures.is c.status.ensures.count c.status.ensures.zeros
    (λ below. absurd (not-below c.args.offset below)) in
    record {
      ok = rw c.in_ok-told.ensures.ok (told-one is c.args.offset c.args.len (EndsByLines c.args.config.now e c.args.offset) first.count _ c.args.one c.if-one.true (told-first is c.args.offset c.args.len first told));
      err = tt;
    }

pub loop-extent-init : goal.loop-extent-init
loop-extent-init c =
    let e = export_record c.args.export.now in
    let first = c.status.result in
    let is = IsLineStatus c.args.config.now e c.args.offset in
    let told = extent-status c.args.config.now e c.args.offset most_runs c.args.offset c.args.len c.joined_at-runs.result.0 first (omega arith) c.joined_at-runs.ensures.is c.status.ensures.count c.status.ensures.zeros
    (λ below. absurd (not-below c.args.offset below)) in
    record { told = rw (c.in_ok-told.ensures.ok, sym c.status.ensures.count) (told-first is c.args.offset c.args.len first told); left = c.joined_at-runs.ensures.runs_left }

pub returns-then-done-len : goal.returns-then-done-len
returns-then-done-len c =
    let e = export_record c.args.export.now in
    let is = IsLineStatus c.args.config.now e c.args.offset in
    let ends = EndsByLines c.args.config.now e c.args.offset in
    let told = c.loop-extent.told.items in
    record {
      ok = subst (λ (b : Bool). HasStatus is ends c.args.offset c.args.len b told) (sym c.if-one.false)
          (told-all is c.args.offset c.args.len ends c.loop-extent._extent c.loop-extent.done told (omega (arith, c.loop-extent-test.true)) c.loop-extent.invariant.told (omega (arith, c.if-done-len.true)));
      err = tt;
    }

pub returns-then-runs-eq0 : goal.returns-then-runs-eq0
returns-then-runs-eq0 c =
    let e = export_record c.args.export.now in
    let is = IsLineStatus c.args.config.now e c.args.offset in
    let ends = EndsByLines c.args.config.now e c.args.offset in
    let told = c.loop-extent.told.items in
    let short : c.loop-extent.done < c.args.len = omega (arith, c.loop-extent.invariant.told.few, c.if-done-len.false) in
    let spent : c.args.offset / 512 + most_runs ≤ (c.args.offset + c.loop-extent.done) / 512 = omega (arith, c.loop-extent.invariant.left short, c.if-runs-eq0.true) in
    record {
      ok = subst (λ (b : Bool). HasStatus is ends c.args.offset c.args.len b told) (sym c.if-one.false)
          (told-ended is c.args.offset c.args.len ends c.loop-extent._extent c.loop-extent.done told (omega (arith, c.loop-extent-test.true)) c.loop-extent.invariant.told (inr spent));
      err = tt;
    }

pub joined_at-rest-requires-clause-bytes : goal.joined_at-rest-requires-clause-bytes
joined_at-rest-requires-clause-bytes c =
    rw c.from.ensures (rest-of c.args.config.now (export_record c.args.export.now) c.args.offset c.args.len c.loop-extent.done c.requires.bytes c.loop-extent.invariant.told.few)

pub joined_at-rest-requires-clause-some : goal.joined_at-rest-requires-clause-some
joined_at-rest-requires-clause-some c = (omega (arith, c.loop-extent.invariant.told.few, c.if-done-len.false), omega (arith, c.if-runs-eq0.false))

pub returns-then-is_same_kind : goal.returns-then-is_same_kind
returns-then-is_same_kind c =
    let e = export_record c.args.export.now in
    let is = IsLineStatus c.args.config.now e c.args.offset in
    let ends = EndsByLines c.args.config.now e c.args.offset in
    let told = c.loop-extent.told.items in
    let extent = c.joined_at-rest.result.0 in
    let begins = extent-begins c.args.config.now e _ _ _ extent (rw c.from.ensures at c.joined_at-rest.ensures.is) in
    let kind = kind-same extent.kind known.IgnoresZeros (sym c.is_same_kind.ensures ∙ c.if-is_same_kind.true) in
    record {
      ok = subst (λ (b : Bool). HasStatus is ends c.args.offset c.args.len b told) (sym c.if-one.false)
          (told-ended is c.args.offset c.args.len ends c.loop-extent._extent c.loop-extent.done told (omega (arith, c.loop-extent-test.true)) c.loop-extent.invariant.told (inl (subst (λ (k : ExtentKind). HasKind c.args.config.now (mapped e.device) ((c.args.offset + c.loop-extent.done) / 512) k) kind begins)));
      err = tt;
    }

pub loop-extent-preserved : goal.loop-extent-preserved
loop-extent-preserved c =
    let e = export_record c.args.export.now in
    let is = IsLineStatus c.args.config.now e c.args.offset in
    let status = c.status-status in
    let extent = c.joined_at-rest.result.0 in
    let short : c.loop-extent.done < c.args.len = omega (arith, c.loop-extent.invariant.told.few, c.if-done-len.false) in
    let more = rw c.from.ensures at c.joined_at-rest.ensures in
    record {
      told = rw c.in_ok-push_status.ensures.ok
          (told-next is c.args.offset c.args.len c.loop-extent._extent c.loop-extent.done c.loop-extent.told.items status.result c.loop-extent.invariant.told
          (extent-status c.args.config.now e c.args.offset c.loop-extent.runs _ _ extent status.result (c.loop-extent.invariant.left short) more.is status.ensures.count status.ensures.zeros
          (λ behind. kind-other extent.kind known.IgnoresZeros (sym c.is_same_kind.ensures ∙ c.if-is_same_kind.false))));
      left = λ shorter. omega (arith, c.loop-extent.invariant.left short, more.runs_left (omega (arith, shorter, status.ensures.count)), status.ensures.count);
    }

pub returns : goal.returns
returns c =
    let e = export_record c.args.export.now in
    let is = IsLineStatus c.args.config.now e c.args.offset in
    let ends = EndsByLines c.args.config.now e c.args.offset in
    let told = c.loop-extent.told.items in
    record {
      ok = subst (λ (b : Bool). HasStatus is ends c.args.offset c.args.len b told) (sym c.if-one.false)
          (told-full is c.args.offset c.args.len ends _ c.loop-extent.done told (omega arith) c.loop-extent.invariant.told);
      err = tt;
    }
