use Rattle.std.proofs.Common.{arith, inl, inr, refl, sym, ◌∙◌}
use Rattle.stack_rules.specs.Names.{mapped}
use Rattle.stack_meaning.specs.Meaning.{said_at}
use Rattle.stack_meaning.proofs.lemmas.LoadedLemmas.{size-small}
use Rattle.nbd_server.specs.Extents.{HasKind}
use Rattle.nbd_server.proofs.ExtentLemmas.{ends-before, joined-extent, kind-same}
use Rattle.nbd_server.proofs.extent.extent_at.Goals as goal

pub overflow_add-at : goal.overflow_add-at
overflow_add-at c = let small = size-small c.args.config.now (mapped c.args.d.0) c.requires.loaded in omega (arith, small, c.loop-run.invariant.extent.few, c.requires.inside)

pub loop-run-init : goal.loop-run-init
loop-run-init c = let first = c.device_extent-extent.ensures in record { extent = first; runs = omega (arith, first.some) }

pub returns-then-extent-most : goal.returns-then-extent-most
returns-then-extent-most c = record { told = c.loop-run.invariant.extent; ends = inl (omega (arith, c.if-extent-most.true)); joined = omega (arith, c.loop-run.invariant.runs) }

pub returns-then-not-is_same_kind : goal.returns-then-not-is_same_kind
returns-then-not-is_same_kind c =
    let config = c.args.config.now in
    let d = mapped c.args.d.0 in
    let extent = c.loop-run.extent in
    let next = c.device_extent-next in
    record {
      told = c.loop-run.invariant.extent;
      ends = ends-before (said_at config d) (HasKind config d) c.args.first c.args.most extent next.result _ next.ensures (sym c.is_same_kind.ensures ∙ c.if-not-is_same_kind.true);
      joined = omega (arith, c.loop-run.invariant.runs);
    }

pub loop-run-preserved : goal.loop-run-preserved
loop-run-preserved c =
    let config = c.args.config.now in
    let d = mapped c.args.d.0 in
    let extent = c.loop-run.extent in
    let next = c.device_extent-next in
    let alike = kind-same next.result.kind extent.kind (sym c.is_same_kind.ensures ∙ c.if-not-is_same_kind.false) in
    record {
      extent = joined-extent (said_at config d) (HasKind config d) c.args.first c.args.most extent next.result c.loop-run.invariant.extent
          (omega (arith, c.loop-run.invariant.extent.few, c.if-extent-most.false)) next.ensures alike;
      runs = omega (arith, c.loop-run.invariant.runs, next.ensures.some);
    }

pub returns : goal.returns
returns c = record { told = c.loop-run.invariant.extent; ends = inr (inl refl); joined = omega (arith, c.loop-run.invariant.runs, c.requires.some) }
