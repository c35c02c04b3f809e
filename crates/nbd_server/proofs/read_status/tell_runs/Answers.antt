use Rattle.std.proofs.Common.{ℕ, ◌+◌, ◌-◌, List, arith, drop, length, Ok, subst, sym}
use Rattle.std.specs.Prelude.{Bool}
use Rattle.std.proofs.lemmas.List.{length-drop}
use Rattle.nbd_server.specs.Status.{HasReadStatus, IsReadStatus, IsRun}
use Rattle.nbd_server.proofs.ContentLemmas.{rest-is}
use Rattle.nbd_server.proofs.StatusLemmas.{told-first, told-full, told-next, told-all, told-one}
use Rattle.nbd_server.proofs.ReadStatusLemmas.{first-status, run-status}
use Rattle.nbd_server.proofs.read_status.tell_runs.Goals as goal

pub returns-then-one : goal.returns-then-one
returns-then-one c =
    let bytes = c.args.bytes.now in
    let rule = IsReadStatus c.args.at (Ok bytes) in
    let first = c.first_run-first in
    let status = first-status c.args.at bytes first.result first.ensures in
    record {
      ok = rw c.in_ok-told.ensures.ok (told-one rule c.args.at (length bytes) (λ at. ⊥) first.result.count _ c.args.one c.if-one.true (told-first rule c.args.at (length bytes) first.result status));
      err = tt;
    }

pub loop-extent-init : goal.loop-extent-init
loop-extent-init c =
    let bytes = c.args.bytes.now in
    let first = c.first_run-first in
    let status = first-status c.args.at bytes first.result first.ensures in
    record { told = rw c.in_ok-told.ensures.ok (told-first (IsReadStatus c.args.at (Ok bytes)) c.args.at (length bytes) first.result status) }

pub returns-then-done-bytes : goal.returns-then-done-bytes
returns-then-done-bytes c =
    let bytes = c.args.bytes.now in
    let rule = IsReadStatus c.args.at (Ok bytes) in
    let told = c.loop-extent.told.items in
    record {
      ok = subst (λ (b : Bool). HasReadStatus (Ok bytes) c.args.at (length bytes) b told) (sym c.if-one.false)
          (told-all rule c.args.at (length bytes) (λ at. ⊥) c.loop-extent._extent c.loop-extent.done told (omega (arith, c.loop-extent-test.true)) c.loop-extent.invariant.told (omega (arith, c.if-done-bytes.true)));
      err = tt;
    }

pub overflow_add-at : goal.overflow_add-at
overflow_add-at c = omega (arith, c.requires.place, c.loop-extent.invariant.told.few)

pub first_run-run-requires-clause-some : goal.first_run-run-requires-clause-some
first_run-run-requires-clause-some c = omega (arith, c.loop-extent.invariant.told.few, c.if-done-bytes.false, length-drop c.loop-extent.done c.args.bytes.now)

pub first_run-run-requires-clause-few : goal.first_run-run-requires-clause-few
first_run-run-requires-clause-few c = omega (arith, c.requires.few, length-drop c.loop-extent.done c.args.bytes.now)

pub loop-extent-preserved : goal.loop-extent-preserved
loop-extent-preserved c =
    let bytes = c.args.bytes.now in
    let rule = IsReadStatus c.args.at (Ok bytes) in
    let done = c.loop-extent.done in
    let run = c.first_run-run in
    let is : IsRun (c.args.at + done) (drop done bytes) run.result = subst (λ (l : List ℕ). IsRun (c.args.at + done) l run.result) (rest-is bytes done) run.ensures in
    let status = run-status c.args.at done bytes run.result is (omega (arith, is.few, length-drop done bytes)) in
    record { told = rw c.in_ok-push_status.ensures.ok (told-next rule c.args.at (length bytes) c.loop-extent._extent done c.loop-extent.told.items run.result c.loop-extent.invariant.told status) }

pub returns : goal.returns
returns c =
    let bytes = c.args.bytes.now in
    let rule = IsReadStatus c.args.at (Ok bytes) in
    let told = c.loop-extent.told.items in
    record {
      ok = subst (λ (b : Bool). HasReadStatus (Ok bytes) c.args.at (length bytes) b told) (sym c.if-one.false)
          (told-full rule c.args.at (length bytes) (λ at. ⊥) _ c.loop-extent.done told (omega arith) c.loop-extent.invariant.told);
      err = tt;
    }
