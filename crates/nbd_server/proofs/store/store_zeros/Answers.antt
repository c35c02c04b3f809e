use Rattle.std.proofs.Common.{◌≡◌, ◌<◌, ◌≤◌, ℕ, ◌+◌, ◌-◌, ◌*◌, ◌/◌, List, [], ◌++◌, ◌∙◌, ap, arith, length, replicate, sym, subst}
use Rattle.std.proofs.lemmas.Result.{err_from_is_err_and}
use Rattle.alignment.specs.Lengths.{aligned_len}
use Rattle.nbd_protocol.specs.Exports.{IsExport, export_record}
use Rattle.nbd_server.specs.Zeros.{zeros_of}
use Rattle.nbd_server.proofs.StoreLemmas.{IsPut, IsRunOf, failed-turns, last-turns, put-ends, put-err, put-more, put-none, put-ok}
use Rattle.nbd_server.proofs.ZeroLemmas.{length-zeros, zeros-split}
use Rattle.nbd_server.proofs.store.store_zeros.Goals as goal

pub runs-init : goal.runs-init
runs-init g c = record {
  put = put-none c.args.queue.now c.args.export.now.device.0 c.args.first (zeros_of c.args.zeros.now);
  export = c.requires.export;
  ends = c.requires.ends;
  some = c.requires.some;
  sectors = c.requires.sectors;
}

pub run_bytes-size-requires-clause-inside : goal.run_bytes-size-requires-clause-inside
run_bytes-size-requires-clause-inside g c = omega (arith, c.len-left.ensures.value, c.runs.invariant.sectors.inside)

pub run_bytes-size-requires-clause-some : goal.run_bytes-size-requires-clause-some
run_bytes-size-requires-clause-some g c = omega (arith, c.len-left.ensures.value, c.len.ensures.value, c.runs-test.true)

pub zero_run-requires-clause-sectors : goal.zero_run-requires-clause-sectors
zero_run-requires-clause-sectors g c =
    let before = c.runs.rest.before.now in
    let k = c.run_bytes-size.result in
    let is = c.run_bytes-size.ensures in
    let size : length (before ++ (replicate (k - length before) 0 ++ [])) ≡ k = omega (arith, length-zeros before [] (k - length before), c.runs.invariant.ends.before, is.some) in
    record {
      whole = omega (arith, size, is.whole);
      inside = omega (arith, size, is.few, c.len.ensures.value, c.runs-test.true, c.runs.invariant.sectors.inside);
      allowed = c.runs.invariant.sectors.allowed;
    }

pub zero_run-requires-clause-run : goal.zero_run-requires-clause-run
zero_run-requires-clause-run g c =
    let before = c.runs.rest.before.now in
    let k = c.run_bytes-size.result in
    let is = c.run_bytes-size.ensures in
    record {
      ends = record { before = c.runs.invariant.ends.before; few = omega (arith, c.runs.invariant.ends.few, is.few); behind = omega arith };
      some = omega (arith, c.runs.invariant.ends.before, is.some);
      few = omega (arith, length-zeros before [] (k - length before), c.runs.invariant.ends.before, is.some, is.few);
    }

pub zero_run-requires-2-clause-run : goal.zero_run-requires-2-clause-run
zero_run-requires-2-clause-run g c = record {
  ends = c.runs.invariant.ends;
  some = c.runs.invariant.some;
  few = omega (arith, c.len.ensures.value, c.runs-test.false);
}

pub returns-in_err-zero_run-clause-err : goal.returns-in_err-zero_run-clause-err
returns-in_err-zero_run-clause-err g c =
    let d = c.args.export.now.device.0 in
    let first = c.args.queue.now in
    let all = zeros_of c.args.zeros.now in
    let before = c.runs.rest.before.now in
    let behind = c.runs.rest.behind.now in
    let n = c.runs.rest.count in
    let k = c.run_bytes-size.result in
    let is = c.run_bytes-size.ensures in
    let m = k - length before in
    let few : m ≤ n = omega (arith, is.few, c.len.ensures.value, c.len.ensures.sum, c.runs-test.true, c.runs.invariant.sectors.whole, c.runs.invariant.ends.before, c.runs.invariant.ends.behind) in
    let run : List ℕ = before ++ (replicate m 0 ++ []) in
    let rest : List ℕ = [] ++ (replicate (n - m) 0 ++ behind) in
    let put : IsPut first d c.args.first c.runs.at all (run ++ rest) c.runs.queue = subst (λ (l : List ℕ). IsPut first d c.args.first c.runs.at all l c.runs.queue) (zeros-split before behind m n few) c.runs.invariant.put in
    let p = err_from_is_err_and c.from_residual.result c.from_residual.ensures.1 in
    rw (p.1, p.2) (put-ends first c.runs.queue c.zero_run.new.queue d c.args.first c.runs.at all run rest c.in_err-zero_run.field-0.0 put c.in_err-zero_run.ensures.err)

pub returns-in_err-zero_run-clause-turns : goal.returns-in_err-zero_run-clause-turns
returns-in_err-zero_run-clause-turns g c =
    let d = c.args.export.now.device.0 in
    let first = c.args.queue.now in
    let all = zeros_of c.args.zeros.now in
    let before = c.runs.rest.before.now in
    let behind = c.runs.rest.behind.now in
    let n = c.runs.rest.count in
    let k = c.run_bytes-size.result in
    let is = c.run_bytes-size.ensures in
    let m = k - length before in
    let few : m ≤ n = omega (arith, is.few, c.len.ensures.value, c.len.ensures.sum, c.runs-test.true, c.runs.invariant.sectors.whole, c.runs.invariant.ends.before, c.runs.invariant.ends.behind) in
    let run : List ℕ = before ++ (replicate m 0 ++ []) in
    let rest : List ℕ = [] ++ (replicate (n - m) 0 ++ behind) in
    let put : IsPut first d c.args.first c.runs.at all (run ++ rest) c.runs.queue = subst (λ (l : List ℕ). IsPut first d c.args.first c.runs.at all l c.runs.queue) (zeros-split before behind m n few) c.runs.invariant.put in
    let size : length run ≡ k = omega (arith, length-zeros before [] m, c.runs.invariant.ends.before, is.some) in
    let total : length (run ++ rest) ≡ c.len-left.result = omega (arith, ap (λ (l : List ℕ). length l) (zeros-split before behind m n few), c.len-left.ensures.value) in
    let fits : IsRunOf c.runs.queue d c.runs.at (length (run ++ rest)) (length run) = size ∙ is.value ∙ ap (λ (j : ℕ). 512 * aligned_len c.runs.queue.stack.config d c.runs.at (j / 512) 2048) (sym total) in
    let p = err_from_is_err_and c.from_residual.result c.from_residual.ensures.1 in
    rw (p.1, p.2) (failed-turns first c.runs.queue c.zero_run.new.queue d c.args.first c.runs.at all run rest put c.in_err-zero_run.field-0.0 fits c.in_err-zero_run.ensures.run)

pub runs-preserved : goal.runs-preserved
runs-preserved g c =
    let d = c.args.export.now.device.0 in
    let first = c.args.queue.now in
    let now = c.zero_run.new.queue in
    let all = zeros_of c.args.zeros.now in
    let before = c.runs.rest.before.now in
    let behind = c.runs.rest.behind.now in
    let n = c.runs.rest.count in
    let k = c.run_bytes-size.result in
    let is = c.run_bytes-size.ensures in
    let m = k - length before in
    let few : m ≤ n = omega (arith, is.few, c.len.ensures.value, c.len.ensures.sum, c.runs-test.true, c.runs.invariant.sectors.whole, c.runs.invariant.ends.before, c.runs.invariant.ends.behind) in
    let run : List ℕ = before ++ (replicate m 0 ++ []) in
    let rest : List ℕ = [] ++ (replicate (n - m) 0 ++ behind) in
    let put : IsPut first d c.args.first c.runs.at all (run ++ rest) c.runs.queue = subst (λ (l : List ℕ). IsPut first d c.args.first c.runs.at all l c.runs.queue) (zeros-split before behind m n few) c.runs.invariant.put in
    let size : length run ≡ k = omega (arith, length-zeros before [] m, c.runs.invariant.ends.before, is.some) in
    let total : length (run ++ rest) ≡ c.len-left.result = omega (arith, ap (λ (l : List ℕ). length l) (zeros-split before behind m n few), c.len-left.ensures.value) in
    let fits : IsRunOf c.runs.queue d c.runs.at (length (run ++ rest)) (length run) = size ∙ is.value ∙ ap (λ (j : ℕ). 512 * aligned_len c.runs.queue.stack.config d c.runs.at (j / 512) 2048) (sym total) in
    let sectors : length run / 512 ≡ k / 512 = omega (arith, size) in
    let left : length rest ≡ n - m + length behind = omega (arith, length-zeros [] behind (n - m)) in
    let more : IsPut first d c.args.first (c.runs.at + length run / 512) all rest now = put-more first c.runs.queue now d c.args.first c.runs.at all run rest (omega (arith, size, is.whole)) fits put c.in_ok-zero_run.ensures.ok c.in_ok-zero_run.ensures.run in
    let more_left : 0 < n - m = omega (arith, is.few, c.len.ensures.value, c.len.ensures.sum, c.runs-test.true, c.runs.invariant.sectors.whole, c.runs.invariant.ends.before, c.runs.invariant.ends.behind) in
    record {
      put = subst (λ (j : ℕ). IsPut first d c.args.first (c.runs.at + j) all rest now) sectors more;
      export = subst (λ x. IsExport x (export_record c.args.export.now)) (sym c.in_ok-zero_run.ensures.ok.put.any.config) c.runs.invariant.export;
      some = more_left;
      ends = record { before = omega arith; few = omega (arith, c.runs.invariant.ends.few); behind = c.runs.invariant.ends.behind };
      sectors = record {
        whole = omega (arith, left, few, is.whole, is.some, c.len.ensures.value, c.len.ensures.sum, c.runs.invariant.sectors.whole, c.runs.invariant.ends.before);
        inside = omega (arith, left, few, is.whole, is.some, c.len.ensures.value, c.len.ensures.sum, c.runs.invariant.sectors.inside, c.runs.invariant.ends.before);
        allowed = c.runs.invariant.sectors.allowed;
      };
    }

pub returns-clause-ok : goal.returns-clause-ok
returns-clause-ok g c =
    put-ok c.args.queue.now c.runs.queue c.zero_run-2.new.queue c.args.export.now.device.0 c.args.first c.runs.at (zeros_of c.args.zeros.now) (zeros_of c.runs.rest) c.zero_run-2.result c.runs.invariant.put c.zero_run-2.ensures.ok

pub returns-clause-err : goal.returns-clause-err
returns-clause-err g c =
    put-err c.args.queue.now c.runs.queue c.zero_run-2.new.queue c.args.export.now.device.0 c.args.first c.runs.at (zeros_of c.args.zeros.now) (zeros_of c.runs.rest) c.zero_run-2.result c.runs.invariant.put c.zero_run-2.ensures.err

pub returns-clause-turns : goal.returns-clause-turns
returns-clause-turns g c =
    last-turns c.args.queue.now c.runs.queue c.zero_run-2.new.queue c.args.export.now.device.0 c.args.first c.runs.at (zeros_of c.args.zeros.now) (zeros_of c.runs.rest) c.zero_run-2.result c.runs.invariant.put
    c.runs.invariant.sectors.whole (omega (arith, c.len.ensures.value, c.runs-test.false)) c.zero_run-2.ensures.run
