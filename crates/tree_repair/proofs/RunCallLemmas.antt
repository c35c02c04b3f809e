-- The calls of a whole repair: none, reads, one visit, and calls after others.
use Rattle.std.proofs.Common.{◌≡◌, ◌<◌, ℕ, zero, suc, Bool, true, false, List, [], ◌∷◌, ◌++◌, Result, Ok, Err, refl, subst, sym, add-one, ◌/◌}
use Rattle.std.specs.Prelude.{IsErrAnd}
use Rattle.block_device.specs.Call.{Call}
use Rattle.tree_path.specs.Path.{PathRecord, digest_on}
use Rattle.tree_survey.specs.Surveys.{IsWay}
use Rattle.tree_repair.specs.declared.fault.RepairFault.{RepairFault}
use Rattle.tree_repair.specs.RepairCalls.{HandsTo, HandsToHash, IsBlockWrite, IsHashWrite, IsPlaceWrite, ReadsBoth, VisitCalls, wrote_all, wrote_before}
use Rattle.tree_repair.specs.RunCalls.{BlockVisit, MakesRepair, MakesVisits, block_visit}
use Rattle.tree_repair.specs.Runs.{Job}
use Rattle.tree_repair.specs.Sources.{wanted}
use Rattle.tree_repair.specs.Visits.{hash_sector}
use Rattle.tree_repair.specs.Worlds.{ImageRecord}
use Rattle.tree_repair.proofs.RepairCallLemmas.{both-more, both-nothing, visit-sought}

module _ {D H : Type 0} (asks : D → Call → D → Type 0) (does : H → Call → H → Type 0) (j : Job) where
  visits-behind : (us : List BlockVisit) (a b c : ImageRecord D H) → ReadsBoth asks does a b → MakesVisits asks does j us b c → MakesVisits asks does j us a c
  visits-behind [] a b c reads made = both-more asks does a b c reads made
  visits-behind (u ∷ more) a b c reads (x, (y, (first, (here, rest)))) = (x, (y, (both-more asks does a b x reads first, (here, rest))))

  visits-append : (vs us : List BlockVisit) (a b c : ImageRecord D H) → MakesVisits asks does j vs a b → MakesVisits asks does j us b c → MakesVisits asks does j (vs ++ us) a c
  visits-append [] us a b c reads made = visits-behind us a b c reads made
  visits-append (v ∷ more) us a b c (x, (y, (first, (here, rest)))) made = (x, (y, (first, (here, visits-append more us y b c rest made))))

  -- no call
  pub hands-none : (a : ImageRecord D H) → MakesRepair asks does j true a a
  hands-none a = record { visits = []; between = a; made = both-nothing asks does a; ends = refl }

  -- reads
  pub hands-read : (a b : ImageRecord D H) → ReadsBoth asks does a b → MakesRepair asks does j true a b
  hands-read a b reads = record { visits = []; between = b; made = reads; ends = refl }

  -- one visit
  pub hands-visit : (h i : ℕ) (p : PathRecord) (done : Bool) (a b : ImageRecord D H) → i < j.tree.shape.blocks → IsWay j.tree i h p → VisitCalls asks does j p h i done a b → MakesRepair asks does j done a b
  hands-visit h i p true a b inside way calls = record {
    visits = block_visit h i p true ∷ [];
    between = b;
    made = (a, (b, (both-nothing asks does a, ((refl, record { inside = inside; way = way; calls = calls }), both-nothing asks does b))));
    ends = refl;
  }
  hands-visit h i p false a b inside way calls = record {
    visits = [];
    between = a;
    made = both-nothing asks does a;
    ends = (block_visit h i p false, (refl, record { inside = inside; way = way; calls = calls }));
  }

  -- calls in which no write failed, and calls after them
  pub hands-then : (done : Bool) (a b c : ImageRecord D H) → MakesRepair asks does j true a b → MakesRepair asks does j done b c → MakesRepair asks does j done a c
  hands-then done a b c first last = record {
    visits = first.visits ++ last.visits;
    between = last.between;
    made = visits-append first.visits last.visits a first.between last.between first.made (subst (λ (x : ImageRecord D H). MakesVisits asks does j last.visits x last.between) first.ends last.made);
    ends = last.ends;
  }

  -- reads, and calls after them
  pub hands-behind : (done : Bool) (a b c : ImageRecord D H) → ReadsBoth asks does a b → MakesRepair asks does j done b c → MakesRepair asks does j done a c
  hands-behind done a b c reads last = hands-then done a b c (hands-read a b reads) last

  -- calls up to a fault that is this one
  pub hands-fault : (fault known : RepairFault) (a b : ImageRecord D H) → fault ≡ known → MakesRepair asks does j (wrote_before known) a b → MakesRepair asks does j (wrote_before fault) a b
  hands-fault fault known a b is made = subst (λ (f : RepairFault). MakesRepair asks does j (wrote_before f) a b) (sym is) made

  -- calls up to a fault, by the result that hands it on
  pub hands-ended : (a b : ImageRecord D H) {T : Type 0} (r : Result T RepairFault) (fault : RepairFault) → IsErrAnd r (λ e. e ≡ fault) → MakesRepair asks does j (wrote_before fault) a b → MakesRepair asks does j (wrote_all r) a b
  hands-ended a b (Ok x) fault is made = absurd is
  hands-ended a b (Err e) fault is made = subst (λ (f : RepairFault). MakesRepair asks does j (wrote_before f) a b) (sym is) made

  -- the visit to a block that parity restored
  pub visit-restored : (h i : ℕ) (p : PathRecord) (done : Bool) (a b : ImageRecord D H) → HandsTo asks does h (IsPlaceWrite j p h i) done a b → VisitCalls asks does j p h i done a b
  visit-restored zero i p done a b made = made
  visit-restored (suc l) i p done a b made =
      let s = j.tree.shape in
      visit-sought asks does (IsHashWrite j p l i) done a b
      (subst (λ (n : ℕ). HandsToHash does (IsBlockWrite (hash_sector s l i) (wanted j.tree.salt (digest_on p i n) (s.hash_block / 512))) done a b) (sym (add-one l)) made)
