-- Runs over blocks, one after the other.
use Rattle.std.proofs.Common.{◌≡◌, ◌≤◌, ℕ, zero, suc, Bool, true, false, IsTrue, List, [], ◌∷◌, ◌++◌, Option, None, Some, Result, Ok, Err, refl, sym, ap, ◌∙◌, subst, arith}
use Rattle.std.specs.Prelude.{All, IfSome, IsErrAnd}
use Rattle.std.specs.List.{flat_map}
use Rattle.std.specs.Io.KnownBytes.{Appends}
use Rattle.std.specs.Result.{result_err}
use Rattle.std.proofs.KnownBytes.{Appends-nil, Appends-trans}
use Rattle.std.proofs.lemmas.Bool.{true≢false}
use Rattle.std.proofs.lemmas.Grind.{flat_map-append}
use Rattle.std.proofs.lemmas.List.{append-nil, append_assoc}
use Rattle.std.proofs.lemmas.List.Elements.{All-append, All-cons, All-nil}
use Rattle.allocation.specs.Refusal.{IsOutOfMemory, IsRefused}
use Rattle.block_device.specs.Device.{Device, IsSameDevice}
use Rattle.fec_area.specs.declared.layout.Layout.{Layout}
use Rattle.fec_area.specs.Layouts.{IsLaidOn, largest_allocation}
use Rattle.verity_format.specs.declared.verifying.VerifyFault.TheVariants.{Super, TooSmall, Device as DeviceFailed, NoMemory}
use Rattle.verity_format.specs.Blocks.{IsOnlyRead}
use Rattle.verity_format.proofs.lemmas.DeviceLemmas.{only_read-none, only_read-then, same-none, same-then}
use Rattle.tree_repair.specs.declared.fault.RepairFault.{RepairFault}
use Rattle.tree_repair.specs.declared.fault.RepairFault.TheVariants.{Image, Write}
use Rattle.tree_repair.specs.declared.mending.Mended.{Mended}
use Rattle.tree_repair.specs.declared.mending.Mended.TheVariants as mended
use Rattle.tree_repair.specs.Mending.{IsBlockFound, IsMended, IsAllowedPut, BlockCheck}
use Rattle.tree_repair.specs.Runs.{CanRun, HasRun, IsDone, IsEndCause, IsRefusal, IsVisited, Job, OtherStays, VisitsAll, Visit, visit_line, look_at, other, own}
use Rattle.tree_repair.specs.Worlds.{IsParityRead, IsWorldRead, RepairWorld, repair_world}
use Rattle.tree_repair.proofs.SourceLemmas.{each-none, each-then}

pub world-none : (w : RepairWorld) → IsWorldRead w w
world-none w = record { data_read = only_read-none w.data_dev; hash_read = only_read-none w.hash_dev; data_more = omega arith; hash_more = omega arith; data_copies_read = each-none w.data_copies; hash_copies_read = each-none w.hash_copies }

pub world-then : (a b c : RepairWorld) → IsWorldRead a b → IsWorldRead b c → IsWorldRead a c
world-then a b c p q = record {
  data_read = only_read-then p.data_read q.data_read;
  hash_read = only_read-then p.hash_read q.hash_read;
  data_more = omega (arith, p.data_more, q.data_more);
  hash_more = omega (arith, p.hash_more, q.hash_more);
  data_copies_read = each-then a.data_copies b.data_copies c.data_copies p.data_copies_read q.data_copies_read;
  hash_copies_read = each-then a.hash_copies b.hash_copies c.hash_copies p.hash_copies_read q.hash_copies_read;
}

pub parity-none : (p : Device) → IsParityRead p p
parity-none p = record { read = only_read-none p; more = omega arith }

pub parity-then : {a b c : Device} → IsParityRead a b → IsParityRead b c → IsParityRead a c
parity-then p q = record { read = only_read-then p.read q.read; more = omega (arith, p.more, q.more) }

-- ---- one run after the other

pub runs-read : (j : Job) (vs : List Visit) (a b c : RepairWorld) → IsWorldRead a b → VisitsAll j vs b c → VisitsAll j vs a c
runs-read j [] a b c read runs = world-then a b c read runs
runs-read j (v ∷ more) a b c read (x, (y, (q, (here, rest)))) = (x, (y, (world-then a b x read q, (here, rest))))

pub runs-then : (j : Job) (vs us : List Visit) (a b c : RepairWorld) → VisitsAll j vs a b → VisitsAll j us b c → VisitsAll j (vs ++ us) a c
runs-then j [] us a b c p q = runs-read j us a b c p q
runs-then j (v ∷ more) us a b c (x, (y, (read, (here, rest)))) q = (x, (y, (read, (here, runs-then j more us y b c rest q))))

abbrev pub has-none : {j : Job} {w : RepairWorld} {old : Option (List ℕ)} → HasRun j w w old old None
has-none {j} {w} {old} = record { visits = []; runs = world-none w; done = λ end. All-nil IsDone; printed = λ end. Appends-nil old; cause = tt }

abbrev pub has-read : {j : Job} {a b : RepairWorld} {old : Option (List ℕ)} → IsWorldRead a b → HasRun j a b old old None
has-read {j} {a} {b} {old} read = record { visits = []; runs = read; done = λ end. All-nil IsDone; printed = λ end. Appends-nil old; cause = tt }

-- a cause stays one after visits of which no write failed
pub cause-then : (vs us : List Visit) (fault : Option RepairFault) → All IsDone vs → IfSome fault (IsEndCause us) → IfSome fault (IsEndCause (vs ++ us))
cause-then vs us None before cause = tt
cause-then vs us (Some (Image (Super f))) before cause = absurd cause
cause-then vs us (Some (Image TooSmall)) before cause = absurd cause
cause-then vs us (Some (Image DeviceFailed)) before cause = record {
  earlier = vs ++ cause.earlier;
  last = cause.last;
  are = ap (λ (l : List Visit). vs ++ l) cause.are ∙ sym (append_assoc vs cause.earlier (cause.last ∷ []));
  before = All-append IsDone vs cause.earlier before cause.before;
  found = cause.found;
  failed = cause.failed;
}
cause-then vs us (Some (Image NoMemory)) before cause = (All-append IsDone vs us before cause.0, cause.1)
cause-then vs us (Some Write) before cause = All-append IsDone vs us before cause

-- a run that came to its end goes on
abbrev pub has-then : {j : Job} {a b c : RepairWorld} {old now new : Option (List ℕ)} {fault : Option RepairFault} → HasRun j a b old now None → HasRun j b c now new fault → HasRun j a c old new fault
has-then {j} {a} {b} {c} {old} {now} {new} {fault} p q = record {
  visits = p.visits ++ q.visits;
  runs = runs-then j p.visits q.visits a b c p.runs q.runs;
  done = λ end. All-append IsDone p.visits q.visits (p.done refl) (q.done end);
  printed = λ end. subst (Appends old new) (sym (flat_map-append (visit_line j) p.visits q.visits))
      (Appends-trans old now new (flat_map (visit_line j) p.visits) (flat_map (visit_line j) q.visits) (p.printed refl) (q.printed end));
  cause = cause-then p.visits q.visits fault (p.done refl) q.cause;
}

-- a run after a reading
abbrev pub has-behind : {j : Job} {a b c : RepairWorld} {old new : Option (List ℕ)} {fault : Option RepairFault} → IsWorldRead a b → HasRun j b c old new fault → HasRun j a c old new fault
has-behind {j} {a} {b} {c} read run = record { visits = run.visits; runs = runs-read j run.visits a b c read run.runs; done = run.done; printed = run.printed; cause = run.cause }

-- what holds of a run that a fault ended holds of the result that hands it on
pub ended-from : {T : Type 0} {j : Job} {a b : RepairWorld} {old new : Option (List ℕ)} {fault : RepairFault} (r : Result T RepairFault) → IsErrAnd r (λ e. e ≡ fault) → HasRun j a b old new (Some fault) → HasRun j a b old new (result_err r)
ended-from (Ok x) is run = absurd is
ended-from {T} {j} {a} {b} {old} {new} (Err e) is run = subst (λ (f : RepairFault). HasRun j a b old new (Some f)) (sym is) run

-- an allocation of few enough elements was refused
pub refused-within : (n : ℕ) → n ≤ largest_allocation → IsRefused n → IsOutOfMemory largest_allocation
refused-within n few refused = (n, few, refused)

pub memory-within : (n : ℕ) → n ≤ largest_allocation → IsOutOfMemory n → IsOutOfMemory largest_allocation
memory-within n few memory = (memory.0, omega (arith, memory.1, few), memory.2)

-- a reading after which an allocation was refused
pub ends-read : {j : Job} {a b : RepairWorld} {old new : Option (List ℕ)} → IsWorldRead a b → IsOutOfMemory largest_allocation → HasRun j a b old new (Some (Image NoMemory))
ends-read read memory = record { visits = []; runs = read; done = λ end. absurd (true≢false end); printed = λ end. absurd (true≢false end); cause = (All-nil IsDone, memory) }

-- a run that ends after a reading, by the fault that a refused allocation gives
pub ends-refused : {j : Job} {a b : RepairWorld} {old new : Option (List ℕ)} (fault : RepairFault) → IsRefusal fault → IsWorldRead a b → HasRun j a b old new (Some fault)
ends-refused {j} {a} {b} {old} {new} fault refused read = subst (λ (f : RepairFault). HasRun j a b old new (Some f)) (sym refused.0) (ends-read read refused.1)

-- one block
pub runs-one : (j : Job) (v : Visit) (a b : RepairWorld) → IsVisited j v a b → VisitsAll j (v ∷ []) a b
runs-one j v a b here = (a, (b, (world-none a, (here, world-none b))))

abbrev pub has-one : {j : Job} {v : Visit} {a b : RepairWorld} {old new : Option (List ℕ)} → IsVisited j v a b → v.done ≡ true → Appends old new (visit_line j v) → HasRun j a b old new None
has-one {j} {v} {a} {b} {old} {new} here done told = record {
  visits = v ∷ [];
  runs = runs-one j v a b here;
  done = λ end. All-cons IsDone v [] done (All-nil IsDone);
  printed = λ end. subst (Appends old new) (sym (append-nil (visit_line j v))) told;
  cause = tt;
}

-- and one that ended the run
ends-one : {j : Job} {v : Visit} {a b : RepairWorld} {old new : Option (List ℕ)} (fault : RepairFault) → IsVisited j v a b → IsEndCause (v ∷ []) fault → HasRun j a b old new (Some fault)
ends-one {j} {v} {a} {b} fault here cause = record { visits = v ∷ []; runs = runs-one j v a b here; done = λ end. absurd (true≢false end); printed = λ end. absurd (true≢false end); cause = cause }

-- its write failed
pub ends-unwritten : {j : Job} {v : Visit} {a b : RepairWorld} {old new : Option (List ℕ)} → IsVisited j v a b → IsBlockFound v.mended → v.done ≡ false → HasRun j a b old new (Some (Image DeviceFailed))
ends-unwritten {j} {v} here found failed = ends-one (Image DeviceFailed) here (record { earlier = []; last = v; are = refl; before = All-nil IsDone; found = found; failed = failed })

-- none did, but its line can't be written
pub ends-unsaid : {j : Job} {v : Visit} {a b : RepairWorld} {old new : Option (List ℕ)} → IsVisited j v a b → v.done ≡ true → HasRun j a b old new (Some Write)
ends-unsaid {j} {v} here done = ends-one Write here (All-cons IsDone v [] done (All-nil IsDone))

-- or the room to note it was refused
pub ends-unnoted : {j : Job} {v : Visit} {a b : RepairWorld} {old new : Option (List ℕ)} → IsVisited j v a b → v.done ≡ true → IsOutOfMemory largest_allocation → HasRun j a b old new (Some (Image NoMemory))
ends-unnoted {j} {v} here done memory = ends-one (Image NoMemory) here (All-cons IsDone v [] done (All-nil IsDone), memory)

-- ---- the devices stay the same ones

put-same : (write : Bool) (old : Device) (first sectors : ℕ) (bytes : List ℕ) (done : Bool) (new : Device) → IsAllowedPut write old first sectors bytes done new → IsSameDevice old new
put-same true old first sectors bytes done new put = put.moved.same
put-same false old first sectors bytes done new put = subst (IsSameDevice old) (sym put.0) (same-none old)

mended-same : (l : BlockCheck) (bytes : List ℕ) (done : Bool) (m : Mended) → IsMended l bytes done m → IsSameDevice l.old l.new
mended-same l bytes done mended.Good found = found.read.same
mended-same l bytes done (mended.Copy k) found = same-then found.read.same (put-same l.write found.between l.first l.w.sectors bytes done l.new found.put)
mended-same l bytes done mended.Remade found =
    same-then found.read.same (same-then found.beneath_read.same (put-same l.write found.between l.first l.w.sectors bytes done l.new found.put))
mended-same l bytes done mended.Parity found =
    same-then found.replaced.read.same (put-same l.write found.replaced.between l.first l.w.sectors bytes done l.new found.replaced.put)
mended-same l bytes done mended.Lost found = same-then found.read.same found.beneath_read.same

-- the other device is the same one, and a steady one holds what it held
is-same : (old new : Device) → new ≡ old → IsSameDevice old new
is-same old new stays = subst (IsSameDevice old) (sym stays) (same-none old)

other-same : (h : ℕ) (m : Mended) (old new : Device) → OtherStays h m old new → IsSameDevice old new
other-same zero m old new stays = is-same old new stays
other-same (suc l) mended.Good old new stays = is-same old new stays
other-same (suc l) (mended.Copy k) old new stays = is-same old new stays
other-same (suc l) mended.Remade old new stays = stays.0.same
other-same (suc l) mended.Parity old new stays = is-same old new stays
other-same (suc l) mended.Lost old new stays = stays.0.same

pub other-image : (h : ℕ) (m : Mended) (old new : Device) → OtherStays h m old new → IsTrue old.steady → new.image ≡ old.image
other-image zero m old new stays steady = ap (λ (x : Device). x.image) stays
other-image (suc l) mended.Good old new stays steady = ap (λ (x : Device). x.image) stays
other-image (suc l) (mended.Copy k) old new stays steady = ap (λ (x : Device). x.image) stays
other-image (suc l) mended.Remade old new stays steady = stays.0.image steady
other-image (suc l) mended.Parity old new stays steady = ap (λ (x : Device). x.image) stays
other-image (suc l) mended.Lost old new stays steady = stays.0.image steady

pub record AreSame (a b : RepairWorld) : Type 0 where
  pub data_same : IsSameDevice a.data_dev b.data_dev
  pub hash_same : IsSameDevice a.hash_dev b.hash_dev

pub are-then : (a b c : RepairWorld) → AreSame a b → AreSame b c → AreSame a c
are-then a b c p q = record { data_same = same-then p.data_same q.data_same; hash_same = same-then p.hash_same q.hash_same }

pub read-same : (a b : RepairWorld) → IsWorldRead a b → AreSame a b
read-same a b read = record { data_same = read.data_read.same; hash_same = read.hash_read.same }

at-same : (h : ℕ) (a b : RepairWorld) → IsSameDevice (own h a) (own h b) → IsSameDevice (other h a) (other h b) → AreSame a b
at-same zero a b here there = record { data_same = here; hash_same = there }
at-same (suc l) a b here there = record { data_same = there; hash_same = here }

pub visited-same : (j : Job) (v : Visit) (a b : RepairWorld) → IsVisited j v a b → AreSame a b
visited-same j v a b here =
    at-same v.height a b (mended-same (look_at j here.p v.height v.index a b) v.bytes v.done v.mended here.mended_as)
    (other-same v.height v.mended (other v.height a) (other v.height b) here.other_stays)

pub runs-same : (j : Job) (vs : List Visit) (a b : RepairWorld) → VisitsAll j vs a b → AreSame a b
runs-same j [] a b read = read-same a b read
runs-same j (v ∷ more) a b (x, (y, (read, (here, rest)))) = are-then a x b (read-same a x read) (are-then x y b (visited-same j v x y here) (runs-same j more y b rest))

can-same : (j : Job) (a b : RepairWorld) → AreSame a b → CanRun j a → CanRun j b
can-same j a b same can = record {
  valid = can.valid;
  data_fits = omega (arith, can.data_fits, same.data_same.size);
  tree_fits = omega (arith, can.tree_fits, same.hash_same.size);
  data_writable = λ write. subst IsTrue (sym same.data_same.may_write) (can.data_writable write);
  hash_writable = λ write. subst IsTrue (sym same.hash_same.may_write) (can.hash_writable write);
  copy_small = can.copy_small;
}

pub can-later : {j : Job} {a b : RepairWorld} {old new : Option (List ℕ)} {fault : Option RepairFault} → HasRun j a b old new fault → CanRun j a → CanRun j b
can-later {j} {a} {b} run can = can-same j a b (runs-same j run.visits a b run.runs) can

pub can-read : {j : Job} {a b : RepairWorld} → IsWorldRead a b → CanRun j a → CanRun j b
can-read {j} {a} {b} read can = can-same j a b (read-same a b read) can

-- the hash device alone was read
pub tree-read : (w : RepairWorld) (d : Device) → IsOnlyRead w.hash_dev d → w.hash_dev.failures ≤ d.failures → IsWorldRead w (repair_world w.data_dev d w.data_copies w.hash_copies)
tree-read w d read more = record { data_read = only_read-none w.data_dev; hash_read = read; data_more = omega arith; hash_more = more; data_copies_read = each-none w.data_copies; hash_copies_read = each-none w.hash_copies }

-- the data device alone was
pub data-read : (w : RepairWorld) (d : Device) → IsOnlyRead w.data_dev d → w.data_dev.failures ≤ d.failures → IsWorldRead w (repair_world d w.hash_dev w.data_copies w.hash_copies)
data-read w d read more = record { data_read = read; hash_read = only_read-none w.hash_dev; data_more = more; hash_more = omega arith; data_copies_read = each-none w.data_copies; hash_copies_read = each-none w.hash_copies }

-- covered blocks still lie on the devices
laid-same : (l : Layout) (a b : RepairWorld) → AreSame a b → IsLaidOn l a.data_dev a.hash_dev → IsLaidOn l b.data_dev b.hash_dev
laid-same l a b same laid = record { layout = laid.layout; data_room = omega (arith, laid.data_room, same.data_same.size); hash_room = omega (arith, laid.hash_room, same.hash_same.size) }

pub laid-later : {l : Layout} {j : Job} {a b : RepairWorld} {old new : Option (List ℕ)} {fault : Option RepairFault} → HasRun j a b old new fault → IsLaidOn l a.data_dev a.hash_dev → IsLaidOn l b.data_dev b.hash_dev
laid-later {l} {j} {a} {b} run laid = laid-same l a b (runs-same j run.visits a b run.runs) laid

pub laid-read : {l : Layout} {a b : RepairWorld} → IsWorldRead a b → IsLaidOn l a.data_dev a.hash_dev → IsLaidOn l b.data_dev b.hash_dev
laid-read {l} {a} {b} read laid = laid-same l a b (read-same a b read) laid
