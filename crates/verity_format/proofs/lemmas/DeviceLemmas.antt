-- Calls on a device, one after another.
use Rattle.std.proofs.Common.{◌≡◌, ◌≤◌, ◌+◌, ◌-◌, ℕ, Bool, add-zero, IsTrue, List, drop, refl, sym, ap, ◌∙◌, subst, arith, inl, inr}
use Rattle.std.proofs.lemmas.List.{drop-drop}
use Rattle.block_device.specs.Device.{Device, IsSameDevice, IsWritten, HasFailed}
use Rattle.verity_format.specs.Blocks.{IsOnlyRead, IsFullRead, IsOnlyWritten}

pub same-none : (d : Device) → IsSameDevice d d
same-none d = record { size = refl; may_write = refl; steady = refl; never_fails = λ h. h }

pub same-then : {a b c : Device} → IsSameDevice a b → IsSameDevice b c → IsSameDevice a c
same-then p q = record {
  size = q.size ∙ p.size;
  may_write = q.may_write ∙ p.may_write;
  steady = q.steady ∙ p.steady;
  never_fails = λ h. q.never_fails (p.never_fails h);
}

-- a device that is the same one is as steady
pub steady-then : {a b : Device} → IsSameDevice a b → IsTrue a.steady → IsTrue b.steady
steady-then p h = subst IsTrue (sym p.steady) h

pub only_read-none : (d : Device) → IsOnlyRead d d
only_read-none d = record { same = same-none d; writes = refl; image = λ h. refl }

pub only_read-then : {a b c : Device} → IsOnlyRead a b → IsOnlyRead b c → IsOnlyRead a c
only_read-then p q = record {
  same = same-then p.same q.same;
  writes = q.writes ∙ p.writes;
  image = λ h. q.image (steady-then p.same h) ∙ p.image h;
}

-- full reads, one after another
pub full_read-none : (d : Device) → IsFullRead d 0 d
full_read-none d = record { read = only_read-none d; reads = λ h. sym (add-zero d.reads); failures = refl }

pub full_read-then : {a b c : Device} (n m k : ℕ) → IsFullRead a n b → IsFullRead b m c → n + m ≡ k → IsFullRead a k c
full_read-then {a = a} {b = b} {c = c} n m k p q sum = record {
  read = only_read-then p.read q.read;
  reads = λ h.
      let one : b.reads ≡ a.reads + n = p.reads (omega arith) in
      let two : c.reads ≡ b.reads + m = q.reads (omega (arith, one)) in
      omega (arith, one, two);
  failures = q.failures ∙ p.failures;
}

-- a failure after calls that did not fail
pub failed-then : (a b c : Device) → b.failures ≡ a.failures → HasFailed b c → HasFailed a c
failed-then a b c same (inl more) = inl (omega arith)
failed-then a b c same (inr most) = inr (omega arith)

pub only_written-none : (d : Device) (n : ℕ) → IsOnlyWritten d n d
only_written-none d n = record { same = same-none d; reads = refl; after = λ h. refl }

-- what is equal from a sector on is equal from a later one on
pub drop-same : (m n : ℕ) (xs ys : List (List ℕ)) → m ≤ n → drop m xs ≡ drop m ys → drop n xs ≡ drop n ys
drop-same m n xs ys le same =
    let e : m + (n - m) ≡ n = omega arith in
    ap (λ k. drop k xs) (sym e) ∙ sym (drop-drop (n - m) m xs) ∙ ap (drop (n - m)) same ∙ drop-drop (n - m) m ys ∙ ap (λ k. drop k ys) e

-- a write of k sectors within the first n
pub only_written-write : {old new : Device} {ok : Bool} (first k n : ℕ) → IsWritten old first k ok new → first + k ≤ n → IsOnlyWritten old n new
only_written-write first k n p le = record {
  same = p.same;
  reads = p.reads;
  after = λ h. drop-same (first + k) n _ _ le (p.after h);
}

pub only_written-then : {a b c : Device} (n : ℕ) → IsOnlyWritten a n b → IsOnlyWritten b n c → IsOnlyWritten a n c
only_written-then n p q = record {
  same = same-then p.same q.same;
  reads = q.reads ∙ p.reads;
  after = λ h. q.after (steady-then p.same h) ∙ p.after h;
}
