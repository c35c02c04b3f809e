-- Chains that are handed out, or dropped.
use Rattle.std.proofs.Common.{◌≡◌, ℕ, ◌+◌, ◌/◌, ◌<◌, ◌≤◌, List, [], ◌∷◌, ◌++◌, All, Contains, length, drop, Result, Ok, Err, inl, inr, refl, sym, ap, ◌∙◌, subst, arith}
use Rattle.std.proofs.Math.Seq.{drop-append_seam}
use Rattle.std.proofs.lemmas.List.Elements.{All-append, All-drop, Contains-append_cases, Contains-append_left, Contains-append_right}
use Rattle.block_device.specs.Device.{Device}
use Rattle.stack_rules.specs.declared.lower.Lower.{Lower}
use Rattle.stack_rules.specs.Records.{Configuration}
use Rattle.stack_meaning.specs.declared.fault.IoFault.{IoFault}
use Rattle.stack_rules.specs.Names.{mapped}
use Rattle.stack_rules.specs.Rules.{IsLoaded}
use Rattle.stack_meaning.specs.Found.{FoundRecord, AreDistinct}
use Rattle.stack_meaning.specs.Kept.{IsKept, AllKept}
use Rattle.stack_meaning.specs.Places.{Place, place_of, run_expected, LeafRead}
use Rattle.stack_meaning.specs.Reading.{Finds, Gets}
use Rattle.stack_meaning.proofs.lemmas.FoundLemmas.{HasMore, Grown-none, grown-keeps, kept-later, said_at-mono}
use Rattle.stack_meaning.proofs.lemmas.RunLemmas.{AllMono, fault_passes, fill_more, pass, run_err, run_ok}
use Rattle.stack_lines.specs.declared.source.Source.{Source}
use Rattle.stack_lines.specs.Sources.{IsServed}
use Rattle.stack_lines.proofs.lemmas.SourceLemmas.{served-passes}
use Rattle.stack_engine.specs.declared.path.Chains.{Chains}
use Rattle.stack_engine.specs.declared.path.Chains.TheVariants.{Kept, Dropped}
use Rattle.stack_meaning.proofs.lemmas.LeafListLemmas.{AreRead-none}
use Rattle.stack_engine.specs.Bytes.{GetsBytes}
use Rattle.stack_engine.specs.Keeping.{handed_out, with_chains, AreHandedOut, FindsAs, ReadsAs, ReadsSourceAs}

-- none was found
pub none-out : (chains : Chains) (found : List FoundRecord) → AreHandedOut chains found found found
none-out Kept found = refl
none-out Dropped found = refl

-- one more was
pub one-out : (chains : Chains) (before after out new : List FoundRecord) (one : FoundRecord) → AreHandedOut chains before after out → new ≡ handed_out chains out one → AreHandedOut chains before (after ++ (one ∷ [])) new
one-out Kept before after out new one h e = e ∙ ap (λ (l : List FoundRecord). l ++ (one ∷ [])) h
one-out Dropped before after out new one h e = e ∙ h

-- ---- one read

-- what was found, and what of it was handed out
pub finds-as : (chains : Chains) {place : Place} {c : Configuration} {first n : ℕ} {old new : List Device} {before after out : List FoundRecord} {answer : Result (List ℕ) IoFault}
    → Finds place c first n (record { old = old; new = new; before = before; after = after }) answer → AreHandedOut chains before after out → (AreDistinct before → AreDistinct after)
    → FindsAs chains place c first n (record { old = old; new = new; before = before; after = out }) answer
finds-as chains {before = before} {after = after} {out = out} p handed distinct = record { after = after; out = handed; reads = p; distinct = go chains handed }
  where
    go : (chains : Chains) → AreHandedOut chains before after out → AreDistinct before → AreDistinct out
    go Kept handed d = subst AreDistinct (sym handed) (distinct d)
    go Dropped handed d = subst AreDistinct (sym handed) d

-- nothing more was found
pub finds-none : (chains : Chains) {place : Place} {c : Configuration} {first n : ℕ} {old new : List Device} {found : List FoundRecord} {answer : Result (List ℕ) IoFault}
    → Finds place c first n (record { old = old; new = new; before = found; after = found }) answer → FindsAs chains place c first n (record { old = old; new = new; before = found; after = found }) answer
finds-none chains {found = found} p = finds-as chains p (none-out chains found) (λ d. d)

-- n sectors of a place that are those of another
pub finds-up : {chains : Chains} {place place' : Place} {c : Configuration} {first first' n n' : ℕ} {did : LeafRead} {answer answer' : Result (List ℕ) IoFault}
    → FindsAs chains place c first n did answer → ((after : List FoundRecord) → Finds place c first n (with_chains did after) answer → Finds place' c first' n' (with_chains did after) answer') → FindsAs chains place' c first' n' did answer'
finds-up p up = record { after = p.after; out = p.out; reads = up p.after p.reads; distinct = p.distinct }

-- where all are handed out
pub kept-reads : {place : Place} {c : Configuration} {first n : ℕ} {did : LeafRead} {answer : Result (List ℕ) IoFault} → FindsAs Kept place c first n did answer → Finds place c first n did answer
kept-reads {place = place} {c = c} {first = first} {n = n} {did = did} {answer = answer} r =
    subst (λ (u : List FoundRecord). Finds place c first n (with_chains did u) answer) (sym r.out) r.reads

-- what was found before a read and what the read hands out stays
pub finds-kept : (chains : Chains) {place : Place} {c : Configuration} {first n : ℕ} {did : LeafRead} {answer : Result (List ℕ) IoFault} → AllKept c did.old did.before → FindsAs chains place c first n did answer → AllKept c did.new did.after
finds-kept Kept {c = c} {did = did} kept p = subst (AllKept c did.new) (sym p.out) p.reads.kept
finds-kept Dropped {c = c} {did = did} kept p = subst (AllKept c did.new) (sym p.out) (kept-later c did.before p.reads.got.moved kept)

-- no sectors were read
pub finds-begin : (chains : Chains) {place : Place} {c : Configuration} {first : ℕ} {leaves : List Device} {found : List FoundRecord} → AllKept c leaves found
    → FindsAs chains place c first 0 (record { old = leaves; new = leaves; before = found; after = found }) (Ok [])
finds-begin chains {place = place} {c = c} {first = first} {leaves = leaves} {found = found} kept =
    let none : Finds place c first 0 (record { old = leaves; new = leaves; before = found; after = found }) (Ok []) = record {
      got = record { moved = AreRead-none _ leaves; may = record { len = refl; sectors = λ j h. absurd (omega (arith, h)) }; exact = λ sure. refl };
      grown = Grown-none _ first 0 found;
      kept = kept;
    } in
    finds-none chains none

-- ---- one read after another

-- the chains that were dropped don't count: those of the first read may be before those of the next one
behind : {place : Place} {c : Configuration} {first n : ℕ} {mid new : List Device} {u v w : List FoundRecord} {answer : Result (List ℕ) IoFault} → AllMono place → HasMore v u → AllKept c mid u
    → (q : FindsAs Dropped place c first n (record { old = mid; new = new; before = v; after = w }) answer) → Finds place c first n (record { old = mid; new = new; before = u; after = u ++ q.reads.grown.added }) answer
behind {place = place} {c = c} {first = first} {n = n} {mid = mid} {new = new} {u = u} {v = v} {answer = answer} mono more kept q = record {
  got = go answer q.reads.got;
  grown = record { added = q.reads.grown.added; is = refl; used = q.reads.grown.used };
  kept = All-append (IsKept c new) u q.reads.grown.added (kept-later c u q.reads.got.moved kept)
      (subst (All (IsKept c new)) (ap (drop (length v)) q.reads.grown.is ∙ drop-append_seam v q.reads.grown.added) (All-drop (IsKept c new) (length v) q.after q.reads.kept));
}
  where
    all : HasMore q.after (u ++ q.reads.grown.added)
    all x h = elim (Contains-append_cases v q.reads.grown.added x (subst (λ (l : List FoundRecord). Contains l x) q.reads.grown.is h)) [
      | inl old ↦ Contains-append_left u q.reads.grown.added x (more x old)
      | inr own ↦ Contains-append_right u q.reads.grown.added x own
    ]

    go : (answer : Result (List ℕ) IoFault) → Gets (run_expected place q.after first n) mid new answer → Gets (run_expected place (u ++ q.reads.grown.added) first n) mid new answer
    go (Ok bytes) got = fill_more place first n mono all got
    go (Err fault) got = fault_passes fault got (AreRead-none 0 mid) (omega arith) (λ x h. h) (λ i h. h) (λ images h. h) (λ sure x is. is)

module _ (place : Place) (c : Configuration) (mono : AllMono place) (first a m : ℕ) {old mid new : List Device} {u v w : List FoundRecord} {x : List ℕ} where
  -- the chains so far, and those of the next read
  next-found : (p : FindsAs Dropped place c first a (record { old = old; new = mid; before = u; after = v }) (Ok x)) {answer : Result (List ℕ) IoFault}
      → (q : FindsAs Dropped place c (first + a) m (record { old = mid; new = new; before = v; after = w }) answer) → Finds place c (first + a) m (record { old = mid; new = new; before = p.after; after = p.after ++ q.reads.grown.added }) answer
  next-found p q = behind {place = place} {u = p.after} {v = v} mono (λ y h. grown-keeps p.reads.grown y (subst (λ (l : List FoundRecord). Contains l y) p.out h)) p.reads.kept q

  -- the next run
  pub then_ok : (chains : Chains) {y : List ℕ} → FindsAs chains place c first a (record { old = old; new = mid; before = u; after = v }) (Ok x) → FindsAs chains place c (first + a) m (record { old = mid; new = new; before = v; after = w }) (Ok y)
      → FindsAs chains place c first (a + m) (record { old = old; new = new; before = u; after = w }) (Ok (x ++ y))
  then_ok Kept p q = record { after = w; out = refl; reads = run_ok place c mono first a m (kept-reads p) (kept-reads q); distinct = λ d. q.distinct (p.distinct d) }
  then_ok Dropped p q = record { after = p.after ++ q.reads.grown.added; out = q.out ∙ p.out; reads = run_ok place c mono first a m p.reads (next-found p q); distinct = λ d. q.distinct (p.distinct d) }

  -- the next run, which ends by a fault
  pub then_err : (chains : Chains) (n : ℕ) (fault : IoFault) → a + m ≤ n → FindsAs chains place c first a (record { old = old; new = mid; before = u; after = v }) (Ok x)
      → FindsAs chains place c (first + a) m (record { old = mid; new = new; before = v; after = w }) (Err fault) → FindsAs chains place c first n (record { old = old; new = new; before = u; after = w }) (Err fault)
  then_err Kept n fault h p q = record { after = w; out = refl; reads = run_err place c mono first a m (kept-reads p) n fault h (kept-reads q); distinct = λ d. q.distinct (p.distinct d) }
  then_err Dropped n fault h p q = record { after = p.after ++ q.reads.grown.added; out = q.out ∙ p.out; reads = run_err place c mono first a m p.reads n fault h (next-found p q); distinct = λ d. q.distinct (p.distinct d) }

-- runs of one device
module _ (c : Configuration) (d first a m : ℕ) (source : Source) {old mid new : List Device} {u v w : List FoundRecord} {x : List ℕ} (chains : Chains) (loaded : IsLoaded c) (some : 0 < m) (r : IsServed c d (first + a) m source)
    (p : ReadsAs chains c (mapped d) first a (record { old = old; new = mid; before = u; after = v }) (Ok x)) where
  pub device_ok : {y : List ℕ} → ReadsSourceAs chains c source m (record { old = mid; new = new; before = v; after = w }) (Ok y)
      → ReadsAs chains c (mapped d) first (a + m) (record { old = old; new = new; before = u; after = w }) (Ok (x ++ y))
  device_ok {y = y} q = then_ok (place_of c (mapped d)) c (said_at-mono c (mapped d)) first a m chains p (finds-up q (λ after. pass (served-passes c d (first + a) m source loaded some r) (record { old = mid; new = new; before = v; after = after }) (Ok y)))

  pub device_err : (n : ℕ) (fault : IoFault) → a + m ≤ n → ReadsSourceAs chains c source m (record { old = mid; new = new; before = v; after = w }) (Err fault)
      → ReadsAs chains c (mapped d) first n (record { old = old; new = new; before = u; after = w }) (Err fault)
  device_err n fault h q = then_err (place_of c (mapped d)) c (said_at-mono c (mapped d)) first a m chains n fault h p (finds-up q (λ after. pass (served-passes c d (first + a) m source loaded some r) (record { old = mid; new = new; before = v; after = after }) (Err fault)))

-- a read stays one if its count and its bytes are replaced by equal ones
pub same_reads : {chains : Chains} (c : Configuration) (lower : Lower) (first : ℕ) {n m : ℕ} {did : LeafRead} {x y : List ℕ} → n ≡ m → x ≡ y → ReadsAs chains c lower first n did (Ok x) → ReadsAs chains c lower first m did (Ok y)
same_reads {chains = chains} c lower first {m = m} {did = did} {x = x} e f p =
    subst (λ (b : List ℕ). ReadsAs chains c lower first m did (Ok b)) f (subst (λ (j : ℕ). ReadsAs chains c lower first j did (Ok x)) e p)

-- no sectors were read, and no chains are wanted
pub gets-none : (c : Configuration) (lower : Lower) (first : ℕ) (leaves : List Device) (out : List ℕ) → length out ≡ 0 → GetsBytes c lower first (length out / 512) leaves leaves (Ok out)
gets-none c lower first leaves [] none = record { chains = []; got = record { moved = AreRead-none _ leaves; may = record { len = refl; sectors = λ j h. absurd (omega (arith, h)) }; exact = λ sure. refl } }
gets-none c lower first leaves (x ∷ xs) none = absurd (omega (arith, none))
