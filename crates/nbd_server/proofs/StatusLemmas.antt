-- What is reported of extents, one after another.
use Rattle.std.proofs.Common.{◌≡◌, ◌<◌, ◌≤◌, ℕ, ◌+◌, ◌-◌, ◌*◌, ◌/◌, ◌%◌, List, [], ◌++◌, length, min, refl, sym, ◌∙◌, subst, arith, inl, inr}
use Rattle.std.specs.Prelude.{◌≢◌, ◌⊎◌, Bool, IsTrue, false, true}
use Rattle.std.proofs.lemmas.Bool.{cases_lt}
use Rattle.std.proofs.lemmas.List.{length-append}
use Rattle.stack_rules.specs.Names.{mapped}
use Rattle.stack_rules.specs.Records.{Configuration}
use Rattle.stack_meaning.specs.Meaning.{said_at}
use Rattle.nbd_server.specs.declared.extent.Extent.{Extent}
use Rattle.nbd_server.specs.declared.extent.ExtentKind.TheVariants as known
use Rattle.nbd_server.specs.Extents.{EndsExtent, HasKind, IsToldExtent, is_same_kind, most_runs}
use Rattle.nbd_protocol.specs.Exports.{ExportRecord}
use Rattle.nbd_protocol.specs.Numbers.{bytes32}
use Rattle.nbd_server.specs.declared.status.BlockStatus.{BlockStatus}
use Rattle.nbd_server.specs.declared.status.ByteExtent.{ByteExtent}
use Rattle.nbd_server.specs.Premises.{AreBytesOf}
use Rattle.nbd_server.specs.Status.{HasStatus, IsByteExtent, IsLineStatus, IsOtherKind, IsStatus, TellsEachStatus, tells_none, tells_more, TouchKind, TouchZeros, descriptor, status_flags, touched}
use Rattle.nbd_server.specs.Transmission.{HasSlowByte}
use Rattle.nbd_server.specs.declared.extent.ExtentKind.{ExtentKind}
use Rattle.nbd_server.proofs.ExtentLemmas.{kind-other, kind-same}

-- the part of an extent that was asked for
module _ (c : Configuration) (e : ExportRecord) (runs at left count : ℕ) (extent : Extent) (rest : ℕ) (some : 0 < left) (is : count ≡ min (512 * extent.count - at % 512) left) (joined : runs ≤ extent.count + rest) where
  extent-ends : 0 < extent.count → EndsExtent (HasKind c (mapped e.device)) (at / 512) (touched at left) extent rest → (count ≡ left) ⊎ ((at / 512 + runs ≤ (at + count) / 512) ⊎ IsOtherKind c e extent.kind (at + count))
  extent-ends more (inl all) = inl (omega (arith, is, all))
  extent-ends more (inr (inl none)) = elim (cases_lt (512 * extent.count - at % 512) left) [
    | inl part ↦
        let place : at / 512 + extent.count ≡ (at + count) / 512 = omega (arith, is, part, more) in
        inr (inl (omega (arith, place, joined, none)))
    | inr whole ↦ inl (omega (arith, is, whole))
  ]
  extent-ends more (inr (inr other)) = elim (cases_lt (512 * extent.count - at % 512) left) [
    | inl part ↦
        let place : at / 512 + extent.count ≡ (at + count) / 512 = omega (arith, is, part, more) in
        inr (inr (other.0, other.1, subst (λ (n : ℕ). HasKind c (mapped e.device) n other.0) place other.2))
    | inr whole ↦ inl (omega (arith, is, whole))
  ]

  pub extent-is : IsToldExtent (said_at c (mapped e.device)) (HasKind c (mapped e.device)) (at / 512) (touched at left) extent → EndsExtent (HasKind c (mapped e.device)) (at / 512) (touched at left) extent rest
      → IsByteExtent c e runs at left (record { count = count; kind = extent.kind })
  extent-is p q = record {
    some = omega (arith, p.some, is, some);
    few = omega (arith, is);
    zeros = λ sure j below. p.zeros sure j (omega (arith, below, is, p.some));
    kind = λ j below. p.kind j (omega (arith, below, is, p.some));
    ends = extent-ends p.some q;
  }

  -- how many more runs may be joined
  pub extent-rest : 0 < extent.count → count < left → at / 512 + runs ≤ (at + count) / 512 + rest
  extent-rest more short =
      let place : at / 512 + extent.count ≡ (at + count) / 512 = omega (arith, is, short, more) in
      omega (arith, place, joined)

-- what is reported of an extent
pub extent-status : (c : Configuration) (e : ExportRecord) (offset runs at left : ℕ) (extent : ByteExtent) (s : BlockStatus) → offset / 512 + most_runs ≤ at / 512 + runs → IsByteExtent c e runs at left extent → s.count ≡ extent.count → s.zeros ≡ is_same_kind extent.kind known.Zeros
    → (offset < at → extent.kind ≢ known.IgnoresZeros) → IsStatus (IsLineStatus c e offset) at left s
extent-status c e offset runs at left extent s budget p count zeros later = record {
  some = omega (arith, p.some, count);
  few = omega (arith, p.few, count);
  is = record { runs = runs; runs_left = budget; extent = extent; is = p; count = count; zeros = zeros; later = later };
}

-- the kind with which an extent begins
pub extent-begins : (c : Configuration) (e : ExportRecord) (runs at left : ℕ) (extent : ByteExtent) → IsByteExtent c e runs at left extent → HasKind c (mapped e.device) (at / 512) extent.kind
extent-begins c e runs at left extent p =
    let place : at / 512 + 0 ≡ at / 512 = omega arith in
    subst (λ (n : ℕ). HasKind c (mapped e.device) n extent.kind) place (p.kind 0 (omega (arith, p.some)))

-- an extent that is reported as zeros, and one that isn't
pub status-zeros : (c : Configuration) (e : ExportRecord) (offset at left : ℕ) (s : BlockStatus) → IsLineStatus c e offset at left s → IsTrue s.zeros → TouchZeros c e at s.count
status-zeros c e offset at left s p sure = subst (λ (n : ℕ). TouchZeros c e at n) (sym p.count) (p.is.zeros (kind-same p.extent.kind known.Zeros (sym p.zeros ∙ sure)))

pub status-other : (c : Configuration) (e : ExportRecord) (offset at left : ℕ) (s : BlockStatus) → IsLineStatus c e offset at left s → s.zeros ≡ false → IsOtherKind c e known.Zeros at
status-other c e offset at left s p none = (p.extent.kind, kind-other p.extent.kind known.Zeros (sym p.zeros ∙ none), extent-begins c e p.runs at left p.extent p.is)

-- a byte range that begins on another line, and one whose extent on `zero` lines ends before it
pub slow-begins : (c : Configuration) (e : ExportRecord) (at left : ℕ) (extent : ByteExtent) → 0 < left → IsByteExtent c e most_runs at left extent → is_same_kind extent.kind known.Zeros ≡ false → HasSlowByte c e at left
slow-begins c e at left extent some p other =
    let same : at ≤ at = omega arith in
    let inside : at < at + left = omega (arith, some) in
    (at, same, inside, inl (extent.kind, kind-other extent.kind known.Zeros other, extent-begins c e most_runs at left extent p))

pub slow-ends : (c : Configuration) (e : ExportRecord) (at left : ℕ) (extent : ByteExtent) → IsByteExtent c e most_runs at left extent → extent.kind ≡ known.Zeros → extent.count < left → HasSlowByte c e at left
slow-ends c e at left extent p zeros short =
    let past : at ≤ at + extent.count = omega arith in
    let inside : at + extent.count < at + left = omega (arith, short) in (
      at + extent.count,
      past,
      inside,
      elim p.ends [
        | inl all ↦ absurd (apart all short)
        | inr (inl runs) ↦ inr runs
        | inr (inr other) ↦ inl (subst (λ (k : ExtentKind). IsOtherKind c e k (at + extent.count)) zeros other)
      ],
    )
  where
    apart : extent.count ≡ left → extent.count < left → ⊥
    apart all below = omega (arith, all, below)

-- one whose extent on `zero` lines is all of it
pub zeros-whole : (c : Configuration) (e : ExportRecord) (at left : ℕ) (extent : ByteExtent) → IsByteExtent c e most_runs at left extent → extent.kind ≡ known.Zeros → left ≤ extent.count → TouchKind c e known.Zeros at left
zeros-whole c e at left extent p zeros long =
    let all : extent.count ≡ left = omega (arith, p.few, long) in
    subst (λ (n : ℕ). TouchKind c e known.Zeros at n) all (subst (λ (k : ExtentKind). TouchKind c e k at extent.count) zeros p.kind)

bytes-four : (n : ℕ) → length (bytes32 n) ≡ 4
unfolding bytes32
bytes-four n = refl

pub descriptor-length : (s : BlockStatus) → length (descriptor s) ≡ 8
descriptor-length s = omega (arith, length-append (bytes32 s.count) (bytes32 (status_flags s.zeros)), bytes-four s.count, bytes-four (status_flags s.zeros))

not-true : IsTrue false → ⊥
not-true sure = let clash : false ≡ true = sure in cc

-- n extents were told
pub record Underway (Is : ℕ → ℕ → BlockStatus → Type 0) (offset count n done : ℕ) (told : List ℕ) : Type 0 where
  pub tells : TellsEachStatus Is offset count done told
  pub some : 0 < done
  pub few : done ≤ count
  pub size : length told ≡ 8 * n

module _ (Is : ℕ → ℕ → BlockStatus → Type 0) (offset count : ℕ) where
  pub told-first : (s : BlockStatus) → IsStatus Is offset count s → Underway Is offset count 1 s.count (descriptor s)
  told-first s p =
      let at : offset + 0 ≡ offset = omega arith in
      let all : count - 0 ≡ count = omega arith in
      let sum : 0 + s.count ≡ s.count = omega arith in
      record {
        tells = subst (λ (n : ℕ). TellsEachStatus Is offset count n (descriptor s)) sum (tells_more {told = []} s tells_none (omega arith) (subst (λ (n : ℕ). IsStatus Is n (count - 0) s) (sym at) (subst (λ (n : ℕ). IsStatus Is offset n s) (sym all) p)));
        some = p.some;
        few = p.few;
        size = descriptor-length s;
      }

  pub told-next : (n done : ℕ) (told : List ℕ) (s : BlockStatus) → Underway Is offset count n done told → IsStatus Is (offset + done) (count - done) s
      → Underway Is offset count (n + 1) (done + s.count) (told ++ descriptor s)
  told-next n done told s p q = record {
    tells = tells_more s p.tells p.few q;
    some = omega (arith, p.some);
    few = omega (arith, p.few, q.few);
    size = omega (arith, length-append told (descriptor s), descriptor-length s, p.size);
  }

  module _ (Ends : ℕ → Type 0) where
    pub told-some : (n done : ℕ) (told : List ℕ) → n ≤ 1024 → Underway Is offset count n done told → (done ≡ count) ⊎ ((length told ≡ 8192) ⊎ (IsTrue false ⊎ Ends (offset + done)))
        → HasStatus Is Ends offset count false told
    told-some n done told few p ends = record { done = done; tells = p.tells; some = p.some; few = p.few; small = omega (arith, p.size, few); single = λ one. absurd (not-true one); ends = ends }

    pub told-all : (n done : ℕ) (told : List ℕ) → n ≤ 1024 → Underway Is offset count n done told → done ≡ count → HasStatus Is Ends offset count false told
    told-all n done told few p all = told-some n done told few p (inl all)

    pub told-full : (n done : ℕ) (told : List ℕ) → n ≡ 1024 → Underway Is offset count n done told → HasStatus Is Ends offset count false told
    told-full n done told full p = told-some n done told (omega (arith, full)) p (inr (inl (omega (arith, p.size, full))))

    pub told-ended : (n done : ℕ) (told : List ℕ) → n ≤ 1024 → Underway Is offset count n done told → Ends (offset + done) → HasStatus Is Ends offset count false told
    told-ended n done told few p ends = told-some n done told few p (inr (inr (inr ends)))

    pub told-one : (done : ℕ) (told : List ℕ) (one : Bool) → one ≡ true → Underway Is offset count 1 done told → HasStatus Is Ends offset count one told
    told-one done told one sure p = record { done = done; tells = p.tells; some = p.some; few = p.few; small = omega (arith, p.size); single = λ is. omega (arith, p.size); ends = inr (inr (inl sure)) }

    -- the first is all of them
    pub told-whole : (told : List ℕ) (one : Bool) → Underway Is offset count 1 count told → HasStatus Is Ends offset count one told
    told-whole told one p = record { done = count; tells = p.tells; some = p.some; few = p.few; small = omega (arith, p.size); single = λ is. omega (arith, p.size); ends = inl refl }

-- the bytes after those that were reported
pub rest-of : (c : Configuration) (e : ExportRecord) (offset count done : ℕ) → AreBytesOf c e offset count → done ≤ count → AreBytesOf c e (offset + done) (count - done)
rest-of c e offset count done p few = record { export = p.export; within = omega (arith, p.within, few) }
