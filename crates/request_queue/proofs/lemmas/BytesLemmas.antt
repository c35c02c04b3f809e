-- Reads of the bytes alone, one after another, and what is known of their bytes.
use Rattle.std.proofs.Common.{◌≡◌, ◌≤◌, ℕ, ◌+◌, ◌-◌, ◌/◌, ◌%◌, ◌==◌, true, false, Bool, List, [], ◌++◌, append-nil, append_assoc, drop, length, take, get_or, All, nat_lt, refl, sym, ap, ◌∙◌, subst, arith, Result, Ok, Err}
use Rattle.std.specs.Prelude.{not, nat_le, if◌then◌else◌}
use Rattle.std.specs.Int.{div_ceil}
use Rattle.std.proofs.lemmas.List.{get_or_default, length-append, length-drop, length-take-le}
use Rattle.std.proofs.Math.Seq.{take-append-add}
use borrow.Rule.Slice.PartMut.{put_mid, post_of}
use Rattle.std.proofs.lemmas.List.Elements.{All-append, All-nil, Contains-append_left, Contains-append_right}
use Rattle.block_device.specs.Device.{Device}
use Rattle.stack_rules.specs.Names.{mapped, size}
use Rattle.stack_rules.specs.Records.{Configuration}
use Rattle.stack_rules.specs.Rules.{IsLoaded}
use Rattle.stack_meaning.specs.declared.fault.IoFault.{IoFault}
use Rattle.stack_meaning.specs.declared.fault.IoFault.TheVariants as io
use Rattle.stack_meaning.specs.Found.{FoundRecord, AreUsed}
use Rattle.stack_meaning.specs.Meaning.{said_at}
use Rattle.stack_meaning.specs.Places.{place_of, run_expected}
use Rattle.stack_meaning.specs.Outcomes.{mismatch}
use Rattle.stack_meaning.specs.Reading.{Gets, MeetVerity}
use Rattle.stack_meaning.proofs.lemmas.FoundLemmas.{SomeOf-more, used-append, said_at-mono}
use Rattle.stack_meaning.proofs.lemmas.LeafListLemmas.{AreRead-none}
use Rattle.stack_meaning.proofs.lemmas.RunLemmas.{fill_ok, fill_err, fill_more}
use Rattle.stack_lines.specs.Touches.{EndsAtFailure, TouchesOnly, failures_by, leaves_of}
use Rattle.stack_lines.proofs.lemmas.TouchLemmas.{touches-none, touches-then, touches-as}
use Rattle.stack_engine.specs.Bytes.{AnyBytes, EachBytes, IsGoodChain, MayBeBytes}
use Rattle.stack_engine.specs.Healing.{HasNoParity}
use Rattle.stack_engine.specs.Laws.{ForgedBytesCollide}
use Rattle.stack_engine.specs.Stacks.{StackRecord}
use Rattle.request_queue.specs.declared.fault.SubmitFault.TheVariants.{NoSuchDevice, OutOfRange, Length}
use Rattle.request_queue.specs.declared.range.SectorRange.{SectorRange}
use Rattle.request_queue.specs.Chains.{AreVerified, IsVerified}
use Rattle.request_queue.specs.Parts.{EachPart}
use Rattle.request_queue.specs.Ranges.{bytes_range, range_at}
use Rattle.request_queue.specs.World.{World, BytesRead}

-- ---- one read after another

-- n sectors of mapped device d from the first on were read, and some chains show their bytes
record Shown (c : Configuration) (d first n : ℕ) (old new : List Device) (bytes : List ℕ) : Type 0 where
  chains : List FoundRecord
  gets : Gets (run_expected (place_of c (mapped d)) chains first n) old new (Ok bytes)
  touches : TouchesOnly (leaves_of c (mapped d)) old new (Ok bytes)
  fails : (MeetVerity (said_at c (mapped d)) first n → HasNoParity c) → EndsAtFailure old new (Ok bytes)
  used : AreUsed (λ s. (said_at c (mapped d) s).entries) first n chains
  good : All (IsGoodChain c) chains

shown : {w w' : StackRecord} (d first n : ℕ) (bytes : List ℕ) → EachBytes w d first n (Ok bytes) w' → Shown w.config d first n w.leaves w'.leaves bytes
shown d first n bytes p = record {
  chains = p.any.may.chains;
  gets = record { moved = p.any.moved; may = p.any.may.read.run; exact = λ sure. (p.steady (record { steady = sure.steady; agrees = sure.agrees })).exact };
  touches = p.any.touches;
  fails = p.any.fails;
  used = p.any.may.read.used;
  good = p.any.may.good;
}

each-shown : {w w' : StackRecord} (d first n : ℕ) (bytes : List ℕ) → w'.config ≡ w.config → w'.capacity ≡ w.capacity → Shown w.config d first n w.leaves w'.leaves bytes → EachBytes w d first n (Ok bytes) w'
each-shown {w = w} {w' = w'} d first n bytes config capacity p =
    let any : AnyBytes w d first n (Ok bytes) w' = record { config = config; capacity = capacity; moved = p.gets.moved; may = record { chains = p.chains; read = record { run = p.gets.may; used = p.used }; good = p.good }; touches = p.touches; fails = p.fails } in
    record { any = any; steady = λ sure. record { any = any; exact = p.gets.exact (record { steady = sure.steady; agrees = sure.agrees }) } }

module _ (c : Configuration) (d first a m : ℕ) {old mid new : List Device} {xs ys : List ℕ} where
  shown-then : Shown c d first a old mid xs → Shown c d (first + a) m mid new ys → Shown c d first (a + m) old new (xs ++ ys)
  shown-then p q =
      let all : List FoundRecord = p.chains ++ q.chains in
      record {
        chains = all;
        gets = fill_ok (place_of c (mapped d)) all first a m
            (fill_more (place_of c (mapped d)) first a {u = p.chains} {v = all} (said_at-mono c (mapped d)) (Contains-append_left p.chains q.chains) p.gets)
            (fill_more (place_of c (mapped d)) (first + a) m {u = q.chains} {v = all} (said_at-mono c (mapped d)) (Contains-append_right p.chains q.chains) q.gets);
        touches = touches-as (Ok (xs ++ ys)) tt (touches-then p.touches q.touches);
        fails = λ none. q.fails (λ met. none (SomeOf-more (λ s. (said_at c (mapped d) s).meets mismatch) first a m (a + m) (omega arith) met)) ∙ p.fails (λ met. none (met.0, omega (arith, met.1), met.2));
        used = used-append (λ s. (said_at c (mapped d) s).entries) first a m p.chains q.chains p.used q.used;
        good = All-append (IsGoodChain c) p.chains q.chains p.good q.good;
      }

-- nothing was read yet
pub bytes-none : (w : StackRecord) (d first : ℕ) → EachBytes w d first 0 (Ok []) w
bytes-none w d first = each-shown {w = w} {w' = w} d first 0 [] refl refl (record {
  chains = [];
  gets = record { moved = AreRead-none _ w.leaves; may = record { len = refl; sectors = λ j h. absurd (omega (arith, h)) }; exact = λ sure. refl };
  touches = touches-none (leaves_of w.config (mapped d)) w.leaves (Ok []) tt;
  fails = λ none. refl;
  used = All-nil _;
  good = All-nil _;
})

pub bytes-then : (w v w' : StackRecord) (d first a m : ℕ) (xs ys : List ℕ) → EachBytes w d first a (Ok xs) v → EachBytes v d (first + a) m (Ok ys) w' → EachBytes w d first (a + m) (Ok (xs ++ ys)) w'
bytes-then w v w' d first a m xs ys p q =
    let next : Shown w.config d (first + a) m v.leaves w'.leaves ys = subst (λ (c : Configuration). Shown c d (first + a) m v.leaves w'.leaves ys) p.any.config (shown {w = v} {w' = w'} d (first + a) m ys q) in
    each-shown {w = w} {w' = w'} d first (a + m) (xs ++ ys) (q.any.config ∙ p.any.config) (q.any.capacity ∙ p.any.capacity)
    (shown-then w.config d first a m (shown {w = w} {w' = v} d first a xs p) next)

-- ---- a fault

fails-of : {w w' : StackRecord} (d first n : ℕ) (chains : List FoundRecord) (fault : IoFault) → EachBytes w d first n (Err fault) w' → Gets (run_expected (place_of w.config (mapped d)) chains first n) w.leaves w'.leaves (Err fault)
fails-of d first n chains (io.Stack fault) p = record { moved = p.any.moved; may = p.any.may; exact = λ sure. (p.steady (record { steady = sure.steady; agrees = sure.agrees })).exact }
fails-of d first n chains (io.Device i) p = record { moved = p.any.moved; may = p.any.may; exact = λ sure. tt }
fails-of d first n chains io.NoMemory p = record { moved = p.any.moved; may = p.any.may; exact = λ sure. tt }

each-fails : {w w' : StackRecord} (d first n : ℕ) (chains : List FoundRecord) (fault : IoFault) → w'.config ≡ w.config → w'.capacity ≡ w.capacity → Gets (run_expected (place_of w.config (mapped d)) chains first n) w.leaves w'.leaves (Err fault)
    → TouchesOnly {A = List ℕ} (leaves_of w.config (mapped d)) w.leaves w'.leaves (Err fault) → ((MeetVerity (said_at w.config (mapped d)) first n → HasNoParity w.config) → EndsAtFailure {A = List ℕ} w.leaves w'.leaves (Err fault)) → EachBytes w d first n (Err fault) w'
each-fails {w = w} {w' = w'} d first n chains (io.Stack fault) config capacity p touches fails =
    let any : AnyBytes w d first n (Err (io.Stack fault)) w' = record { config = config; capacity = capacity; moved = p.moved; may = p.may; touches = touches; fails = fails } in
    record { any = any; steady = λ sure. record { any = any; exact = p.exact (record { steady = sure.steady; agrees = sure.agrees }) } }
each-fails {w = w} {w' = w'} d first n chains (io.Device i) config capacity p touches fails =
    let any : AnyBytes w d first n (Err (io.Device i)) w' = record { config = config; capacity = capacity; moved = p.moved; may = p.may; touches = touches; fails = fails } in
    record { any = any; steady = λ sure. record { any = any; exact = tt } }
each-fails {w = w} {w' = w'} d first n chains io.NoMemory config capacity p touches fails =
    let any : AnyBytes w d first n (Err io.NoMemory) w' = record { config = config; capacity = capacity; moved = p.moved; may = p.may; touches = touches; fails = fails } in
    record { any = any; steady = λ sure. record { any = any; exact = tt } }

-- a piece that ends all n sectors by its fault
pub bytes-end : (w v w' : StackRecord) (d first a m n : ℕ) (xs : List ℕ) (fault : IoFault) → a + m ≤ n → EachBytes w d first a (Ok xs) v → EachBytes v d (first + a) m (Err fault) w' → EachBytes w d first n (Err fault) w'
bytes-end w v w' d first a m n xs fault inside p q =
    let one = shown {w = w} {w' = v} d first a xs p in
    let next : Gets (run_expected (place_of w.config (mapped d)) one.chains (first + a) m) v.leaves w'.leaves (Err fault) =
    subst (λ (c : Configuration). Gets (run_expected (place_of c (mapped d)) one.chains (first + a) m) v.leaves w'.leaves (Err fault)) p.any.config (fails-of {w = v} {w' = w'} d (first + a) m one.chains fault q) in
    each-fails {w = w} {w' = w'} d first n one.chains fault (q.any.config ∙ p.any.config) (q.any.capacity ∙ p.any.capacity)
    (fill_err (place_of w.config (mapped d)) one.chains first a m one.gets n fault inside next)
    (touches-then one.touches (subst (λ (c : Configuration). TouchesOnly {A = List ℕ} (leaves_of c (mapped d)) v.leaves w'.leaves (Err fault)) p.any.config q.any.touches))
    (λ none. q.any.fails (λ met. subst HasNoParity (sym p.any.config)
    (none (SomeOf-more (λ s. (said_at w.config (mapped d) s).meets mismatch) first a m n inside (subst (λ (c : Configuration). MeetVerity (said_at c (mapped d)) (first + a) m) p.any.config met))))
    ∙ ap (failures_by fault) (one.fails (λ met. none (met.0, omega (arith, met.1, inside), met.2))))

-- ---- the pieces of a slice

plus-none : (n : ℕ) → n ≡ n + 0
plus-none n = omega arith

-- from done to end the slice has the next piece
module _ (w v w' : StackRecord) (d first : ℕ) (out : List ℕ) (done end : ℕ) (whole : done % 512 ≡ 0) (above : done ≤ end) (inside : end ≤ length out) (p : EachBytes w d first (done / 512) (Ok (take done out)) v) where
  piece-length : length (take (end - done) (drop done out)) ≡ end - done
  piece-length = length-take-le (end - done) (drop done out) (omega (arith, length-drop done out, inside))

  pub piece-within : done / 512 + length (take (end - done) (drop done out)) / 512 ≤ length out / 512
  piece-within = omega (arith, piece-length, whole, above, inside)

  pub slice-end : (fault : IoFault) → EachBytes v d (first + done / 512) (length (take (end - done) (drop done out)) / 512) (Err fault) w' → EachBytes w d first (length out / 512) (Err fault) w'
  slice-end fault q = bytes-end w v w' d first (done / 512) (length (take (end - done) (drop done out)) / 512) (length out / 512) (take done out) fault piece-within p q

  module _ (part : List ℕ) (last : end % 512 ≡ 0) (q : EachBytes v d (first + done / 512) (length (take (end - done) (drop done out)) / 512) (Ok part) w') where
    part-length : length part ≡ end - done
    part-length = omega (arith, q.any.may.read.run.len, piece-length, whole, last)

    front-length : length (take done out ++ part) ≡ end
    front-length = omega (arith, length-append (take done out) part, length-take-le done out (omega (arith, above, inside)), part-length, above)

    pub front-is : take end (put_mid done (end - done) out part) ≡ take done out ++ part
    front-is =
        let rest : List ℕ = post_of done (end - done) out in
        ap (λ l. take end l) (sym (append_assoc (take done out) part rest))
        ∙ ap (λ n. take n ((take done out ++ part) ++ rest)) (sym front-length ∙ plus-none (length (take done out ++ part)))
        ∙ take-append-add (take done out ++ part) rest 0
        ∙ append-nil (take done out ++ part)

    pub slice-more : EachBytes w d first (end / 512) (Ok (take end (put_mid done (end - done) out part))) w'
    slice-more =
        let count : done / 512 + length (take (end - done) (drop done out)) / 512 ≡ end / 512 = omega (arith, piece-length, whole, above) in
        subst (λ (l : List ℕ). EachBytes w d first (end / 512) (Ok l) w') (sym front-is)
        (subst (λ (n : ℕ). EachBytes w d first n (Ok (take done out ++ part)) w') count
        (bytes-then w v w' d first (done / 512) (length (take (end - done) (drop done out)) / 512) (take done out) part p q))

    pub slice-length : length (put_mid done (end - done) out part) ≡ length out
    slice-length =
        let rest : List ℕ = post_of done (end - done) out in
        omega (
          arith,
          length-append (take done out) (part ++ rest),
          length-append part rest,
          length-take-le done out (omega (arith, above, inside)),
          part-length,
          above,
          inside,
          length-drop (end - done) (drop done out),
          length-drop done out,
        )

-- memory runs out in a piece where a verity line is on its way, and so on that of all
pub meets-later : (w v : StackRecord) (d first a m n : ℕ) → v.config ≡ w.config → a + m ≤ n → MeetVerity (said_at v.config (mapped d)) (first + a) m → MeetVerity (said_at w.config (mapped d)) first n
meets-later w v d first a m n config within meets =
    let here : MeetVerity (said_at w.config (mapped d)) (first + a) m = subst (λ (c : Configuration). MeetVerity (said_at c (mapped d)) (first + a) m) config meets in
    SomeOf-more (λ s. (said_at w.config (mapped d) s).meets mismatch) first a m n within here

-- ---- which sectors they are

tests-ok : (a b e : Bool) (x range : SectorRange) → (if a then Err NoSuchDevice else if b then Err OutOfRange else if e then Err Length else Ok x) ≡ Ok range → x ≡ range
tests-ok true b e x range h = let clash : Err NoSuchDevice ≡ Ok range = h in cc
tests-ok false true e x range h = let clash : Err OutOfRange ≡ Ok range = h in cc
tests-ok false false true x range h = let clash : Err Length ≡ Ok range = h in cc
tests-ok false false false x range h = let same : Ok x ≡ Ok range = h in cc

pub bytes_range-ok : (c : Configuration) (d first bytes : ℕ) (range : SectorRange) → bytes_range c d first bytes ≡ Ok range → range_at d first (bytes / 512) ≡ range
bytes_range-ok c d first bytes range h =
    tests-ok (nat_le (length c.devices) d) (nat_lt (size c (mapped d)) (first + div_ceil bytes 512)) (not (bytes % 512 == 0)) (range_at d first (bytes / 512)) range h

-- a read at once, as one of these sectors
pub bytes-at : (w : World) (d first size : ℕ) (answer : Result (List ℕ) IoFault) (w' : World) → BytesRead EachPart w d first size answer w' → EachBytes w.stack d first (size / 512) answer w'.stack
bytes-at w d first size answer w' s =
    let same = bytes_range-ok w.stack.config d first size s.range s.admits in
    subst (λ (v : StackRecord). EachBytes w.stack d first (size / 512) answer v) (sym (ap (λ (x : World). x.stack) s.leaves))
    (subst (λ (x : SectorRange). EachBytes w.stack x.device.0 x.first x.count answer s.stack) (sym same) (asked answer s))
  where
    asked : (answer : Result (List ℕ) IoFault) (s : BytesRead EachPart w d first size answer w') → EachBytes w.stack s.range.device.0 s.range.first s.range.count answer s.stack
    asked (Ok bytes) s = s.asks.answered
    asked (Err fault) s = s.asks.answered

-- ---- chains

good-verified : ForgedBytesCollide → (c : Configuration) → IsLoaded c → (d first n : ℕ) (bytes : List ℕ) (may : MayBeBytes c (mapped d) first n bytes) → All (IsVerified c) may.chains
good-verified unlike c loaded d first n bytes may = λ k e below.
    let x : FoundRecord = get_or may.chains k e in
    let own : IsGoodChain c x = may.good k e below in
    record {
      line = own.0;
      has = own.1;
      good = own.2;
      forged = λ blocks data_of other.
          let found = unlike c loaded (mapped d) first n bytes may x (k, below, get_or_default may.chains k x e below) own.0 own.1 blocks data_of.sized data_of.root_is other in
          record { place = found.0; topmost = found.1.0; collision = found.1.1 };
    }

-- the bytes of a read at once are such as verified chains allow
pub bytes-verified : ForgedBytesCollide → (w : World) → IsLoaded w.stack.config → (d first size : ℕ) (bytes : List ℕ) (w' : World) → BytesRead EachPart w d first size (Ok bytes) w'
    → AreVerified w.stack.config d first (size / 512) bytes
bytes-verified unlike w loaded d first size bytes w' s =
    let may = (bytes-at w d first size (Ok bytes) w' s).any.may in
    record { chains = may.chains; read = may.read; verified = good-verified unlike w.stack.config loaded d first (size / 512) bytes may }
