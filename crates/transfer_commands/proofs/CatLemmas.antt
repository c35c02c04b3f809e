-- Sectors that are written out, piece by piece.
use Rattle.std.proofs.Common.{◌≡◌, ◌≢◌, ℕ, ◌+◌, ◌≤◌, true, false, List, [], ◌++◌, Option, Ok, Err, refl, sym, ap, ◌∙◌, subst, arith}
use Rattle.std.specs.Io.KnownBytes.{Appends}
use Rattle.std.proofs.KnownBytes.{Appends-nil, Appends-trans}
use Rattle.std.proofs.lemmas.List.Elements.{Contains-append_left, Contains-append_right, All-append, All-nil}
use Rattle.stack_rules.specs.declared.lower.Lower.{Lower}
use Rattle.stack_rules.specs.Records.{Configuration}
use Rattle.stack_rules.specs.Names.{mapped}
use Rattle.stack_meaning.specs.declared.fault.IoFault.{IoFault}
use Rattle.stack_meaning.specs.declared.fault.IoFault.TheVariants as io
use Rattle.stack_meaning.specs.Found.{FoundRecord}
use Rattle.stack_meaning.specs.Agreement.{AgreesOn}
use Rattle.stack_meaning.specs.Leaves.{AreSteady, steady_images}
use Rattle.stack_meaning.specs.Meaning.{said_at, sector}
use Rattle.stack_meaning.specs.Reading.{MeetVerity}
use Rattle.stack_meaning.specs.Sectors.{IsRun}
use Rattle.stack_meaning.specs.Outcomes.{Images, Outcome, joint_outcome, span}
use Rattle.stack_lines.specs.Touches.{TouchesOnly, leaves_of}
use Rattle.stack_lines.proofs.lemmas.TouchLemmas.{touches-none, touches-then, touches-as}
use Rattle.stack_engine.specs.Bytes.{EachBytes, IsGoodChain, MayBeBytes}
use Rattle.stack_lines.specs.Budgets.{ReadsAtMost}
use Rattle.stack_engine.specs.Pieces.{IsCertainPiece, piece_budget}
use Rattle.stack_engine.specs.Stacks.{StackRecord}
use Rattle.stack_meaning.proofs.lemmas.FoundLemmas.{HasMore, said_at-mono, used-append}
use Rattle.stack_meaning.proofs.lemmas.LeafListLemmas.{AreSteady-kept, AreRead-none, AreRead-then, images-kept}
use Rattle.stack_meaning.proofs.lemmas.RunLemmas.{run-append, run-may}
use Rattle.stack_meaning.proofs.lemmas.SpanLemmas.{span-add}
use Rattle.stack_recovery.specs.Alike.{AreAlike}
use Rattle.stack_recovery.specs.PieceLimits.{first_limit, limit_after_bytes, limit_after_failure}
use Rattle.stack_recovery.specs.Pieces.{EndsAligned}
use Rattle.stack_recovery.specs.declared.piece_limit.PieceLimit.{PieceLimit}
use Rattle.stack_recovery.proofs.lemmas.LostLemmas.{first-lost}
use Rattle.transfer_commands.specs.Cats.{CatSide, IsCat, IsCatStop, MeansFault, cat_side, none_read, then_failed, then_read}

-- ---- bytes of sectors one after another

-- some chains and more may be asked
run-more : (c : Configuration) (lower : Lower) (first n : ℕ) (bytes : List ℕ) (u v : List FoundRecord) → HasMore u v
    → IsRun (λ s. (said_at c lower s).may u) first n bytes → IsRun (λ s. (said_at c lower s).may v) first n bytes
run-more c lower first n bytes u v more run = run-may (λ s. (said_at c lower s).may u) (λ s. (said_at c lower s).may v) first n bytes (λ s. said_at-mono c lower s u v more) run

no-bytes : (c : Configuration) (lower : Lower) (first : ℕ) → MayBeBytes c lower first 0 []
no-bytes c lower first = record {
  chains = [];
  read = record { run = record { len = omega arith; sectors = λ j h. absurd (omega (arith, h)) }; used = All-nil _ };
  good = All-nil (IsGoodChain c);
}

bytes-then : (c : Configuration) (lower : Lower) (first a m : ℕ) (x y : List ℕ) → MayBeBytes c lower first a x → MayBeBytes c lower (first + a) m y → MayBeBytes c lower first (a + m) (x ++ y)
bytes-then c lower first a m x y p q =
    let all : List FoundRecord = p.chains ++ q.chains in
    record {
      chains = all;
      read = record {
        run = run-append (λ s. (said_at c lower s).may all) first a m x y
            (run-more c lower first a x p.chains all (Contains-append_left p.chains q.chains) p.read.run)
            (run-more c lower (first + a) m y q.chains all (Contains-append_right p.chains q.chains) q.read.run);
        used = used-append (λ s. (said_at c lower s).entries) first a m p.chains q.chains p.read.used q.read.used;
      };
      good = All-append (IsGoodChain c) p.chains q.chains p.good q.good;
    }

span-then : (f : ℕ → Outcome) (first a m : ℕ) (x y : List ℕ) → span f first a ≡ Ok x → span f (first + a) m ≡ Ok y → span f first (a + m) ≡ Ok (x ++ y)
span-then f first a m x y p q = span-add f first a m ∙ ap (λ (o : Outcome). joint_outcome o (span f (first + a) m)) p ∙ ap (joint_outcome (Ok x)) q

-- ---- pieces

-- the first k sectors were written, and the next piece has that limit
pub record IsCatting (d first k end : ℕ) (old now : CatSide) (piece_limit : PieceLimit) : Type 0 where
  pub so_far : IsCat d first k end old now
  pub limited : so_far.limit ≡ piece_limit

pub cat-none : (d first end : ℕ) (old : CatSide) → IsCat d first 0 end old old
cat-none d first end old = record {
  limit = first_limit;
  pieces = none_read;
  bytes = [];
  most = 0;
  config = refl;
  capacity = refl;
  moved = AreRead-none 0 old.stack.leaves;
  touches = touches-none (leaves_of old.stack.config (mapped d)) old.stack.leaves (Ok []) tt;
  may = no-bytes old.stack.config (mapped d) first;
  exact = λ steady agrees. refl;
  written = Appends-nil old.written;
}

module _ (d first k end : ℕ) (old now : CatSide) (p : IsCat d first k end old now) (n : ℕ) (stack : StackRecord) where
  -- what a sector means over the leaves of now, it means over those of old
  same-meaning : sector now.stack.config (steady_images now.stack.leaves) (mapped d) ≡ sector old.stack.config (steady_images old.stack.leaves) (mapped d)
  same-meaning =
      ap (λ (c : Configuration). sector c (steady_images now.stack.leaves) (mapped d)) p.config
      ∙ ap (λ (i : Images). sector old.stack.config i (mapped d)) (images-kept p.moved)

  -- they are as steady as before
  steady-now : AreSteady (leaves_of old.stack.config (mapped d)) old.stack.leaves → AreSteady (leaves_of now.stack.config (mapped d)) now.stack.leaves
  steady-now steady = subst (λ (c : Configuration). AreSteady (leaves_of c (mapped d)) now.stack.leaves) (sym p.config) (AreSteady-kept old.stack.leaves now.stack.leaves p.moved.moved.fixed steady)

  -- so is what is read next
  sure-now : (first : ℕ) → AreSteady (leaves_of old.stack.config (mapped d)) old.stack.leaves → AgreesOn old.stack.config (leaves_of old.stack.config (mapped d)) (steady_images old.stack.leaves) → IsCertainPiece now.stack d first n
  sure-now first steady agrees = record {
    steady = steady-now steady;
    agrees = λ meets. subst (λ (c : Configuration). AgreesOn c (leaves_of c (mapped d)) (steady_images now.stack.leaves)) (sym p.config) (subst (AgreesOn old.stack.config (leaves_of old.stack.config (mapped d))) (sym (images-kept p.moved)) agrees);
  }

  -- a piece that was had, and written
  pub cat-had : (bytes : List ℕ) (written : Option (List ℕ)) → EndsAligned now.stack.config d (first + k) end p.limit.most n → EachBytes now.stack d (first + k) n (Ok bytes) stack
      → ReadsAtMost (piece_budget now.stack d (first + k) n) now.stack.leaves stack.leaves → Appends now.written written bytes → IsCat d first (k + n) end old (cat_side stack written)
  cat-had bytes written aligned q spent told = record {
    limit = limit_after_bytes p.limit n (first + k + n);
    pieces = then_read p.pieces aligned q spent;
    bytes = p.bytes ++ bytes;
    most = p.most + _;
    config = q.any.config ∙ p.config;
    capacity = q.any.capacity ∙ p.capacity;
    moved = AreRead-then p.moved q.any.moved;
    touches = touches-as (Ok (p.bytes ++ bytes)) tt (touches-then p.touches (subst (λ (c : Configuration). TouchesOnly {A = List ℕ} (leaves_of c (mapped d)) now.stack.leaves stack.leaves (Ok bytes)) p.config q.any.touches));
    may = bytes-then old.stack.config (mapped d) first k n p.bytes bytes p.may (subst (λ (c : Configuration). MayBeBytes c (mapped d) (first + k) n bytes) p.config q.any.may);
    exact = λ steady agrees.
        let f : ℕ → Outcome = sector old.stack.config (steady_images old.stack.leaves) (mapped d) in
        span-then f first k n p.bytes bytes (p.exact steady agrees)
        (ap (λ (g : ℕ → Outcome). span g (first + k) n) (sym same-meaning) ∙ (q.steady (sure-now (first + k) steady agrees)).exact);
    written = Appends-trans old.written now.written written p.bytes bytes p.written told;
  }

  -- a piece of which nothing was written
  pub cat-again : (fault : IoFault) → EndsAligned now.stack.config d (first + k) end p.limit.most n → EachBytes now.stack d (first + k) n (Err fault) stack → IsCat d first k end old (cat_side stack now.written)
  cat-again fault aligned q = record {
    limit = limit_after_failure n (first + k + n);
    pieces = then_failed p.pieces aligned q;
    bytes = p.bytes;
    most = p.most + _;
    config = q.any.config ∙ p.config;
    capacity = q.any.capacity ∙ p.capacity;
    moved = AreRead-then p.moved q.any.moved;
    touches = touches-as (Ok p.bytes) tt (touches-then p.touches (subst (λ (c : Configuration). TouchesOnly {A = List ℕ} (leaves_of c (mapped d)) now.stack.leaves stack.leaves (Err fault)) p.config q.any.touches));
    may = p.may;
    exact = p.exact;
    written = p.written;
  }

  means-fault : (fault : IoFault) → EachBytes now.stack d (first + k) n (Err fault) stack → (fault ≢ io.NoMemory → AreAlike old.stack.config d (first + k) n) → AreSteady (leaves_of old.stack.config (mapped d)) old.stack.leaves
      → AgreesOn old.stack.config (leaves_of old.stack.config (mapped d)) (steady_images old.stack.leaves) → MeansFault (sector old.stack.config (steady_images old.stack.leaves) (mapped d) (first + k)) fault
  means-fault (io.Stack fault) q alike steady agrees =
      let f : ℕ → Outcome = sector old.stack.config (steady_images old.stack.leaves) (mapped d) in
      let kind : io.Stack fault ≢ io.NoMemory = λ e. cc in
      first-lost old.stack.config (steady_images old.stack.leaves) d (first + k) n fault (alike kind)
      (ap (λ (g : ℕ → Outcome). span g (first + k) n) (sym same-meaning) ∙ (q.steady (sure-now (first + k) steady agrees)).exact)
  means-fault (io.Device i) q alike steady agrees = tt
  means-fault io.NoMemory q alike steady agrees = tt

module _ (d first k count : ℕ) (old now : CatSide) (p : IsCat d first k (first + count) old now) (n : ℕ) (stack : StackRecord) where
  -- a piece that ends it
  pub cat-stop : (fault : IoFault) → EndsAligned now.stack.config d (first + k) (first + count) p.limit.most n → k + n ≤ count → 1 ≤ n → EachBytes now.stack d (first + k) n (Err fault) stack
      → (fault ≡ io.NoMemory → MeetVerity (said_at now.stack.config (mapped d)) (first + k) n) → (fault ≢ io.NoMemory → AreAlike now.stack.config d (first + k) n)
      → IsCatStop d first count old (cat_side stack now.written) fault
  cat-stop fault aligned before some q memory alike =
      let same : fault ≢ io.NoMemory → AreAlike old.stack.config d (first + k) n = λ kind. subst (λ (c : Configuration). AreAlike c d (first + k) n) p.config (alike kind) in
      record {
        k = k;
        left = now.stack;
        n = n;
        before = before;
        some = some;
        had = p;
        piece = aligned;
        read = q;
        memory = λ is. subst (λ (c : Configuration). MeetVerity (said_at c (mapped d)) (first + k) n) p.config (memory is);
        alike = same;
        means = means-fault d first k (first + count) old now p n stack fault q same;
      }

-- ---- in pieces of which length

pub catting-none : (d first end : ℕ) (old : CatSide) (piece_limit : PieceLimit) → piece_limit ≡ first_limit → IsCatting d first 0 end old old piece_limit
unfolding cat-none
catting-none d first end old piece_limit fresh = record { so_far = cat-none d first end old; limited = sym fresh }

module _ (d first k end : ℕ) (old now : CatSide) (piece_limit next : PieceLimit) (h : IsCatting d first k end old now piece_limit) (n : ℕ) (stack : StackRecord) (aligned : EndsAligned now.stack.config d (first + k) end piece_limit.most n) where
  -- with the limit that the reads left
  pub aligned-so : EndsAligned now.stack.config d (first + k) end h.so_far.limit.most n
  aligned-so = subst (λ (l : PieceLimit). EndsAligned now.stack.config d (first + k) end l.most n) (sym h.limited) aligned

  -- after a piece that was had
  pub catting-had : (bytes : List ℕ) (written : Option (List ℕ)) → next ≡ limit_after_bytes piece_limit n (first + k + n) → EachBytes now.stack d (first + k) n (Ok bytes) stack
      → ReadsAtMost (piece_budget now.stack d (first + k) n) now.stack.leaves stack.leaves → Appends now.written written bytes → IsCatting d first (k + n) end old (cat_side stack written) next
  unfolding cat-had
  catting-had bytes written grown q spent told = record {
    so_far = cat-had d first k end old now h.so_far n stack bytes written aligned-so q spent told;
    limited = ap (λ (l : PieceLimit). limit_after_bytes l n (first + k + n)) h.limited ∙ sym grown;
  }

  -- after a piece of which nothing was written
  pub catting-again : (fault : IoFault) → next ≡ limit_after_failure n (first + k + n) → EachBytes now.stack d (first + k) n (Err fault) stack → IsCatting d first k end old (cat_side stack now.written) next
  unfolding cat-again
  catting-again fault grown q = record { so_far = cat-again d first k end old now h.so_far n stack fault aligned-so q; limited = sym grown }
