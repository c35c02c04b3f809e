-- Zeros at the ends of bytes, and what is reported of them.
use Rattle.std.proofs.Common.{◌≡◌, ◌<◌, ◌≤◌, ℕ, ◌+◌, ◌-◌, ◌%◌, ◌==◌, min, Bool, true, false, List, [], ◌++◌, length, take, drop, replicate, refl, ap, sym, ◌∙◌, subst, append-nil, take_all, arith, inl, inr, Option, Result, Ok, Err}
use Rattle.std.specs.Prelude.{◌&&◌, if◌then◌else◌}
use Rattle.std.specs.Str.{bytes_eq}
use Rattle.std.specs.Io.KnownBytes.{Appends}
use Rattle.std.proofs.KnownBytes.{Appends-trans}
use Rattle.std.proofs.lemmas.Bool.{cases_lt}
use Rattle.std.proofs.lemmas.List.{drop-drop, drop-take, length-drop, length-take-le, replicate-append-replicate, take-append-drop, take-replicate}
use Rattle.std.proofs.lemmas.Slice.Eq.{bytes_eq-Decides}
use Rattle.std.proofs.Math.Seq.{take-add, take-length}
use Rattle.program_io.specs.Counted.{CountedRecord, Writes, WritesSome}
use Rattle.program_io.specs.declared.fault.WriteFault.{WriteFault}
use Rattle.nbd_protocol.specs.Chunks.{data_chunk, hole_chunk}
use Rattle.nbd_server.specs.Content.{AreZerosBefore, AreZerosBehind, EndWithData, HaveData, TellsContent, TellsData, some_hole, zero_block}

-- ---- zeros

abbrev pub zeros : ℕ → List ℕ
zeros n = replicate n 0

pub zeros-sum : (a b n : ℕ) → a + b ≡ n → zeros a ++ zeros b ≡ zeros n
zeros-sum a b n e = replicate-append-replicate a b 0 ∙ ap zeros e

-- a block of bytes that were compared
pub compared : (block : List ℕ) (same : Bool) → same ≡ bytes_eq block (zeros (length block)) → same ≡ true → block ≡ zeros (length block)
compared block same is e = (bytes_eq-Decides block (zeros (length block))).0 (sym is ∙ e)

differs : (block : List ℕ) (same : Bool) → same ≡ bytes_eq block (zeros (length block)) → same ≡ false → HaveData block
differs block same is e = λ all. let other : bytes_eq block (zeros (length block)) ≡ true = (bytes_eq-Decides block (zeros (length block))).1 all in let clash : true ≡ false = sym other ∙ sym is ∙ e in cc

-- bytes of which a beginning has data have some
pub front-data : (bytes : List ℕ) (n : ℕ) → HaveData (take n bytes) → HaveData bytes
front-data bytes n some = λ all. elim (cases_lt n (length bytes)) [
  | inl below ↦
      let within : n ≤ length bytes = omega (arith, below) in
      some (ap (take n) all ∙ take-replicate n (length bytes) 0 within ∙ ap zeros (sym (length-take-le n bytes within)))
  | inr over ↦
      let whole : take n bytes ≡ bytes = take_all n bytes (omega (arith, over)) in
      some (whole ∙ all ∙ ap (λ (l : List ℕ). zeros (length l)) (sym whole))
]

module _ (bytes : List ℕ) (done end : ℕ) (above : done ≤ end) (inside : end ≤ length bytes) where
  part-size : length (take (end - done) (drop done bytes)) ≡ end - done
  part-size = length-take-le (end - done) (drop done bytes) (omega (arith, length-drop done bytes, inside))

  -- one block of zeros more at the front
  pub front-more : take done bytes ≡ zeros done → take (end - done) (drop done bytes) ≡ zeros (length (take (end - done) (drop done bytes))) → take end bytes ≡ zeros end
  front-more before block =
      let all : done + (end - done) ≡ end = omega (arith, above) in
      ap (λ k. take k bytes) (sym all) ∙ take-add done (end - done) bytes
      ∙ ap (λ l. l ++ take (end - done) (drop done bytes)) before
      ∙ ap (λ l. zeros done ++ l) (block ∙ ap zeros part-size)
      ∙ zeros-sum done (end - done) end all

  -- one block of zeros more at the end
  pub behind-more : drop end bytes ≡ zeros (length bytes - end) → take (end - done) (drop done bytes) ≡ zeros (length (take (end - done) (drop done bytes))) → drop done bytes ≡ zeros (length bytes - done)
  behind-more after block =
      let all : done + (end - done) ≡ end = omega (arith, above) in
      let sum : end - done + (length bytes - end) ≡ length bytes - done = omega (arith, above, inside) in
      sym (take-append-drop (end - done) (drop done bytes))
      ∙ ap (λ l. l ++ drop (end - done) (drop done bytes)) (block ∙ ap zeros part-size)
      ∙ ap (λ l. zeros (end - done) ++ l) (drop-drop (end - done) done bytes ∙ ap (λ k. drop k bytes) all ∙ after)
      ∙ zeros-sum (end - done) (length bytes - end) (length bytes - done) sum

-- the first n bytes from `done` on, or all of them
pub block-is : (bytes : List ℕ) (done end n : ℕ) → end ≡ min (length bytes) (done + n) → done ≤ length bytes → take (end - done) (drop done bytes) ≡ take n (drop done bytes)
block-is bytes done end n is within = elim (cases_lt (length bytes) (done + n)) [
  | inl short ↦
      let rest = drop done bytes in
      let all : end - done ≡ length rest = omega (arith, is, short, length-drop done bytes) in
      let few : length rest ≤ n = omega (arith, short, length-drop done bytes) in
      ap (λ k. take k rest) all ∙ take-length rest ∙ sym (take_all n rest few)
  | inr long ↦ let size : end - done ≡ n = omega (arith, is, long) in ap (λ k. take k (drop done bytes)) size
]

-- ---- the zeros with which bytes begin

-- all bytes are zeros
pub all-before : (bytes : List ℕ) (n : ℕ) → n ≤ length bytes → take n bytes ≡ zeros n → length bytes ≤ n → AreZerosBefore bytes n
all-before bytes n within is all = record {
  inside = within;
  zeros = is;
  whole = λ below. omega (arith, below, all);
  next = λ below. let clash : 1 ≤ 0 = omega (arith, below, all) in absurd (not-some clash);
}
  where
    not-some : 1 ≤ 0 → ⊥
    not-some clash = omega (arith, clash)

-- the next block isn't zeros
pub some-before : (bytes : List ℕ) (n end : ℕ) (same : Bool) → end ≡ min (length bytes) (n + 4096) → n ≤ length bytes → n % zero_block ≡ 0 → take n bytes ≡ zeros n
    → same ≡ bytes_eq (take (end - n) (drop n bytes)) (zeros (length (take (end - n) (drop n bytes)))) → same ≡ false → AreZerosBefore bytes n
some-before bytes n end same ends within whole is eq e = record {
  inside = within;
  zeros = is;
  whole = λ below. whole;
  next = λ below. subst HaveData (block-is bytes n end zero_block ends within) (differs (take (end - n) (drop n bytes)) same eq e);
}

-- ---- the zeros with which bytes end

-- so many bytes are left before the zeros
pub zeros-behind : (bytes : List ℕ) (rest : ℕ) → rest ≤ length bytes → drop rest bytes ≡ zeros (length bytes - rest) → (length bytes - rest) % zero_block ≡ 0 → EndWithData (take rest bytes) → AreZerosBehind bytes (length bytes - rest)
zeros-behind bytes rest within is whole last =
    let at : length bytes - (length bytes - rest) ≡ rest = omega (arith, within) in
    record {
      inside = omega arith;
      zeros = ap (λ k. drop k bytes) at ∙ is;
      whole = whole;
      last = subst (λ (k : ℕ). EndWithData (take k bytes)) (sym at) last;
    }

-- they are less than a block
pub short-end : (bytes : List ℕ) (rest : ℕ) → rest ≤ length bytes → rest < 4096 → EndWithData (take rest bytes)
short-end bytes rest within few = λ long. absurd (none long)
  where
    none : zero_block ≤ length (take rest bytes) → ⊥
    none long = omega (arith, long, few, length-take-le rest bytes within)

-- the last block of them isn't zeros
pub data-end : (bytes : List ℕ) (rest : ℕ) (same : Bool) → 4096 ≤ rest → rest ≤ length bytes
    → same ≡ bytes_eq (take (rest - (rest - 4096)) (drop (rest - 4096) bytes)) (zeros (length (take (rest - (rest - 4096)) (drop (rest - 4096) bytes)))) → same ≡ false → EndWithData (take rest bytes)
data-end bytes rest same long within eq e =
    let begin = rest - 4096 in
    let size : rest - begin ≡ zero_block = omega (arith, long) in
    let sum : begin + zero_block ≡ rest = omega (arith, long) in
    let at : length (take rest bytes) - zero_block ≡ begin = omega (arith, length-take-le rest bytes within) in
    let block : take (rest - begin) (drop begin bytes) ≡ drop (length (take rest bytes) - zero_block) (take rest bytes) =
    ap (λ k. take k (drop begin bytes)) size ∙ sym (drop-take begin zero_block bytes) ∙ ap (λ k. drop begin (take k bytes)) sum ∙ ap (λ k. drop k (take rest bytes)) (sym at) in
    λ enough. subst HaveData block (differs (take (rest - begin) (drop begin bytes)) same eq e)

-- no zeros end them
pub none-behind : (bytes : List ℕ) (n : ℕ) → n ≡ 0 → AreZerosBehind bytes n → EndWithData bytes
none-behind bytes n none p =
    let at : length bytes - n ≡ length bytes = omega (arith, none) in
    subst EndWithData (ap (λ k. take k bytes) at ∙ take-length bytes) p.last

-- bytes before zeros have data where all have
pub before-data : (bytes : List ℕ) (size : ℕ) → size ≤ length bytes → drop size bytes ≡ zeros (length bytes - size) → HaveData bytes → HaveData (take size bytes)
before-data bytes size within behind some = λ all.
    let front : length (take size bytes) ≡ size = length-take-le size bytes within in
    let sum : size + (length bytes - size) ≡ length bytes = omega (arith, within) in
    some (sym (take-append-drop size bytes) ∙ ap (λ l. l ++ drop size bytes) (all ∙ ap zeros front) ∙ ap (λ l. zeros size ++ l) behind ∙ zeros-sum size (length bytes - size) (length bytes) sum)

-- what follows so many of them, as the code takes it
pub rest-is : (bytes : List ℕ) (n : ℕ) → take (length bytes - n) (drop n bytes) ≡ drop n bytes
rest-is bytes n = ap (λ k. take k (drop n bytes)) (sym (length-drop n bytes)) ∙ take-length (drop n bytes)

-- ---- what is reported

pub hole-some : (last : Bool) (cookie at n : ℕ) → 0 < n → some_hole last cookie at n ≡ hole_chunk last cookie at n
hole-some last cookie at n some = let more : (n == 0) ≡ false = grind (arith, some) in ap (λ b. if b then [] else hole_chunk last cookie at n) more

-- all are zeros
pub told-zeros : (cookie : ℕ) (last : Bool) (at n : ℕ) (bytes : List ℕ) → 0 < length bytes → take n bytes ≡ zeros n → n ≡ length bytes → TellsContent cookie last at bytes (hole_chunk last cookie at n)
told-zeros cookie last at n bytes some is all =
    let whole : take n bytes ≡ bytes = ap (λ k. take k bytes) all ∙ take-length bytes in
    inr (record { some = some; bytes_are = sym whole ∙ is ∙ ap zeros all; chunks_are = ap (hole_chunk last cookie at) all })

module _ (cookie : ℕ) (last : Bool) (at : ℕ) where
  -- data alone
  pub told-data : (bytes : List ℕ) → HaveData bytes → EndWithData bytes → TellsData cookie last at bytes (data_chunk last cookie at bytes)
  told-data bytes some ends = record {
    content = bytes;
    behind = 0;
    some = some;
    ends = ends;
    whole = omega arith;
    bytes_are = sym (append-nil bytes);
    chunks_are = sym (append-nil (data_chunk last cookie at bytes));
  }

  -- no zeros before them
  pub told-none : (bytes chunks : List ℕ) → HaveData (take zero_block bytes) → TellsData cookie last at bytes chunks → TellsContent cookie last at bytes chunks
  told-none bytes chunks begins told = inl (record {
    before = 0;
    rest = bytes;
    more = chunks;
    told = subst (λ (k : ℕ). TellsData cookie last k bytes chunks) (omega arith) told;
    whole = omega arith;
    begins = begins;
    bytes_are = refl;
    chunks_are = refl;
  })

  module _ (n : ℕ) (bytes : List ℕ) (within : n ≤ length bytes) where
    -- zeros, and what follows them
    pub told-behind : (more : List ℕ) → 0 < n → n < length bytes → AreZerosBefore bytes n → TellsData cookie last (at + n) (drop n bytes) more → TellsContent cookie last at bytes (hole_chunk false cookie at n ++ more)
    told-behind more some below front told = inl (record {
      before = n;
      rest = drop n bytes;
      more = more;
      told = told;
      whole = front.whole below;
      begins = front.next below;
      bytes_are = sym (take-append-drop n bytes) ∙ ap (λ l. l ++ drop n bytes) front.zeros;
      chunks_are = ap (λ l. l ++ more) (sym (hole-some false cookie at n some));
    })

    -- data, and zeros after it
    pub told-before : (behind : ℕ) → 0 < behind → n ≡ length bytes - behind → AreZerosBehind bytes behind → HaveData (take n bytes)
        → TellsData cookie last at bytes (data_chunk false cookie at (take n bytes) ++ hole_chunk last cookie (at + n) behind)
    told-before behind some n-is back front =
        let size : n ≡ length (take n bytes) = sym (length-take-le n bytes within) in
        let more : false ≡ (behind == 0) && last = grind (arith, some) in
        record {
          content = take n bytes;
          behind = behind;
          some = front;
          ends = subst (λ (k : ℕ). EndWithData (take k bytes)) (sym n-is) back.last;
          whole = back.whole;
          bytes_are = sym (take-append-drop n bytes) ∙ ap (λ l. take n bytes ++ l) (ap (λ k. drop k bytes) n-is ∙ back.zeros);
          chunks_are = ap (λ b. data_chunk b cookie at (take n bytes) ++ hole_chunk last cookie (at + n) behind) more
              ∙ ap (λ l. data_chunk ((behind == 0) && last) cookie at (take n bytes) ++ l)
              (sym (hole-some last cookie (at + n) behind some) ∙ ap (λ k. some_hole last cookie (at + k) behind) size);
        }

-- ---- what is written

module _ {T : Type 0} (contents : T → Option (List ℕ)) (P : List ℕ → Type 0) where
  -- one text
  pub writes-one : (old new : CountedRecord T) (text : List ℕ) (result : Result Unit WriteFault) → P text → Writes contents old new text result → WritesSome contents old new P result
  writes-one old new text (Ok done) holds p = record { ok = record { text = text; holds = holds; written = p.ok }; kept = p.kept; failed = tt }
  writes-one old new text (Err fault) holds p = record { ok = tt; kept = tt; failed = p.failed }

  module _ (old mid new : CountedRecord T) (text : List ℕ) (first : Appends (contents old.inner) (contents mid.inner) text) (kept : mid.failed ≡ old.failed) where
    -- another text after it
    pub writes-two : (more : List ℕ) (result : Result Unit WriteFault) → P (text ++ more) → Writes contents mid new more result → WritesSome contents old new P result
    writes-two more (Ok done) holds p = record {
      ok = record { text = text ++ more; holds = holds; written = Appends-trans (contents old.inner) (contents mid.inner) (contents new.inner) text more first p.ok };
      kept = p.kept ∙ kept;
      failed = tt;
    }
    writes-two more (Err fault) holds p = record { ok = tt; kept = tt; failed = p.failed }

    -- some text after it
    pub writes-some : (Q : List ℕ → Type 0) (result : Result Unit WriteFault) → ((more : List ℕ) → Q more → P (text ++ more)) → WritesSome contents mid new Q result → WritesSome contents old new P result
    writes-some Q (Ok done) holds p = record {
      ok = record { text = text ++ p.ok.text; holds = holds p.ok.text p.ok.holds; written = Appends-trans (contents old.inner) (contents mid.inner) (contents new.inner) text p.ok.text first p.ok.written };
      kept = p.kept ∙ kept;
      failed = tt;
    }
    writes-some Q (Err fault) holds p = record { ok = tt; kept = tt; failed = p.failed }

-- bytes that begin with data
pub writes-data : {T : Type 0} (contents : T → Option (List ℕ)) (cookie : ℕ) (last : Bool) (at : ℕ) (bytes : List ℕ) (old new : CountedRecord T) (result : Result Unit WriteFault)
    → HaveData (take zero_block bytes) → WritesSome contents old new (TellsData cookie last at bytes) result → WritesSome contents old new (TellsContent cookie last at bytes) result
writes-data contents cookie last at bytes old new (Ok done) begins p = record {
  ok = record { text = p.ok.text; holds = told-none cookie last at bytes p.ok.text begins p.ok.holds; written = p.ok.written };
  kept = p.kept;
  failed = tt;
}
writes-data contents cookie last at bytes old new (Err fault) begins p = record { ok = tt; kept = tt; failed = p.failed }
