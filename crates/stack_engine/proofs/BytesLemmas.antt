-- Reads whose chains were dropped, as callers see them.
use Rattle.std.proofs.Common.{◌≡◌, ℕ, List, [], get_or, Result, Ok, Err, refl, subst, arith}
use Rattle.block_device.specs.Device.{Device}
use Rattle.dm_table.specs.declared.table.Target.{Target}
use Rattle.dm_table.specs.declared.table.Target.TheVariants.{Verity as verity_target}
use Rattle.stack_rules.specs.declared.lower.Lower.{Lower}
use Rattle.stack_rules.specs.Records.{Configuration}
use Rattle.stack_rules.specs.Names.{mapped}
use Rattle.stack_meaning.specs.declared.fault.IoFault.{IoFault}
use Rattle.stack_meaning.specs.declared.fault.IoFault.TheVariants as io
use Rattle.stack_meaning.specs.Found.{FoundRecord}
use Rattle.stack_meaning.specs.Kept.{LineKeeps, IsKept}
use Rattle.stack_meaning.specs.May.{MayFault}
use Rattle.stack_meaning.specs.Meaning.{said_at}
use Rattle.stack_meaning.specs.Reading.{Ends, MeetVerity, Reads}
use Rattle.stack_engine.specs.declared.path.Chains.TheVariants.{Dropped}
use Rattle.stack_lines.specs.Touches.{AsksOnly, leaves_of}
use Rattle.stack_lines.proofs.lemmas.AskLemmas.{asks-touched}
use Rattle.stack_engine.specs.Bytes.{IsGoodChain, MayBeBytes, AnyBytes, EachBytes}
use Rattle.stack_engine.specs.Keeping.{ReadsAs}
use Rattle.stack_engine.specs.Healing.{HasNoParity}
use Rattle.stack_engine.specs.Pieces.{stack_with}
use Rattle.stack_lines.specs.Caches.{StackCache, capacity_of}

-- a chain that was found is good for its line
kept-good : (c : Configuration) (leaves : List Device) (x : FoundRecord) → IsKept c leaves x → IsGoodChain c x
kept-good c leaves x kept = go kept.line.target refl kept.keeps
  where
    go : (t : Target) → kept.line.target ≡ t → LineKeeps c leaves t x.chain → IsGoodChain c x
    go (verity_target v) has keeps = (v, record { line = kept.line; is = kept.is; has = has; fits = omega arith }, keeps.good)
    go t has keeps = absurd keeps

may-bytes : (c : Configuration) (lower : Lower) (first n : ℕ) {old new : List Device} (answer : Result (List ℕ) IoFault) {chains : List FoundRecord}
    → Reads c lower first n (record { old = old; new = new; before = []; after = chains }) answer → Ends (MayBeBytes c lower first n) (MayFault c lower first n) old new answer
may-bytes c lower first n {new = new} (Ok bytes) {chains = chains} p = record {
  chains = chains;
  read = record { run = p.got.may; used = rw p.grown.is p.grown.used };
  good = λ k x below. kept-good c new (get_or chains k x) (p.kept k x below);
}
may-bytes c lower first n (Err (io.Stack fault)) p = p.got.may
may-bytes c lower first n (Err (io.Device i)) p = p.got.may
may-bytes c lower first n (Err io.NoMemory) p = p.got.may

pub each-bytes : (c : Configuration) (d first n : ℕ) {old new : List Device} (answer : Result (List ℕ) IoFault) {found out : List FoundRecord} → found ≡ []
    → ReadsAs Dropped c (mapped d) first n (record { old = old; new = new; before = found; after = out }) answer → AsksOnly (MeetVerity (said_at c (mapped d)) first n → HasNoParity c) (leaves_of c (mapped d)) old new answer
    → (before after : StackCache) {was is : ℕ} → capacity_of after ≡ capacity_of before → EachBytes (stack_with c old before was) d first n answer (stack_with c new after is)
each-bytes c d first n {old = old} {new = new} answer {out = out} none p asks before after {was = was} {is = is} capacity =
    let q = subst (λ (u : List FoundRecord). ReadsAs Dropped c (mapped d) first n (record { old = old; new = new; before = u; after = out }) answer) none p in
    let any : AnyBytes (stack_with c _ before was) d first n answer (stack_with c _ after is) = record { config = refl; capacity = capacity; moved = q.reads.got.moved; may = may-bytes c (mapped d) first n answer q.reads; touches = asks-touched asks; fails = asks.ends } in
    record { any = any; steady = λ sure. record { any = any; exact = q.reads.got.exact (record { steady = sure.steady; agrees = sure.agrees }) } }
