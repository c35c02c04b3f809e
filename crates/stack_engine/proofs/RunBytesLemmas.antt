-- The bytes of a run, and those before and after it.
use Rattle.std.proofs.Common.{◌≡◌, ◌⊎◌, inl, inr, false, ◌<◌, ◌≤◌, ◌+◌, ◌/◌, ◌*◌, ◌-◌, ◌%◌, length, take, drop, ℕ, List, [], ◌++◌, sym, ap, ◌∙◌, subst, arith}
use Rattle.std.proofs.lemmas.List.{length-append, length-take, length-drop, take-append-drop, nil_from_length}
use Rattle.std.proofs.Math.Seq.{take-add}
use Rattle.stack_rules.specs.Records.{Configuration}
use Rattle.stack_lines.specs.declared.source.Source.{Source}
use Rattle.block_device.specs.Device.{Device}
use Rattle.block_device.proofs.lemmas.SectorLemmas.{put_at}
use Rattle.stack_meaning.specs.Found.{FoundRecord}
use Rattle.stack_meaning.specs.Kept.{AllKept}
use Rattle.stack_meaning.specs.Puts.{in_one_run}
use Rattle.stack_lines.specs.AtOnce.{CanGo}
use Rattle.stack_lines.specs.Caches.{StackCache}
use Rattle.stack_lines.specs.Sources.{SourceHolds, IsServed, EndsRun}
use Rattle.stack_lines.proofs.lemmas.SourceLemmas.{served-holds}
use Rattle.stack_lines.proofs.lemmas.WriteSourceLemmas.{EndsBefore}
use Rattle.stack_engine.specs.Premises.{FitsIn, CanRead}
use Rattle.stack_engine.specs.Stacks.{IsStack}
use Rattle.stack_engine.proofs.SpentLemmas.{IsCutBehind, cut-behind}

-- the front of a room for the sectors of one unit
module _ (room : List ℕ) (sectors : ℕ) (size : length room ≡ 4096) (few : sectors ≤ 8) where
  pub room_length : length (take (sectors * 512) room) ≡ sectors * 512
  room_length = omega (arith, size, few, length-take (sectors * 512) room)

  pub room_sectors : length (take (sectors * 512) room) / 512 ≡ sectors
  room_sectors = omega (arith, room_length)

-- a run of so many sectors from a byte on
module _ (bytes : List ℕ) (at count : ℕ) (fits : at + count * 512 ≤ length bytes) where
  pub run_length : length (take (at + count * 512 - at) (drop at bytes)) ≡ count * 512
  run_length = omega (arith, fits, length-take (at + count * 512 - at) (drop at bytes), length-drop at bytes)

  pub run_sectors : length (take (at + count * 512 - at) (drop at bytes)) / 512 ≡ count
  run_sectors = omega (arith, run_length)

  pub front_sectors : length (take at bytes) / 512 ≡ at / 512
  front_sectors = let len : length (take at bytes) ≡ at = omega (arith, fits, length-take at bytes) in omega (arith, len)

  pub front_whole : at % 512 ≡ 0 → length (take at bytes) % 512 ≡ 0
  front_whole whole = omega (arith, whole, fits, length-take at bytes)

  pub with_run : take at bytes ++ take (at + count * 512 - at) (drop at bytes) ≡ take (at + count * 512) bytes
  with_run =
      let width : at + count * 512 - at ≡ count * 512 = omega arith in
      ap (λ (k : ℕ). take at bytes ++ take k (drop at bytes)) width ∙ sym (take-add at (count * 512) bytes)

  pub with_rest : take at bytes ++ (take (at + count * 512 - at) (drop at bytes) ++ drop (at + count * 512 - at) (drop at bytes)) ≡ bytes
  with_rest = ap (λ (l : List ℕ). take at bytes ++ l) (take-append-drop (at + count * 512 - at) (drop at bytes)) ∙ take-append-drop at bytes

  pub run_served : (c : Configuration) (d first : ℕ) (source : Source) → IsServed c d (first + at / 512) count source
      → IsServed c d (first + length (take at bytes) / 512) (length (take (at + count * 512 - at) (drop at bytes)) / 512) source
  run_served c d first source served =
      subst (λ (k : ℕ). IsServed c d (first + k) (length (take (at + count * 512 - at) (drop at bytes)) / 512) source) (sym front_sectors)
      (subst (λ (k : ℕ). IsServed c d (first + at / 512) k source) (sym run_sectors) served)

-- ---- the next run of a device

-- It has `count` sectors, from byte `at` of the bytes on. These begin with sector `first` of the device, and have `all` sectors.
pub record IsNextRun (c : Configuration) (d first at all : ℕ) (bytes : List ℕ) (count : ℕ) (source : Source) : Type 0 where
  pub served : IsServed c d (first + at / 512) count source
  pub some : 0 < count
  pub fits : at + count * 512 ≤ length bytes
  pub len : length (take (at + count * 512 - at) (drop at bytes)) ≡ count * 512
  pub sectors : length (take (at + count * 512 - at) (drop at bytes)) / 512 ≡ count
  pub next : at / 512 + count ≡ (at + count * 512) / 512
  pub inside : at / 512 + count ≤ all
  pub behind : IsCutBehind c d first (at / 512 + count) all
  pub left : at / 512 + (length bytes - at) / 512 ≡ all
  pub longest : EndsRun (in_one_run c d) (first + at / 512) ((length bytes - at) / 512) count

pub next-run : {c : Configuration} {d count : ℕ} {source : Source} (first at all : ℕ) (bytes : List ℕ) → at % 512 ≡ 0 → at < length bytes → length bytes / 512 ≡ all → IsServed c d (first + at / 512) count source → 0 < count
    → count ≤ (length bytes - at) / 512 → EndsRun (in_one_run c d) (first + at / 512) ((length bytes - at) / 512) count → IsNextRun c d first at all bytes count source
next-run {c = c} {d = d} {count = count} first at all bytes whole low same served some most ends =
    let fits : at + count * 512 ≤ length bytes = omega (arith, most, low) in
    let left : at / 512 + (length bytes - at) / 512 ≡ all = omega (arith, whole, low, same) in
    record {
      served = served;
      some = some;
      fits = fits;
      len = run_length bytes at count fits;
      sectors = run_sectors bytes at count fits;
      next = omega (arith, whole);
      inside = omega (arith, fits, same);
      behind = cut-behind c d first (at / 512) count ((length bytes - at) / 512) all left some ends;
      left = left;
      longest = ends;
    }

pub run-fits : {c : Configuration} {d first at all count : ℕ} {source : Source} {bytes : List ℕ} → IsNextRun c d first at all bytes count source → FitsIn c source (take (at + count * 512 - at) (drop at bytes))
run-fits {c = c} {d = d} {first = first} {at = at} {count = count} {source = source} run = record {
  sectors = record { some = omega (arith, run.len, run.some); whole = omega (arith, run.len) };
  holds = subst (SourceHolds c source) (sym run.sectors) (served-holds c d (first + at / 512) count source run.served);
}

-- it can be read, where so much can go at once
pub run-can : {c : Configuration} {d first at all count : ℕ} {source : Source} {bytes : List ℕ} {leaves : List Device} {cache : StackCache} {found : List FoundRecord} → IsNextRun c d first at all bytes count source
    → IsStack c leaves cache → AllKept c leaves found → CanGo c source count found → CanRead c leaves cache found source (take (at + count * 512 - at) (drop at bytes))
run-can {c = c} {source = source} {found = found} run stack kept go = record { stack = stack; kept = kept; fits = run-fits run; can_go = subst (λ (k : ℕ). CanGo c source k found) (sym run.sectors) go }

-- ---- where runs end

module _ (bytes : List ℕ) (at count : ℕ) (fits : at + count * 512 ≤ length bytes) (c : Configuration) (d first : ℕ) where
  pub ends_before : 0 < count → EndsBefore c d (first + at / 512) (take at bytes) ⊎ (at ≡ length bytes) → EndsBefore c d (first + length (take at bytes) / 512) (take at bytes)
  ends_before some ends = elim ends [
    | inl before ↦ subst (λ (k : ℕ). EndsBefore c d (first + k) (take at bytes)) (sym (front_sectors bytes at count fits)) before
    | inr all ↦ absurd (omega (arith, all, fits, some))
  ]

  pub ends_after : (rest : ℕ) → at % 512 ≡ 0 → 0 < count → at + rest * 512 ≡ length bytes → EndsRun (in_one_run c d) (first + at / 512) rest count
      → EndsBefore c d (first + (at + count * 512) / 512) (take (at + count * 512) bytes) ⊎ (at + count * 512 ≡ length bytes)
  ends_after rest whole some size longest = elim longest [
    | inl all ↦ inr (omega (arith, all, size))
    | inr cut ↦ let e : first + at / 512 + count - 1 ≡ first + (at + count * 512) / 512 - 1 = omega (arith, whole) in inl (inr (ap (in_one_run c d) (sym e) ∙ cut))
  ]

  pub ends_behind : (rest : ℕ) → at % 512 ≡ 0 → at + rest * 512 ≡ length bytes → EndsRun (in_one_run c d) (first + at / 512) rest count
      → (drop (at + count * 512 - at) (drop at bytes) ≡ []) ⊎ (in_one_run c d (first + length (take at bytes) / 512 + length (take (at + count * 512 - at) (drop at bytes)) / 512 - 1) ≡ false)
  ends_behind rest whole size longest = elim longest [
    | inl all ↦ inl (nil_from_length (drop (at + count * 512 - at) (drop at bytes)) (omega (arith, all, size, length-drop (at + count * 512 - at) (drop at bytes), length-drop at bytes)))
    | inr cut ↦
        let e : first + at / 512 + count - 1 ≡ first + length (take at bytes) / 512 + length (take (at + count * 512 - at) (drop at bytes)) / 512 - 1 = omega (arith, front_sectors bytes at count fits, run_sectors bytes at count fits) in
        inr (ap (in_one_run c d) (sym e) ∙ cut)
  ]

-- bytes put into others within their length
pub length-put : (plain : List ℕ) (at : ℕ) (bytes : List ℕ) (size : ℕ) → length plain ≡ size → at + length bytes ≤ size → length (put_at plain at bytes) ≡ size
length-put plain at bytes size long fits =
    length-append (take at plain ++ bytes) (drop (at + length bytes) plain)
    ∙ ap (λ (k : ℕ). k + length (drop (at + length bytes) plain)) (length-append (take at plain) bytes)
    ∙ (omega (arith, long, fits, length-take at plain, length-drop (at + length bytes) plain))
