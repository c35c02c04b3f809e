-- What is read of a configuration without parity.
use Rattle.std.proofs.Common.{◌≡◌, ℕ, ◌-◌, None, arith}
use Rattle.dm_table.specs.declared.table.Line.{Line}
use Rattle.stack_rules.specs.Lines.{IsLine}
use Rattle.stack_rules.specs.Records.{Configuration}
use Rattle.stack_lines.specs.declared.source.Source.{Source}
use Rattle.stack_lines.specs.declared.source.Source.TheVariants.{Below, Units, UnitPart, Zeros, Fails, Block, Blocks}
use Rattle.stack_lines.specs.Sources.{ComeFrom, IsServed}
use Rattle.stack_engine.specs.Healing.{HasNoParity}
use Rattle.stack_engine.specs.SectorCalls.{block_of, blocks_of, columns_of, data_of, digest_of, erased_of, hash_of, judged_of, known_of, only_of, restored_of, sectors_of, spare_of, sums_of, way_of, ReadOf}

-- the line of a part has none
abbrev pub SourceHasNone : Source → Type 0
SourceHasNone (Below lower first) = Unit {0}
SourceHasNone (Units u) = Unit {0}
SourceHasNone (UnitPart u) = Unit {0}
SourceHasNone Zeros = Unit {0}
SourceHasNone Fails = Unit {0}
SourceHasNone (Block x) = x.verity.now.parity ≡ None
SourceHasNone (Blocks x) = x.verity.now.parity ≡ None

abbrev pub HasNone : ReadOf → Type 0
HasNone (sectors_of source n) = SourceHasNone source
HasNone (block_of x) = Unit {0}
HasNone (hash_of x) = Unit {0}
HasNone (way_of p l expected) = p.verity.parity ≡ None
HasNone (data_of p l expected last next) = p.verity.parity ≡ None
HasNone (blocks_of p left alone ahead) = p.verity.parity ≡ None
HasNone (spare_of p expected) = p.verity.parity ≡ None
HasNone (only_of p expected) = p.verity.parity ≡ None
HasNone (sums_of p q i sums) = ⊥
HasNone (erased_of p expected) = p.verity.parity ≡ None
HasNone (judged_of p q i l expected) = ⊥
HasNone (known_of p k) = ⊥
HasNone (digest_of p end n expected) = ⊥
HasNone (restored_of p q l expected) = ⊥
HasNone (columns_of p q places i sums) = ⊥

come-none : (c : Configuration) (d l : ℕ) (line : Line) (w n : ℕ) (source : Source) → HasNoParity c → IsLine c d l line → ComeFrom c (d, l) line.target w n source → SourceHasNone source
come-none c d l line w n (Below lower first) none is come = tt
come-none c d l line w n (Units u) none is come = tt
come-none c d l line w n (UnitPart u) none is come = tt
come-none c d l line w n Zeros none is come = tt
come-none c d l line w n Fails none is come = tt
come-none c d l line w n (Block x) none is come = none d l x.verity.now (record { line = line; is = is; has = come.0; fits = omega arith })
come-none c d l line w n (Blocks x) none is come = none d l x.verity.now (record { line = line; is = is; has = come.0; fits = omega arith })

pub served-none : {c : Configuration} {d s n : ℕ} {source : Source} → HasNoParity c → IsServed c d s n source → SourceHasNone source
served-none {c = c} {d = d} {s = s} {n = n} {source = source} none h = come-none c d h.number h.line (s - h.line.start) n source none h.is h.come
