use Rattle.std.proofs.Common.{◌≡◌, ◌-◌, ◌*◌, ◌/◌, ℕ, true, false, List, length, sym, ap, ◌∙◌, subst, refl, inl, inr, arith}
use Rattle.std.proofs.lemmas.Result.{err_from_is_err_and}
use Rattle.block_device.specs.Call.{DeviceDoes, Read}
use Rattle.verity_format.specs.Blocks.{block_at}
use Rattle.fec_area.specs.Asking.{kept_of, sectors_on_data, sectors_on_hash}
use Rattle.fec_area.specs.Given.{gathered, kept_index_at}
use Rattle.fec_area.specs.Handing.{round_sectors}
use Rattle.fec_area.specs.Layouts.{round_bytes}
use Rattle.fec_area.specs.Restoring.{IsFirstRestored}
use Rattle.fec_area.specs.Rounds.{AreRestored}
use Rattle.fec_area.proofs.AskingLemmas.{asked-for-read, first-again, parity-asked}
use Rattle.fec_area.proofs.CallLemmas.{call-read, read-none}
use Rattle.fec_area.proofs.GivenLemmas.{gives-weaker}
use Rattle.fec_area.proofs.LayoutLemmas.{parity-small, round-quotient}
use Rattle.fec_area.proofs.RestoringLemmas.{first-restored}
use Rattle.fec_area.proofs.WritingLemmas.{round-at, round-within, write-inside}
use Rattle.fec_area.proofs.restoring.restore_first.Goals as goal

pub overflow_mul-gap : goal.overflow_mul-gap
overflow_mul-gap g c =
    let l = c.args.gap.now.code.layout.now in
    let valid = c.requires.can.laid.layout in
    let s : ℕ = length c.args.parity.now / 512 in
    let is = round-quotient l (length c.args.parity.now) valid c.requires.can.parity_is in
    omega (arith, round-within l c.args.gap.now.round s s c.requires.can.round_is is is, parity-small l valid)

pub read-requires : goal.read-requires
read-requires g c =
    let l = c.args.gap.now.code.layout.now in
    let valid = c.requires.can.laid.layout in
    let dev = g.P.BlockDev.state c.args.parity_dev.now in
    write-inside l dev dev c.args.gap.now.round (length c.args.parity.now) _ valid c.requires.room refl c.requires.can.round_is c.requires.can.parity_is (round-quotient l (length c.args.parity.now) valid c.requires.can.parity_is)

pub restore_blocks-requires : goal.restore_blocks-requires
restore_blocks-requires g c =
    let can = c.requires.can in
    record {
      laid = can.laid;
      lost_are = can.lost_are;
      enough = can.enough;
      count_is = can.count_is;
      products_are = can.products_are;
      round_is = can.round_is;
      block_is = can.block_is;
      parity_is = c.read.auto.out ∙ can.parity_is;
      sums_are = can.sums_are;
    }

pub take_column-requires-clause-len : goal.take_column-requires-clause-len
take_column-requires-clause-len g c =
    let long : length c.restore_blocks.new.block ≡ c.args.gap.now.code.layout.now.block = c.restore_blocks.auto.block ∙ c.requires.can.block_is in
    c.restore_blocks.auto.sums ∙ c.requires.can.sums_are ∙ ap (λ (n : ℕ). n * length c.args.gap.now.places.now) (sym long)

pub returns-in_err-read-clause-read : goal.returns-in_err-read-clause-read
returns-in_err-read-clause-read g c = read-none (g.D.BlockDev.state c.args.data_dev.now) (g.H.BlockDev.state c.args.hash_dev.now)

pub returns-in_err-read-clause-parity : goal.returns-in_err-read-clause-parity
returns-in_err-read-clause-parity g c = call-read c.in_err-read.ensures.moved

pub returns-in_err-read-clause-err : goal.returns-in_err-read-clause-err
returns-in_err-read-clause-err g c =
    let p = err_from_is_err_and c.from_residual.result c.from_residual.ensures.1 in
    rw p.1 (inr c.in_err-read.ensures.fault)

pub returns-in_err-restore_blocks-clause-parity : goal.returns-in_err-restore_blocks-clause-parity
returns-in_err-restore_blocks-clause-parity g c = call-read c.in_ok-read.ensures.moved

pub returns-in_err-restore_blocks-clause-err : goal.returns-in_err-restore_blocks-clause-err
returns-in_err-restore_blocks-clause-err g c =
    let p = err_from_is_err_and c.from_residual-in_err-restore_blocks.result c.from_residual-in_err-restore_blocks.ensures.1 in
    rw p.1 (inl c.in_err-restore_blocks.ensures.err)

pub returns-in_err-read-clause-asks : goal.returns-in_err-read-clause-asks
returns-in_err-read-clause-asks g c =
    let l = c.args.gap.now.code.layout.now in
    let p = err_from_is_err_and c.from_residual.result c.from_residual.ensures.1 in
    let parity = round-quotient l (length c.args.parity.now) c.requires.can.laid.layout c.requires.can.parity_is in
    rw p.1 (parity-asked (g.D.BlockDev.state c.args.data_dev.now) (g.H.BlockDev.state c.args.hash_dev.now) (kept_of (sectors_on_data l) l c.args.gap.now.round c.args.gap.now.places.now) (kept_of (sectors_on_hash l) l c.args.gap.now.round c.args.gap.now.places.now) (l.roots * (l.block / 512)) (length c.args.parity.now / 512) false false parity refl c.in_err-read.ensures.moved)

pub returns-in_err-restore_blocks-clause-asks : goal.returns-in_err-restore_blocks-clause-asks
returns-in_err-restore_blocks-clause-asks g c =
    let l = c.args.gap.now.code.layout.now in
    let p = err_from_is_err_and c.from_residual-in_err-restore_blocks.result c.from_residual-in_err-restore_blocks.ensures.1 in
    let parity = round-quotient l (length c.args.parity.now) c.requires.can.laid.layout c.requires.can.parity_is in
    rw p.1 (first-again (kept_of (sectors_on_data l) l c.args.gap.now.round c.args.gap.now.places.now) (kept_of (sectors_on_hash l) l c.args.gap.now.round c.args.gap.now.places.now) (l.roots * (l.block / 512)) (length c.args.parity.now / 512) false false true parity refl c.in_err-restore_blocks.ensures.asks c.in_ok-read.ensures.moved)

pub returns-clause-asks : goal.returns-clause-asks
returns-clause-asks g c =
    let l = c.args.gap.now.code.layout.now in
    record {
      of_data = c.in_ok-restore_blocks.ensures.asks.0;
      of_hash = c.in_ok-restore_blocks.ensures.asks.1;
      of_parity = asked-for-read (l.roots * (l.block / 512)) true (round-quotient l (length c.args.parity.now) c.requires.can.laid.layout c.requires.can.parity_is) c.in_ok-read.ensures.moved;
    }

pub returns-clause-parity : goal.returns-clause-parity
returns-clause-parity g c = call-read c.in_ok-read.ensures.moved

pub returns-clause-first : goal.returns-clause-first
returns-clause-first g c one other third =
    let l = c.args.gap.now.code.layout.now in
    let valid = c.requires.can.laid.layout in
    let a = g.D.BlockDev.state c.args.data_dev.now in
    let b = g.H.BlockDev.state c.args.hash_dev.now in
    let image = (g.P.BlockDev.state c.args.parity_dev.now).image in
    let round = c.args.gap.now.round in
    let stored = c.read.new.out in
    let places = c.args.gap.now.places.now in
    let sums = c.restore_blocks.new.sums in
    let bytes = c.take_column.new.column in
    let first = round-quotient l (length c.args.parity.now) valid c.requires.can.parity_is in
    let at = round-at l image round (length c.args.parity.now / 512) (length c.args.parity.now) stored valid first c.requires.can.parity_is (c.in_ok-read.ensures.bytes third) in
    let restored = subst (λ (xs : List ℕ). AreRestored l a.image b.image round xs places sums) at (c.in_ok-restore_blocks.ensures.restored one other) in
    first-restored l a.image b.image round (block_at image (round_bytes l) round) places sums bytes c.requires.some (c.take_column.auto.column ∙ c.restore_blocks.auto.block ∙ c.requires.can.block_is)
    c.take_column.ensures restored

pub returns-in_err-read-clause-sure : goal.returns-in_err-read-clause-sure
returns-in_err-read-clause-sure g c never =
    let p = err_from_is_err_and c.from_residual.result c.from_residual.ensures.1 in
    rw p.1 (c.in_err-read.ensures.sure never.2)

pub returns-in_err-restore_blocks-clause-sure : goal.returns-in_err-restore_blocks-clause-sure
returns-in_err-restore_blocks-clause-sure g c never =
    let p = err_from_is_err_and c.from_residual-in_err-restore_blocks.result c.from_residual-in_err-restore_blocks.ensures.1 in
    rw p.1 (c.in_err-restore_blocks.ensures.sure (never.0, never.1))

pub returns-in_err-read-clause-calls : goal.returns-in_err-read-clause-calls
returns-in_err-read-clause-calls g c =
    let p = err_from_is_err_and c.from_residual.result c.from_residual.ensures.1 in
    let reads = DeviceDoes g.P.BlockDev.state g.P.BlockDev.does in
    let stored : List ℕ = c.read.new.out in
    let call : reads c.args.parity_dev.now (Read (c.args.gap.now.round * round_sectors c.args.gap.now.code.layout.now) stored false) c.read.new.self =
    subst (λ (n : ℕ). reads c.args.parity_dev.now (Read (c.args.gap.now.round * (n / 512)) stored false) c.read.new.self) c.requires.can.parity_is c.in_err-read.ensures.call in
    rw p.1 (inl (stored, call, refl, refl))

pub returns-in_err-restore_blocks-clause-calls : goal.returns-in_err-restore_blocks-clause-calls
returns-in_err-restore_blocks-clause-calls g c =
    let p = err_from_is_err_and c.from_residual-in_err-restore_blocks.result c.from_residual-in_err-restore_blocks.ensures.1 in
    let reads = DeviceDoes g.P.BlockDev.state g.P.BlockDev.does in
    let stored : List ℕ = c.read.new.out in
    rw p.1
    (inr (record {
      parity = stored;
      of_parity = subst (λ (n : ℕ). reads c.args.parity_dev.now (Read (c.args.gap.now.round * (n / 512)) stored true) c.read.new.self) c.requires.can.parity_is c.in_ok-read.ensures.call;
      blocks = c.in_err-restore_blocks.ensures.given;
    }))

pub returns-clause-calls : goal.returns-clause-calls
returns-clause-calls g c =
    let asks = DeviceDoes g.D.BlockDev.state g.D.BlockDev.does in
    let does = DeviceDoes g.H.BlockDev.state g.H.BlockDev.does in
    let reads = DeviceDoes g.P.BlockDev.state g.P.BlockDev.does in
    let l = c.args.gap.now.code.layout.now in
    let round = c.args.gap.now.round in
    let stored : List ℕ = c.read.new.out in
    let places = c.args.gap.now.places.now in
    let sums = c.restore_blocks.new.sums in
    let bytes = c.take_column.new.column in
    let indices = gathered (kept_index_at l round places) (255 - l.roots) in
    record {
      parity = stored;
      of_parity = subst (λ (n : ℕ). reads c.args.parity_dev.now (Read (round * (n / 512)) stored true) c.read.new.self) c.requires.can.parity_is c.in_ok-read.ensures.call;
      blocks =
          gives-weaker asks does l indices indices refl (λ x y. AreRestored l x y round stored places sums) (λ x y. IsFirstRestored l x y round stored places bytes)
          (λ x y restored. first-restored l x y round stored places sums bytes c.requires.some (c.take_column.auto.column ∙ c.restore_blocks.auto.block ∙ c.requires.can.block_is) c.take_column.ensures restored)
          c.args.data_dev.now c.args.hash_dev.now c.restore_blocks.new.data_dev c.restore_blocks.new.hash_dev true c.in_ok-restore_blocks.ensures.given;
    }
