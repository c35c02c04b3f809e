use Rattle.std.proofs.Common.{ℕ, inl, inr, refl, subst}
use Rattle.fec_commands.specs.declared.fault.FecFault.TheVariants.{Parity}
use Rattle.fec_commands.specs.FecFaults.{unopened}
use Rattle.fec_commands.specs.Fitting.{FitsByOptions, IsShortByOptions}
use Rattle.fec_commands.proofs.EndingLemmas.{err-from}
use Rattle.fec_commands.proofs.fits.measure_words.Goals as goal

pub returns-in_err-three-clause-err : goal.returns-in_err-three-clause-err
returns-in_err-three-clause-err g c =
    err-from c.from_residual.result _ (unopened c.in_err-three.field-0.0) c.from_residual.ensures.1
    (inl (record { file = c.in_err-three.field-0.0; refused = c.in_err-three.ensures.err; is = refl }))

pub returns-in_err-check_room-clause-err : goal.returns-in_err-check_room-clause-err
returns-in_err-check_room-clause-err g c =
    let three = c.in_ok-three.three in
    let state = g.I.Dev.BlockDev.state in
    let cause = c.in_err-check_room.field-0.0 in
    err-from c.from_residual-in_err-check_room.result _ (Parity cause) c.from_residual-in_err-check_room.ensures.1
    (inr (record {
      three = three;
      opened = c.in_ok-three.ensures.ok;
      cause = cause;
      short = subst (λ (end : ℕ). IsShortByOptions c.args.wanted.now (state three.«data».device) (state three.hash.device) (state three.parity.device) (record { end = end; first = c.args.places.now.hash_first; roots = c.args.fec.now.roots }) cause) c.data_end.ensures c.in_err-check_room.ensures.err;
      is = refl;
    }))

pub returns-clause-ok : goal.returns-clause-ok
returns-clause-ok g c =
    let three = c.in_ok-three.three in
    let state = g.I.Dev.BlockDev.state in
    record {
      three = three;
      opened = c.in_ok-three.ensures.ok;
      enough = subst (λ (end : ℕ). FitsByOptions c.args.wanted.now (state three.«data».device) (state three.hash.device) (state three.parity.device) (record { end = end; first = c.args.places.now.hash_first; roots = c.args.fec.now.roots })) c.data_end.ensures c.in_ok-check_room.ensures.ok;
    }
