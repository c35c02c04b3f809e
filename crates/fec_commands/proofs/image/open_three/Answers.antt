use Rattle.std.proofs.Common.{inl, inr}
use Rattle.fec_commands.proofs.EndingLemmas.{err-from}
use Rattle.fec_commands.proofs.image.open_three.Goals as goal

pub returns-in_err-hash-clause-err : goal.returns-in_err-hash-clause-err
returns-in_err-hash-clause-err g c =
    err-from c.from_residual-in_err-hash.result _ c.in_err-hash.field-0.0 c.from_residual-in_err-hash.ensures.1
    (inr (inl (record { one = c.open_place.new.images; data_image = c.in_ok-data.«data»; data_opened = c.in_ok-data.ensures.ok; refused = c.in_err-hash.ensures.err })))

pub returns-in_err-parity-clause-err : goal.returns-in_err-parity-clause-err
returns-in_err-parity-clause-err g c =
    err-from c.from_residual-in_err-parity.result _ c.in_err-parity.field-0.0 c.from_residual-in_err-parity.ensures.1
    (inr (inr (record {
      one = c.open_place.new.images;
      two = c.open_place-2.new.images;
      data_image = c.in_ok-data.«data»;
      hash_image = c.in_ok-hash.hash;
      data_opened = c.in_ok-data.ensures.ok;
      hash_opened = c.in_ok-hash.ensures.ok;
      refused = rw (c.place_use.ensures, c.place_use-2.ensures) at c.in_err-parity.ensures.err;
    })))

pub returns-clause-ok : goal.returns-clause-ok
returns-clause-ok g c = record {
  one = c.open_place.new.images;
  two = c.open_place-2.new.images;
  data_opened = c.in_ok-data.ensures.ok;
  hash_opened = c.in_ok-hash.ensures.ok;
  parity_opened = rw (c.place_use.ensures, c.place_use-2.ensures) at c.in_ok-parity.ensures.ok;
}
