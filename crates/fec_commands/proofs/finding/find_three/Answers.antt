use Rattle.std.proofs.Common.{inl, inr, refl, sym, ◌∙◌}
use Rattle.fec_commands.proofs.EndingLemmas.{err-from}
use Rattle.fec_commands.proofs.finding.find_three.Goals as goal

pub returns-in_err-hash-clause-err : goal.returns-in_err-hash-clause-err
returns-in_err-hash-clause-err g c =
    err-from c.from_residual-in_err-hash.result _ c.in_err-hash.field-0.0 c.from_residual-in_err-hash.ensures.1
    (inr (inl (record { one = c.open_place.new.images; data_image = c.in_ok-data.«data»; data_opened = c.in_ok-data.ensures.ok; refused = c.in_err-hash.ensures.err })))

pub returns-in_err-parity-clause-err : goal.returns-in_err-parity-clause-err
returns-in_err-parity-clause-err g c =
    err-from c.from_residual-in_err-parity.result _ c.in_err-parity.field-0.0 c.from_residual-in_err-parity.ensures.1
    (inr (inr (inl (record {
      one = c.open_place.new.images;
      two = c.find_place.new.images;
      data_image = c.in_ok-data.«data»;
      hash_image = c.in_ok-hash.hash;
      data_opened = c.in_ok-data.ensures.ok;
      hash_found = c.in_ok-hash.ensures.ok;
      refused = c.in_err-parity.ensures.err;
    }))))

pub returns-then-is_used-clause-err : goal.returns-then-is_used-clause-err
returns-then-is_used-clause-err g c = inr (inr (inr (inl (record {
  found = record { «data» = c.in_ok-data.«data»; hash = c.in_ok-hash.hash; parity = c.in_ok-parity.parity };
  looks = record { one = c.open_place.new.images; two = c.find_place.new.images; data_opened = c.in_ok-data.ensures.ok; hash_found = c.in_ok-hash.ensures.ok; parity_found = c.in_ok-parity.ensures.ok };
  is = (refl, refl);
  same = sym c.is_used.ensures ∙ c.if-is_used.true;
}))))

pub returns-in_err-check_ready-clause-err : goal.returns-in_err-check_ready-clause-err
returns-in_err-check_ready-clause-err g c =
    err-from c.from_residual-in_err-check_ready.result _ c.in_err-check_ready.field-0.0 c.from_residual-in_err-check_ready.ensures.1
    (inr (inr (inr (inr (record {
      found = record { «data» = c.in_ok-data.«data»; hash = c.in_ok-hash.hash; parity = c.in_ok-parity.parity };
      looked = c.find_place-2.new.images;
      looks = record { one = c.open_place.new.images; two = c.find_place.new.images; data_opened = c.in_ok-data.ensures.ok; hash_found = c.in_ok-hash.ensures.ok; parity_found = c.in_ok-parity.ensures.ok };
      refused = c.in_err-check_ready.ensures.err;
    })))))

pub returns-clause-ok : goal.returns-clause-ok
returns-clause-ok g c = record {
  looked = c.find_place-2.new.images;
  looks = record { one = c.open_place.new.images; two = c.find_place.new.images; data_opened = c.in_ok-data.ensures.ok; hash_found = c.in_ok-hash.ensures.ok; parity_found = c.in_ok-parity.ensures.ok };
  apart = sym c.is_used.ensures ∙ c.if-is_used.false;
  ready = c.in_ok-check_ready.ensures.ok;
}
