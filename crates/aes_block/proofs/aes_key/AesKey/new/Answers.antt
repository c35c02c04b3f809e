use Rattle.std.proofs.Common.{◌≡◌, ◌+◌, ◌-◌, ◌*◌, ◌/◌, take, length, sym, ap, ◌∙◌, inl, inr, rules, arith}
use Rattle.std.proofs.lemmas.List.{take-take}
use Rattle.aes_block.specs.KeyExpansion.{key_schedule}
use Rattle.aes_block.proofs.KeyScheduleLemmas.{take-key_schedule, key_words_between}
use Rattle.aes_block.proofs.aes_key.AesKey.new.Goals as goal
use Rattle.aes_block.proofs.aes_key.AesKey.new.Goals.{After-unmixed}

-- the first bytes of the schedule are the key
key_is : (c : After-unmixed) → take (4 * (length c.args.key.now / 4 + 6 - 6)) c.expand-schedule.result ≡ c.args.key.now
key_is c =
    let key = c.args.key.now in
    let between = key_words_between (length key) c.in-16.is in
    let long : 4 * (length key / 4 + 6 - 6) ≡ length key = omega (arith, between) in
    let front = take-take (length key) (16 * (length key / 4 + 6 + 1)) c.expand-schedule.result (omega (arith, between)) in
    rw long (sym front ∙ ap (take (length key)) c.expand-schedule.ensures ∙ take-key_schedule key)

pub invariant_of-result : goal.invariant_of-result
invariant_of-result c = record {
  rounds = elim c.in-16.is [ inl e ↦ inl (rw e (omega arith)) | inr e ↦ inr (rw e (omega arith)) ];
  bytes = search rules;
  schedule = c.expand-schedule.ensures ∙ ap key_schedule (sym (key_is c));
  unmixed = c.unmixed.ensures;
}

pub returns-in-16-clause-value : goal.returns-in-16-clause-value
returns-in-16-clause-value c = key_is c
