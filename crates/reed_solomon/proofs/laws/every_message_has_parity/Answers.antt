use Rattle.reed_solomon.proofs.EncodingLemmas.{parity_exists}
use Rattle.reed_solomon.proofs.laws.every_message_has_parity.Goals as goal

pub returns : goal.returns
returns c parity message some few whole fits = parity_exists parity message some few whole fits
