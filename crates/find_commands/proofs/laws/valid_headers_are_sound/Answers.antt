use Rattle.find_commands.proofs.SoundLemmas.{all-sound}
use Rattle.find_commands.proofs.laws.valid_headers_are_sound.Goals as goal

pub returns : goal.returns
returns c = λ states. all-sound states
