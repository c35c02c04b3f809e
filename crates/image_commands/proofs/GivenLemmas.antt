-- Options that are the same.
use Rattle.std.proofs.Common.{◌≡◌, subst}
use Rattle.verity_format.specs.declared.formatting.FormatOptions.{FormatOptions}
use Rattle.command_line.specs.declared.image_options.ImageOptions.{ImageOptions}
use Rattle.image_commands.specs.Drawing.{AreGiven, Drawing, IsUndrawn}

pub given-as : {S G : Type 0} {d : Drawing S G} {o o' : ImageOptions} {given : FormatOptions} → AreGiven d o given → o ≡ o' → AreGiven d o' given
given-as {S} {G} {d} {o} {o'} {given} is same = subst (λ (x : ImageOptions). AreGiven d x given) same is

pub undrawn-as : {S G : Type 0} {d : Drawing S G} {o o' : ImageOptions} → IsUndrawn d o → o ≡ o' → IsUndrawn d o'
undrawn-as {S} {G} {d} {o} {o'} is same = subst (λ (x : ImageOptions). IsUndrawn d x) same is
