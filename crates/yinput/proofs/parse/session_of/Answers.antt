use Rattle.std.proofs.Common.{refl}
use Rattle.yinput.proofs.parse.session_of.Goals as goal

pub new-requires : goal.new-requires
new-requires c = c.if-fits.ensures.0 refl
