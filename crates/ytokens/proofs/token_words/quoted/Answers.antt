use Rattle.std.proofs.Common.{refl}
use Rattle.ytokens.specs.TokensFile.{literal}
use Rattle.ytokens.proofs.OneOutcome.{no_word}
use Rattle.ytokens.proofs.token_words.quoted.Goals as goal

pub returns-in-Some : goal.returns-in-Some
returns-in-Some c = literal refl c.in-Some.ensures

pub returns-in-None : goal.returns-in-None
returns-in-None c = (c.requires, no_word c.args.bytes.now c.requires c.in-None.ensures)
