use Rattle.std.proofs.Common.{◌≡◌, true, take}
use Rattle.ylexemes.specs.Bytes.{all_pass}
use Rattle.ytokens.specs.TokensFile.{is_word_byte}
use Rattle.ytokens.proofs.token_words.run_in.Given as goal

-- each byte so far passes
abbrev pub invariant-loop-index : goal.invariant-loop-index
invariant-loop-index l = all_pass is_word_byte (take l.index l.bytes) ≡ true
