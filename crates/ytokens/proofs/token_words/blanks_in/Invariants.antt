use Rattle.std.proofs.Common.{◌≡◌, true, take}
use Rattle.ylexemes.specs.Bytes.{is_blank, all_pass}
use Rattle.ytokens.proofs.token_words.blanks_in.Given as goal

-- each byte so far passes
abbrev pub invariant-loop-index : goal.invariant-loop-index
invariant-loop-index l = all_pass is_blank (take l.index l.bytes) ≡ true
