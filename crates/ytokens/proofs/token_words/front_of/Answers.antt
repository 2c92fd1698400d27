use Rattle.std.proofs.Common.{ℕ, List, take, drop, subst, sym, take-append-drop}
use Rattle.std.proofs.lemmas.List.{take_rest}
use Rattle.ytokens.specs.TokensFile.{FrontAt}
use Rattle.ytokens.specs.Reading.{front_view}
use Rattle.ytokens.proofs.token_words.front_of.Goals as goal

pub returns : goal.returns
returns c =
    let bytes : List ℕ = c.args.bytes.now in
    let n : ℕ = c.blanks_in.result in
    record {
      gap = take n bytes;
      here = drop n bytes;
      whole = sym (take-append-drop n bytes);
      blanks = c.blanks_in.ensures.each;
      no_blank = c.blanks_in.ensures.whole;
      stands = subst (λ (l : List ℕ). FrontAt l (front_view c.front_here.result))
          (take_rest bytes n) c.front_here.ensures;
    }
