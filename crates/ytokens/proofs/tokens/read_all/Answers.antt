use Rattle.std.proofs.Common.{rules, ◌≡◌, ◌++◌, nat_lt, ℕ, suc, List, [], ◌∷◌, Result, Ok, Err}
use Rattle.std.proofs.Common.{length, arith, sym, ap, ◌∙◌, subst, length-append}
use Prim.Native.Nat.{zero}
use Rattle.std.specs.List.{All}
use Rattle.std.proofs.lemmas.Bool.{ltb-true}
use Rattle.ytokens.specs.declared.tokens.TokenFault.{TokenFault}
use Rattle.ytokens.specs.TokensFile.{token, answer, Comes, Outcome, with_token}
use Rattle.ytokens.specs.Symbols.{symbol_named, token_count}
use Rattle.ytokens.specs.Tokens.{IsInput}
use Rattle.ytokens.proofs.OneOutcome.{after_tokens, after_one, after_none, gives_fault, Token}
use Rattle.ytokens.proofs.OneOutcome.{token_facts, and_true, all_push}
use Rattle.ytokens.proofs.tokens.read_all.Goals as goal

pub returns-in-End-clause-exact : goal.returns-in-End-clause-exact
returns-in-End-clause-exact c =
    let t = c.args.grammar.now in
    let ss : List ℕ = c.loop-symbols.symbols.items in
    let count : c.len.result ≡ length ss = search rules in
    let here : Comes (symbol_named t) (token_count t) (length ss) c.loop-symbols.rest.now
    (answer (Ok [])) =
    subst (λ (n : ℕ). Comes (symbol_named t) (token_count t) n c.loop-symbols.rest.now
    (answer (Ok []))) count c.in-End.ensures in
    subst (λ (r : Result (List ℕ) TokenFault). Outcome (symbol_named t) (token_count t) 0
    c.args.bytes.now r) (after_none ss) (c.loop-symbols.invariant.told (Ok []) (zero, here))

pub returns-in-Fault-clause-exact : goal.returns-in-Fault-clause-exact
returns-in-Fault-clause-exact c =
    let t = c.args.grammar.now in
    let ss : List ℕ = c.loop-symbols.symbols.items in
    let fault : TokenFault = c.in-Fault.fault in
    let count : c.len.result ≡ length ss = search rules in
    let here : Comes (symbol_named t) (token_count t) (length ss) c.loop-symbols.rest.now
    (answer (Err fault)) =
    subst (λ (n : ℕ). Comes (symbol_named t) (token_count t) n c.loop-symbols.rest.now
    (answer (Err fault))) count c.in-Fault.ensures in
    gives_fault t c.args.bytes.now fault (c.loop-symbols.invariant.told (Err fault) (zero, here))

pub loop-symbols-preserved : goal.loop-symbols-preserved
loop-symbols-preserved c =
    let t = c.args.grammar.now in
    let find = symbol_named t in
    let ss : List ℕ = c.loop-symbols.symbols.items in
    let symbol : ℕ = c.in-Token.symbol in
    let after : List ℕ = c.in-Token.after.now in
    let rest : List ℕ = c.loop-symbols.rest.now in
    let count : c.len.result ≡ length ss = search rules in
    let here : Comes find (token_count t) (length ss) rest (token symbol after) =
    subst (λ (n : ℕ). Comes find (token_count t) n rest (token symbol after)) count
    c.in-Token.ensures in
    let facts : Token (token_count t) (length ss) symbol rest after =
    token_facts find (token_count t) (length ss) symbol rest after here in
    let items : c.push.new.self.items ≡ ss ++ symbol ∷ [] = c.in_ok-push-in-Token.ensures.items in
    let longer : length c.push.new.self.items ≡ suc (length ss) =
    omega (arith, ap length items, length-append ss (symbol ∷ [])) in
    let tests = and_true (nat_lt 1 symbol) (nat_lt symbol (token_count t)) facts.input in
    let input : IsInput (token_count t) symbol =
    (ltb-true 1 symbol tests.0, ltb-true symbol (token_count t) tests.1) in
    record {
      few = omega (arith, longer, facts.below);
      inputs = subst (λ (l : List ℕ). All (IsInput (token_count t)) l) (sym items)
          (all_push (IsInput (token_count t)) ss symbol c.loop-symbols.invariant.inputs input);
      told = λ r p.
          let later : Outcome find (token_count t) (suc (length ss)) after r =
          subst (λ (n : ℕ). Outcome find (token_count t) n after r) longer p in
          let whole : Outcome find (token_count t) 0 c.args.bytes.now
          (after_tokens ss (with_token symbol r)) =
          c.loop-symbols.invariant.told (with_token symbol r) (
            suc later.0,
            (symbol, after, r, here, later.1, search rules),
          ) in
          subst (λ (x : Result (List ℕ) TokenFault). Outcome find (token_count t) 0 c.args.bytes.now
          x)
          (after_one ss symbol r ∙ ap (λ (l : List ℕ). after_tokens l r) (sym items)) whole;
    }
