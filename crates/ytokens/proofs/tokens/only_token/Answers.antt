use Rattle.ytokens.specs.Symbols.{symbol_named, token_count}
use Rattle.ytokens.proofs.OneToken.{just_one, other_first, other_second}
use Rattle.ytokens.proofs.tokens.only_token.Goals as goal

pub returns-in-End-next_in-clause-found : goal.returns-in-End-next_in-clause-found
returns-in-End-next_in-clause-found c =
    let v = c.args.grammar.now in
    just_one (symbol_named v) (token_count v) c.args.bytes.now c.in-Token.symbol c.in-Token.rest.now
    c.in-Token.ensures c.in-End-next_in.ensures

pub returns-in-Token-next_in-clause-none : goal.returns-in-Token-next_in-clause-none
returns-in-Token-next_in-clause-none c = λ e x.
    let v = c.args.grammar.now in
    other_second (symbol_named v) (token_count v) c.args.bytes.now c.in-Token.symbol
    c.in-Token.rest.now _ x c.in-Token.ensures c.in-Token-next_in.ensures (λ h. cc)

pub returns-in-Fault-next_in-clause-none : goal.returns-in-Fault-next_in-clause-none
returns-in-Fault-next_in-clause-none c = λ e x.
    let v = c.args.grammar.now in
    other_second (symbol_named v) (token_count v) c.args.bytes.now c.in-Token.symbol
    c.in-Token.rest.now _ x c.in-Token.ensures c.in-Fault-next_in.ensures (λ h. cc)

pub returns-in-Fault-clause-none : goal.returns-in-Fault-clause-none
returns-in-Fault-clause-none c = λ e x.
    let v = c.args.grammar.now in
    other_first (symbol_named v) (token_count v) c.args.bytes.now _ x c.in-Fault.ensures
    (λ rest h. cc)
