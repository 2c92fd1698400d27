use Rattle.std.proofs.Common.{codes, length, ℕ, List, Bool, ◌++◌}
use Rattle.ylink.specs.declared.link.Link.{Link}
use Rattle.ylink.specs.Sends.{Sends}
use Rattle.ytables.specs.Table.{rule_lines, symbol_lines}
use Rattle.ytables.specs.Text.{count_line}
use Rattle.ytables.proofs.LineSteps.{list_cut, list_sent}
use Rattle.ytables.proofs.table.put_table.Given.{Over}
use Rattle.ytables.proofs.table.put_table.Goals.{After-put_list-2, After-put_list-3}
use Rattle.ytables.proofs.table.put_table.Goals as goal

-- the symbols, and then more
symbols_then : (g : Over) (c : After-put_list-2 g) {b : Link g.row.W.Denot} {whole : Bool}
    {u : List ℕ} → Sends g.W.Write.contents c.put_list.new.link b whole u →
    Sends g.W.Write.contents c.args.link.now b whole
    (count_line (codes "table 2\nsymbols ") c.args.tables.now.built.grammar.bare.symbols
    ++ (symbol_lines c.args.tables.now.built.grammar ++ u))
symbols_then g c more =
    let n = c.args.tables.now.built.grammar.bare.symbols in
    list_sent g.W.Write.contents _ _ _ _ (count_line (codes "table 2\nsymbols ") n) _ _
    (rw (c.symbols-symbols.ensures.value, c.grammar-grammar.ensures) at
    (c.in_ok-put_list.ensures tt n
    (rw (c.symbols-symbols.ensures.value, c.grammar-grammar.ensures)))) more

-- the rules, and then more
rules_then : (g : Over) (c : After-put_list-3 g) {b : Link g.row.W.Denot} {whole : Bool}
    {u : List ℕ} → Sends g.W.Write.contents c.put_list-2.new.link b whole u →
    Sends g.W.Write.contents c.put_list.new.link b whole
    (count_line (codes "rules ") (length c.args.tables.now.built.grammar.bare.rules)
    ++ (rule_lines c.args.tables.now.built.grammar ++ u))
rules_then g c more =
    let n = length c.args.tables.now.built.grammar.bare.rules in
    list_sent g.W.Write.contents _ _ _ _ (count_line (codes "rules ") n) _ _
    (rw (c.rules-rules.ensures, c.grammar-grammar.ensures) at
    (c.in_ok-put_list-2.ensures tt n
    (rw (c.rules-rules.ensures, c.grammar-grammar.ensures)))) more

pub returns-in_err-put_list : goal.returns-in_err-put_list
returns-in_err-put_list g c =
    let n = c.args.tables.now.built.grammar.bare.symbols in
    list_cut g.W.Write.contents _ _ _ (count_line (codes "table 2\nsymbols ") n) _ _
    c.from_residual.ensures
    (rw (c.symbols-symbols.ensures.value, c.grammar-grammar.ensures) at
    (c.in_err-put_list.ensures tt n
    (rw (c.symbols-symbols.ensures.value, c.grammar-grammar.ensures))))

pub returns-in_err-put_list-2 : goal.returns-in_err-put_list-2
returns-in_err-put_list-2 g c =
    let n = length c.args.tables.now.built.grammar.bare.rules in
    symbols_then g (goal.at.returns-in_err-put_list-2 g c).After-put_list-2
    (list_cut g.W.Write.contents _ _ _ (count_line (codes "rules ") n) _ _
    c.from_residual-in_err-put_list-2.ensures
    (rw (c.rules-rules.ensures, c.grammar-grammar.ensures) at
    (c.in_err-put_list-2.ensures tt n
    (rw (c.rules-rules.ensures, c.grammar-grammar.ensures)))))

pub returns-in_err-put_list-3 : goal.returns-in_err-put_list-3
returns-in_err-put_list-3 g c =
    let at = goal.at.returns-in_err-put_list-3 g c in
    let n = length c.args.tables.now.built.states in
    symbols_then g at.After-put_list-2 (rules_then g at.After-put_list-3
    (list_cut g.W.Write.contents _ _ _ (count_line (codes "states ") n) _ _
    c.from_residual-in_err-put_list-3.ensures
    (rw (c.states-states.ensures.count, c.automaton.ensures.value) at
    (c.in_err-put_list-3.ensures tt n
    (rw (c.states-states.ensures.count, c.automaton.ensures.value))))))

pub returns : goal.returns
returns g c =
    let at = goal.at.returns g c in
    let n = length c.args.tables.now.built.states in
    symbols_then g at.After-put_list-2 (rules_then g at.After-put_list-3
    (list_sent g.W.Write.contents _ _ _ _ (count_line (codes "states ") n) _ _
    (rw (c.states-states.ensures.count, c.automaton.ensures.value) at
    (c.in_ok-put_list-3.ensures tt n
    (rw (c.states-states.ensures.count, c.automaton.ensures.value)))) c.put.ensures))
