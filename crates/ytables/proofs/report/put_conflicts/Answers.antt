use Rattle.std.proofs.Common.{ℕ, ◌<◌, List, flat_map, is_some, length, ap, sym, ◌∙◌, subst}
use Rattle.std.proofs.Common.{arith}
use Rattle.std.specs.List.{All}
use Rattle.ysymbols.specs.Grammar.{GrammarValue}
use Rattle.ylalr.specs.Collection.{Guide, IsGuide}
use Rattle.ytables.specs.declared.cell.Conflict.{Conflict}
use Rattle.ylink.specs.Sends.{Sends}
use Rattle.ytables.specs.Report.{conflict_text}
use Rattle.ylink.proofs.Ranges.{by_index}
use Rattle.ytables.proofs.RowSteps.{conflicts_said, conflicts_at_tokens}
use Rattle.ytables.proofs.report.put_conflicts.Goals as goal

pub put_lines-requires : goal.put_lines-requires
put_lines-requires g c = λ k _ small.
    let v = c.args.tables.now in
    let found = c.conflicts_in-conflicts.result.now in
    let guide : (u : Guide) × IsGuide v.built u =
    rw (c.automaton.ensures.value) at c.states-guide.ensures.guide in
    let all : All (λ (k : Conflict). k.token < v.built.grammar.bare.tokens) found =
    subst (All (λ (k : Conflict). k.token < v.built.grammar.bare.tokens))
    (sym (c.conflicts_in-conflicts.ensures guide.0 guide.1))
    (conflicts_at_tokens v.built guide.0 c.args.q v.built.grammar.bare.tokens) in
    let within = c.symbols-well_formed.ensures.well_formed.within in
    let tokens = ap (λ (x : GrammarValue). x.bare.tokens) c.grammar-grammar.ensures in
    (small, λ d. let below = all k d small in omega (arith, below, within, tokens))

pub returns : goal.returns
returns g c = λ u h.
    let v = c.args.tables.now in
    let f = conflict_text v.built.grammar in
    let found = c.conflicts_in-conflicts.result.now in
    let z : Conflict = record { token = 0; shift_reduce = 0; reduce_reduce = 0 } in
    subst (λ (l : List ℕ). Sends g.W.Write.contents c.args.link.now c.put_lines.new.link
    (is_some c.put_lines.result) l)
    (by_index f z found ∙ ap (flat_map f) (c.conflicts_in-conflicts.ensures u h) ∙
    conflicts_said v u c.args.q)
    (rw c.grammar-grammar.ensures at (c.put_lines.ensures tt (length found) (omega arith)))
