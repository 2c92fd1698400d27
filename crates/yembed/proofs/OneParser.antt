-- The bytes of a grammar fix the arrays of its parser.
use Rattle.std.proofs.Common.{ℕ, ◌≡◌, List, sym, ◌∙◌}
use Rattle.ygrammar.proofs.OneGrammar.{one_grammar}
use Rattle.ylalr.proofs.OneCollection.{one_collection}
use Rattle.ytables.specs.Tables.{TablesValue}
use Rattle.ygenerate.specs.Sources.{AreTablesOf}
use Rattle.ycode.specs.declared.code.Code.{Code}
use Rattle.ycode.specs.declared.policy.Policy.TheVariants.{Consistent}
use Rattle.ycode.proofs.OneCode.{one_code}
use Rattle.yembed.specs.Codes.{IsCodeOf}

-- states and gotos of one grammar are the same
one_automaton : (grammar : List ℕ) (v w : TablesValue) → AreTablesOf grammar v →
    AreTablesOf grammar w → v.built ≡ w.built
one_automaton grammar v w a b = one_collection v.built w.built
    (one_grammar grammar v.built.grammar w.built.grammar a.grammar b.grammar) a.states b.states

-- and so are the arrays
pub one_parser : (grammar : List ℕ) (c d : Code) → IsCodeOf grammar c → IsCodeOf grammar d → c ≡ d
one_parser grammar c d x y = x.value ∙ one_code Consistent x.tables y.tables
    (one_automaton grammar x.tables y.tables x.are y.are) x.are.cells y.are.cells x.are.guide
    x.are.guides ∙ sym y.value
