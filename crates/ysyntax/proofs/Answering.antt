-- What a reader's answer says of a file's outcome.
use Rattle.std.proofs.Common.{sym, ◌∙◌}
use Rattle.std.proofs.Common.{ℕ, List, Result, Ok, Err, IfOk}
use Rattle.std.specs.Global.{Vec}
use Rattle.ysyntax.specs.declared.lexer.Placed.{Placed}
use Rattle.ysyntax.specs.declared.fault.GrammarFault.{GrammarFault}
use Rattle.ysyntax.specs.declared.fault.GrammarFault.TheVariants as faults
use Rattle.ylexemes.specs.Lexemes.{Lexeme}
use Rattle.ysyntax.specs.Lexer.{SpellsSyntax, Refusal}
use Rattle.ylexemes.specs.Front.{unfinished, bad_literal, foreign, syntax}
use Rattle.ysyntax.specs.Lexer.{refusal, Outcome}
use Rattle.ysyntax.specs.Answers.{views, Answers, FailsAt, Gives, IsOutcome}
use Rattle.ysyntax.specs.declared.fault.PlacedFault.{PlacedFault}
use Rattle.ysyntax.specs.Tree.{HasOneTree}
use Rattle.ysyntax.proofs.Trees.{tree_of}
use Rattle.ysyntax.proofs.OneTree.{one_tree}
use Rattle.ysyntax.proofs.Outcomes.{one_outcome, outcome_spells}

pub gives_spells : (bytes : List ℕ) (r : Result (Vec Placed) PlacedFault) → Gives bytes r →
    IfOk r (λ v. SpellsSyntax bytes (views v.items))
gives_spells bytes (Ok v) h = outcome_spells bytes (views v.items) h
gives_spells bytes (Err e) h = tt

pub gives_answers : (bytes : List ℕ) (r : Result (Vec Placed) PlacedFault)
    (o : Result (List Lexeme) Refusal) → Gives bytes r → Outcome bytes o → Answers r o
gives_answers bytes (Ok v) o h k = one_outcome bytes o (Ok (views v.items)) k h
gives_answers bytes (Err e) o h k = go e.fault h
  where
    go : (f : GrammarFault) → FailsAt bytes e.at f → IsOutcome f o
    go (faults.Unfinished line) s = one_outcome bytes o (Err (refusal unfinished line)) k s.outcome
    go (faults.BadLiteral line) s = one_outcome bytes o (Err (refusal bad_literal line)) k s.outcome
    go (faults.Foreign line) s = one_outcome bytes o (Err (refusal foreign line)) k s.outcome
    go (faults.Syntax line) s = one_outcome bytes o (Err (refusal syntax line)) k s.outcome
    go faults.Memory s = tt
    go _ s = absurd s

pub gives_tree : (bytes : List ℕ) (r : Result (Vec Placed) PlacedFault) → Gives bytes r →
    IfOk r (λ v. HasOneTree (views v.items))
gives_tree bytes (Ok v) h =
    let s = outcome_spells bytes (views v.items) h in
    let (t, shaped, e) = tree_of (views v.items) s.derived in
    record {
      tree = t;
      shaped = shaped;
      yields = e;
      only = λ u k f. one_tree t u shaped k
          (sym e ∙ f);
    }
gives_tree bytes (Err e) h = tt
