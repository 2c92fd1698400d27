-- Tables of a grammar's bytes, and of the first bytes of a file.
use Rattle.std.proofs.Common.{ℕ, suc, ◌≡◌, ◌<◌, ◌≤◌, ◌↔◌, List, Result, Err}
use Rattle.std.proofs.Common.{length, take, subst, sym, ◌∙◌, inl, inr, arith}
use Rattle.std.proofs.Common.{length-take-le}
use Rattle.std.specs.Prelude.{IsErrOf}
use Rattle.std.proofs.lemmas.Bool.{cases_lt}
use Rattle.std.proofs.lemmas.List.{take_all}
use Rattle.ysymbols.specs.Grammar.{GrammarValue, longest_file}
use Rattle.ysyntax.specs.declared.fault.GrammarFault.{GrammarFault}
use Rattle.ysyntax.specs.declared.fault.GrammarFault.TheVariants as grammars
use Rattle.ygrammar.specs.GrammarOf.{IsFaultOf}
use Rattle.ytables.specs.Tables.{TablesValue as Tables}
use Rattle.ygenerate.specs.declared.source.SourceFault.{SourceFault}
use Rattle.ygenerate.specs.declared.source.SourceFault.TheVariants as faults
use Rattle.ygenerate.specs.Sources.{AreTablesOf, HasTables, NoTables, SourceFails}

-- ---- the first bytes decide

-- where the first n bytes and one more are at most n, they are all
front_all : (n : ℕ) (all : List ℕ) → length (take (suc n) all) ≤ n → take (suc n) all ≡ all
front_all n all few =
    elim (cases_lt (suc n) (length all)) [
      | inr h ↦ take_all (suc n) all h
      | inl h ↦
          let full : length (take (suc n) all) ≡ suc n = length-take-le (suc n) all (omega arith) in
          absurd (omega arith)
    ]

-- where they are more than n, all are
front_long : (n : ℕ) (all : List ℕ) → n < length (take (suc n) all) → n < length all
front_long n all many =
    elim (cases_lt (suc n) (length all)) [
      | inl h ↦ omega arith
      | inr h ↦ subst (λ (l : List ℕ). n < length l) (take_all (suc n) all h) many
    ]

-- as many bytes as decide
abbrev front : List ℕ → List ℕ
front all = take (suc longest_file) all

by_all : (P : List ℕ → Type 0) (all : List ℕ) → length (front all) ≤ longest_file → P (front all)
    → P all
by_all P all few p = subst P (front_all longest_file all few) p

-- tables of the first bytes are tables of all
tables_up : (t : Tables) (all : List ℕ) → AreTablesOf (front all) t → AreTablesOf all t
tables_up t all are = by_all (λ s. AreTablesOf s t) all are.grammar.1.short are

-- a fault of the first bytes is one of all
fault_up : (fault : GrammarFault) (all : List ℕ) → NoTables (front all) (faults.Grammar fault)
    → NoTables all (faults.Grammar fault)
fault_up grammars.TooLong all lacks = front_long longest_file all lacks
fault_up (grammars.Unfinished line) all lacks =
    by_all (λ s. IsFaultOf s (grammars.Unfinished line)) all lacks.0 lacks
fault_up (grammars.BadLiteral line) all lacks =
    by_all (λ s. IsFaultOf s (grammars.BadLiteral line)) all lacks.0 lacks
fault_up (grammars.Foreign line) all lacks =
    by_all (λ s. IsFaultOf s (grammars.Foreign line)) all lacks.0 lacks
fault_up (grammars.Syntax line) all lacks =
    by_all (λ s. IsFaultOf s (grammars.Syntax line)) all lacks.0 lacks
fault_up (grammars.TokenLeft line) all lacks =
    by_all (λ s. IsFaultOf s (grammars.TokenLeft line)) all lacks.1.short lacks
fault_up (grammars.Undefined line) all lacks =
    by_all (λ s. IsFaultOf s (grammars.Undefined line)) all lacks.1.short lacks
fault_up (grammars.TwicePrecedence line) all lacks =
    by_all (λ s. IsFaultOf s (grammars.TwicePrecedence line)) all lacks.1.short lacks
fault_up (grammars.BadNumber line) all lacks =
    by_all (λ s. IsFaultOf s (grammars.BadNumber line)) all lacks.1.short lacks
fault_up (grammars.BadStart line) all lacks =
    by_all (λ s. IsFaultOf s (grammars.BadStart line)) all lacks.1.short lacks
fault_up (grammars.Unproductive line) all lacks =
    by_all (λ s. IsFaultOf s (grammars.Unproductive line)) all lacks.1.short lacks
fault_up (grammars.BadPrec line) all lacks =
    by_all (λ s. IsFaultOf s (grammars.BadPrec line)) all lacks.1.short lacks
fault_up (grammars.Limit line) all lacks =
    by_all (λ s. IsFaultOf s (grammars.Limit line)) all lacks.1.short lacks
fault_up grammars.Memory all lacks = by_all (λ s. length s ≤ longest_file) all lacks lacks

-- where the first bytes have no tables, all bytes have none for the same reason
no_tables_up : (fault : SourceFault) (all : List ℕ) → NoTables (front all) fault
    → NoTables all fault
no_tables_up (faults.Grammar fault) all lacks = fault_up fault all lacks
no_tables_up (faults.Build fault) all lacks =
    by_all (λ s. NoTables s (faults.Build fault)) all lacks.1.1.short lacks
no_tables_up faults.Tables all lacks = by_all (λ s. NoTables s faults.Tables) all lacks.1.1.short lacks
no_tables_up faults.Unread all lacks = absurd lacks
no_tables_up faults.NoRoom all lacks = absurd lacks

-- ---- the bytes of a file

module _ {D : Type 0} (reads : D → List ℕ → List ℕ → D → Type 0)
    (unreadable : D → List ℕ → Type 0) (path : List ℕ) (old new : D) (bytes : List ℕ)
    (was : (all : List ℕ) × reads old path all new × (bytes ≡ front all)) where
  -- tables of the first bytes are tables of the file
  pub file_tables : (t : Tables) → AreTablesOf bytes t → HasTables reads path old new t
  file_tables t are =
      let (all, read, is) = was in record {
        source = all;
        read = read;
        are = tables_up t all (subst (λ (s : List ℕ). AreTablesOf s t) is are);
      }

  known : (fault : SourceFault) → NoTables bytes fault
      → (all : List ℕ) × reads old path all new × NoTables all fault
  known fault lacks =
      let (all, read, is) = was in
      (all, read, no_tables_up fault all (subst (λ (s : List ℕ). NoTables s fault) is lacks))

  -- where the first bytes have no tables, the file has none for the same reason
  pub file_fails : (fault : SourceFault) → NoTables bytes fault
      → SourceFails reads unreadable path old new fault
  file_fails faults.Unread lacks = absurd lacks
  file_fails faults.NoRoom lacks = absurd lacks
  file_fails (faults.Grammar fault) lacks = known (faults.Grammar fault) lacks
  file_fails (faults.Build fault) lacks = known (faults.Build fault) lacks
  file_fails faults.Tables lacks = known faults.Tables lacks

-- ---- a refused grammar file

-- the fault of a file is why it has no tables; a file that is too long has no other
pub refused_grammar : (source : List ℕ) (r : Result GrammarValue GrammarFault) (fault : GrammarFault)
    → r ≡ Err fault → (IsErrOf r grammars.TooLong ↔ (longest_file < length source))
    → IsFaultOf source fault → NoTables source (faults.Grammar fault)
refused_grammar source r grammars.Memory is long found =
    elim (cases_lt longest_file (length source)) [
      | inr h ↦ h
      | inl h ↦
          let bad : Err grammars.Memory ≡ Err grammars.TooLong = sym is ∙ long.1 h in cc
    ]
refused_grammar source r grammars.TooLong is long found = found
refused_grammar source r (grammars.Unfinished line) is long found = found
refused_grammar source r (grammars.BadLiteral line) is long found = found
refused_grammar source r (grammars.Foreign line) is long found = found
refused_grammar source r (grammars.Syntax line) is long found = found
refused_grammar source r (grammars.TokenLeft line) is long found = found
refused_grammar source r (grammars.Undefined line) is long found = found
refused_grammar source r (grammars.TwicePrecedence line) is long found = found
refused_grammar source r (grammars.BadNumber line) is long found = found
refused_grammar source r (grammars.BadStart line) is long found = found
refused_grammar source r (grammars.Unproductive line) is long found = found
refused_grammar source r (grammars.BadPrec line) is long found = found
refused_grammar source r (grammars.Limit line) is long found = found
