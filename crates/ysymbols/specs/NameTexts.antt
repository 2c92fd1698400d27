-- The names of a table, in order, and the value of a grammar of the code's parts.
use Rattle.std.specs.Prelude.{◌≡◌, ℕ, Bool, List, length, map, Option}
use Rattle.std.specs.HashMap.{HashMap, get_by}
use Rattle.std.specs.Str.{bytes_eq}
use Rattle.ysymbols.specs.declared.precedence.Precedence.{Precedence}
use Rattle.ysymbols.specs.Grammar.{GrammarValue, RuleValue, precedence_of, production_of}
use Rattle.ysymbols.specs.Names.{find_in}
use Rattle.std.specs.Global.{Vec}

abbrev pub texts_of : List (Vec ℕ) → List (List ℕ)
texts_of vs = map (λ v. v.items) vs

-- the map has the number of each of the names, and no other name
abbrev pub IsNumbered : {S : Type 0} → List (List ℕ) → HashMap (Vec ℕ) ℕ S → Type 0
IsNumbered ns m = (q : List ℕ) → get_by (λ k. bytes_eq q k.items) m ≡ find_in ns q

-- the value of a grammar of these parts
abbrev pub value_of : List (List ℕ) → ℕ → List ℕ → List (Option Precedence) → List RuleValue →
    List (Option (List ℕ)) → List Bool → GrammarValue
value_of names tokens numbers precedences rules kept reachable = record {
  bare = record {
    tokens = tokens;
    symbols = length names;
    rules = map production_of rules;
  };
  names = names;
  numbers = numbers;
  token_precedences = precedences;
  rule_precedences = map precedence_of rules;
  texts = kept;
  reachable = reachable;
}
