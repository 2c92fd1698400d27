-- Rules by number.
use Rattle.std.specs.Prelude.{ℕ, ◌&&◌, nat_le, nat_lt, fold, Bool, List, [], ◌∷◌, length, map}
use Rattle.std.specs.Prelude.{Option, Some, None, if◌then◌else◌}
use Rattle.ysymbols.specs.declared.precedence.Precedence.{Precedence}
use Rattle.ydeclarations.specs.Elaboration.{Rule, body_from, final_of, numbered_rule, precedence_at}
use Rattle.ysymbols.specs.Grammar.{RuleValue, longest_body}
use Rattle.ysymbols.specs.Names.{Name, number_in}
use Rattle.ydeclarations.specs.Printed.{printed_name}
use Rattle.ysyntax.specs.Tree.{RuleText, Identifier}

-- the next number of an inner action after rules of the file, from k on
abbrev pub inner_after : ℕ → List RuleText → ℕ
inner_after k [] = k
inner_after k (c ∷ cs) = inner_after (body_from k (final_of c.last c.body).0).next cs

-- the last token of a body, where there are so many tokens
abbrev pub last_token : ℕ → List ℕ → Option ℕ
last_token tokens body = fold (λ last s. if nat_lt s tokens then Some s else last) None body

-- the token whose precedence a rule has
abbrev pub chosen_token : List Name → ℕ → Option Identifier → List ℕ → Option ℕ
chosen_token ns tokens (Some i) body = Some (number_in ns (printed_name i))
chosen_token ns tokens None body = last_token tokens body

-- the precedence of a rule; given are those of the tokens by number
abbrev pub rule_precedence : List Name → List (Option Precedence) → Rule → Option Precedence
rule_precedence ns given r = precedence_at given
    (chosen_token ns (length given) r.prec (map (number_in ns) r.body))

-- what the rule of an inner action is by number: it has no precedence
abbrev pub inner_numbers : List Name → Rule → RuleValue
inner_numbers ns r = record { production = numbered_rule ns r; precedence = None }

-- what a rule of the file is by number
abbrev pub rule_numbers : List Name → List (Option Precedence) → Rule → RuleValue
rule_numbers ns given r = record {
  production = numbered_rule ns r;
  precedence = rule_precedence ns given r;
}

-- the number is one from a bound on, below another
abbrev pub is_between : ℕ → ℕ → ℕ → Bool
is_between low high n = nat_le low n && nat_lt n high

-- the body is longer than the limit
abbrev pub is_long : RuleValue → Bool
is_long r = nat_lt longest_body (length r.production.body)
