use Rattle.std.specs.Option.{option_map_or}
use Rattle.std.specs.Str.{bytes_eq}
use Rattle.std.proofs.Common.{rules, ◌≡◌, ℕ, true, false, Bool, List, Option, Some, None}
use Rattle.std.proofs.Common.{codes, refl, sym, ap, ◌∙◌}
use Rattle.std.specs.Prelude.{option_map, unwrap_or}
use Rattle.std.specs.Borrow.{Bor}
use Rattle.clap.specs.Words.{is_simple}
use Rattle.clap.specs.Faults.{is_simple_and_free}
use Rattle.std.proofs.lemmas.Result.{err_from_is_err_and}
use Rattle.ygenerate.specs.Arguments.{yacc_app}
use Rattle.ygenerate.proofs.arguments.yacc_words.Goals as goal

is_plain : is_simple yacc_app ≡ true
unfolding yacc_app
is_plain = refl

is_free : is_simple_and_free yacc_app ≡ true
unfolding yacc_app
is_free = refl

unwrap_now : (o : Option (Bor (List ℕ))) (d r : Bor (List ℕ)) (t : Option (List ℕ)) (e : List ℕ) → r
    ≡ unwrap_or o d
    → option_map (λ (s : Bor (List ℕ)). s.now) o ≡ t → d.now ≡ e → r.now ≡ unwrap_or t e
unwrap_now None d r t e p q g =
    ap (λ (s : Bor (List ℕ)). s.now) p ∙ g ∙ ap (λ (x : Option (List ℕ)). unwrap_or x e) q
unwrap_now (Some s) d r t e p q g =
    ap (λ (s : Bor (List ℕ)). s.now) p ∙ ap (λ (x : Option (List ℕ)). unwrap_or x e) q

set_now : (o : Option (Bor (List ℕ))) (t : Option (List ℕ)) (b : Bool) → b
    ≡ option_map_or (λ (s : Bor (List ℕ)). bytes_eq s.now (codes "true")) o false
    → option_map (λ (s : Bor (List ℕ)). s.now) o ≡ t → b
    ≡ option_map_or (λ (s : List ℕ). bytes_eq s (codes "true")) t false
set_now None t b p q =
    p ∙ ap (λ (x : Option (List ℕ)). option_map_or (λ (s : List ℕ). bytes_eq s (codes "true")) x
    false) q
set_now (Some s) t b p q =
    p ∙ ap (λ (x : Option (List ℕ)). option_map_or (λ (s : List ℕ). bytes_eq s (codes "true")) x
    false) q

pub returns-clause-values : goal.returns-clause-values
returns-clause-values c =
    let reads = c.in_ok-matches.ensures.reads yacc_app c.yacc_command.ensures.app is_plain is_free
    in
    let found = reads.values in
    record {
      grammar = found (codes "grammar") ∙ sym c.get_str.ensures
          ∙ ap (option_map (λ (s : Bor (List ℕ)). s.now)) c.unwrap-grammar.ensures;
      prefix = unwrap_now c.get_str-2.result _ c.unwrap_or-prefix.result _
          (codes "y") c.unwrap_or-prefix.ensures
          (c.get_str-2.ensures ∙ sym (found (codes "prefix"))) (search rules);
      verbose = set_now c.get_str-3.result _ c.is_set-verbose.result c.is_set-verbose.ensures
          (c.get_str-3.ensures ∙ sym (found (codes "verbose")));
    }

pub returns-clause-faults : goal.returns-clause-faults
returns-clause-faults c =
    (c.in_ok-matches.ensures.reads yacc_app c.yacc_command.ensures.app is_plain is_free).faults

pub returns-in_err-matches-clause-faults : goal.returns-in_err-matches-clause-faults
returns-in_err-matches-clause-faults c =
    let is = err_from_is_err_and c.from_residual.result c.from_residual.ensures.1 in
    rw (is.1, is.2) (c.in_err-matches.ensures.reads yacc_app c.yacc_command.ensures.app is_plain
    is_free).faults

pub returns-in_err-matches-clause-taken : goal.returns-in_err-matches-clause-taken
returns-in_err-matches-clause-taken c =
    let is = err_from_is_err_and c.from_residual.result c.from_residual.ensures.1 in
    rw (is.1, is.2) (c.in_err-matches.ensures.reads yacc_app c.yacc_command.ensures.app is_plain
    is_free).taken
