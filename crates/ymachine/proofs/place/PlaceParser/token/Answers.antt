use Rattle.std.proofs.Common.{◌≡◌, ℕ, Ok, ◌∷◌, [], false, sym, ap, subst, ◌∙◌}
use Rattle.std.specs.Prelude.{IfSome, is_some}
use Rattle.ysymbols.specs.Grammar.{GrammarValue}
use Rattle.ymachine.specs.Content.{Place}
use Rattle.ymachine.specs.MachineOver.{machine_over}
use Rattle.ytokens.specs.Reading.{TokensOf}
use Rattle.ymachine.proofs.Spellings.{spelled}
use Rattle.ymachine.proofs.place.PlaceParser.token.Goals as goal

pub returns : goal.returns
unfolding machine_over
returns c =
    let bytes = c.args.bytes.now in
    let o = c.only_token.result in
    let same : c.grammar_of.result.now ≡ c.args.self.now.tables.built.grammar =
    c.grammar_of.ensures ∙ ap (λ (p : Place). p.tables.built.grammar) c.self.view_is in
    let found = subst (λ (v : GrammarValue). IfSome o (λ x. TokensOf v bytes (Ok (x ∷ [])))) same
    c.only_token.ensures.found in
    let none = subst (λ (v : GrammarValue). is_some o ≡ false → (x : ℕ)
    → TokensOf v bytes (Ok (x ∷ [])) → ⊥) same c.only_token.ensures.none in
    let s = spelled (machine_over c.args.self.now.tables) bytes o (sym c.has_blank_end.ensures
    ∙ c.if-has_blank_end.false) found none in
    record { spells = s.0; input = s.1 }
