use Rattle.std.proofs.Common.{◌≡◌, ◌≤◌, ◌∙◌, ap, sym, subst, length, List, Option, ℕ}
use Rattle.std.proofs.Common.{rules}
use Rattle.ygrammar.specs.declared.holders.Holders.{Holders}
use Rattle.ydeclarations.specs.Elaboration.{symbols}
use Rattle.ysymbols.specs.Grammar.{GrammarValue, RuleValue, number_bound}
use Rattle.ysymbols.specs.Marking.{AreIn}
use Rattle.ygrammar.specs.Meaning.{IsMeaning}
use Rattle.ygrammar.specs.Numbers.{AreHolders, AreNumbers}
use Rattle.ygrammar.proofs.MeaningSteps.{few_tokens, meaning_of, some_rules, whole_of}
use Rattle.ygrammar.proofs.elaboration.Named.grammar_of.Goals as goal

pub numbers-requires-clause-held : goal.numbers-requires-clause-held
numbers-requires-clause-held c =
    let (t, r) = c.requires in
    let hs = c.args.named.own.holders.items in
    subst (λ (xs : List Holders). AreHolders (length xs) c.deref.result.now xs)
    (sym c.deref-2.ensures.value)
    (subst (λ (xs : List (Option ℕ)). AreHolders (length hs) xs hs)
    (sym (c.deref.ensures.value ∙ r.named.own.numbers)) r.named.own.holders)

pub numbers-requires-clause-bound : goal.numbers-requires-clause-bound
numbers-requires-clause-bound c =
    let (t, r) = c.requires in
    subst (λ (xs : List Holders). length xs ≤ number_bound) (sym c.deref-2.ensures.value)
    r.named.own.few

pub numbers-requires-clause-few : goal.numbers-requires-clause-few
numbers-requires-clause-few c =
    let (t, r) = c.requires in
    few_tokens t c.deref.result.now r.sound (c.deref.ensures.value ∙ r.named.own.numbers)

pub reachable-requires-clause-some : goal.reachable-requires-clause-some
reachable-requires-clause-some c =
    let (t, r) = c.requires in
    some_rules t c.deref-3.result.now (c.deref-3.ensures.value ∙ r.numbered)

pub of-requires : goal.of-requires
of-requires c =
    let (t, r) = c.requires in
    let n : AreNumbers c.args.named.own.numbers.items c.in_ok-numbers.numbers.items =
    subst (λ (x : List (Option ℕ)). AreNumbers x c.in_ok-numbers.numbers.items)
    c.deref.ensures.value c.in_ok-numbers.ensures in
    let m : length c.in_ok-reachable.reachable.items ≡ c.len.result = search rules in
    whole_of t c.args.named c.args.rules.items c.args.texts.texts c.in_ok-numbers.numbers.items
    c.in_ok-reachable.reachable.items r n
    (m ∙ c.len.ensures)

pub reachable-requires-clause-in_range : goal.reachable-requires-clause-in_range
reachable-requires-clause-in_range c =
    let (t, r) = c.requires in
    let n : c.len.result ≡ length (symbols t) = c.len.ensures ∙ ap (λ (x : List (List ℕ)). length x)
    r.named.names in
    subst (λ (vs : List RuleValue). AreIn c.len.result vs) (sym c.deref-3.ensures.value)
    (subst (λ k. AreIn k c.args.rules.items) (sym n) r.in_range)

pub returns-clause-means : goal.returns-clause-means
returns-clause-means c = λ t r.
    let n : AreNumbers c.args.named.own.numbers.items c.in_ok-numbers.numbers.items =
    subst (λ (x : List (Option ℕ)). AreNumbers x c.in_ok-numbers.numbers.items)
    c.deref.ensures.value c.in_ok-numbers.ensures in
    let m : length c.in_ok-reachable.reachable.items ≡ c.len.result = search rules in
    subst (λ (g : GrammarValue). IsMeaning t g) (sym c.of.ensures)
    (meaning_of t c.args.named c.args.rules.items c.deref-3.result.now c.args.texts.texts
    c.in_ok-numbers.numbers.items c.in_ok-reachable.reachable.items c.len.result r n m
    c.len.ensures c.deref-3.ensures.value
    (λ s l. c.in_ok-reachable.ensures.exact c.args.named.tokens s l))
