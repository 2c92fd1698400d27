-- From the parts of a grammar to what a tree means.
use Rattle.std.proofs.Common.{ℕ, ◌≡◌, ◌<◌, ◌≤◌, ◌↔◌, Bool, true, false, Err, List, [], ◌∷◌, map}
use Rattle.std.proofs.Common.{length, Option, refl, sym, ◌∙◌, ◌⊎◌, ap, subst, get_or, inl, inr}
use Rattle.std.proofs.Common.{arith}
use Rattle.std.proofs.lemmas.List.{length-map}
use Rattle.std.proofs.lemmas.List.Elements.{All-get_or}
use Rattle.ygrammar.specs.declared.elaboration.Named.{Named}
use Rattle.ydeclarations.specs.declared.outline.Outline.{Outline}
use Rattle.ysyntax.specs.declared.tree.RuleText.{RuleText as CodeRuleText}
use Rattle.ysyntax.specs.declared.tree.Tree.{Tree as CodeTree}
use Rattle.ydeclarations.specs.Outline.{Outlines, start_view}
use Rattle.ysyntax.specs.TreeViews.{rule_text_view, name_view, tree_view}
use Rattle.ysymbols.proofs.NameSteps.{false_true}
use Rattle.ydeclarations.specs.declared.mistake.Mistake.TheVariants.{BadStart, Undefined}
use Rattle.ydeclarations.specs.declared.mistake.Mistake.TheVariants.{Unproductive}
use Rattle.ydeclarations.specs.declared.mistake.Refused.{Refused}
use Rattle.ydeclarations.specs.declared.mistake.Refused.TheVariants as refused
use Rattle.ysymbols.specs.declared.precedence.Precedence.{Precedence}
use Rattle.ygrammar.specs.Elaborated.{AreNamed, Fruitful, IsReady}
use Rattle.ydeclarations.specs.Elaboration.{HavePrecedences, Rule, bare_of, first_rule, lefts}
use Rattle.ydeclarations.specs.Elaboration.{numbered_rule}
use Rattle.ydeclarations.specs.Elaboration.{own_number, own_numbers, token_precedence, rules}
use Rattle.ydeclarations.specs.Elaboration.{rules_from, starts, symbols, token_precedences, tokens}
use Rattle.ysymbols.specs.Forms.{IsReachable, Productive}
use Rattle.ysymbols.specs.Grammar.{ContextFree, Production, RuleValue, blank, precedence_of}
use Rattle.ysymbols.specs.Grammar.{most_symbols, production_of}
use Rattle.ysymbols.specs.Marking.{AreIn, IsMarked, RuleIn, numbered_grammar, rule_at}
use Rattle.ygrammar.specs.Meaning.{IsMeaning}
use Rattle.ydeclarations.specs.Mistakes.{HasNone, Holds, order}
use Rattle.ysymbols.specs.Names.{Name}
use Rattle.ysymbols.specs.NameTexts.{value_of}
use Rattle.ygrammar.specs.Numbered.{rule_numbers, rule_precedence}
use Rattle.ygrammar.specs.Numbers.{AreNumbers}
use Rattle.ydeclarations.specs.Owned.{Refuses}
use Rattle.ygrammar.specs.Texts.{kept_text}
use Rattle.ysyntax.specs.Tree.{RuleText, Identifier, IsTree, Tree}
use Rattle.ysymbols.specs.WellFormed.{IsWhole, StandOnce, WellFormed}
use Rattle.ygrammar.proofs.LastTokens.{have_precedences}
use Rattle.ygrammar.proofs.Once.{end_name, error_name, numbers_once, symbols_once}
use Rattle.ygrammar.proofs.Wellness.{in_range, tokens_within}

rules_bare : (ns : List Name) (given : List (Option Precedence)) (rs : List Rule) →
    map production_of (map (rule_numbers ns given) rs) ≡ map (numbered_rule ns) rs
rules_bare ns given [] = refl
rules_bare ns given (r ∷ rs) = ap (λ (ps : List Production). numbered_rule ns r ∷ ps)
    (rules_bare ns given rs)

rules_chosen : (ns : List Name) (given : List (Option Precedence)) (rs : List Rule) →
    map precedence_of (map (rule_numbers ns given) rs) ≡ map (rule_precedence ns given) rs
rules_chosen ns given [] = refl
rules_chosen ns given (r ∷ rs) = ap (λ (ps : List (Option Precedence)). rule_precedence ns given r ∷
    ps) (rules_chosen ns given rs)

bare_from : ℕ → ℕ → List Production → ContextFree
bare_from k n ps = record { tokens = k; symbols = n; rules = ps }

-- the bare grammar of the numbered rules is that of the tree, whatever precedences are given
pub bare_given : (t : Tree) (given : List (Option Precedence)) (k n : ℕ) (vs : List RuleValue) →
    k ≡ length (tokens t) → n ≡ length (symbols t) →
    vs ≡ map (rule_numbers (symbols t) given) (rules t) → numbered_grammar k n vs ≡ bare_of t
unfolding bare_from
bare_given t given k n vs e f g =
    ap (λ j. bare_from j n (map production_of vs)) e
    ∙ ap (λ j. bare_from (length (tokens t)) j (map production_of vs)) f
    ∙ ap (λ (ps : List Production). bare_from (length (tokens t)) (length (symbols t)) ps)
    (ap (λ (xs : List RuleValue). map production_of xs) g ∙ rules_bare (symbols t) given (rules t))

pub bare_same : (t : Tree) (k n : ℕ) (vs : List RuleValue) → k ≡ length (tokens t) →
    n ≡ length (symbols t) → vs ≡ map (rule_numbers (symbols t) (token_precedences t)) (rules t) →
    numbered_grammar k n vs ≡ bare_of t
bare_same t = bare_given t (token_precedences t)

-- the symbols of every rule are in range
pub in_bare : (t : Tree) (k n : ℕ) (vs : List RuleValue) → IsTree t → (Holds t Undefined → ⊥) →
    (Holds t BadStart → ⊥) → n ≡ length (symbols t) → numbered_grammar k n vs ≡ bare_of t →
    AreIn n vs
in_bare t k n vs s u b f q r h =
    let l : r < length (bare_of t).rules = subst (λ (x : ContextFree). r < length x.rules) q
    (subst (λ j. r < j) (sym (length-map vs production_of)) h) in
    let i = in_range t s u b r l in
    let w : RuleIn (length (symbols t)) (get_or (bare_of t).rules r blank) =
    record {
      left = i.left;
      body = λ k m. All-get_or (λ s. s < length (symbols t))
          (get_or (bare_of t).rules r blank).body k 0 m i.body;
    } in
    subst (λ j. RuleIn j (rule_at vs r)) (sym f)
    (subst (λ (x : ContextFree). RuleIn (length (symbols t)) (get_or x.rules r blank))
    (sym q) w)

pub are_in : (t : Tree) (k n : ℕ) (vs : List RuleValue) → IsTree t → (Holds t Undefined → ⊥) →
    (Holds t BadStart → ⊥) → k ≡ length (tokens t) → n ≡ length (symbols t) →
    vs ≡ map (rule_numbers (symbols t) (token_precedences t)) (rules t) → AreIn n vs
are_in t k n vs s u b e f g = in_bare t k n vs s u b f (bare_same t k n vs e f g)

-- what is found of a bare grammar is found of the tree
pub unproductive : (t : Tree) (e : Refused) (g : ContextFree) → g ≡ bare_of t →
    Fruitful {A = Unit {0}} g (Err e) → Refuses t Unproductive e
unproductive t (refused.Mistake what at) g q (w, (s, a, b, c)) = (
  w,
  (
    s,
    subst (λ (x : ContextFree). x.tokens ≤ s) q a,
    subst (λ (x : ContextFree). s < x.symbols) q b,
    λ p. c (subst (λ (x : ContextFree). Productive x s) (sym q) p),
  ),
)
unproductive t refused.Memory g q p = tt

-- a symbol after the tokens that isn't marked
pub barren_holds : (t : Tree) (g : ContextFree) (marks : List Bool) (s : ℕ) → g ≡ bare_of t →
    ((k : ℕ) → k < g.symbols → (IsMarked marks k ↔ Productive g k)) → g.tokens ≤ s →
    s < g.symbols → get_or marks s false ≡ false → Holds t Unproductive
barren_holds t g marks s q exact low high off = (
  s,
  subst (λ (x : ContextFree). x.tokens ≤ s) q low,
  subst (λ (x : ContextFree). s < x.symbols) q high,
  λ p. false_true (sym off ∙ (exact s high).1
      (subst (λ (x : ContextFree). Productive x s) (sym q) p)),
)

pub all_productive : (t : Tree) (g : ContextFree) → g ≡ bare_of t →
    ((s : ℕ) → g.tokens ≤ s → s < g.symbols → Productive g s) → (s : ℕ) → length (tokens t) ≤ s →
    s < length (symbols t) → Productive (bare_of t) s
all_productive t g q h = subst (λ (x : ContextFree). (s : ℕ) → x.tokens ≤ s → s < x.symbols →
    Productive x s) q h

-- the rules by number are those of the tree, whatever precedences are given
rules_given : (t : Tree) (ns : List Name) (given : List (Option Precedence))
    (is : List Identifier) (ls : List Name) (cs : List RuleText) (vs : List RuleValue) →
    ns ≡ symbols t → is ≡ starts t → ls ≡ lefts t → cs ≡ t.rule_texts →
    vs ≡ map (rule_numbers ns given) (first_rule is ls ∷ rules_from [] 1 cs) →
    vs ≡ map (rule_numbers (symbols t) given) (rules t)
rules_given t ns given is ls cs vs a c d e h =
    h
    ∙ ap (λ (x : List Name). map (rule_numbers x given) (first_rule is ls ∷ rules_from [] 1 cs)) a
    ∙ ap (λ (x : List Identifier). map (rule_numbers (symbols t) given)
    (first_rule x ls ∷ rules_from [] 1 cs)) c
    ∙ ap (λ (x : List Name). map (rule_numbers (symbols t) given)
    (first_rule (starts t) x ∷ rules_from [] 1 cs)) d
    ∙ ap (λ (x : List RuleText). map (rule_numbers (symbols t) given)
    (first_rule (starts t) (lefts t) ∷ rules_from [] 1 x)) e

-- the rules that are numbered are those of the tree
pub numbered_rules : (tree : CodeTree) (n : Named) (o : Outline)
    (given : List (Option Precedence)) (cs : List CodeRuleText) (vs : List RuleValue) →
    AreNamed (tree_view tree) n → Outlines o (tree_view tree) → given ≡ n.given.items →
    cs ≡ tree.rule_texts.items → vs ≡ map (rule_numbers n.names given)
    (first_rule (map start_view o.starts.items) (map name_view o.lefts.items) ∷ rules_from [] 1
    (map rule_text_view cs)) → vs ≡ map (rule_numbers (symbols (tree_view tree))
    (token_precedences (tree_view tree))) (rules (tree_view tree))
numbered_rules tree n o given cs vs a b g e h = rules_given (tree_view tree) n.names given
    (map start_view o.starts.items) (map name_view o.lefts.items) (map rule_text_view cs) vs a.names
    b.starts b.lefts (ap (λ (xs : List CodeRuleText). map rule_text_view xs) e) h
    ∙ ap (λ (x : List (Option Precedence)). map (rule_numbers (symbols (tree_view tree)) x)
    (rules (tree_view tree))) (g ∙ a.given)

-- and so is their bare grammar, whatever precedences are given
pub numbered_bare : (tree : CodeTree) (ns : List Name) (k n : ℕ) (o : Outline)
    (given : List (Option Precedence)) (cs : List CodeRuleText) (vs ws : List RuleValue) →
    ns ≡ symbols (tree_view tree) → k ≡ length (tokens (tree_view tree)) →
    n ≡ length (symbols (tree_view tree)) → Outlines o (tree_view tree) →
    cs ≡ tree.rule_texts.items → vs ≡ map (rule_numbers ns given)
    (first_rule (map start_view o.starts.items) (map name_view o.lefts.items) ∷ rules_from [] 1
    (map rule_text_view cs)) → ws ≡ vs → numbered_grammar k n ws ≡ bare_of (tree_view tree)
numbered_bare tree ns k n o given cs vs ws a b d e f h w =
    bare_given (tree_view tree) given k n ws b d (w ∙ rules_given (tree_view tree) ns given
    (map start_view o.starts.items) (map name_view o.lefts.items) (map rule_text_view cs) vs a
    e.starts e.lefts (ap (λ (xs : List CodeRuleText). map rule_text_view xs) f) h)

-- as many names as symbols
pub symbols_counted : (t : Tree) (n : Named) (count : ℕ) → AreNamed t n →
    count ≡ length n.names → count ≡ length (symbols t)
symbols_counted t n count a e = e ∙ ap (λ (x : List Name). length x) a.names

-- no more tokens than the limit of symbols
pub few_tokens : (t : Tree) (own : List (Option ℕ)) → HasNone t order → own ≡ own_numbers t →
    length own ≤ most_symbols
few_tokens t own none e =
    let a : length own ≡ length (tokens t) = ap (λ (x : List (Option ℕ)). length x) e ∙ length-map
    (tokens t) (own_number t) in
    let b : length (tokens t) ≤ length (symbols t) = tokens_within t in
    let d : length (symbols t) ≤ most_symbols =
    not_more (length (symbols t)) (λ l. none.1.1.1.1.1.1.1.0 (inl l)) in
    omega (arith, a, b, d)
  where
    more_or : (n : ℕ) → (most_symbols < n) ⊎ (n ≤ most_symbols)
    more_or n = grind (arith)

    not_more : (n : ℕ) → (most_symbols < n → ⊥) → n ≤ most_symbols
    not_more n h = elim (more_or n) [ inl l ↦ absurd (h l) | inr l ↦ l ]

-- there is a first rule
pub some_rules : (t : Tree) (vs : List RuleValue) → vs ≡ map (rule_numbers (symbols t)
    (token_precedences t)) (rules t) → 0 < length vs
some_rules t vs e = subst (λ (xs : List RuleValue). 0 < length xs) (sym e) (omega arith)

-- the lists of a grammar have each number
pub whole_of : (t : Tree) (n : Named) (vs : List RuleValue) (ts : List (Option (List ℕ)))
    (numbers : List ℕ) (marks : List Bool) → IsReady t n vs ts → AreNumbers n.own.numbers.items
    numbers → length marks ≡ length n.names →
    IsWhole (value_of n.names n.tokens numbers n.given.items vs ts marks)
whole_of t n vs ts numbers marks r a b = record {
  bare = subst WellFormed (sym (bare_same t n.tokens (length n.names) vs
      r.named.tokens_first (ap (λ (x : List Name). length x) r.named.names) r.numbered))
      r.well_formed;
  names = refl;
  numbers = a.each ∙ ap (λ (x : List (Option ℕ)). length x) r.named.own.numbers ∙ length-map
      (tokens t) (own_number t) ∙ sym r.named.tokens_first;
  token_precedences = ap (λ (x : List (Option Precedence)). length x) r.named.given ∙ length-map
      (tokens t) (token_precedence t) ∙ sym r.named.tokens_first;
  rule_precedences = length-map vs precedence_of ∙ sym (length-map vs production_of);
  texts = ap (λ (x : List (Option (List ℕ))). length x) r.texts ∙ length-map (rules t) kept_text ∙
      sym (length-map (rules t) (rule_numbers (symbols t) (token_precedences t))) ∙ ap
      (λ (x : List RuleValue). length x) (sym r.numbered) ∙ sym (length-map vs production_of);
  reachable = b;
  end = ap (λ (x : List Name). get_or x 0 []) r.named.names ∙ end_name t;
  error = ap (λ (x : List Name). get_or x 1 []) r.named.names ∙ error_name t;
  names_once = subst StandOnce (sym r.named.names) (symbols_once t);
  numbers_once = numbers_once t n.own.numbers.items numbers r.sound r.named.own.numbers a;
}

-- the parts are the meaning of the tree
pub meaning_of : (t : Tree) (n : Named) (vs ws : List RuleValue) (ts : List (Option (List ℕ)))
    (numbers : List ℕ) (marks : List Bool) (k : ℕ) → IsReady t n vs ts →
    AreNumbers n.own.numbers.items numbers → length marks ≡ k → k ≡ length n.names →
    ws ≡ vs → ((s : ℕ) → s < k → (get_or marks s false ≡ true) ↔ IsReachable
    (numbered_grammar n.tokens k ws) s) →
    IsMeaning t (value_of n.names n.tokens numbers n.given.items vs ts marks)
meaning_of t n vs ws ts numbers marks k r a b e w h =
    let l : k ≡ length (symbols t) = e ∙ ap (λ (x : List Name). length x) r.named.names in
    let g : numbered_grammar n.tokens k ws ≡ bare_of t =
    bare_same t n.tokens k ws r.named.tokens_first l (w ∙ r.numbered) in
    record {
      sound = r.sound;
      bare = bare_same t n.tokens (length n.names) vs r.named.tokens_first
          (ap (λ (x : List Name). length x) r.named.names) r.numbered;
      names = r.named.names;
      numbers = subst (λ (x : List (Option ℕ)). AreNumbers x numbers) r.named.own.numbers a;
      precedences = r.named.given;
      of_rules = subst (HavePrecedences (symbols t) (token_precedences t) (rules t))
          (sym (ap (λ (x : List RuleValue). map precedence_of x) r.numbered ∙ rules_chosen
          (symbols t) (token_precedences t) (rules t)))
          (have_precedences (symbols t) (token_precedences t) (rules t));
      texts = r.texts;
      reachable = record {
        each = b ∙ l;
        exact = λ s m. subst (λ (x : ContextFree). (get_or marks s false ≡ true) ↔ IsReachable x s)
            g (h s (subst (λ j. s < j) (sym l) m));
      };
    }

pub none_barren : (t : Tree) → ((s : ℕ) → length (tokens t) ≤ s → s < length (symbols t) →
    Productive (bare_of t) s) → Holds t Unproductive → ⊥
none_barren t all (s, a, b, p) = p (all s a b)
