-- Where a nonterminal derives no list of tokens, a left side of the file derives none.
use Rattle.std.proofs.Common.{ℕ, zero, suc, ◌≡◌, ◌<◌, ◌≤◌, ◌⊎◌, inl, inr, Bool, true, false, ◌||◌}
use Rattle.std.proofs.Common.{List, [], ◌∷◌, map, length, get_or, codes, append-nil, arith}
use Rattle.std.proofs.Common.{refl, sym, ap, subst, ◌∙◌}
use Rattle.std.specs.List.{flat_map, All, AllByRecursion}
use Rattle.std.specs.Str.{bytes_eq}
use Rattle.std.specs.Cmp.Lexicographic.{same_text}
use Rattle.std.proofs.lemmas.List.{length-map}
use Rattle.std.proofs.lemmas.List.Elements.{All-cons, All-from_get_or, All-nil, recursion_from_All}
use Rattle.ysymbols.specs.Derivation.{Derives}
use Rattle.ysymbols.specs.Forms.{IsRule, Productive}
use Rattle.ysymbols.specs.Grammar.{Production, blank}
use Rattle.ysymbols.specs.Names.{Name, is_among, number_in}
use Rattle.ysymbols.proofs.Derivations.{replaced, token_productive, trans, words}
use Rattle.ysymbols.proofs.NameSteps.{among_all, among_number, false_true, number_among}
use Rattle.ydeclarations.specs.declared.mistake.Mistake.TheVariants.{BadStart, Unproductive}
use Rattle.ydeclarations.specs.Elaboration.{Rule, bare_of, body_from, final_of, first_rule}
use Rattle.ydeclarations.specs.Elaboration.{is_nonterminal, is_token, left_of_rule, lefts}
use Rattle.ydeclarations.specs.Elaboration.{numbered_rule, or_else, rule_left, rules, rules_from}
use Rattle.ydeclarations.specs.Elaboration.{start_symbol, starts, symbols, tokens}
use Rattle.ydeclarations.specs.Mistakes.{Holds}
use Rattle.ydeclarations.specs.Places.{IsBarren}
use Rattle.ydeclarations.specs.Printed.{printed_name}
use Rattle.ydeclarations.proofs.GivenTables.{distinct_tokens}
use Rattle.ydeclarations.proofs.TellingSteps.{other_name}
use Rattle.ydeclarations.proofs.TokenSteps.{distinct_all, noted_behind, number_stays, token_among}
use Rattle.ysyntax.specs.Sites.{left_side}
use Rattle.ysyntax.specs.Tree.{BodyPart, IsTree, RuleText, Tree, action, symbol}
use Rattle.ygrammar.proofs.SymbolNames.{IsNamed, each_join, each_right}
use Rattle.ygrammar.proofs.Wellness.{FirstLeft, Ordinary, appeared, each_both, end_number}
use Rattle.ygrammar.proofs.Wellness.{lefts_among, lefts_back, next_passes, nonterminal_parts}
use Rattle.ygrammar.proofs.Wellness.{some_lefts, start_passes, starts_nonterminal, starts_ordinary}
use Rattle.ygrammar.proofs.Wellness.{top_passes, two_tokens}

-- a rule by number is the number of the rule
at_rule : (ns : List Name) (rs : List Rule) (d : Rule) (k : ℕ) → k < length rs →
    get_or (map (numbered_rule ns) rs) k blank ≡ numbered_rule ns (get_or rs k d)
at_rule ns [] d k h = absurd (omega (arith, h))
at_rule ns (r ∷ rs) d zero h = refl
at_rule ns (r ∷ rs) d (suc k) h = at_rule ns rs d k (omega (arith, h))

-- what holds of each of the names holds of one among them
at_name : (P : Name → Type 0) (ns : List Name) (n : Name) → AllByRecursion P ns →
    is_among ns n ≡ true → P n
at_name P [] n a h = absurd (false_true h)
at_name P (m ∷ ns) n a h = go (bytes_eq n m) refl h (at_name P ns n a.1)
  where
    go : (b : Bool) → bytes_eq n m ≡ b → (b || is_among ns n) ≡ true →
        (is_among ns n ≡ true → P n) → P n
    go true e q again = subst P (sym (same_text n m (sym e))) a.0
    go false e q again = again q

each_left_name : (P : Name → Type 0) (rs : List Rule) → AllByRecursion (λ r. P r.left) rs →
    AllByRecursion P (map rule_left rs)
each_left_name P [] a = tt
each_left_name P (r ∷ rs) a = (a.0, each_left_name P rs a.1)

module _ (t : Tree) where
  abbrev number : Name → ℕ
  number n = number_in (symbols t) n

  -- it can't be that the name derives no list of tokens
  abbrev Fine : Name → Type 0
  Fine n = (Productive (bare_of t) (number n) → ⊥) → ⊥

  abbrev Stands : Rule → Type 0
  Stands r = IsRule (bare_of t) (number r.left) (map (number_in (symbols t)) r.body)

  stand : AllByRecursion Stands (rules t)
  stand = recursion_from_All Stands (rules t) (All-from_get_or Stands (rules t) first one)
    where
      first : Rule
      first = first_rule (starts t) (lefts t)

      one : (k : ℕ) → k < length (rules t) → Stands (get_or (rules t) k first)
      one k h = record {
        number = k;
        within = subst (λ n. k < n) (sym (length-map (rules t) (numbered_rule (symbols t)))) h;
        left = ap (λ (p : Production). p.left) (sym (at_rule (symbols t) (rules t) first k h));
        body = ap (λ (p : Production). p.body) (sym (at_rule (symbols t) (rules t) first k h));
      }

  -- a rule all symbols of whose body derive lists of tokens
  derives : (s : ℕ) (b : List ℕ) → IsRule (bare_of t) s b → All (Productive (bare_of t)) b →
      Productive (bare_of t) s
  derives s b r a =
      let g = bare_of t in
      let w = words g b a in
      record {
        word = w.word;
        tokens = w.tokens;
        derives = trans (subst (Derives (IsRule g) (s ∷ [])) (append-nil b)
            (replaced s b [] [] r)) w.derives;
      }

  -- its body is empty, or its left side is fine
  abbrev Good : Rule → Type 0
  Good r = (r.body ≡ []) ⊎ Fine r.left

  inner_good : (k : ℕ) (xs : List BodyPart) → AllByRecursion Good (body_from k xs).inner
  inner_good k [] = tt
  inner_good k (symbol i ∷ xs) = inner_good k xs
  inner_good k (action x ∷ xs) = (inl refl, inner_good (suc k) xs)

  rules_good : (before : Name) (k : ℕ) (cs : List RuleText) → FirstLeft Fine before cs →
      AllByRecursion Fine (flat_map left_of_rule cs) → AllByRecursion Good (rules_from before k cs)
  rules_good before k [] q h = tt
  rules_good before k (c ∷ cs) q h =
      let items : List BodyPart = (final_of c.last c.body).0 in
      let rest = each_right Fine (left_of_rule c) (flat_map left_of_rule cs) h in
      each_join Good (body_from k items).inner _ (inner_good k items) (
        inr q,
        rules_good (or_else c.left before) (body_from k items).next cs
            (next_passes Fine (or_else c.left before) cs q rest) rest,
      )

  fine_rule : (r : Rule) → Stands r → Good r → Fine r.left
  fine_rule r s (inr f) never = f never
  fine_rule r s (inl e) never = never (derives (number r.left) []
      (subst (λ (b : List Name). IsRule (bare_of t) (number r.left) (map (number_in (symbols t)) b))
      e s) (All-nil (Productive (bare_of t))))

  module _ (shaped : IsTree t) (named : IsNamed t) (start : Holds t BadStart → ⊥)
      (none : AllByRecursion (λ n. IsBarren t (left_side n) → ⊥) (lefts t)) where
    fine_lefts : AllByRecursion Fine (lefts t)
    fine_lefts = each_both (λ n. is_among (symbols t) n ≡ true)
        (λ n. IsBarren t (left_side n) → ⊥) Fine
        (λ n a h never. h (among_number (symbols t) n a, never)) (lefts t)
        (lefts_back (λ n. is_among (symbols t) n ≡ true) [] 1 t.rule_texts (lefts_among t).1) none

    later : AllByRecursion Fine (map rule_left (rules_from [] 1 t.rule_texts))
    later = each_left_name Fine (rules_from [] 1 t.rule_texts) (each_both Stands Good
        (λ r. Fine r.left) fine_rule (rules_from [] 1 t.rule_texts) stand.1
        (rules_good [] 1 t.rule_texts
        (top_passes Fine t.rule_texts shaped.first fine_lefts) fine_lefts))

    -- a symbol that is no token is the left side of a rule
    is_left : (n : Name) → is_among (symbols t) n ≡ true → is_token t n ≡ false →
        is_among (map rule_left (rules t)) n ≡ true
    is_left n a f =
        sym (ap (λ b. b || is_among (map rule_left (rules t)) n) (token_among t n ∙ f))
        ∙ sym (among_all (tokens t) (map rule_left (rules t)) n) ∙ a

    fine_start : Fine (start_symbol (starts t) (lefts t))
    fine_start = start_passes Fine (starts t) (lefts t)
        (each_both (λ i. is_nonterminal t (printed_name i) ≡ true)
        (λ i. Ordinary (printed_name i)) (λ i. Fine (printed_name i))
        (λ i q o. one (printed_name i) (nonterminal_parts (is_token t (printed_name i))
        (is_among (symbols t) (printed_name i)) q) o) (starts t) (starts_nonterminal t start)
        (starts_ordinary t named)) fine_lefts (some_lefts t.rule_texts shaped.first)
      where
        one : (n : Name) → (is_token t n ≡ false) × (is_among (symbols t) n ≡ true) → Ordinary n →
            Fine n
        one n (f, a) o = at_name Fine (map rule_left (rules_from [] 1 t.rule_texts)) n later
            (sym (ap (λ b. b || is_among (map rule_left (rules_from [] 1 t.rule_texts)) n)
            (other_name n (codes "$accept") o.accept)) ∙ is_left n a f)

    fine_accept : Fine (codes "$accept")
    fine_accept never = fine_start (λ p. never (derives (number (codes "$accept")) _ stand.0
        (All-cons (Productive (bare_of t)) _ (number (codes "$end") ∷ []) p
        (All-cons (Productive (bare_of t)) _ [] (token_productive (bare_of t) (number (codes "$end")) is_end)
        (All-nil (Productive (bare_of t)))))))
      where
        is_end : number (codes "$end") < length (tokens t)
        is_end = subst (λ n. n < length (tokens t)) (sym (end_number t))
            (let two : 1 < length (tokens t) = two_tokens (appeared t) in omega (arith, two))

    -- every left side of a rule is fine
    fine_all : AllByRecursion Fine (map rule_left (rules t))
    fine_all = (fine_accept, later)

    -- a symbol after the tokens is fine
    fine_number : (s : ℕ) → length (tokens t) ≤ s → s < length (symbols t) →
        (Productive (bare_of t) s → ⊥) → ⊥
    fine_number s low high never = at_name Fine (map rule_left (rules t)) n fine_all
        (is_left n there (no_token (is_token t n) refl))
        (λ p. never (subst (Productive (bare_of t)) own p))
      where
        n : Name
        n = get_or (symbols t) s []

        own : number n ≡ s
        own = distinct_all (tokens t) (map rule_left (rules t)) (distinct_tokens t) s high

        there : is_among (symbols t) n ≡ true
        there = number_among (symbols t) n (subst (λ k. k < length (symbols t)) (sym own) high)

        no_token : (b : Bool) → is_token t n ≡ b → is_token t n ≡ false
        no_token false e = e
        no_token true e =
            let among : is_among (tokens t) n ≡ true = token_among t n ∙ e in
            let more = noted_behind (tokens t) (map rule_left (rules t)) in
            let same : number n ≡ number_in (tokens t) n =
            ap (λ (ns : List Name). number_in ns n) more.1
            ∙ number_stays (tokens t) more.0 n among in
            let l = among_number (tokens t) n among in
            absurd (omega (arith, l, same, own, low))

  pub some_barren : IsTree t → IsNamed t → (Holds t BadStart → ⊥) → Holds t Unproductive →
      AllByRecursion (λ n. IsBarren t (left_side n) → ⊥) (lefts t) → ⊥
  some_barren shaped named start (s, low, high, never) none =
      fine_number shaped named start none s low high never
