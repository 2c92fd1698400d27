-- A tree without mistakes means a well-formed grammar.
use Rattle.std.proofs.Common.{ℕ, zero, suc, filter, Bool, true, false, cond, ◌≡◌, ◌≢◌, ◌<◌, ◌≤◌}
use Rattle.std.proofs.Common.{◌⊎◌, inl, inr, List, [], ◌∷◌, ◌++◌, map, length, Option, Some, None}
use Rattle.std.proofs.Common.{IsSome, refl, sym, ◌∙◌, ap, subst, arith, codes, get_or}
use Rattle.std.proofs.Common.{length-append}
use Rattle.std.specs.List.{flat_map, All, AllByRecursion, Contains}
use Rattle.std.specs.Str.{bytes_eq}
use Rattle.std.proofs.lemmas.Bool.{cases_lt}
use Rattle.std.proofs.lemmas.List.{length-map}
use Rattle.std.proofs.lemmas.List.Elements.{All-contains_itself, All-from_recursion}
use Rattle.std.proofs.lemmas.List.Elements.{recursion_from_All}
use Rattle.ydeclarations.specs.declared.mistake.Mistake.TheVariants.{TokenLeft, Undefined}
use Rattle.ydeclarations.specs.declared.mistake.Mistake.TheVariants.{BadStart}
use Rattle.ydeclarations.specs.declared.mistake.Mistake.TheVariants.{Limit}
use Rattle.ysymbols.specs.Grammar.{ContextFree, Production, blank, rule_of, longest_body}
use Rattle.ysymbols.specs.Grammar.{most_rules, most_symbols}
use Rattle.ysymbols.specs.Forms.{Productive}
use Rattle.ysymbols.specs.WellFormed.{WellFormed}
use Rattle.ylexemes.specs.Lexemes.{IsName}
use Rattle.ydeclarations.specs.Mistakes.{Holds, HasNone, order}
use Rattle.ysymbols.specs.Names.{Name, is_among, with_names, number_in}
use Rattle.ydeclarations.specs.Printed.{printed_name}
use Rattle.ysyntax.specs.Tree.{Identifier, Definition, start, union, block, listing, types}
use Rattle.ysyntax.specs.Tree.{BodyPart}
use Rattle.ysyntax.specs.Tree.{symbol, action, RuleText, Tree, IsTree, BeginsWithName}
use Rattle.ydeclarations.specs.Elaboration.{Rule, appearances, bare_of, body_from, left_of_rule}
use Rattle.ydeclarations.specs.Elaboration.{identifiers_of}
use Rattle.ydeclarations.specs.Elaboration.{final_of, inner_name, is_nonterminal, is_token}
use Rattle.ydeclarations.specs.Elaboration.{body_part_identifier, lefts, listings, numbered_rule}
use Rattle.ydeclarations.specs.Elaboration.{option_list}
use Rattle.ydeclarations.specs.Elaboration.{or_else, prec_of, rule_left, rules, rules_from}
use Rattle.ydeclarations.specs.Elaboration.{split_last}
use Rattle.ydeclarations.specs.Elaboration.{start_symbol, starts_of, starts, symbols, tokens}
use Rattle.ydeclarations.specs.Elaboration.{token_names_of, uses_of, uses}
use Rattle.ysymbols.proofs.NameSteps.{among_all, eq_self}
use Rattle.ydeclarations.proofs.TellingSteps.{same_number}
use Rattle.ysymbols.proofs.NameSteps.{false_true}
use Rattle.ydeclarations.proofs.TokenSteps.{noted_behind, number_behind}
use Rattle.ysymbols.proofs.NameSteps.{or_left, or_right}
use Rattle.ysymbols.proofs.NameSteps.{among_number}
use Rattle.ydeclarations.proofs.TokenSteps.{token_among}
use Rattle.ygrammar.proofs.SymbolNames.{IsNamed, Named, accept_token, each_from_map, each_join}
use Rattle.ygrammar.proofs.SymbolNames.{each_left, each_piece, each_right, each_to_map, each_weaker}
use Rattle.ygrammar.proofs.SymbolNames.{end_accept, inner_accept, inner_end, inner_token}
use Rattle.ygrammar.proofs.SymbolNames.{name_plain, plain_other, printed_plain}

-- ---- tests

bool_false : (b : Bool) → (b ≡ true → ⊥) → b ≡ false
bool_false true h = absurd (h refl)
bool_false false h = refl

bool_true : (b : Bool) → (b ≡ false → ⊥) → b ≡ true
bool_true true h = refl
bool_true false h = absurd (h refl)

-- ---- numbers of names

noted_above : (ns more : List Name) (n : Name) → is_among ns n ≡ false → length ns ≤ number_in
    (with_names ns more) n
noted_above ns more n h = let g = noted_behind ns more in
    subst (λ (xs : List Name). length ns ≤ number_in xs n) (sym g.1) (number_behind ns g.0 n h)

noted_length : (ns more : List Name) → length ns ≤ length (with_names ns more)
noted_length ns more = let g = noted_behind ns more in
    subst (λ (xs : List Name). length ns ≤ length xs) (sym g.1) (let e = length-append ns g.0 in
    omega arith)

-- ---- which names are among others

pub among_self : (xs : List Name) → AllByRecursion (λ n. is_among xs n ≡ true) xs
among_self [] = tt
among_self (x ∷ xs) = (
  or_left (bytes_eq x x) (is_among xs x) (eq_self x),
  each_weaker (λ n. is_among xs n ≡ true) (λ n. is_among (x ∷ xs) n ≡ true)
      (λ n h. or_right (bytes_eq n x) (is_among xs n) h) xs (among_self xs),
)

-- names that are no tokens have none of the first numbers
pub other_above : (t : Tree) (n : Name) → is_token t n ≡ false → length (tokens t) ≤ number_in
    (symbols t) n
other_above t n h = noted_above (tokens t) (map rule_left (rules t)) n (token_among t n ∙ h)

pub tokens_within : (t : Tree) → length (tokens t) ≤ length (symbols t)
tokens_within t = noted_length (tokens t) (map rule_left (rules t))

-- the end is the first token
end_first : (x y : List Name) →
    number_in (with_names (with_names (codes "$end" ∷ codes "error" ∷ []) x) y) (codes "$end") ≡ 0
end_first x y =
    let a = noted_behind (codes "$end" ∷ codes "error" ∷ []) x in
    let b = noted_behind (with_names (codes "$end" ∷ codes "error" ∷ []) x) y in
    ap (λ (ns : List Name). number_in ns (codes "$end"))
    (b.1 ∙ ap (λ (ns : List Name). ns ++ b.0) a.1)

pub two_tokens : (x : List Name) → 1 < length (with_names (codes "$end" ∷ codes "error" ∷ []) x)
two_tokens x = let a = noted_length (codes "$end" ∷ codes "error" ∷ []) x in
    let two : 2 ≤ length (with_names (codes "$end" ∷ codes "error" ∷ []) x) = a in omega arith

-- the names and literals that are tokens, as they appear
abbrev pub appeared : Tree → List Name
appeared t = filter (is_among (token_names_of (listings t) (appearances t)))
    (map printed_name (appearances t))

pub end_number : (t : Tree) → number_in (symbols t) (codes "$end") ≡ 0
end_number t = end_first (appeared t) (map rule_left (rules t))

-- ---- left sides

-- the first left side passes
abbrev pub FirstLeft : (Name → Type 0) → Name → List RuleText → Type 0
FirstLeft P n [] = Unit {0}
FirstLeft P n (c ∷ cs) = P (or_else c.left n)

module _ (P : Name → Type 0) where
  or_passes : (o : Option Name) (n : Name) → AllByRecursion P (option_list o) → P n →
      P (or_else o n)
  or_passes None n h q = q
  or_passes (Some m) n h q = h.0

  pub next_passes : (n : Name) (cs : List RuleText) → P n → AllByRecursion P (flat_map left_of_rule cs)
      →
      FirstLeft P n cs
  next_passes n [] q h = tt
  next_passes n (c ∷ cs) q h = or_passes c.left n
      (each_left P (left_of_rule c) (flat_map left_of_rule cs) h) q

  some_passes : (o : Option Name) (n : Name) → IsSome o → AllByRecursion P (option_list o) →
      P (or_else o n)
  some_passes None n s h = absurd (false_true s)
  some_passes (Some m) n s h = h.0

  pub top_passes : (cs : List RuleText) → BeginsWithName cs → AllByRecursion P (flat_map left_of_rule
      cs) →
      FirstLeft P [] cs
  top_passes [] s h = absurd s
  top_passes (c ∷ cs) s h = some_passes c.left [] s
      (each_left P (left_of_rule c) (flat_map left_of_rule cs) h)

  inner_passes : ((k : ℕ) → P (inner_name k)) → (k : ℕ) (xs : List BodyPart) → AllByRecursion
      (λ r. P r.left) (body_from k xs).inner
  inner_passes f k [] = tt
  inner_passes f k (symbol i ∷ xs) = inner_passes f k xs
  inner_passes f k (action x ∷ xs) = (f k, inner_passes f (suc k) xs)

  -- what holds of the left sides in the file and of the names of inner actions holds of all left
  -- sides
  pub lefts_each : ((k : ℕ) → P (inner_name k)) → (before : Name) (k : ℕ) (cs : List RuleText) →
      FirstLeft P before cs → AllByRecursion P (flat_map left_of_rule cs) → AllByRecursion
      (λ r. P r.left) (rules_from before k cs)
  lefts_each f before k [] q h = tt
  lefts_each f before k (c ∷ cs) q h =
      let items : List BodyPart = (final_of c.last c.body).0 in
      let rest : AllByRecursion P (flat_map left_of_rule cs) = each_right P (left_of_rule c)
      (flat_map left_of_rule cs) h in
      each_join (λ r. P r.left) (body_from k items).inner _ (inner_passes f k items) (
        q,
        lefts_each f (or_else c.left before) (body_from k items).next cs
            (next_passes (or_else c.left before) cs q rest) rest,
      )

  left_back : (o : Option Name) (n : Name) → P (or_else o n) → AllByRecursion P (option_list o)
  left_back None n h = tt
  left_back (Some m) n h = (h, tt)

  -- what holds of all left sides holds of those in the file
  pub lefts_back : (before : Name) (k : ℕ) (cs : List RuleText) → AllByRecursion (λ r. P r.left)
      (rules_from before k cs) → AllByRecursion P (flat_map left_of_rule cs)
  lefts_back before k [] h = tt
  lefts_back before k (c ∷ cs) h =
      let items : List BodyPart = (final_of c.last c.body).0 in
      let g = each_right (λ r. P r.left) (body_from k items).inner _ h in
      each_join P (left_of_rule c) (flat_map left_of_rule cs) (left_back c.left before g.0)
      (lefts_back (or_else c.left before) (body_from k items).next cs g.1)

-- ---- bodies

split_used : (xs : List BodyPart) → flat_map body_part_identifier (split_last xs).0 ≡ flat_map
    body_part_identifier xs
split_used [] = refl
split_used (action x ∷ []) = refl
split_used (symbol i ∷ []) = refl
split_used (symbol i ∷ (y ∷ xs)) = ap (λ (is : List Identifier). i ∷ is) (split_used (y ∷ xs))
split_used (action x ∷ (y ∷ xs)) = split_used (y ∷ xs)

final_used : (o : Option (List ℕ)) (xs : List BodyPart) → flat_map body_part_identifier
    (final_of o xs).0 ≡
    flat_map body_part_identifier xs
final_used None xs = split_used xs
final_used (Some x) xs = refl

module _ (P : Name → Type 0) where
  body_names : (k : ℕ) (xs : List BodyPart) → AllByRecursion (λ i. P (printed_name i))
      (flat_map body_part_identifier xs) → AllByRecursion (λ r. P r.left) (body_from k xs).inner →
      AllByRecursion P (body_from k xs).symbols
  body_names k [] h q = tt
  body_names k (symbol i ∷ xs) h q = (h.0, body_names k xs h.1 q)
  body_names k (action x ∷ xs) h q = (q.0, body_names (suc k) xs h q.1)

  inner_bodies : (k : ℕ) (xs : List BodyPart) → AllByRecursion (λ r. AllByRecursion P r.body)
      (body_from k xs).inner
  inner_bodies k [] = tt
  inner_bodies k (symbol i ∷ xs) = inner_bodies k xs
  inner_bodies k (action x ∷ xs) = (tt, inner_bodies (suc k) xs)

  -- what holds of the names used and of all left sides holds of all names in bodies
  pub bodies_each : (before : Name) (k : ℕ) (cs : List RuleText) → AllByRecursion (λ i. P
      (printed_name i))
      (flat_map uses_of cs) → AllByRecursion (λ r. P r.left) (rules_from before k cs) →
      AllByRecursion
      (λ r. AllByRecursion P r.body) (rules_from before k cs)
  bodies_each before k [] h q = tt
  bodies_each before k (c ∷ cs) h q =
      let items : List BodyPart = (final_of c.last c.body).0 in
      let here = each_left (λ i. P (printed_name i)) (uses_of c) (flat_map uses_of cs) h in
      let mine = subst (AllByRecursion (λ i. P (printed_name i))) (sym (final_used c.last c.body))
      (each_left (λ i. P (printed_name i)) (flat_map body_part_identifier c.body) (prec_of c) here)
      in
      let inner = each_left (λ r. P r.left) (body_from k items).inner _ q in
      let later = each_right (λ r. P r.left) (body_from k items).inner _ q in
      each_join (λ r. AllByRecursion P r.body) (body_from k items).inner _ (inner_bodies k items) (
        body_names k items mine inner,
        bodies_each (or_else c.left before)
            (body_from k items).next cs (each_right (λ i. P (printed_name i)) (uses_of c) (flat_map
            uses_of cs)
            h) later.1,
      )

-- ---- symbols

pub start_passes : (P : Name → Type 0) (is : List Identifier) (ls : List Name) → AllByRecursion
    (λ i. P (printed_name i)) is → AllByRecursion P ls → 0 < length ls → P (start_symbol is ls)
start_passes P (i ∷ is) ls a b h = a.0
start_passes P [] (n ∷ ls) a b h = b.0
start_passes P [] [] a b h = absurd (omega arith)

pub some_lefts : (cs : List RuleText) → BeginsWithName cs → 0 < length (flat_map left_of_rule cs)
some_lefts [] s = absurd s
some_lefts (c ∷ cs) s = one c.left s
  where
    one : (o : Option Name) → IsSome o → 0 < length (option_list o ++ flat_map left_of_rule cs)
    one None q = absurd (false_true q)
    one (Some n) q = omega arith

pub nonterminal_parts : (a b : Bool) → cond a false b ≡ true → (a ≡ false) × (b ≡ true)
nonterminal_parts true b h = absurd (false_true h)
nonterminal_parts false b h = (refl, h)

itself : {A : Type 0} (xs : List A) → AllByRecursion (Contains xs) xs
itself xs = recursion_from_All (Contains xs) xs (All-contains_itself xs)

abbrev Among : Tree → Name → Type 0
Among t n = is_among (symbols t) n ≡ true

-- every left side is a symbol
pub lefts_among : (t : Tree) → AllByRecursion (λ r. is_among (symbols t) r.left ≡ true) (rules t)
lefts_among t = each_from_map (Among t) rule_left (rules t)
    (each_weaker (λ n. is_among (map rule_left (rules t)) n ≡ true) (Among t)
    (λ n h. among_all (tokens t) (map rule_left (rules t)) n ∙ or_right (is_among (tokens t) n)
    (is_among (map rule_left (rules t)) n) h) (map rule_left (rules t))
    (among_self (map rule_left (rules t))))

uses_among : (t : Tree) → (Holds t Undefined → ⊥) → AllByRecursion (λ i. Among t (printed_name i))
    (uses t)
uses_among t h = each_from_map (Among t) printed_name (uses t)
    (each_weaker (Contains (map printed_name (uses t))) (Among t)
    (λ n c. bool_true (is_among (symbols t) n) (λ e. h (n, e, inl c))) (map printed_name (uses t))
    (itself (map printed_name (uses t))))

pub starts_nonterminal : (t : Tree) → (Holds t BadStart → ⊥) → AllByRecursion
    (λ i. is_nonterminal t (printed_name i) ≡ true) (starts t)
starts_nonterminal t h = each_weaker (Contains (starts t))
    (λ i. is_nonterminal t (printed_name i) ≡ true) (λ i c. bool_true (is_nonterminal t
    (printed_name i))
    (λ e. h (inr (i, c, e)))) (starts t) (itself (starts t))

start_among : (t : Tree) → IsTree t → (Holds t BadStart → ⊥) →
    Among t (start_symbol (starts t) (lefts t))
start_among t s h = start_passes (Among t) (starts t) (lefts t)
    (each_weaker (λ i. is_nonterminal t (printed_name i) ≡ true) (λ i. Among t (printed_name i)) (λ
    i q.
    (nonterminal_parts (is_token t (printed_name i)) (is_among (symbols t) (printed_name i)) q).1)
    (starts t) (starts_nonterminal t h))
    (lefts_back (Among t) [] 1 t.rule_texts (lefts_among t).1)
    (some_lefts t.rule_texts s.first)

end_among : (t : Tree) → Among t (codes "$end")
end_among t = among_all (tokens t) (map rule_left (rules t)) (codes "$end") ∙ or_left
    (is_among (tokens t) (codes "$end")) (is_among (map rule_left (rules t)) (codes "$end"))
    (token_among t (codes "$end") ∙ refl)

-- every name in a body is a symbol
pub bodies_among : (t : Tree) → IsTree t → (Holds t Undefined → ⊥) → (Holds t BadStart → ⊥) →
    AllByRecursion (λ r. AllByRecursion (λ n. is_among (symbols t) n ≡ true) r.body) (rules t)
bodies_among t s u b = (
  (start_among t s b, (end_among t, tt)),
  bodies_each (Among t) [] 1 t.rule_texts
      (uses_among t u) (lefts_among t).1,
)

-- ---- rules by number

rule_each : (ns : List Name) (rs : List Rule) (Q : Production → Type 0) → AllByRecursion
    (λ r. Q (numbered_rule ns r)) rs → (r : ℕ) → r < length (map (numbered_rule ns) rs) →
    Q (get_or (map (numbered_rule ns) rs) r blank)
rule_each ns rs Q a r h = All-from_recursion Q (map (numbered_rule ns) rs)
    (each_to_map Q (numbered_rule ns) rs a) r blank h

later_each : (ns : List Name) (first : Rule) (rs : List Rule) (Q : Production → Type 0) →
    AllByRecursion (λ r. Q (numbered_rule ns r)) rs → (r : ℕ) → 0 < r →
    r < length (map (numbered_rule ns) (first ∷ rs)) →
    Q (get_or (map (numbered_rule ns) (first ∷ rs)) r blank)
later_each ns first rs Q a zero l h = absurd (omega arith)
later_each ns first rs Q a (suc r) l h = rule_each ns rs Q a r (omega arith)

body_each : (ns : List Name) (P : Name → Type 0) (Q : ℕ → Type 0) →
    ((n : Name) → P n → Q (number_in ns n)) → (body : List Name) → AllByRecursion P body →
    All Q (map (number_in ns) body)
body_each ns P Q f body a = All-from_recursion Q (map (number_in ns) body)
    (each_to_map Q (number_in ns) body (each_weaker P (λ n. Q (number_in ns n)) f body a))

-- what a rule has by number is in range
pub record InRange (symbols : ℕ) (p : Production) : Type 0 where
  pub left : p.left < symbols
  pub body : All (λ s. s < symbols) p.body

pub each_both : {A : Type 0} (P Q R : A → Type 0) → ((x : A) → P x → Q x → R x) → (xs : List A) →
    AllByRecursion P xs → AllByRecursion Q xs → AllByRecursion R xs
each_both P Q R f [] a b = tt
each_both P Q R f (x ∷ xs) a b = (f x a.0 b.0, each_both P Q R f xs a.1 b.1)

rules_range : (ns : List Name) (rs : List Rule) → AllByRecursion (λ r. is_among ns r.left ≡ true)
    rs → AllByRecursion (λ r. AllByRecursion (λ n. is_among ns n ≡ true) r.body) rs → AllByRecursion
    (λ r. InRange (length ns) (numbered_rule ns r)) rs
rules_range ns rs a b = each_both (λ r. is_among ns r.left ≡ true)
    (λ r. AllByRecursion (λ n. is_among ns n ≡ true) r.body)
    (λ r. InRange (length ns) (numbered_rule ns r))
    (λ r x y. record {
      left = among_number ns r.left x;
      body =
          body_each ns (λ n. is_among ns n ≡ true) (λ s. s < length ns) (among_number ns) r.body y;
    }) rs a
    b

-- the rules of a file without undefined names and with a start symbol have symbols in range
pub in_range : (t : Tree) → IsTree t → (Holds t Undefined → ⊥) → (Holds t BadStart → ⊥) →
    (r : ℕ) → r < length (bare_of t).rules → InRange (length (symbols t)) (rule_of (bare_of t) r)
in_range t s u b r h = rule_each (symbols t) (rules t) (InRange (length (symbols t)))
    (rules_range (symbols t) (rules t) (lefts_among t) (bodies_among t s u b)) r h

-- ---- the whole

-- a name that is neither that of the first left side nor that of the end
pub record Ordinary (n : Name) : Type 0 where
  pub accept : n ≡ codes "$accept" → ⊥
  pub end : n ≡ codes "$end" → ⊥

plain_ordinary : (n : Name) → IsName n → Ordinary n
plain_ordinary n h = record {
  accept = plain_other n (codes "$accept") (name_plain n h) refl;
  end =
      plain_other n (codes "$end") (name_plain n h) refl;
}

printed_ordinary : (i : Identifier) → Named i → Ordinary (printed_name i)
printed_ordinary i h = record {
  accept = plain_other (printed_name i) (codes "$accept")
      (printed_plain i h) refl;
  end = plain_other (printed_name i) (codes "$end") (printed_plain i h) refl;
}

inner_ordinary : (k : ℕ) → Ordinary (inner_name k)
inner_ordinary k = record { accept = inner_accept k; end = inner_end k }

lefts_tokens : (t : Tree) → (Holds t TokenLeft → ⊥) → AllByRecursion (λ n. is_token t n ≡ false)
    (lefts t)
lefts_tokens t h = each_weaker (Contains (lefts t)) (λ n. is_token t n ≡ false)
    (λ n c. bool_false (is_token t n) (λ e. h (n, e, inl c))) (lefts t) (itself (lefts t))

-- no left side is a token
pub lefts_other : (t : Tree) → IsTree t → IsNamed t → (Holds t TokenLeft → ⊥) → AllByRecursion
    (λ r. is_token t r.left ≡ false) (rules t)
lefts_other t s n h = (
  accept_token t n,
  lefts_each (λ m. is_token t m ≡ false)
      (λ k. inner_token t k n) [] 1 t.rule_texts (top_passes (λ m. is_token t m ≡ false)
      t.rule_texts
      s.first (lefts_tokens t h)) (lefts_tokens t h),
)

-- every left side has a number after those of the tokens
lefts_above : (t : Tree) → IsTree t → IsNamed t → (Holds t TokenLeft → ⊥) → AllByRecursion
    (λ r. length (tokens t) ≤ number_in (symbols t) r.left) (rules t)
lefts_above t s n h = each_weaker (λ r. is_token t r.left ≡ false)
    (λ r. length (tokens t) ≤ number_in (symbols t) r.left) (λ r q. other_above t r.left q)
    (rules t) (lefts_other t s n h)

lefts_ordinary : (t : Tree) → IsTree t → IsNamed t → AllByRecursion (λ r. Ordinary r.left)
    (rules_from [] 1 t.rule_texts)
lefts_ordinary t s n =
    let a : AllByRecursion Ordinary (lefts t) = each_weaker IsName Ordinary plain_ordinary
    (lefts t) n.lefts in
    lefts_each Ordinary inner_ordinary [] 1 t.rule_texts (top_passes Ordinary t.rule_texts s.first
    a) a

appear_ordinary : (t : Tree) → IsNamed t → AllByRecursion (λ i. Ordinary (printed_name i))
    (appearances t)
appear_ordinary t n = each_weaker Named (λ i. Ordinary (printed_name i)) printed_ordinary
    (appearances t)
    n.appear

bodies_ordinary : (t : Tree) → IsTree t → IsNamed t → AllByRecursion
    (λ r. AllByRecursion Ordinary r.body) (rules_from [] 1 t.rule_texts)
bodies_ordinary t s n = bodies_each Ordinary [] 1 t.rule_texts (each_right (λ i. Ordinary
    (printed_name i))
    (flat_map identifiers_of t.definitions) (uses t) (appear_ordinary t n)) (lefts_ordinary t s n)

started_declared : (P : Identifier → Type 0) (d : Definition) → AllByRecursion P (identifiers_of d)
    →
    AllByRecursion P (starts_of d)
started_declared P (start i) h = h
started_declared P (union x) h = tt
started_declared P block h = tt
started_declared P (listing w tag es) h = tt
started_declared P (types tag ns) h = tt

-- what `%start` names is neither
pub starts_ordinary : (t : Tree) → IsNamed t → AllByRecursion (λ i. Ordinary (printed_name i))
    (starts t)
starts_ordinary t n = each_piece (λ i. Ordinary (printed_name i)) (λ i. Ordinary (printed_name i))
    identifiers_of starts_of (started_declared (λ i. Ordinary (printed_name i))) t.definitions
    (each_left (λ i. Ordinary (printed_name i)) (flat_map identifiers_of t.definitions) (uses t)
    (appear_ordinary t n))

start_ordinary : (t : Tree) → IsTree t → IsNamed t → Ordinary (start_symbol (starts t) (lefts t))
start_ordinary t s n = start_passes Ordinary (starts t) (lefts t)
    (starts_ordinary t n)
    (each_weaker IsName Ordinary plain_ordinary (lefts t) n.lefts)
    (some_lefts t.rule_texts s.first)

start_other_token : (t : Tree) → IsTree t → (Holds t TokenLeft → ⊥) → (Holds t BadStart → ⊥) →
    is_token t (start_symbol (starts t) (lefts t)) ≡ false
start_other_token t s l b = start_passes (λ n. is_token t n ≡ false) (starts t) (lefts t)
    (each_weaker (λ i. is_nonterminal t (printed_name i) ≡ true) (λ i. is_token t (printed_name i) ≡
    false)
    (λ i q. (nonterminal_parts (is_token t (printed_name i)) (is_among (symbols t) (printed_name i))
    q).0)
    (starts t) (starts_nonterminal t b))
    (lefts_tokens t l)
    (some_lefts t.rule_texts s.first)

-- the first rule, with this start symbol
abbrev opening : Name → Rule
opening n = record {
  left = codes "$accept";
  body = n ∷ codes "$end" ∷ [];
  prec = None;
  text =
      None;
}

abbrev Member : List Name → Name → Type 0
Member ns n = is_among ns n ≡ true

abbrev grammar_of : ℕ → List Name → Name → List Rule → ContextFree
grammar_of k ns first rs = record {
  tokens = k;
  symbols = length ns;
  rules = map (numbered_rule ns)
      (opening first ∷ rs);
}

-- What is known of the names of a grammar's rules.
record Known (k : ℕ) (ns : List Name) (first : Name) (rs : List Rule) : Type 0 where
  recovers : 1 < k
  within : k ≤ length ns
  zeroth : number_in ns (codes "$end") ≡ 0
  lefts_in : AllByRecursion (λ r. Member ns r.left) (opening first ∷ rs)
  lefts_above : AllByRecursion (λ r. k ≤ number_in ns r.left) (opening first ∷ rs)
  bodies_in : AllByRecursion (λ r. AllByRecursion (Member ns) r.body) (opening first ∷ rs)
  start_above : k ≤ number_in ns first
  start_plain : Ordinary first
  lefts_plain : AllByRecursion (λ r. Ordinary r.left) rs
  bodies_plain : AllByRecursion (λ r. AllByRecursion Ordinary r.body) rs
  small : length ns ≤ most_symbols
  few : length (opening first ∷ rs) ≤ most_rules
  short : AllByRecursion (λ r. length r.body ≤ longest_body) (opening first ∷ rs)

number_other : (ns : List Name) (n m : Name) → Member ns n →
    (n ≡ m → ⊥) → number_in ns n ≢ number_in ns m
number_other ns n m h f e = f (same_number ns n m (among_number ns n h) e)

number_positive : (ns : List Name) (n : Name) → number_in ns (codes "$end") ≡ 0 → Member ns n →
    (n ≡ codes "$end" → ⊥) → number_in ns n ≢ 0
number_positive ns n z h f e = number_other ns n (codes "$end") h f (e ∙ sym z)

both : (ns body : List Name) (Q : ℕ → Type 0) →
    ((n : Name) → Member ns n → Ordinary n → Q (number_in ns n)) → AllByRecursion (Member ns) body →
    AllByRecursion Ordinary body → All Q (map (number_in ns) body)
both ns body Q f a b = All-from_recursion Q (map (number_in ns) body)
    (each_to_map Q (number_in ns) body (each_both (Member ns) Ordinary (λ n. Q (number_in ns n)) f
    body a b))

known_well : (k : ℕ) (ns : List Name) (first : Name) (rs : List Rule) → Known k ns first rs →
    ((s : ℕ) → k ≤ s → s < length ns → Productive (grammar_of k ns first rs) s) →
    WellFormed (grammar_of k ns first rs)
known_well k ns first rs h p = record {
  ends = let two : 1 < k = h.recovers in omega arith;
  recovers = h.recovers;
  within = h.within;
  some = omega arith;
  left = λ r l. (rule_each ns all (InRange (length ns)) (rules_range ns all h.lefts_in h.bodies_in)
      r l).left;
  nonterminal = λ r l. rule_each ns all (λ q. k ≤ q.left) h.lefts_above r l;
  body = λ r l. (rule_each ns all (InRange (length ns)) (rules_range ns all h.lefts_in h.bodies_in)
      r l).body;
  first = ap (λ (s : ℕ). number_in ns first ∷ s ∷ []) h.zeroth;
  start_nonterminal = h.start_above;
  start_other = number_other ns first (codes "$accept") h.bodies_in.0.0 h.start_plain.accept;
  accept_once = λ r a l. later_each ns (opening first) rs
      (λ q. q.left ≢ number_in ns (codes "$accept")) (each_both (λ x. Member ns x.left)
      (λ x. Ordinary x.left) (λ x. number_in ns x.left ≢ number_in ns (codes "$accept"))
      (λ x i o. number_other ns x.left (codes "$accept") i o.accept) rs h.lefts_in.1 h.lefts_plain)
      r a l;
  alone = λ r l. rule_each ns all (λ q. All (λ s. s ≢ number_in ns (codes "$accept")) q.body)
      (here, later) r l;
  ended = λ r a l. later_each ns (opening first) rs (λ q. All (λ s. s ≢ 0) q.body)
      (each_both (λ x. AllByRecursion (Member ns) x.body) (λ x. AllByRecursion Ordinary x.body)
      (λ x. All (λ s. s ≢ 0) (map (number_in ns) x.body)) (λ x i o. both ns x.body (λ s. s ≢ 0)
      (λ n m q. number_positive ns n h.zeroth m q.end) i o) rs h.bodies_in.1 h.bodies_plain) r a l;
  productive = p;
  small = h.small;
  few = subst (λ n. n ≤ most_rules) (sym (length-map all (numbered_rule ns))) h.few;
  short = λ r l. rule_each ns all (λ q. length q.body ≤ longest_body)
      (each_weaker (λ x. length x.body ≤ longest_body)
      (λ x. length (map (number_in ns) x.body) ≤ longest_body)
      (λ x b. subst (λ n. n ≤ longest_body) (sym (length-map x.body (number_in ns))) b) all
      h.short) r l;
}
  where
    all : List Rule
    all = opening first ∷ rs

    not_accept : (n : Name) → Member ns n → (n ≡ codes "$accept" → ⊥) →
        number_in ns n ≢ number_in ns (codes "$accept")
    not_accept n m f = number_other ns n (codes "$accept") m f

    here : All (λ s. s ≢ number_in ns (codes "$accept"))
        (map (number_in ns) (first ∷ codes "$end" ∷ []))
    here = All-from_recursion (λ s. s ≢ number_in ns (codes "$accept"))
        (map (number_in ns) (first ∷ codes "$end" ∷ [])) (
          not_accept first h.bodies_in.0.0 h.start_plain.accept,
          (not_accept (codes "$end") h.bodies_in.0.1.0 end_accept, tt),
        )

    later : AllByRecursion (λ x. All (λ s. s ≢ number_in ns (codes "$accept"))
        (map (number_in ns) x.body)) rs
    later = each_both (λ x. AllByRecursion (Member ns) x.body) (λ x. AllByRecursion Ordinary x.body)
        (λ x. All (λ s. s ≢ number_in ns (codes "$accept")) (map (number_in ns) x.body))
        (λ x i o. both ns x.body (λ s. s ≢ number_in ns (codes "$accept"))
        (λ n m q. not_accept n m q.accept) i o) rs h.bodies_in.1 h.bodies_plain

at_most : (m n : ℕ) → (m < n → ⊥) → n ≤ m
at_most m n h = one (cases_lt m n)
  where
    one : (m < n) ⊎ (n ≤ m) → n ≤ m
    one (inl a) = absurd (h a)
    one (inr b) = b

-- a tree without mistakes means a well-formed grammar, once its nonterminals are productive
pub well_formed_of : (t : Tree) → IsTree t → IsNamed t → HasNone t order →
    ((s : ℕ) → length (tokens t) ≤ s → s < length (symbols t) → Productive (bare_of t) s) →
    WellFormed (bare_of t)
well_formed_of t s n h p = known_well (length (tokens t)) (symbols t)
    (start_symbol (starts t) (lefts t)) (rules_from [] 1 t.rule_texts) known p
  where
    token_left : Holds t TokenLeft → ⊥
    token_left = h.0

    undefined : Holds t Undefined → ⊥
    undefined = h.1.0

    bad_start : Holds t BadStart → ⊥
    bad_start = h.1.1.1.1.0

    limit : Holds t Limit → ⊥
    limit = h.1.1.1.1.1.1.1.0

    known : Known (length (tokens t)) (symbols t) (start_symbol (starts t) (lefts t))
        (rules_from [] 1 t.rule_texts)
    known = record {
      recovers = two_tokens (appeared t);
      within = tokens_within t;
      zeroth = end_number t;
      lefts_in = lefts_among t;
      lefts_above = lefts_above t s n token_left;
      bodies_in = bodies_among t s undefined bad_start;
      start_above = other_above t (start_symbol (starts t) (lefts t))
          (start_other_token t s token_left bad_start);
      start_plain = start_ordinary t s n;
      lefts_plain = lefts_ordinary t s n;
      bodies_plain = bodies_ordinary t s n;
      small = at_most most_symbols (length (symbols t)) (λ q. limit (inl q));
      few = at_most most_rules (length (rules t)) (λ q. limit (inr (inl q)));
      short = each_weaker (Contains (rules t)) (λ r. length r.body ≤ longest_body)
          (λ r c. at_most longest_body (length r.body) (λ q. limit (inr (inr (r, c, q))))) (rules t)
          (itself (rules t));
    }
