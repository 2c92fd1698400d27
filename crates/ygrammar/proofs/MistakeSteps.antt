-- What the tests for mistakes show.
use Rattle.std.proofs.Common.{ℕ, zero, suc, Bool, true, false, not, ◌||◌, cond, nat_lt, nat_le}
use Rattle.std.proofs.Common.{is_some, ◌≡◌, ◌<◌, ◌≤◌, ◌⊎◌, inl, inr, List, [], ◌∷◌, ◌++◌, map}
use Rattle.std.proofs.Common.{length, Option, Some, None, refl, sym, ◌∙◌, ap, subst, arith}
use Rattle.std.proofs.Common.{if◌then◌else◌}
use Rattle.std.specs.List.{Contains, find, list_any}
use Rattle.std.proofs.lemmas.Bool.Decides.{nat_tests}
use Rattle.std.proofs.lemmas.List.{length-map}
use Rattle.ydeclarations.specs.declared.mistake.Mistake.TheVariants.{BadPrec, BadStart, Limit}
use Rattle.ydeclarations.specs.declared.mistake.Mistake.TheVariants.{TokenLeft}
use Rattle.ydeclarations.specs.declared.mistake.Mistake.TheVariants.{Undefined}
use Rattle.ydeclarations.specs.Elaboration.{Rule, is_nonterminal, is_token, lefts, precs, rule_left}
use Rattle.ydeclarations.specs.Elaboration.{rules, starts, symbols, token_precedences, tokens}
use Rattle.ydeclarations.specs.Elaboration.{types_of}
use Rattle.ydeclarations.specs.Elaboration.{uses}
use Rattle.ysymbols.specs.Grammar.{RuleValue, longest_body, most_rules, most_symbols}
use Rattle.ydeclarations.specs.Mistakes.{Holds}
use Rattle.ysymbols.specs.Names.{Name, is_among, number_in}
use Rattle.ydeclarations.specs.Printed.{printed_name}
use Rattle.ygrammar.specs.Numbered.{is_between, is_long, rule_numbers}
use Rattle.ysyntax.specs.Tree.{Identifier, Tree}
use Rattle.ysymbols.specs.Sources.{option_view}
use Rattle.ysymbols.proofs.NameSteps.{false_true}
use Rattle.ydeclarations.proofs.TokenSteps.{noted_behind, number_behind}
use Rattle.ysymbols.proofs.NameSteps.{among_number, number_among}
use Rattle.ydeclarations.proofs.TokenSteps.{number_stays, token_among}
use Rattle.std.proofs.lemmas.Bool.{cases_lt, or_cases}

or_none : (a b : Bool) → (a || b) ≡ false → (a ≡ false) × (b ≡ false)
or_none true b h = absurd (false_true (sym h))
or_none false b h = (refl, h)

not_true : (b : Bool) → not b ≡ true → b ≡ false
not_true true h = absurd (false_true h)
not_true false h = refl

not_false : (b : Bool) → not b ≡ false → b ≡ true
not_false true h = refl
not_false false h = absurd (false_true (sym h))

there : {A : Type 0} (p : A → Bool) (xs : List A) → list_any p xs ≡ true → (x : A) × Contains xs x ×
    (p x ≡ true)
there p [] h = absurd (false_true h)
there {A = A} p (x ∷ xs) h = go (or_cases (p x) (list_any p xs) h) (λ r. there p xs r)
  where
    go : (p x ≡ true) ⊎ (list_any p xs ≡ true) → (list_any p xs ≡ true → (y : A) × Contains xs y ×
        (p y ≡ true)) → (y : A) × Contains (x ∷ xs) y × (p y ≡ true)
    go (inl e) again = (x, (0, omega arith, refl), e)
    go (inr e) again =
        let (y, (k, l, q), r) = again e in
        (y, (suc k, omega arith, q), r)

nowhere : {A : Type 0} (p : A → Bool) (xs : List A) (x : A) → list_any p xs ≡ false →
    Contains xs x → p x ≡ false
nowhere p [] x h c = let k = c.1 in absurd (omega arith)
nowhere p (y ∷ xs) x h (zero, l, q) = subst (λ z. p z ≡ false) q (or_none (p y) (list_any p xs) h).0
nowhere p (y ∷ xs) x h (suc k, l, q) = nowhere p xs x (or_none (p y) (list_any p xs) h).1
    (k, omega arith, q)

printed_there : (is : List Identifier) (i : Identifier) → Contains is i → Contains (map printed_name
    is)
    (printed_name i)
printed_there [] i c = let k = c.1 in absurd (omega arith)
printed_there (j ∷ is) i (zero, l, q) = (0, omega arith, ap printed_name q)
printed_there (j ∷ is) i (suc k, l, q) =
    let (m, n, r) = printed_there is i (k, omega arith, q) in
    (suc m, omega arith, r)

printed_of : (is : List Identifier) (n : Name) → Contains (map printed_name is) n → (i : Identifier)
    ×
    Contains is i × (printed_name i ≡ n)
printed_of [] n c = let k = c.1 in absurd (omega arith)
printed_of (j ∷ is) n (zero, l, q) = (j, (0, omega arith, refl), q)
printed_of (j ∷ is) n (suc k, l, q) =
    let (i, (m, o, r), s) = printed_of is n (k, omega arith, q) in
    (i, (suc m, omega arith, r), s)

some_true : (o : Option ℕ) (k : ℕ) → o ≡ Some k → is_some o ≡ true
some_true o k h = ap is_some h

none_false : (o : Option ℕ) → o ≡ None → is_some o ≡ false
none_false o h = ap is_some h

-- a test that answered a place, or none
pub found : {A : Type 0} (o : Option ℕ) (k : ℕ) (p : A → Bool) (xs : List A) →
    is_some o ≡ list_any p xs → o ≡ Some k → (x : A) × Contains xs x × (p x ≡ true)
found o k p xs e h = there p xs (sym e ∙ some_true o k h)

pub not_found : {A : Type 0} (o : Option ℕ) (p : A → Bool) (xs : List A) →
    is_some o ≡ list_any p xs → o ≡ None → (x : A) → Contains xs x → p x ≡ false
not_found o p xs e h x c = nowhere p xs x (sym e ∙ none_false o h) c

-- an answer that is the first of some, and the test of all that is seen in them
pub any_found : {A B : Type 0} (p : B → Bool) (f : A → B) (at : A → ℕ) (xs : List A) (o : Option ℕ)
    → o ≡ option_view at (find (λ x. p (f x)) xs) → is_some o ≡ list_any p (map f xs)
any_found p f at [] o e = ap is_some e
any_found {A = A} p f at (x ∷ xs) o e = go (p (f x)) refl (any_found p f at xs o)
  where
    first : Bool → Option ℕ
    first b = option_view at (if b then Some x else find (λ y. p (f y)) xs)

    go : (b : Bool) → p (f x) ≡ b → (o ≡ first false → is_some o ≡ list_any p (map f xs)) →
        is_some o ≡ (p (f x) || list_any p (map f xs))
    go true h again = ap is_some (e ∙ ap first h) ∙ ap (λ b. b || list_any p (map f xs)) (sym h)
    go false h again = again (e ∙ ap first h) ∙ ap (λ b. b || list_any p (map f xs)) (sym h)

-- ---- tokens on the left

pub token_typed : (t : Tree) (ns names : List Name) (o : Option ℕ) (k : ℕ) → ns ≡ tokens t →
    names ≡ types_of t → is_some o ≡ list_any (is_among ns) names → o ≡ Some k → Holds t TokenLeft
token_typed t ns names o k e f h q =
    let (n, c, p) = found o k (is_among ns) names h q in (
      n,
      sym (token_among t n) ∙ subst (λ (x : List Name). is_among x n ≡ true) e p,
      inr (subst (λ (x : List Name). Contains x n) f c),
    )

pub token_left : (t : Tree) (ns names : List Name) (o : Option ℕ) (k : ℕ) → ns ≡ tokens t →
    names ≡ lefts t → is_some o ≡ list_any (is_among ns) names → o ≡ Some k → Holds t TokenLeft
token_left t ns names o k e f h q =
    let (n, c, p) = found o k (is_among ns) names h q in (
      n,
      sym (token_among t n) ∙ subst (λ (x : List Name). is_among x n ≡ true) e p,
      inl (subst (λ (x : List Name). Contains x n) f c),
    )

pub no_token_left : (t : Tree) (ns ms ls : List Name) (o u : Option ℕ) → ns ≡ tokens t →
    ms ≡ types_of t → ls ≡ lefts t → is_some o ≡ list_any (is_among ns) ms → is_some u ≡ list_any
    (is_among ns) ls → o ≡ None → u ≡ None → Holds t TokenLeft → ⊥
no_token_left t ns ms ls o u e f g h i q r (n, p, c) = go c
  where
    tk : is_among ns n ≡ true
    tk = ap (λ (x : List Name). is_among x n) e ∙ token_among t n ∙ p

    go : Contains (lefts t) n ⊎ Contains (types_of t) n → ⊥
    go (inl c) = false_true (sym (not_found u (is_among ns) ls i r n
        (subst (λ (x : List Name). Contains x n) (sym g) c)) ∙ tk)
    go (inr c) = false_true (sym (not_found o (is_among ns) ms h q n
        (subst (λ (x : List Name). Contains x n) (sym f) c)) ∙ tk)

-- ---- names that are no symbols

pub unknown_typed : (t : Tree) (ns names : List Name) (o : Option ℕ) (k : ℕ) → ns ≡ symbols t →
    names ≡ types_of t → is_some o ≡ list_any (λ n. not (is_among ns n)) names → o ≡ Some k →
    Holds t Undefined
unknown_typed t ns names o k e f h q =
    let (n, c, p) = found o k (λ n. not (is_among ns n)) names h q in (
      n,
      subst (λ (x : List Name). is_among x n ≡ false) e (not_true (is_among ns n) p),
      inr (subst (λ (x : List Name). Contains x n) f c),
    )

pub undefined_used : (t : Tree) (ns : List Name) (is : List Identifier) (o : Option ℕ) (k : ℕ) →
    ns ≡ symbols t → is ≡ uses t → is_some o ≡ list_any (λ i. not (is_among ns (printed_name i))) is
    →
    o ≡ Some k → Holds t Undefined
undefined_used t ns is o k e f h q =
    let (i, c, p) = found o k (λ i. not (is_among ns (printed_name i))) is h q in (
      printed_name i,
      subst (λ (x : List Name). is_among x (printed_name i) ≡ false) e
          (not_true (is_among ns (printed_name i)) p),
      inl (printed_there (uses t) i (subst (λ (x : List Identifier). Contains x i) f c)),
    )

pub all_defined : (t : Tree) (ns ms : List Name) (is : List Identifier) (o u : Option ℕ) →
    ns ≡ symbols t → ms ≡ types_of t → is ≡ uses t → is_some o ≡ list_any (λ n. not (is_among ns n))
    ms → is_some u ≡ list_any (λ i. not (is_among ns (printed_name i))) is → o ≡ None → u ≡ None →
    Holds t Undefined → ⊥
all_defined t ns ms is o u e f g h j q r (n, p, c) = go c
  where
    no : is_among ns n ≡ false
    no = ap (λ (x : List Name). is_among x n) e ∙ p

    go : Contains (map printed_name (uses t)) n ⊎ Contains (types_of t) n → ⊥
    go (inl c) =
        let (i, d, s) = printed_of (uses t) n c in
        let y : is_among ns (printed_name i) ≡ true = not_false (is_among ns (printed_name i))
        (not_found u (λ i. not (is_among ns (printed_name i))) is j r i
        (subst (λ (x : List Identifier). Contains x i) (sym g) d)) in
        false_true (sym no ∙ ap (is_among ns) (sym s) ∙ y)
    go (inr c) = false_true (sym no ∙ not_false (is_among ns n)
        (not_found o (λ n. not (is_among ns n)) ms h q n (subst (λ (x : List Name). Contains x n)
        (sym f) c)))

-- ---- nonterminals by number

pub between_is : (t : Tree) (n : Name) → is_between (length (tokens t)) (length (symbols t))
    (number_in (symbols t) n) ≡ is_nonterminal t n
between_is t n = go (is_among (tokens t) n) refl
  where
    more : List Name
    more = (noted_behind (tokens t) (map rule_left (rules t))).0

    whole : symbols t ≡ tokens t ++ (noted_behind (tokens t) (map rule_left (rules t))).0
    whole = (noted_behind (tokens t) (map rule_left (rules t))).1

    below : (a b c : ℕ) → c < a → is_between a b c ≡ false
    below a b c h = grind (arith, nat_tests)

    above : (a b c : ℕ) → a ≤ c → c < b → is_between a b c ≡ true
    above a b c h k = grind (arith, nat_tests)

    past : (a b c : ℕ) → b ≤ c → is_between a b c ≡ false
    past a b c h = grind (arith, nat_tests)

    behind : is_among (tokens t) n ≡ false → (b : Bool) → is_among (symbols t) n ≡ b →
        is_between (length (tokens t)) (length (symbols t)) (number_in (symbols t) n) ≡ is_among
        (symbols t) n
    behind h true e = above (length (tokens t)) (length (symbols t)) (number_in (symbols t) n)
        (subst (λ (x : List Name). length (tokens t) ≤ number_in x n) (sym whole)
        (number_behind (tokens t) (noted_behind (tokens t) (map rule_left (rules t))).0 n h))
        (among_number (symbols t) n e) ∙ sym e
    behind h false e = past (length (tokens t)) (length (symbols t)) (number_in (symbols t) n)
        (far (cases_lt (number_in (symbols t) n) (length (symbols t)))) ∙ sym e
      where
        far : (number_in (symbols t) n < length (symbols t)) ⊎
            (length (symbols t) ≤ number_in (symbols t) n) → length (symbols t) ≤ number_in
            (symbols t) n
        far (inl l) = absurd (false_true (sym e ∙ number_among (symbols t) n l))
        far (inr l) = l

    go : (b : Bool) → is_among (tokens t) n ≡ b → is_between (length (tokens t))
        (length (symbols t)) (number_in (symbols t) n) ≡ cond (is_token t n) false
        (is_among (symbols t) n)
    go true h =
        let k : number_in (symbols t) n < length (tokens t) = subst (λ j. j < length (tokens t))
        (sym (ap (λ (x : List Name). number_in x n) whole ∙ number_stays (tokens t)
        (noted_behind (tokens t) (map rule_left (rules t))).0 n h))
        (among_number (tokens t) n h) in
        below (length (tokens t)) (length (symbols t)) (number_in (symbols t) n) k ∙ sym
        (ap (λ b. cond b false (is_among (symbols t) n)) (sym (token_among t n) ∙ h))
    go false h = behind h (is_among (symbols t) n) refl ∙ sym
        (ap (λ b. cond b false (is_among (symbols t) n)) (sym (token_among t n) ∙ h))

pub between_here : (t : Tree) (ns : List Name) (k : ℕ) (i : Identifier) → ns ≡ symbols t →
    k ≡ length (tokens t) → is_between k (length ns) (number_in ns (printed_name i)) ≡
    is_nonterminal t
    (printed_name i)
between_here t ns k i e f = ap (λ a. is_between a (length ns) (number_in ns (printed_name i))) f ∙
    ap
    (λ (x : List Name). is_between (length (tokens t)) (length x) (number_in x (printed_name i))) e
    ∙
    between_is t (printed_name i)

pub prec_found : (t : Tree) (ns : List Name) (k : ℕ) (is : List Identifier) (o : Option ℕ) (a : ℕ) →
    ns ≡ symbols t → k ≡ length (tokens t) → is ≡ precs t → is_some o ≡ list_any
    (λ i. is_between k (length ns) (number_in ns (printed_name i))) is → o ≡ Some a → Holds t
    BadPrec
prec_found t ns k is o a e f g h q =
    let (i, c, p) = found o a (λ i. is_between k (length ns) (number_in ns (printed_name i))) is h q
    in
    (i, subst (λ (x : List Identifier). Contains x i) g c, sym (between_here t ns k i e f) ∙ p)

pub no_prec : (t : Tree) (ns : List Name) (k : ℕ) (is : List Identifier) (o : Option ℕ) →
    ns ≡ symbols t → k ≡ length (tokens t) → is ≡ precs t → is_some o ≡ list_any
    (λ i. is_between k (length ns) (number_in ns (printed_name i))) is → o ≡ None → Holds t BadPrec
    → ⊥
no_prec t ns k is o e f g h q (i, c, p) =
    false_true (sym (not_found o (λ i. is_between k (length ns) (number_in ns (printed_name i))) is
    h q i
    (subst (λ (x : List Identifier). Contains x i) (sym g) c)) ∙ between_here t ns k i e f ∙ p)

-- ---- the start symbol

pub start_found : (t : Tree) (ns : List Name) (k m : ℕ) (is : List Identifier) (o : Option ℕ)
    (a : ℕ) → ns ≡ symbols t → k ≡ length (tokens t) → is ≡ starts t → m ≡ length is →
    is_some o ≡ (nat_le 2 m || list_any
    (λ i. not (is_between k (length ns) (number_in ns (printed_name i)))) is) → o ≡ Some a →
    Holds t BadStart
start_found t ns k m is o a e f g j h q =
    go (or_cases (nat_le 2 m)
    (list_any (λ i. not (is_between k (length ns) (number_in ns (printed_name i)))) is)
    (sym h ∙ some_true o a q))
  where
    two : nat_le 2 m ≡ true → 2 ≤ m
    two x = grind (arith, nat_tests)

    go : (nat_le 2 m ≡ true) ⊎
        (list_any (λ i. not (is_between k (length ns) (number_in ns (printed_name i)))) is ≡ true) →
        Holds t BadStart
    go (inl x) = inl (subst (λ (y : List Identifier). 2 ≤ length y) g
        (subst (λ n. 2 ≤ n) j (two x)))
    go (inr x) =
        let (i, c, p) = there (λ i. not (is_between k (length ns) (number_in ns (printed_name i))))
        is
        x in
        inr (
          i,
          subst (λ (y : List Identifier). Contains y i) g c,
          sym (between_here t ns k i e f) ∙
              not_true (is_between k (length ns) (number_in ns (printed_name i))) p,
        )

pub no_start : (t : Tree) (ns : List Name) (k m : ℕ) (is : List Identifier) (o : Option ℕ) →
    ns ≡ symbols t → k ≡ length (tokens t) → is ≡ starts t → m ≡ length is →
    is_some o ≡ (nat_le 2 m || list_any
    (λ i. not (is_between k (length ns) (number_in ns (printed_name i)))) is) → o ≡ None →
    Holds t BadStart → ⊥
no_start t ns k m is o e f g j h q p =
    go (or_none (nat_le 2 m) (list_any
    (λ i. not (is_between k (length ns) (number_in ns (printed_name i)))) is) (sym h ∙ none_false o
    q)) p
  where
    few : nat_le 2 m ≡ false → 2 ≤ m → ⊥
    few x y = grind (arith, nat_tests)

    go : (nat_le 2 m ≡ false) ×
        (list_any (λ i. not (is_between k (length ns) (number_in ns (printed_name i)))) is ≡ false)
        →
        Holds t BadStart → ⊥
    go (x, y) (inl z) = few x
        (subst (λ n. 2 ≤ n) (sym (j ∙ ap (λ (w : List Identifier). length w) g)) z)
    go (x, y) (inr (i, c, z)) = false_true (sym z ∙ sym (between_here t ns k i e f) ∙ not_false
        (is_between k (length ns) (number_in ns (printed_name i)))
        (nowhere (λ i. not (is_between k (length ns) (number_in ns (printed_name i)))) is i y
        (subst (λ (w : List Identifier). Contains w i) (sym g) c)))

-- ---- the limits

pub long_found : (t : Tree) (ns : List Name) (vs : List RuleValue) →
    vs ≡ map (rule_numbers (symbols t) (token_precedences t)) (rules t) →
    list_any is_long vs ≡ true → Holds t Limit
long_found t ns vs e h =
    let (r, c, p) = there (λ (r : Rule). is_long (rule_numbers (symbols t) (token_precedences t) r))
    (rules t) (sym (any_map (rules t)) ∙ ap (list_any is_long) (sym e) ∙ h) in
    inr (inr (r, c, long r p))
  where
    any_map : (rs : List Rule) → list_any is_long
        (map (rule_numbers (symbols t) (token_precedences t)) rs) ≡ list_any
        (λ (r : Rule). is_long (rule_numbers (symbols t) (token_precedences t) r)) rs
    any_map [] = refl
    any_map (r ∷ rs) = ap (λ b. is_long (rule_numbers (symbols t) (token_precedences t) r) || b)
        (any_map rs)

    more : (n : ℕ) → nat_lt longest_body n ≡ true → longest_body < n
    more n x = grind (arith, nat_tests)

    long : (r : Rule) → is_long (rule_numbers (symbols t) (token_precedences t) r) ≡ true →
        longest_body < length r.body
    long r x = subst (λ n. longest_body < n) (length-map r.body (number_in (symbols t)))
        (more (length (map (number_in (symbols t)) r.body)) x)

pub no_limit : (t : Tree) (a b : ℕ) (vs : List RuleValue) → a ≡ length (symbols t) →
    b ≡ length (rules t) → vs ≡ map (rule_numbers (symbols t) (token_precedences t)) (rules t) →
    a ≤ most_symbols → b ≤ most_rules → list_any is_long vs ≡ false → Holds t Limit → ⊥
no_limit t a b vs e f g x y z (inl p) =
    let q : most_symbols < a = subst (λ n. most_symbols < n) (sym e) p in
    absurd (omega arith)
no_limit t a b vs e f g x y z (inr (inl p)) =
    let q : most_rules < b = subst (λ n. most_rules < n) (sym f) p in
    absurd (omega arith)
no_limit t a b vs e f g x y z (inr (inr (r, c, p))) =
    not_more (length (map (number_in (symbols t)) r.body))
    (nowhere is_long vs (rule_numbers (symbols t) (token_precedences t) r) z
    (subst (λ (w : List RuleValue). Contains w (rule_numbers (symbols t) (token_precedences t) r))
    (sym g) (map_there (rules t) r c)))
    (subst (λ n. longest_body < n) (sym (length-map r.body (number_in (symbols t)))) p)
  where
    not_more : (n : ℕ) → nat_lt longest_body n ≡ false → longest_body < n → ⊥
    not_more n u v = grind (arith, nat_tests)

    map_there : (rs : List Rule) (r : Rule) → Contains rs r →
        Contains (map (rule_numbers (symbols t) (token_precedences t)) rs)
        (rule_numbers (symbols t) (token_precedences t) r)
    map_there [] r c = let k = c.1 in absurd (omega arith)
    map_there (s ∷ rs) r (zero, l, q) =
        (0, omega arith, ap (rule_numbers (symbols t) (token_precedences t)) q)
    map_there (s ∷ rs) r (suc k, l, q) =
        let (m, n, u) = map_there rs r (k, omega arith, q) in
        (suc m, omega arith, u)
