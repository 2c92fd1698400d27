-- Which names are tokens, and tables by the numbers of names.
use Rattle.std.proofs.Common.{ℕ, zero, suc, Bool, true, false, ◌||◌, cond, ◌≡◌, ◌<◌, ◌≤◌, ◌+◌, ◌⊎◌}
use Rattle.std.proofs.Common.{inl, inr, List, [], ◌∷◌, ◌++◌, map, filter, length, Option}
use Rattle.std.proofs.Common.{refl, sym, ◌∙◌, ap, subst, arith, get_or, length-append, codes}
use Rattle.std.specs.List.{flat_map}
use Rattle.std.specs.Str.{bytes_eq}
use Rattle.std.specs.Cmp.Lexicographic.{same_text}
use Rattle.std.proofs.lemmas.List.{length-map, map-append}
use Rattle.std.proofs.lemmas.List.Folds.{list_any-append}
use Rattle.ydeclarations.specs.Elaboration.{Listing, appearances, identifiers_of, is_literal}
use Rattle.ydeclarations.specs.Elaboration.{is_token}
use Rattle.ydeclarations.specs.Elaboration.{level_at, given_by, listed_name, listing_of, listings}
use Rattle.ydeclarations.specs.Elaboration.{listings_from, option_list, said_of, token_names_of}
use Rattle.ydeclarations.specs.Elaboration.{tokens}
use Rattle.ydeclarations.specs.Elaboration.{uses, who_of}
use Rattle.ysymbols.specs.Names.{Name, is_among, with_name, with_names, number_in}
use Rattle.ydeclarations.specs.Printed.{printed_name}
use Rattle.ysyntax.specs.Tree.{Definition, Entry, Identifier, Tree, start, union, block, listing}
use Rattle.ysyntax.specs.Tree.{types}
use Rattle.ysymbols.proofs.NameSteps.{among_all, eq_self}
use Rattle.ysymbols.proofs.NameSteps.{among_number, false_true, number_among, or_left, or_right}
use Rattle.ysymbols.proofs.Numbers.{below_or_last}
use Rattle.std.proofs.lemmas.Bool.{or_cases}

-- ---- names among names

same_bool : (a b : Bool) → (a ≡ true → b ≡ true) → (b ≡ true → a ≡ true) → a ≡ b
same_bool true b f g = sym (f refl)
same_bool false true f g = g refl
same_bool false false f g = refl

pub among_left : (xs ys : List Name) (n : Name) → is_among xs n ≡ true →
    is_among (xs ++ ys) n ≡ true
among_left xs ys n h = list_any-append (bytes_eq n) xs ys ∙ or_left (is_among xs n) (is_among ys n)
    h

pub among_right : (xs ys : List Name) (n : Name) → is_among ys n ≡ true →
    is_among (xs ++ ys) n ≡ true
among_right xs ys n h = list_any-append (bytes_eq n) xs ys ∙ or_right (is_among xs n)
    (is_among ys n) h

pub among_cases : (xs ys : List Name) (n : Name) → is_among (xs ++ ys) n ≡ true →
    (is_among xs n ≡ true) ⊎ (is_among ys n ≡ true)
among_cases xs ys n h = or_cases (is_among xs n) (is_among ys n)
    (sym (list_any-append (bytes_eq n) xs ys) ∙ h)

among_filter : (p : Name → Bool) (xs : List Name) (n : Name) → p n ≡ true → is_among xs n ≡ true →
    is_among (filter p xs) n ≡ true
among_filter p [] n hp h = h
among_filter p (x ∷ xs) n hp h = go (or_cases (bytes_eq n x) (is_among xs n) h) (p x) refl
    (λ r. among_filter p xs n hp r)
  where
    go : (bytes_eq n x ≡ true) ⊎ (is_among xs n ≡ true) → (b : Bool) → p x ≡ b →
        (is_among xs n ≡ true → is_among (filter p xs) n ≡ true) →
        is_among (cond (p x) (x ∷ filter p xs) (filter p xs)) n ≡ true
    go (inl e) true q again = rw q (or_left (bytes_eq n x) (is_among (filter p xs) n) e)
    go (inl e) false q again = absurd (false_true (sym q ∙ ap p (sym (same_text n x (sym e))) ∙ hp))
    go (inr r) true q again = rw q (or_right (bytes_eq n x) (is_among (filter p xs) n) (again r))
    go (inr r) false q again = rw q (again r)

filter_among : (p : Name → Bool) (xs : List Name) (n : Name) → is_among (filter p xs) n ≡ true →
    p n ≡ true
filter_among p [] n h = absurd (false_true h)
filter_among p (x ∷ xs) n h = go (p x) refl h (λ r. filter_among p xs n r)
  where
    go : (b : Bool) → p x ≡ b → is_among (cond (p x) (x ∷ filter p xs) (filter p xs)) n ≡ true →
        (is_among (filter p xs) n ≡ true → p n ≡ true) → p n ≡ true
    go true q k again = split (or_cases (bytes_eq n x) (is_among (filter p xs) n)
        (subst (λ c. is_among (cond c (x ∷ filter p xs) (filter p xs)) n ≡ true) q k))
      where
        split : (bytes_eq n x ≡ true) ⊎ (is_among (filter p xs) n ≡ true) → p n ≡ true
        split (inl e) = ap p (same_text n x (sym e)) ∙ q
        split (inr r) = again r
    go false q k again = again
        (subst (λ c. is_among (cond c (x ∷ filter p xs) (filter p xs)) n ≡ true) q k)

literals_appear : (is : List Identifier) (n : Name) → is_among (map printed_name (filter is_literal
    is))
    n ≡ true → is_among (map printed_name is) n ≡ true
literals_appear [] n h = h
literals_appear (i ∷ is) n h = go (is_literal i) refl h (λ r. literals_appear is n r)
  where
    go : (b : Bool) → is_literal i ≡ b →
        is_among (map printed_name (cond (is_literal i) (i ∷ filter is_literal is)
        (filter is_literal is))) n ≡ true →
        (is_among (map printed_name (filter is_literal is)) n ≡ true → is_among (map printed_name
        is) n ≡
        true) → is_among (map printed_name (i ∷ is)) n ≡ true
    go true q k again = split (or_cases (bytes_eq n (printed_name i))
        (is_among (map printed_name (filter is_literal is)) n)
        (subst (λ c. is_among (map printed_name (cond c (i ∷ filter is_literal is)
        (filter is_literal is))) n ≡ true) q k))
      where
        split : (bytes_eq n (printed_name i) ≡ true) ⊎
            (is_among (map printed_name (filter is_literal is)) n ≡ true) →
            is_among (map printed_name (i ∷ is)) n ≡ true
        split (inl e) = or_left (bytes_eq n (printed_name i)) (is_among (map printed_name is) n) e
        split (inr r) = or_right (bytes_eq n (printed_name i)) (is_among (map printed_name is) n)
            (again r)
    go false q k again = or_right (bytes_eq n (printed_name i)) (is_among (map printed_name is) n)
        (again (subst (λ c. is_among
        (map printed_name (cond c (i ∷ filter is_literal is) (filter is_literal is))) n ≡ true) q
        k))

listed_entries : (g : Entry → Listing) → ((e : Entry) → listed_name (g e) ≡ printed_name (who_of e))
    →
    (es : List Entry) → map listed_name (map g es) ≡ map printed_name (map who_of es)
listed_entries g h [] = refl
listed_entries g h (e ∷ es) = ap (λ (n : Name). n ∷ map listed_name (map g es)) (h e) ∙ ap
    (λ (ns : List Name). printed_name (who_of e) ∷ ns) (listed_entries g h es)

listed_declared : (k : ℕ) (ds : List Definition) (n : Name) →
    is_among (map listed_name (listings_from k ds)) n ≡ true →
    is_among (map printed_name (flat_map identifiers_of ds)) n ≡ true
listed_declared k [] n h = h
listed_declared k (start i ∷ ds) n h = or_right (bytes_eq n (printed_name i))
    (is_among (map printed_name (flat_map identifiers_of ds)) n) (listed_declared k ds n h)
listed_declared k (union t ∷ ds) n h = listed_declared k ds n h
listed_declared k (block ∷ ds) n h = listed_declared k ds n h
listed_declared k (types tag ns ∷ ds) n h = listed_declared k ds n h
listed_declared k (listing w tag es ∷ ds) n h =
    let here : List Listing = map (listing_of (given_by w (level_at w k))) es in
    let rest : List Listing = listings_from (level_at w k) ds in
    subst (λ (xs : List Name). is_among xs n ≡ true)
    (sym (map-append printed_name (map who_of es) (flat_map identifiers_of ds)))
    (split (among_cases (map printed_name (map who_of es)) (map listed_name rest) n
    (subst (λ (xs : List Name). is_among (xs ++ map listed_name rest) n ≡ true)
    (listed_entries (listing_of (given_by w (level_at w k))) (λ e. refl) es)
    (subst (λ (xs : List Name). is_among xs n ≡ true) (map-append listed_name here rest) h)))
    (listed_declared (level_at w k) ds n))
  where
    split : (is_among (map printed_name (map who_of es)) n ≡ true) ⊎
        (is_among (map listed_name (listings_from (level_at w k) ds)) n ≡ true) →
        (is_among (map listed_name (listings_from (level_at w k) ds)) n ≡ true →
        is_among (map printed_name (flat_map identifiers_of ds)) n ≡ true) →
        is_among (map printed_name (map who_of es) ++ map printed_name (flat_map identifiers_of ds))
        n ≡ true
    split (inl e) f = among_left (map printed_name (map who_of es)) (map printed_name (flat_map
        identifiers_of ds))
        n e
    split (inr r) f = among_right (map printed_name (map who_of es)) (map printed_name (flat_map
        identifiers_of ds))
        n (f r)

-- ---- the tokens by number are the tokens

abbrev first_two : List Name
first_two = codes "$end" ∷ codes "error" ∷ []

abbrev others : Tree → List Name
others t = map listed_name (listings t) ++ map printed_name (filter is_literal (appearances t))

abbrev those : Tree → List Name
those t = token_names_of (listings t) (appearances t)

abbrev names_of : Tree → List Name
names_of t = map printed_name (appearances t)

others_appear : (t : Tree) (n : Name) → is_among (others t) n ≡ true →
    is_among (names_of t) n ≡ true
others_appear t n h = go (among_cases (map listed_name (listings t))
    (map printed_name (filter is_literal (appearances t))) n h)
  where
    go : (is_among (map listed_name (listings t)) n ≡ true) ⊎
        (is_among (map printed_name (filter is_literal (appearances t))) n ≡ true) →
        is_among (map printed_name (appearances t)) n ≡ true
    go (inl e) = subst (λ (xs : List Name). is_among xs n ≡ true)
        (sym (map-append printed_name (flat_map identifiers_of t.definitions) (uses t)))
        (among_left (map printed_name (flat_map identifiers_of t.definitions)) (map printed_name
        (uses t)) n
        (listed_declared 0 t.definitions n e))
    go (inr e) = literals_appear (appearances t) n e

forth : (t : Tree) (n : Name) →
    (is_among first_two n || is_among (filter (is_among (those t)) (names_of t)) n) ≡ true →
    is_among (those t) n ≡ true
forth t n h = go (or_cases (is_among first_two n)
    (is_among (filter (is_among (those t)) (names_of t)) n) h)
  where
    go : (is_among first_two n ≡ true) ⊎
        (is_among (filter (is_among (those t)) (names_of t)) n ≡ true) → is_among (those t) n ≡ true
    go (inl e) = among_left first_two (others t) n e
    go (inr e) = filter_among (is_among (those t)) (names_of t) n e

back : (t : Tree) (n : Name) → is_among (those t) n ≡ true →
    (is_among first_two n || is_among (filter (is_among (those t)) (names_of t)) n) ≡ true
back t n h = go (among_cases first_two (others t) n h)
  where
    go : (is_among first_two n ≡ true) ⊎ (is_among (others t) n ≡ true) →
        (is_among first_two n || is_among (filter (is_among (those t)) (names_of t)) n) ≡ true
    go (inl e) = or_left (is_among first_two n) (is_among (filter (is_among (those t)) (names_of t))
        n) e
    go (inr e) = or_right (is_among first_two n)
        (is_among (filter (is_among (those t)) (names_of t)) n) (among_filter (is_among (those t))
        (names_of t) n h (others_appear t n e))

pub token_among : (t : Tree) (n : Name) → is_among (tokens t) n ≡ is_token t n
token_among t n = among_all first_two (filter (is_among (those t)) (names_of t)) n ∙ same_bool
    (is_among first_two n || is_among (filter (is_among (those t)) (names_of t)) n)
    (is_among (those t) n) (forth t n) (back t n)

-- a token that is listed is among the tokens by number
pub listed_token : (t : Tree) (n : Name) → is_among (map listed_name (listings t)) n ≡ true →
    is_among (tokens t) n ≡ true
listed_token t n h = token_among t n ∙ among_right (codes "$end" ∷ codes "error" ∷ [])
    (map listed_name (listings t) ++ map printed_name (filter is_literal (appearances t))) n
    (among_left (map listed_name (listings t)) (map printed_name (filter is_literal (appearances
    t))) n
    h)

-- what is said is said of a name that is listed
pub said_listed : {A : Type 0} (f : Listing → Option A) (ls : List Listing) (n : Name) →
    0 < length (said_of f ls n) → is_among (map listed_name ls) n ≡ true
said_listed f [] n h = absurd (omega arith)
said_listed f (l ∷ ls) n h = go (bytes_eq n (printed_name l.who)) refl h (said_listed f ls n)
  where
    go : (b : Bool) → bytes_eq n (printed_name l.who) ≡ b →
        0 < length (cond (bytes_eq n (printed_name l.who)) (option_list (f l)) [] ++ said_of f ls n)
        →
        (0 < length (said_of f ls n) → is_among (map listed_name ls) n ≡ true) →
        (bytes_eq n (listed_name l) || is_among (map listed_name ls) n) ≡ true
    go true q k again = or_left (bytes_eq n (listed_name l)) (is_among (map listed_name ls) n) q
    go false q k again = or_right (bytes_eq n (listed_name l)) (is_among (map listed_name ls) n)
        (again (subst (λ c. 0 < length (cond c (option_list (f l)) [] ++ said_of f ls n)) q k))

-- ---- numbers of names

-- the number stays when names are put after
pub number_stays : (ns more : List Name) (n : Name) → is_among ns n ≡ true →
    number_in (ns ++ more) n ≡ number_in ns n
number_stays [] more n h = absurd (false_true h)
number_stays (m ∷ ns) more n h = go (bytes_eq n m) refl (number_stays ns more n) h
  where
    go : (b : Bool) → bytes_eq n m ≡ b →
        (is_among ns n ≡ true → number_in (ns ++ more) n ≡ number_in ns n) →
        (bytes_eq n m || is_among ns n) ≡ true → cond (bytes_eq n m) 0
        (suc (number_in (ns ++ more) n)) ≡ cond (bytes_eq n m) 0 (suc (number_in ns n))
    go true q again k = rw q refl
    go false q again k = ap (λ j. cond (bytes_eq n m) 0 (suc j))
        (again (subst (λ c. (c || is_among ns n) ≡ true) q k))

pub number_behind : (ns more : List Name) (n : Name) → is_among ns n ≡ false → length ns ≤ number_in
    (ns ++ more) n
number_behind [] more n h = omega arith
number_behind (m ∷ ns) more n h = go (bytes_eq n m) refl (number_behind ns more n) h
  where
    go : (b : Bool) → bytes_eq n m ≡ b →
        (is_among ns n ≡ false → length ns ≤ number_in (ns ++ more) n) →
        (bytes_eq n m || is_among ns n) ≡ false → suc (length ns) ≤ cond (bytes_eq n m) 0
        (suc (number_in (ns ++ more) n))
    go true q again k = absurd (false_true (sym k ∙ ap (λ c. c || is_among ns n) q))
    go false q again k =
        let r : length ns ≤ number_in (ns ++ more) n =
        again (subst (λ c. (c || is_among ns n) ≡ false) q k) in
        rw q (omega arith)

-- what is with_name goes after
pub noted_behind : (ns ms : List Name) → (more : List Name) × (with_names ns ms ≡ ns ++ more)
noted_behind ns [] = ([], sym (append_none ns))
  where
    append_none : (xs : List Name) → xs ++ [] ≡ xs
    append_none [] = refl
    append_none (x ∷ xs) = ap (λ (ys : List Name). x ∷ ys) (append_none xs)
noted_behind ns (m ∷ ms) = go (is_among ns m) refl (noted_behind ns ms)
    (noted_behind (ns ++ m ∷ []) ms)
  where
    assoc : (xs ys zs : List Name) → (xs ++ ys) ++ zs ≡ xs ++ (ys ++ zs)
    assoc [] ys zs = refl
    assoc (x ∷ xs) ys zs = ap (λ (us : List Name). x ∷ us) (assoc xs ys zs)

    go : (b : Bool) → is_among ns m ≡ b → ((more : List Name) × (with_names ns ms ≡ ns ++ more)) →
        ((more : List Name) × (with_names (ns ++ m ∷ []) ms ≡ (ns ++ m ∷ []) ++ more)) →
        (more : List Name) × (with_names (cond (is_among ns m) ns (ns ++ m ∷ [])) ms ≡ ns ++ more)
    go true q p r = rw q p
    go false q p r = rw q (m ∷ r.0, r.1 ∙ assoc ns (m ∷ []) r.0)

-- each name stands at its own number
abbrev pub Distinct : List Name → Type 0
Distinct ns = (i : ℕ) → i < length ns → number_in ns (get_or ns i []) ≡ i

pub distinct_noted : (ns : List Name) (m : Name) → Distinct ns → Distinct (with_name ns m)
distinct_noted ns m d = go (is_among ns m) refl
  where
    get_before : (xs : List Name) (x : Name) (i : ℕ) → i < length xs → get_or (xs ++ x ∷ []) i [] ≡
        get_or xs i []
    get_before [] x i h = absurd (omega arith)
    get_before (y ∷ xs) x zero h = refl
    get_before (y ∷ xs) x (suc i) h = get_before xs x i (omega arith)

    get_last : (xs : List Name) (x : Name) → get_or (xs ++ x ∷ []) (length xs) [] ≡ x
    get_last [] x = refl
    get_last (y ∷ xs) x = get_last xs x

    there : (i : ℕ) → (h : i < length ns) → is_among ns (get_or ns i []) ≡ true
    there i h = number_among ns (get_or ns i []) (subst (λ k. k < length ns) (sym (d i h)) h)

    at_end : is_among ns m ≡ false → number_in (ns ++ m ∷ []) m ≡ length ns
    at_end q =
        let a : length ns ≤ number_in (ns ++ m ∷ []) m = number_behind ns (m ∷ []) m q in
        let b : number_in (ns ++ m ∷ []) m < length (ns ++ m ∷ []) = among_number (ns ++ m ∷ []) m
        (among_right ns (m ∷ []) m (or_left (bytes_eq m m) false (eq_self m))) in
        let c : length (ns ++ m ∷ []) ≡ length ns + 1 = length-append ns (m ∷ []) in
        omega arith

    placed : is_among ns m ≡ false → (i : ℕ) → (i < length ns) ⊎ (i ≡ length ns) →
        number_in (ns ++ m ∷ []) (get_or (ns ++ m ∷ []) i []) ≡ i
    placed q i (inl h) = ap (number_in (ns ++ m ∷ [])) (get_before ns m i h) ∙ number_stays ns
        (m ∷ []) (get_or ns i []) (there i h) ∙ d i h
    placed q i (inr h) = ap (λ k. number_in (ns ++ m ∷ []) (get_or (ns ++ m ∷ []) k [])) h ∙ ap
        (number_in (ns ++ m ∷ [])) (get_last ns m) ∙ at_end q ∙ sym h

    go : (b : Bool) → is_among ns m ≡ b →
        (i : ℕ) → i < length (cond (is_among ns m) ns (ns ++ m ∷ [])) →
        number_in (cond (is_among ns m) ns (ns ++ m ∷ []))
        (get_or (cond (is_among ns m) ns (ns ++ m ∷ [])) i []) ≡ i
    go true q = rw q d
    go false q = rw q (λ i h.
        placed q i (below_or_last i (length ns) (subst (λ k. i < k) (length-append ns (m ∷ [])) h)))

pub distinct_all : (ns ms : List Name) → Distinct ns → Distinct (with_names ns ms)
distinct_all ns [] d = d
distinct_all ns (m ∷ ms) d = distinct_all (with_name ns m) ms (distinct_noted ns m d)

pub distinct_none : Distinct []
distinct_none i h = absurd (omega arith)

-- a table of what holds of each name, in their order
pub by_numbers : {A : Type 0} (f : Name → A) (ns : List Name) (table : List A) (d : A) →
    Distinct ns → length table ≡ length ns →
    ((n : Name) → number_in ns n < length ns → get_or table (number_in ns n) d ≡ f n) →
    table ≡ map f ns
by_numbers f ns table d u e h = same_lists table (map f ns) d (e ∙ sym (length-map ns f))
    (λ i l. here i (subst (λ k. i < k) e l))
  where
    same_lists : {A : Type 0} (xs ys : List A) (d : A) → length xs ≡ length ys →
        ((i : ℕ) → i < length xs → get_or xs i d ≡ get_or ys i d) → xs ≡ ys
    same_lists [] [] d e h = refl
    same_lists [] (y ∷ ys) d e h = absurd (omega arith)
    same_lists (x ∷ xs) [] d e h = absurd (omega arith)
    same_lists (x ∷ xs) (y ∷ ys) d e h = ap (λ z. z ∷ xs) (h 0 (omega arith)) ∙ ap
        (λ (zs : List _). y ∷ zs)
        (same_lists xs ys d (omega arith) (λ i l. h (suc i) (omega arith)))

    get_map : (xs : List Name) (i : ℕ) → i < length xs → get_or (map f xs) i d ≡ f (get_or xs i [])
    get_map [] i l = absurd (omega arith)
    get_map (x ∷ xs) zero l = refl
    get_map (x ∷ xs) (suc i) l = get_map xs i (omega arith)

    here : (i : ℕ) → i < length ns → get_or table i d ≡ get_or (map f ns) i d
    here i l =
        let n : Name = get_or ns i [] in
        let k : number_in ns n ≡ i = u i l in
        ap (λ j. get_or table j d) (sym k) ∙ h n (subst (λ j. j < length ns) (sym k) l) ∙ sym
        (get_map ns i l)
