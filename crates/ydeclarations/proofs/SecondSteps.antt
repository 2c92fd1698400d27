-- The first listing that gives a second precedence.
use Rattle.std.proofs.Common.{ℕ, zero, suc, ◌≡◌, ◌+◌, ◌<◌, ◌≤◌, inl, inr, Bool, true, false}
use Rattle.std.proofs.Common.{List, [], ◌∷◌, ◌++◌, length, map, take, drop, get_or, is_some}
use Rattle.std.proofs.Common.{Option, Some, None, IsSome, refl, sym, ap, subst, ◌∙◌, arith, ◌||◌}
use Rattle.std.proofs.Common.{length-append, append-nil, Result, Ok, Err, Vec}
use Rattle.std.specs.Prelude.{IfErr}
use Rattle.std.specs.Global.{Global}
use Rattle.std.specs.List.{AllByRecursion}
use Rattle.std.specs.Str.{bytes_eq}
use Rattle.std.proofs.lemmas.Grind.{flat_map-append}
use Rattle.std.proofs.lemmas.List.{drop_more, get_or_read, map-append, take-append-drop, take_more}
use Rattle.ydeclarations.specs.declared.mistake.Mistake.TheVariants as mistakes
use Rattle.ydeclarations.specs.declared.mistake.Refused.{Refused}
use Rattle.ydeclarations.specs.declared.mistake.Refused.TheVariants as refused
use Rattle.ydeclarations.specs.declared.outline.Listed.{Listed}
use Rattle.ydeclarations.specs.declared.outline.Outline.{Outline}
use Rattle.ydeclarations.specs.Elaboration.{Listing, gives_of, listed_name, listings, option_list}
use Rattle.ydeclarations.specs.Elaboration.{said_of}
use Rattle.ydeclarations.specs.Elaboration.{tokens}
use Rattle.ydeclarations.specs.Outline.{Outlines, listed_view}
use Rattle.ydeclarations.specs.OutlineSites.{IsPlaced, OutlineSites, is_of_rule, occurrence_at}
use Rattle.ydeclarations.specs.Owned.{Precedes, Refuses}
use Rattle.ydeclarations.specs.Places.{GivesSecond, SecondAt, StandsAt, listed_of, select}
use Rattle.ydeclarations.specs.Told.{AreAmong, IsSecond, SoFar}
use Rattle.ysymbols.specs.declared.precedence.Precedence.{Precedence}
use Rattle.ysymbols.specs.Names.{Name, is_among, number_in}
use Rattle.ysymbols.proofs.NameSteps.{among_number, eq_self, false_true}
use Rattle.ysyntax.specs.Sites.{Role, Site, listed}
use Rattle.ysyntax.specs.Tree.{Identifier, Tree}
use Rattle.ydeclarations.proofs.SiteSteps.{select_append}
use Rattle.ydeclarations.proofs.TokenSteps.{listed_token}

abbrev pub place_of : Listed → ℕ
place_of l = l.who.at

-- after so many listings, the first that gives a second precedence stands at the place
abbrev pub Later : List Listed → ℕ → ℕ → Type 0
Later xs i at = SecondAt (map listed_view (take i xs)) (map listed_view (drop i xs))
    (map place_of (drop i xs)) at

-- the listing there gives a second precedence
abbrev pub SecondThere : List Listed → ℕ → Listed → Type 0
SecondThere xs i d = GivesSecond (map listed_view (take i xs)) (listed_view (get_or xs i d))

here : (xs : List Listed) (i : ℕ) (d : Listed) (at : ℕ) → i < length xs →
    SecondAt (map listed_view (take i xs)) (listed_view (get_or xs i d)
    ∷ map listed_view (drop (i + 1) xs)) (place_of (get_or xs i d)
    ∷ map place_of (drop (i + 1) xs)) at → Later xs i at
here xs i d at h s = subst (λ (ys : List Listed). SecondAt (map listed_view (take i xs))
    (map listed_view ys) (map place_of ys) at) (sym (drop_more xs i d h)) s

-- where the listing there gives none, the first stands after it
pub goes_on : (xs : List Listed) (i : ℕ) (d : Listed) (at : ℕ) → i < length xs →
    (SecondThere xs i d → ⊥) → Later xs (i + 1) at → Later xs i at
goes_on xs i d at h n s = here xs i d at h (inr (
  n,
  subst (λ (ys : List Listing).
      SecondAt ys (map listed_view (drop (i + 1) xs)) (map place_of (drop (i + 1) xs)) at)
      (ap (λ (ys : List Listed). map listed_view ys) (take_more xs i d h)
      ∙ map-append listed_view (take i xs) (get_or xs i d ∷ [])) s,
))

pub hits : (xs : List Listed) (i : ℕ) (d : Listed) → i < length xs → SecondThere xs i d →
    Later xs i (place_of (get_or xs i d))
hits xs i d h s = here xs i d (place_of (get_or xs i d)) h (inl (s, refl))

-- a token has in the table what is said of it so far
counts : (ns : List Name) (table : List (Option Precedence)) (xs : List Listed) (i : ℕ) (n : Name) →
    SoFar gives_of ns table (map listed_view (drop i xs)) (map listed_view xs) →
    number_in ns n < length ns → length (option_list (get_or table (number_in ns n) None))
    ≡ length (said_of gives_of (map listed_view (take i xs)) n)
counts ns table xs i n s h =
    let held : List Precedence = option_list (get_or table (number_in ns n) None) in
    let front : List Precedence = said_of gives_of (map listed_view (take i xs)) n in
    let back : List Precedence = said_of gives_of (map listed_view (drop i xs)) n in
    let cut : said_of gives_of (map listed_view xs) n ≡ front ++ back =
    ap (λ (ys : List Listed). said_of gives_of (map listed_view ys) n)
    (sym (take-append-drop i xs))
    ∙ ap (λ (ys : List Listing). said_of gives_of ys n)
    (map-append listed_view (take i xs) (drop i xs))
    ∙ flat_map-append _ (map listed_view (take i xs)) (map listed_view (drop i xs)) in
    let e : length (held ++ back) ≡ length (front ++ back) =
    ap (λ (ys : List Precedence). length ys) (s.said n h ∙ cut) in
    let a = length-append held back in
    let b = length-append front back in
    omega (arith, e, a, b)

-- a listing that gives nothing gives no second precedence
pub gives_none : (xs : List Listed) (i : ℕ) (d : Listed) →
    gives_of (listed_view (get_or xs i d)) ≡ None → SecondThere xs i d → ⊥
gives_none xs i d e (some, more) =
    let w : IsSome {T = Precedence} None = subst (λ (o : Option Precedence). IsSome o) e some in cc

-- a token that has none so far is not given a second one
pub has_none : (ns : List Name) (table : List (Option Precedence)) (xs : List Listed) (i : ℕ)
    (d : Listed) (k : ℕ) → k ≡ number_in ns (listed_name (listed_view (get_or xs i d))) →
    k < length table → get_or table k None ≡ None →
    SoFar gives_of ns table (map listed_view (drop i xs)) (map listed_view xs) →
    SecondThere xs i d → ⊥
has_none ns table xs i d k hk hl free s (some, more) =
    let n : Name = listed_name (listed_view (get_or xs i d)) in
    let within : number_in ns n < length ns =
    subst (λ j. j < length ns) hk (subst (λ m. k < m) s.each hl) in
    let c = counts ns table xs i n s within in
    let e : length (option_list (get_or table (number_in ns n) None)) ≡ 0 =
    ap (λ j. length (option_list (get_or table j None))) (sym hk)
    ∙ ap (λ (o : Option Precedence). length (option_list o)) free in
    absurd (omega (arith, c, e, more))

-- one that has one is
pub has_one : (ns : List Name) (table : List (Option Precedence)) (xs : List Listed) (i : ℕ)
    (d : Listed) (v : Precedence) (k : ℕ) (x : Option Precedence) (b : Bool) →
    gives_of (listed_view (get_or xs i d)) ≡ Some v →
    k ≡ number_in ns (listed_name (listed_view (get_or xs i d))) → k < length table →
    x ≡ get_or table k x → b ≡ is_some x → b ≡ true →
    SoFar gives_of ns table (map listed_view (drop i xs)) (map listed_view xs) →
    SecondThere xs i d
has_one ns table xs i d v k x b e hk hl r q t s =
    go x q (sym (get_or_read table k x hl r None))
  where
    n : Name
    n = listed_name (listed_view (get_or xs i d))

    go : (o : Option Precedence) → b ≡ is_some o → get_or table k None ≡ o → SecondThere xs i d
    go None q a = absurd (false_true (sym q ∙ t))
    go (Some u) q a =
        let within : number_in ns (listed_name (listed_view (get_or xs i d))) < length ns =
        subst (λ j. j < length ns) hk (subst (λ m. k < m) s.each hl) in
        let c = counts ns table xs i (listed_name (listed_view (get_or xs i d))) s within in
        let w : length (option_list (get_or table
        (number_in ns (listed_name (listed_view (get_or xs i d)))) None)) ≡ 1 =
        ap (λ j. length (option_list (get_or table j None))) (sym hk)
        ∙ ap (λ (o : Option Precedence). length (option_list o)) a in
        (subst (λ (o : Option Precedence). IsSome o) (sym e) refl, omega (arith, c, w))

pub named_there : (xs : List Listed) (i : ℕ) (d : Listed) → i < length xs →
    is_among (map listed_name (map listed_view xs)) (listed_name (listed_view (get_or xs i d)))
    ≡ true
named_there [] i d h = absurd (omega arith)
named_there (x ∷ xs) zero d h =
    ap (λ b. b || is_among (map listed_name (map listed_view xs)) (listed_name (listed_view x)))
    (eq_self (listed_name (listed_view x)))
named_there (x ∷ xs) (suc i) d h =
    or_right (bytes_eq (listed_name (listed_view (get_or xs i d))) (listed_name (listed_view x)))
    (named_there xs i d (omega arith))
  where
    or_right : (a : Bool) {b : Bool} → b ≡ true → (a || b) ≡ true
    or_right true h = refl
    or_right false h = h

-- each listed token has a place in the table
pub no_far : (ns : List Name) (table : List (Option Precedence)) (xs : List Listed) (i : ℕ)
    (d : Listed) (k : ℕ) (rest : List Listing) →
    k ≡ number_in ns (listed_name (listed_view (get_or xs i d))) →
    i < length xs → length table ≤ k → SoFar gives_of ns table rest (map listed_view xs) →
    AreAmong ns (map listed_view xs) → ⊥
no_far ns table xs i d k rest hk h far s all =
    let w = all (listed_name (listed_view (get_or xs i d))) (named_there xs i d h) in
    let e = s.each in
    absurd (omega (arith, w, e, hk, far))

-- ---- by the sites of a tree

-- where no role of rules is of a kind, rules have no site of it
pub none_of_rules : {A : Type 0} (f : Role → Option A) →
    ((r : Role) → is_of_rule r ≡ true → f r ≡ None) → (rs : List Site) →
    AllByRecursion (λ s. is_of_rule s.role ≡ true) rs → select f rs ≡ []
none_of_rules f none [] a = refl
none_of_rules f none (s ∷ rs) a = rw (none s.role a.0) (none_of_rules f none rs a.1)

no_listed : (r : Role) → is_of_rule r ≡ true → listed_of r ≡ None
no_listed (listed i) w = cc
no_listed _ w = refl

places_seen : (xs : List Listed) →
    map (λ (p : Identifier × ℕ). p.1) (map (λ (l : Listed). occurrence_at l.who) xs)
    ≡ map place_of xs
places_seen [] = refl
places_seen (x ∷ xs) = ap (λ z. place_of x ∷ z) (places_seen xs)

-- a refusal of a second precedence has its place in the tree
pub second_placed : (t : Tree) (o : Outline) (ds rs : List Site) (ns : List Name)
    (now : List Listed) (e : Refused) → Outlines o t → OutlineSites o ds rs → ns ≡ tokens t →
    now ≡ o.listed.items →
    (AreAmong ns (map listed_view now) → IsSecond (map listed_view now) (map place_of now) e) →
    Refuses t mistakes.TwicePrecedence e → IsPlaced t (ds ++ rs) e
second_placed t o ds rs ns now refused.Memory out sites are same place r = tt
second_placed t o ds rs ns now (refused.Mistake what at) out sites are same place r =
    subst (λ m. StandsAt t (ds ++ rs) m at) (sym r.0)
    (subst (λ (ps : List ℕ). SecondAt [] (listings t) ps at) (sym places)
    (subst (λ (ls : List Listing). SecondAt [] ls (map place_of o.listed.items) at) out.listed
    (subst (λ (xs : List Listed). SecondAt [] (map listed_view xs) (map place_of xs) at) same
    (place all))))
  where
    all : AreAmong ns (map listed_view now)
    all n h = subst (λ (x : List Name). number_in x n < length x) (sym are)
        (among_number (tokens t) n (listed_token t n (subst (λ (ls : List Listing).
        is_among (map listed_name ls) n ≡ true) (ap (λ (xs : List Listed). map listed_view xs) same
        ∙ out.listed) h)))

    places : map (λ (p : Identifier × ℕ). p.1) (select listed_of (ds ++ rs))
        ≡ map place_of o.listed.items
    places = ap (λ (z : List (Identifier × ℕ)). map (λ p. p.1) z)
        (select_append listed_of ds rs ∙ ap (λ z. select listed_of ds ++ z)
        (none_of_rules listed_of no_listed rs sites.of_rules) ∙ append-nil (select listed_of ds)
        ∙ sym sites.listed)
        ∙ places_seen o.listed.items

-- the same of an answer
pub precedences_placed : (t : Tree) (o : Outline) (ds rs : List Site) (ns : List Name)
    (now : List Listed) (r : Result (Vec (Option Precedence) Global) Refused) → Outlines o t →
    OutlineSites o ds rs → ns ≡ tokens t → now ≡ o.listed.items →
    (AreAmong ns (map listed_view now) →
    IfErr r (IsSecond (map listed_view now) (map place_of now))) → Precedes t r →
    IfErr r (IsPlaced t (ds ++ rs))
precedences_placed t o ds rs ns now (Ok v) out sites are same place r = tt
precedences_placed t o ds rs ns now (Err e) out sites are same place r =
    second_placed t o ds rs ns now e out sites are same place r
