-- What goes on after a piece of a syntax tree, by the recogniser's states.
use Rattle.std.proofs.Common.{ℕ, zero, suc, ◌≡◌, ◌<◌, ◌+◌, ◌-◌, ◌⊎◌, inl, inr, Bool, true, false}
use Rattle.std.proofs.Common.{List, []}
use Rattle.std.proofs.Common.{◌∷◌, ◌++◌, eqb, map, drop, length, ◌≤◌, Option, Some, None, IsSome}
use Rattle.std.proofs.Common.{refl, sym, ap}
use Rattle.std.proofs.Common.{◌∙◌, subst, arith, append_assoc, append-nil, length-append}
use Rattle.std.proofs.lemmas.Bool.{eqb-true}
use Rattle.std.specs.Prelude.{not}
use Rattle.std.proofs.lemmas.Grind.{flat_map-append}
use Rattle.std.proofs.lemmas.List.{drop-map, length-map, map-append, replicate_more}
use Rattle.std.proofs.Math.Seq.{drop-append_seam}
use Rattle.std.specs.List.{flat_map, AllByRecursion}
use Rattle.std.specs.Prelude.{replicate}
use Rattle.ysyntax.specs.declared.lexer.Placed.{Placed}
use Rattle.ylexemes.specs.declared.kind.Kind.{Kind}
use Rattle.ylexemes.specs.declared.kind.Kind.TheVariants as kind
use Rattle.ylexemes.specs.declared.kind.Sign.{Sign}
use Rattle.ylexemes.specs.declared.kind.Sign.TheVariants as sign
use Rattle.ysyntax.specs.declared.tree.Entry.{Entry as CodeEntry}
use Rattle.ysyntax.specs.declared.tree.NameAt.{NameAt}
use Rattle.ysyntax.specs.TreeViews.{entry_view, name_view, rule_text_view}
use Rattle.ysymbols.specs.Sources.{option_view}
use Rattle.ysyntax.specs.declared.tree.RuleText.{RuleText as CodeRuleText}
use Rattle.ysyntax.specs.declared.recogniser.State.{State}
use Rattle.ysyntax.specs.declared.recogniser.State.TheVariants.{Declarations, StartWord}
use Rattle.ysyntax.specs.declared.recogniser.State.TheVariants.{UnionWord}
use Rattle.ysyntax.specs.declared.recogniser.State.TheVariants.{ListWord, ListTagOpen}
use Rattle.ysyntax.specs.declared.recogniser.State.TheVariants.{ListTagName}
use Rattle.ysyntax.specs.declared.recogniser.State.TheVariants.{ListTagged, Listed}
use Rattle.ysyntax.specs.declared.recogniser.State.TheVariants.{Numbered}
use Rattle.ysyntax.specs.declared.recogniser.State.TheVariants.{TypeWord, TypeTagOpen}
use Rattle.ysyntax.specs.declared.recogniser.State.TheVariants.{TypeTagName}
use Rattle.ysyntax.specs.declared.recogniser.State.TheVariants.{TypeTagged, Typed}
use Rattle.ysyntax.specs.declared.recogniser.State.TheVariants.{RulesMark, Body}
use Rattle.ysyntax.specs.declared.recogniser.State.TheVariants.{PrecWord, PrecNamed}
use Rattle.ysyntax.specs.declared.recogniser.State.TheVariants.{Semicolons}
use Rattle.ysyntax.specs.Recogniser.{on_name, on_identifier, on_less, on_greater, on_braced}
use Rattle.ysyntax.specs.Recogniser.{on_c_identifier}
use Rattle.ysyntax.specs.Recogniser.{next_state, state_after, is_final_at, run}
use Rattle.ylexemes.specs.Lexemes.{Lexeme, name, c_identifier, literal, number, braced, fixed}
use Rattle.ylexemes.specs.Lexemes.{kind_of}
use Rattle.ysyntax.specs.Lexer.{kinds}
use Rattle.ysyntax.specs.Answers.{views}
use Rattle.ysyntax.specs.Sites.{Mark, Site, site_mark}
use Rattle.ysyntax.specs.SiteViews.{site_marks}
use Rattle.ylexemes.specs.Views.{lexeme_view}
use Rattle.ysyntax.specs.TreeBuilder.{NoneOf, NoBodyPart, NoSign, Takes, TakesTag}
use Rattle.ysyntax.specs.Tree.{Identifier, named, quoted, BodyPart, symbol, action}
use Rattle.ysyntax.specs.Tree.{identifier_yield}
use Rattle.ysyntax.specs.Tree.{entry_yield, body_part_yield, left_yield, mark_yield, tag_yield}
use Rattle.ysyntax.specs.Tree.{end_yield, option_yield}
use Rattle.ysyntax.specs.Tree.{BeginsWithName}

-- lexemes that go on with a grammar file
abbrev pub Goes : State → List Lexeme → Type 0
Goes q ls = run q (kinds ls) ≡ true

-- the same, from a state or nowhere
abbrev Leads : Option State → List Lexeme → Type 0
Leads o ls = is_final_at (state_after o (kinds ls)) ≡ true

-- from nowhere nothing goes on
astray : {P : Type 0} (ks : List Kind) → is_final_at (state_after None ks) ≡ true → P
astray [] h = cc
astray (k ∷ ks) h = cc

-- ---- lexemes that a state asks for

needs_name : (r : State) (l : Lexeme) (ls : List Lexeme) →
    Leads (on_name r (kind_of l)) ls → (n : List ℕ) × (l ≡ name n)
needs_name r (name n) ls h = (n, refl)
needs_name r (fixed sign.Mark) ls h = astray (kinds ls) h
needs_name r (fixed _) ls h = astray (kinds ls) h
needs_name r _ ls h = astray (kinds ls) h

needs_identifier : (r : State) (l : Lexeme) (ls : List Lexeme) →
    Leads (on_identifier r (kind_of l)) ls → (i : Identifier) × (l ≡ identifier_yield i)
needs_identifier r (name n) ls h = (named n, refl)
needs_identifier r (literal v) ls h = (quoted v, refl)
needs_identifier r (fixed sign.Mark) ls h = astray (kinds ls) h
needs_identifier r (fixed _) ls h = astray (kinds ls) h
needs_identifier r _ ls h = astray (kinds ls) h

needs_greater : (r : State) (l : Lexeme) (ls : List Lexeme) →
    Leads (on_greater r (kind_of l)) ls → l ≡ fixed sign.Greater
needs_greater r (fixed sign.Greater) ls h = refl
needs_greater r (fixed sign.Mark) ls h = astray (kinds ls) h
needs_greater r (fixed _) ls h = astray (kinds ls) h
needs_greater r _ ls h = astray (kinds ls) h

needs_less : (r : State) (l : Lexeme) (ls : List Lexeme) →
    Leads (on_less r (kind_of l)) ls → l ≡ fixed sign.Less
needs_less r (fixed sign.Less) ls h = refl
needs_less r (fixed sign.Mark) ls h = astray (kinds ls) h
needs_less r (fixed _) ls h = astray (kinds ls) h
needs_less r _ ls h = astray (kinds ls) h

needs_braced : (r : State) (l : Lexeme) (ls : List Lexeme) →
    Leads (on_braced r (kind_of l)) ls → (t : List ℕ) × (l ≡ braced t)
needs_braced r (braced t) ls h = (t, refl)
needs_braced r (fixed sign.Mark) ls h = astray (kinds ls) h
needs_braced r (fixed _) ls h = astray (kinds ls) h
needs_braced r _ ls h = astray (kinds ls) h

needs_c_identifier : (r : State) (l : Lexeme) (ls : List Lexeme) →
    Leads (on_c_identifier r (kind_of l)) ls → (n : List ℕ) × (l ≡ c_identifier n)
needs_c_identifier r (c_identifier n) ls h = (n, refl)
needs_c_identifier r (fixed sign.Mark) ls h = astray (kinds ls) h
needs_c_identifier r (fixed _) ls h = astray (kinds ls) h
needs_c_identifier r _ ls h = astray (kinds ls) h

pub start_there : (ls : List Lexeme) → Goes StartWord ls → NoneOf identifier_yield ls → ⊥
start_there [] h n = cc
start_there (l ∷ ls) h n = let (i, e) = needs_identifier Declarations l ls h in
    n i ls (ap (λ z. z ∷ ls) e)

prec_there : (ls : List Lexeme) → Goes PrecWord ls → NoneOf identifier_yield ls → ⊥
prec_there [] h n = cc
prec_there (l ∷ ls) h n = let (i, e) = needs_identifier PrecNamed l ls h in
    n i ls (ap (λ z. z ∷ ls) e)

pub entry_there : (ls : List Lexeme) → Goes ListTagged ls → NoneOf identifier_yield ls → ⊥
entry_there [] h n = cc
entry_there (l ∷ ls) h n = let (i, e) = needs_identifier Listed l ls h in
    n i ls (ap (λ z. z ∷ ls) e)

pub union_there : (ls : List Lexeme) → Goes UnionWord ls → NoneOf braced ls → ⊥
union_there [] h n = cc
union_there (l ∷ ls) h n = let (t, e) = needs_braced Declarations l ls h in
    n t ls (ap (λ z. z ∷ ls) e)

pub entries_some : (xs : List CodeEntry) (before after : List Lexeme) →
    before ≡ flat_map entry_yield (map entry_view xs) ++ after → Goes ListTagged before →
    NoneOf identifier_yield after → 0 < length xs
entries_some [] before after e h n =
    absurd (entry_there before h (subst (NoneOf identifier_yield) (sym e) n))
entries_some (x ∷ xs) before after e h n = omega arith

pub type_there : (ls : List Lexeme) → Goes TypeTagged ls → NoneOf name ls → ⊥
type_there [] h n = cc
type_there (l ∷ ls) h n = let (t, e) = needs_name Typed l ls h in n t ls (ap (λ z. z ∷ ls) e)

pub names_some : (xs : List NameAt) (before after : List Lexeme) → before ≡ map name
    (map name_view xs) ++ after → Goes TypeTagged before → NoneOf name after → 0 < length xs
names_some [] before after e h n = absurd (type_there before h (subst (NoneOf name) (sym e) n))
names_some (x ∷ xs) before after e h n = omega arith

tag_there : (ls : List Lexeme) → Goes TypeWord ls → NoSign sign.Less ls → ⊥
tag_there [] h n = cc
tag_there (l ∷ ls) h n = n ls (ap (λ z. z ∷ ls) (needs_less TypeTagOpen l ls h))

pub left_there : (ls : List Lexeme) → Goes RulesMark ls → NoneOf left_yield ls → ⊥
left_there [] h n = cc
left_there (l ∷ ls) h n = let (t, e) = needs_c_identifier Body l ls h in
    n (Some t) ls (ap (λ z. z ∷ ls) e)

-- ---- identifiers

pub after_identifier : (q r : State) → next_state q kind.Name ≡ Some r →
    next_state q kind.Literal ≡ Some r → (i : Identifier) (before after : List Lexeme) →
    Goes q before → before ≡ identifier_yield i ∷ after → Goes r after
after_identifier q r e f (named n) before after h w =
    subst (λ o. Leads o after) e (subst (Goes q) w h)
after_identifier q r e f (quoted v) before after h w =
    subst (λ o. Leads o after) f (subst (Goes q) w h)

-- ---- tags

-- a name and the end of its tag stand in front
abbrev EndsTag : List Lexeme → Type 0
EndsTag ls = (n : List ℕ) × (rest : List Lexeme) × (ls ≡ name n ∷ fixed sign.Greater ∷ rest)

-- no tag stands in front
abbrev NoTag : List Lexeme → Type 0
NoTag ls = (n : List ℕ) (rest : List Lexeme) → ls ≡ tag_yield n ++ rest → ⊥

tag_ends : (q r s : State) → ((k : Kind) → next_state q k ≡ on_name r k) →
    ((k : Kind) → next_state r k ≡ on_greater s k) → run q [] ≡ false → run r [] ≡ false →
    (ls : List Lexeme) → Goes q ls → EndsTag ls
tag_ends q r s a b f g [] h = cc
tag_ends q r s a b f g (l ∷ ls) h =
    let (n, e) = needs_name r l ls (subst (λ o. Leads o ls) (a (kind_of l)) h) in
    let w : l ∷ ls ≡ name n ∷ ls = ap (λ z. z ∷ ls) e in
    subst EndsTag (sym w) (closes n ls (subst (λ o. Leads o ls) (a kind.Name) (subst (Goes q) w h)))
  where
    closes : (n : List ℕ) (ls : List Lexeme) → Goes r ls → EndsTag (name n ∷ ls)
    closes n [] h = cc
    closes n (l ∷ ls) h = (
      n,
      ls,
      ap (λ z. name n ∷ z ∷ ls) (needs_greater s l ls
          (subst (λ o. Leads o ls) (b (kind_of l)) h)),
    )

-- where each sign that opens a tag is followed by its end, no tag means no sign
no_opening : (q : State) (ls : List Lexeme) → ((rest : List Lexeme) →
    Goes q (fixed sign.Less ∷ rest) → EndsTag rest) → Goes q ls → NoTag ls → NoSign sign.Less ls
no_opening q ls ends h none rest e =
    let (n, more, w) = ends rest (subst (Goes q) e h) in
    none n more (e ∙ ap (λ z. fixed sign.Less ∷ z) w)

list_tag_ends : (ls : List Lexeme) → Goes ListTagOpen ls → EndsTag ls
list_tag_ends = tag_ends ListTagOpen ListTagName ListTagged (λ k. refl) (λ k. refl) refl refl

type_tag_ends : (ls : List Lexeme) → Goes TypeTagOpen ls → EndsTag ls
type_tag_ends = tag_ends TypeTagOpen TypeTagName TypeTagged (λ k. refl) (λ k. refl) refl refl

untagged : (ls : List Lexeme) → Goes ListWord ls → NoSign sign.Less ls → Goes ListTagged ls
untagged [] h n = h
untagged (fixed sign.Less ∷ ls) h n = absurd (n ls refl)
untagged (fixed _ ∷ ls) h n = h
untagged (_ ∷ ls) h n = h

pub list_goes : (t : Option (List ℕ)) (before after : List Lexeme) → TakesTag t before after →
    Goes ListWord before → Goes ListTagged after
list_goes None before after (none, e) h =
    subst (Goes ListTagged) e (untagged before h (no_opening ListWord before
    list_tag_ends h none))
list_goes (Some n) before after e h = subst (Goes ListWord) e h

pub types_tagged : (ls : List Lexeme) → Goes TypeWord ls → NoTag ls → ⊥
types_tagged ls h none = tag_there ls h (no_opening TypeWord ls type_tag_ends h none)

-- ---- entries and names

pub entry_goes : (d : Option (List ℕ)) (before after : List Lexeme) → Takes number d before after →
    Goes Listed before → Goes Numbered after
entry_goes None before after (none, e) h = subst (Goes Numbered) e (go before none h)
  where
    go : (ls : List Lexeme) → NoneOf number ls → Goes Listed ls → Goes Numbered ls
    go [] n h = h
    go (number ds ∷ ls) n h = absurd (n ds ls refl)
    go (fixed sign.Mark ∷ ls) n h = h
    go (fixed _ ∷ ls) n h = h
    go (_ ∷ ls) n h = h
entry_goes (Some ds) before after e h = subst (Goes Listed) e h

pub tagged_numbered : (ls : List Lexeme) → Goes ListTagged ls → Goes Numbered ls
tagged_numbered [] h = h
tagged_numbered (name n ∷ ls) h = h
tagged_numbered (literal v ∷ ls) h = h
tagged_numbered (fixed sign.Mark ∷ ls) h = astray (kinds ls) h
tagged_numbered (fixed _ ∷ ls) h = astray (kinds ls) h
tagged_numbered (_ ∷ ls) h = astray (kinds ls) h

pub entries_end : (ls : List Lexeme) → Goes Numbered ls → NoneOf identifier_yield ls →
    Goes Declarations ls
entries_end [] h n = h
entries_end (name m ∷ ls) h n = absurd (n (named m) ls refl)
entries_end (literal v ∷ ls) h n = absurd (n (quoted v) ls refl)
entries_end (fixed sign.Mark ∷ ls) h n = h
entries_end (fixed _ ∷ ls) h n = h
entries_end (_ ∷ ls) h n = h

pub tagged_typed : (ls : List Lexeme) → Goes TypeTagged ls → Goes Typed ls
tagged_typed [] h = h
tagged_typed (name n ∷ ls) h = h
tagged_typed (fixed sign.Mark ∷ ls) h = astray (kinds ls) h
tagged_typed (fixed _ ∷ ls) h = astray (kinds ls) h
tagged_typed (_ ∷ ls) h = astray (kinds ls) h

pub names_end : (ls : List Lexeme) → Goes Typed ls → NoneOf name ls → Goes Declarations ls
names_end [] h n = h
names_end (name m ∷ ls) h n = absurd (n m ls refl)
names_end (fixed sign.Mark ∷ ls) h n = h
names_end (fixed _ ∷ ls) h n = h
names_end (_ ∷ ls) h n = h

-- ---- rules

pub body_goes : (i : BodyPart) (before after : List Lexeme) → Goes Body before →
    before ≡ body_part_yield i ∷ after → Goes Body after
body_goes (symbol (named n)) before after h e = subst (Goes Body) e h
body_goes (symbol (quoted v)) before after h e = subst (Goes Body) e h
body_goes (action t) before after h e = subst (Goes Body) e h

pub no_precedence : (ls : List Lexeme) → Goes Body ls → NoBodyPart ls → NoSign sign.Prec ls →
    Goes Semicolons ls
no_precedence [] h n m = h
no_precedence (name x ∷ ls) h n m = absurd (n (symbol (named x)) ls refl)
no_precedence (literal v ∷ ls) h n m = absurd (n (symbol (quoted v)) ls refl)
no_precedence (braced t ∷ ls) h n m = absurd (n (action t) ls refl)
no_precedence (fixed sign.Prec ∷ ls) h n m = absurd (m ls refl)
no_precedence (fixed _ ∷ ls) h n m = h
no_precedence (_ ∷ ls) h n m = h

last_goes : (t : Option (List ℕ)) (before after : List Lexeme) → Takes braced t before after →
    Goes PrecNamed before → Goes Semicolons after
last_goes None before after (none, e) h = subst (Goes Semicolons) e (go before none h)
  where
    go : (ls : List Lexeme) → NoneOf braced ls → Goes PrecNamed ls → Goes Semicolons ls
    go [] n h = h
    go (braced t ∷ ls) n h = absurd (n t ls refl)
    go (fixed sign.Mark ∷ ls) n h = h
    go (fixed _ ∷ ls) n h = h
    go (_ ∷ ls) n h = h
last_goes (Some t) before after e h = subst (Goes PrecNamed) e h

-- after its word stands a precedence, and an action perhaps
pub precedence_taken : (i : Option Identifier) (t : Option (List ℕ))
    (before between after : List Lexeme) → Goes PrecWord before →
    Takes identifier_yield i before between → Takes braced t between after →
    (fixed sign.Prec ∷ before ≡ end_yield i t 0 ++ after) × IsSome i × Goes Semicolons after
precedence_taken None t before between after h (none, _) u = absurd (prec_there before h none)
precedence_taken (Some i) t before between after h e u = (
  ap (λ z. fixed sign.Prec ∷ z) (e ∙ ap (λ z. identifier_yield i ∷ z) (action t u)),
  refl,
  last_goes t between after u
      (after_identifier PrecWord PrecNamed refl refl i before between h e),
)
  where
    action : (t : Option (List ℕ)) → Takes braced t between after →
        between ≡ (option_yield (λ x. braced x ∷ []) t ++ []) ++ after
    action None (_, f) = f
    action (Some x) f = f

pub rules_begin : (ls : List Lexeme) → Goes RulesMark ls → Goes Semicolons ls ×
    NoSign sign.Semicolon ls
rules_begin [] h = cc
rules_begin (l ∷ ls) h =
    let (n, e) = needs_c_identifier Body l ls h in
    let w : l ∷ ls ≡ c_identifier n ∷ ls = ap (λ z. z ∷ ls) e in
    subst (λ z. Goes Semicolons z × NoSign sign.Semicolon z) (sym w) (
      subst (Goes RulesMark) w h,
      λ r f. cc,
    )

first_named : (left : Option (List ℕ)) (ls : List Lexeme) → Goes RulesMark (left_yield left ∷ ls) →
    IsSome left
first_named (Some n) ls h = refl
first_named None ls h = astray (kinds ls) h

-- after the second mark nothing follows
pub rules_end : (ls : List Lexeme) → Goes Semicolons ls → NoSign sign.Semicolon ls →
    NoneOf left_yield ls → (b : Bool) × (ls ≡ mark_yield b)
rules_end [] h n m = (false, refl)
rules_end (fixed sign.Semicolon ∷ ls) h n m = absurd (n ls refl)
rules_end (fixed sign.Bar ∷ ls) h n m = absurd (m None ls refl)
rules_end (c_identifier x ∷ ls) h n m = absurd (m (Some x) ls refl)
rules_end (fixed sign.Mark ∷ []) h n m = (true, refl)
rules_end (fixed sign.Mark ∷ (l ∷ ls)) h n m = astray (kinds ls) h
rules_end (fixed _ ∷ ls) h n m = astray (kinds ls) h
rules_end (_ ∷ ls) h n m = astray (kinds ls) h

-- ---- one more piece

pub one_more_piece : {A B : Type 0} (f : B → List Lexeme) (v : A → B) (xs new : List A) (x : A)
    (whole rest next : List Lexeme) → whole ≡ flat_map f (map v xs) ++ rest →
    rest ≡ f (v x) ++ next → new ≡ xs ++ x ∷ [] → whole ≡ flat_map f (map v new) ++ next
one_more_piece f v xs new x whole rest next e g h =
    let made : flat_map f (map v new) ≡ flat_map f (map v xs) ++ f (v x) =
    ap (λ z. flat_map f (map v z)) h ∙ ap (flat_map f) (map-append v xs (x ∷ [])) ∙ flat_map-append
    f (map v xs) (v x ∷ []) ∙ ap (λ z. flat_map f (map v xs) ++ z) (append-nil (f (v x))) in
    e ∙ ap (λ z. flat_map f (map v xs) ++ z) g ∙ sym (append_assoc (flat_map f (map v xs))
    (f (v x)) next) ∙ ap (λ z. z ++ next) (sym made)

pub one_more_lexeme : {A B : Type 0} (f : B → Lexeme) (v : A → B) (xs new : List A) (x : A)
    (whole rest next : List Lexeme) → whole ≡ map f (map v xs) ++ rest → rest ≡ f (v x) ∷ next →
    new ≡ xs ++ x ∷ [] → whole ≡ map f (map v new) ++ next
one_more_lexeme f v xs new x whole rest next e g h =
    let made : map f (map v new) ≡ map f (map v xs) ++ f (v x) ∷ [] =
    ap (λ z. map f (map v z)) h ∙ ap (map f) (map-append v xs (x ∷ [])) ∙ map-append f (map v xs)
    (v x ∷ []) in
    e ∙ ap (λ z. map f (map v xs) ++ z) g ∙ sym
    (append_assoc (map f (map v xs)) (f (v x) ∷ []) next) ∙ ap (λ z. z ++ next) (sym made)

-- one more piece that has sites
pub one_more_site : {A : Type 0} (f : A → List Site) (xs new : List A) (x : A)
    (whole rest next : List Mark) → whole ≡ site_marks (flat_map f xs) ++ rest →
    rest ≡ site_marks (f x) ++ next → new ≡ xs ++ x ∷ [] →
    whole ≡ site_marks (flat_map f new) ++ next
one_more_site f xs new x whole rest next e g h =
    let made : site_marks (flat_map f new) ≡ site_marks (flat_map f xs) ++ site_marks (f x) =
    ap (λ z. site_marks (flat_map f z)) h ∙ ap site_marks (flat_map-append f xs (x ∷ []))
    ∙ map-append site_mark (flat_map f xs) (f x ++ [])
    ∙ ap (λ z. site_marks (flat_map f xs) ++ site_marks z) (append-nil (f x)) in
    e ∙ ap (λ z. site_marks (flat_map f xs) ++ z) g
    ∙ sym (append_assoc (site_marks (flat_map f xs)) (site_marks (f x)) next)
    ∙ ap (λ z. z ++ next) (sym made)

pub all_more : {A : Type 0} (P : A → Type 0) (xs new : List A) (x : A) → AllByRecursion P xs →
    P x → new ≡ xs ++ x ∷ [] → AllByRecursion P new
all_more P xs new x a p h = subst (λ z. AllByRecursion P z) (sym h) (go xs a)
  where
    go : (xs : _) → AllByRecursion P xs → AllByRecursion P (xs ++ x ∷ [])
    go [] a = (p, tt)
    go (y ∷ ys) a = (a.0, go ys a.1)

pub all_behind : {A : Type 0} (P : A → Type 0) (n : ℕ) (xs : List A) → AllByRecursion P xs →
    AllByRecursion P (drop n xs)
all_behind P zero xs a = a
all_behind P (suc n) [] a = tt
all_behind P (suc n) (x ∷ xs) a = all_behind P n xs a.1

pub one_more_shaped : {A B : Type 0} (P : B → Type 0) (v : A → B) (xs new : List A) (x : A) →
    AllByRecursion P (map v xs) → P (v x) → new ≡ xs ++ x ∷ [] → AllByRecursion P (map v new)
one_more_shaped P v xs new x a p h = all_more P (map v xs) (map v new) (v x) a p
    (ap (map v) h ∙ map-append v xs (x ∷ []))

-- what is left after a piece is the rest of the lexemes
pub left_behind : (ls rest : List Placed) (front : List Lexeme) (l : Lexeme) →
    views ls ≡ front ++ l ∷ views rest →
    (length rest ≤ length ls) × (views (drop (length ls - length rest) ls) ≡ views rest)
left_behind ls rest front l f =
    let piece : List Lexeme = front ++ l ∷ [] in
    let e : views ls ≡ piece ++ views rest = f ∙ sym (append_assoc front (l ∷ []) (views rest)) in
    let a : length (piece ++ views rest) ≡ length piece + length (views rest) = length-append piece
    (views rest) in
    let b : length (views ls) ≡ length (piece ++ views rest) = ap length e in
    let c : length (views ls) ≡ length ls = length-map ls (λ (p : Placed). lexeme_view p.lexeme) in
    let d : length (views rest) ≡ length rest = length-map rest
    (λ (p : Placed). lexeme_view p.lexeme) in
    let n : length ls - length rest ≡ length piece = omega (arith, a, b, c, d) in (
      omega (arith, a, b, c, d),
      ap (λ k. views (drop k ls)) n
          ∙ sym (drop-map (λ (p : Placed). lexeme_view p.lexeme) (length piece) ls)
          ∙ ap (λ (x : List Lexeme). drop (length piece) x) e
          ∙ drop-append_seam piece (views rest),
    )

-- what follows a piece is shorter
pub shorter : (rest next : List Placed) (l : Lexeme) (y : List Lexeme) → views rest ≡ l ∷
    (y ++ views next) → length next < length rest
shorter rest next l y e =
    let a : length (views rest) ≡ length (l ∷ (y ++ views next)) = ap length e in
    let b : length (y ++ views next) ≡ length y + length (views next) = length-append y
    (views next) in
    let c : length (views rest) ≡ length rest = length-map rest
    (λ (p : Placed). lexeme_view p.lexeme) in
    let d : length (views next) ≡ length next = length-map next
    (λ (p : Placed). lexeme_view p.lexeme) in
    omega (arith, a, b, c, d)

-- ---- words, semicolons and first rules

-- a word that begins no declaration is the mark
pub mark_word : (s : Sign) (ls : List Lexeme) → Goes Declarations (fixed s ∷ ls) →
    (s ≡ sign.Start → ⊥) → (s ≡ sign.Union → ⊥) → (s ≡ sign.Types → ⊥) → (s ≡ sign.Token → ⊥) →
    (s ≡ sign.Left → ⊥) → (s ≡ sign.Right → ⊥) → (s ≡ sign.Nonassoc → ⊥) →
    (fixed s ∷ ls ≡ fixed sign.Mark ∷ ls) × Goes RulesMark ls
mark_word sign.Mark ls h b c d e f g i = (refl, h)
mark_word sign.Start ls h b c d e f g i = absurd (b refl)
mark_word sign.Union ls h b c d e f g i = absurd (c refl)
mark_word sign.Types ls h b c d e f g i = absurd (d refl)
mark_word sign.Token ls h b c d e f g i = absurd (e refl)
mark_word sign.Left ls h b c d e f g i = absurd (f refl)
mark_word sign.Right ls h b c d e f g i = absurd (g refl)
mark_word sign.Nonassoc ls h b c d e f g i = absurd (i refl)
mark_word sign.Prec ls h b c d e f g i = astray (kinds ls) h
mark_word sign.Less ls h b c d e f g i = astray (kinds ls) h
mark_word sign.Greater ls h b c d e f g i = astray (kinds ls) h
mark_word sign.Bar ls h b c d e f g i = astray (kinds ls) h
mark_word sign.Semicolon ls h b c d e f g i = astray (kinds ls) h

abbrev semis : ℕ → List Lexeme
semis n = replicate n (fixed sign.Semicolon)

-- what came before the rest is that many semicolons
abbrev pub Counted : List Placed → List Placed → Type 0
Counted whole rest = (n : ℕ) × (views whole ≡ semis n ++ views rest) ×
    (n + length rest ≡ length whole)

pub one_more_semicolon : (whole rest next : List Placed) → Counted whole rest →
    views rest ≡ fixed sign.Semicolon ∷ views next → Counted whole next
one_more_semicolon whole rest next (n, e, l) h =
    let a : length (views rest) ≡ length (fixed sign.Semicolon ∷ views next) = ap length h in
    let c : length (views rest) ≡ length rest = length-map rest
    (λ (p : Placed). lexeme_view p.lexeme) in
    let d : length (views next) ≡ length next = length-map next
    (λ (p : Placed). lexeme_view p.lexeme) in
    let made : semis n ++ fixed sign.Semicolon ∷ [] ≡ semis (n + 1) = replicate_more n
    (fixed sign.Semicolon) in (
      n + 1,
      e ∙ ap (λ z. semis n ++ z) h ∙ sym (append_assoc (semis n) (fixed sign.Semicolon ∷ [])
          (views next)) ∙ ap (λ z. z ++ views next) made,
      omega (arith, a, c, d, l),
    )

-- before the first rule, or after one
abbrev pub FirstNamed : List CodeRuleText → List Lexeme → Type 0
FirstNamed cs rest = (Goes RulesMark rest × (cs ≡ [])) ⊎ BeginsWithName (map rule_text_view cs)

pub first_keeps : (xs new : List CodeRuleText) (x : CodeRuleText) (left : Option NameAt)
    (before after : List Lexeme) → FirstNamed xs before → before ≡ left_yield
    (option_view name_view left) ∷ after → x.left ≡ left → new ≡ xs ++ x ∷ [] → BeginsWithName
    (map rule_text_view new)
first_keeps xs new x left before after (inl (g, e)) h k w =
    let only : new ≡ x ∷ [] = w ∙ ap (λ z. z ++ x ∷ []) e in
    let named_left : IsSome (option_view name_view x.left) =
    subst (λ z. IsSome (option_view name_view z)) (sym k)
    (first_named (option_view name_view left) after (subst (Goes RulesMark) h g)) in
    subst (λ z. BeginsWithName (map rule_text_view z)) (sym only) named_left
first_keeps [] new x left before after (inr b) h k w = absurd b
first_keeps (y ∷ ys) new x left before after (inr b) h k w =
    subst (λ z. BeginsWithName (map rule_text_view z)) (sym w) b

pub first_there : (xs : List CodeRuleText) (rest : List Lexeme) → FirstNamed xs rest →
    NoneOf left_yield rest → BeginsWithName (map rule_text_view xs)
first_there xs rest (inl (g, e)) n = absurd (left_there rest g n)
first_there xs rest (inr b) n = b

-- a mark is what is left after the rules, where something is
pub end_marked : (ls : List Placed) (b e : Bool) → views ls ≡ mark_yield b →
    e ≡ eqb (length ls) 0 → views ls ≡ mark_yield (not e)
end_marked [] true e f g = cc
end_marked [] false e f g = ap (λ x. mark_yield (not x)) (sym g)
end_marked (l ∷ ls) false e f g = cc
end_marked (l ∷ ls) true false f g = f
end_marked (l ∷ ls) true true f g = let w = eqb-true (length (l ∷ ls)) 0 (sym g) in
    absurd (omega (arith, w))
