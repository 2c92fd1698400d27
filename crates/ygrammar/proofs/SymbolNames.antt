-- The names that stand in a file, and that none of them begins with a dollar sign.
use Rattle.std.proofs.Common.{ℕ, filter, Bool, true, false, cond, ◌==◌, ◌||◌, ◌≡◌, List, [], ◌∷◌}
use Rattle.std.proofs.Common.{◌++◌, map, Option, Some, None, refl, sym, ◌∙◌, ap, subst, arith}
use Rattle.std.proofs.Common.{codes, get_or}
use Rattle.std.specs.List.{flat_map, AllByRecursion}
use Rattle.std.proofs.lemmas.Bool.Decides.{nat_tests}
use Rattle.ysymbols.specs.declared.precedence.Precedence.{Precedence}
use Rattle.ylexemes.specs.declared.kind.Sign.TheVariants as sign
use Rattle.ylexemes.specs.Bytes.{begins, is_name_start}
use Rattle.ylexemes.specs.Lexemes.{Lexeme, name, c_identifier, literal, number, braced, code, fixed}
use Rattle.ylexemes.specs.Lexemes.{IsName}
use Rattle.ylexemes.specs.Lexemes.{Spells}
use Rattle.ysyntax.specs.Lexer.{Cuts, ComesTo, IsCut, at_end}
use Rattle.ylexemes.specs.Front.{Part, blank, comment, lexeme}
use Rattle.ysyntax.specs.Lexer.{at_mark, SpellsSyntax, lexemes}
use Rattle.ysyntax.specs.Tree.{Identifier, named, quoted, Entry, Definition, start, union, block}
use Rattle.ysyntax.specs.Tree.{listing, types, BodyPart, symbol, action, RuleText, Tree}
use Rattle.ysyntax.specs.Tree.{identifier_yield, option_yield, entry_yield, tag_yield}
use Rattle.ysyntax.specs.Tree.{definition_yield, body_part_yield, left_yield, end_yield}
use Rattle.ysyntax.specs.Tree.{rule_text_yield}
use Rattle.ysyntax.specs.Tree.{mark_yield, yield}
use Rattle.ysymbols.specs.Names.{Name, is_among, printed_literal}
use Rattle.ydeclarations.specs.Printed.{printed_name}
use Rattle.ydeclarations.specs.Elaboration.{appearances, identifiers_of, inner_name, is_literal}
use Rattle.ydeclarations.specs.Elaboration.{is_token}
use Rattle.ydeclarations.specs.Elaboration.{body_part_identifier, lefts, level_at, given_by}
use Rattle.ydeclarations.specs.Elaboration.{left_of_rule}
use Rattle.ydeclarations.specs.Elaboration.{listed_name, listing_of, listings, listings_from}
use Rattle.ydeclarations.specs.Elaboration.{option_list, prec_of, type_names, types_of, uses_of}
use Rattle.ydeclarations.specs.Elaboration.{uses}
use Rattle.ydeclarations.specs.Elaboration.{who_of}
use Rattle.ydeclarations.proofs.TellingSteps.{other_name}
use Rattle.ysymbols.proofs.NameSteps.{false_true}

-- ---- what holds of each element

pub each_left : {A : Type 0} (P : A → Type 0) (xs ys : List A) → AllByRecursion P (xs ++ ys) →
    AllByRecursion P xs
each_left P [] ys h = tt
each_left P (x ∷ xs) ys h = (h.0, each_left P xs ys h.1)

pub each_right : {A : Type 0} (P : A → Type 0) (xs ys : List A) → AllByRecursion P (xs ++ ys) →
    AllByRecursion P ys
each_right P [] ys h = h
each_right P (x ∷ xs) ys h = each_right P xs ys h.1

pub each_join : {A : Type 0} (P : A → Type 0) (xs ys : List A) → AllByRecursion P xs →
    AllByRecursion P ys → AllByRecursion P (xs ++ ys)
each_join P [] ys h k = k
each_join P (x ∷ xs) ys h k = (h.0, each_join P xs ys h.1 k)

pub each_weaker : {A : Type 0} (P Q : A → Type 0) → ((x : A) → P x → Q x) → (xs : List A) →
    AllByRecursion P xs → AllByRecursion Q xs
each_weaker P Q f [] h = tt
each_weaker P Q f (x ∷ xs) h = (f x h.0, each_weaker P Q f xs h.1)

pub each_to_map : {A B : Type 0} (P : B → Type 0) (f : A → B) (xs : List A) → AllByRecursion
    (λ x. P (f x)) xs → AllByRecursion P (map f xs)
each_to_map P f [] h = tt
each_to_map P f (x ∷ xs) h = (h.0, each_to_map P f xs h.1)

pub each_from_map : {A B : Type 0} (P : B → Type 0) (f : A → B) (xs : List A) → AllByRecursion P
    (map f xs) → AllByRecursion (λ x. P (f x)) xs
each_from_map P f [] h = tt
each_from_map P f (x ∷ xs) h = (h.0, each_from_map P f xs h.1)

pub each_filter : {A : Type 0} (P : A → Type 0) (p : A → Bool) (xs : List A) → AllByRecursion P xs →
    AllByRecursion P (filter p xs)
each_filter P p [] h = tt
each_filter P p (x ∷ xs) h = one (p x) (each_filter P p xs h.1)
  where
    one : (b : Bool) → AllByRecursion P (filter p xs) → AllByRecursion P
        (cond b (x ∷ filter p xs) (filter p xs))
    one true k = (h.0, k)
    one false k = k

pub each_piece : {A B C : Type 0} (P : B → Type 0) (Q : C → Type 0) (f : A → List B)
    (g : A → List C) → ((x : A) → AllByRecursion P (f x) → AllByRecursion Q (g x)) → (xs : List A) →
    AllByRecursion P (flat_map f xs) → AllByRecursion Q (flat_map g xs)
each_piece P Q f g h [] a = tt
each_piece P Q f g h (x ∷ xs) a = each_join Q (g x) (flat_map g xs)
    (h x (each_left P (f x) (flat_map f xs) a))
    (each_piece P Q f g h xs (each_right P (f x) (flat_map f xs) a))

-- ---- names of the file

-- the name of an identifier is a NAME of the file
abbrev pub Named : Identifier → Type 0
Named (named n) = IsName n
Named (quoted v) = Unit {0}

-- every name that stands in the tree is a NAME of the file
pub record IsNamed (t : Tree) : Type 0 where
  pub appear : AllByRecursion Named (appearances t)
  pub lefts : AllByRecursion IsName (lefts t)
  pub types : AllByRecursion IsName (types_of t)

abbrev LexemeNamed : Lexeme → Type 0
LexemeNamed (name n) = IsName n
LexemeNamed (c_identifier n) = IsName n
LexemeNamed (literal v) = Unit {0}
LexemeNamed (number ds) = Unit {0}
LexemeNamed (braced t) = Unit {0}
LexemeNamed code = Unit {0}
LexemeNamed (fixed s) = Unit {0}

spelled_named : (l : Lexeme) (text : List ℕ) → Spells l text → LexemeNamed l
spelled_named (name n) text h = h.1
spelled_named (c_identifier n) text h = h.named
spelled_named (literal v) text h = tt
spelled_named (number ds) text h = tt
spelled_named (braced t) text h = tt
spelled_named code text h = tt
spelled_named (fixed s) text h = tt

parts_named : (ps : List Part) (bytes rest : List ℕ) → Cuts bytes ps rest →
    AllByRecursion LexemeNamed (lexemes ps)
parts_named [] bytes rest h = tt
parts_named (blank ∷ ps) bytes rest h = parts_named ps h.0 rest h.2
parts_named (comment ∷ ps) bytes rest h = parts_named ps h.0 rest h.2
parts_named (lexeme l ∷ ps) bytes rest h = let p = h.1 in
    (spelled_named l p.text p.spelled, parts_named ps h.0 rest h.2)

comes_named : {bytes : List ℕ} {ls : List Lexeme} {rest : List ℕ} → ComesTo bytes ls rest →
    AllByRecursion LexemeNamed ls
comes_named {bytes = bytes} {rest = rest} c = subst (AllByRecursion LexemeNamed) c.read
    (parts_named c.parts bytes rest c.cut)

cut_named : {bytes : List ℕ} {ls : List Lexeme} → IsCut bytes ls → AllByRecursion LexemeNamed ls
cut_named (at_end c) = comes_named c
cut_named (at_mark {ls = ls} c e p) = each_join LexemeNamed ls (fixed sign.Mark ∷ [])
    (comes_named c) (tt, tt)

identifier_named : (i : Identifier) → LexemeNamed (identifier_yield i) → Named i
identifier_named (named n) h = h
identifier_named (quoted v) h = tt

entries_named : (es : List Entry) → AllByRecursion LexemeNamed (flat_map entry_yield es) →
    AllByRecursion Named (map who_of es)
entries_named [] h = tt
entries_named (e ∷ es) h = (
  identifier_named e.who h.0,
  entries_named es
      (each_right LexemeNamed (option_yield (λ ds. number ds ∷ []) e.digits)
      (flat_map entry_yield es)
      h.1),
)

declared_named : (d : Definition) → AllByRecursion LexemeNamed (definition_yield d) →
    AllByRecursion Named (identifiers_of d)
declared_named (start i) h = (identifier_named i h.1.0, tt)
declared_named (union t) h = tt
declared_named block h = tt
declared_named (listing w tag es) h = entries_named es
    (each_right LexemeNamed (option_yield tag_yield tag) (flat_map entry_yield es) h.1)
declared_named (types tag ns) h = tt

typed_named : (d : Definition) → AllByRecursion LexemeNamed (definition_yield d) →
    AllByRecursion IsName (type_names d)
typed_named (start i) h = tt
typed_named (union t) h = tt
typed_named block h = tt
typed_named (listing w tag es) h = tt
typed_named (types tag ns) h = each_from_map LexemeNamed name ns
    (each_right LexemeNamed (tag_yield tag) (map name ns) h.1)

items_named : (xs : List BodyPart) → AllByRecursion LexemeNamed (map body_part_yield xs) →
    AllByRecursion Named (flat_map body_part_identifier xs)
items_named [] h = tt
items_named (symbol i ∷ xs) h = (identifier_named i h.0, items_named xs h.1)
items_named (action t ∷ xs) h = items_named xs h.1

prec_named : (o : Option Identifier) → AllByRecursion LexemeNamed
    (option_yield (λ i. fixed sign.Prec ∷ identifier_yield i ∷ []) o) → AllByRecursion Named
    (option_list o)
prec_named None h = tt
prec_named (Some i) h = (identifier_named i h.1.0, tt)

left_named : (o : Option Name) → LexemeNamed (left_yield o) → AllByRecursion IsName (option_list o)
left_named None h = tt
left_named (Some n) h = (h, tt)

used_named : (c : RuleText) → AllByRecursion LexemeNamed (rule_text_yield c) → AllByRecursion Named
    (uses_of c)
used_named c h =
    let e : List Lexeme = end_yield c.prec c.last c.semicolons in
    each_join Named (flat_map body_part_identifier c.body) (prec_of c)
    (items_named c.body (each_left LexemeNamed (map body_part_yield c.body) e h.1))
    (prec_named c.prec (each_left LexemeNamed
    (option_yield (λ i. fixed sign.Prec ∷ identifier_yield i ∷ []) c.prec) _
    (each_right LexemeNamed (map body_part_yield c.body) e h.1)))

rule_text_named : (c : RuleText) → AllByRecursion LexemeNamed (rule_text_yield c) → AllByRecursion
    IsName
    (left_of_rule c)
rule_text_named c h = left_named c.left h.0

-- a file that is spelled has names for its names
pub spelled_names : (bytes : List ℕ) (ls : List Lexeme) (t : Tree) → SpellsSyntax bytes ls →
    ls ≡ yield t → IsNamed t
spelled_names bytes ls t s e =
    let all : AllByRecursion LexemeNamed (yield t) = subst (AllByRecursion LexemeNamed) e
    (cut_named s.cut) in
    let front : AllByRecursion LexemeNamed (flat_map definition_yield t.definitions) =
    each_left LexemeNamed (flat_map definition_yield t.definitions)
    (fixed sign.Mark ∷ (flat_map rule_text_yield t.rule_texts ++ mark_yield t.second_mark)) all in
    let more : AllByRecursion LexemeNamed
    (fixed sign.Mark ∷ (flat_map rule_text_yield t.rule_texts ++ mark_yield t.second_mark)) =
    each_right LexemeNamed (flat_map definition_yield t.definitions)
    (fixed sign.Mark ∷ (flat_map rule_text_yield t.rule_texts ++ mark_yield t.second_mark)) all in
    let back : AllByRecursion LexemeNamed (flat_map rule_text_yield t.rule_texts) = each_left
    LexemeNamed
    (flat_map rule_text_yield t.rule_texts) (mark_yield t.second_mark) more.1 in
    record {
      appear = each_join Named (flat_map identifiers_of t.definitions) (uses t)
          (each_piece LexemeNamed Named definition_yield identifiers_of declared_named t.definitions
          front) (each_piece LexemeNamed Named rule_text_yield uses_of used_named t.rule_texts
          back);
      lefts = each_piece LexemeNamed IsName rule_text_yield left_of_rule rule_text_named
          t.rule_texts back;
      types = each_piece LexemeNamed IsName definition_yield type_names typed_named t.definitions
          front;
    }

-- ---- names that begin with a dollar sign

abbrev pub dollar : Name → Bool
dollar n = begins (λ b. b == 36) n

pub name_plain : (n : Name) → IsName n → dollar n ≡ false
name_plain [] h = refl
name_plain (b ∷ n) h = one b h.start
  where
    one : (a : ℕ) → is_name_start a ≡ true → (a == 36) ≡ false
    one a q = grind (arith, nat_tests)

pub literal_plain : (v : ℕ) → dollar (printed_literal v) ≡ false
literal_plain v = one _ _ _
  where
    one : (b : Bool) (x y : Name) → dollar (cond b (39 ∷ x) (39 ∷ y)) ≡ false
    one true x y = refl
    one false x y = refl

pub printed_plain : (i : Identifier) → Named i → dollar (printed_name i) ≡ false
printed_plain (named n) h = name_plain n h
printed_plain (quoted v) h = literal_plain v

-- a name with a dollar sign in front is no name without one
pub plain_other : (n m : Name) → dollar n ≡ false → dollar m ≡ true → n ≡ m → ⊥
plain_other n m p q e = false_true (sym p ∙ ap dollar e ∙ q)

pub end_accept : codes "$end" ≡ codes "$accept" → ⊥
end_accept e = false_true (ap (λ (n : Name). get_or n 1 0 == 97) e)

pub inner_accept : (k : ℕ) → inner_name k ≡ codes "$accept" → ⊥
inner_accept k e = false_true (ap (λ (n : Name). get_or n 1 0 == 97) e)

pub inner_end : (k : ℕ) → inner_name k ≡ codes "$end" → ⊥
inner_end k e = false_true (ap (λ (n : Name). get_or n 1 0 == 101) e)

-- ---- which of them are tokens

-- what holds of the names of all appearances holds of what is listed
pub listed_each : (P : Name → Type 0) (k : ℕ) (ds : List Definition) → AllByRecursion
    (λ i. P (printed_name i)) (flat_map identifiers_of ds) → AllByRecursion (λ l. P (listed_name l))
    (listings_from k ds)
listed_each P k [] h = tt
listed_each P k (listing w tag es ∷ ds) h =
    each_join (λ l. P (listed_name l)) (map (listing_of (given_by w (level_at w k))) es)
    (listings_from (level_at w k) ds)
    (entries (given_by w (level_at w k)) es (each_left (λ i. P (printed_name i)) (map who_of es)
    (flat_map identifiers_of ds) h))
    (listed_each P (level_at w k) ds (each_right (λ i. P (printed_name i)) (map who_of es)
    (flat_map identifiers_of ds) h))
  where
    entries : (g : Option Precedence) (xs : List Entry) → AllByRecursion (λ i. P (printed_name i))
        (map who_of xs) → AllByRecursion (λ l. P (listed_name l)) (map (listing_of g) xs)
    entries g [] q = tt
    entries g (x ∷ xs) q = (q.0, entries g xs q.1)
listed_each P k (start i ∷ ds) h = listed_each P k ds h.1
listed_each P k (union t ∷ ds) h = listed_each P k ds h
listed_each P k (block ∷ ds) h = listed_each P k ds h
listed_each P k (types tag ns ∷ ds) h = listed_each P k ds h

-- what holds of the names of all appearances, of the end and of `error` holds of the tokens
pub tokens_each : (P : Name → Type 0) (t : Tree) → P (codes "$end") → P (codes "error") →
    AllByRecursion (λ i. P (printed_name i)) (appearances t) → AllByRecursion P
    (codes "$end" ∷ codes "error" ∷ (map listed_name (listings t) ++ map printed_name
    (filter is_literal (appearances t))))
tokens_each P t a b h = (
  a,
  (
    b,
    each_join P (map listed_name (listings t)) (map printed_name (filter is_literal (appearances
        t)))
        (each_to_map P listed_name (listings t)
        (listed_each P 0 t.definitions
        (each_left (λ i. P (printed_name i)) (flat_map identifiers_of t.definitions) (uses t) h)))
        (each_to_map P printed_name (filter is_literal (appearances t))
        (each_filter (λ i. P (printed_name i)) is_literal (appearances t) h)),
  ),
)

pub none_among : (ns : List Name) (x : Name) → AllByRecursion (λ n. n ≡ x → ⊥) ns →
    is_among ns x ≡ false
none_among [] x h = refl
none_among (n ∷ ns) x h = ap (λ b. b || is_among ns x) (other_name x n (λ e. h.0 (sym e))) ∙
    none_among ns x h.1

-- a name with a dollar sign in front is no token but the end
pub not_token : (t : Tree) (x : Name) → IsNamed t → dollar x ≡ true → (codes "$end" ≡ x → ⊥) →
    is_token t x ≡ false
not_token t x h d e = none_among
    (codes "$end" ∷ codes "error" ∷ (map listed_name (listings t) ++ map printed_name
    (filter is_literal (appearances t)))) x
    (tokens_each (λ n. n ≡ x → ⊥) t e (λ q. plain_other (codes "error") x refl d q)
    (each_weaker Named (λ i. printed_name i ≡ x → ⊥) (λ i q r. plain_other (printed_name i) x
    (printed_plain i q) d r) (appearances t) h.appear))

pub accept_token : (t : Tree) → IsNamed t → is_token t (codes "$accept") ≡ false
accept_token t h = not_token t (codes "$accept") h refl end_accept

pub inner_token : (t : Tree) (k : ℕ) → IsNamed t → is_token t (inner_name k) ≡ false
inner_token t k h = not_token t (inner_name k) h refl (λ e. inner_end k (sym e))
