-- A list of lexemes has one tree.
use Rattle.std.proofs.Common.{ℕ, zero, suc, ◌≡◌, ◌<◌, Bool, true, false, List, [], ◌∷◌, ◌++◌, map}
use Rattle.std.proofs.Common.{length, Option, Some, None, IsSome, refl, sym, ap, ◌∙◌, arith}
use Rattle.std.proofs.Common.{append_assoc}
use Rattle.std.proofs.lemmas.List.Concat.{flat_map_single}
use Rattle.std.specs.List.{flat_map, AllByRecursion}
use Rattle.std.specs.Prelude.{replicate}
use Rattle.ylexemes.specs.declared.kind.Sign.{Sign}
use Rattle.ylexemes.specs.declared.kind.Sign.TheVariants as sign
use Rattle.ylexemes.specs.Lexemes.{Lexeme, name, c_identifier, literal, number, braced, code, fixed}
use Rattle.ysyntax.specs.Tree.{Identifier, named, quoted, Word, Entry, Definition, start, union}
use Rattle.ysyntax.specs.Tree.{block, listing, types, BodyPart, symbol, action, RuleText, Tree}
use Rattle.ysyntax.specs.Tree.{identifier_yield, option_yield, entry_yield, word_sign, tag_yield}
use Rattle.ysyntax.specs.Tree.{definition_yield, body_part_yield, left_yield, end_yield}
use Rattle.ysyntax.specs.Tree.{rule_text_yield}
use Rattle.ysyntax.specs.Tree.{mark_yield, yield, IsDefinition, IsRuleText, IsTree}

-- two things are the same, and so is what follows them
record Same {A : Type 0} (a b : A) (x y : List Lexeme) : Type 0 where
  one : a ≡ b
  rest : x ≡ y

-- the first lexeme passes
abbrev first : (Lexeme → Bool) → List Lexeme → Bool
first p [] = false
first p (l ∷ ls) = p l

split_true : {P : Type 0} (b : Bool) → b ≡ true → b ≡ false → P
split_true b h k = let z : true ≡ false = sym h ∙ k in cc

-- ---- one or none, and many

module _ {A : Type 0} (f : A → List Lexeme) (p : Lexeme → Bool)
    (starts : (a : A) (x : List Lexeme) → first p (f a ++ x) ≡ true) where
  option_one : ((a b : A) (x y : List Lexeme) → f a ++ x ≡ f b ++ y → Same a b x y) →
      (d c : Option A) (x y : List Lexeme) → first p x ≡ false → first p y ≡ false →
      option_yield f d ++ x ≡ option_yield f c ++ y → Same d c x y
  option_one cancel None None x y h k e = record { one = refl; rest = e }
  option_one cancel None (Some b) x y h k e = split_true (first p x) (ap (first p) e ∙ starts b y) h
  option_one cancel (Some a) None x y h k e = split_true (first p y)
      (sym (ap (first p) e) ∙ starts a x) k
  option_one cancel (Some a) (Some b) x y h k e = let s = cancel a b x y e in
      record { one = ap Some s.one; rest = s.rest }

  -- q is a test that fails after no item: what may not follow an item
  module _ (P : A → Type 0) (q : Lexeme → Bool) (calm : (a : A) (x : List Lexeme) →
      first q (f a ++ x) ≡ false)
      (cancel : (a b : A) (x y : List Lexeme) → P a → P b → first q x ≡ false → first q y ≡ false →
      f a ++ x ≡ f b ++ y → Same a b x y) where
    calm_all : (xs : List A) (r : List Lexeme) → first q r ≡ false → first q (flat_map f xs ++ r) ≡
        false
    calm_all [] r h = h
    calm_all (a ∷ xs) r h = ap (first q) (append_assoc (f a) (flat_map f xs) r) ∙ calm a
        (flat_map f xs ++ r)

    many_one : (xs ys : List A) (r s : List Lexeme) → AllByRecursion P xs → AllByRecursion P ys →
        first p r ≡ false → first p s ≡ false → first q r ≡ false → first q s ≡ false
        → flat_map f xs ++ r ≡ flat_map f ys ++ s → Same xs ys r s
    many_one [] [] r s a b h k i j e = record { one = refl; rest = e }
    many_one [] (y ∷ ys) r s a b h k i j e = split_true (first p r)
        (ap (first p) (e ∙ append_assoc (f y) (flat_map f ys) s) ∙ starts y (flat_map f ys ++ s)) h
    many_one (x ∷ xs) [] r s a b h k i j e = split_true (first p s)
        (sym (ap (first p) (sym (append_assoc (f x) (flat_map f xs) r) ∙ e)) ∙ starts x
        (flat_map f xs ++ r)) k
    many_one (x ∷ xs) (y ∷ ys) r s a b h k i j e =
        let c = cancel x y (flat_map f xs ++ r) (flat_map f ys ++ s) a.0 b.0 (calm_all xs r i)
        (calm_all ys s j) (sym (append_assoc (f x) (flat_map f xs) r) ∙ e ∙ append_assoc
        (f y) (flat_map f ys) s) in
        let t = many_one xs ys r s a.1 b.1 h k i j c.rest in
        let c1 = c.one in let t1 = t.one in
        record { one = cc; rest = t.rest }

-- items that are one lexeme each
module _ {A : Type 0} (f : A → Lexeme) (p : Lexeme → Bool) (starts : (a : A) → p (f a) ≡ true)
    (same : (a b : A) → f a ≡ f b → a ≡ b) where
  every : (xs : List A) → AllByRecursion (λ a. Unit {0}) xs
  every [] = tt
  every (x ∷ xs) = (tt, every xs)

  map_one : (xs ys : List A) (r s : List Lexeme) → first p r ≡ false → first p s ≡ false →
      map f xs ++ r ≡ map f ys ++ s → Same xs ys r s
  map_one xs ys r s h k e =
      many_one (λ a. f a ∷ []) p (λ a x. starts a) (λ a. Unit {0}) (λ l. false) (λ a x. refl)
      (λ a b x y u v i j w. record {
        one = same a b (let z : f a ≡ f b = cc in z);
        rest =
            (let z : x ≡ y = cc in z);
      })
      xs ys r s (every xs) (every ys) h k (none r) (none s)
      (ap (λ z. z ++ r) (flat_map_single f xs) ∙ e ∙ ap (λ z. z ++ s)
      (sym (flat_map_single f ys)))
    where
      none : (r : List Lexeme) → first (λ l. false) r ≡ false
      none [] = refl
      none (l ∷ r) = refl

-- ---- kinds of first lexemes

abbrev is_identifier : Lexeme → Bool
is_identifier (name n) = true
is_identifier (literal v) = true
is_identifier _ = false

abbrev is_name : Lexeme → Bool
is_name (name n) = true
is_name _ = false

abbrev is_number : Lexeme → Bool
is_number (number n) = true
is_number _ = false

abbrev is_act : Lexeme → Bool
is_act (braced n) = true
is_act _ = false

abbrev is_less : Lexeme → Bool
is_less (fixed sign.Less) = true
is_less _ = false

abbrev is_prec : Lexeme → Bool
is_prec (fixed sign.Prec) = true
is_prec _ = false

-- what begins a definition
abbrev is_definition : Lexeme → Bool
is_definition (fixed sign.Start) = true
is_definition (fixed sign.Union) = true
is_definition (fixed sign.Token) = true
is_definition (fixed sign.Left) = true
is_definition (fixed sign.Right) = true
is_definition (fixed sign.Nonassoc) = true
is_definition (fixed sign.Types) = true
is_definition code = true
is_definition _ = false

-- what begins a rule
abbrev is_left : Lexeme → Bool
is_left (c_identifier n) = true
is_left (fixed sign.Bar) = true
is_left _ = false

-- what a body may have
abbrev is_item : Lexeme → Bool
is_item (name n) = true
is_item (literal v) = true
is_item (braced t) = true
is_item _ = false

-- what may go on with an entry or a list of names
abbrev goes_on_list : Lexeme → Bool
goes_on_list (name n) = true
goes_on_list (literal v) = true
goes_on_list (number n) = true
goes_on_list _ = false

-- what may go on with a rule
abbrev goes_on_rule : Lexeme → Bool
goes_on_rule (name n) = true
goes_on_rule (literal v) = true
goes_on_rule (braced t) = true
goes_on_rule (fixed sign.Prec) = true
goes_on_rule (fixed sign.Semicolon) = true
goes_on_rule _ = false

-- a test that implies another fails with it
weaker : (p q : Lexeme → Bool) → ((l : Lexeme) → p l ≡ true → q l ≡ true) → (x : List Lexeme) →
    first q x ≡ false → first p x ≡ false
weaker p q f [] h = refl
weaker p q f (l ∷ x) h = go (p l) refl
  where
    go : (b : Bool) → p l ≡ b → p l ≡ false
    go true e = split_true (q l) (f l e) h
    go false e = e

-- ---- definitions

id_one : (i j : Identifier) → identifier_yield i ≡ identifier_yield j → i ≡ j
id_one (named n) (named m) e = cc
id_one (quoted v) (quoted w) e = cc
id_one (named n) (quoted w) e = cc
id_one (quoted v) (named m) e = cc

id_first : (i : Identifier) → is_identifier (identifier_yield i) ≡ true
id_first (named n) = refl
id_first (quoted v) = refl

id_no_number : (i : Identifier) → is_number (identifier_yield i) ≡ false
id_no_number (named n) = refl
id_no_number (quoted v) = refl

entry_same : (e f : Entry) → e.who ≡ f.who → e.digits ≡ f.digits → e ≡ f
entry_same e f p q =
    ap (λ (i : Identifier). let r : Entry = record { who = i; digits = e.digits } in r) p ∙ ap
    (λ (d : Option (List ℕ)). let r : Entry = record { who = f.who; digits = d } in r) q

entry_cancel : (e f : Entry) (x y : List Lexeme) → Unit {0} → Unit {0} → first is_number x ≡ false →
    first is_number y ≡ false → entry_yield e ++ x ≡ entry_yield f ++ y → Same e f x y
entry_cancel e f x y u v h k w =
    let s = option_one (λ ds. number ds ∷ []) is_number (λ a z. refl)
    (λ a b z t i. record {
      one = (let q : a ≡ b = cc in q);
      rest =
          (let q : z ≡ t = cc in q);
    })
    e.digits f.digits x y h k
    (let z : option_yield (λ ds. number ds ∷ []) e.digits ++ x ≡ option_yield
    (λ ds. number ds ∷ []) f.digits ++ y = cc in z) in
    record {
      one = entry_same e f
          (id_one e.who f.who (let z : identifier_yield e.who ≡ identifier_yield f.who = cc in z))
          s.one;
      rest = s.rest;
    }

entries_one : (es fs : List Entry) (r s : List Lexeme) → first goes_on_list r ≡ false →
    first goes_on_list s ≡ false → flat_map entry_yield es ++ r ≡ flat_map entry_yield fs ++ s →
    Same es fs r s
entries_one es fs r s h k e =
    many_one entry_yield is_identifier (λ a x. id_first a.who) (λ a. Unit {0}) is_number
    (λ a x. id_no_number a.who) entry_cancel es fs r s (every_entry es) (every_entry fs)
    (weaker is_identifier goes_on_list ids r h) (weaker is_identifier goes_on_list ids s k)
    (weaker is_number goes_on_list numbers r h) (weaker is_number goes_on_list numbers s k) e
  where
    every_entry : (es : List Entry) → AllByRecursion (λ a. Unit {0}) es
    every_entry [] = tt
    every_entry (e ∷ es) = (tt, every_entry es)

    ids : (l : Lexeme) → is_identifier l ≡ true → goes_on_list l ≡ true
    ids (name n) h = refl
    ids (literal n) h = refl
    ids _ h = cc

    numbers : (l : Lexeme) → is_number l ≡ true → goes_on_list l ≡ true
    numbers (number n) h = refl
    numbers _ h = cc

name_one : (n m : List ℕ) → name n ≡ name m → n ≡ m
name_one n m e = cc

names_one : (ns ms : List (List ℕ)) (r s : List Lexeme) → first goes_on_list r ≡ false →
    first goes_on_list s ≡ false → map name ns ++ r ≡ map name ms ++ s → Same ns ms r s
names_one ns ms r s h k e = map_one name is_name (λ n. refl) name_one ns ms r s
    (weaker is_name goes_on_list ids r h) (weaker is_name goes_on_list ids s k) e
  where
    ids : (l : Lexeme) → is_name l ≡ true → goes_on_list l ≡ true
    ids (name n) h = refl
    ids (fixed s) h = cc
    ids _ h = cc

word_one : (w v : Word) → word_sign w ≡ word_sign v → w ≡ v
word_one Word.token Word.token e = refl
word_one Word.left Word.left e = refl
word_one Word.right Word.right e = refl
word_one Word.nonassoc Word.nonassoc e = refl
word_one Word.token Word.left e = cc
word_one Word.token _ e = cc
word_one Word.left Word.token e = cc
word_one Word.left _ e = cc
word_one Word.right Word.token e = cc
word_one Word.right _ e = cc
word_one Word.nonassoc Word.token e = cc
word_one Word.nonassoc _ e = cc

-- the words of listings differ from the other words
abbrev is_listing : Sign → Bool
is_listing sign.Token = true
is_listing sign.Left = true
is_listing sign.Right = true
is_listing sign.Nonassoc = true
is_listing _ = false

word_listing : (w : Word) → is_listing (word_sign w) ≡ true
word_listing Word.token = refl
word_listing Word.left = refl
word_listing Word.right = refl
word_listing Word.nonassoc = refl

other_word : {P : Type 0} (w : Word) (s : Sign) (x y : List Lexeme) → is_listing s ≡ false →
    fixed (word_sign w) ∷ x ≡ fixed s ∷ y → P
other_word w s x y n e =
    let z : word_sign w ≡ s = cc in
    split_true (is_listing s) (sym (ap is_listing z) ∙ word_listing w) n

code_word : {P : Type 0} (w : Word) (x y : List Lexeme) → fixed (word_sign w) ∷ x ≡ code ∷ y → P
code_word w x y e = cc

entries_first : (es : List Entry) (x : List Lexeme) → 0 < length es →
    first is_less (flat_map entry_yield es ++ x) ≡ false
entries_first [] x h = absurd (omega arith)
entries_first (e ∷ es) x h = go e.who
  where
    go : (i : Identifier) → is_less (identifier_yield i) ≡ false
    go (named n) = refl
    go (quoted v) = refl

listing_one : (w v : Word) (d c : Option (List ℕ)) (es fs : List Entry) (x y : List Lexeme) →
    0 < length es → 0 < length fs → first goes_on_list x ≡ false → first goes_on_list y ≡ false
    → definition_yield (listing w d es) ++ x ≡ definition_yield (listing v c fs) ++ y →
    Same (listing w d es) (listing v c fs) x y
listing_one w v d c es fs x y a b h k e =
    let word : word_sign w ≡ word_sign v = cc in
    let tail : (option_yield tag_yield d ++ flat_map entry_yield es) ++ x ≡
    (option_yield tag_yield c ++ flat_map entry_yield fs) ++ y = cc in
    let t = option_one tag_yield is_less (λ n z. refl)
    (λ n m z u i. record {
      one = (let q : n ≡ m = cc in q);
      rest =
          (let q : z ≡ u = cc in q);
    })
    d c (flat_map entry_yield es ++ x) (flat_map entry_yield fs ++ y) (entries_first es x a)
    (entries_first fs y b)
    (sym (append_assoc (option_yield tag_yield d) (flat_map entry_yield es) x) ∙ tail ∙ append_assoc
    (option_yield tag_yield c) (flat_map entry_yield fs) y) in
    let s = entries_one es fs x y h k t.rest in
    let w1 = word_one w v word in let t1 = t.one in let s1 = s.one in
    record { one = cc; rest = s.rest }

types_one : (n m : List ℕ) (ns ms : List (List ℕ)) (x y : List Lexeme) →
    first goes_on_list x ≡ false → first goes_on_list y ≡ false
    → definition_yield (types n ns) ++ x ≡ definition_yield (types m ms) ++ y → Same (types n ns)
    (types m ms) x y
types_one n m ns ms x y h k e =
    let tag : n ≡ m = cc in
    let s = names_one ns ms x y h k (let z : map name ns ++ x ≡ map name ms ++ y = cc in z) in
    let s1 = s.one in
    record { one = cc; rest = s.rest }

definition_cancel : (d e : Definition) (x y : List Lexeme) → IsDefinition d → IsDefinition e →
    first goes_on_list x ≡ false → first goes_on_list y ≡ false →
    definition_yield d ++ x ≡ definition_yield e ++ y → Same d e x y
definition_cancel (start i) (start j) x y a b h k e =
    record {
      one = ap start (id_one i j (let z : identifier_yield i ≡ identifier_yield j = cc in
          z));
      rest = (let z : x ≡ y = cc in z);
    }
definition_cancel (union t) (union u) x y a b h k e =
    record { one = (let z : t ≡ u = cc in ap union z); rest = (let z : x ≡ y = cc in z) }
definition_cancel block block x y a b h k e = record {
  one = refl;
  rest =
      (let z : x ≡ y = cc in z);
}
definition_cancel (listing w d es) (listing v c fs) x y a b h k e = listing_one w v d c es fs x y a
    b h k e
definition_cancel (types n ns) (types m ms) x y a b h k e = types_one n m ns ms x y h k e
definition_cancel (start i) (listing v c fs) x y a b h k e = other_word v sign.Start _ _ refl
    (sym e)
definition_cancel (union t) (listing v c fs) x y a b h k e = other_word v sign.Union _ _ refl
    (sym e)
definition_cancel block (listing v c fs) x y a b h k e = code_word v _ _ (sym e)
definition_cancel (types n ns) (listing v c fs) x y a b h k e = other_word v sign.Types _ _ refl
    (sym e)
definition_cancel (listing v c fs) (start i) x y a b h k e = other_word v sign.Start _ _ refl e
definition_cancel (listing v c fs) (union t) x y a b h k e = other_word v sign.Union _ _ refl e
definition_cancel (listing v c fs) block x y a b h k e = code_word v _ _ e
definition_cancel (listing v c fs) (types n ns) x y a b h k e = other_word v sign.Types _ _ refl e
definition_cancel (start i) _ x y a b h k e = cc
definition_cancel (union t) _ x y a b h k e = cc
definition_cancel block _ x y a b h k e = cc
definition_cancel (types n ns) _ x y a b h k e = cc

definition_starts : (d : Definition) (x : List Lexeme) → first is_definition
    (definition_yield d ++ x) ≡ true
definition_starts (start i) x = refl
definition_starts (union t) x = refl
definition_starts block x = refl
definition_starts (listing Word.token d es) x = refl
definition_starts (listing Word.left d es) x = refl
definition_starts (listing Word.right d es) x = refl
definition_starts (listing Word.nonassoc d es) x = refl
definition_starts (types n ns) x = refl

definition_calm : (d : Definition) (x : List Lexeme) → first goes_on_list
    (definition_yield d ++ x) ≡ false
definition_calm (start i) x = refl
definition_calm (union t) x = refl
definition_calm block x = refl
definition_calm (listing w d es) x = refl
definition_calm (types n ns) x = refl

-- ---- rules

left_one : (a b : Option (List ℕ)) → left_yield a ≡ left_yield b → a ≡ b
left_one None None e = refl
left_one (Some n) (Some m) e = let z : n ≡ m = cc in ap Some z
left_one None (Some m) e = cc
left_one (Some n) None e = cc

item_one : (a b : BodyPart) → body_part_yield a ≡ body_part_yield b → a ≡ b
item_one (symbol i) (symbol j) e = ap symbol (id_one i j e)
item_one (action t) (action u) e = let z : t ≡ u = cc in ap action z
item_one (symbol (named n)) (action u) e = cc
item_one (symbol (quoted n)) (action u) e = cc
item_one (action t) (symbol (named n)) e = cc
item_one (action t) (symbol (quoted n)) e = cc

item_starts : (a : BodyPart) → is_item (body_part_yield a) ≡ true
item_starts (symbol (named n)) = refl
item_starts (symbol (quoted n)) = refl
item_starts (action t) = refl

abbrev semis : ℕ → List Lexeme
semis n = replicate n (fixed sign.Semicolon)

semis_one : (n m : ℕ) (x y : List Lexeme) → first goes_on_rule x ≡ false →
    first goes_on_rule y ≡ false → semis n ++ x ≡ semis m ++ y → Same n m x y
semis_one zero zero x y h k e = record { one = refl; rest = e }
semis_one zero (suc m) x y h k e = split_true (first goes_on_rule x) (ap (first goes_on_rule) e) h
semis_one (suc n) zero x y h k e = split_true (first goes_on_rule y)
    (sym (ap (first goes_on_rule) e)) k
semis_one (suc n) (suc m) x y h k e =
    let s = semis_one n m x y h k (let z : semis n ++ x ≡ semis m ++ y = cc in z) in
    record { one = ap suc s.one; rest = s.rest }

-- what a test answers after semicolons, where it fails at a semicolon
semis_first : (p : Lexeme → Bool) (n : ℕ) (x : List Lexeme) → p (fixed sign.Semicolon) ≡ false →
    first p x ≡ false → first p (semis n ++ x) ≡ false
semis_first p zero x h k = k
semis_first p (suc n) x h k = h

abbrev braced_yield : Option (List ℕ) → List Lexeme
braced_yield t = option_yield (λ t. braced t ∷ []) t

abbrev prec_yield : Option Identifier → List Lexeme
prec_yield p = option_yield (λ i. fixed sign.Prec ∷ identifier_yield i ∷ []) p

acts : (l : Lexeme) → is_act l ≡ true → goes_on_rule l ≡ true
acts (braced t) h = refl
acts (fixed s) h = cc
acts _ h = cc

precs : (l : Lexeme) → is_prec l ≡ true → goes_on_rule l ≡ true
precs (fixed sign.Prec) h = refl
precs (fixed _) h = cc
precs _ h = cc

items : (l : Lexeme) → is_item l ≡ true → goes_on_rule l ≡ true
items (name n) h = refl
items (literal n) h = refl
items (braced n) h = refl
items (fixed s) h = cc
items _ h = cc

-- after a precedence no precedence follows
braced_first : (t : Option (List ℕ)) (n : ℕ) (x : List Lexeme) → first goes_on_rule x ≡ false →
    first is_prec (braced_yield t ++ (semis n ++ x)) ≡ false
braced_first None n x h = semis_first is_prec n x refl (weaker is_prec goes_on_rule precs x h)
braced_first (Some t) n x h = refl

-- after a body no item follows
end_first : (p : Option Identifier) (t : Option (List ℕ)) (n : ℕ) (x : List Lexeme) →
    (IsSome t → IsSome p) → first goes_on_rule x ≡ false →
    first is_item (prec_yield p ++ (braced_yield t ++ (semis n ++ x))) ≡ false
end_first (Some i) t n x w h = refl
end_first None None n x w h = semis_first is_item n x refl (weaker is_item goes_on_rule items x h)
end_first None (Some t) n x w h = let z : false ≡ true = w refl in cc

rule_text_same : (c d : RuleText) → c.left ≡ d.left → c.body ≡ d.body → c.prec ≡ d.prec →
    c.last ≡ d.last → c.semicolons ≡ d.semicolons → c ≡ d
rule_text_same c d e f g h k = λ i. record {
  left = e i;
  body = f i;
  prec = g i;
  last = h i;
  semicolons = k i;
}

regroup : (a b c d x : List Lexeme) → (a ++ (b ++ (c ++ d))) ++ x ≡ a ++ (b ++ (c ++ (d ++ x)))
regroup a b c d x = simp append_assoc

rule_text_cancel : (c d : RuleText) (x y : List Lexeme) → IsRuleText c → IsRuleText d →
    first goes_on_rule x ≡ false → first goes_on_rule y ≡ false → rule_text_yield c ++ x ≡
    rule_text_yield
    d ++ y → Same c d x y
rule_text_cancel c d x y i j h k e =
    let l = left_one c.left d.left (let z : left_yield c.left ≡ left_yield d.left = cc in z) in
    let tail : (map body_part_yield c.body ++ end_yield c.prec c.last c.semicolons) ++ x ≡
    (map body_part_yield d.body ++ end_yield d.prec d.last d.semicolons) ++ y = cc in
    let flat = sym (regroup (map body_part_yield c.body) (prec_yield c.prec) (braced_yield c.last)
    (semis c.semicolons) x) ∙ tail ∙ regroup (map body_part_yield d.body) (prec_yield d.prec)
    (braced_yield d.last) (semis d.semicolons) y in
    let b = map_one body_part_yield is_item item_starts item_one c.body d.body _ _
    (end_first c.prec c.last c.semicolons x i h)
    (end_first d.prec d.last d.semicolons y j k) flat in
    let p = option_one (λ i. fixed sign.Prec ∷ identifier_yield i ∷ []) is_prec (λ i z. refl)
    (λ a b z u w. record {
      one =
          id_one a b (let q : identifier_yield a ≡ identifier_yield b = cc in q);
      rest =
          (let q : z ≡ u = cc in q);
    })
    c.prec d.prec (braced_yield c.last ++ (semis c.semicolons ++ x))
    (braced_yield d.last ++ (semis d.semicolons ++ y)) (braced_first c.last c.semicolons x h)
    (braced_first d.last d.semicolons y k) b.rest in
    let t = option_one (λ t. braced t ∷ []) is_act (λ i z. refl)
    (λ a b z u w. record {
      one = (let q : a ≡ b = cc in q);
      rest =
          (let q : z ≡ u = cc in q);
    })
    c.last d.last (semis c.semicolons ++ x) (semis d.semicolons ++ y)
    (semis_first is_act c.semicolons x refl (weaker is_act goes_on_rule acts x h))
    (semis_first is_act d.semicolons y refl (weaker is_act goes_on_rule acts y k)) p.rest in
    let s = semis_one c.semicolons d.semicolons x y h k t.rest in
    record { one = rule_text_same c d l b.one p.one t.one s.one; rest = s.rest }

rule_text_starts : (c : RuleText) (x : List Lexeme) → first is_left (rule_text_yield c ++ x) ≡ true
rule_text_starts c x = go c.left
  where
    go : (l : Option (List ℕ)) → is_left (left_yield l) ≡ true
    go None = refl
    go (Some n) = refl

rule_text_calm : (c : RuleText) (x : List Lexeme) → first goes_on_rule (rule_text_yield c ++ x) ≡
    false
rule_text_calm c x = go c.left
  where
    go : (l : Option (List ℕ)) → goes_on_rule (left_yield l) ≡ false
    go None = refl
    go (Some n) = refl

-- ---- whole trees

mark_one : (a b : Bool) → mark_yield a ≡ mark_yield b → a ≡ b
mark_one true true e = refl
mark_one false false e = refl
mark_one true false e = cc
mark_one false true e = cc

mark_first : (p : Lexeme → Bool) (b : Bool) → p (fixed sign.Mark) ≡ false →
    first p (mark_yield b) ≡ false
mark_first p true h = h
mark_first p false h = refl

tree_same : (t u : Tree) → t.definitions ≡ u.definitions → t.rule_texts ≡ u.rule_texts →
    t.second_mark ≡ u.second_mark → t ≡ u
tree_same t u e f g = λ i.
    record { definitions = e i; rule_texts = f i; second_mark = g i }

pub one_tree : (t u : Tree) → IsTree t → IsTree u → yield t ≡ yield u → t ≡ u
one_tree t u h k e =
    let d = many_one definition_yield is_definition definition_starts IsDefinition goes_on_list
    definition_calm definition_cancel t.definitions u.definitions
    (fixed sign.Mark ∷ (flat_map rule_text_yield t.rule_texts ++ mark_yield t.second_mark))
    (fixed sign.Mark ∷ (flat_map rule_text_yield u.rule_texts ++ mark_yield u.second_mark))
    h.definitions k.definitions refl refl refl refl e in
    let tail : flat_map rule_text_yield t.rule_texts ++ mark_yield t.second_mark ≡ flat_map
    rule_text_yield
    u.rule_texts ++ mark_yield u.second_mark = let r = d.rest in cc in
    let c = many_one rule_text_yield is_left rule_text_starts IsRuleText goes_on_rule rule_text_calm
    rule_text_cancel t.rule_texts u.rule_texts (mark_yield t.second_mark) (mark_yield u.second_mark)
    h.rule_texts k.rule_texts (mark_first is_left t.second_mark refl)
    (mark_first is_left u.second_mark refl) (mark_first goes_on_rule t.second_mark refl)
    (mark_first goes_on_rule u.second_mark refl) tail in
    tree_same t u d.one c.one (mark_one t.second_mark u.second_mark c.rest)
