-- Lexemes that are derived have a tree.
use Rattle.std.proofs.Common.{ℕ, ◌≡◌, ◌<◌, ◌+◌, Bool, true, false, List, [], ◌∷◌, ◌++◌, map, length}
use Rattle.std.proofs.Common.{Option, Some, None, IsSome, refl, sym, ap, ◌∙◌, subst, arith}
use Rattle.std.proofs.Common.{append_assoc, append-nil, length-append}
use Rattle.std.proofs.lemmas.Grind.{flat_map-append}
use Rattle.std.proofs.lemmas.List.{map-append, replicate_more}
use Rattle.std.specs.List.{flat_map, AllByRecursion}
use Rattle.std.specs.Prelude.{replicate}
use Rattle.ylexemes.specs.declared.kind.Kind.{Kind}
use Rattle.ylexemes.specs.declared.kind.Kind.TheVariants as kind
use Rattle.ylexemes.specs.declared.kind.Sign.{Sign}
use Rattle.ylexemes.specs.declared.kind.Sign.TheVariants as sign
use Rattle.ysyntax.specs.Syntax.{Symbol, lexeme, spec, tail, defs, def, rword, tag, nlist, nmno}
use Rattle.ysyntax.specs.Syntax.{identifier, tlist, rules, rule, rbody, prec, Production, spec_is}
use Rattle.ysyntax.specs.Syntax.{tail_mark, tail_empty, defs_empty, defs_more, def_start}
use Rattle.ysyntax.specs.Syntax.{def_union, def_code, def_list, def_type, rword_token, rword_left}
use Rattle.ysyntax.specs.Syntax.{rword_right, rword_nonassoc, tag_empty, tag_name, nlist_one}
use Rattle.ysyntax.specs.Syntax.{nlist_more, nmno_plain, nmno_number, identifier_name}
use Rattle.ysyntax.specs.Syntax.{identifier_literal, tlist_one, tlist_more, rules_one, rules_more}
use Rattle.ysyntax.specs.Syntax.{rule_head, rule_bar, rbody_empty, rbody_symbol, rbody_act}
use Rattle.ysyntax.specs.Syntax.{prec_empty, prec_named, prec_act, prec_semicolon, IsSpec}
use Rattle.ylexemes.specs.Lexemes.{Lexeme, name, c_identifier, literal, number, braced, code, fixed}
use Rattle.ylexemes.specs.Lexemes.{kind_of}
use Rattle.ylexemes.specs.Lexemes.{sign_kind}
use Rattle.ysyntax.specs.Lexer.{kinds}
use Rattle.ysyntax.specs.Tree.{Identifier, named, quoted, Word, Entry, Definition, start, union}
use Rattle.ysyntax.specs.Tree.{block, listing, types, BodyPart, symbol, action, RuleText, Tree}
use Rattle.ysyntax.specs.Tree.{identifier_yield, option_yield, entry_yield, word_sign, tag_yield}
use Rattle.ysyntax.specs.Tree.{definition_yield, body_part_yield, left_yield, end_yield}
use Rattle.ysyntax.specs.Tree.{rule_text_yield}
use Rattle.ysyntax.specs.Tree.{mark_yield, yield, IsDefinition, IsRuleText, BeginsWithName, IsTree}
use Rattle.ysymbols.proofs.Derivations.{Stands, sound}

-- ---- lexemes of a kind

abbrev kind_sign : Kind → Option Sign
kind_sign kind.Mark = Some sign.Mark
kind_sign kind.Token = Some sign.Token
kind_sign kind.Left = Some sign.Left
kind_sign kind.Right = Some sign.Right
kind_sign kind.Nonassoc = Some sign.Nonassoc
kind_sign kind.Types = Some sign.Types
kind_sign kind.Start = Some sign.Start
kind_sign kind.Union = Some sign.Union
kind_sign kind.Prec = Some sign.Prec
kind_sign kind.Less = Some sign.Less
kind_sign kind.Greater = Some sign.Greater
kind_sign kind.Bar = Some sign.Bar
kind_sign kind.Semicolon = Some sign.Semicolon
kind_sign _ = None

sign_back : (s : Sign) → kind_sign (sign_kind s) ≡ Some s
sign_back sign.Mark = refl
sign_back _ = refl

not_sign : (s : Sign) (k : Kind) → kind_sign k ≡ None → sign_kind s ≡ k → ⊥
not_sign s k n e = let z : Some s ≡ None = sym (sign_back s) ∙ ap kind_sign e ∙ n in cc

only_sign : (l : Lexeme) (s : Sign) → kind_of l ≡ sign_kind s → l ≡ fixed s
only_sign (fixed z) s e = let w : Some z ≡ Some s = sym (sign_back z) ∙ ap kind_sign e ∙ sign_back
    s in ap fixed (let q : z ≡ s = cc in q)
only_sign (name n) s e = absurd (not_sign s kind.Name refl (sym e))
only_sign (c_identifier n) s e = absurd (not_sign s kind.CIdentifier refl (sym e))
only_sign (literal n) s e = absurd (not_sign s kind.Literal refl (sym e))
only_sign (number n) s e = absurd (not_sign s kind.Number refl (sym e))
only_sign (braced n) s e = absurd (not_sign s kind.Braced refl (sym e))
only_sign code s e = absurd (not_sign s kind.Code refl (sym e))

only_name : (l : Lexeme) → kind_of l ≡ kind.Name → (n : List ℕ) × (l ≡ name n)
only_name (name n) e = (n, refl)
only_name (fixed z) e = absurd (not_sign z kind.Name refl e)
only_name _ e = cc

only_c_identifier : (l : Lexeme) → kind_of l ≡ kind.CIdentifier → (n : List ℕ) ×
    (l ≡ c_identifier n)
only_c_identifier (c_identifier n) e = (n, refl)
only_c_identifier (fixed z) e = absurd (not_sign z kind.CIdentifier refl e)
only_c_identifier _ e = cc

only_literal : (l : Lexeme) → kind_of l ≡ kind.Literal → (v : ℕ) × (l ≡ literal v)
only_literal (literal v) e = (v, refl)
only_literal (fixed z) e = absurd (not_sign z kind.Literal refl e)
only_literal _ e = cc

only_number : (l : Lexeme) → kind_of l ≡ kind.Number → (n : List ℕ) × (l ≡ number n)
only_number (number n) e = (n, refl)
only_number (fixed z) e = absurd (not_sign z kind.Number refl e)
only_number _ e = cc

only_braced : (l : Lexeme) → kind_of l ≡ kind.Braced → (n : List ℕ) × (l ≡ braced n)
only_braced (braced n) e = (n, refl)
only_braced (fixed z) e = absurd (not_sign z kind.Braced refl e)
only_braced _ e = cc

only_code : (l : Lexeme) → kind_of l ≡ kind.Code → l ≡ code
only_code code e = refl
only_code (fixed z) e = absurd (not_sign z kind.Code refl e)
only_code _ e = cc

-- ---- what each symbol stands for

Meaning : Symbol → List Lexeme → Type 0
Meaning (lexeme k) y = (l : Lexeme) × (y ≡ l ∷ []) × (kind_of l ≡ k)
Meaning spec y = (t : Tree) × IsTree t × (y ≡ yield t)
Meaning tail y = (b : Bool) × (y ≡ mark_yield b)
Meaning defs y = (ds : List Definition) × AllByRecursion IsDefinition ds ×
    (y ≡ flat_map definition_yield ds)
Meaning def y = (d : Definition) × IsDefinition d × (y ≡ definition_yield d)
Meaning rword y = (w : Word) × (y ≡ fixed (word_sign w) ∷ [])
Meaning tag y = (t : Option (List ℕ)) × (y ≡ option_yield tag_yield t)
Meaning nlist y = (es : List Entry) × (0 < length es) × (y ≡ flat_map entry_yield es)
Meaning nmno y = (e : Entry) × (y ≡ entry_yield e)
Meaning identifier y = (i : Identifier) × (y ≡ identifier_yield i ∷ [])
Meaning tlist y = (ns : List (List ℕ)) × (0 < length ns) × (y ≡ map name ns)
Meaning rules y = (cs : List RuleText) × AllByRecursion IsRuleText cs × BeginsWithName cs ×
    (y ≡ flat_map rule_text_yield cs)
Meaning rule y = (c : RuleText) × IsRuleText c × (y ≡ rule_text_yield c)
Meaning rbody y = (is : List BodyPart) × (y ≡ map body_part_yield is)
Meaning prec y = (p : Option Identifier) × (t : Option (List ℕ)) × (n : ℕ) × (IsSome t → IsSome p) ×
    (y ≡ end_yield p t n)

single : (s : Symbol) (y : List Lexeme) → Stands Meaning (s ∷ []) y → Meaning s y
single s y (a, r, e, m, p) = subst (Meaning s) (sym (e ∙ ap (λ t. a ++ t) p ∙ append-nil a)) m

-- a lexeme that has one spelling, in front
sign_first : (s : Sign) (x : List Symbol) (y : List Lexeme) → Stands Meaning
    (lexeme (sign_kind s) ∷ x) y → (r : List Lexeme) × (y ≡ fixed s ∷ r) × Stands Meaning x r
unfolding Meaning
sign_first s x y (a, r, e, (l, f, k), p) =
    (r, e ∙ ap (λ t. t ++ r) f ∙ ap (λ z. z ∷ r) (only_sign l s k), p)

sign_alone : (s : Sign) (y : List Lexeme) → Stands Meaning (lexeme (sign_kind s) ∷ []) y →
    y ≡ fixed s ∷ []
sign_alone s y h = let (r, e, p) = sign_first s [] y h in e ∙ ap (λ z. fixed s ∷ z) p

name_first : (x : List Symbol) (y : List Lexeme) → Stands Meaning (lexeme kind.Name ∷ x) y →
    (n : List ℕ) × (r : List Lexeme) × (y ≡ name n ∷ r) × Stands Meaning x r
unfolding Meaning
name_first x y (a, r, e, (l, f, k), p) = let (n, w) = only_name l k in
    (n, r, e ∙ ap (λ t. t ++ r) f ∙ ap (λ z. z ∷ r) w, p)

c_identifier_first : (x : List Symbol) (y : List Lexeme) → Stands Meaning
    (lexeme kind.CIdentifier ∷ x) y →
    (n : List ℕ) × (r : List Lexeme) × (y ≡ c_identifier n ∷ r) × Stands Meaning x r
unfolding Meaning
c_identifier_first x y (a, r, e, (l, f, k), p) = let (n, w) = only_c_identifier l k in
    (n, r, e ∙ ap (λ t. t ++ r) f ∙ ap (λ z. z ∷ r) w, p)

braced_alone : (y : List Lexeme) → Stands Meaning (lexeme kind.Braced ∷ []) y → (n : List ℕ) ×
    (y ≡ braced n ∷ [])
unfolding Meaning
braced_alone y (a, r, e, (l, f, k), p) = let (n, w) = only_braced l k in
    (n, e ∙ ap (λ t. t ++ r) f ∙ ap (λ z. l ∷ z) p ∙ ap (λ z. z ∷ []) w)

all_join : {A : Type 0} (P : A → Type 0) (xs ys : List A) → AllByRecursion P xs →
    AllByRecursion P ys → AllByRecursion P (xs ++ ys)
all_join P [] ys h k = k
all_join P (x ∷ xs) ys h k = (h.0, all_join P xs ys h.1 k)

one_more : {A : Type 0} (f : A → List Lexeme) (xs : List A) (x : A) (y a r : List Lexeme) →
    y ≡ a ++ r → a ≡ flat_map f xs → r ≡ f x → y ≡ flat_map f (xs ++ x ∷ [])
one_more f xs x y a r e h k = e ∙ ap (λ z. z ++ r) h ∙ ap (λ z. flat_map f xs ++ z)
    (k ∙ sym (append-nil (f x))) ∙ sym (flat_map-append f xs (x ∷ []))

begins_more : (cs : List RuleText) (c : RuleText) → BeginsWithName cs → BeginsWithName (cs ++ c ∷
    [])
begins_more [] c h = absurd h
begins_more (d ∷ cs) c h = h

-- a rule from its parts
rule_text_of : (left : Option (List ℕ)) (y r : List Lexeme) → y ≡ left_yield left ∷ r → Stands
    Meaning
    (rbody ∷ prec ∷ []) r → (c : RuleText) × IsRuleText c × (y ≡ rule_text_yield c) × (c.left ≡
    left)
unfolding Meaning
rule_text_of left y r e (b, r2, e2, (is, f), p) =
    let (q, t, n, w, g) = single prec r2 p in (
      record { left = left; body = is; prec = q; last = t; semicolons = n },
      w,
      e ∙ ap (λ z. left_yield left ∷ z)
          (e2 ∙ ap (λ z. z ++ r2) f ∙ ap (λ z. map body_part_yield is ++ z) g),
      refl,
    )

semicolon_more : (a b : List Lexeme) (n : ℕ) → (a ++ (b ++ replicate n (fixed sign.Semicolon))) ++
    fixed sign.Semicolon ∷ [] ≡ a ++ (b ++ replicate (n + 1) (fixed sign.Semicolon))
semicolon_more a b n =
    append_assoc a (b ++ replicate n (fixed sign.Semicolon)) (fixed sign.Semicolon ∷ []) ∙ ap
    (λ z. a ++ z) (append_assoc b (replicate n (fixed sign.Semicolon))
    (fixed sign.Semicolon ∷ []) ∙ ap (λ z. b ++ z) (replicate_more n (fixed sign.Semicolon)))

closed : (n : Symbol) (body : List Symbol) (y : List Lexeme) → Production n body →
    Stands Meaning body y → Meaning n y
unfolding Meaning
closed _ _ y spec_is (
  d,
  r1,
  e1,
  (ds, a, f),
  (m, r2, e2, (l, g, k), (ru, r3, e3, (cs, b, first, h), p)),
) =
    let (second, t) = single tail r3 p in
    let mark : m ≡ fixed sign.Mark ∷ [] = g ∙ ap (λ z. z ∷ []) (only_sign l sign.Mark k) in (
      record { definitions = ds; rule_texts = cs; second_mark = second },
      record { definitions = a; rule_texts = b; first = first },
      e1 ∙ ap (λ z. z ++ r1) f ∙ ap (λ z. flat_map definition_yield ds ++ z)
          (e2 ∙ ap (λ z. z ++ r2) mark ∙ ap (λ z. fixed sign.Mark ∷ z)
          (e3 ∙ ap (λ z. z ++ r3) h ∙ ap (λ z. flat_map rule_text_yield cs ++ z) t)),
    )
closed _ _ y tail_mark h = (true, sign_alone sign.Mark y h)
closed _ _ y tail_empty h = (false, h)
closed _ _ y defs_empty h = ([], tt, h)
closed _ _ y defs_more (d, r, e, (ds, a, f), p) =
    let (x, b, g) = single def r p in (
      ds ++ x ∷ [],
      all_join IsDefinition ds (x ∷ []) a (b, tt),
      one_more definition_yield ds x y d r
          e f g,
    )
closed _ _ y def_start h =
    let (r, e, p) = sign_first sign.Start (identifier ∷ []) y h in
    let (i, f) = single identifier r p in
    (start i, tt, e ∙ ap (λ z. fixed sign.Start ∷ z) f)
closed _ _ y def_union h =
    let (r, e, p) = sign_first sign.Union (lexeme kind.Braced ∷ []) y h in
    let (t, f) = braced_alone r p in
    (union t, tt, e ∙ ap (λ z. fixed sign.Union ∷ z) f)
closed _ _ y def_code h =
    let (l, f, k) = single (lexeme kind.Code) y h in
    (block, tt, f ∙ ap (λ z. z ∷ []) (only_code l k))
closed _ _ y def_list (w, r1, e1, (word, f), (t, r2, e2, (tg, g), p)) =
    let (es, some, h) = single nlist r2 p in (
      listing word tg es,
      some,
      e1 ∙ ap (λ z. z ++ r1) f ∙ ap (λ z. fixed (word_sign word) ∷ z)
          (e2 ∙ ap (λ z. z ++ r2) g ∙ ap (λ z. option_yield tag_yield tg ++ z) h),
    )
closed _ _ y def_type h =
    let (r1, e1, p1) = sign_first sign.Types
    (lexeme kind.Less ∷ lexeme kind.Name ∷ lexeme kind.Greater ∷ tlist ∷ []) y h in
    let (r2, e2, p2) = sign_first sign.Less (lexeme kind.Name ∷ lexeme kind.Greater ∷ tlist ∷ []) r1
    p1 in
    let (n, r3, e3, p3) = name_first (lexeme kind.Greater ∷ tlist ∷ []) r2 p2 in
    let (r4, e4, p4) = sign_first sign.Greater (tlist ∷ []) r3 p3 in
    let (ns, some, f) = single tlist r4 p4 in (
      types n ns,
      some,
      e1 ∙ ap (λ z. fixed sign.Types ∷ z) (e2 ∙ ap (λ z. fixed sign.Less ∷ z)
          (e3 ∙ ap (λ z. name n ∷ z) (e4 ∙ ap (λ z. fixed sign.Greater ∷ z) f))),
    )
closed _ _ y rword_token h = (Word.token, sign_alone sign.Token y h)
closed _ _ y rword_left h = (Word.left, sign_alone sign.Left y h)
closed _ _ y rword_right h = (Word.right, sign_alone sign.Right y h)
closed _ _ y rword_nonassoc h = (Word.nonassoc, sign_alone sign.Nonassoc y h)
closed _ _ y tag_empty h = (None, h)
closed _ _ y tag_name h =
    let (r1, e1, p1) = sign_first sign.Less (lexeme kind.Name ∷ lexeme kind.Greater ∷ []) y h in
    let (n, r2, e2, p2) = name_first (lexeme kind.Greater ∷ []) r1 p1 in (
      Some n,
      e1 ∙ ap (λ z. fixed sign.Less ∷ z)
          (e2 ∙ ap (λ z. name n ∷ z) (sign_alone sign.Greater r2 p2)),
    )
closed _ _ y nlist_one h =
    let (e, f) = single nmno y h in
    (e ∷ [], omega arith, f ∙ sym (append-nil (entry_yield e)))
closed _ _ y nlist_more (a, r, e, (es, some, f), p) =
    let (x, g) = single nmno r p in (
      es ++ x ∷ [],
      (let l = length-append es (x ∷ []) in omega (arith, l)),
      one_more entry_yield es x y a r e f g,
    )
closed _ _ y nmno_plain h =
    let (i, f) = single identifier y h in
    (record { who = i; digits = None }, f)
closed _ _ y nmno_number (a, r, e, (i, f), p) =
    let (l, g, k) = single (lexeme kind.Number) r p in
    let (n, w) = only_number l k in (
      record { who = i; digits = Some n },
      e ∙ ap (λ z. z ++ r) f ∙ ap (λ z. identifier_yield i ∷ z)
          (g ∙ ap (λ z. z ∷ []) w),
    )
closed _ _ y identifier_name h =
    let (l, g, k) = single (lexeme kind.Name) y h in
    let (n, w) = only_name l k in
    (named n, g ∙ ap (λ z. z ∷ []) w)
closed _ _ y identifier_literal h =
    let (l, g, k) = single (lexeme kind.Literal) y h in
    let (v, w) = only_literal l k in
    (quoted v, g ∙ ap (λ z. z ∷ []) w)
closed _ _ y tlist_one h =
    let (l, g, k) = single (lexeme kind.Name) y h in
    let (n, w) = only_name l k in
    (n ∷ [], omega arith, g ∙ ap (λ z. z ∷ []) w)
closed _ _ y tlist_more (a, r, e, (ns, some, f), p) =
    let (l, g, k) = single (lexeme kind.Name) r p in
    let (n, w) = only_name l k in (
      ns ++ n ∷ [],
      (let l = length-append ns (n ∷ []) in omega (arith, l)),
      e ∙ ap (λ z. z ++ r) f ∙ ap (λ z. map name ns ++ z) (g ∙ ap (λ z. z ∷ []) w) ∙ sym
          (map-append name ns (n ∷ [])),
    )
closed _ _ y rules_one h =
    let (n, r, e, p) = c_identifier_first (rbody ∷ prec ∷ []) y h in
    let (c, i, f, l) = rule_text_of (Some n) y r e p in
    (c ∷ [], (i, tt), subst IsSome (sym l) refl, f ∙ sym (append-nil (rule_text_yield c)))
closed _ _ y rules_more (a, r, e, (cs, all, first, f), p) =
    let (c, i, g) = single rule r p in (
      cs ++ c ∷ [],
      all_join IsRuleText cs (c ∷ []) all (i, tt),
      begins_more cs c first,
      one_more rule_text_yield cs c y a r e f g,
    )
closed _ _ y rule_head h =
    let (n, r, e, p) = c_identifier_first (rbody ∷ prec ∷ []) y h in
    let (c, i, f, l) = rule_text_of (Some n) y r e p in
    (c, i, f)
closed _ _ y rule_bar h =
    let (r, e, p) = sign_first sign.Bar (rbody ∷ prec ∷ []) y h in
    let (c, i, f, l) = rule_text_of None y r e p in
    (c, i, f)
closed _ _ y rbody_empty h = ([], h)
closed _ _ y rbody_symbol (b, r, e, (is, f), p) =
    let (i, g) = single identifier r p in (
      is ++ symbol i ∷ [],
      e ∙ ap (λ z. z ++ r) f ∙ ap (λ z. map body_part_yield is ++ z) g ∙ sym
          (map-append body_part_yield is (symbol i ∷ [])),
    )
closed _ _ y rbody_act (b, r, e, (is, f), p) =
    let (t, g) = braced_alone r p in (
      is ++ action t ∷ [],
      e ∙ ap (λ z. z ++ r) f ∙ ap (λ z. map body_part_yield is ++ z) g ∙ sym
          (map-append body_part_yield is (action t ∷ [])),
    )
closed _ _ y prec_empty h = (None, None, 0, (λ t. t), h)
closed _ _ y prec_named h =
    let (r, e, p) = sign_first sign.Prec (identifier ∷ []) y h in
    let (i, f) = single identifier r p in
    (Some i, None, 0, (λ t. refl), e ∙ ap (λ z. fixed sign.Prec ∷ z) f)
closed _ _ y prec_act h =
    let (r, e, (a, r2, e2, (i, f), p)) = sign_first sign.Prec (identifier ∷ lexeme kind.Braced ∷ [])
    y
    h in
    let (t, g) = braced_alone r2 p in (
      Some i,
      Some t,
      0,
      (λ t. refl),
      e ∙ ap (λ z. fixed sign.Prec ∷ z)
          (e2 ∙ ap (λ z. z ++ r2) f ∙ ap (λ z. identifier_yield i ∷ z) g),
    )
closed _ _ y prec_semicolon (a, r, e, (p, t, n, w, f), q) =
    let s = sign_alone sign.Semicolon r q in (
      p,
      t,
      n + 1,
      w,
      e ∙ ap (λ z. z ++ r) f ∙ ap (λ z. end_yield p t n ++ z) s ∙ semicolon_more
          (option_yield (λ i. fixed sign.Prec ∷ identifier_yield i ∷ []) p)
          (option_yield (λ t. braced t ∷ []) t) n,
    )

stands_kinds : (ls : List Lexeme) → Stands Meaning (map lexeme (kinds ls)) ls
unfolding Meaning
stands_kinds [] = refl
stands_kinds (l ∷ ls) = (l ∷ [], ls, refl, (l, refl, refl), stands_kinds ls)

pub tree_of : (ls : List Lexeme) → IsSpec (kinds ls) → (t : Tree) × IsTree t × (ls ≡ yield t)
unfolding Meaning
tree_of ls d = single spec ls (sound Meaning Production closed (spec ∷ []) (map lexeme (kinds ls))
    ls d (stands_kinds ls))
