-- What is derived from `spec` is accepted by the recogniser: each nonterminal is a set of moves.
use Rattle.std.proofs.Common.{◌≡◌, List, [], ◌∷◌, ◌++◌, map, Option, Some, None, true, refl, sym}
use Rattle.std.proofs.Common.{ap, ◌∙◌, subst, append_assoc, append-nil, ◌⊎◌, inl, inr}
use Rattle.ylexemes.specs.declared.kind.Kind.{Kind}
use Rattle.ylexemes.specs.declared.kind.Kind.TheVariants as kind
use Rattle.ysyntax.specs.declared.recogniser.State.{State}
use Rattle.ysyntax.specs.declared.recogniser.State.TheVariants.{Declarations, StartWord}
use Rattle.ysyntax.specs.declared.recogniser.State.TheVariants.{UnionWord}
use Rattle.ysyntax.specs.declared.recogniser.State.TheVariants.{ListWord, ListTagged}
use Rattle.ysyntax.specs.declared.recogniser.State.TheVariants.{Listed}
use Rattle.ysyntax.specs.declared.recogniser.State.TheVariants.{Numbered, TypeWord}
use Rattle.ysyntax.specs.declared.recogniser.State.TheVariants.{TypeTagged}
use Rattle.ysyntax.specs.declared.recogniser.State.TheVariants.{Typed, RulesMark, Body}
use Rattle.ysyntax.specs.declared.recogniser.State.TheVariants.{PrecWord}
use Rattle.ysyntax.specs.declared.recogniser.State.TheVariants.{PrecNamed, Semicolons, End}
use Rattle.ysyntax.specs.Syntax.{Symbol, lexeme, spec, tail, defs, def, rword, tag, nlist, nmno}
use Rattle.ysyntax.specs.Syntax.{identifier, tlist, rules, rule, rbody, prec, Production, spec_is}
use Rattle.ysyntax.specs.Syntax.{tail_mark, tail_empty, defs_empty, defs_more, def_start}
use Rattle.ysyntax.specs.Syntax.{def_union, def_code, def_list, def_type, rword_token, rword_left}
use Rattle.ysyntax.specs.Syntax.{rword_right, rword_nonassoc, tag_empty, tag_name, nlist_one}
use Rattle.ysyntax.specs.Syntax.{nlist_more, nmno_plain, nmno_number, identifier_name}
use Rattle.ysyntax.specs.Syntax.{identifier_literal, tlist_one, tlist_more, rules_one, rules_more}
use Rattle.ysyntax.specs.Syntax.{rule_head, rule_bar, rbody_empty, rbody_symbol, rbody_act}
use Rattle.ysyntax.specs.Syntax.{prec_empty, prec_named, prec_act, prec_semicolon, IsSpec}
use Rattle.ysyntax.specs.Recogniser.{after_definition, after_rule, next_state, state_after}
use Rattle.ysyntax.specs.Recogniser.{is_final}
use Rattle.ysyntax.specs.Recogniser.{is_final_at, run}
use Rattle.ysymbols.proofs.Derivations.{Stands, sound}

-- from nowhere the kinds lead nowhere
pub lost : (ks : List Kind) → state_after None ks ≡ None
lost [] = refl
lost (k ∷ ks) = refl

pub state_after_append : (o : Option State) (x y : List Kind) → state_after o (x ++ y) ≡ state_after
    (state_after o x) y
state_after_append o [] y = refl
state_after_append None (k ∷ x) y = sym (lost y)
state_after_append (Some q) (k ∷ x) y = state_after_append (next_state q k) x y

-- the kinds lead from the first state to the second
record Leads (q : State) (ks : List Kind) (r : State) : Type 0 where
  is : state_after (Some q) ks ≡ Some r

then : {q r s : State} {x y : List Kind} → Leads q x r → Leads r y s → Leads q (x ++ y) s
then {q} {r} {s} {x} {y} a b = record {
  is = state_after_append (Some q) x y ∙ ap (λ o. state_after o y)
      a.is ∙ b.is;
}

move : (q : State) (k : Kind) (r : State) {s : State} {ks : List Kind} → next_state q k ≡ Some r →
    Leads r ks s → Leads q (k ∷ ks) s
move q k r {s} {ks} e l = record { is = ap (λ o. state_after o ks) e ∙ l.is }

-- a move into one of some states
record To (P : State → Type 0) (q : State) (y : List Kind) : Type 0 where
  last : State
  such : P last
  leads : Leads q y last

-- states between two declarations
data Between : State → Type 0 where
  after_declaration : Between Declarations
  after_listed : Between Listed
  after_numbered : Between Numbered
  after_typed : Between Typed

-- states that the first entry of a list may follow
data Tagged : State → Type 0 where
  untagged : Tagged ListWord
  tagged : Tagged ListTagged

-- states after an entry
data Behind : State → Type 0 where
  plain : Behind Listed
  numbered_rule : Behind Numbered

-- states after a rule
data Ruled : State → Type 0 where
  bare : Ruled Body
  named : Ruled PrecNamed
  closed_off : Ruled Semicolons

data IsRword : Kind → Type 0 where
  a_token : IsRword kind.Token
  a_left : IsRword kind.Left
  a_right : IsRword kind.Right
  a_nonassoc : IsRword kind.Nonassoc

Meaning : Symbol → List Kind → Type 0
Meaning (lexeme k) y = y ≡ k ∷ []
Meaning spec y = To (λ q. is_final q ≡ true) Declarations y
Meaning tail y = (y ≡ []) ⊎ (y ≡ kind.Mark ∷ [])
Meaning defs y = To Between Declarations y
Meaning def y = (q : State) → Between q → To Between q y
Meaning rword y = (k : Kind) × (y ≡ k ∷ []) × IsRword k
Meaning tag y = To Tagged ListWord y
Meaning nlist y = (q : State) → Tagged q → To Behind q y
Meaning nmno y = (q : State) → Tagged q ⊎ Behind q → To Behind q y
Meaning identifier y = (y ≡ kind.Name ∷ []) ⊎ (y ≡ kind.Literal ∷ [])
Meaning tlist y = Leads TypeTagged y Typed
Meaning rules y = To Ruled RulesMark y
Meaning rule y = (q : State) → Ruled q → To Ruled q y
Meaning rbody y = Leads Body y Body
Meaning prec y = To Ruled Body y

-- ---- moves from several states at once

between_of : {q : State} → Behind q → Between q
between_of plain = after_listed
between_of numbered_rule = after_numbered

leaves : (q : State) → Between q → (k : Kind) (r : State) → after_definition k ≡ Some r →
    next_state q k ≡ Some r
leaves _ after_declaration k r h = h
leaves _ after_listed kind.Number r h = cc
leaves _ after_listed kind.Name r h = cc
leaves _ after_listed kind.Literal r h = cc
leaves _ after_listed _ r h = h
leaves _ after_numbered kind.Name r h = cc
leaves _ after_numbered kind.Literal r h = cc
leaves _ after_numbered _ r h = h
leaves _ after_typed kind.Name r h = cc
leaves _ after_typed _ r h = h

rword_move : (q : State) (k : Kind) → Between q → IsRword k → next_state q k ≡ Some ListWord
rword_move q _ b a_token = leaves q b kind.Token ListWord refl
rword_move q _ b a_left = leaves q b kind.Left ListWord refl
rword_move q _ b a_right = leaves q b kind.Right ListWord refl
rword_move q _ b a_nonassoc = leaves q b kind.Nonassoc ListWord refl

ends_rule : (q : State) → Ruled q → (k : Kind) (r : State) → after_rule k ≡ Some r →
    next_state q k ≡ Some r
ends_rule _ bare kind.Name r h = cc
ends_rule _ bare kind.Literal r h = cc
ends_rule _ bare kind.Braced r h = cc
ends_rule _ bare kind.Prec r h = cc
ends_rule _ bare _ r h = h
ends_rule _ named kind.Braced r h = cc
ends_rule _ named _ r h = h
ends_rule _ closed_off k r h = h

-- a name or a literal
names : (q r : State) (y : List Kind) → next_state q kind.Name ≡ Some r →
    next_state q kind.Literal ≡ Some r → Meaning identifier y → Leads q y r
unfolding Meaning
names q r y n l (inl e) = record { is = ap (state_after (Some q)) e ∙ n }
names q r y n l (inr e) = record { is = ap (state_after (Some q)) e ∙ l }

entry : (q : State) (y : List Kind) → Tagged q ⊎ Behind q → Meaning identifier y → Leads q y Listed
entry _ y (inl untagged) i = names _ _ y refl refl i
entry _ y (inl tagged) i = names _ _ y refl refl i
entry _ y (inr plain) i = names _ _ y refl refl i
entry _ y (inr numbered_rule) i = names _ _ y refl refl i

-- ---- taking a form's pieces apart

begun : (k : Kind) (x : List Symbol) (y : List Kind) → Stands Meaning (lexeme k ∷ x) y →
    (r : List Kind) × (y ≡ k ∷ r) × Stands Meaning x r
unfolding Meaning
begun k x y (a, r, e, m, p) = (r, e ∙ ap (λ t. t ++ r) m, p)

single : (s : Symbol) (y : List Kind) → Stands Meaning (s ∷ []) y → Meaning s y
single s y (a, r, e, m, p) = subst (Meaning s) (sym (e ∙ ap (λ t. a ++ t) p ∙ append-nil a)) m

-- ---- the productions

whole_file : (y d m ru t : List Kind) → y ≡ d ++ (m ++ (ru ++ t)) → m ≡ kind.Mark ∷ [] →
    Meaning defs d → Meaning rules ru → Meaning tail t → Meaning spec y
unfolding Meaning
whole_file y d m ru t e em md mr mt =
    let middle : Leads Declarations (d ++ (kind.Mark ∷ ru)) mr.last =
    then md.leads (move md.last kind.Mark RulesMark
    (leaves md.last md.such kind.Mark RulesMark refl) mr.leads) in
    let whole : y ≡ (d ++ (kind.Mark ∷ ru)) ++ t = e ∙ ap (λ z. d ++ (z ++ (ru ++ t))) em ∙ sym
    (append_assoc d (kind.Mark ∷ ru) t) in
    subst (To (λ q. is_final q ≡ true) Declarations) (sym whole) (last mr.last mr.such middle mt)
  where
    final_of : (q : State) → Ruled q → is_final q ≡ true
    final_of _ bare = refl
    final_of _ named = refl
    final_of _ closed_off = refl

    last : (q : State) → Ruled q → Leads Declarations (d ++ (kind.Mark ∷ ru)) q →
        ((t ≡ []) ⊎ (t ≡ kind.Mark ∷ [])) → To (λ r. is_final r ≡ true) Declarations
        ((d ++ (kind.Mark ∷ ru)) ++ t)
    last q r l (inl n) = record {
      last = q;
      such = final_of q r;
      leads =
          then l (record { is = ap (state_after (Some q)) n });
    }
    last q r l (inr n) = record {
      last = End;
      such = refl;
      leads =
          then l (record { is = ap (state_after (Some q)) n ∙ ends_rule q r kind.Mark End refl });
    }

a_list : (y w t n : List Kind) → y ≡ w ++ (t ++ n) → Meaning rword w → Meaning tag t →
    Meaning nlist n → Meaning def y
unfolding Meaning
a_list y w t n e (k, ek, isr) mt mn = λ q b.
    let last = mn mt.last mt.such in
    subst (To Between q) (sym (e ∙ ap (λ z. z ++ (t ++ n)) ek))
    (record {
      last = last.last;
      such = between_of last.such;
      leads = move q k ListWord
          (rword_move q k b isr) (then mt.leads last.leads);
    })

-- a rule's body and precedence, after a name or a bar
rule_end : (y b p : List Kind) → y ≡ b ++ p → Meaning rbody b → Meaning prec p → To Ruled Body y
unfolding Meaning
rule_end y b p e mb mp = subst (To Ruled Body) (sym e)
    (record { last = mp.last; such = mp.such; leads = then mb mp.leads })

-- a rule, which a kind begins that may follow a rule
headed : (k : Kind) → after_rule k ≡ Some Body → (y : List Kind) →
    Stands Meaning (lexeme k ∷ (rbody ∷ prec ∷ [])) y → Meaning rule y
unfolding Meaning
headed k leads y h = λ q u.
    let (r, e, (b, r2, e2, mb, p)) = begun k (rbody ∷ prec ∷ []) y h in
    let m = rule_end r b r2 e2 mb (single prec r2 p) in
    subst (To Ruled q) (sym e)
    (let first = ends_rule q u k Body leads in
    record { last = m.last; such = m.such; leads = move q k Body first m.leads })

closed : (n : Symbol) (body : List Symbol) (y : List Kind) → Production n body →
    Stands Meaning body y → Meaning n y
unfolding Meaning
closed _ _ y spec_is (d, r1, e1, md, (m, r2, e2, em, (ru, r3, e3, mr, (t, r4, e4, mt, e5)))) =
    whole_file y d m ru t (e1 ∙ ap (λ z. d ++ z)
    (e2 ∙ ap (λ z. m ++ z) (e3 ∙ ap (λ z. ru ++ z) (e4 ∙ ap (λ z. t ++ z) e5 ∙ append-nil t))))
    em md mr mt
closed _ _ y tail_mark h = inr (single (lexeme kind.Mark) y h)
closed _ _ y tail_empty h = inl h
closed _ _ y defs_empty h = record {
  last = Declarations;
  such = after_declaration;
  leads =
      record { is = ap (state_after (Some Declarations)) h };
}
closed _ _ y defs_more (d, r, e, md, p) =
    let m = single def r p md.last md.such in
    subst (To Between Declarations) (sym e)
    (record { last = m.last; such = m.such; leads = then md.leads m.leads })
closed _ _ y def_start h = λ q b.
    let (r, e, p) = begun kind.Start (identifier ∷ []) y h in
    subst (To Between q) (sym e) (record {
      last = Declarations;
      such = after_declaration;
      leads =
          move q kind.Start StartWord (leaves q b kind.Start StartWord refl)
          (names StartWord Declarations r refl refl (single identifier r p));
    })
closed _ _ y def_union h = λ q b.
    let (r, e, p) = begun kind.Union (lexeme kind.Braced ∷ []) y h in
    let a : r ≡ kind.Braced ∷ [] = single (lexeme kind.Braced) r p in
    subst (To Between q) (sym e) (record {
      last = Declarations;
      such = after_declaration;
      leads =
          move q kind.Union UnionWord (leaves q b kind.Union UnionWord refl)
          (record { is = ap (state_after (Some UnionWord)) a });
    })
closed _ _ y def_code h = λ q b.
    let a : y ≡ kind.Code ∷ [] = single (lexeme kind.Code) y h in
    record {
      last = Declarations;
      such = after_declaration;
      leads =
          record { is = ap (state_after (Some q)) a ∙ leaves q b kind.Code Declarations refl };
    }
closed _ _ y def_list (w, r1, e1, mw, (t, r2, e2, mt, p)) =
    a_list y w t r2 (e1 ∙ ap (λ z. w ++ z) e2) mw mt (single nlist r2 p)
closed _ _ y def_type h = λ q b.
    let (r1, e1, p1) = begun kind.Types (lexeme kind.Less ∷ lexeme kind.Name ∷ lexeme kind.Greater ∷
    tlist ∷ []) y h in
    let (r2, e2, p2) = begun kind.Less (lexeme kind.Name ∷ lexeme kind.Greater ∷ tlist ∷ []) r1
    p1 in
    let (r3, e3, p3) = begun kind.Name (lexeme kind.Greater ∷ tlist ∷ []) r2 p2 in
    let (r4, e4, p4) = begun kind.Greater (tlist ∷ []) r3 p3 in
    let m = single tlist r4 p4 in
    let whole : y ≡ kind.Types ∷ kind.Less ∷ kind.Name ∷ kind.Greater ∷ r4 = cc in
    subst (To Between q) (sym whole)
    (record {
      last = Typed;
      such = after_typed;
      leads = move q kind.Types TypeWord
          (leaves q b kind.Types TypeWord refl) (record { is = m.is });
    })
closed _ _ y rword_token h = (kind.Token, single (lexeme kind.Token) y h, a_token)
closed _ _ y rword_left h = (kind.Left, single (lexeme kind.Left) y h, a_left)
closed _ _ y rword_right h = (kind.Right, single (lexeme kind.Right) y h, a_right)
closed _ _ y rword_nonassoc h = (kind.Nonassoc, single (lexeme kind.Nonassoc) y h, a_nonassoc)
closed _ _ y tag_empty h = record {
  last = ListWord;
  such = untagged;
  leads =
      record { is = ap (state_after (Some ListWord)) h };
}
closed _ _ y tag_name h =
    let (r1, e1, p1) = begun kind.Less (lexeme kind.Name ∷ lexeme kind.Greater ∷ []) y h in
    let (r2, e2, p2) = begun kind.Name (lexeme kind.Greater ∷ []) r1 p1 in
    let e3 : r2 ≡ kind.Greater ∷ [] = single (lexeme kind.Greater) r2 p2 in
    let whole : y ≡ kind.Less ∷ kind.Name ∷ kind.Greater ∷ [] = cc in
    record {
      last = ListTagged;
      such = tagged;
      leads =
          record { is = ap (state_after (Some ListWord)) whole };
    }
closed _ _ y nlist_one h = λ q t. single nmno y h q (inl t)
closed _ _ y nlist_more (n, r, e, mn, p) = λ q t.
    let a = mn q t in
    let b = single nmno r p a.last (inr a.such) in
    subst (To Behind q) (sym e)
    (record { last = b.last; such = b.such; leads = then a.leads b.leads })
closed _ _ y nmno_plain h = λ q t. record {
  last = Listed;
  such = plain;
  leads =
      entry q y t (single identifier y h);
}
closed _ _ y nmno_number (i, r, e, mi, p) = λ q t.
    let n : r ≡ kind.Number ∷ [] = single (lexeme kind.Number) r p in
    subst (To Behind q) (sym e)
    (record {
      last = Numbered;
      such = numbered_rule;
      leads = then (entry q i t mi)
          (record { is = ap (state_after (Some Listed)) n });
    })
closed _ _ y identifier_name h = inl (single (lexeme kind.Name) y h)
closed _ _ y identifier_literal h = inr (single (lexeme kind.Literal) y h)
closed _ _ y tlist_one h =
    record {
      is = ap (state_after (Some TypeTagged)) (let e : y ≡ kind.Name ∷ [] =
          single (lexeme kind.Name) y h in e);
    }
closed _ _ y tlist_more (t, r, e, mt, p) =
    let n : r ≡ kind.Name ∷ [] = single (lexeme kind.Name) r p in
    subst (λ z. Leads TypeTagged z Typed) (sym e)
    (then mt (record { is = ap (state_after (Some Typed)) n }))
closed _ _ y rules_one h =
    let (r, e, (b, r2, e2, mb, p)) = begun kind.CIdentifier (rbody ∷ prec ∷ []) y h in
    let m = rule_end r b r2 e2 mb (single prec r2 p) in
    subst (To Ruled RulesMark) (sym e)
    (record {
      last = m.last;
      such = m.such;
      leads = move RulesMark kind.CIdentifier Body refl m.leads;
    })
closed _ _ y rules_more (d, r, e, md, p) =
    let m = single rule r p md.last md.such in
    subst (To Ruled RulesMark) (sym e)
    (record { last = m.last; such = m.such; leads = then md.leads m.leads })
closed _ _ y rule_head h = headed kind.CIdentifier refl y h
closed _ _ y rule_bar h = headed kind.Bar refl y h
closed _ _ y rbody_empty h = record { is = ap (state_after (Some Body)) h }
closed _ _ y rbody_symbol (b, r, e, mb, p) =
    subst (λ z. Leads Body z Body) (sym e)
    (then mb (names Body Body r refl refl (single identifier r p)))
closed _ _ y rbody_act (b, r, e, mb, p) =
    let a : r ≡ kind.Braced ∷ [] = single (lexeme kind.Braced) r p in
    subst (λ z. Leads Body z Body) (sym e) (then mb (record {
      is = ap (state_after (Some Body)) a;
    }))
closed _ _ y prec_empty h = record {
  last = Body;
  such = bare;
  leads =
      record { is = ap (state_after (Some Body)) h };
}
closed _ _ y prec_named h =
    let (r, e, p) = begun kind.Prec (identifier ∷ []) y h in
    subst (To Ruled Body) (sym e)
    (record {
      last = PrecNamed;
      such = named;
      leads = move Body kind.Prec PrecWord refl
          (names PrecWord PrecNamed r refl refl (single identifier r p));
    })
closed _ _ y prec_act h =
    let (r, e, (i, r2, e2, mi, p)) = begun kind.Prec (identifier ∷ lexeme kind.Braced ∷ []) y h in
    let a : r2 ≡ kind.Braced ∷ [] = single (lexeme kind.Braced) r2 p in
    let rest : Leads PrecWord r Semicolons = subst (λ z. Leads PrecWord z Semicolons) (sym e2)
    (then (names PrecWord PrecNamed i refl refl mi)
    (record { is = ap (state_after (Some PrecNamed)) a })) in
    subst (To Ruled Body) (sym e) (record {
      last = Semicolons;
      such = closed_off;
      leads =
          move Body kind.Prec PrecWord refl rest;
    })
closed _ _ y prec_semicolon (q, r, e, mq, p) =
    let s : r ≡ kind.Semicolon ∷ [] = single (lexeme kind.Semicolon) r p in
    subst (To Ruled Body) (sym e) (record {
      last = Semicolons;
      such = closed_off;
      leads =
          then mq.leads (record {
            is = ap (state_after (Some mq.last)) s ∙ ends_rule mq.last mq.such
                kind.Semicolon Semicolons refl;
          });
    })

stands_lexemes : (ks : List Kind) → Stands Meaning (map lexeme ks) ks
unfolding Meaning
stands_lexemes [] = refl
stands_lexemes (k ∷ ks) = (k ∷ [], ks, refl, refl, stands_lexemes ks)

pub recognised : (ks : List Kind) → IsSpec ks → run Declarations ks ≡ true
unfolding Meaning
recognised ks d =
    let m = single spec ks (sound Meaning Production closed (spec ∷ []) (map lexeme ks) ks d
    (stands_lexemes ks)) in
    ap is_final_at m.leads.is ∙ m.such
