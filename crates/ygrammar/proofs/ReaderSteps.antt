-- A file has one grammar or one fault.
use Rattle.std.proofs.Common.{ℕ, ◌≡◌, ◌<◌, ◌≤◌, ◌⊎◌, inl, inr, List, [], Result, Ok, Err, refl, sym}
use Rattle.std.proofs.Common.{ap}
use Rattle.std.proofs.Common.{subst, arith, true, false, length, take, ◌++◌, ◌+◌, ◌∙◌}
use Rattle.std.proofs.Common.{length-append}
use Rattle.std.specs.Result.{IsErrOf}
use Rattle.ysyntax.specs.Answers.{FailsAt, IsOutcome, views}
use Rattle.ysyntax.specs.declared.fault.GrammarFault.{GrammarFault}
use Rattle.ysyntax.specs.declared.fault.GrammarFault.TheVariants as faults
use Rattle.ydeclarations.specs.declared.mistake.Mistake.{Mistake}
use Rattle.ydeclarations.specs.declared.mistake.Mistake.TheVariants.{TokenLeft, Undefined}
use Rattle.ydeclarations.specs.declared.mistake.Mistake.TheVariants.{TwicePrecedence, BadNumber}
use Rattle.ydeclarations.specs.declared.mistake.Mistake.TheVariants.{BadStart, Unproductive}
use Rattle.ydeclarations.specs.declared.mistake.Mistake.TheVariants.{BadPrec}
use Rattle.ydeclarations.specs.declared.mistake.Mistake.TheVariants.{Limit}
use Rattle.ydeclarations.specs.declared.mistake.Refused.{Refused}
use Rattle.ydeclarations.specs.declared.mistake.Refused.TheVariants as refused
use Rattle.ysyntax.specs.declared.lexer.Placed.{Placed}
use Rattle.ysyntax.specs.declared.fault.PlacedFault.{PlacedFault}
use Rattle.ysyntax.specs.Placing.{placed_fault, too_long}
use Rattle.ysyntax.specs.Lexer.{Refusal, SpellsSyntax, Stops, StopsAt, newlines, refusal}
use Rattle.ysyntax.specs.Lexer.{ended, marked, lexical, stray, early}
use Rattle.ylexemes.specs.Front.{syntax}
use Rattle.std.specs.Prelude.{IfSome}
use Rattle.std.proofs.lemmas.Bool.{cases_lt}
use Rattle.std.proofs.Math.Seq.{take-append_seam}
use Rattle.ygrammar.specs.Elaborated.{IsFirstRefused}
use Rattle.ygrammar.specs.Faults.{IsFaultIn, IsRefusal}
use Rattle.ysymbols.specs.Grammar.{GrammarValue, longest_file}
use Rattle.ygrammar.specs.GrammarOf.{AnswersGrammar, AnswersMistake, AnswersRefusal, HasTree}
use Rattle.ygrammar.specs.GrammarOf.{HasLine, IsFaultAt, IsFaultOf, IsMistakeAt, IsMistakenAt}
use Rattle.ygrammar.specs.GrammarOf.{IsMistakenOn}
use Rattle.ygrammar.specs.GrammarOf.{IsTextFault}
use Rattle.ygrammar.specs.GrammarOf.{line_in, line_of}
use Rattle.ygrammar.specs.GrammarOf.{mistake_at}
use Rattle.ylexemes.specs.Lexemes.{Lexeme}
use Rattle.ygrammar.specs.Meaning.{IsMeaning}
use Rattle.ydeclarations.specs.Mistakes.{IsFirst, order}
use Rattle.ysyntax.specs.Tree.{IsTree, Tree, yield}
use Rattle.ygrammar.proofs.OneMeaning.{none_first, one_first, one_meaning}
use Rattle.ydeclarations.specs.OutlineSites.{IsPlaced}
use Rattle.ydeclarations.specs.Places.{FirstAt, IsBarren, StandsAt}
use Rattle.ysyntax.specs.declared.tree.Tree.{Tree as CodeTree}
use Rattle.ysyntax.specs.Sites.{AreSites, Site, StandFrom}
use Rattle.ysyntax.specs.SiteViews.{marks_in, named_in, site_marks, tree_sites}
use Rattle.ysyntax.specs.TreeViews.{tree_view}
use Rattle.ysyntax.proofs.Coming.{what_marks}
use Rattle.ysyntax.proofs.SiteSteps.{roles_are}
use Rattle.ysyntax.proofs.OneTree.{one_tree}
use Rattle.ysymbols.proofs.NameSteps.{false_true}

abbrev err_of : GrammarFault → Result GrammarValue GrammarFault
err_of f = Err f

abbrev pub ok_of : {E T : Type 0} → T → Result T E
ok_of x = Ok x

lexemes_of : List Lexeme → Result (List Lexeme) Refusal → List Lexeme
lexemes_of d (Ok ls) = ls
lexemes_of d (Err r) = d

abbrev pub read : List Lexeme → Result (List Lexeme) Refusal
read ls = Ok ls

not_long : (n : ℕ) → (longest_file < n → ⊥) → n ≤ longest_file
not_long n h = go (long_or n)
  where
    long_or : (k : ℕ) → (longest_file < k) ⊎ (k ≤ longest_file)
    long_or k = grind (arith)

    go : (longest_file < n) ⊎ (n ≤ longest_file) → n ≤ longest_file
    go (inl l) = absurd (h l)
    go (inr l) = l

-- a file has one tree: that of the lexemes that are read
pub same_tree : (source : List ℕ) (items now : List Placed) (t u : Tree) → now ≡ items →
    views now ≡ yield t → IsTree t → ((ks : List Lexeme) → length source ≤ longest_file →
    SpellsSyntax source ks → read ks ≡ read (views items)) → HasTree source u → u ≡ t
unfolding lexemes_of
same_tree source items now t u e w s only h = one_tree u t h.shaped s
    (ap (lexemes_of (yield u)) (only (yield u) h.short h.spelled) ∙ ap views (sym e) ∙ w)

-- the tree of the lexemes that are read is the file's
pub has_tree : (source : List ℕ) (items now : List Placed) (t : Tree) → now ≡ items →
    views now ≡ yield t → IsTree t → (longest_file < length source → ⊥) →
    SpellsSyntax source (views items) → HasTree source t
has_tree source items now t e w s short found = record {
  short = not_long (length source) short;
  spelled = subst (SpellsSyntax source) (ap views (sym e) ∙ w) found;
  shaped = s;
}

-- a file has one grammar
pub same_grammar : (source : List ℕ) (t u : Tree) (g h : GrammarValue) → u ≡ t → IsMeaning t g →
    IsMeaning u h → g ≡ h
same_grammar source t u g h e a b = one_meaning t g h a (subst (λ x. IsMeaning x h) e b)

-- a file with a grammar has no mistake
pub no_grammar : (source : List ℕ) (t u : Tree) (e : Refused) (f : PlacedFault)
    (h : GrammarValue) → u ≡ t → IsFirstRefused t e → IsRefusal source e f → IsMeaning u h →
    AnswersGrammar (err_of f.fault) h
no_grammar source t u (refused.Mistake what at) f h e first is m =
    absurd (none_first t order what (subst (λ x. IsMeaning x h) e m).sound first)
no_grammar source t u refused.Memory f h e first is m =
    subst (λ (x : PlacedFault). AnswersGrammar (err_of x.fault) h) (sym is) tt

mistaken : (source : List ℕ) (m : Mistake) (line at : ℕ) → IsMistakenAt source m at →
    IsMistakeAt source at (mistake_at m line)
mistaken source TokenLeft line at p = p
mistaken source Undefined line at p = p
mistaken source TwicePrecedence line at p = p
mistaken source BadNumber line at p = p
mistaken source BadStart line at p = p
mistaken source Unproductive line at p = p
mistaken source BadPrec line at p = p
mistaken source Limit line at p = p

-- a mistake with its place is a fault of the file
mistake_of : (source : List ℕ) (t : Tree) (ss : List Site) (m : Mistake) (at : ℕ) →
    HasTree source t → AreSites source t ss → IsFirst t order m → StandsAt t ss m at →
    IsMistakenAt source m at
mistake_of source t ss m at h are first s = (t, h, first, (ss, are, s))

-- the mistake of the tree is the fault of the file, at its place
pub fault_of : (source : List ℕ) (t : Tree) (ss : List Site) (e : Refused) (f : PlacedFault) →
    HasTree source t → AreSites source t ss → IsFirstRefused t e → IsPlaced t ss e →
    IsRefusal source e f → IsMistakeAt source f.at f.fault
fault_of source t ss (refused.Mistake what at) f h are first p is =
    subst (λ (x : PlacedFault). IsMistakeAt source x.at x.fault) (sym is)
    (mistaken source what (line_of source at) at (mistake_of source t ss what at h are first p))
fault_of source t ss refused.Memory f h are first p is =
    subst (λ (x : PlacedFault). IsMistakeAt source x.at x.fault) (sym is) refl

-- the line of a refusal is that of its place
pub refusal_line : (source : List ℕ) (e : Refused) (f : PlacedFault) → IsRefusal source e f →
    HasLine source f
refusal_line source (refused.Mistake what at) f is = subst (HasLine source) (sym is) (go what)
  where
    go : (m : Mistake) → HasLine source (placed_fault (mistake_at m (line_of source at)) at)
    go TokenLeft = refl
    go Undefined = refl
    go TwicePrecedence = refl
    go BadNumber = refl
    go BadStart = refl
    go Unproductive = refl
    go BadPrec = refl
    go Limit = refl
refusal_line source refused.Memory f is = subst (HasLine source) (sym is) tt

-- ---- where reading stops

line_of_stop : (ls : List Lexeme) (rest : List ℕ) (n : ℕ) (r : Result (List Lexeme) Refusal) →
    Stops ls rest n r → (d : Refusal) → r ≡ Err d → d.line ≡ n
line_of_stop ls rest n _ (ended e h) d w = cc
line_of_stop ls rest n _ (marked m i h) d w = cc
line_of_stop ls rest n _ (lexical {fault = f} h) d w =
    let same : refusal f n ≡ d = cc in ap (λ (x : Refusal). x.line) (sym same)
line_of_stop ls rest n _ (stray m h) d w =
    let same : refusal syntax n ≡ d = cc in ap (λ (x : Refusal). x.line) (sym same)
line_of_stop ls rest n _ (early e h) d w =
    let same : refusal syntax n ≡ d = cc in ap (λ (x : Refusal). x.line) (sym same)

-- the line of a fault of the text is that of the place where reading stops
stop_line : (source : List ℕ) (at : ℕ) (r : Refusal) → StopsAt source at (Err r) →
    r.line ≡ line_of source at
stop_line source at r s =
    let o = s.outcome in
    let w : length source ≡ length o.here.before + length o.rest =
    ap (λ (x : List ℕ). length x) o.here.whole ∙ length-append o.here.before o.rest in
    let p = s.place in
    let n : at ≡ length o.here.before = omega (arith, w, p) in
    let front : take at source ≡ o.here.before =
    ap (λ (x : List ℕ). take at x) o.here.whole
    ∙ ap (λ i. take i (o.here.before ++ o.rest)) n
    ∙ take-append_seam o.here.before o.rest in
    line_of_stop o.before o.rest o.line (Err r) o.stops r refl ∙ o.here.counted
    ∙ ap (λ (x : List ℕ). newlines x + 1) (sym front)

-- what the lexer answers is a fault of the file, at its place and on the line of that
pub text_fault : (source : List ℕ) (e : PlacedFault) →
    (longest_file < length source → e ≡ too_long) →
    (length source ≤ longest_file → FailsAt source e.at e.fault) →
    IsTextFault source e.at e.fault × HasLine source e
text_fault source e long short = elim (cases_lt longest_file (length source)) [
  | inl h ↦ subst (λ (x : PlacedFault). IsTextFault source x.at x.fault × HasLine source x)
      (sym (long h)) (h, tt)
  | inr h ↦ go h e.fault (short h)
]
  where
    go : length source ≤ longest_file → (f : GrammarFault) → FailsAt source e.at f →
        IsTextFault source e.at f × IfSome (line_in f) (λ line. line ≡ line_of source e.at)
    go h (faults.Unfinished line) s = ((h, s), stop_line source e.at _ s)
    go h (faults.BadLiteral line) s = ((h, s), stop_line source e.at _ s)
    go h (faults.Foreign line) s = ((h, s), stop_line source e.at _ s)
    go h (faults.Syntax line) s = ((h, s), stop_line source e.at _ s)
    go h faults.Memory s = (s, tt)
    go h _ s = absurd s

on_line : (source : List ℕ) (m : Mistake) (at line : ℕ) → IsMistakenAt source m at →
    line ≡ line_of source at → IsMistakenOn source m line
on_line source m at line (t, h, first, p) l = (t, h, first, (at, p, l))

-- a fault at its place is one of the file
pub fault_found : (source : List ℕ) (e : PlacedFault) → IsFaultAt source e.at e.fault →
    HasLine source e → IsFaultOf source e.fault
fault_found source e h l = go h
  where
    text : (f : GrammarFault) → IsTextFault source e.at f → IsFaultOf source f
    text faults.TooLong h = h
    text (faults.Unfinished line) h = (h.0, h.1.outcome)
    text (faults.BadLiteral line) h = (h.0, h.1.outcome)
    text (faults.Foreign line) h = (h.0, h.1.outcome)
    text (faults.Syntax line) h = (h.0, h.1.outcome)
    text faults.Memory h = tt
    text _ h = absurd h

    mistake : (f : GrammarFault) → IsMistakeAt source e.at f →
        IfSome (line_in f) (λ line. line ≡ line_of source e.at) → IsFaultOf source f
    mistake (faults.TokenLeft line) h l = on_line source TokenLeft e.at line h l
    mistake (faults.Undefined line) h l = on_line source Undefined e.at line h l
    mistake (faults.TwicePrecedence line) h l = on_line source TwicePrecedence e.at line h l
    mistake (faults.BadNumber line) h l = on_line source BadNumber e.at line h l
    mistake (faults.BadStart line) h l = on_line source BadStart e.at line h l
    mistake (faults.Unproductive line) h l = on_line source Unproductive e.at line h l
    mistake (faults.BadPrec line) h l = on_line source BadPrec e.at line h l
    mistake (faults.Limit line) h l = on_line source Limit e.at line h l
    mistake faults.Memory h l = tt
    mistake _ h l = absurd h

    go : IsFaultAt source e.at e.fault → IsFaultOf source e.fault
    go (inl h) = text e.fault h
    go (inr h) = mistake e.fault h l

-- where the lexemes of a file can be read, only memory can run out
pub memory_alone : (f : GrammarFault) (ls : List Lexeme) → IsOutcome f (Ok ls) → f ≡ faults.Memory
memory_alone (faults.Unfinished line) ls h = cc
memory_alone (faults.BadLiteral line) ls h = cc
memory_alone (faults.Foreign line) ls h = cc
memory_alone (faults.Syntax line) ls h = cc
memory_alone faults.Memory ls h = refl
memory_alone _ ls h = absurd h

-- ---- left sides that derive no list of tokens

-- where that is the fault, it stands at the first such left side
pub barren_told : (source : List ℕ) (t : Tree) (ss : List Site) (f : PlacedFault) (line : ℕ) →
    IsFaultIn source t ss f → f.fault ≡ faults.Unproductive line →
    FirstAt (λ r. IsBarren t r) ss f.at
barren_told source t ss f line (refused.Mistake what at, first, p, is) e =
    go what p (ap (λ (x : PlacedFault). x.fault) (sym is) ∙ e)
  where
    go : (m : Mistake) → StandsAt t ss m at →
        mistake_at m (line_of source at) ≡ faults.Unproductive line →
        FirstAt (λ r. IsBarren t r) ss f.at
    go Unproductive p e =
        subst (FirstAt (λ r. IsBarren t r) ss) (sym (ap (λ (x : PlacedFault). x.at) is)) p
    go TokenLeft p e = cc
    go Undefined p e = cc
    go TwicePrecedence p e = cc
    go BadNumber p e = cc
    go BadStart p e = cc
    go BadPrec p e = cc
    go Limit p e = cc
barren_told source t ss f line (refused.Memory, first, p, is) e =
    let w : faults.Memory ≡ faults.Unproductive line =
    ap (λ (x : PlacedFault). x.fault) (sym is) ∙ e in cc

-- ---- the other direction

-- a file whose lexemes are read has no fault of the syntax
pub read_no_fault : (ls : List Lexeme) (r : Refusal) (A : Type 0) → read ls ≡ Err r → A
read_no_fault ls r A e = absurd
    (false_true (ap (λ (o : Result (List Lexeme) Refusal). elim o [ Ok y ↦ false | Err d ↦ true ])
    e))

-- the fault of the syntax that is answered is the file's
pub same_refusal : (f : GrammarFault) (r : Refusal) → IsOutcome f (Err r) → AnswersRefusal
    (err_of f) r
same_refusal (faults.Unfinished line) r h = cc
same_refusal (faults.BadLiteral line) r h = cc
same_refusal (faults.Foreign line) r h = cc
same_refusal (faults.Syntax line) r h = cc
same_refusal faults.Memory r h = tt
same_refusal _ r h = absurd h

-- each mistake is answered as itself
answers_mistake : (source : List ℕ) (m : Mistake) (at : ℕ) → IsMistakenAt source m at →
    AnswersMistake source (err_of (mistake_at m (line_of source at))) m
answers_mistake source TokenLeft at h = (at, h, refl)
answers_mistake source Undefined at h = (at, h, refl)
answers_mistake source TwicePrecedence at h = (at, h, refl)
answers_mistake source BadNumber at h = (at, h, refl)
answers_mistake source BadStart at h = (at, h, refl)
answers_mistake source Unproductive at h = (at, h, refl)
answers_mistake source BadPrec at h = (at, h, refl)
answers_mistake source Limit at h = (at, h, refl)

-- the mistake that is answered is the file's first
pub same_mistake : (source : List ℕ) (t u : Tree) (ss : List Site) (e : Refused)
    (f : PlacedFault) (m : Mistake) → u ≡ t → HasTree source t → AreSites source t ss →
    IsFirstRefused t e → IsPlaced t ss e → IsRefusal source e f → IsFirst u order m →
    AnswersMistake source (err_of f.fault) m
same_mistake source t u ss (refused.Mistake what at) f m e h are first p is k =
    let same : what ≡ m = one_first t order what m first (subst (λ x. IsFirst x order m) e k) in
    subst (λ (x : PlacedFault). AnswersMistake source (err_of x.fault) m) (sym is)
    (subst (λ x. AnswersMistake source (err_of (mistake_at what (line_of source at))) x) same
    (answers_mistake source what at (mistake_of source t ss what at h are first p)))
same_mistake source t u ss refused.Memory f m e h are first p is k =
    subst (λ (x : PlacedFault). AnswersMistake source (err_of x.fault) m) (sym is) tt

-- the sites of the tree of the lexemes that are read are those of the file
pub sites_of : (source : List ℕ) (items now : List Placed) (t : CodeTree) → now ≡ items →
    views now ≡ yield (tree_view t) → named_in now ≡ site_marks (tree_sites t) →
    StandFrom source [] (marks_in items) → AreSites source (tree_view t) (tree_sites t)
sites_of source items now t e w s stand = record {
  marks = marks_in now;
  stand = subst (λ (x : List Placed). StandFrom source [] (marks_in x)) (sym e) stand;
  lexemes = what_marks now ∙ w;
  named = s;
  roles_are = roles_are t;
}

-- an answer is no error
pub ok_err : {T E : Type 0} (x : T) (e : E) → IsErrOf (ok_of {E = E} x) e → ⊥
ok_err {T = T} {E = E} x e h =
    false_true (sym (ap (λ (r : Result T E). elim r [ Ok y ↦ true | Err d ↦ false ]) h))
