-- Reading one part after another comes to the file's outcome.
use Rattle.std.proofs.Common.{ℕ, ◌≡◌, ◌≤◌, ◌+◌, ◌-◌, drop, Bool, true, false, cond, not, ◌&&◌, ◌||◌}
use Rattle.std.proofs.Common.{◌⊎◌, inl, inr, eqb, List, [], ◌∷◌, ◌++◌, length, Option, Some, None}
use Rattle.std.proofs.Common.{Ok, Err, refl, sym, ap, ◌∙◌, subst, arith, append-nil, append_assoc}
use Rattle.std.proofs.Common.{length-append, map}
use Rattle.std.proofs.lemmas.Bool.{eqb-true, and_parts, or_cases, not-true, both_ways}
use Rattle.std.proofs.lemmas.List.{map-append, map_push}
use Rattle.std.proofs.Math.Seq.{drop-append_seam}
use Rattle.std.proofs.Common.{Result}
use Rattle.ysyntax.specs.declared.lexer.Placed.{Placed}
use Rattle.ylexemes.specs.declared.kind.Kind.{Kind}
use Rattle.ylexemes.specs.declared.kind.Kind.TheVariants as kind
use Rattle.ylexemes.specs.declared.kind.Sign.TheVariants as sign
use Rattle.ylexemes.specs.declared.part.LexicalFault.{LexicalFault}
use Rattle.ylexemes.specs.declared.part.LexicalFault.TheVariants as code_faults
use Rattle.ysyntax.specs.declared.recogniser.State.{State}
use Rattle.ysyntax.specs.declared.recogniser.State.TheVariants.{Declarations, StartWord}
use Rattle.ysyntax.specs.declared.recogniser.State.TheVariants.{UnionWord}
use Rattle.ysyntax.specs.declared.recogniser.State.TheVariants.{ListWord, ListTagOpen}
use Rattle.ysyntax.specs.declared.recogniser.State.TheVariants.{ListTagName}
use Rattle.ysyntax.specs.declared.recogniser.State.TheVariants.{ListTagged, Listed}
use Rattle.ysyntax.specs.declared.recogniser.State.TheVariants.{Numbered}
use Rattle.ysyntax.specs.declared.recogniser.State.TheVariants.{TypeWord, TypeTagOpen}
use Rattle.ysyntax.specs.declared.recogniser.State.TheVariants.{TypeTagName}
use Rattle.ysyntax.specs.declared.recogniser.State.TheVariants.{TypeTagged, Typed}
use Rattle.ysyntax.specs.declared.recogniser.State.TheVariants.{RulesMark, Body}
use Rattle.ysyntax.specs.declared.recogniser.State.TheVariants.{PrecWord, PrecNamed}
use Rattle.ysyntax.specs.declared.recogniser.State.TheVariants.{Semicolons}
use Rattle.ysyntax.specs.declared.recogniser.State.TheVariants.{End}
use Rattle.ysyntax.specs.Syntax.{BeginsSpec}
use Rattle.ysyntax.specs.Recogniser.{next_state, state_after, is_final, is_final_at, is_end}
use Rattle.ylexemes.specs.Lexemes.{Lexeme, fixed, kind_of}
use Rattle.ysyntax.specs.Lexer.{ComesTo, Cuts, lexemes, kinds, is_mark, marks}
use Rattle.ysyntax.specs.Sites.{Mark, StandFrom, StandsBehind}
use Rattle.ysyntax.specs.SiteViews.{marks_in, placed_mark}
use Rattle.ylexemes.specs.Front.{Part, lexeme, PartAt}
use Rattle.ysyntax.specs.Lexer.{refusal, IsLine, ended, marked, lexical, stray}
use Rattle.ylexemes.specs.Front.{syntax, FaultAt}
use Rattle.ysyntax.specs.Lexer.{early, Outcome, Refusal, Stops, StopsAt}
use Rattle.ylexemes.specs.Views.{lexeme_view, fault_view}
use Rattle.ysyntax.specs.Answers.{views, fault_at, FailsAt, Comes, ComesIn, StandIn}
use Rattle.ysyntax.specs.Answers.{StandsIn, StopsIn}
use Rattle.ysyntax.specs.declared.fault.GrammarFault.{GrammarFault}
use Rattle.ysyntax.specs.declared.fault.PlacedFault.{PlacedFault}
use Rattle.ysyntax.proofs.Accepted.{state_after_append, recognised}
use Rattle.ysyntax.proofs.Shapes.{derived}
use Rattle.ysyntax.proofs.Viable.{viable, not_viable}
use Rattle.ysyntax.proofs.Outcomes.{lexemes_append, marks_append, kinds_append, cut_before}

-- ---- marks and states

abbrev count_mark : Kind → ℕ
count_mark k = cond (is_mark k) 1 0

-- how many marks have been read in a state
abbrev marks_of : State → ℕ
marks_of RulesMark = 1
marks_of Body = 1
marks_of PrecWord = 1
marks_of PrecNamed = 1
marks_of Semicolons = 1
marks_of End = 2
marks_of _ = 0

abbrev counts : State → Kind → Option State → Bool
counts q k None = true
counts q k (Some r) = eqb (marks_of r) (marks_of q + count_mark k) && (not (is_end r) || is_mark k)

good : (q : State) (k : Kind) → counts q k (next_state q k) ≡ true
good Declarations kind.Name = refl
good Declarations _ = refl
good StartWord kind.Name = refl
good StartWord _ = refl
good UnionWord kind.Name = refl
good UnionWord _ = refl
good ListWord kind.Name = refl
good ListWord _ = refl
good ListTagOpen kind.Name = refl
good ListTagOpen _ = refl
good ListTagName kind.Name = refl
good ListTagName _ = refl
good ListTagged kind.Name = refl
good ListTagged _ = refl
good Listed kind.Name = refl
good Listed _ = refl
good Numbered kind.Name = refl
good Numbered _ = refl
good TypeWord kind.Name = refl
good TypeWord _ = refl
good TypeTagOpen kind.Name = refl
good TypeTagOpen _ = refl
good TypeTagName kind.Name = refl
good TypeTagName _ = refl
good TypeTagged kind.Name = refl
good TypeTagged _ = refl
good Typed kind.Name = refl
good Typed _ = refl
good RulesMark kind.Name = refl
good RulesMark _ = refl
good Body kind.Name = refl
good Body _ = refl
good PrecWord kind.Name = refl
good PrecWord _ = refl
good PrecNamed kind.Name = refl
good PrecNamed _ = refl
good Semicolons kind.Name = refl
good Semicolons _ = refl
good End kind.Name = refl
good End _ = refl

record Counted (q : State) (k : Kind) (r : State) : Type 0 where
  sum : marks_of r ≡ marks_of q + count_mark k
  last : is_end r ≡ true → is_mark k ≡ true

counted : (q : State) (k : Kind) (r : State) → next_state q k ≡ Some r → Counted q k r
counted q k r e =
    let h : counts q k (Some r) ≡ true = ap (counts q k) (sym e) ∙ good q k in
    let p = and_parts (eqb (marks_of r) (marks_of q + count_mark k)) (not (is_end r) || is_mark k)
    h in
    record {
      sum = eqb-true (marks_of r) (marks_of q + count_mark k) p.0;
      last =
          λ t. either t (or_cases (not (is_end r)) (is_mark k) p.1);
    }
  where
    either : is_end r ≡ true → (not (is_end r) ≡ true) ⊎ (is_mark k ≡ true) → is_mark k ≡ true
    either t (inl n) = absurd (both_ways (is_end r) (not-true (is_end r) n) t)
    either t (inr m) = m

few : (q : State) → is_end q ≡ false → marks_of q ≤ 1
few Declarations h = omega arith
few End h = cc
few _ h = omega arith

two : (q : State) → is_end q ≡ true → marks_of q ≡ 2
two Declarations h = cc
two End h = refl
two _ h = cc

-- the state tells how many marks have been read
reads_marks : (ls : List Lexeme) (q r : State) → state_after (Some q) (kinds ls) ≡ Some r →
    marks_of q + marks ls ≡ marks_of r
reads_marks [] q r e = let z : q ≡ r = cc in let w : marks_of q ≡ marks_of r = ap marks_of z in
    omega (arith, w)
reads_marks (l ∷ ls) q r e = go (next_state q (kind_of l)) refl e (λ s f. reads_marks ls s r f)
  where
    count_first : marks (l ∷ ls) ≡ count_mark (kind_of l) + marks ls
    count_first = marks_append (l ∷ []) ls

    go : (o : Option State) → next_state q (kind_of l) ≡ o → state_after o (kinds ls) ≡ Some r →
        ((s : State) → state_after (Some s) (kinds ls) ≡ Some r → marks_of s + marks ls ≡ marks_of
        r) →
        marks_of q + marks (l ∷ ls) ≡ marks_of r
    go None h f again = lost_is (kinds ls) f
      where
        lost_is : (ks : List Kind) → state_after None ks ≡ Some r → marks_of q + marks
            (l ∷ ls) ≡ marks_of r
        lost_is [] f = cc
        lost_is (k ∷ ks) f = cc
    go (Some s) h f again =
        let c = (counted q (kind_of l) s h).sum in
        let a = again s f in
        let b = count_first in
        omega (arith, a, b, c)

mark_lexeme : (l : Lexeme) → is_mark (kind_of l) ≡ true → l ≡ fixed sign.Mark
mark_lexeme (fixed sign.Mark) h = refl
mark_lexeme (fixed sign.Token) h = cc
mark_lexeme (fixed _) h = cc
mark_lexeme _ h = cc

-- ---- one more part

cuts_more : (ps : List Part) (bytes rest : List ℕ) (p : Part) (m : List ℕ) → Cuts bytes ps rest →
    PartAt rest p m → Cuts bytes (ps ++ p ∷ []) m
cuts_more [] bytes rest p m e h = (m, subst (λ z. PartAt z p m) (sym e) h, refl)
cuts_more (q ∷ ps) bytes rest p m (n, a, c) h = (n, a, cuts_more ps n rest p m c h)

pub goes_gap : (bytes rest m : List ℕ) (ls : List Placed) (q : State) (p : Part) →
    Comes bytes ls rest q → lexemes (p ∷ []) ≡ [] → PartAt rest p m → Comes bytes ls m q
goes_gap bytes rest m ls q p c e h = record {
  cut = record {
    parts = c.cut.parts ++ p ∷ [];
    cut = cuts_more c.cut.parts bytes rest p m c.cut.cut h;
    read = lexemes_append c.cut.parts (p ∷ []) ∙ ap (λ z. lexemes c.cut.parts ++ z) e ∙ append-nil
        (lexemes c.cut.parts) ∙ c.cut.read;
    unfinished = c.cut.unfinished;
  };
  state_is = c.state_is;
  placed = c.placed;
  sites = c.sites;
}

views_push : (ls : List Placed) (p : Placed) → views (ls ++ p ∷ []) ≡ views ls ++ lexeme_view
    p.lexeme ∷ []
views_push ls p = map_push (λ (x : Placed). lexeme_view x.lexeme) ls p

state_after_push : (ls : List Lexeme) (l : Lexeme) (q : State) (o : Option State) →
    state_after (Some Declarations) (kinds ls) ≡ Some q → next_state q (kind_of l) ≡ o →
    state_after (Some Declarations) (kinds (ls ++ l ∷ [])) ≡ o
state_after_push ls l q o e h =
    ap (state_after (Some Declarations)) (kinds_append ls (l ∷ [])) ∙ state_after_append (Some
    Declarations)
    (kinds ls) (kind_of l ∷ []) ∙ ap (λ z. state_after z (kind_of l ∷ [])) e ∙ h

-- a lexeme that is read stands where the rest began
here : (before rest : List ℕ) (at : ℕ) → at ≡ length (before ++ rest) - length rest →
    drop at (before ++ rest) ≡ rest
here before rest at e =
    let n : at ≡ length before = let w = length-append before rest in omega (arith, e, w) in
    ap (λ i. drop i (before ++ rest)) n ∙ drop-append_seam before rest

back_there : (bytes rest : List ℕ) (at : ℕ) → (before : List ℕ) × (bytes ≡ before ++ rest) →
    at ≡ length bytes - length rest → drop at bytes ≡ rest
back_there bytes rest at (before, w) a =
    ap (λ (x : List ℕ). drop at x) w ∙ here before rest at
    (a ∙ ap (λ (x : List ℕ). length x - length rest) w)

there : (bytes rest : List ℕ) (ls : List Placed) (q : State) (at : ℕ) → Comes bytes ls rest q →
    at ≡ length bytes - length rest → drop at bytes ≡ rest
there bytes rest ls q at c a = back_there bytes rest at (cut_before c.cut.parts bytes rest c.cut.cut) a

-- what stands before what follows a lexeme that is read
pub after_part : (bytes rest m : List ℕ) (ls : List Placed) (q : State) (l : Lexeme) →
    Comes bytes ls rest q → PartAt rest (lexeme l) m → (before : List ℕ) × (bytes ≡ before ++ m)
after_part bytes rest m ls q l c h =
    let (before, w) = cut_before c.cut.parts bytes rest c.cut.cut in (
      before ++ h.text,
      w ∙ ap (λ (x : List ℕ). before ++ x) h.whole
          ∙ sym (append_assoc before h.text m),
    )

-- what follows a lexeme that is read stands where it ends
past : (bytes rest m : List ℕ) (ls : List Placed) (q : State) (l : Lexeme) (end : ℕ) →
    Comes bytes ls rest q → PartAt rest (lexeme l) m → end ≡ length bytes - length m →
    drop end bytes ≡ m
past bytes rest m ls q l end c h z = back_there bytes m end (after_part bytes rest m ls q l c h) z

pub what_marks : (ls : List Placed) → map (λ (m : Mark). m.what) (marks_in ls) ≡ views ls
what_marks [] = refl
what_marks (p ∷ ls) = ap (λ z. lexeme_view p.lexeme ∷ z) (what_marks ls)

stand_more : (source : List ℕ) (before : List Lexeme) (ms : List Mark) (m : Mark) →
    StandFrom source before ms → StandsBehind source (before ++ map (λ (x : Mark). x.what) ms) m →
    StandFrom source before (ms ++ m ∷ [])
stand_more source before [] m h s =
    (subst (λ (x : List Lexeme). StandsBehind source x m) (append-nil before) s, tt)
stand_more source before (x ∷ ms) m h s = (
  h.0,
  stand_more source (before ++ x.what ∷ []) ms m h.1
      (subst (λ (y : List Lexeme). StandsBehind source y m)
      (sym (append_assoc before (x.what ∷ []) (map (λ (y : Mark). y.what) ms))) s),
)

-- reading comes to the place of one more lexeme with those before it
pub sites_more : (bytes rest m : List ℕ) (ls new : List Placed) (q : State) (p : Placed) →
    Comes bytes ls rest q → PartAt rest (lexeme (lexeme_view p.lexeme)) m →
    p.at ≡ length bytes - length rest → new ≡ ls ++ p ∷ [] → StandFrom bytes [] (marks_in new)
sites_more bytes rest m ls new q p c h a f =
    let e : drop p.at bytes ≡ rest = there bytes rest ls q p.at c a in
    let one : StandsBehind bytes (views ls) (placed_mark p) = record {
      comes = subst (ComesTo bytes (views ls)) (sym e) c.cut;
      here = (m, subst (λ (x : List ℕ). PartAt x (lexeme (lexeme_view p.lexeme)) m) (sym e) h);
    } in
    subst (λ (x : List Mark). StandFrom bytes [] x)
    (sym (ap marks_in f ∙ map-append placed_mark ls (p ∷ [])))
    (stand_more bytes [] (marks_in ls) (placed_mark p) c.sites
    (subst (λ (x : List Lexeme). StandsBehind bytes x (placed_mark p)) (sym (what_marks ls)) one))

pub placed_more : (bytes rest m : List ℕ) (ls new : List Placed) (q : State) (p : Placed) →
    Comes bytes ls rest q → PartAt rest (lexeme (lexeme_view p.lexeme)) m →
    p.at ≡ length bytes - length rest → p.end ≡ length bytes - length m → new ≡ ls ++ p ∷ []
    → StandIn bytes new
placed_more bytes rest m ls new q p c h a z f =
    let e : drop p.at bytes ≡ rest = there bytes rest ls q p.at c a in
    let o : drop p.end bytes ≡ m = past bytes rest m ls q (lexeme_view p.lexeme) p.end c h z in
    let one : StandsIn bytes p =
    subst (λ (x : List ℕ). PartAt x (lexeme (lexeme_view p.lexeme)) (drop p.end bytes)) (sym e)
    (subst (λ (x : List ℕ). PartAt rest (lexeme (lexeme_view p.lexeme)) x) (sym o) h) in
    subst (StandIn bytes) (sym f) (all ls one c.placed)
  where
    all : (ls : List Placed) → StandsIn bytes p → StandIn bytes ls →
        StandIn bytes (ls ++ p ∷ [])
    all [] one a = (one, tt)
    all (l ∷ ls) one a = (a.0, all ls one a.1)

pub goes_lexeme : (bytes rest m : List ℕ) (ls new : List Placed) (q r : State) (p : Placed) →
    Comes bytes ls rest q → PartAt rest (lexeme (lexeme_view p.lexeme)) m →
    p.at ≡ length bytes - length rest → p.end ≡ length bytes - length m
    → next_state q (kind_of (lexeme_view p.lexeme)) ≡ Some r → is_end r ≡ false →
    new ≡ ls ++ p ∷ [] → Comes bytes new m r
goes_lexeme bytes rest m ls new q r p c h a z e n f =
    let l = lexeme_view p.lexeme in
    let v : views new ≡ views ls ++ l ∷ [] = ap views f ∙ views_push ls p in
    let s : state_after (Some Declarations) (kinds (views new)) ≡ Some r =
    ap (λ z. state_after (Some Declarations) (kinds z)) v ∙ state_after_push (views ls) l q
    (Some r) c.state_is e in
    let k = reads_marks (views new) Declarations r s in
    let w = few r n in
    record {
      cut = record {
        parts = c.cut.parts ++ lexeme l ∷ [];
        cut = cuts_more c.cut.parts bytes rest (lexeme l) m c.cut.cut h;
        read = lexemes_append c.cut.parts (lexeme l ∷ []) ∙ ap (λ z. z ++ l ∷ []) c.cut.read ∙ sym
            v;
        unfinished = omega (arith, k, w);
      };
      state_is = s;
      placed = placed_more bytes rest m ls new q p c h a z f;
      sites = sites_more bytes rest m ls new q p c h a f;
    }

-- ---- where reading stops

begun : (bytes rest : List ℕ) (ls : List Placed) (q : State) → Comes bytes ls rest q →
    BeginsSpec (kinds (views ls))
begun bytes rest ls q c = viable (kinds (views ls)) q c.state_is

pub place : (bytes rest : List ℕ) (ls : List Placed) (q : State) → Comes bytes ls rest q →
    (before : List ℕ) × (bytes ≡ before ++ rest)
place bytes rest ls q c = cut_before c.cut.parts bytes rest c.cut.cut

-- so no more bytes follow a lexeme than there are
pub after_shorter : (bytes rest m : List ℕ) (ls : List Placed) (q : State) (l : Lexeme) →
    Comes bytes ls rest q → PartAt rest (lexeme l) m → length m ≤ length bytes
after_shorter bytes rest m ls q l c h = let (b, e) = after_part bytes rest m ls q l c h in
    let w : length bytes ≡ length b + length m = ap length e ∙ length-append b m in
    omega (arith, w)

pub comes_shorter : (bytes rest : List ℕ) (ls : List Placed) (q : State) → Comes bytes ls rest q →
    length rest ≤ length bytes
comes_shorter bytes rest ls q c = let (b, e) = place bytes rest ls q c in
    let l : length bytes ≡ length b + length rest = ap length e ∙ length-append b rest in
    omega (arith, l)

line_here : (bytes rest : List ℕ) (ls : List Placed) (q : State) → Comes bytes ls rest q →
    (line : ℕ) × IsLine bytes rest line
line_here bytes rest ls q c = let (b, e) = place bytes rest ls q c in
    (_, record { before = b; whole = e; counted = refl })

outcome : (bytes rest : List ℕ) (ls : List Placed) (q : State) (line : ℕ)
    (r : Result (List Lexeme) Refusal) → Comes bytes ls rest q → IsLine bytes rest line →
    Stops (views ls) rest line r → Outcome bytes r
outcome bytes rest ls q line r c l s = record {
  before = views ls;
  rest = rest;
  line = line;
  comes = c.cut;
  begun = begun bytes rest ls q c;
  here = l;
  stops = s;
}

stops_at : (bytes rest : List ℕ) (ls : List Placed) (q : State) (line at : ℕ)
    (r : Result (List Lexeme) Refusal) → Comes bytes ls rest q → IsLine bytes rest line →
    Stops (views ls) rest line r → at + length rest ≡ length bytes → StopsAt bytes at r
unfolding outcome
stops_at bytes rest ls q line at r c l s p =
    record { outcome = outcome bytes rest ls q line r c l s; place = p }

-- a fault of some kind, at the place where reading stops
abbrev pub IsStop : List ℕ → List ℕ → Option LexicalFault → PlacedFault → Type 0
IsStop bytes rest f e = ((line : ℕ) × IsLine bytes rest line × (e.fault ≡ fault_at f line))
    × (e.at + length rest ≡ length bytes)

-- the state in which reading stops
pub stops_in : (bytes rest : List ℕ) (ls : List Placed) (q : State) (f : Option LexicalFault)
    (e : PlacedFault) → Comes bytes ls rest q → IsStop bytes rest f e → e.state ≡ Some q
    → StopsIn bytes e.at e.fault e.state
stops_in bytes rest ls q f e c ((line, l, w), p) s =
    subst (λ (x : GrammarFault). StopsIn bytes e.at x e.state) (sym w)
    (subst (λ (o : Option State). StopsIn bytes e.at (fault_at f line) o) (sym s) (go f))
  where
    come : ComesIn bytes e.at q
    come =
        let n : e.at ≡ length bytes - length rest = omega (arith, p) in
        let back : drop e.at bytes ≡ rest = there bytes rest ls q e.at c n in
        (views ls, subst (ComesTo bytes (views ls)) (sym back) c.cut, c.state_is)

    go : (f : Option LexicalFault) → StopsIn bytes e.at (fault_at f line) (Some q)
    go (Some code_faults.Unfinished) = come
    go (Some code_faults.BadLiteral) = come
    go (Some code_faults.Foreign) = come
    go None = come

fails : (bytes : List ℕ) (f : Option LexicalFault) (line : ℕ) (e : PlacedFault) →
    e.fault ≡ fault_at f line → FailsAt bytes e.at (fault_at f line) → FailsAt bytes e.at e.fault
fails bytes f line e w h = subst (FailsAt bytes e.at) (sym w) h

pub stops_lexical : (bytes rest : List ℕ) (ls : List Placed) (q : State) (f : LexicalFault)
    (e : PlacedFault) → Comes bytes ls rest q → FaultAt rest (fault_view f) →
    IsStop bytes rest (Some f) e → FailsAt bytes e.at e.fault
stops_lexical bytes rest ls q f e c h ((line, l, w), p) =
    fails bytes (Some f) line e w (go f h)
  where
    go : (f : LexicalFault) → FaultAt rest (fault_view f) →
        FailsAt bytes e.at (fault_at (Some f) line)
    go code_faults.Unfinished h = stops_at bytes rest ls q line e.at _ c l (lexical h) p
    go code_faults.BadLiteral h = stops_at bytes rest ls q line e.at _ c l (lexical h) p
    go code_faults.Foreign h = stops_at bytes rest ls q line e.at _ c l (lexical h) p

pub stops_stray : (bytes rest m : List ℕ) (ls : List Placed) (q : State) (l : Lexeme)
    (e : PlacedFault) → Comes bytes ls rest q → PartAt rest (lexeme l) m →
    next_state q (kind_of l) ≡ None → IsStop bytes rest None e → FailsAt bytes e.at e.fault
stops_stray bytes rest m ls q l e c h n ((line, i, w), p) = fails bytes None line e w
    (stops_at bytes rest ls q line e.at _ c i
    (stray h (not_viable (kinds (views ls ++ l ∷ []))
    (state_after_push (views ls) l q None c.state_is n))) p)

pub stops_marked : (bytes rest m : List ℕ) (ls new : List Placed) (q r : State) (p : Placed) →
    Comes bytes ls rest q → PartAt rest (lexeme (lexeme_view p.lexeme)) m
    → next_state q (kind_of (lexeme_view p.lexeme)) ≡ Some r → is_end r ≡ true →
    new ≡ ls ++ p ∷ [] → Outcome bytes (Ok (views new))
stops_marked bytes rest m ls new q r p c h e n f =
    let l = lexeme_view p.lexeme in
    let k = counted q (kind_of l) r e in
    let is_mark_there = k.last n in
    let mark : l ≡ fixed sign.Mark = mark_lexeme l is_mark_there in
    let sum = k.sum in
    let one : count_mark (kind_of l) ≡ 1 = ap (λ z. cond z 1 0) is_mark_there in
    let w = two r n in
    let so_far = reads_marks (views ls) Declarations q c.state_is in
    let v : views new ≡ views ls ++ fixed sign.Mark ∷ [] = ap views f ∙ views_push ls p ∙ ap
    (λ z. views ls ++ z ∷ []) mark in
    let s : state_after (Some Declarations) (kinds (views ls ++ fixed sign.Mark ∷ [])) ≡ Some r =
    state_after_push (views ls) (fixed sign.Mark) q (Some r) c.state_is
    (ap (λ z. next_state q (kind_of z)) (sym mark) ∙ e) in
    let (line, i) = line_here bytes rest ls q c in
    subst (λ z. Outcome bytes (Ok z)) (sym v) (outcome bytes rest ls q line _ c i
    (marked (subst (λ z. PartAt rest (lexeme z) m) mark h) (omega (arith, sum, one, w, so_far))
    (derived (kinds (views ls ++ fixed sign.Mark ∷ [])) (ap is_final_at s ∙ end_final r n))))
  where
    end_final : (q : State) → is_end q ≡ true → is_final q ≡ true
    end_final Declarations h = cc
    end_final End h = refl
    end_final _ h = cc

pub stops_ended : (bytes rest : List ℕ) (ls : List Placed) (q : State) → Comes bytes ls rest q →
    rest ≡ [] → is_final q ≡ true → Outcome bytes (Ok (views ls))
stops_ended bytes rest ls q c e h =
    let (line, i) = line_here bytes rest ls q c in
    outcome bytes rest ls q line _ c i
    (ended e (derived (kinds (views ls)) (ap is_final_at c.state_is ∙ h)))

pub stops_early : (bytes rest : List ℕ) (ls : List Placed) (q : State) (e : PlacedFault) →
    Comes bytes ls rest q → rest ≡ [] → is_final q ≡ false → IsStop bytes rest None e →
    FailsAt bytes e.at e.fault
stops_early bytes rest ls q e c n h ((line, i, w), p) = fails bytes None line e w
    (stops_at bytes rest ls q line e.at _ c i
    (early n (λ s. both_ways (is_final q) h (sym (ap is_final_at c.state_is) ∙ recognised
    (kinds (views ls)) s))) p)

pub empty_is : (rest : List ℕ) (r : Bool) → r ≡ eqb (length rest) 0 → r ≡ true → rest ≡ []
empty_is [] r e f = refl
empty_is (b ∷ rest) r e f = let w = eqb-true (length (b ∷ rest)) 0 (sym e ∙ f) in
    absurd (omega (arith, w))
