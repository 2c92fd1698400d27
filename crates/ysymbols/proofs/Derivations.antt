-- Derivations: joined end to end, within a larger form, side by side, and read as sets of lists;
-- those by the rules of a grammar.
use Rattle.std.proofs.Common.{◌≡◌, List, [], ◌∷◌, ◌++◌, refl, sym, ap, ◌∙◌, subst, append_assoc}
use Rattle.std.proofs.Common.{append-nil, ℕ, ◌<◌, length}
use Rattle.std.specs.List.{All}
use Rattle.std.proofs.lemmas.List.Elements.{All-nil, All-cons, All-head, All-tail, All-append}
use Rattle.ysymbols.specs.Derivation.{Replaces, Derives, done, step}
use Rattle.ysymbols.specs.Forms.{IsRule, Productive}
use Rattle.ysymbols.specs.Grammar.{ContextFree, left_of, body_of, IsToken}

pub trans : {S : Type 0} {P : S → List S → Type 0} {x y z : List S} → Derives P x y →
    Derives P y z → Derives P x z
trans done e = e
trans (step r d) e = step r (trans d e)

replaces_within : {S : Type 0} {P : S → List S → Type 0} {x y : List S} (a b : List S) →
    Replaces P x y → Replaces P (a ++ (x ++ b)) (a ++ (y ++ b))
replaces_within a b r = record {
  before = a ++ r.before;
  symbol = r.symbol;
  body = r.body;
  after = r.after ++ b;
  rule = r.rule;
  from = ap (λ t. a ++ (t ++ b)) r.from ∙ simp append_assoc;
  to = ap (λ t. a ++ (t ++ b)) r.to ∙ simp append_assoc;
}

pub within : {S : Type 0} {P : S → List S → Type 0} {x y : List S} (a b : List S) → Derives P x y →
    Derives P (a ++ (x ++ b)) (a ++ (y ++ b))
within a b done = done
within a b (step r d) = step (replaces_within a b r) (within a b d)

pub beside : {S : Type 0} {P : S → List S → Type 0} {x u y v : List S} → Derives P x u →
    Derives P y v → Derives P (x ++ y) (u ++ v)
beside {P = P} {u = u} {y = y} {v = v} d e =
    let f = within u [] e in
    let h = subst (λ t. Derives P (u ++ t) (u ++ (v ++ []))) (append-nil y) f in
    trans (within [] y d) (subst (λ t. Derives P (u ++ y) (u ++ t)) (append-nil v) h)

-- one production, somewhere in a form
pub replaced : {S : Type 0} {P : S → List S → Type 0} (n : S) (body a b : List S) → P n body →
    Derives P (a ++ n ∷ b) (a ++ (body ++ b))
replaced n body a b p = step (record {
  before = a;
  symbol = n;
  body = body;
  after = b;
  rule = p;
  from = refl;
  to = refl;
}) done

-- a list is cut into one piece for each symbol of a form, each with the meaning of its symbol
abbrev pub Stands : {S K : Type 0} (M : S → List K → Type 0) → List S → List K → Type 0
Stands M [] z = z ≡ []
Stands {S} {K} M (s ∷ x) z = (y : List K) × (rest : List K) × (z ≡ y ++ rest) × M s y ×
    Stands M x rest

pub record Cut {S K : Type 0} (M : S → List K → Type 0) (a c : List S) (z : List K) : Type 0 where
  pub left : List K
  pub right : List K
  pub whole : z ≡ left ++ right
  pub first : Stands M a left
  pub second : Stands M c right

pub joined : {S K : Type 0} (M : S → List K → Type 0) (a c : List S) (u v : List K) → Stands M a u →
    Stands M c v → Stands M (a ++ c) (u ++ v)
joined M [] c u v e q = rw e q
joined M (s ∷ a) c u v (y, rest, e, m, p) q =
    (y, rest ++ v, rw e (append_assoc y rest v), m, joined M a c rest v p q)

pub cut : {S K : Type 0} (M : S → List K → Type 0) (a c : List S) (z : List K) →
    Stands M (a ++ c) z → Cut M a c z
cut M [] c z p = record { left = []; right = z; whole = refl; first = refl; second = p }
cut M (s ∷ a) c z (y, rest, e, m, p) =
    let r = cut M a c rest p in
    record {
      left = y ++ r.left;
      right = r.right;
      whole = e ∙ ap (λ t. y ++ t) r.whole ∙ sym
          (append_assoc y r.left r.right);
      first = (y, r.left, refl, m, r.first);
      second = r.second;
    }

-- Where each symbol's set of lists is closed under the productions, whatever is derived from a form
-- is in the form's set.
pub sound : {S K : Type 0} (M : S → List K → Type 0) (P : S → List S → Type 0)
    (closed : (n : S) (body : List S) (y : List K) → P n body → Stands M body y → M n y)
    (x y : List S) (z : List K) → Derives P x y → Stands M y z → Stands M x z
sound M P closed x y z done h = h
sound M P closed x y z (step r d) h =
    back (subst (λ t. Stands M t z) r.to (sound M P closed _ y z d h))
  where
    back : Stands M (r.before ++ (r.body ++ r.after)) z → Stands M x z
    back i =
        let outer = cut M r.before (r.body ++ r.after) z i in
        let inner = cut M r.body r.after outer.right outer.second in
        let all = joined M r.before (r.symbol ∷ r.after) outer.left (inner.left ++ inner.right)
        outer.first (
          inner.left,
          inner.right,
          refl,
          closed r.symbol r.body inner.left r.rule inner.first,
          inner.second,
        ) in
        subst (λ t. Stands M t z) (sym r.from)
        (subst (Stands M (r.before ++ r.symbol ∷ r.after))
        (sym (outer.whole ∙ ap (λ t. outer.left ++ t) inner.whole)) all)

-- ---- the rules of a grammar

pub rule_is : (g : ContextFree) (r : ℕ) → r < length g.rules → IsRule g (left_of g r) (body_of g r)
rule_is g r h = record { number = r; within = h; left = refl; body = refl }

-- a form that derives a list of tokens
pub record Word (g : ContextFree) (x : List ℕ) : Type 0 where
  pub word : List ℕ
  pub tokens : All (IsToken g) word
  pub derives : Derives (IsRule g) x word

pub words : (g : ContextFree) (x : List ℕ) → All (Productive g) x → Word g x
words g [] h = record { word = []; tokens = All-nil (IsToken g); derives = done }
words g (s ∷ x) h =
    let a = All-head (Productive g) s x h in
    let b = words g x (All-tail (Productive g) s x h) in
    record {
      word = a.word ++ b.word;
      tokens = All-append (IsToken g) a.word b.word a.tokens
          b.tokens;
      derives = beside a.derives b.derives;
    }

pub token_productive : (g : ContextFree) (t : ℕ) → IsToken g t → Productive g t
token_productive g t h = record {
  word = t ∷ [];
  tokens = All-cons (IsToken g) t [] h
      (All-nil (IsToken g));
  derives = done;
}
