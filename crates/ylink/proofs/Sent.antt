-- How texts that go through a link join.
use Rattle.std.proofs.Common.{ℕ, suc, ◌≡◌, ◌<◌, ◌++◌, ◌∷◌, Bool, true, false, List, [], Option}
use Rattle.std.proofs.Common.{Some, None, is_some, length, take, drop, flat_map, get_or, refl, sym}
use Rattle.std.proofs.Common.{ap, ◌∙◌, subst, append_assoc, append-nil, take-append-drop, arith}
use Prim.Native.Nat.{zero}
use Rattle.std.specs.Io.KnownBytes.{Keeps, Appends}
use Rattle.std.proofs.KnownBytes.{Appends-nil, Appends-trans, Appends-kept}
use Rattle.ylink.specs.declared.link.Link.{Link}
use Rattle.ylink.specs.Link.{device_of, has_failed}
use Rattle.ylink.specs.Sends.{Sends, Begins}

pub Begins-then : (a b c : Option (List ℕ)) (s t : List ℕ) → Appends a b s → Begins b c t →
    Begins a c (s ++ t)
Begins-then a b c s t p q = record {
  front = s ++ q.front;
  back = q.back;
  parts = ap (λ l. s ++ l) q.parts ∙ sym (append_assoc s q.front q.back);
  written = Appends-trans a b c s q.front p q.written;
}

pub Begins-more : (a b : Option (List ℕ)) (s t : List ℕ) → Begins a b s → Begins a b (s ++ t)
Begins-more a b s t p = record {
  front = p.front;
  back = p.back ++ t;
  parts = ap (λ l. l ++ t) p.parts ∙ append_assoc p.front p.back t;
  written = p.written;
}

module _ {W : Type 0} (contents : W → Option (List ℕ)) where
  -- a whole text, and then another
  pub Sends-then : (a b c : Link W) (whole : Bool) (s t : List ℕ) → Sends contents a b true s →
      Sends contents b c whole t → Sends contents a c whole (s ++ t)
  Sends-then a b c true s t p q = record {
    bytes = Appends-trans _ _ _ s t p.bytes q.bytes;
    failed = q.failed ∙ p.failed;
  }
  Sends-then a b c false s t p q = record {
    bytes = Begins-then _ _ _ s t p.bytes q.bytes;
    failed = q.failed;
  }

  -- a text that was cut is a beginning of a longer one
  pub Sends-stop : (a b : Link W) (s t : List ℕ) → Sends contents a b false s →
      Sends contents a b false (s ++ t)
  Sends-stop a b s t p = record { bytes = Begins-more _ _ s t p.bytes; failed = p.failed }

  -- a whole text, as a front of one that was cut, where the link failed since
  pub Sends-cut : (a b c : Link W) (whole : Bool) (n : ℕ) (text : List ℕ) → whole ≡ false →
      Appends (contents (device_of a)) (contents (device_of b)) (take n text)
      → Keeps (contents (device_of b)) (contents (device_of c)) → has_failed c ≡ true →
      Sends contents a c whole text
  Sends-cut a b c true n text e p k f = cc
  Sends-cut a b c false n text e p k f = record {
    bytes = record {
      front = take n text;
      back = drop n text;
      parts = sym (take-append-drop n text);
      written = Appends-kept _ _ _ (take n text) p k;
    };
    failed = f;
  }

  pub Sends-nothing : (a : Link W) → Sends contents a a true []
  Sends-nothing a = record { bytes = Appends-nil _; failed = refl }

  pub Sends-none : {X : Type 0} (a b : Link W) (o : Option X) (t : List ℕ) → o ≡ None →
      Sends contents a b false t → Sends contents a b (is_some o) t
  Sends-none {X} a b None t e p = p
  Sends-none {X} a b (Some x) t e p = cc

pub flat_map-append : {X : Type 0} (f : X → List ℕ) (xs ys : List X) →
    flat_map f (xs ++ ys) ≡ flat_map f xs ++ flat_map f ys
flat_map-append f [] ys = refl
flat_map-append f (x ∷ xs) ys = ap (λ l. f x ++ l) (flat_map-append f xs ys) ∙ sym
    (append_assoc (f x) (flat_map f xs) (flat_map f ys))

pub flat_map-at : {X : Type 0} (f : X → List ℕ) (xs : List X) (i : ℕ) (d : X) → i < length xs →
    flat_map f xs ≡ (flat_map f (take i xs) ++ f (get_or xs i d)) ++ flat_map f (drop (suc i) xs)
flat_map-at f [] i d h = absurd (omega arith)
flat_map-at f (x ∷ xs) zero d h = refl
flat_map-at f (x ∷ xs) (suc i) d h =
    ap (λ l. f x ++ l) (flat_map-at f xs i d (omega arith)) ∙ simp append_assoc

pub flat_map-take : {X : Type 0} (f : X → List ℕ) (xs : List X) (i : ℕ) (d : X) → i < length xs →
    flat_map f (take (suc i) xs) ≡ flat_map f (take i xs) ++ f (get_or xs i d)
flat_map-take f [] i d h = absurd (omega arith)
flat_map-take f (x ∷ xs) zero d h = append-nil (f x)
flat_map-take f (x ∷ xs) (suc i) d h = ap (λ l. f x ++ l) (flat_map-take f xs i d (omega arith)) ∙
    sym (append_assoc (f x) _ _)

module _ {W X : Type 0} (contents : W → Option (List ℕ)) (f : X → List ℕ) where
  -- the pieces before one were sent, and that one was cut
  pub Sends-part : (a b c : Link W) (whole : Bool) (xs : List X) (i : ℕ) (d : X) → whole ≡ false →
      i < length xs → Sends contents a b true (flat_map f (take i xs))
      → Sends contents b c false (f (get_or xs i d)) → Sends contents a c whole (flat_map f xs)
  Sends-part a b c true xs i d e h p q = cc
  Sends-part a b c false xs i d e h p q =
      let joined : Sends contents a c false (flat_map f (take i xs) ++ f (get_or xs i d)) =
      Sends-then contents a b c false _ _ p q in
      subst (λ (t : List ℕ). Sends contents a c false t) (sym (flat_map-at f xs i d h))
      (Sends-stop contents a c _ _ joined)

  -- the pieces before one were sent, and that one too
  pub Sends-next : (a b c : Link W) (xs : List X) (i : ℕ) (d : X) → i < length xs →
      Sends contents a b true (flat_map f (take i xs))
      → Sends contents b c true (f (get_or xs i d)) → Sends contents a c true
      (flat_map f (take (suc i) xs))
  Sends-next a b c xs i d h p q =
      subst (λ (t : List ℕ). Sends contents a c true t) (sym (flat_map-take f xs i d h))
      (Sends-then contents a b c true _ _ p q)
