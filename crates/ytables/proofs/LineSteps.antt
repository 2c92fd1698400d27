-- Texts that are sent part by part.
use Rattle.std.proofs.Common.{ℕ, ◌≡◌, ◌+◌, ◌-◌, ◌≤◌, ◌++◌, Bool, true, false, List, Option, None}
use Rattle.std.proofs.Common.{is_some, flat_map, subst, arith, append_assoc}
use Rattle.std.specs.List.{range_with_len}
use Rattle.ysymbols.specs.Grammar.{GrammarValue}
use Rattle.ytables.specs.Text.{nonterminals_of}
use Rattle.ylink.specs.declared.link.Link.{Link}
use Rattle.ylink.specs.Sends.{Sends}
use Rattle.ylink.proofs.Sent.{Sends-then, Sends-stop, Sends-none}

module _ {W : Type 0} (contents : W → Option (List ℕ)) where
  pub first_cut : {X : Type 0} (a b : Link W) (o : Option X) (s t : List ℕ) → o ≡ None →
      Sends contents a b false s → Sends contents a b (is_some o) (s ++ t)
  first_cut a b o s t e h = Sends-none contents a b o (s ++ t) e (Sends-stop contents a b s t h)

  pub second_cut : {X : Type 0} (a b c : Link W) (o : Option X) (r s t : List ℕ) → o ≡ None →
      Sends contents a b true r → Sends contents b c false s → Sends contents a c (is_some o)
      (r ++ (s ++ t))
  second_cut a b c o r s t e g h = Sends-none contents a c o (r ++ (s ++ t)) e
      (Sends-then contents a b c false r (s ++ t) g (Sends-stop contents b c s t h))

  pub two : (a b c : Link W) (whole : Bool) (s t : List ℕ) → Sends contents a b true s →
      Sends contents b c whole t → Sends contents a c whole (s ++ t)
  two a b c whole s t g h = Sends-then contents a b c whole s t g h

  pub three : (a b c d : Link W) (whole : Bool) (r s t : List ℕ) → Sends contents a b true r →
      Sends contents b c true s → Sends contents c d whole t → Sends contents a d whole
      (r ++ (s ++ t))
  three a b c d whole r s t g h k = Sends-then contents a b d whole r (s ++ t) g
      (Sends-then contents b c d whole s t h k)

  -- lines of all nonterminals of a grammar, whose numbers the code asks it for
  pub gotos_sent : (a b : Link W) (whole : Bool) (f : ℕ → List ℕ) (own v : GrammarValue)
      (first end : ℕ) → own ≡ v → first ≡ own.bare.tokens → end ≡ own.bare.symbols →
      own.bare.tokens ≤ own.bare.symbols →
      ((n : ℕ) → first + n ≡ end → Sends contents a b whole (flat_map f (range_with_len first n))) →
      Sends contents a b whole (flat_map f (nonterminals_of v))
  gotos_sent a b whole f own v first end e g h k s =
      subst (λ (x : GrammarValue). Sends contents a b whole (flat_map f (nonterminals_of x))) e
      (subst (λ i. Sends contents a b whole (flat_map f (range_with_len i
      (own.bare.symbols - own.bare.tokens)))) g (s (own.bare.symbols - own.bare.tokens)
      (omega arith)))

  -- a title and its lines, and then more
  pub list_cut : {X : Type 0} (a b : Link W) (o : Option X) (s t u : List ℕ) → o ≡ None →
      Sends contents a b false (s ++ t) → Sends contents a b (is_some o) (s ++ (t ++ u))
  list_cut a b o s t u e h =
      subst (λ (l : List ℕ). Sends contents a b (is_some o) l) (append_assoc s t u)
      (first_cut a b o (s ++ t) u e h)

  pub list_sent : (a b c : Link W) (whole : Bool) (s t u : List ℕ) →
      Sends contents a b true (s ++ t) → Sends contents b c whole u → Sends contents a c whole
      (s ++ (t ++ u))
  list_sent a b c whole s t u g h =
      subst (λ (l : List ℕ). Sends contents a c whole l) (append_assoc s t u)
      (two a b c whole (s ++ t) u g h)
