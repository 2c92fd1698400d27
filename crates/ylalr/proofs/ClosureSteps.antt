-- Which rules a closure opens.
use Rattle.std.proofs.Common.{ℕ, ◌≡◌, ◌<◌, ◌⊎◌, ◌∷◌, List, length, drop, refl, ◌∙◌, ap, subst, inl}
use Rattle.std.proofs.Common.{inr}
use Rattle.ysymbols.specs.Grammar.{ContextFree, left_of, body_of}
use Rattle.ylalr.specs.Sets.{Closure, given, opened, FirstRule, itself, through, LeadsTo}

-- an item with its dot before a symbol leads to all first rules of the symbol
pub closed_opens : {g : ContextFree} {K : ℕ → ℕ → Type 0} {s n : ℕ} (r d : ℕ) (y : List ℕ) →
    Closure g K r d → drop d (body_of g r) ≡ s ∷ y → FirstRule g s n → Closure g K n 0
closed_opens r d y c e (itself h q) = opened c (e ∙ ap (λ t. t ∷ y) q) h
closed_opens {g = g} r d y c e (through {n = m} {y = z} h q b o) = closed_opens m 0 z
    (opened c (e ∙ ap (λ t. t ∷ y) q) h) b o

-- what a rule that is opened begins with is opened
opens_then : {g : ContextFree} {s n t : ℕ} (y : List ℕ) (r : ℕ) → FirstRule g s n →
    body_of g n ≡ t ∷ y → t ≡ left_of g r → r < length g.rules → FirstRule g s r
opens_then y r (itself h q) b e l = through h q b (itself l e)
opens_then y r (through h q b o) c e l = through h q b (opens_then y r o c e l)

pub closed_cases : {g : ContextFree} {K : ℕ → ℕ → Type 0} {r d : ℕ} → Closure g K r d → K r d ⊎
    ((d ≡ 0) × LeadsTo g K r)
closed_cases (given c) = inl c
closed_cases {g = g} {K = K} (opened {r = r} {d = d} {s = s} {y = y} c e h) = go (closed_cases c)
  where
    next : (d ≡ 0) → LeadsTo g K r → LeadsTo g K s
    next z o =
        let b : body_of g r ≡ left_of g s ∷ y = subst (λ t. drop t (body_of g r) ≡ left_of g s ∷ y)
        z e in
        record {
          rule = o.rule;
          dot = o.dot;
          symbol = o.symbol;
          rest = o.rest;
          item = o.item;
          next =
              o.next;
          first = opens_then y s o.first b refl h;
        }

    go : K r d ⊎ ((d ≡ 0) × LeadsTo g K r) → K s 0 ⊎ ((◌≡◌ {A = ℕ} 0 0) × LeadsTo g K s)
    go (inl k) = inr (
      refl,
      record {
        rule = r;
        dot = d;
        symbol = left_of g s;
        rest = y;
        item = k;
        next = e;
        first = itself h refl;
      },
    )
    go (inr o) = inr (refl, next o.0 o.1)

pub closed_from_opened : {g : ContextFree} {K : ℕ → ℕ → Type 0} (r : ℕ) → LeadsTo g K r →
    Closure g K r 0
closed_from_opened r o = closed_opens o.rule o.dot o.rest (given o.item) o.next o.first
