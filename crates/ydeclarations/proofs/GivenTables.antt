-- What listings say is said of tokens, and the table of precedences is that of the file.
use Rattle.std.proofs.Common.{◌≡◌, ◌<◌, ◌≤◌, List, [], ◌∷◌, ◌++◌, map, length}
use Rattle.std.proofs.Common.{filter, Option, Some, None, Result, Ok, Err, Vec, refl, ◌∙◌, ap}
use Rattle.std.proofs.Common.{subst, arith, get_or, codes}
use Rattle.std.specs.Global.{Global}
use Rattle.ydeclarations.specs.declared.mistake.Mistake.{Mistake}
use Rattle.ydeclarations.specs.declared.mistake.Mistake.TheVariants as mistakes
use Rattle.ydeclarations.specs.declared.mistake.Refused.{Refused}
use Rattle.ydeclarations.specs.declared.mistake.Refused.TheVariants as refused
use Rattle.ysymbols.specs.declared.precedence.Precedence.{Precedence}
use Rattle.ydeclarations.specs.Elaboration.{Listing, appearances}
use Rattle.ydeclarations.specs.Elaboration.{first_or, gives_of, listings, option_list}
use Rattle.ydeclarations.specs.Elaboration.{token_precedence, said_of, token_names_of}
use Rattle.ydeclarations.specs.Elaboration.{tokens}
use Rattle.ydeclarations.specs.Mistakes.{Holds}
use Rattle.ysymbols.specs.Names.{Name, is_among, number_in}
use Rattle.ydeclarations.specs.Printed.{printed_name}
use Rattle.ydeclarations.specs.Owned.{Precedes}
use Rattle.ydeclarations.specs.Told.{IsTold, SaidTwice, IsTwicePrecedence, TellsPrecedences}
use Rattle.ysyntax.specs.Tree.{Tree}
use Rattle.ydeclarations.proofs.TokenSteps.{Distinct, by_numbers, distinct_all}
use Rattle.ysymbols.proofs.NameSteps.{among_number}
use Rattle.ydeclarations.proofs.TokenSteps.{distinct_none, listed_token, said_listed}

pub distinct_tokens : (t : Tree) → Distinct (tokens t)
distinct_tokens t = distinct_all (codes "$end" ∷ codes "error" ∷ [])
    (filter (is_among (token_names_of (listings t) (appearances t))) (map printed_name (appearances
    t)))
    (distinct_all [] (codes "$end" ∷ codes "error" ∷ []) distinct_none)

-- something is said of tokens alone
pub said_token : {A : Type 0} (f : Listing → Option A) (t : Tree) (n : Name) →
    0 < length (said_of f (listings t) n) → number_in (tokens t) n < length (tokens t)
said_token f t n h = among_number (tokens t) n (listed_token t n (said_listed f (listings t) n h))

own_said : {A : Type 0} (o : Option A) → o ≡ first_or (option_list o ++ []) None
own_said None = refl
own_said (Some x) = refl

first_said : {A : Type 0} (o : Option A) (xs : List A) → option_list o ++ [] ≡ xs →
    o ≡ first_or xs None
first_said {A = A} o xs e = own_said o ∙ ap (λ (ys : List A). first_or ys None) e

few_said : {A : Type 0} (o : Option A) → length (option_list o ++ []) ≤ 1
few_said None = omega arith
few_said (Some x) = omega arith

one_said : {A : Type 0} (o : Option A) (xs : List A) → option_list o ++ [] ≡ xs → 2 ≤ length xs → ⊥
one_said {A = A} o xs e h = let k : length xs ≤ 1 = subst (λ (ys : List A). length ys ≤ 1) e
    (few_said o) in absurd (omega arith)

pub not_twice : {A : Type 0} (f : Listing → Option A) (t : Tree) (table : List (Option A)) →
    IsTold f (tokens t) (listings t) table → SaidTwice f (listings t) → ⊥
not_twice f t table s p =
    let (n, two) = p in
    one_said (get_or table (number_in (tokens t) n) None) (said_of f (listings t) n)
    (s.said n (said_token f t n (omega arith))) two

-- the precedences of the tokens are those of the tree, or one of them is a second one
pub precedes : (t : Tree) (ls : List Listing) (ns : List Name)
    (r : Result (Vec (Option Precedence) Global) Refused) → ls ≡ listings t → ns ≡ tokens t →
    TellsPrecedences ns ls r → Precedes t r
precedes t ls ns r e f h = here r (subst (λ (x : List Name). TellsPrecedences x (listings t) r) f
    (subst (λ (x : List Listing). TellsPrecedences ns x r) e h))
  where
    twice : (what : Mistake) → IsTwicePrecedence what (listings t) →
        (what ≡ mistakes.TwicePrecedence) × Holds t mistakes.TwicePrecedence
    twice mistakes.TwicePrecedence p = (refl, p)
    twice mistakes.TokenLeft p = absurd p
    twice mistakes.Undefined p = absurd p
    twice mistakes.BadNumber p = absurd p
    twice mistakes.BadStart p = absurd p
    twice mistakes.Unproductive p = absurd p
    twice mistakes.BadPrec p = absurd p
    twice mistakes.Limit p = absurd p

    here : (r : Result (Vec (Option Precedence) Global) Refused) → TellsPrecedences (tokens t)
        (listings t) r → Precedes t r
    here (Ok v) s = record {
      table = by_numbers (token_precedence t) (tokens t) v.items None (distinct_tokens t) s.each
          (λ n k. first_said (get_or v.items (number_in (tokens t) n) None)
          (said_of gives_of (listings t) n) (s.said n k));
      sound = not_twice gives_of t v.items s;
    }
    here (Err (refused.Mistake what at)) p = twice what p
    here (Err refused.Memory) p = tt
