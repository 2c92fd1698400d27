-- How far a quiet history has come in its tokens, and how many steps that took.
use Rattle.std.proofs.Common.{ℕ, suc, ◌≡◌, ◌+◌, ◌-◌, List, []}
use Rattle.std.proofs.Common.{◌∷◌, ◌++◌, length, take, drop, sym, ◌∙◌, ap, append_assoc}
use Rattle.std.proofs.Common.{append-nil, arith, refl, subst}
use Rattle.std.proofs.lemmas.List.{length-append, length-map, take_at}
use Rattle.ymachine.specs.declared.machine.Mode.TheVariants.{Running, Accepted}
use Rattle.ymachine.specs.declared.machine.StepKind.{StepKind}
use Rattle.ymachine.specs.Machine.{Machine, Configuration}
use Rattle.ymachine.specs.History.{places_from, first_configuration}
use Rattle.ymachine.specs.Unwinding.{tokens_left, forms_before}
use Rattle.ymachine.proofs.Unwindings.{left_of_places}
use Rattle.ysession.specs.Verdict.{place_ahead}
use Rattle.ysession.proofs.Laws.{PlaceLaw}
use Rattle.ysession.proofs.Quiet.{Plain, plain_shift, plain_reduce, plain_accept, plain_fail}
use Rattle.ysession.proofs.Quiet.{PlainTo}
use Rattle.ysession.proofs.Quiet.{apart, quiet_plain}

-- The tokens are those shifted and the upcoming ones, with their places.
pub record Shifted (tokens word : List ℕ) (rest : List (ℕ × ℕ)) : Type 0 where
  pub back : List ℕ
  pub parts : tokens ≡ word ++ back
  pub left : rest ≡ places_from (suc (length word)) back

pub shifted_left : {tokens word : List ℕ} {rest : List (ℕ × ℕ)} (s : Shifted tokens word rest)
    → tokens_left rest ≡ s.back
shifted_left {word = word} s = ap tokens_left s.left ∙ left_of_places (suc (length word)) s.back

pub shifted_all : {tokens word : List ℕ} {rest : List (ℕ × ℕ)} → Shifted tokens word rest
    → tokens ≡ word ++ tokens_left rest
shifted_all {word = word} s = s.parts ∙ ap (λ z. word ++ z) (sym (shifted_left s))

abbrev first_token : List (ℕ × ℕ) → ℕ
first_token [] = 0
first_token (t ∷ rest) = t.0

-- one token more
pub shifted_on : {tokens word : List ℕ} (t : ℕ × ℕ) (rest : List (ℕ × ℕ))
    → Shifted tokens word (t ∷ rest) → Shifted tokens (word ++ t.0 ∷ []) rest
shifted_on {tokens = tokens} {word = word} t rest s = by s.back s.parts s.left
  where
    by : (back : List ℕ) → tokens ≡ word ++ back → t ∷ rest ≡ places_from (suc (length word)) back
        → Shifted tokens (word ++ t.0 ∷ []) rest
    by [] p e = absurd (let l : suc (length rest) ≡ 0 = ap length e in omega (arith, l))
    by (x ∷ back) p e =
        let i : t.0 ≡ x = ap first_token e in
        let l : suc (length word) ≡ length (word ++ t.0 ∷ []) =
        (let a = length-append word (t.0 ∷ []) in omega (arith, a)) in
        record {
          back = back;
          parts = p ∙ (ap (λ z. word ++ z ∷ back) (sym i)
              ∙ sym (append_assoc word (t.0 ∷ []) back));
          left = ap (drop 1) e ∙ ap (λ n. places_from (suc n) back) l;
        }

-- the place ahead is one more than the tokens shifted
pub place_is : {tokens word : List ℕ} {rest : List (ℕ × ℕ)} → Shifted tokens word rest
    → place_ahead tokens rest ≡ suc (length word)
place_is {tokens = tokens} {word = word} {rest = rest} s = by s.back s.parts s.left
  where
    by : (back : List ℕ) → tokens ≡ word ++ back → rest ≡ places_from (suc (length word)) back
        → place_ahead tokens rest ≡ suc (length word)
    by [] p e =
        ap (place_ahead tokens) e ∙ ap (λ z. suc (length z)) (p ∙ append-nil word)
    by (x ∷ back) p e = ap (place_ahead tokens) e

-- so what stands before that place was shifted
pub before_place : {tokens word : List ℕ} {rest : List (ℕ × ℕ)} {place : ℕ}
    → Shifted tokens word rest → place_ahead tokens rest ≡ place → take (place - 1) tokens ≡ word
before_place {word = word} {place = place} s e =
    let l = place_is s in
    let k : length word ≡ place - 1 = omega (arith, l, e) in
    ap (take (place - 1)) s.parts ∙ take_at word s.back (place - 1) k

-- how far a quiet history has come
pub shifted_to : (m : Machine) (tokens : List ℕ) (now : Configuration)
    (earlier : List (StepKind × Configuration)) → PlainTo m (first_configuration tokens) now earlier
    → (word : List ℕ) × Shifted tokens word now.rest
shifted_to m tokens now [] h = (
  [],
  subst (λ (c : Configuration). Shifted tokens [] c.rest) (sym h)
      (record { back = tokens; parts = refl; left = refl }),
)
shifted_to m tokens now (step ∷ earlier) h = by h.0 (shifted_to m tokens step.1 earlier h.1)
  where
    by : Plain m step.1 step.0 now → (word : List ℕ) × Shifted tokens word step.1.rest
        → (word : List ℕ) × Shifted tokens word now.rest
    by (plain_shift t rest d c e k st re mo) y =
        let here : Shifted tokens y.0 (t ∷ rest) = subst (Shifted tokens y.0) e y.1 in
        (y.0 ++ t.0 ∷ [], subst (Shifted tokens (y.0 ++ t.0 ∷ [])) (sym re) (shifted_on t rest here))
    by (plain_reduce r d c k st re mo) y = (y.0, subst (Shifted tokens y.0) (sym re) y.1)
    by (plain_accept d k st re mo) y = (y.0, subst (Shifted tokens y.0) (sym re) y.1)
    by (plain_fail k st re mo) y = (y.0, subst (Shifted tokens y.0) (sym re) y.1)

-- so the place ahead tells how many tokens are upcoming
pub place_left : PlaceLaw
place_left m w h q =
    let t = shifted_to m w h.now h.earlier (quiet_plain m w h q) in
    let p = place_is t.1 in
    let l : length h.now.rest ≡ length t.1.back =
    sym (length-map h.now.rest (λ (token : ℕ × ℕ). token.0)) ∙ ap length (shifted_left t.1) in
    let i : length w ≡ length t.0 + length t.1.back =
    ap length t.1.parts ∙ length-append t.0 t.1.back in
    omega (arith, p, l, i)

-- each step of a running parse takes a token or writes a form
abbrev Counts : Configuration → Configuration → List (StepKind × Configuration) → Type 0
Counts first now earlier =
    length earlier + length (tokens_left now.rest)
    ≡ length (tokens_left first.rest) + length (forms_before (tokens_left now.rest) earlier)

-- the forms before a step of this kind
abbrev forms_with : List ℕ → Configuration → List (StepKind × Configuration) → StepKind
    → List (List ℕ)
forms_with later c earlier k = forms_before later ((k, c) ∷ earlier)

counted : (m : Machine) (first now : Configuration) (earlier : List (StepKind × Configuration))
    → PlainTo m first now earlier → now.mode ≡ Running → Counts first now earlier
counted m first now [] h r =
    let l : length (tokens_left now.rest) ≡ length (tokens_left first.rest) =
    ap (λ (c : Configuration). length (tokens_left c.rest)) h in
    omega (arith, l)
counted m first now (step ∷ earlier) h r =
    by h.0 (λ d. counted m first step.1 earlier h.1 d)
  where
    by : Plain m step.1 step.0 now → (step.1.mode ≡ Running → Counts first step.1 earlier)
        → Counts first now (step ∷ earlier)
    by (plain_shift t rest d c e k st re mo) rec =
        let b = rec d in
        let f : t.0 ∷ tokens_left now.rest ≡ tokens_left step.1.rest =
        ap (λ z. t.0 ∷ tokens_left z) re ∙ sym (ap tokens_left e) in
        let i : length (forms_before (tokens_left now.rest) (step ∷ earlier))
        ≡ length (forms_before (tokens_left step.1.rest) earlier) =
        ap (λ z. length (forms_with (tokens_left now.rest) step.1 earlier z)) k
        ∙ ap (λ z. length (forms_before z earlier)) f in
        let l : suc (length (tokens_left now.rest)) ≡ length (tokens_left step.1.rest) =
        ap length f in
        omega (arith, b, i, l)
    by (plain_reduce r d c k st re mo) rec =
        let b = rec d in
        let f : tokens_left now.rest ≡ tokens_left step.1.rest = ap tokens_left re in
        let i : length (forms_before (tokens_left now.rest) (step ∷ earlier))
        ≡ suc (length (forms_before (tokens_left step.1.rest) earlier)) =
        ap (λ z. length (forms_with (tokens_left now.rest) step.1 earlier z)) k
        ∙ ap (λ z. suc (length (forms_before z earlier))) f in
        let l : length (tokens_left now.rest) ≡ length (tokens_left step.1.rest) = ap length f in
        omega (arith, b, i, l)
    by (plain_accept d k st re mo) rec = absurd (apart mo r (λ e. omega (arith, e)))
    by (plain_fail k st re mo) rec = absurd (apart mo r (λ e. omega (arith, e)))

-- and the last step accepts
pub accepted_steps : (m : Machine) (first now : Configuration)
    (earlier : List (StepKind × Configuration)) → PlainTo m first now earlier
    → first.mode ≡ Running → now.mode ≡ Accepted → now.rest ≡ []
    → length earlier
    ≡ length (tokens_left first.rest) + length (forms_before [] earlier) + 1
accepted_steps m first now [] h r d n =
    absurd (apart (ap (λ (c : Configuration). c.mode) h ∙ r) d (λ e. omega (arith, e)))
accepted_steps m first now (step ∷ earlier) h r d n = by h.0
  where
    by : Plain m step.1 step.0 now → length (step ∷ earlier)
        ≡ length (tokens_left first.rest) + length (forms_before [] (step ∷ earlier)) + 1
    by (plain_accept c k st re mo) =
        let f : tokens_left step.1.rest ≡ [] = ap tokens_left (sym re ∙ n) in
        let b = counted m first step.1 earlier h.1 c in
        let i : length (forms_before [] (step ∷ earlier))
        ≡ length (forms_before (tokens_left step.1.rest) earlier) =
        ap (λ z. length (forms_with [] step.1 earlier z)) k
        ∙ ap (λ z. length (forms_before z earlier)) (sym f) in
        let l : length (tokens_left step.1.rest) ≡ 0 = ap length f in
        omega (arith, b, i, l)
    by (plain_shift t rest c a e k st re mo) = absurd (apart mo d (λ e. omega (arith, e)))
    by (plain_reduce q c a k st re mo) = absurd (apart mo d (λ e. omega (arith, e)))
    by (plain_fail k st re mo) = absurd (apart mo d (λ e. omega (arith, e)))
