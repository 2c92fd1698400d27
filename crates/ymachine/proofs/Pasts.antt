-- The past by changes, when a change comes or goes.
use Rattle.std.proofs.Common.{ℕ, suc, ◌≡◌, ◌<◌, ◌≤◌, true, sym, arith, Bool, false, List, [], ◌∷◌}
use Rattle.std.proofs.Common.{◌++◌, length, map, reverse, refl, ap, subst, ◌∙◌}
use Rattle.std.specs.Prelude.{◌&&◌, Option, Result, Ok, Err, is_some}
use Rattle.std.proofs.lemmas.List.{reverse-append, length-reverse, length-append}
use Rattle.ymachine.specs.declared.machine.StepFault.{StepFault}
use Rattle.ymachine.specs.declared.machine.StepFault.TheVariants.{Halted, NoToken, Limit, Memory}
use Rattle.ymachine.specs.Past.{position, most_steps}
use Rattle.ymachine.specs.Reversible.{Advances, IsJournal, StepsOn, past_by, refusal_of}
use Rattle.ymachine.specs.Reversible.{states_from}
use Rattle.ymachine.specs.Reversible.{states_before, fit_from, all_fit}
use Rattle.ymachine.proofs.Ends.{join}

module _ {S C : Type 0} (before : C → S → S) where
  pub states_before-push : {K : Type 0} (kind : C → K) (now : S) (changes : List C) (change : C)
      → states_before before kind now (changes ++ change ∷ [])
      ≡ (kind change, before change now) ∷ states_before before kind (before change now) changes
  states_before-push kind now changes change =
      ap (states_from before kind now) (reverse-append changes (change ∷ []))

  pub all_fit-push : (fits : C → S → Bool) (now : S) (changes : List C) (change : C)
      → all_fit before fits now (changes ++ change ∷ [])
      ≡ fits change now && all_fit before fits (before change now) changes
  all_fit-push fits now changes change =
      ap (fit_from before fits now) (reverse-append changes (change ∷ []))

length-states_from : {S C K : Type 0} (before : C → S → S) (kind : C
    → K) (now : S) (changes : List C)
    → length (states_from before kind now changes) ≡ length changes
length-states_from before kind now [] = refl
length-states_from before kind now (change ∷ changes) =
    ap suc (length-states_from before kind (before change now) changes)

pub length-states_before : {S C K : Type 0} (before : C → S → S) (kind : C
    → K) (now : S) (changes : List C)
    → length (states_before before kind now changes) ≡ length changes
length-states_before before kind now changes =
    length-states_from before kind now (reverse changes) ∙ length-reverse changes

kinds_from : {S C K : Type 0} (before : C → S → S) (kind : C → K) (now : S) (changes : List C)
    → map kind changes ≡ map (λ (step : K × S). step.0) (states_from before kind now changes)
kinds_from before kind now [] = refl
kinds_from before kind now (change ∷ changes) =
    ap (λ ks. kind change ∷ ks) (kinds_from before kind (before change now) changes)

pub kinds_before : {S C K : Type 0} (before : C → S → S) (kind : C → K) (now : S) (changes : List C)
    → map kind (reverse changes) ≡ map (λ (step : K × S). step.0)
    (states_before before kind now changes)
kinds_before before kind now changes = kinds_from before kind now (reverse changes)

-- what is kept of a step or an edit that was made from the content old and led to the content now
module _ {S C K : Type 0} (next what : S → Option (K × S)) (before : C → S → S) (kind : C
    → K) (fits : C → S → Bool) (old now : S) (items : List C) (made : Result C StepFault)
    (j : IsJournal before fits old items) (a : Advances next what before kind fits old made now)
  where
    abbrev Kept : Result (Unit {0}) StepFault → S → List C → Type 0
    Kept result new left =
        StepsOn next what (past_by before kind old items) result (past_by before kind new left)
        × IsJournal before fits new left

    many : most_steps ≤ length items → most_steps ≤ position (past_by before kind old items)
    many h = subst (λ (n : ℕ). most_steps ≤ n) (sym (length-states_before before kind old items)) h

    few : length items < most_steps → position (past_by before kind old items) < most_steps
    few h = subst (λ (n : ℕ). n < most_steps) (sym (length-states_before before kind old items)) h

    made_of : (change : C) → made ≡ Ok change
        → Advances next what before kind fits old (Ok change) now
    made_of change e =
        subst (λ (r : Result C StepFault). Advances next what before kind fits old r now) e a

    same : (new : S) (left : List C) → new ≡ old → left ≡ items
        → past_by before kind new left ≡ past_by before kind old items
    same new left e f =
        ap (λ (m : S). past_by before kind m left) e ∙ ap (past_by before kind old) f

    still : (new : S) (left : List C) → new ≡ old → left ≡ items → IsJournal before fits new left
    still new left e f =
        subst (λ (m : S). IsJournal before fits m left) (sym e)
        (subst (IsJournal before fits old) (sym f) j)

    -- it is taken back, since so many stand
    pub too_many : (change : C) (new : S) → made ≡ Ok change → new ≡ before change now
        → most_steps ≤ length items → Kept (Err Limit) new items
    too_many change new e f h =
        let m = made_of change e in
        (((ap is_some m.0, many h), same new items (f ∙ m.1) refl), still new items (f ∙ m.1) refl)

    -- or since its change found no room
    pub no_room : (change : C) (new : S) (left : List C) → made ≡ Ok change
        → new ≡ before change now
        → left ≡ items → length items < most_steps → Kept (Err Memory) new left
    no_room change new left e f l h =
        let m = made_of change e in
        (((ap is_some m.0, few h), same new left (f ∙ m.1) l), still new left (f ∙ m.1) l)

    -- it stands
    pub stands : (change : C) (left : List C) → made ≡ Ok change → left ≡ items ++ change ∷ []
        → length items < most_steps → Kept (Ok tt) now left
    stands change left e l h =
        let m = made_of change e in
        let n = length-append items (change ∷ []) in
        let longer : IsJournal before fits now (items ++ change ∷ []) = record {
          few = omega (arith, n, h);
          fitting = all_fit-push before fits now items change
              ∙ join m.2
              (subst (λ (x : S). all_fit before fits x items ≡ true) (sym m.1) j.fitting);
        } in (
          (
            kind change,
            (
              few h,
              (
                m.0,
                ap (states_before before kind now) l
                    ∙ (states_before-push before kind now items change
                    ∙ ap (λ (x : S). (kind change, x) ∷ states_before before kind x items) m.1),
              ),
            ),
          ),
          subst (IsJournal before fits now) (sym l) longer,
        )

    -- nothing was made
    refused_by : (fault : StepFault) (full : Bool)
        → Advances next what before kind fits old (Err fault) now
        → (full ≡ true → most_steps ≤ length items) → (full ≡ false → length items < most_steps)
        → Kept (Err (refusal_of full fault)) now items
    refused_by Halted full t h i =
        (((t.0, t.1), same now items t.2 refl), still now items t.2 refl)
    refused_by NoToken full t h i =
        (((t.0, t.1), same now items t.2 refl), still now items t.2 refl)
    refused_by Limit full t h i = absurd t
    refused_by Memory true t h i =
        (((t.0, many (h refl)), same now items t.1 refl), still now items t.1 refl)
    refused_by Memory false t h i =
        (((t.0, few (i refl)), same now items t.1 refl), still now items t.1 refl)

    pub refused : (fault answer : StepFault) (full : Bool) → made ≡ Err fault
        → answer ≡ refusal_of full fault → (full ≡ true → most_steps ≤ length items)
        → (full ≡ false → length items < most_steps) → Kept (Err answer) now items
    refused fault answer full e f h i =
        subst (λ (x : StepFault). Kept (Err x) now items) (sym f)
        (refused_by fault full
        (subst (λ (r : Result C StepFault). Advances next what before kind fits old r now) e a) h
        i)
