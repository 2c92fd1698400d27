-- How the lines of forms join, and what unwinding leaves.
use Rattle.std.proofs.Common.{ℕ, zero, suc, ◌≡◌, ◌≢◌, ◌<◌, ◌+◌, if◌then◌else◌, Bool, true, false}
use Rattle.std.proofs.Common.{List}
use Rattle.std.proofs.Common.{[], ◌∷◌, ◌++◌, length, take, map, flat_map, reverse, get_or, refl}
use Rattle.std.proofs.Common.{sym, ◌∙◌, ap, subst, append_assoc, append-nil, arith, Option, Some}
use Rattle.std.proofs.Common.{None, is_some}
use Rattle.std.specs.List.{All}
use Rattle.std.specs.Io.KnownBytes.{Keeps, Appends}
use Rattle.std.proofs.KnownBytes.{Appends-trans, Appends-kept}
use Rattle.ylink.specs.declared.link.Link.{Link}
use Rattle.ylink.specs.Sends.{Begins, Sends}
use Rattle.ylink.proofs.Sent.{Begins-more, flat_map-append, Sends-none, Sends-stop, Sends-then}
use Rattle.ymachine.specs.declared.machine.StepKind.{StepKind}
use Rattle.ymachine.specs.declared.machine.StepKind.TheVariants as kinds
use Rattle.ymachine.specs.declared.parts.PlaceChange.{PlaceChange}
use Rattle.ymachine.specs.Machine.{Machine, Configuration}
use Rattle.ymachine.specs.Past.{Past, back_by, back_from, LeadsTo, first_past}
use Rattle.ymachine.specs.History.{History}
use Rattle.ymachine.specs.Content.{Place}
use Rattle.ymachine.specs.Shown.{step_view}
use Rattle.ymachine.specs.Unwinding.{is_reduction, is_error_step, NoErrors, form_of, shifts_from}
use Rattle.ymachine.specs.Unwinding.{forms_before, forms_from, forms_of, names_text, form_line}
use Rattle.ymachine.specs.Unwinding.{forms_text}
use Rattle.std.proofs.lemmas.List.Elements.{All-append, All-cons, All-map, All-nil}
use Rattle.std.proofs.lemmas.List.{get_or-map, reverse-reverse, reverse-append}
use Rattle.ymachine.proofs.Shown.{length-map}
use Rattle.ysession.specs.Unwound.{gap, Cuts, IsAtForm, Stops, GoesBack}

-- ---- names with one space between

-- with one name more
pub joined-take : (m : Machine) (xs : List ℕ) (i : ℕ) → i < length xs
    → names_text m (take (suc i) xs) ≡ names_text m (take i xs) ++ (gap i ++ m.name (get_or xs i 0))
joined-take m [] i h = absurd (omega arith)
joined-take m (x ∷ xs) zero h = refl
joined-take m (x ∷ []) (suc i) h = absurd (omega arith)
joined-take m (x ∷ y ∷ xs) (suc zero) h = refl
joined-take m (x ∷ y ∷ xs) (suc (suc i)) h =
    ap (λ (l : List ℕ). m.name x ++ (32 ∷ l)) (joined-take m (y ∷ xs) (suc i) (omega arith))
    ∙ sym (append_assoc (m.name x) (32 ∷ names_text m (take (suc i) (y ∷ xs))) _)

-- what follows the first names
pub joined-cut : (m : Machine) (xs : List ℕ) (i : ℕ)
    → (more : List ℕ) × (names_text m xs ≡ names_text m (take i xs) ++ more)
joined-cut m xs zero = (names_text m xs, refl)
joined-cut m [] (suc i) = ([], refl)
joined-cut m (x ∷ []) (suc zero) = ([], sym (append-nil (m.name x)))
joined-cut m (x ∷ []) (suc (suc i)) = ([], sym (append-nil (m.name x)))
joined-cut m (x ∷ y ∷ xs) (suc zero) = (32 ∷ names_text m (y ∷ xs), refl)
joined-cut m (x ∷ y ∷ xs) (suc (suc i)) =
    let r = joined-cut m (y ∷ xs) (suc i) in (
      r.0,
      ap (λ (l : List ℕ). m.name x ++ (32 ∷ l)) r.1
          ∙ sym (append_assoc (m.name x) (32 ∷ names_text m (take (suc i) (y ∷ xs))) r.0),
    )

module _ {W : Type 0} (contents : W → Option (List ℕ)) (m : Machine) (form : List ℕ) (i : ℕ)
    (inside : i < length form) where
  -- the names before place i were sent, and then the one there
  pub names_sent : (a b c : Link W) → Sends contents a b true (names_text m (take i form))
      → Sends contents b c true (gap i ++ m.name (get_or form i 0))
      → Sends contents a c true (names_text m (take (i + 1) form))
  names_sent a b c s t =
      let next : i + 1 ≡ suc i = omega arith in
      subst (λ (x : List ℕ). Sends contents a c true x)
      (sym (ap (λ (n : ℕ). names_text m (take n form)) next ∙ joined-take m form i inside))
      (Sends-then contents a b c true _ _ s t)

  -- the names before place i were sent, and the one there was cut
  pub names_cut : {X : Type 0} (a b c : Link W) (o : Option X) → o ≡ None
      → Sends contents a b true (names_text m (take i form))
      → Sends contents b c false (gap i ++ m.name (get_or form i 0))
      → Sends contents a c (is_some o) (names_text m form)
  names_cut a b c o e s t =
      let rest = joined-cut m form (suc i) in
      Sends-none contents a c o _ e
      (subst (λ (x : List ℕ). Sends contents a c false x)
      (sym (rest.1 ∙ ap (λ (l : List ℕ). l ++ rest.0) (joined-take m form i inside)))
      (Sends-stop contents a c _ rest.0 (Sends-then contents a b c false _ _ s t)))

-- ---- undos

module _ {K S : Type 0} where
  pub undone-next : (n : ℕ) (now : S) (earlier : List (K × S)) (mid new : Past K S) (kind : K)
      → mid ≡ back_from n now earlier → mid.earlier ≡ (kind, new.now) ∷ new.earlier
      → new ≡ back_from (suc n) now earlier
  undone-next zero now earlier mid new kind e f =
      let g : earlier ≡ (kind, new.now) ∷ new.earlier =
      sym (ap (λ (p : Past K S). p.earlier) e) ∙ f in
      sym (ap (back_from (suc zero) now) g)
  undone-next (suc n) now [] mid new kind e f = let bad : [] ≡ (kind, new.now) ∷ new.earlier =
      sym (ap (λ (p : Past K S). p.earlier) e) ∙ f in cc
  undone-next (suc n) now (step ∷ earlier) mid new kind e f =
      undone-next n step.1 earlier mid new kind e f

  -- all undos leave the first content alone
  pub undone-all : {E : Type 0} (next : S → Option (K × S)) (edited : E → S
      → Option (K × S)) (first now : S) (earlier : List (K × S))
      → LeadsTo next edited first now earlier
      → back_from (length earlier) now earlier ≡ first_past first
  undone-all next edited first now [] h = ap (λ (s : S). first_past s) h
  undone-all next edited first now (step ∷ earlier) h =
      undone-all next edited first step.1 earlier h.1

-- ---- the forms before

abbrev formed : Bool → List ℕ → History → List (List ℕ)
formed b later new = if b then form_of new.now later
    ∷ forms_before later new.earlier else forms_before later new.earlier

pub forms-reduction : (kind : StepKind) (later : List ℕ) (mid new : History)
    → mid.earlier ≡ (kind, new.now) ∷ new.earlier → is_reduction kind ≡ true
    → forms_before later mid.earlier ≡ forms_from (shifts_from kind later) new
forms-reduction kind later mid new e r =
    ap (forms_before later) e ∙ ap (λ (b : Bool). formed b (shifts_from kind later) new) r

pub forms-other : (kind : StepKind) (later : List ℕ) (mid new : History)
    → mid.earlier ≡ (kind, new.now) ∷ new.earlier → is_reduction kind ≡ false
    → forms_before later mid.earlier ≡ forms_before (shifts_from kind later) new.earlier
forms-other kind later mid new e r =
    ap (forms_before later) e ∙ ap (λ (b : Bool). formed b (shifts_from kind later) new) r

-- where the link fails at the line of a form
pub stops : (a b c : Option (List ℕ)) (m : Machine) (h new : History) (steps : ℕ)
    (before : List (List ℕ)) (later : List ℕ) → new ≡ back_by steps h
    → forms_of h ≡ before ++ forms_from later new → IsAtForm h steps
    → Appends a b (flat_map (form_line m) before) → Cuts b c (form_line m (form_of new.now later))
    → Stops a c m h new
stops a b c m h new steps before later l f at p q =
    let lines = flat_map (form_line m) before in
    let form = form_line m (form_of new.now later) in
    let written : Appends a c (lines ++ q.front) = Appends-trans a b c lines q.front p q.written in
    let sent : Begins a c (lines ++ form) =
    record {
      front = lines ++ q.front;
      back = q.back;
      parts = ap (λ l. lines ++ l) q.parts ∙ sym (append_assoc lines q.front q.back);
      written = written;
    } in
    let after = flat_map (form_line m) (forms_before later new.earlier) in
    let whole : forms_text m h ≡ (flat_map (form_line m) before ++ form) ++ after =
    ap (flat_map (form_line m)) f ∙ flat_map-append (form_line m) before (forms_from later new)
    ∙ sym (append_assoc (flat_map (form_line m) before) form after) in
    record {
      steps = steps;
      left = l;
      at = at;
      before = before;
      later = later;
      forms = f;
      front = q.front;
      back = q.back;
      line = q.parts;
      short = q.short;
      written = written;
      begins = subst (λ (t : List ℕ). Begins a c t) (sym whole) (Begins-more a c _ after sent);
    }

-- a line whose names were cut
pub cut_in_names : (a b : Option (List ℕ)) (names end : List ℕ) → end ≢ [] → Begins a b names
    → Cuts a b (names ++ end)
cut_in_names a b names end some p = record {
  front = p.front;
  back = p.back ++ end;
  parts = ap (λ l. l ++ end) p.parts ∙ append_assoc p.front p.back end;
  short = λ none. some (nothing_after p.back end none);
  written = p.written;
}
  where
    nothing_after : (xs ys : List ℕ) → xs ++ ys ≡ [] → ys ≡ []
    nothing_after [] ys e = e
    nothing_after (x ∷ xs) ys e = cc

-- a line of which all but its end was written
pub cut_at_end : (a b c : Option (List ℕ)) (names end : List ℕ) → end ≢ [] → Appends a b names
    → Keeps b c → Cuts a c (names ++ end)
cut_at_end a b c names end some p k = record {
  front = names;
  back = end;
  parts = refl;
  short = some;
  written = Appends-kept a b c names p k;
}

-- an undo that took a reduction back leaves a form to be written
pub at_form : (h mid new : History) (n : ℕ) (kind : StepKind) → mid ≡ back_by n h
    → new ≡ back_by (suc n) h → mid.earlier ≡ (kind, new.now) ∷ new.earlier
    → is_reduction kind ≡ true → IsAtForm h (suc n)
at_form h mid new n kind e f u r =
    let found = a_reduction kind r in (
      found.0,
      subst (λ (p : History). (back_by n h).earlier ≡ (kinds.Reduce found.0, p.now) ∷ p.earlier) f
          (subst (λ (k : StepKind). (back_by n h).earlier ≡ (k, new.now) ∷ new.earlier) found.1
          (subst (λ (p : History). p.earlier ≡ (kind, new.now) ∷ new.earlier) e u)),
    )
  where
    a_reduction : (kind : StepKind) → is_reduction kind ≡ true
        → (rule : ℕ) × (kind ≡ kinds.Reduce rule)
    a_reduction (kinds.Reduce rule) r = (rule, refl)
    a_reduction (kinds.Shift t) r = cc
    a_reduction kinds.Accept r = cc
    a_reduction kinds.Detect r = cc
    a_reduction (kinds.Pop t) r = cc
    a_reduction kinds.ShiftError r = cc
    a_reduction (kinds.Discard t) r = cc
    a_reduction kinds.Fail r = cc
    a_reduction (kinds.Insert t) r = cc
    a_reduction (kinds.Drop t) r = cc

-- where there is no answer, the link has failed
pub goes_back-none : {X : Type 0} (a c : Option (List ℕ)) (m : Machine) (h new : History)
    (o : Option X) → o ≡ None → Stops a c m h new → GoesBack a c m h (is_some o) new
goes_back-none a c m h new None e s = s
goes_back-none a c m h new (Some x) e s = let bad : true ≡ false = ap is_some e in cc

pub lines-push : (m : Machine) (xs : List (List ℕ)) (x : List ℕ)
    → flat_map (form_line m) (xs ++ x ∷ []) ≡ flat_map (form_line m) xs ++ form_line m x
lines-push m xs x = flat_map-append (form_line m) xs (x ∷ [])
    ∙ ap (λ l. flat_map (form_line m) xs ++ l) (append-nil (form_line m x))

-- ---- the symbols of a form

-- ---- error steps

abbrev kind_quiet : StepKind → Type 0
kind_quiet kind = is_error_step kind ≡ false

abbrev pub change_quiet : PlaceChange → Type 0
change_quiet change = kind_quiet change.kind

abbrev step_quiet : StepKind × Configuration → Type 0
step_quiet step = kind_quiet step.0

All-unmap : {X Y : Type 0} (P : Y → Type 0) (f : X → Y) (xs : List X) → All P (map f xs)
    → All (λ x. P (f x)) xs
All-unmap P f xs h = λ k d l. let many = length-map f xs in
    subst P (get_or-map f xs k d (f d) l) (h k (f d) (omega (arith, many, l)))

All-reversed : {X : Type 0} (P : X → Type 0) (xs : List X) → All P xs → All P (reverse xs)
All-reversed P [] h = h
All-reversed P (x ∷ xs) h =
    subst (All P) (sym (reverse-append (x ∷ []) xs))
    (All-append P (reverse xs) (x ∷ [])
    (All-reversed P xs (λ k d l. h (suc k) d (omega (arith, l))))
    (All-cons P x [] (h 0 x (omega arith)) (All-nil P)))

abbrev change_kinds : List PlaceChange → List StepKind
change_kinds changes = map (λ (change : PlaceChange). change.kind) changes

abbrev step_kinds : List (StepKind × Place) → List StepKind
step_kinds steps = map (λ (step : StepKind × Place). step.0) steps

-- no change is one of recovery exactly where no step of the history is
pub quiet : (changes : List PlaceChange) (earlier : List (StepKind × Place))
    → change_kinds (reverse changes) ≡ step_kinds earlier → All change_quiet changes
    → NoErrors (map step_view earlier)
quiet changes earlier e h =
    let kinds = All-map kind_quiet (λ (change : PlaceChange). change.kind) (reverse changes)
    (All-reversed change_quiet changes h) in
    All-map step_quiet step_view earlier
    (All-unmap kind_quiet (λ (step : StepKind × Place). step.0) earlier
    (subst (All kind_quiet) e kinds))

pub unquiet : (changes : List PlaceChange) (earlier : List (StepKind × Place))
    → change_kinds (reverse changes) ≡ step_kinds earlier → NoErrors (map step_view earlier)
    → All change_quiet changes
unquiet changes earlier e h =
    let kinds = All-map kind_quiet (λ (step : StepKind × Place). step.0) earlier
    (All-unmap step_quiet step_view earlier h) in
    let back = All-unmap kind_quiet (λ (change : PlaceChange). change.kind) (reverse changes)
    (subst (All kind_quiet) (sym e) kinds) in
    subst (All change_quiet) (reverse-reverse changes)
    (All-reversed change_quiet (reverse changes) back)
