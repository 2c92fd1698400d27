-- What the steps of a journal of a parse in place are to the history that it shows.
use Rattle.std.proofs.Common.{Vec, Global, length, ◌+◌, ℕ, ◌≡◌, ◌⊎◌, ◌<◌, ◌≤◌, drop, inl, inr, true}
use Rattle.std.proofs.Common.{false, List, [], ◌∷◌, suc, map, Option, Some, None, Result, Ok, Err}
use Rattle.std.proofs.Common.{IsTrue, refl, sym, ◌∙◌, ap, subst, arith}
use Rattle.std.specs.Prelude.{vec_len, vec_capacity, IsSome, IfSome, is_some, unwrap_or, slice_get}
use Rattle.std.specs.Option.{option_map}
use Rattle.std.specs.List.{All}
use Rattle.std.proofs.lemmas.Bool.{cases_lt}
use Rattle.std.proofs.lemmas.Grind.{not_there}
use Rattle.std.proofs.lemmas.List.Elements.{All-cons}
use Rattle.std.proofs.Math.Logic.{∥∥₁_map}
use Rattle.ytables.specs.Tables.{TablesValue as Tables}
use Rattle.ymachine.specs.declared.machine.StepKind.{StepKind}
use Rattle.ymachine.specs.declared.machine.StepKind.TheVariants as kinds
use Rattle.ymachine.specs.declared.machine.StepFault.{StepFault}
use Rattle.ymachine.specs.declared.machine.StepFault.TheVariants.{Memory}
use Rattle.ymachine.specs.declared.machine.AtStart.{AtStart}
use Rattle.ymachine.specs.declared.machine.Deed.{Deed}
use Rattle.ymachine.specs.declared.machine.Deed.TheVariants as deeds
use Rattle.ymachine.specs.declared.machine.Edit.{Edit}
use Rattle.ymachine.specs.Machine.{Configuration, next, edited, deed_by}
use Rattle.ymachine.specs.MachineOver.{machine_over}
use Rattle.ymachine.specs.Past.{Past, LeadsTo, Comes, Changes, most_steps}
use Rattle.ymachine.specs.History.{IsHistory, first_configuration}
use Rattle.ymachine.specs.Reversible.{StepsOn, StepsBack}
use Rattle.ysession.specs.Session.{setting_at}
use Rattle.ymachine.specs.Sound.{Sound}
use Rattle.ymachine.specs.Content.{Place, place_after, place_next, place_edited, place_deed}
use Rattle.ymachine.specs.Content.{Content, configuration_of, content_after, valid}
use Rattle.ymachine.specs.Shown.{Counts, KeepsGround, step_view, past_view}
use Rattle.ymachine.proofs.Places.{onward, step_reaches, edit_reaches}
use Rattle.ymachine.proofs.Shown.{length-map}

-- the history that is shown begins with the first configuration, and its steps are those of the
-- machine of the tables
abbrev pub IsShown : Past StepKind Place → Type 0
IsShown h = IsHistory (machine_over h.now.tables) h.now.tokens (past_view h)

-- What is made of the content of a parse, and what that is to the machine: its kind leads on to
-- what the machine's own leads to.
pub record IsDeed (p : Place) (what : Place
    → Option (StepKind × Place)) (found : Option (StepKind × Configuration)) : Type 0 where
  pub is : what p ≡ onward p found
  pub reaches : (kind : StepKind) (after : Configuration) → found ≡ Some (kind, after)
      → after ≡ configuration_of (place_after kind p)
  pub comes : (kind : StepKind) (after : Configuration) → found ≡ Some (kind, after)
      → Comes (next (machine_over p.tables)) (edited (machine_over p.tables)) (configuration_of p)
      kind after

a_step : (p : Place) → Sound p.tables → IsTrue (valid p)
    → IsDeed p place_next (next (machine_over p.tables) (configuration_of p))
a_step p s v = record {
  is = refl;
  reaches = λ kind after e. step_reaches p kind after s v e;
  comes = λ kind after e. inl e;
}

an_edit : (p : Place) (edit : Edit) → Sound p.tables → IsTrue (valid p)
    → IsDeed p (place_edited edit) (edited (machine_over p.tables) edit (configuration_of p))
an_edit p edit s v = record {
  is = refl;
  reaches = λ kind after e. edit_reaches p edit kind after s v e;
  comes = λ kind after e. inr (edit, e);
}

pub a_deed : (p : Place) (deed : Deed) → Sound p.tables → IsTrue (valid p)
    → IsDeed p (place_deed deed) (deed_by (machine_over p.tables) deed (configuration_of p))
a_deed p deeds.Step s v = a_step p s v
a_deed p (deeds.Edit edit) s v = an_edit p edit s v

-- what a deed leads to
record Led (p q : Place) (found : Option (StepKind × Configuration)) (kind : StepKind) : Type 0
  where
    pub shown : found ≡ Some (kind, configuration_of q)
    pub tables : q.tables ≡ p.tables
    pub tokens : q.tokens ≡ p.tokens
    pub steps : q.content.steps ≡ p.content.steps + 1

-- what a step makes of a content counts as the content does
after_counts : (t : Tables) (kind : StepKind) (c : Content)
    → (content_after t kind c).steps ≡ c.steps
after_counts t (kinds.Shift token) c = refl
after_counts t (kinds.Reduce rule) c = refl
after_counts t kinds.Accept c = refl
after_counts t kinds.Detect c = refl
after_counts t (kinds.Pop symbol) c = refl
after_counts t kinds.ShiftError c = refl
after_counts t (kinds.Discard token) c = refl
after_counts t kinds.Fail c = refl
after_counts t (kinds.Insert token) c = refl
after_counts t (kinds.Drop token) c = refl

led : (p q : Place) (what : Place
    → Option (StepKind × Place)) (found : Option (StepKind × Configuration)) (kind : StepKind)
    → IsDeed p what found → what p ≡ Some (kind, q) → Led p q found kind
led p q what found kind d e = by found refl (sym d.is ∙ e)
  where
    by : (o : Option (StepKind × Configuration)) → found ≡ o → onward p o ≡ Some (kind, q)
        → Led p q found kind
    by None f h = let bad : false ≡ true = ap is_some h in cc
    by (Some s) f h =
        let y : (s.0, place_after s.0 p) ≡ (kind, q) =
        ap (λ (o : Option (StepKind × Place)). unwrap_or o (s.0, place_after s.0 p)) h in
        let after = d.reaches s.0 s.1 f in
        record {
          shown = f
              ∙ ap (λ (c : Configuration). let step : Option (StepKind × Configuration) =
              Some (s.0, c) in step) after
              ∙ ap (λ (x : StepKind × Place). let step : Option (StepKind × Configuration) =
              Some (x.0, configuration_of x.1) in step) y;
          tables = sym (ap (λ (x : StepKind × Place). x.1.tables) y);
          tokens = sym (ap (λ (x : StepKind × Place). x.1.tokens) y);
          steps = sym (ap (λ (x : StepKind × Place). x.1.content.steps) y)
              ∙ ap (λ n. n + 1) (after_counts p.tables s.0 p.content);
        }

-- the kind of the newest step, where one was made
newest : (kind found : StepKind) (now : Place) (earlier all : List (StepKind × Place))
    → all ≡ (kind, now) ∷ earlier
    → option_map (λ (step : StepKind × Place). step.0) (slice_get all 0) ≡ Some found → kind ≡ found
newest kind found now earlier all e f =
    let x : Some kind ≡ Some found =
    ap (λ (l : List (StepKind × Place)). option_map (λ (step : StepKind × Place). step.0)
    (slice_get l 0)) (sym e) ∙ f in
    ap (λ (o : Option StepKind). unwrap_or o kind) x

-- what has the ground of one content has that of another on the same ground
moved : (p q : Place) (earlier : List (StepKind × Place)) → q.tables ≡ p.tables
    → q.tokens ≡ p.tokens → All (KeepsGround p) earlier → All (KeepsGround q) earlier
moved p q earlier e f h = λ k d l. let g = h k d l in (g.0 ∙ sym e, g.1 ∙ sym f)

abbrev Shows : Tables → List ℕ → Place → List (StepKind × Configuration) → Type 0
Shows t tokens now earlier =
    LeadsTo (next (machine_over t)) (edited (machine_over t)) (first_configuration tokens)
    (configuration_of now) earlier

module _ (what : Place → Option (StepKind × Place)) (found : Option (StepKind × Configuration))
    (h new : Past StepKind Place) (d : IsDeed h.now what found) where
  -- from one configuration to the next, over tables and tokens that stay
  longer : (kind : StepKind) → what h.now ≡ Some (kind, new.now)
      → new.earlier ≡ (kind, h.now) ∷ h.earlier → IsShown h → IsShown new
  longer kind f e i =
      let g = led h.now new.now what found kind d f in
      let on : Shows h.now.tables h.now.tokens new.now (map step_view ((kind, h.now) ∷ h.earlier))
      = (d.comes kind (configuration_of new.now) g.shown, i) in
      let past : Shows h.now.tables h.now.tokens new.now (map step_view new.earlier) =
      subst (λ (l : List (StepKind × Place)). Shows h.now.tables h.now.tokens new.now
      (map step_view l)) (sym e) on in
      let tables : Shows new.now.tables h.now.tokens new.now (map step_view new.earlier) =
      subst (λ (t : Tables). Shows t h.now.tokens new.now (map step_view new.earlier))
      (sym g.tables) past in
      subst (λ (l : List ℕ). Shows new.now.tables l new.now (map step_view new.earlier))
      (sym g.tokens) tables

  -- whatever is answered, the history is one
  pub stays_shown : (r : Result (Unit {0}) StepFault) → StepsOn place_next what h r new
      → ∥ IsShown h ∥₁ → ∥ IsShown new ∥₁
  stays_shown (Ok done) steps i = ∥∥₁_map i (longer steps.0 steps.1.1.0 steps.1.1.1)
  stays_shown (Err fault) steps i =
      subst (λ (x : Past StepKind Place). ∥ IsShown x ∥₁) (sym steps.1) i

  pub stays_ground : (r : Result (Unit {0}) StepFault) → StepsOn place_next what h r new
      → All (KeepsGround h.now) h.earlier → All (KeepsGround new.now) new.earlier
  stays_ground (Ok done) steps g =
      let s = led h.now new.now what found steps.0 d steps.1.1.0 in
      let step : StepKind × Place = (steps.0, h.now) in
      subst (All (KeepsGround new.now)) (sym steps.1.1.1)
      (All-cons (KeepsGround new.now) step h.earlier (
        sym s.tables,
        sym s.tokens,
      ) (moved h.now new.now h.earlier s.tables s.tokens g))
  stays_ground (Err fault) steps g =
      subst (λ (x : Past StepKind Place). All (KeepsGround x.now) x.earlier) (sym steps.1) g

  -- whatever is answered, each content counts one step more than the one before it
  pub stays_counted : (r : Result (Unit {0}) StepFault) → StepsOn place_next what h r new
      → ∥ Counts h.now h.earlier ∥₁ → ∥ Counts new.now new.earlier ∥₁
  stays_counted (Ok done) steps n =
      ∥∥₁_map n (λ (counts : Counts h.now h.earlier).
      let g = led h.now new.now what found steps.0 d steps.1.1.0 in
      let on : Counts new.now ((steps.0, h.now) ∷ h.earlier) = (g.steps, counts) in
      subst (Counts new.now) (sym steps.1.1.1) on)
  stays_counted (Err fault) steps n =
      subst (λ (x : Past StepKind Place). ∥ Counts x.now x.earlier ∥₁) (sym steps.1) n

  -- what was made, as the history shows it
  pub deed_shown : (shown : Configuration → Option (StepKind × Configuration))
      → shown (configuration_of h.now) ≡ found → (kind : StepKind)
      → StepsOn place_next what h (Ok tt) new
      → option_map (λ (step : StepKind × Place). step.0) (slice_get new.earlier 0) ≡ Some kind
      → (after : Past StepKind Place) → after ≡ new
      → Changes (next (machine_over h.now.tables)) shown (past_view h) (Ok kind)
      (past_view after)
  deed_shown shown f kind steps e after a =
      let same = newest steps.0 kind h.now h.earlier new.earlier steps.1.1.1 e in
      let g = led h.now new.now what found steps.0 d steps.1.1.0 in
      let past : map step_view new.earlier
      ≡ (steps.0, configuration_of h.now) ∷ map step_view h.earlier =
      ap (map step_view) steps.1.1.1 in
      subst (λ (x : Past StepKind Place). Changes (next (machine_over h.now.tables)) shown
      (past_view h) (Ok kind) (past_view x)) (sym a) (
        subst (λ (n : ℕ). n < most_steps) (sym (length-map step_view h.earlier)) steps.1.0,
        (
          f ∙ g.shown ∙ ap (λ (k : StepKind). let step : Option (StepKind × Configuration) =
              Some (k, configuration_of new.now) in step) same,
          past ∙ ap (λ (k : StepKind). let step : StepKind × Configuration =
              (k, configuration_of h.now) in step ∷ map step_view h.earlier) same,
        ),
      )

  -- what was made and taken back has changed nothing
  pub undone_deed : (after : Past StepKind Place) → StepsOn place_next what h (Ok tt) new
      → StepsBack {E = AtStart} new (Ok tt) after → after ≡ h
  undone_deed after steps back =
      let e : (back.0, after.now) ∷ after.earlier ≡ (steps.0, h.now) ∷ h.earlier =
      sym back.1 ∙ steps.1.1.1 in
      let first : (back.0, after.now) ≡ (steps.0, h.now) =
      ap (λ (l : List (StepKind × Place)). unwrap_or (slice_get l 0) (back.0, after.now)) e in
      let past : after.earlier ≡ h.earlier = ap (drop 1) e in
      ap (λ (n : Place). let p : Past StepKind Place =
      record { now = n; earlier = after.earlier } in
      p) (ap (λ (x : StepKind × Place). x.1) first)
      ∙ ap (λ (l : List (StepKind × Place)). let p : Past StepKind Place =
      record { now = h.now; earlier = l } in p) past

  -- what was made stands, or was taken back
  pub settled : (o : Option StepKind) (after : Past StepKind Place) → IfSome o (λ kind. after ≡ new)
      → (is_some o ≡ false → StepsBack {E = AtStart} new (Ok tt) after)
      → StepsOn place_next what h (Ok tt) new → ∥ IsShown h ∥₁ → All (KeepsGround h.now) h.earlier
      → ∥ Counts h.now h.earlier ∥₁
      → (∥ IsShown after ∥₁) × All (KeepsGround after.now) after.earlier
      × (∥ Counts after.now after.earlier ∥₁)
  settled (Some kind) after e back steps i g n = (
    subst (λ (x : Past StepKind Place). ∥ IsShown x ∥₁) (sym e) (stays_shown (Ok tt) steps i),
    subst (λ (x : Past StepKind Place). All (KeepsGround x.now) x.earlier) (sym e)
        (stays_ground (Ok tt) steps g),
    subst (λ (x : Past StepKind Place). ∥ Counts x.now x.earlier ∥₁) (sym e)
        (stays_counted (Ok tt) steps n),
  )
  settled None after e back steps i g n =
      let same = undone_deed after steps (back refl) in (
        subst (λ (x : Past StepKind Place). ∥ IsShown x ∥₁) (sym same) i,
        subst (λ (x : Past StepKind Place). All (KeepsGround x.now) x.earlier) (sym same) g,
        subst (λ (x : Past StepKind Place). ∥ Counts x.now x.earlier ∥₁) (sym same) n,
      )

  -- what was made is taken back since memory ran out
  pub wanting : (shown : Configuration → Option (StepKind × Configuration))
      → shown (configuration_of h.now) ≡ found → (after : Past StepKind Place)
      → StepsOn place_next what h (Ok tt) new → StepsBack {E = AtStart} new (Ok tt) after
      → Changes (next (machine_over h.now.tables)) shown (past_view h) (Err Memory)
      (past_view after)
  wanting shown f after steps back =
      let g = led h.now new.now what found steps.0 d steps.1.1.0 in (
        (
          subst IsSome (sym f) (ap is_some g.shown),
          subst (λ (n : ℕ). n < most_steps) (sym (length-map step_view h.earlier)) steps.1.0,
        ),
        ap past_view (undone_deed after steps back),
      )

-- what an undo gives back
pub ground_before : (h : Past StepKind Place) (kind : StepKind) (before : Place)
    (earlier : List (StepKind × Place)) → h.earlier ≡ (kind, before) ∷ earlier
    → All (KeepsGround h.now) h.earlier → KeepsGround h.now (kind, before)
ground_before h kind before earlier e g =
    (subst (All (KeepsGround h.now)) e g) 0 (kind, before) (omega arith)

pub shorter_ground : {E : Type 0} (r : Result (Unit {0}) E) (h new : Past StepKind Place)
    → StepsBack h r new → All (KeepsGround h.now) h.earlier → All (KeepsGround new.now) new.earlier
shorter_ground (Ok done) h new back g =
    let s = ground_before h back.0 new.now new.earlier back.1 g in
    let all = subst (All (KeepsGround h.now)) back.1 g in
    moved h.now new.now new.earlier s.0 s.1 (λ k d l. all (suc k) d (omega (arith, l)))
shorter_ground (Err e) h new back g =
    subst (λ (x : Past StepKind Place). All (KeepsGround x.now) x.earlier) (sym back.1) g

pub shorter_counts : {E : Type 0} (r : Result (Unit {0}) E) (h new : Past StepKind Place)
    → StepsBack h r new → ∥ Counts h.now h.earlier ∥₁ → ∥ Counts new.now new.earlier ∥₁
shorter_counts (Ok done) h new back n =
    ∥∥₁_map n (λ (counts : Counts h.now h.earlier). (subst (Counts h.now) back.1 counts).1)
shorter_counts (Err e) h new back n =
    subst (λ (x : Past StepKind Place). ∥ Counts x.now x.earlier ∥₁) (sym back.1) n

-- so the content now counts the steps that stand
counts_all : (now : Place) (earlier : List (StepKind × Place)) → Counts now earlier
    → now.content.steps ≡ length earlier
counts_all now [] n = n
counts_all now (step ∷ earlier) n =
    let e = counts_all step.1 earlier n.1 in
    let one = n.0 in
    omega (arith, one, e)

-- and where it is only known to
pub counted : (now : Place) (earlier : List (StepKind × Place)) → ∥ Counts now earlier ∥₁
    → now.content.steps ≡ length earlier
counted now earlier t =
    by (cases_lt (length earlier) now.content.steps) (cases_lt now.content.steps (length earlier))
  where
    by : (length earlier < now.content.steps) ⊎ (now.content.steps ≤ length earlier)
        → (now.content.steps < length earlier) ⊎ (length earlier ≤ now.content.steps)
        → now.content.steps ≡ length earlier
    by (inl over) under = absurd (not_there t (λ (n : Counts now earlier).
        let e = counts_all now earlier n in omega (arith, e, over)))
    by (inr few) (inl under) = absurd (not_there t (λ (n : Counts now earlier).
        let e = counts_all now earlier n in omega (arith, e, under)))
    by (inr few) (inr many) = omega (arith, few, many)

-- ---- back

-- whatever an undo answers, the history is one
pub shorter : {E : Type 0} (r : Result (Unit {0}) E) (h new : Past StepKind Place)
    → StepsBack h r new → All (KeepsGround h.now) h.earlier → ∥ IsShown h ∥₁ → ∥ IsShown new ∥₁
shorter (Ok done) h new back g i =
    let s = ground_before h back.0 new.now new.earlier back.1 g in
    ∥∥₁_map i (λ (shown : IsShown h).
    let led = (subst (λ (l : List (StepKind × Place)). LeadsTo (next (machine_over h.now.tables))
    (edited (machine_over h.now.tables)) (first_configuration h.now.tokens)
    (configuration_of h.now) (map step_view l)) back.1 shown).1 in
    let tables : LeadsTo (next (machine_over new.now.tables)) (edited (machine_over new.now.tables))
    (first_configuration h.now.tokens) (configuration_of new.now) (map step_view new.earlier) =
    subst (λ (t : Tables). LeadsTo (next (machine_over t)) (edited (machine_over t))
    (first_configuration h.now.tokens) (configuration_of new.now) (map step_view new.earlier))
    (sym s.0) led in
    subst (λ (l : List ℕ). LeadsTo (next (machine_over new.now.tables))
    (edited (machine_over new.now.tables)) (first_configuration l) (configuration_of new.now)
    (map step_view new.earlier)) (sym s.1) tables)
shorter (Err e) h new back g i = subst (λ (x : Past StepKind Place). ∥ IsShown x ∥₁) (sym back.1) i

-- contents on one ground have one setting
pub setting_same : (p q : Place) → p.tables ≡ q.tables → p.tokens ≡ q.tokens
    → setting_at p ≡ setting_at q
setting_same p q e f =
    ap (λ (t : Tables). setting_at (record p { tables = t })) e
    ∙ ap (λ (l : List ℕ). setting_at (record q { tokens = l })) f

-- whatever an undo answers, there is room
pub shorter_room : {E : Type 0} (r : Result (Unit {0}) E) (h new : Past StepKind Place)
    → StepsBack h r new → (later : Vec ℕ Global)
    → vec_len later + length h.earlier ≤ vec_capacity later
    → vec_len later + length new.earlier ≤ vec_capacity later
shorter_room (Ok done) h new back later r = let l = ap length back.1 in omega (arith, l, r)
shorter_room (Err e) h new back later r =
    subst (λ (x : Past StepKind Place). vec_len later + length x.earlier ≤ vec_capacity later)
    (sym back.1) r

-- where there is no newest step, there is no step
pub no_step : (earlier : List (StepKind × Place))
    → option_map (λ (step : StepKind × Place). step.0) (slice_get earlier 0) ≡ None
    → map step_view earlier ≡ []
no_step [] e = refl
no_step (step ∷ earlier) e = let bad : true ≡ false = ap is_some e in cc
