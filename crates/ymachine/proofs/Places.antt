-- What a step of a parse in place rests on, and what it shows.
use Rattle.std.proofs.Common.{◌≡◌, true, false}
use Rattle.std.proofs.Common.{IsTrue, Option, Some, None, refl, sym, ◌∙◌, ap}
use Rattle.std.proofs.Common.{subst}
use Rattle.std.specs.Prelude.{is_some, unwrap_or}
use Rattle.std.specs.Option.{option_map}
use Rattle.ymachine.specs.declared.machine.Deed.{Deed}
use Rattle.ymachine.specs.declared.machine.Deed.TheVariants as deeds
use Rattle.ymachine.specs.declared.machine.Edit.{Edit}
use Rattle.ymachine.specs.declared.machine.StepKind.{StepKind}
use Rattle.ymachine.specs.Machine.{Configuration, next, edited}
use Rattle.ymachine.specs.MachineOver.{machine_over}
use Rattle.ymachine.specs.Sound.{Sound}
use Rattle.ymachine.specs.Content.{Place, kind_in, place_after}
use Rattle.ymachine.specs.Content.{place_next, place_edited, place_deed, edit_kind}
use Rattle.ymachine.specs.Content.{configuration_of, valid}
use Rattle.ymachine.specs.Shown.{KeepsGround, step_view, GoesByMachine}
use Rattle.ymachine.specs.Ahead.{LeadsOn}
use Rattle.ymachine.proofs.Facts.{facts, is_valid}
use Rattle.ymachine.proofs.Moves.{Leads, moves, halts, changes, unchanged, unmoving}

abbrev pub KindIs : Place → Option StepKind → Type 0
KindIs p kind = kind_in p.tables p.tokens p.content p.content.mode ≡ kind

-- what the machine leads to, as a content
abbrev pub onward : Place → Option (StepKind × Configuration) → Option (StepKind × Place)
onward p found = option_map (λ (step : StepKind × Configuration). let pair : StepKind × Place =
    (step.0, place_after step.0 p) in pair) found

pub halted : (p : Place) → Sound p.tables → IsTrue (valid p) → KindIs p None → place_next p ≡ None
halted p s v e = ap (onward p) (halts p s (facts p v) e)

-- nor can an edit be made there
pub halted_edit : (p : Place) (edit : Edit) → Sound p.tables → IsTrue (valid p) → KindIs p None
    → place_edited edit p ≡ None
halted_edit p edit s v e = ap (onward p) (unmoving p s (facts p v) edit e)

reached : (p : Place) (found : Option (StepKind × Configuration)) (kind : StepKind)
    → IsTrue (valid p) → Leads p found kind → LeadsOn p (onward p found) kind
reached p found kind v m = record {
  next = ap (onward p) m.follows;
  back = m.back;
  fits = subst (λ (q : Place). IsTrue (valid q)) (sym m.back) v;
  valid = is_valid (place_after kind p) m.facts;
}

pub advanced : (p : Place) (kind : StepKind) → Sound p.tables → IsTrue (valid p)
    → KindIs p (Some kind) → LeadsOn p (place_next p) kind
advanced p kind s v e =
    reached p (next (machine_over p.tables) (configuration_of p)) kind v
    (moves p s (facts p v) kind e)

-- the same of an edit, which has a kind where a step follows
pub changed : (p : Place) (edit : Edit) (kind found : StepKind) → Sound p.tables → IsTrue (valid p)
    → KindIs p (Some kind) → edit_kind p.tables p.tokens p.content edit ≡ Some found
    → LeadsOn p (place_edited edit p) found
changed p edit kind found s v e h =
    reached p (edited (machine_over p.tables) edit (configuration_of p)) found v
    (changes p s (facts p v) kind e edit found h)

pub refused : (p : Place) (edit : Edit) (kind : StepKind) → Sound p.tables → IsTrue (valid p)
    → KindIs p (Some kind) → edit_kind p.tables p.tokens p.content edit ≡ None
    → place_edited edit p ≡ None
refused p edit kind s v e h = ap (onward p) (unchanged p s (facts p v) kind e edit h)

-- two accounts of one step
same_step : (p : Place) (kind j : StepKind) (after : Configuration)
    (found : Option (StepKind × Configuration)) → found ≡ Some (kind, after)
    → found ≡ Some (j, configuration_of (place_after j p)) → after ≡ configuration_of
    (place_after kind p)
same_step p kind j after found e f =
    let x : (kind, after) ≡ (j, configuration_of (place_after j p)) =
    ap (λ (o : Option (StepKind × Configuration)). unwrap_or o (kind, after)) (sym e ∙ f) in
    ap (λ (step : StepKind × Configuration). step.1) x
    ∙ ap (λ (k : StepKind). configuration_of (place_after k p))
    (sym (ap (λ (step : StepKind × Configuration). step.0) x))

-- a step of a content shows the machine's step
pub step_reaches : (p : Place) (kind : StepKind) (after : Configuration) → Sound p.tables
    → IsTrue (valid p) → next (machine_over p.tables) (configuration_of p) ≡ Some (kind, after)
    → after ≡ configuration_of (place_after kind p)
step_reaches p kind after s v e = by (kind_in p.tables p.tokens p.content p.content.mode) refl
  where
    by : (k : Option StepKind) → KindIs p k → after ≡ configuration_of (place_after kind p)
    by None h = let bad : false ≡ true =
        sym (ap is_some (halts p s (facts p v) h)) ∙ ap is_some e in cc
    by (Some j) h = same_step p kind j after _ e (moves p s (facts p v) j h).follows

-- an edit of a content shows the machine's edit
pub edit_reaches : (p : Place) (edit : Edit) (kind : StepKind) (after : Configuration)
    → Sound p.tables → IsTrue (valid p)
    → edited (machine_over p.tables) edit (configuration_of p) ≡ Some (kind, after)
    → after ≡ configuration_of (place_after kind p)
edit_reaches p edit kind after s v e = by (kind_in p.tables p.tokens p.content p.content.mode) refl
  where
    found : (j : StepKind) → KindIs p (Some j) → (k : Option StepKind)
        → edit_kind p.tables p.tokens p.content edit ≡ k → after ≡ configuration_of
        (place_after kind p)
    found j h None i = let bad : false ≡ true =
        sym (ap is_some (unchanged p s (facts p v) j h edit i)) ∙ ap is_some e in cc
    found j h (Some k) i =
        same_step p kind k after _ e (changes p s (facts p v) j h edit k i).follows

    by : (k : Option StepKind) → KindIs p k → after ≡ configuration_of (place_after kind p)
    by None h = let bad : false ≡ true =
        sym (ap is_some (unmoving p s (facts p v) edit h)) ∙ ap is_some e in cc
    by (Some j) h = found j h (edit_kind p.tables p.tokens p.content edit) refl

-- ---- by the machine of the tables

shown_alike : (p : Place) (found : Option (StepKind × Configuration))
    → ((kind : StepKind) (after : Configuration) → found ≡ Some (kind, after)
    → after ≡ configuration_of (place_after kind p)) → option_map step_view (onward p found) ≡ found
shown_alike p None h = refl
shown_alike p (Some step) h =
    ap (λ (c : Configuration). let o : Option (StepKind × Configuration) = Some (step.0, c) in
    o) (sym (h step.0 step.1 refl))

on_ground : (p : Place) (found : Option (StepKind × Configuration)) (kind : StepKind) (after : Place)
    → onward p found ≡ Some (kind, after) → KeepsGround p (kind, after)
on_ground p None kind after e = let bad : false ≡ true = ap is_some e in cc
on_ground p (Some step) kind after e =
    let same : place_after step.0 p ≡ after =
    ap (λ (o : Option (StepKind × Place)). (unwrap_or o (kind, p)).1) e in (
      ap (λ (q : Place). q.tables) (sym same),
      ap (λ (q : Place). q.tokens) (sym same),
    )

deed_on_ground : (p : Place) (deed : Deed) (kind : StepKind) (after : Place)
    → place_deed deed p ≡ Some (kind, after) → KeepsGround p (kind, after)
deed_on_ground p deeds.Step = on_ground p (next (machine_over p.tables) (configuration_of p))
deed_on_ground p (deeds.Edit edit) =
    on_ground p (edited (machine_over p.tables) edit (configuration_of p))

pub goes : (p : Place) → Sound p.tables → IsTrue (valid p) → GoesByMachine p
goes p s v = record {
  next = shown_alike p (next (machine_over p.tables) (configuration_of p))
      (λ kind after e. step_reaches p kind after s v e);
  edited = λ edit. shown_alike p (edited (machine_over p.tables) edit (configuration_of p))
      (λ kind after e. edit_reaches p edit kind after s v e);
  ground = deed_on_ground p;
}
