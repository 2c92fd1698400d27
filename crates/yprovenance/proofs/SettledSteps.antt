-- One more rival in a tally.
use Rattle.std.proofs.Common.{ℕ, ◌≡◌, ◌+◌, ◌<◌, ◌≤◌, Bool, List, [], ◌∷◌, ◌++◌, length}
use Rattle.std.proofs.Common.{take, get_or, refl, sym, ap, ◌∙◌, subst, arith, take_all, Option}
use Rattle.std.proofs.Common.{Some, None, is_some, if◌then◌else◌}
use Rattle.std.proofs.lemmas.List.{map_more}
use Rattle.ytables.specs.declared.class.Class.{Class}
use Rattle.ytables.specs.declared.class.Class.TheVariants.{Rest}
use Rattle.ytables.specs.declared.cell.Action.{Action}
use Rattle.ytables.specs.declared.cell.Tally.{Tally}
use Rattle.ytables.specs.Cell.{cell_of}
use Rattle.ytables.specs.Tally.{IsTally, tally_more, no_tally, settle}
use Rattle.ytables.proofs.TallySteps.{tally_push, settled_some, settled_none}
use Rattle.yprovenance.specs.declared.settled.Rival.{Rival}
use Rattle.ytables.specs.Standing.{class_by}
use Rattle.ytables.proofs.RowSteps.{tally_room}
use Rattle.yprovenance.specs.Settled.{rivals_of, HaveClasses, HaveClassesWhere, class_where}

-- the tally of the first n rivals
pub record IsTallyTo (shifts : Bool) (rivals : List Rival) (n : ℕ) (y : Tally) : Type 0 where
  pub rests : y.rests ≤ y.all
  pub kept : y.kept ≤ y.all
  pub all : y.all ≤ n
  pub tally : (class : ℕ → Class) → HaveClassesWhere shifts class rivals →
      IsTally class (rivals_of (take n rivals)) y

module _ (shifts : Bool) (rivals : List Rival) where
  pub tally_none : IsTallyTo shifts rivals 0 no_tally
  tally_none = record {
    rests = omega arith;
    kept = omega arith;
    all = omega arith;
    tally = λ class h. record {
      banned = refl;
      beaten = refl;
      rests = refl;
      kept = refl;
      first = refl;
      all = refl;
    };
  }

  pub tally_next : (n : ℕ) (d : Rival) (y : Tally) → n < length rivals →
      IsTallyTo shifts rivals n y → IsTallyTo shifts rivals (n + 1)
      (tally_more y (get_or rivals n d).rule (class_where shifts (get_or rivals n d)))
  tally_next n d y l t =
      let r = get_or rivals n d in
      let room = tally_room y r.rule n (class_where shifts r) t.rests t.kept t.all in
      record {
        rests = room.0;
        kept = room.1;
        all = room.2;
        tally = λ class h.
            subst (λ rs. IsTally class rs (tally_more y r.rule (class_where shifts r)))
            (sym (map_more (λ (r : Rival). r.rule) rivals n d l))
            (subst (λ k. IsTally class (rivals_of (take n rivals) ++ r.rule ∷ [])
            (tally_more y r.rule k)) (h n d l)
            (tally_push class (rivals_of (take n rivals)) y r.rule (t.tally class h)));
      }

  pub tally_whole : (n : ℕ) (y : Tally) → length rivals ≤ n → IsTallyTo shifts rivals n y →
      (class : ℕ → Class) → HaveClassesWhere shifts class rivals → IsTally class (rivals_of rivals) y
  tally_whole n y l t class h = subst (λ (rs : List Rival). IsTally class (rivals_of rs) y)
      (take_all n rivals l) (t.tally class h)

-- the cell of a tally of rivals
pub settled_is : (shift : Option Action) (rivals : List Rival) (y : Tally) (shifts : Bool) →
    shifts ≡ is_some shift → ((class : ℕ → Class) → HaveClassesWhere shifts class rivals →
    IsTally class (rivals_of rivals) y) → (class : ℕ → Class) → HaveClasses class rivals →
    settle y shift ≡ cell_of class shift (rivals_of rivals)
settled_is None rivals y shifts e t class h =
    settled_none class (rivals_of rivals) y (t (λ r. Rest)
    (λ n d l. ap (λ b. if b then class_by (get_or rivals n d).standing else Rest) (sym e)))
settled_is (Some a) rivals y shifts e t class h =
    settled_some class (rivals_of rivals) y a (t class
    (λ n d l. h n d l ∙ ap (λ b. if b then class_by (get_or rivals n d).standing else Rest)
    (sym e)))
