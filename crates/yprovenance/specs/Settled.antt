-- A cell by the rules in it and how they stand to its token.
use Rattle.std.specs.Prelude.{ℕ, ◌≡◌, Bool, List, map, if◌then◌else◌}
use Rattle.std.specs.List.{All}
use Rattle.ytables.specs.declared.class.Class.{Class}
use Rattle.ytables.specs.declared.class.Class.TheVariants.{Rest}
use Rattle.ytables.specs.Standing.{class_by}
use Rattle.yprovenance.specs.declared.settled.Rival.{Rival}

-- the rules of rivals
abbrev pub rivals_of : List Rival → List ℕ
rivals_of rivals = map (λ (r : Rival). r.rule) rivals

-- each rule has the class of its standing
abbrev pub HaveClasses : (ℕ → Class) → List Rival → Type 0
HaveClasses class rivals = All (λ (r : Rival). class r.rule ≡ class_by r.standing) rivals

-- the class of a rule that stands so, where the token can be shifted; where it can't, no two
-- precedences are compared
abbrev pub class_where : Bool → Rival → Class
class_where shifts r = if shifts then class_by r.standing else Rest

-- the classes of rules in a cell whose token can be shifted, or can't
abbrev pub HaveClassesWhere : Bool → (ℕ → Class) → List Rival → Type 0
HaveClassesWhere shifts class rivals =
    All (λ (r : Rival). class r.rule ≡ class_where shifts r) rivals
