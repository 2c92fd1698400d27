-- How steps and undos to a position join.
use Rattle.std.proofs.Common.{ℕ, suc, ◌≡◌, ◌-◌, ◌+◌, ◌<◌, List, [], Option, Some, Ok, Err}
use Rattle.std.proofs.Common.{refl, sym, subst, arith, ◌∙◌, ap}
use Prim.Native.Nat.{zero}
use Rattle.ymachine.specs.declared.machine.AtStart.{AtStart}
use Rattle.ymachine.specs.declared.machine.StepFault.{StepFault}
use Rattle.ymachine.specs.declared.machine.StepKind.{StepKind}
use Rattle.ymachine.specs.History.{History}
use Rattle.ymachine.specs.Machine.{Configuration, Machine, next}
use Rattle.ymachine.specs.Past.{Steps, Undoes, back_by, back_from}
use Rattle.yhandles.specs.Travel.{Ups}

-- whatever the steps that are left lead to, all of them lead to
abbrev pub Leads : Machine → ℕ → History → ℕ → History → Type 0
Leads m count first left now =
    (end : Option StepFault) (new : History) → Ups m left now end new → Ups m count first end new

-- a step was made
pub leads_on : (m by : Machine) (count i : ℕ) (first now mid : History) (kind : StepKind)
    → i < count → by ≡ m → Leads m count first (count - i) now → Steps (next by) now (Ok kind) mid
    → Leads m count first (count - (i + 1)) mid
leads_on m by count i first now mid kind below is leads steps end new ups =
    let same : suc (count - (i + 1)) ≡ count - i = omega (arith, below) in
    leads end new (subst (λ (n : ℕ). Ups m n now end new) same
    (Ok kind, mid, subst (λ (x : Machine). Steps (next x) now (Ok kind) mid) is steps, ups))

-- a step was refused
pub leads_off : (m by : Machine) (count i : ℕ) (first now mid : History) (fault : StepFault)
    → i < count → by ≡ m → Leads m count first (count - i) now → Steps (next by) now (Err fault) mid
    → Ups m count first (Some fault) mid
leads_off m by count i first now mid fault below is leads steps =
    let same : suc (count - (i + 1)) ≡ count - i = omega (arith, below) in
    leads (Some fault) mid (subst (λ (n : ℕ). Ups m n now (Some fault) mid) same (
      Err fault,
      mid,
      subst (λ (x : Machine). Steps (next x) now (Err fault) mid) is steps,
      (refl, refl),
    ))

-- an undo more
pub down_on : (n : ℕ) (h new : History) (kind : StepKind) → Undoes {E = AtStart} h (Ok kind) new
    → back_by (suc n) h ≡ back_by n new
down_on n h new kind undoes =
    ap (λ (earlier : List (StepKind × Configuration)). back_from (suc n) h.now earlier) undoes

-- nothing is left to undo
pub down_off : (n : ℕ) (h new : History) → h.earlier ≡ [] → new ≡ h → back_by n h ≡ new
down_off zero h new none same = sym same
down_off (suc n) h new none same =
    ap (λ (earlier : List (StepKind × Configuration)). back_from (suc n) h.now earlier) none
    ∙ (ap (λ (earlier : List (StepKind × Configuration)). record { now = h.now; earlier = earlier })
    (sym none) ∙ sym same)
