use Rattle.std.proofs.Common.{ℕ, ◌≡◌, ◌∙◌, Some, false, sym, ap, subst}
use Rattle.std.proofs.Common.{arith}
use Rattle.ysymbols.specs.Names.{find_in, is_among}
use Rattle.ycode.specs.Bits.{SetsValue, AreBits, HasSet, KeepsSets, AreListed, and_set}
use Rattle.ycode.specs.Bits.{bytes_for, number_of}
use Rattle.ycode.proofs.BitSteps.{not_found, there_set, more_set}
use Rattle.ycode.proofs.BitSteps.{more_keeps}
use Rattle.ycode.proofs.BitSteps.{more_number, more_listed}
use Rattle.ycode.proofs.sets.Sets.put.Goals as goal

pub overflow_add-result : goal.overflow_add-result
overflow_add-result c =
    let s = c.args.self.now in
    let set = c.in_ok-set.set.items in
    let span : c.self.inside.span ≡ s.span = ap (λ (x : SetsValue). x.span) c.self.view_is in
    let bits : AreBits set 0 s.span c.args.members.now =
    subst (λ (k : ℕ). AreBits set 0 k c.args.members.now) span c.in_ok-set.ensures.bits in
    let found : find_in s.others set ≡ Some c.in-Some.n =
    ap (λ (x : SetsValue). find_in x.others set) (sym c.self.view_is) ∙
    (ap (find_in c.self.inside.others) (sym c.deref.ensures.value) ∙
    (sym c.find.ensures ∙ c.in-Some.is)) in
    let h = (there_set s set c.args.members.now c.requires bits c.in-Some.n found).number in
    let e : c.self.inside.count ≡ s.count = ap (λ (x : SetsValue). x.count) c.self.view_is in
    omega (arith, h, e)

pub returns-in-Some-clause-set : goal.returns-in-Some-clause-set
returns-in-Some-clause-set c =
    let s = c.args.self.now in
    let set = c.in_ok-set.set.items in
    let span : c.self.inside.span ≡ s.span = ap (λ (x : SetsValue). x.span) c.self.view_is in
    let bits : AreBits set 0 s.span c.args.members.now =
    subst (λ (k : ℕ). AreBits set 0 k c.args.members.now) span c.in_ok-set.ensures.bits in
    let found : find_in s.others set ≡ Some c.in-Some.n =
    ap (λ (x : SetsValue). find_in x.others set) (sym c.self.view_is) ∙
    (ap (find_in c.self.inside.others) (sym c.deref.ensures.value) ∙
    (sym c.find.ensures ∙ c.in-Some.is)) in
    there_set s set c.args.members.now c.requires bits c.in-Some.n found

pub returns-clause-set : goal.returns-clause-set
returns-clause-set c =
    let s = c.args.self.now in
    let set = c.in_ok-set.set.items in
    let members = c.args.members.now in
    let span : c.self.inside.span ≡ s.span = ap (λ (x : SetsValue). x.span) c.self.view_is in
    let bits : AreBits set 0 s.span members =
    subst (λ (k : ℕ). AreBits set 0 k members) span c.in_ok-set.ensures.bits in
    let fresh : is_among s.others set ≡ false = not_found s.others set
    (ap (λ (x : SetsValue). find_in x.others set) (sym c.self.view_is) ∙
    (ap (find_in c.self.inside.others) (sym c.deref.ensures.value) ∙
    (sym c.find.ensures ∙ c.in_default.is))) in
    let sets = c.in_ok-n.ensures.sets in
    let e : c.add.new.self ≡ and_set s set = c.in_ok-n.ensures.exact ∙
    ap (and_set s) c.deref-2.ensures.value in
    subst (λ (x : SetsValue). HasSet x c.in_ok-n.n members) (sym e)
    (subst (λ (k : ℕ). HasSet (and_set s set) k members) (sym c.in_ok-n.ensures.number)
    (more_set s set members c.requires bits sets fresh))

pub returns-clause-keeps : goal.returns-clause-keeps
returns-clause-keeps c =
    let s = c.args.self.now in
    let set = c.in_ok-set.set.items in
    let members = c.args.members.now in
    let span : c.self.inside.span ≡ s.span = ap (λ (x : SetsValue). x.span) c.self.view_is in
    let bits : AreBits set 0 s.span members =
    subst (λ (k : ℕ). AreBits set 0 k members) span c.in_ok-set.ensures.bits in
    let fresh : is_among s.others set ≡ false = not_found s.others set
    (ap (λ (x : SetsValue). find_in x.others set) (sym c.self.view_is) ∙
    (ap (find_in c.self.inside.others) (sym c.deref.ensures.value) ∙
    (sym c.find.ensures ∙ c.in_default.is))) in
    let sets = c.in_ok-n.ensures.sets in
    let e : c.add.new.self ≡ and_set s set = c.in_ok-n.ensures.exact ∙
    ap (and_set s) c.deref-2.ensures.value in
    subst (KeepsSets s) (sym e) (more_keeps s set members c.requires bits sets fresh)

pub returns-clause-listed : goal.returns-clause-listed
returns-clause-listed c =
    let s = c.args.self.now in
    let set = c.in_ok-set.set.items in
    let members = c.args.members.now in
    let span : c.self.inside.span ≡ s.span = ap (λ (x : SetsValue). x.span) c.self.view_is in
    let bits : AreBits set 0 s.span members =
    subst (λ (k : ℕ). AreBits set 0 k members) span c.in_ok-set.ensures.bits in
    let fresh : is_among s.others set ≡ false = not_found s.others set
    (ap (λ (x : SetsValue). find_in x.others set) (sym c.self.view_is) ∙
    (ap (find_in c.self.inside.others) (sym c.deref.ensures.value) ∙
    (sym c.find.ensures ∙ c.in_default.is))) in
    let sets = c.in_ok-n.ensures.sets in
    let e : c.add.new.self ≡ and_set s set = c.in_ok-n.ensures.exact ∙
    ap (and_set s) c.deref-2.ensures.value in
    subst AreListed (sym e) (more_listed s set members c.requires bits sets fresh)

pub returns-clause-number : goal.returns-clause-number
returns-clause-number c =
    let s = c.args.self.now in
    let set = c.in_ok-set.set.items in
    let members = c.args.members.now in
    let span : c.self.inside.span ≡ s.span = ap (λ (x : SetsValue). x.span) c.self.view_is in
    let bits : AreBits set 0 s.span members =
    subst (λ (k : ℕ). AreBits set 0 k members) span c.in_ok-set.ensures.bits in
    let fresh : is_among s.others set ≡ false = not_found s.others set
    (ap (λ (x : SetsValue). find_in x.others set) (sym c.self.view_is) ∙
    (ap (find_in c.self.inside.others) (sym c.deref.ensures.value) ∙
    (sym c.find.ensures ∙ c.in_default.is))) in
    let sets = c.in_ok-n.ensures.sets in
    let e : c.add.new.self ≡ and_set s set = c.in_ok-n.ensures.exact ∙
    ap (and_set s) c.deref-2.ensures.value in
    let same : bytes_for s.span members ≡ set = ap (λ (k : ℕ). bytes_for k members) (sym span) ∙
    sym c.in_ok-set.ensures.value in
    c.in_ok-n.ensures.number ∙ (more_number s set members c.requires bits sets fresh ∙
    (ap (λ (x : SetsValue). number_of x set) (sym e) ∙ ap (number_of c.add.new.self) (sym same)))
