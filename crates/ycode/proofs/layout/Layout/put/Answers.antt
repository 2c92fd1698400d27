use Rattle.std.proofs.Common.{◌≡◌, ◌∙◌, Some, false, sym, ap, subst, arith}
use Rattle.std.proofs.lemmas.List.{get_or_read}
use Rattle.ysymbols.specs.Names.{find_in, is_among}
use Rattle.ycode.specs.Layout.{key_of}
use Rattle.ycode.specs.Packing.{IsEntered}
use Rattle.ycode.proofs.BitSteps.{not_found}
use Rattle.ycode.proofs.LayoutSteps.{known_place, known_entered, known_at, fresh_place}
use Rattle.ycode.proofs.layout.Layout.put.Goals as goal

pub index-requires : goal.index-requires
index-requires c =
    let l = c.args.self.now in
    let es = c.args.entries.now in
    let found : find_in l.known (key_of es) ≡ Some c.in-Some.k =
    ap (find_in l.known) (sym (c.deref.ensures.value ∙ c.in_ok-key.ensures)) ∙
    (sym c.find.ensures ∙ c.in-Some.is) in
    let k = known_place l c.requires es c.in-Some.k found in let n = l.places.ok.0 in
    omega (arith, k, n)

pub returns-in-Some-clause-entered : goal.returns-in-Some-clause-entered
returns-in-Some-clause-entered c =
    let l = c.args.self.now in
    let es = c.args.entries.now in
    let found : find_in l.known (key_of es) ≡ Some c.in-Some.k =
    ap (find_in l.known) (sym (c.deref.ensures.value ∙ c.in_ok-key.ensures)) ∙
    (sym c.find.ensures ∙ c.in-Some.is) in
    subst (IsEntered l.packing l.packing es)
    (sym (get_or_read l.places.items c.in-Some.k c.index.result.now
    (known_place l c.requires es c.in-Some.k found) c.index.ensures 0))
    (known_entered l c.requires es c.in-Some.k found)

pub returns-in-Some-clause-place : goal.returns-in-Some-clause-place
returns-in-Some-clause-place c =
    let l = c.args.self.now in
    let es = c.args.entries.now in
    let found : find_in l.known (key_of es) ≡ Some c.in-Some.k =
    ap (find_in l.known) (sym (c.deref.ensures.value ∙ c.in_ok-key.ensures)) ∙
    (sym c.find.ensures ∙ c.in-Some.is) in
    get_or_read l.places.items c.in-Some.k c.index.result.now
    (known_place l c.requires es c.in-Some.k found) c.index.ensures 0 ∙
    known_at l c.requires es c.in-Some.k found

pub returns-clause-place : goal.returns-clause-place
returns-clause-place c =
    let l = c.args.self.now in
    let es = c.args.entries.now in
    let fresh : is_among l.known (key_of es) ≡ false = not_found l.known (key_of es)
    (ap (find_in l.known) (sym (c.deref.ensures.value ∙ c.in_ok-key.ensures)) ∙
    (sym c.find.ensures ∙ c.in_default.is)) in
    fresh_place l c.add.new.self c.requires es c.in_ok-d.d fresh c.in_ok-d.ensures.exact
