use Rattle.std.proofs.Common.{◌≡◌, ◌∙◌, ◌++◌, ◌∷◌, [], ℕ, List, Some, ap, false, length}
use Rattle.std.proofs.Common.{arith, subst, sym}
use Rattle.std.specs.HashMap.{UpdatesBy}
use Rattle.ysymbols.specs.Names.{Name, find_in, is_among}
use Rattle.ysymbols.specs.NameTexts.{texts_of}
use Rattle.ysymbols.proofs.NameSteps.{length_texts, numbered_more, texts_equal, texts_push}
use Rattle.ycode.proofs.lists.Lists.push.Goals as goal

pub invariant_of-self-in-Ok : goal.invariant_of-self-in-Ok
invariant_of-self-in-Ok c =
    let vs = c.self.inside.lists.items in
    let grown = ap texts_of c.in_ok-push.ensures.items
    ∙ texts_push vs c.in_ok-from_slice.field-0
    ∙ ap (λ (n : Name). texts_of vs ++ n ∷ []) c.in_ok-from_slice.ensures.items in
    let absent = subst (λ (ns : List Name). is_among ns c.args.list.now ≡ false)
    (sym c.self.view_is) c.requires in
    let counted : c.len-number.result ≡ length (texts_of vs) =
    omega (arith, c.len-number.ensures, c.self.inside.lists.ok.0, length_texts vs) in
    let updated = subst (λ (n : ℕ). UpdatesBy texts_equal (texts_equal c.in_ok-key.key)
    c.self.inside.numbers c.insert.new.self (Some n)) counted c.in-Ok.ensures.updates in
    λ q. numbered_more (texts_of vs) c.self.inside.numbers c.insert.new.self c.in_ok-key.key
    c.args.list.now c.in_ok-key.ensures.items c.self.invariant absent updated q
    ∙ sym (ap (λ (ns : List Name). find_in ns q) grown)
