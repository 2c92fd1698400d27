use Rattle.std.proofs.Common.{◌≡◌, ◌∙◌, ◌+◌, ◌++◌, ℕ, List, ap, drop, subst, sym, take}
use Rattle.std.proofs.Common.{take-append-drop}
use Rattle.std.proofs.lemmas.List.{drop-drop, take_rest}
use Rattle.std.proofs.KnownBytes.{Keeps-trans, append_known-moved}
use Rattle.std.specs.Io.KnownBytes.{Appends}
use Rattle.ylink.specs.Link.{device_of}
use Rattle.ylink.proofs.buffered.Buffered.pass_on.Goals as goal

-- a list from a place on, in two parts
two_parts : (s n : ℕ) (bs : List ℕ) → drop s bs ≡ take n (drop s bs) ++ drop (s + n) bs
two_parts s n bs = sym (ap (λ (t : List ℕ). take n (drop s bs) ++ t) (sym (drop-drop n s bs))
    ∙ take-append-drop n (drop s bs))

pub loop-self-preserved : goal.loop-self-preserved
loop-self-preserved g c =
    let w = g.W.Write.contents in
    let s = c.loop-self.self.sent in
    let bs = c.loop-self.self.bytes.items in
    let n = c.in-Some.taken in
    let rest = take_rest c.deref.result.now s ∙ ap (drop s) c.deref.ensures.value in
    let taken : Appends (w (device_of c.loop-self.self.link)) (w (device_of c.write.new.self))
    (take n (drop s bs)) =
    subst (λ (t : List ℕ). Appends (w (device_of c.loop-self.self.link))
    (w (device_of c.write.new.self)) (take n t)) rest c.in-Some.ensures.bytes.1 in
    Keeps-trans _ _ _ c.loop-self.invariant
    (append_known-moved _ _ (take n (drop s bs)) (drop (s + n) bs) (drop s bs) taken
    (two_parts s n bs))
