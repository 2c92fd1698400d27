use Rattle.std.proofs.Common.{ℕ, ◌≡◌, ◌∙◌, List, [], Option, ap, subst}
use Rattle.std.specs.Io.KnownBytes.{append_known}
use Rattle.ylink.specs.Buffered.{behind, held_by, written}
use Rattle.ylink.specs.Link.{device_of, has_failed}
use Rattle.ylink.specs.Sends.{Grows}
use Rattle.ylink.specs.declared.buffered.Buffered.{Buffered}
use Rattle.ygenerate.specs.Written.{text_of}
use Rattle.ygenerate.proofs.Written.{taken}
use Rattle.ygenerate.proofs.generate.send.Goals as goal

-- an empty buffer shows what its device has
shows_device : {W : Type 0} (contents : W → Option (List ℕ)) (it : Buffered W) (file : W)
    → behind it ≡ file → held_by it ≡ [] → written contents it ≡ append_known (contents file) []
shows_device {W} contents it file device empty =
    ap (λ (f : W). append_known (contents f) (held_by it)) device
    ∙ ap (λ (b : List ℕ). append_known (contents file) b) empty

pub returns : goal.returns
returns g c = λ u guides.
    let contents = g.W.Write.contents in
    let text = text_of c.args.tables.now u c.args.text in
    let drained = c.finish.ensures.bytes in
    let filled = written contents (device_of c.put_text-whole.new.link) in
    let whole = c.put_text-whole.result in
    let grown = subst (λ (b : Buffered g.row.W.Denot). Grows (written contents b) filled whole text)
    c.new-link.ensures.device (c.put_text-whole.ensures.text u guides) in
    taken (contents c.args.file) filled (contents (device_of c.finish.result)) whole
    (has_failed c.finish.result) text drained.rest
    (subst (λ (k : Option (List ℕ)). Grows k filled whole text)
    (shows_device contents c.over.result c.args.file c.over.ensures.device c.over.ensures.empty)
    grown)
    (λ cut. c.finish.ensures.failed (c.put_text-whole.ensures.failed ∙ cut)) drained.whole
    drained.front
