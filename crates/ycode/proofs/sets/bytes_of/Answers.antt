use Rattle.std.proofs.Common.{ℕ, ◌≡◌, ◌+◌, ◌*◌, ◌<◌, ◌∙◌, Bool, false, List, [], ◌∷◌, ◌++◌, length}
use Rattle.std.proofs.Common.{ap, sym, subst, All, slice_index_or, length-append}
use Rattle.std.proofs.lemmas.List.Elements.{All-push}
use Rattle.ycode.specs.Bits.{bit_of, byte_for}
use Rattle.ycode.proofs.ListSteps.{made_more}
use Rattle.ycode.proofs.BitSteps.{bits_pushed}
use Rattle.ycode.proofs.sets.bytes_of.Goals as goal

pub loop-k-preserved : goal.loop-k-preserved
loop-k-preserved c =
    let members = c.args.members.now in
    let k = c.loop-k.k in
    let old = c.loop-k.bytes.items in
    let new = c.push.new.self.items in
    let b = c.byte_of.result in
    let inv = c.loop-k.invariant in
    let e : new ≡ old ++ b ∷ [] = c.in_ok-push.ensures.items in
    let f : ℕ → Bool = λ (t : ℕ). slice_index_or members t false in
    record {
      len = ap length e ∙ (length-append old (b ∷ []) ∙ ap (λ (n : ℕ). n + 1) inv.len);
      bits = λ t l. ap (λ (x : List ℕ). bit_of x 0 t) e ∙
          bits_pushed old b k f inv.len inv.bits c.byte_of.ensures.bits t l;
      small = subst (All (λ (x : ℕ). x < 256)) (sym e)
          (All-push (λ (x : ℕ). x < 256) old b inv.small c.byte_of.ensures.small);
      value = made_more (λ (i : ℕ). byte_for members (8 * i)) old new k b e inv.value
          c.byte_of.ensures.value;
    }
