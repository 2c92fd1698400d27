use Rattle.std.proofs.Common.{ℕ, ◌≡◌, ◌≤◌, ◌<◌, ◌+◌, ◌-◌, length, slice_index_or, sym, ap, ◌∙◌}
use Rattle.std.proofs.Common.{arith}
use Rattle.std.proofs.lemmas.Grind.{common_steps}
use Rattle.ymachine.specs.Rest.{rest_in}
use Rattle.ymachine.proofs.Rests.{left_read}
use Rattle.ymachine.proofs.rest.left_at.Goals.{After-len-len}
use Rattle.ymachine.proofs.rest.left_at.Goals as goal

-- a token that wasn't inserted stands among those read
inside : (c : After-len-len) → c.len-len.result ≤ c.args.index
    → c.args.rest.now.at + (c.args.index - c.len-len.result) < length c.args.tokens.now
inside c behind =
    let l = c.len-len.ensures in
    let h : length c.args.rest.now.inserted.items ≤ c.args.index =
    grind (arith, common_steps, l, behind) in
    let read = (left_read c.args.tokens.now (rest_in c.args.rest.now) c.args.index h c.requires).0
    in
    grind (arith, common_steps, read, l)

pub overflow_add-at : goal.overflow_add-at
overflow_add-at c =
    let i = inside (goal.at.overflow_add-at c).After-len-len c.if-index-len.false in
    grind (arith, common_steps, i)

pub offset_bounds-tokens-at : goal.offset_bounds-tokens-at
offset_bounds-tokens-at c =
    let i = inside (goal.at.offset_bounds-tokens-at c).After-len-len c.if-index-len.false in
    grind (arith, common_steps, i)

pub bounds-tokens-at : goal.bounds-tokens-at
bounds-tokens-at c =
    let i = inside (goal.at.bounds-tokens-at c).After-len-len c.if-index-len.false in
    grind (arith, common_steps, i)

pub overflow_add-result : goal.overflow_add-result
overflow_add-result c =
    let i = inside (goal.at.overflow_add-result c).After-len-len c.if-index-len.false in
    grind (arith, common_steps, i)

pub returns : goal.returns
returns c =
    let l = c.len-len.ensures in
    let h : length c.args.rest.now.inserted.items ≤ c.args.index =
    grind (arith, common_steps, l, c.if-index-len.false) in
    let read = left_read c.args.tokens.now (rest_in c.args.rest.now) c.args.index h c.requires in
    let e : length c.args.rest.now.inserted.items ≡ c.len-len.result =
    grind (arith, common_steps, l) in
    sym (read.1 ∙ ap (λ (n : ℕ). let pair : ℕ × ℕ = (
      slice_index_or c.args.tokens.now (c.args.rest.now.at + (c.args.index - n)) 0,
      c.args.rest.now.at + (c.args.index - n) + 1,
    ) in pair) e)
