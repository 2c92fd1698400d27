-- The numbers that are told of tokens, one after another.
use Rattle.std.proofs.Common.{ℕ, ◌+◌, ◌<◌, List, [], ◌∷◌, ◌++◌, length, slice_index}
use Rattle.std.proofs.Common.{sym, subst, below_more}
use Rattle.std.proofs.Math.ListN.{get_or-append}
use Rattle.std.proofs.Math.Seq.{get_or-append_seam}
use Rattle.ymachine.specs.History.{History}
use Rattle.ymachine.specs.Machine.{Machine}
use Rattle.yhandles.specs.Expected.{Tells}

-- the number of one token more
pub told_more : (m : Machine) (h : History) (numbers : List ℕ) (number : ℕ)
    → ((token : ℕ) → token < length numbers → Tells m h token (slice_index numbers token))
    → Tells m h (length numbers) number → (token : ℕ) → token < length numbers + 1
    → Tells m h token (slice_index (numbers ++ number ∷ []) token)
told_more m h numbers number each one =
    below_more (λ (token : ℕ). Tells m h token (slice_index (numbers ++ number ∷ []) token))
    (length numbers)
    (λ token below. subst (λ (n : ℕ). Tells m h token n)
    (sym (get_or-append numbers (number ∷ []) 0 token below)) (each token below))
    (subst (λ (n : ℕ). Tells m h (length numbers) n)
    (sym (get_or-append_seam numbers number [] 0)) one)
