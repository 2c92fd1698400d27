use Rattle.std.proofs.Common.{ℕ, ◌≡◌, ◌≤◌, List, Option, Some, None, IfSome, length, take, refl}
use Rattle.std.proofs.Common.{sym}
use Rattle.std.proofs.lemmas.List.{take_all}
use Rattle.std.proofs.lemmas.Result.{IfOk-weaker}
use Rattle.yfolder.proofs.disk.first_bytes.Goals as goal

-- bytes up to a limit are the first of all bytes
up_to : (known : Option (List ℕ)) (most : ℕ) (bytes : List ℕ) → length bytes ≤ most
    → IfSome known (λ all. bytes ≡ take most all)
    → (all : List ℕ) × IfSome known (λ known. all ≡ known) × (bytes ≡ take most all)
up_to None most bytes few told = (bytes, tt, sym (take_all most bytes few))
up_to (Some all) most bytes few told = (all, refl, told)

pub returns-in-Some : goal.returns-in-Some
returns-in-Some g c =
    IfOk-weaker c.bytes_up_to.result _ _
    (λ bytes is. rw c.in-Some.is (up_to (g.R.Read.remaining c.args.reader) c.in-Some.most bytes.items is.0 is.1))
    c.bytes_up_to.ensures
