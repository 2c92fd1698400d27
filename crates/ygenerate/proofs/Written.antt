-- What a device took of a text that was written through a buffer.
use Rattle.std.proofs.Common.{ℕ, ◌≡◌, ◌++◌, ◌∙◌, Bool, true, false, not, List, [], Option, Some}
use Rattle.std.proofs.Common.{None}
use Rattle.std.proofs.Common.{ap, refl, sym, append_assoc, append-nil}
use Rattle.std.specs.Io.KnownBytes.{Keeps, append_known}
use Rattle.ylink.specs.Sends.{Grows}
use Rattle.ygenerate.specs.Written.{Takes}

-- a whole text went to a buffer, which was drained, all or in part
whole_taken : (xs ys text rest : List ℕ) (left : Option (List ℕ)) (failed : Bool)
    → ys ≡ (xs ++ []) ++ text → (failed ≡ false → Keeps (Some ys) left)
    → Keeps (Some ys) (append_known left rest) → Takes (Some xs) left failed text
whole_taken xs ys text rest None failed grown kept front = absurd front
whole_taken xs ys text rest (Some zs) failed grown kept front =
    let is : ys ≡ xs ++ text = grown ∙ ap (λ (l : List ℕ). l ++ text) (append-nil xs) in record {
      whole = λ fine. kept fine ∙ is;
      front = (rest, sym is ∙ sym front);
    }

-- a beginning of a text went to a buffer, which was drained in part
front_taken : (xs ys text rest : List ℕ) (left : Option (List ℕ)) (failed : Bool) (front back : List ℕ)
    → text ≡ front ++ back → ys ≡ (xs ++ []) ++ front → failed ≡ true
    → Keeps (Some ys) (append_known left rest) → Takes (Some xs) left failed text
front_taken xs ys text rest None failed front back parts grown is kept = absurd kept
front_taken xs ys text rest (Some zs) failed front back parts grown is kept =
    let held : xs ++ front ≡ zs ++ rest =
    ap (λ (l : List ℕ). l ++ front) (sym (append-nil xs)) ∙ sym grown ∙ sym kept in record {
      whole = λ fine. let bad : true ≡ false = sym is ∙ fine in cc;
      front = (
        rest ++ back,
        ap (λ (l : List ℕ). xs ++ l) parts ∙ sym (append_assoc xs front back)
            ∙ ap (λ (l : List ℕ). l ++ back) held ∙ append_assoc zs rest back,
      );
    }

-- what was written through a buffer, of what the device held before
pub taken : (held filled left : Option (List ℕ)) (whole failed : Bool) (text rest : List ℕ)
    → Grows (append_known held []) filled whole text → (not whole ≡ true → failed ≡ true)
    → (failed ≡ false → Keeps filled left) → Keeps filled (append_known left rest)
    → Takes held left failed text
taken None filled left whole failed text rest grown told kept front =
    record { whole = λ fine. tt; front = tt }
taken (Some xs) None left true failed text rest grown told kept front = absurd grown
taken (Some xs) None left false failed text rest grown told kept front = absurd grown.written
taken (Some xs) (Some ys) left true failed text rest grown told kept front =
    whole_taken xs ys text rest left failed grown kept front
taken (Some xs) (Some ys) left false failed text rest grown told kept front =
    front_taken xs ys text rest left failed grown.front grown.back grown.parts grown.written
    (told refl) front
