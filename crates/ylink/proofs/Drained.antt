-- What a device has taken of a buffer that it leaves.
use Rattle.std.proofs.Common.{◌≡◌, ◌∙◌, ℕ, Bool, true, false, List, [], Option, Some, None}
use Rattle.std.proofs.Common.{◌≤◌, ◌∷◌, append-nil, arith, drop, length, refl, suc, zero, subst}
use Rattle.std.proofs.Common.{sym}
use Rattle.std.proofs.KnownBytes.{Keeps-refl, append_known-moved}
use Rattle.std.specs.Io.KnownBytes.{Appends, Keeps, append_known}
use Rattle.ylink.specs.declared.buffered.Buffered.{Buffered}
use Rattle.ylink.specs.declared.link.Link.{Link}
use Rattle.ylink.specs.Buffered.{Drains, behind, held_by, written}
use Rattle.ylink.specs.Link.{device_of, has_failed}
use Rattle.ylink.specs.Sends.{Sends}

nothing_held : (known : Option (List ℕ)) → Keeps (append_known known []) known
nothing_held None = tt
nothing_held (Some xs) = sym (append-nil xs)

-- past the end of a list nothing is left
pub drop_past : (n : ℕ) (xs : List ℕ) → length xs ≤ n → drop n xs ≡ []
drop_past zero [] h = refl
drop_past zero (x ∷ xs) h = absurd (omega arith)
drop_past (suc n) [] h = refl
drop_past (suc n) (x ∷ xs) h = drop_past n xs (omega arith)

module _ {W : Type 0} (contents : W → Option (List ℕ)) (it : Buffered W) where
  -- a call has failed: what is held is lost
  pub drains_lost : has_failed it.link ≡ true → Drains contents it (behind it) (has_failed it.link)
  drains_lost f = record {
    whole = λ e. (cc);
    rest = held_by it;
    front = Keeps-refl (written contents it);
  }

  -- nothing is held
  pub drains_nothing : held_by it ≡ [] → Drains contents it (behind it) (has_failed it.link)
  drains_nothing e = record {
    whole = λ f. subst (λ (t : List ℕ). Keeps (append_known (contents (behind it)) t)
        (contents (behind it))) (sym e) (nothing_held (contents (behind it)));
    rest = held_by it;
    front = Keeps-refl (written contents it);
  }

  -- what is held was sent, or a beginning of it
  pub drains_sent : (link : Link W) (whole : Bool) (text : List ℕ) → text ≡ held_by it →
      has_failed it.link ≡ false → Sends contents it.link link whole text →
      Drains contents it (device_of link) (has_failed link)
  drains_sent link true text e f s =
      let taken : Appends (contents (behind it)) (contents (device_of link)) (held_by it) =
      subst (λ (t : List ℕ). Appends (contents (behind it)) (contents (device_of link)) t) e s.bytes
      in record {
        whole = λ h. all (contents (behind it)) (contents (device_of link)) (held_by it) taken;
        rest = [];
        front = append_known-moved _ _ (held_by it) [] (held_by it) taken
            (sym (append-nil (held_by it)));
      }
    where
      all : (a b : Option (List ℕ)) (t : List ℕ) → Appends a b t → Keeps (append_known a t) b
      all None b t h = tt
      all (Some xs) None t h = absurd h
      all (Some xs) (Some ys) t h = h
  drains_sent link false text e f s = record {
    whole = λ h. (let g = s.failed in cc);
    rest = s.bytes.back;
    front = append_known-moved _ _ s.bytes.front s.bytes.back (held_by it) s.bytes.written
        (sym e ∙ s.bytes.parts);
  }
