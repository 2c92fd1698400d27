-- How a run ended.
use Rattle.std.proofs.Common.{ℕ, ◌≡◌, ◌∙◌, Bool, true, false, List, [], Option, refl, sym}
use Rattle.std.proofs.Common.{append-nil, if◌then◌else◌}
use Rattle.std.specs.Io.KnownBytes.{Keeps, Appends}
use Rattle.std.proofs.KnownBytes.{Appends-nil, Appends-kept}
use Rattle.ylink.specs.declared.link.Link.{Link}
use Rattle.ylink.specs.Link.{device_of, has_failed}
use Rattle.ylink.specs.Sends.{Sends}
use Rattle.ygenerate.specs.Programs.{Says}

module _ {E : Type 0} (contents : E → Option (List ℕ)) where
  -- nothing was said
  pub Says-nothing : (e : E) (errors : Link E) → device_of errors ≡ e → Says contents e errors []
  Says-nothing e errors same =
      let none : Appends (contents e) (contents (device_of errors)) [] = rw same
      (Appends-nil (contents e)) in record {
        begins = record { front = []; back = []; parts = refl; written = none };
        whole = λ fine. none;
      }

  -- a text was sent, and then the link was flushed
  pub Says-flushed : (a b c : Link E) (whole fine : Bool) (text : List ℕ) → Sends contents a b whole
      text → Keeps (contents (device_of b)) (contents (device_of c))
      → has_failed c ≡ (if fine then has_failed b else true) → Says contents (device_of a) c text
  Says-flushed a b c true fine text sent kept flag =
      let written : Appends (contents (device_of a)) (contents (device_of c)) text = Appends-kept _
      _ _ text sent.bytes kept in record {
        begins = record {
          front = text;
          back = [];
          parts = sym (append-nil text);
          written =
              written;
        };
        whole = λ unset. written;
      }
  Says-flushed a b c false fine text sent kept flag = record {
    begins = record {
      front = sent.bytes.front;
      back = sent.bytes.back;
      parts = sent.bytes.parts;
      written = Appends-kept _ _ _ sent.bytes.front sent.bytes.written kept;
    };
    whole = λ unset. let bad : false ≡ true = sym unset ∙ stays_failed c b fine sent.failed flag in
        cc;
  }
    where
      stays_failed : (c b : Link E) (fine : Bool) → has_failed b ≡ true → has_failed c ≡
          (if fine then has_failed b else true) → has_failed c ≡ true
      stays_failed c b true failed flag = flag ∙ failed
      stays_failed c b false failed flag = flag
