-- A text that goes through a link: all of it, or a beginning where the link failed.
use Rattle.std.specs.Prelude.{ℕ, ◌≡◌, ◌++◌, Bool, true, false, List, Option, if◌then◌else◌}
use Rattle.std.specs.Io.KnownBytes.{Appends}
use Rattle.ylink.specs.declared.link.Link.{Link}
use Rattle.ylink.specs.Link.{device_of, has_failed}

-- the known bytes grow by a beginning of the text
pub record Begins (old new : Option (List ℕ)) (text : List ℕ) : Type 0 where
  pub front : List ℕ
  pub back : List ℕ
  pub parts : text ≡ front ++ back
  pub written : Appends old new front

-- the known bytes grow by the text, or else by a beginning of it
abbrev pub Grows : Option (List ℕ) → Option (List ℕ) → Bool → List ℕ → Type 0
Grows old new true text = Appends old new text
Grows old new false text = Begins old new text

-- A text went through a link: all of it, or a beginning of it exactly where the link failed.
pub record Sends {W : Type 0} (contents : W → Option (List ℕ)) (old new : Link W) (whole : Bool)
    (text : List ℕ) : Type 0 where
  pub bytes : Grows (contents (device_of old)) (contents (device_of new)) whole text
  pub failed : has_failed new ≡ (if whole then has_failed old else true)
