-- What a call answers of the session behind a handle.
use Rattle.std.specs.Prelude.{◌≡◌, Option, Some, None}
use Rattle.ysession.specs.declared.session.Session.{Session}

-- The session behind the handle answered, and left the one that is there now; or there was none,
-- and there is none.
abbrev pub Answers : {A : Type 0} → (Session → A → Session → Type 0) → Option Session → Option A
    → Option Session → Type 0
Answers call old (Some answer) new =
    (was : Session) × (is : Session) × (old ≡ Some was) × (new ≡ Some is) × call was answer is
Answers call old None new = (old ≡ None) × (new ≡ None)
