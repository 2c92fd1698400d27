-- How replies join.
use Rattle.std.proofs.Common.{ℕ, suc, ◌≡◌, ◌++◌, Bool, true}
use Rattle.std.proofs.Common.{false, List, [], ◌∷◌, Option, Ok, Err, codes, if◌then◌else◌, refl}
use Rattle.std.proofs.Common.{sym, ap, subst, ◌∙◌, append-nil, append_assoc, is_some, Some, None}
use Rattle.std.proofs.Common.{length, get_or}
use Rattle.std.proofs.lemmas.List.{length-map}
use Rattle.std.proofs.Math.ListN.{get_or-map}
use Rattle.ymachine.specs.Unwinding.{tokens_left}
use Rattle.ymachine.specs.declared.machine.StepKind.{StepKind}
use Rattle.ymachine.specs.declared.machine.StepFault.{StepFault}
use Rattle.ystepper.specs.Command.{Command}
use Rattle.ystepper.specs.Command.{Show, Unknown}
use Rattle.ylink.specs.declared.link.Link.{Link}
use Rattle.std.specs.Io.KnownBytes.{Appends, Keeps}
use Rattle.std.proofs.KnownBytes.{Appends-nil, Appends-kept}
use Rattle.ylink.specs.Link.{device_of, has_failed}
use Rattle.ylink.specs.Sends.{Sends}
use Rattle.ylink.proofs.Sent.{Sends-then, Sends-stop, Sends-none, Sends-nothing}
use Rattle.ymachine.specs.Machine.{Machine, Configuration, next}
use Rattle.ymachine.specs.Past.{Steps, position, back_by, back_from}
use Rattle.ymachine.specs.History.{History}
use Rattle.ystepper.specs.Reply.{configuration_text, Reply, Answers, Runs, refusal}
use Rattle.ystepper.specs.Reply.{undo_text}
use Rattle.ystepper.specs.Reply.{step_line}

module _ {W : Type 0} (contents : W → Option (List ℕ)) where
  -- a reply of which all or a beginning was sent
  pub answered : (old new : Link W) (whole : Bool) (m : Machine) (h now : History)
      (command : Command) (text : List ℕ) → Reply m h command text now
      → Sends contents old new whole text → Answers contents old new whole m h command now
  answered old new true m h now command text r s = (text, r, s)
  answered old new false m h now command text r s = (text, now, r, s)

  -- the configuration now was shown, or an unknown command was answered
  pub told_show : (old new : Link W) (whole : Bool) (m : Machine) (h : History)
      → Sends contents old new whole (configuration_text m h) → Answers contents old new whole m h
      Show h
  told_show old new whole m h s = answered old new whole m h h Show (configuration_text m h)
      (refl, refl) s

  pub told_unknown : (old new : Link W) (whole : Bool) (m : Machine) (h : History)
      → Sends contents old new whole (codes "unknown command\n")
      → Answers contents old new whole m h Unknown h
  told_unknown old new whole m h s =
      answered old new whole m h h Unknown (codes "unknown command\n") (refl, refl) s

-- a beginning of a text was sent, and this is the rest of it
pub record Front {W : Type 0} (contents : W → Option (List ℕ)) (a b : Link W) (whole left : List ℕ)
    : Type 0 where
  pub text : List ℕ
  pub sent : Sends contents a b true text
  pub parts : whole ≡ text ++ left

-- lines of a reply were sent, and each text of the remaining lines completes it
pub record Replied {W : Type 0} (contents : W → Option (List ℕ)) (a b : Link W) (m : Machine)
    (h : History) (command : Command) (Left : List ℕ → History → Type 0) : Type 0 where
  pub text : List ℕ
  pub sent : Sends contents a b true text
  pub completes : (more : List ℕ) (new : History) → Left more new
      → Reply m h command (text ++ more) new

module _ {W : Type 0} (contents : W → Option (List ℕ)) where
  -- ---- a text in pieces

  pub front_none : (a : Link W) (text : List ℕ) → Front contents a a text text
  front_none a text = record { text = []; sent = Sends-nothing contents a; parts = refl }

  pub front_then : (a b c : Link W) (whole s t : List ℕ) → Front contents a b whole (s ++ t)
      → Sends contents b c true s → Front contents a c whole t
  front_then a b c whole s t f p = record {
    text = f.text ++ s;
    sent = Sends-then contents a b c true f.text s f.sent p;
    parts = f.parts ∙ sym (append_assoc f.text s t);
  }

  pub front_cut : {X : Type 0} (a b c : Link W) (o : Option X) (whole s t : List ℕ)
      → Front contents a b whole (s ++ t) → Sends contents b c false s → o ≡ None
      → Sends contents a c (is_some o) whole
  front_cut a b c o whole s t f p none =
      let sent = Sends-then contents a b c false f.text (s ++ t) f.sent
      (Sends-stop contents b c s t p) in
      Sends-none contents a c o whole none
      (subst (λ (l : List ℕ). Sends contents a c false l) (sym f.parts) sent)

  -- ---- a reply of many lines

  -- nothing was sent yet
  pub replied_none : (a : Link W) (m : Machine) (h : History) (command : Command)
      (Left : ℕ → List ℕ → History → Type 0) (k n : ℕ) → k ≡ n
      → ((more : List ℕ) (new : History) → Left n more new → Reply m h command more new)
      → Replied contents a a m h command (Left k)
  replied_none a m h command Left k n e f = record {
    text = [];
    sent = Sends-nothing contents a;
    completes = λ more new l. f more new (subst (λ (j : ℕ). Left j more new) e l);
  }

  -- one more line of a step or an undo
  pub replied_line : (a b c : Link W) (m x : Machine) (h mid : History) (command : Command)
      (Left Later : List ℕ → History → Type 0) (between : List ℕ) (kind : StepKind)
      → Replied contents a b m h command Left → x ≡ m
      → Sends contents b c true (step_line x (position mid) between kind)
      → ((more : List ℕ) (new : History) → Later more new
      → Left (step_line m (position mid) between kind ++ more) new)
      → Replied contents a c m h command Later
  replied_line a b c m x h mid command Left Later between kind r e s f =
      let line : List ℕ = step_line m (position mid) between kind in
      let added = subst (λ (y : Machine). Sends contents b c true
      (step_line y (position mid) between kind)) e s in record {
        text = r.text ++ line;
        sent = Sends-then contents a b c true r.text line r.sent added;
        completes = λ more new l. subst (λ (t : List ℕ). Reply m h command t new)
            (sym (append_assoc r.text line more)) (r.completes (line ++ more) new (f more new l));
      }

  -- a line of a step or an undo was cut
  pub replied_cut : {X : Type 0} (a b c : Link W) (o : Option X) (m x : Machine)
      (h mid left now : History) (command : Command) (Left : List ℕ → History → Type 0)
      (between : List ℕ) (kind : StepKind) (more : List ℕ)
      → Replied contents a b m h command Left → x ≡ m
      → Sends contents b c false (step_line x (position mid) between kind) → o ≡ None
      → Left (step_line m (position mid) between kind ++ more) left
      → Answers contents a c (is_some o) m h command now
  replied_cut a b c None m x h mid left now command Left between kind more r e s none l =
      let line : List ℕ = step_line m (position mid) between kind in
      let cut = subst (λ (y : Machine). Sends contents b c false
      (step_line y (position mid) between kind)) e s in (
        r.text ++ (line ++ more),
        left,
        r.completes (line ++ more) left l,
        Sends-then contents a b c false r.text (line ++ more) r.sent
            (Sends-stop contents b c line more cut),
      )
  replied_cut a b c (Some y) m x h mid left now command Left between kind more r e s none l = cc

  -- the rest was sent, or a beginning of it
  pub replied_last : (a b c : Link W) (whole : Bool) (m : Machine) (h now : History)
      (command : Command) (Left : List ℕ → History → Type 0) (more : List ℕ)
      → Replied contents a b m h command Left → Sends contents b c whole more → Left more now
      → Answers contents a c whole m h command now
  replied_last a b c whole m h now command Left more r s l =
      answered contents a c whole m h now command (r.text ++ more) (r.completes more now l)
      (Sends-then contents a b c whole r.text more r.sent s)

  -- nothing remains to be sent
  pub replied_all : (a b : Link W) (m : Machine) (h now : History) (command : Command)
      (Left : List ℕ → History → Type 0) → Replied contents a b m h command Left → Left [] now
      → Answers contents a b true m h command now
  replied_all a b m h now command Left r l = (
    r.text,
    subst (λ (t : List ℕ). Reply m h command t now) (append-nil r.text) (r.completes [] now l),
    r.sent,
  )

-- ---- undos

-- the lines of at most n undos, some having been made before or none
abbrev pub Undos : Machine → ℕ → Bool → History → List ℕ → History → Type 0
Undos m n made h text new = (text ≡ undo_text m n made h.earlier) × (new ≡ back_by n h)

-- an undo with its line, and then what comes later
pub undos_line : (m : Machine) (k n : ℕ) (made : Bool) (h new : History) (kind : StepKind)
    → k ≡ suc n → h.earlier ≡ (kind, new.now) ∷ new.earlier → (more : List ℕ) (last : History)
    → Undos m n true new more last
    → Undos m k made h (step_line m (position new) (codes " undo ") kind ++ more) last
undos_line m k n made h new kind e f more last (t, l) =
    let line : List ℕ = step_line m (position new) (codes " undo ") kind in
    subst (λ (j : ℕ). Undos m j made h (line ++ more) last) (sym e) (
      ap (λ (s : List ℕ). line ++ s) t ∙ sym (ap (undo_text m (suc n) made) f),
      l ∙ sym (ap (back_from (suc n) h.now) f),
    )

-- there is no step to undo
pub undos_none : (m : Machine) (k n : ℕ) (made b : Bool) (h new : History) → k ≡ suc n → made ≡ b
    → h.earlier ≡ [] → new ≡ h → Undos m k made h (if b then [] else codes "at start\n") new
undos_none m k n made b h new e g f same =
    subst (λ (j : ℕ). Undos m j made h (if b then [] else codes "at start\n") new) (sym e) (
      ap (λ (x : Bool). if x then [] else codes "at start\n") (sym g)
          ∙ sym (ap (undo_text m (suc n) made) f),
      same ∙ sym (undone-none n h f),
    )
  where
    undone-none : (n : ℕ) (h : History) → h.earlier ≡ [] → back_by (suc n) h ≡ h
    undone-none n h e = ap (back_from (suc n) h.now) e
        ∙ ap (λ (p : List (StepKind × Configuration)). let x : History = record {
          now = h.now;
          earlier = p;
        } in x) (sym e)

-- no more undos are to be made
pub undos_off : (m : Machine) (k : ℕ) (made : Bool) (h : History) → k ≡ 0 → Undos m k made h [] h
undos_off m k made h e = subst (λ (j : ℕ). Undos m j made h [] h) (sym e) (refl, refl)

-- ---- steps

-- a step with its line, and then what comes later
pub runs_line : (m x : Machine) (k n : ℕ) (made : Bool) (h mid : History) (kind : StepKind)
    → k ≡ suc n → x ≡ m → Steps (next x) h (Ok kind) mid → (more : List ℕ) (new : History)
    → Runs m n true mid more new
    → Runs m k made h (step_line m (position mid) (codes " ") kind ++ more) new
runs_line m x k n made h mid kind e f s more new r =
    subst (λ (j : ℕ). Runs m j made h (step_line m (position mid) (codes " ") kind ++ more) new)
    (sym e) (
      Ok kind,
      mid,
      subst (λ (y : Machine). Steps (next y) h (Ok kind) mid) f s,
      (more, refl, r),
    )

-- a step that is refused ends it
pub runs_fault : (m x : Machine) (k n : ℕ) (made : Bool) (h mid : History) (fault : StepFault)
    → k ≡ suc n → x ≡ m → Steps (next x) h (Err fault) mid
    → Runs m k made h (refusal made fault) mid
runs_fault m x k n made h mid fault e f s =
    subst (λ (j : ℕ). Runs m j made h (refusal made fault) mid) (sym e) (
      Err fault,
      mid,
      subst (λ (y : Machine). Steps (next y) h (Err fault) mid) f s,
      (refl, refl),
    )

-- no more steps are to be made
pub runs_off : (m : Machine) (k : ℕ) (made : Bool) (h : History) → k ≡ 0 → Runs m k made h [] h
runs_off m k made h e = subst (λ (j : ℕ). Runs m j made h [] h) (sym e) (refl, refl)

module _ {W : Type 0} (contents : W → Option (List ℕ)) where
  -- a reply that was sent, and not flushed
  pub answered-unflushed : (a b c : Link W) (m : Machine) (h now : History) (command : Command)
      → Answers contents a b true m h command now
      → Keeps (contents (device_of b)) (contents (device_of c)) → has_failed c ≡ true
      → Answers contents a c false m h command now
  answered-unflushed a b c m h now command (text, r, s) k f = (
    text,
    now,
    r,
    record {
      bytes = record {
        front = text;
        back = [];
        parts =
            sym (append-nil text);
        written = Appends-kept _ _ _ text s.bytes k;
      };
      failed = f;
    },
  )

  -- nothing was sent, no link failed, and then a reply was sent
  pub answered-later : (a b c : Link W) (whole : Bool) (m : Machine) (h now : History)
      (command : Command) (text : List ℕ) → contents (device_of b) ≡ contents (device_of a)
      → has_failed a ≡ false → has_failed b ≡ false → Reply m h command text now
      → Sends contents b c whole text → Answers contents a c whole m h command now
  answered-later a b c whole m h now command text same unset still r s =
      let none : Sends contents a b true [] = record {
        bytes = subst (λ (x : Option (List ℕ)). Appends (contents (device_of a)) x []) (sym same)
            (Appends-nil (contents (device_of a)));
        failed = still ∙ sym unset;
      } in
      answered contents a c whole m h now command text r
      (Sends-then contents a b c whole [] text none s)

-- ---- the upcoming tokens

-- the token at a place of those that a view shows
pub rest_at : (d now : Configuration) (token : ℕ × ℕ) (i : ℕ) → d ≡ now
    → token ≡ get_or d.rest i (0, 0) → token.0 ≡ get_or (tokens_left now.rest) i 0
rest_at d now token i e f =
    let first : ℕ × ℕ → ℕ = λ t. t.0 in
    ap first (f ∙ ap (λ (x : Configuration). get_or x.rest i (0, 0)) e)
    ∙ sym (get_or-map first now.rest i (0, 0))

pub rest_count : (d now : Configuration) (n : ℕ) → d ≡ now → n ≡ length d.rest
    → n ≡ length (tokens_left now.rest)
rest_count d now n e f =
    f ∙ ap (λ (x : Configuration). length x.rest) e ∙ sym (length-map now.rest (λ token. token.0))
