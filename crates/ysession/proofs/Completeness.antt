-- Where no cell has a choice, each rightmost derivation is found (Aho, Sethi and Ullman, 4.7).
use Rattle.std.proofs.Common.{ℕ, zero, suc, ◌≡◌, ◌<◌, ◌+◌, false, List, [], ◌∷◌, ◌++◌}
use Rattle.std.proofs.Common.{length, drop, reverse, get_or, refl, sym, ◌∙◌, ap, subst}
use Rattle.std.proofs.Common.{append_assoc}
use Rattle.std.proofs.Common.{arith, Some}
use Rattle.std.specs.List.{All}
use Rattle.std.proofs.lemmas.List.Elements.{All-tail}
use Rattle.std.proofs.lemmas.List.{reverse-reverse, map-append}
use Rattle.ysymbols.specs.Grammar.{ContextFree, left_of, body_of, IsToken, end_token, start_of}
use Rattle.ysymbols.specs.Forms.{last_of, IsRightmostRun}
use Rattle.ysymbols.specs.WellFormed.{WellFormed}
use Rattle.ymachine.specs.declared.machine.Mode.TheVariants as modes
use Rattle.ymachine.specs.declared.machine.StepKind.{StepKind}
use Rattle.ymachine.specs.declared.machine.StepKind.TheVariants as kinds
use Rattle.ymachine.specs.Machine.{Machine, Move, Shift, Reduce, Accept, Entry, Configuration}
use Rattle.ymachine.specs.Machine.{symbols, lookahead, without_last, width, next, next_in, step_by}
use Rattle.ymachine.specs.Machine.{shift_step, reduce_step}
use Rattle.ymachine.specs.History.{History, first_configuration}
use Rattle.ymachine.specs.Unwinding.{tokens_left, form_of, forms_of, forms_before, is_edit}
use Rattle.ymachine.specs.Cells.{Expects, IsSound}
use Rattle.ymachine.specs.Rightmost.{AreInput}
use Rattle.ymachine.proofs.Prefixes.{reverse_push}
use Rattle.ymachine.proofs.StepKinds.{symbols_without, without_last_append}
use Rattle.ymachine.proofs.Unwindings.{left_of_places, accepted_form}
use Rattle.ymachine.specs.Complete.{IsComplete}
use Rattle.ysession.specs.Verdict.{is_detect, IsQuiet}
use Rattle.ysession.specs.Sentences.{Derivations}
use Rattle.ysession.proofs.Laws.{SentenceLaw}
use Rattle.ysession.proofs.Yields.{cons_is}
use Rattle.ysession.proofs.Beginnings.{prefix_of}
use Rattle.ysession.proofs.Quiet.{history, quiet_first, quiet_on}
use Rattle.ysession.proofs.OneVerdict.{one_accepted}
use Rattle.ysession.proofs.Sentential.{Sent, begins, listed, replacements, sent_from_run}
use Rattle.ysession.proofs.Sentential.{sent_from_sentence, ahead, token_ahead}
use Rattle.ysession.proofs.Soundness.{accepted_forms}
use Rattle.ysession.proofs.Way.{Ready, ready_first, Wants, wants_shift, wants_reduce, wants_accept}
use Rattle.ysession.proofs.Way.{wants}

pub lookahead_is : (rest : List (ℕ × ℕ)) → lookahead rest ≡ ahead (tokens_left rest)
lookahead_is [] = refl
lookahead_is (t ∷ rest) = refl

-- the step that a cell says
next_at : (m : Machine) (c : Configuration) (a : Move) → c.mode ≡ modes.Running
    → m.cell (symbols c.stack) (lookahead c.rest) ≡ a → next m c ≡ Some (step_by m c a)
unfolding next
next_at m c a r h = ap (next_in m c) r ∙ ap (λ z. Some (step_by m c z)) h

module _ (g : ContextFree) (m : Machine) (w : WellFormed g) (s : IsSound g m)
    (f : IsComplete g m) where
  reduced_symbols : (c : Configuration) (r : ℕ) (below : List ℕ) → r < length g.rules
      → symbols c.stack ≡ reverse below ++ body_of g r
      → symbols (reduce_step m c r).1.stack ≡ reverse below ++ left_of g r ∷ []
  reduced_symbols c r below h e =
      let n : width m r ≡ length (body_of g r) = ap (λ z. length z.body) (s.rule r h) in
      map-append (λ (x : Entry). x.symbol) (without_last (width m r) c.stack) _
      ∙ (ap (λ z. z ++ (m.rule r).left ∷ []) (symbols_without (width m r) c.stack)
      ∙ (ap (λ z. without_last (width m r) z ++ (m.rule r).left ∷ []) e
      ∙ (ap (λ z. z ++ (m.rule r).left ∷ [])
      (without_last_append (reverse below) (body_of g r) (width m r) n)
      ∙ ap (λ z. reverse below ++ z.left ∷ []) (s.rule r h))))

  -- The configuration is on the way of the derivation.
  record OnWay {x : List ℕ} (d : Sent g x) (c : Configuration) : Type 0 where
    pub form : form_of c (tokens_left c.rest) ≡ x
    pub ready : Ready d (prefix_of c) (tokens_left c.rest)
    pub running : c.mode ≡ modes.Running
    pub tokens : All (IsToken g) (tokens_left c.rest)

  -- The next step goes on that way, or accepts at its end.
  data Onward {x : List ℕ} (d : Sent g x) (c : Configuration) : Type 0 where
    goes_on : (k : StepKind) (n : Configuration) (y : List ℕ) (b : Sent g y)
        → next m c ≡ Some (k, n) → is_edit k ≡ false → is_detect k ≡ false → OnWay b n
        → ((earlier : List (StepKind × Configuration))
        → listed d (forms_before (tokens_left c.rest) earlier)
        ≡ listed b (forms_before (tokens_left n.rest) ((k, c) ∷ earlier)))
        → replacements b + length n.rest < replacements d + length c.rest → Onward d c
    goes_out : (n : Configuration) → next m c ≡ Some (kinds.Accept, n)
        → n.mode ≡ modes.Accepted → tokens_left c.rest ≡ []
        → ((more : List (List ℕ)) → listed d more ≡ more) → Onward d c

  onward_shift : {x : List ℕ} (d : Sent g x) (c : Configuration) → OnWay d c → (t : ℕ)
      (rest : List ℕ) (rs : List (ℕ × ℕ)) → c.rest ≡ rs → tokens_left rs ≡ t ∷ rest
      → Expects g (prefix_of c) t → Ready d (t ∷ prefix_of c) rest → Onward d c
  onward_shift d c o t rest [] e i h r =
      absurd (let l : 0 ≡ suc (length rest) = ap length i in omega (arith, l))
  onward_shift {x = x} d c o t rest (p ∷ rs) e i h r =
      let j : p.0 ≡ t = ap (λ z. get_or z 0 0) i in
      let v : tokens_left rs ≡ rest = ap (drop 1) i in
      let a : lookahead c.rest ≡ t = ap lookahead e ∙ j in
      let k : IsToken g t = subst (IsToken g) (sym (lookahead_is c.rest) ∙ a)
      (token_ahead w (tokens_left c.rest) o.tokens) in
      let q : m.cell (symbols c.stack) t ≡ Shift = f.shift (symbols c.stack) t k h in
      let n1 : next m c ≡ Some (shift_step c (p ∷ rs)) =
      next_at m c Shift o.running (ap (m.cell (symbols c.stack)) a ∙ q)
      ∙ ap (λ z. Some (shift_step c z)) e in
      let st : symbols (shift_step c (p ∷ rs)).1.stack ≡ symbols c.stack ++ p.0 ∷ [] =
      map-append (λ (x : Entry). x.symbol) c.stack _ in
      let pre : prefix_of (shift_step c (p ∷ rs)).1 ≡ t ∷ prefix_of c =
      ap reverse st ∙ (reverse_push (symbols c.stack) p.0 ∙ ap (λ z. z ∷ prefix_of c) j) in
      goes_on (kinds.Shift p.0) (shift_step c (p ∷ rs)).1 x d n1 refl refl
      (record {
        form = ap (λ z. z ++ tokens_left rs) st
            ∙ (append_assoc (symbols c.stack) (p.0 ∷ []) (tokens_left rs)
            ∙ (ap (λ z. symbols c.stack ++ tokens_left z) (sym e) ∙ o.form));
        ready = subst (λ z. Ready d z (tokens_left rs)) (sym pre)
            (subst (Ready d (t ∷ prefix_of c)) (sym v) r);
        running = o.running;
        tokens = All-tail (IsToken g) p.0 (tokens_left rs)
            (subst (λ z. All (IsToken g) (tokens_left z)) e o.tokens);
      })
      (λ earlier. ap (λ z. listed d (forms_before (tokens_left z) earlier)) e)
      (let l : length c.rest ≡ suc (length rs) = ap length e in omega (arith, l))

  onward : {x : List ℕ} (d : Sent g x) (c : Configuration) → OnWay d c
      → Wants g d (prefix_of c) (tokens_left c.rest) → Onward d c
  onward d c o (wants_shift t rest e h r) = onward_shift d c o t rest c.rest refl e h r
  onward {x = x} d c o (wants_reduce r below z b h e i j q l a) =
      let y : symbols c.stack ≡ reverse below ++ body_of g r =
      sym (reverse-reverse (symbols c.stack)) ∙ i in
      let u : m.cell (symbols c.stack) (lookahead c.rest) ≡ Reduce r =
      ap (m.cell (symbols c.stack)) (lookahead_is c.rest)
      ∙ f.reduce (symbols c.stack) r (ahead (tokens_left c.rest)) e in
      let st = reduced_symbols c r below h y in
      let pre : prefix_of (reduce_step m c r).1 ≡ left_of g r ∷ below =
      ap reverse st ∙ (reverse_push (reverse below) (left_of g r)
      ∙ ap (λ k. left_of g r ∷ k) (reverse-reverse below)) in
      goes_on (kinds.Reduce r) (reduce_step m c r).1 z b (next_at m c (Reduce r) o.running u)
      refl refl
      (record {
        form = ap (λ k. k ++ tokens_left c.rest)
            (sym (reverse-reverse (symbols (reduce_step m c r).1.stack)) ∙ ap reverse pre)
            ∙ sym j;
        ready = subst (λ k. Ready b k (tokens_left c.rest)) (sym pre) q;
        running = o.running;
        tokens = o.tokens;
      })
      (λ earlier. l (forms_before (tokens_left c.rest) earlier)
      ∙ ap (λ k. listed b (k ∷ forms_before (tokens_left c.rest) earlier)) (sym o.form))
      (omega (arith, a))
  onward d c o (wants_accept e v l) =
      let a : lookahead c.rest ≡ end_token = lookahead_is c.rest ∙ ap ahead e in
      goes_out (step_by m c Accept).1
      (next_at m c Accept o.running (ap (m.cell (symbols c.stack)) a
      ∙ f.accept (symbols c.stack) end_token v)) refl e l

  module _ (tokens : List ℕ) (input : AreInput g tokens) where
    -- An accepted history without error steps, and the forms that it unwinds to after the first.
    record Reached (more : List (List ℕ)) : Type 0 where
      pub h : History
      pub run : IsQuiet m tokens h
      pub accepted : h.now.mode ≡ modes.Accepted
      pub forms : forms_before [] h.earlier ≡ more

    reaches : (fuel : ℕ) {x : List ℕ} (d : Sent g x) (c : Configuration)
        (earlier : List (StepKind × Configuration)) → OnWay d c
        → replacements d + length c.rest < fuel → IsQuiet m tokens (history c earlier)
        → Reached (listed d (forms_before (tokens_left c.rest) earlier))
    reaches zero d c earlier o l q = absurd (omega (arith, l))
    reaches (suc fuel) {x = y} d c earlier o l q =
        by (onward d c o (wants w d (prefix_of c) (tokens_left c.rest)
        (ap (λ z. z ++ tokens_left c.rest) (reverse-reverse (symbols c.stack)) ∙ o.form) o.ready))
        (λ n z b p oo ll qq. reaches fuel b n p oo ll qq)
      where
        by : Onward d c → ((n : Configuration) (z : List ℕ) (b : Sent g z)
            (p : List (StepKind × Configuration)) → OnWay b n
            → replacements b + length n.rest < fuel → IsQuiet m tokens (history n p)
            → Reached (listed b (forms_before (tokens_left n.rest) p)))
            → Reached (listed d (forms_before (tokens_left c.rest) earlier))
        by (goes_on k n z b e u x oo li le) rec =
            subst Reached (sym (li earlier)) (rec n z b ((k, c) ∷ earlier) oo (omega (arith, le, l))
            (quiet_on c earlier k n e u x q))
        by (goes_out n e a none li) rec = record {
          h = history n ((kinds.Accept, c) ∷ earlier);
          run = quiet_on c earlier kinds.Accept n e refl refl q;
          accepted = a;
          forms = ap (λ z. forms_before z earlier) (sym none)
              ∙ sym (li (forms_before (tokens_left c.rest) earlier));
        }

    here : tokens_left (first_configuration tokens).rest ≡ tokens
    here = left_of_places 1 tokens

    on_way_first : (d : Sent g tokens) → OnWay d (first_configuration tokens)
    on_way_first d = record {
      form = here;
      ready = subst (Ready d []) (sym here) (ready_first w d input.0);
      running = refl;
      tokens = subst (All (IsToken g)) (sym here) input.0;
    }

    from_sent : (d : Sent g tokens) → Reached (listed d [])
    from_sent d =
        reaches (suc (replacements d + length (first_configuration tokens).rest)) d
        (first_configuration tokens) [] (on_way_first d) (omega arith) (quiet_first m tokens)

    -- each rightmost derivation is that of an accepted history
    finds : (more : List (List ℕ)) → IsRightmostRun g (start_of g ∷ []) more
        → last_of (start_of g ∷ []) more ≡ tokens → Reached more
    finds more h e =
        let d : (b : Sent g tokens) × (listed b [] ≡ more) =
        subst (λ v. (b : Sent g v) × (listed b [] ≡ more)) e
        (sent_from_run (start_of g ∷ []) more (begins refl) h) in
        subst Reached d.1 (from_sent d.0)

    forms_are : (form : List ℕ) (more : List (List ℕ)) (k : Reached more)
        → form ≡ start_of g ∷ [] → form ∷ more ≡ forms_of k.h
    forms_are form more k e =
        sym (cons_is (form_of k.h.now []) form (forms_before [] k.h.earlier) more
        (accepted_form g m w s tokens k.h input k.run.history k.accepted ∙ sym e) k.forms)

    -- so it is the one of any accepted history
    one_derivation : {first : List (List ℕ)} (r : Reached first) (other : List (List ℕ))
        → Derivations g tokens other → other ≡ forms_of r.h
    one_derivation r [] d = absurd d
    one_derivation r (form ∷ more) d =
        let k = finds more (subst (λ z. IsRightmostRun g z more) d.0 d.1)
        (ap (λ z. last_of z more) (sym d.0) ∙ d.2) in
        forms_are form more k d.0
        ∙ ap forms_of (one_accepted m tokens k.h r.h k.run r.run k.accepted r.accepted)

-- a sentence has one rightmost derivation, and is accepted at the position that it tells
pub sentence : SentenceLaw
sentence g m w s f tokens a h =
    let d = sent_from_sentence h in
    let r = from_sent g m w s f tokens a d in
    let z = accepted_forms g m w s tokens a r.h r.run r.accepted in (
      forms_of r.h,
      z.0,
      one_derivation g m w s f tokens a r,
      λ l. record { h = r.h; run = r.run; accepted = r.accepted; at = z.1; small = l },
    )
