-- The run along names, as the function computes it, is the run along them.
use Rattle.std.proofs.Common.{◌≡◌, ◌≢◌, ℕ, suc, ◌+◌, ◌⊎◌, inl, inr, ℤ, Bool, true, false, List, [], ◌∷◌, ◌++◌, reverse, length, refl, sym, ap, ◌∙◌, subst, Option, Some, None, arith, lit≤}
use Rattle.std.specs.List.{All}
use Rattle.std.proofs.lemmas.List.{append_assoc, append-nil, reverse-reverse, reverse-append, map-append, length-map, length-reverse, length-append}
use Rattle.std.proofs.lemmas.List.Elements.{All-cons, All-head}
use Rattle.dfi_base.specs.Lives.{IsNext as IsNextLife, Ended}
use Rattle.dfi_base.specs.Grown.{IsGrown, AreFew}
use Rattle.dfi_base.proofs.FirstLives.{first_lives}
use Rattle.c_typed.specs.Typed.{Typed}
use Rattle.obj_mem.specs.declared.value.Value.{Value}
use Rattle.obj_mem.specs.declared.event.Event.{Event}
use Rattle.obj_mem.specs.declared.event.SrcAnswer.{SrcAnswer}
use Rattle.obj_mem.specs.declared.event.Stamp.{Stamp}
use Rattle.obj_mem.specs.declared.run.SrcRun.{SrcRun}
use Rattle.obj_mem.specs.declared.run.SrcEnd.{SrcEnd}
use Rattle.obj_mem.specs.Alive.{but_first}
use Rattle.obj_mem.specs.Valid.{answer_of}
use Rattle.src_law.specs.Acts.{a_value}
use Rattle.src_law.specs.Traces.{by}
use Rattle.src_law.specs.Program.{body, main_act}
use Rattle.src_law.specs.Starts.{opening}
use Rattle.src_law.specs.Runs.{IsHistory, HasReturned, HasTrapped, IsOver, IsNext, IsRunnable, Ends, IsRunAlong, IsRefusedAt, names_of, outputs_of, end_by, is_zero}
use Rattle.src_law.specs.tools.Reader.{source_reading}
use Rattle.src_law.specs.tools.Threads.{life_of, has_ended, generations, next_of, Ran, ran, refused, has_trapped, ended_by, end_of, or_cut, invalid_only, run_from, run_along}
use Rattle.src_law.specs.tools.ReaderLaws.{source_threads}
use Rattle.src_law.proofs.Places.{AnyFits, one_way}
use Rattle.src_law.proofs.Computing.{Told, told_next, next_told, told_ended, ended_told}
use Rattle.src_law.proofs.Whole.{histories_read, main_gone}
use Rattle.src_law.proofs.Memory.{go_back}
use Rattle.src_law.proofs.Calm.{Calm, calm_end, calm_trace, calm_no_zero}

module _ (t : Typed) (input : List ℤ) where
  abbrev Past : List Stamp → Type 0
  Past h = IsHistory t input h

  few_of : (h : List Stamp) → Past h → AreFew (source_threads t) h
  few_of h p = (main_gone t h p.result p.does).few

  grown_of : (h : List Stamp) → Past h → IsGrown (source_threads t) AnyFits 1 [] h
  grown_of h p = (main_gone t h p.result p.does).grown

  -- who is next in the traces, by the function, and back

  pub next_computed : (h : List Stamp) (n : ℕ) (e : Event) → Past h → IsNext t h n e → next_of (source_reading t) h n ≡ Some e
  next_computed h n e p next =
      let found = histories_read.next t input h n e p next in
      next_told (source_reading t) h n found.0 e (few_of h p) found.1

  trapped_is : (h : List Stamp) → HasTrapped h → has_trapped h ≡ true
  trapped_is [] trapped = absurd trapped
  trapped_is (s ∷ h) trapped = trapped

  is_trapped : (h : List Stamp) → has_trapped h ≡ true → HasTrapped h
  is_trapped [] trapped = cc
  is_trapped (s ∷ h) trapped = trapped

  not_both_ways : (b : Bool) → b ≡ true → b ≡ false → ⊥
  not_both_ways b yes_ no_ = cc

  computed_next : (h : List Stamp) (n : ℕ) (e : Event) → Past h → has_trapped h ≡ false → next_of (source_reading t) h n ≡ Some e → IsNext t h n e
  computed_next h n e p alive is =
      let told = told_next (source_reading t) h n e is in
      histories_read.going t input h n told.start e p told.next (going told)
    where
      going : Told (source_reading t) h n e → IsOver t h → ⊥
      going told (inl back) =
          first_lives (source_threads t) AnyFits (one_way (source_reading t)) 1 [] h (grown_of h p) (few_of h p) n told.start e told.next (histories_read.returned t input h back.0 p back.1).0
      going told (inr trapped) = not_both_ways (has_trapped h) (trapped_is h trapped) alive

  -- how it has ended

  ended_told_1 : (h : List Stamp) → Past h → Ended (source_threads t) h 1 → has_ended generations (source_reading t) h 1 ≡ true
  ended_told_1 h p over = ended_told (source_reading t) generations 0 h 1 (few_of h p) refl (lit≤ tt) over

  abbrev end_if : List Stamp → Bool → Bool → Option SrcEnd
  end_if h trapped ended = elim trapped [ true ↦ Some SrcEnd.Trap | false ↦ elim ended [ true ↦ ended_by (life_of (source_reading t) h 1) | false ↦ None ] ]

  end_trapped : (h : List Stamp) → has_trapped h ≡ true → end_of (source_reading t) h ≡ Some SrcEnd.Trap
  end_trapped h trapped = ap (λ b. end_if h b (has_ended generations (source_reading t) h 1)) trapped

  end_returned : (h : List Stamp) (v : Value) → Past h → has_trapped h ≡ false → HasReturned t h v → end_of (source_reading t) h ≡ Some (end_by v)
  end_returned h v p alive back =
      let found = histories_read.returned t input h v p back in
      ap (λ b. end_if h b (has_ended generations (source_reading t) h 1)) alive ∙ (ap (end_if h false) (ended_told_1 h p found.0) ∙ ap ended_by found.1)

  not_ended : (h : List Stamp) → Past h → ((v : Value) → HasReturned t h v → ⊥) → has_ended generations (source_reading t) h 1 ≡ false
  not_ended h p never = go (has_ended generations (source_reading t) h 1) refl
    where
      go : (b : Bool) → has_ended generations (source_reading t) h 1 ≡ b → b ≡ false
      go false is = refl
      go true is = (let back = histories_read.ended t input h p (told_ended (source_reading t) generations h 1 is) in absurd (never back.0 back.1))

  end_going : (h : List Stamp) → Past h → has_trapped h ≡ false → ((v : Value) → HasReturned t h v → ⊥) → end_of (source_reading t) h ≡ None
  end_going h p alive never = ap (λ b. end_if h b (has_ended generations (source_reading t) h 1)) alive ∙ ap (end_if h false) (not_ended h p never)

  -- where the run ends with all names used up
  pub record EndsHere (h : List Stamp) : Type 0 where
    pub end : SrcEnd
    pub is : end ≡ or_cut (end_of (source_reading t) h)
    pub ends : Ends t input h [] end
    -- it has ended, or nobody is next that is not told
    pub stopped : (end ≢ SrcEnd.Cut) ⊎ (has_trapped h ≡ false)

  ends_here : (h : List Stamp) → Past h → EndsHere h
  ends_here h p = go (has_trapped h) refl (has_ended generations (source_reading t) h 1) refl
    where
      go : (b : Bool) → has_trapped h ≡ b → (c : Bool) → has_ended generations (source_reading t) h 1 ≡ c → EndsHere h
      go true trapped c over = record { end = SrcEnd.Trap; is = sym (ap or_cut (end_trapped h trapped)); ends = Ends.traps (is_trapped h trapped); stopped = inl (λ same. cc) }
      go false alive true over =
          let back = histories_read.ended t input h p (told_ended (source_reading t) generations h 1 over) in
          record { end = end_by back.0; is = sym (ap or_cut (end_returned h back.0 p alive back.1)); ends = Ends.returns back.0 back.1; stopped = inr alive }
      go false alive false over =
          let never : (v : Value) → HasReturned t h v → ⊥ = λ v back. not_both_ways (has_ended generations (source_reading t) h 1) (ended_told_1 h p (histories_read.returned t input h v p back).0) over in
          record { end = SrcEnd.Cut; is = sym (ap or_cut (end_going h p alive never)); ends = Ends.is_cut (no_end never); stopped = inr alive }
        where
          no_end : ((v : Value) → HasReturned t h v → ⊥) → IsOver t h → ⊥
          no_end never (inl back) = never back.0 back.1
          no_end never (inr trapped) = not_both_ways (has_trapped h) (trapped_is h trapped) alive

  -- one more event
  pub one_more : (h : List Stamp) (n : ℕ) (e : Event) (a : SrcAnswer) → Past h → has_trapped h ≡ false → next_of (source_reading t) h n ≡ Some e → answer_of (h ++ opening t input) n e ≡ Some a → Past (by n e a ∷ h)
  unfolding IsGrown
  one_more h n e a p alive is answered =
      let told = told_next (source_reading t) h n e is in
      histories_read.traced t input (by n e a ∷ h)
      (record { start = told.start; want = e; next = told.next; fits = record { event = refl; answer = answered } }, histories_read.grown t input h p) (no_zeros h alive p.no_zero)
    where
      no_zeros : (g : List Stamp) → has_trapped g ≡ false → All (λ s. is_zero s.event ≡ false) (but_first g) → All (λ s. is_zero s.event ≡ false) g
      no_zeros [] none rest = rest
      no_zeros (s ∷ g) none rest = All-cons (λ s. is_zero s.event ≡ false) s g none rest

  -- Runs.

  abbrev pub run_by : List Stamp → SrcEnd → SrcRun
  run_by g e = record { events = reverse g; outputs = outputs_of (reverse g); end = e }

  pub data Shown (names : List ℕ) : Ran → Type 0 where
    shown_run : (g : List Stamp) (e : SrcEnd) → IsRunAlong t input names (run_by g e) → Shown names (ran g e)
    shown_refused : (k : ℕ) → IsRefusedAt t input names k → Shown names (refused k)

  abbrev named : List Stamp → List ℕ
  named h = names_of (reverse h)

  run_here : (h : List Stamp) → Past h → (e : EndsHere h) → IsRunAlong t input (named h) (run_by h e.end)
  run_here h p e = record {
    history = subst Past (sym (reverse-reverse h)) p;
    more = [];
    along = sym (append-nil (named h));
    ends = subst (λ z. Ends t input z [] e.end) (sym (reverse-reverse h)) e.ends;
    outputs = refl;
  }

  place_is : (h : List Stamp) → suc (length h) ≡ suc (length (named h))
  place_is h =
      let one : length (named h) ≡ length (reverse h) = length-map (reverse h) (λ s. s.name.0) in
      let two : length (reverse h) ≡ length h = length-reverse h in
      omega (arith, one, two)

  refused_here : (h : List Stamp) (n : ℕ) (ns : List ℕ) → Past h → ((has_trapped h ≡ true) ⊎ ((IsRunnable t h n → ⊥))) → IsRefusedAt t input (named h ++ n ∷ ns) (suc (length h))
  refused_here h n ns p why =
      let e = ends_here h p in
      record { before = named h; name = n; rest = ns; split = refl; place = place_is h; run = run_by h e.end; runs = run_here h p e; refused = reason e why }
    where
      reason : (e : EndsHere h) → (has_trapped h ≡ true) ⊎ (IsRunnable t h n → ⊥) → (e.end ≢ SrcEnd.Cut) ⊎ (IsRunnable t (reverse (reverse h)) n → ⊥)
      reason e (inr never) = inr (λ r. never (subst (λ z. IsRunnable t z n) (reverse-reverse h) r))
      reason e (inl trapped) = by_stop e.stopped
        where
          by_stop : (e.end ≢ SrcEnd.Cut) ⊎ (has_trapped h ≡ false) → (e.end ≢ SrcEnd.Cut) ⊎ (IsRunnable t (reverse (reverse h)) n → ⊥)
          by_stop (inl stop) = inl stop
          by_stop (inr alive) = absurd (not_both_ways (has_trapped h) trapped alive)

  pub wrong_run : (h : List Stamp) (n : ℕ) (e : Event) → Past h → IsNext t h n e → answer_of (h ++ opening t input) n e ≡ None → IsRunAlong t input (named h ++ n ∷ []) (run_by h SrcEnd.Invalid)
  wrong_run h n e p next none = record {
    history = subst Past (sym (reverse-reverse h)) p;
    more = n ∷ [];
    along = refl;
    ends = subst (λ z. Ends t input z (n ∷ []) SrcEnd.Invalid) (sym (reverse-reverse h)) (Ends.goes_wrong n e next none);
    outputs = refl;
  }

  shown_wrong : (h : List Stamp) (n : ℕ) (ns : List ℕ) (e : Event) → Past h → IsNext t h n e → answer_of (h ++ opening t input) n e ≡ None → Shown (named h ++ n ∷ ns) (invalid_only h ns)
  shown_wrong h n [] e p next none = shown_run h SrcEnd.Invalid (wrong_run h n e p next none)
  shown_wrong h n (m ∷ ms) e p next none =
      shown_refused (suc (suc (length h)))
      (record {
        before = named h ++ n ∷ [];
        name = m;
        rest = ms;
        split = sym (append_assoc (named h) (n ∷ []) (m ∷ ms));
        place = ap suc (place_is h ∙ longer (named h));
        run = run_by h SrcEnd.Invalid;
        runs = wrong_run h n e p next none;
        refused = inl (λ same. cc);
      })
    where
      longer : (ms : List ℕ) → suc (length ms) ≡ length (ms ++ n ∷ [])
      longer ms = (let is = length-append ms (n ∷ []) in omega (arith, is))

  names_more : (h : List Stamp) (x : Stamp) (ns : List ℕ) → named (x ∷ h) ++ ns ≡ named h ++ x.name.0 ∷ ns
  names_more h x ns =
      ap (λ z. names_of z ++ ns) (reverse-append (x ∷ []) h)
      ∙ (ap (λ z. z ++ ns) (map-append (λ s. s.name.0) (reverse h) (x ∷ [])) ∙ append_assoc (named h) (x.name.0 ∷ []) ns)

  pub sound : (h : List Stamp) (ns : List ℕ) → Past h → Shown (named h ++ ns) (run_from (source_reading t) (opening t input) h ns)
  unfolding run_from
  sound h [] p =
      let e = ends_here h p in
      subst (λ z. Shown (named h ++ []) (ran h z)) e.is (shown_run h e.end (subst (λ z. IsRunAlong t input z (run_by h e.end)) (sym (append-nil (named h))) (run_here h p e)))
  sound h (n ∷ ns) p = go (has_trapped h) refl (next_of (source_reading t) h n) refl (λ e a q. sound (by n e a ∷ h) ns q)
    where
      answered : (e : Event) → has_trapped h ≡ false → next_of (source_reading t) h n ≡ Some e → (o : Option SrcAnswer) → answer_of (h ++ opening t input) n e ≡ o
          → ((e : Event) (a : SrcAnswer) → Past (by n e a ∷ h) → Shown (named (by n e a ∷ h) ++ ns) (run_from (source_reading t) (opening t input) (by n e a ∷ h) ns))
          → Shown (named h ++ n ∷ ns) (elim o as (λ z. Ran) [ None ↦ invalid_only h ns | Some a ↦ run_from (source_reading t) (opening t input) (by n e a ∷ h) ns ])
      answered e alive is None none more = shown_wrong h n ns e p (computed_next h n e p alive is) none
      answered e alive is (Some a) some more =
          subst (λ z. Shown z (run_from (source_reading t) (opening t input) (by n e a ∷ h) ns)) (names_more h (by n e a) ns) (more e a (one_more h n e a p alive is some))

      never : next_of (source_reading t) h n ≡ None → IsRunnable t h n → ⊥
      never none r = (let some = next_computed h n r.0 p r.1 in cc)

      go : (b : Bool) → has_trapped h ≡ b → (o : Option Event) → next_of (source_reading t) h n ≡ o
          → ((e : Event) (a : SrcAnswer) → Past (by n e a ∷ h) → Shown (named (by n e a ∷ h) ++ ns) (run_from (source_reading t) (opening t input) (by n e a ∷ h) ns))
          → Shown (named h ++ n ∷ ns) (elim b as (λ z. Ran) [
            | true ↦ refused (suc (length h))
            | false ↦ elim o as (λ z. Ran) [
              | None ↦ refused (suc (length h))
              | Some e ↦ elim (answer_of (h ++ opening t input) n e) as (λ z. Ran) [ None ↦ invalid_only h ns | Some a ↦ run_from (source_reading t) (opening t input) (by n e a ∷ h) ns ]
            ]
          ])
      go true trapped o is more = shown_refused (suc (length h)) (refused_here h n ns p (inl trapped))
      go false alive None is more = shown_refused (suc (length h)) (refused_here h n ns p (inr (never is)))
      go false alive (Some e) is more = answered e alive is (answer_of (h ++ opening t input) n e) refl more

  -- Runs are found.

  returned_alive : (h : List Stamp) (v : Value) → HasReturned t h v → has_trapped h ≡ false
  returned_alive [] v back = refl
  returned_alive (s ∷ h) v back =
      calm_no_zero s.event
      (calm_end (reverse h) s (subst Calm (reverse-append (s ∷ []) h) (calm_trace (body t) 1 a_value (main_act t) (reverse (s ∷ h)) (Some v) v back refl)))

  pub going_alive : (h : List Stamp) → (IsOver t h → ⊥) → has_trapped h ≡ false
  going_alive h going = go (has_trapped h) refl
    where
      go : (b : Bool) → has_trapped h ≡ b → b ≡ false
      go false is = refl
      go true is = absurd (going (inr (is_trapped h is)))

  abbrev Found : List Stamp → List ℕ → Ran → Type 0
  Found h ns r = run_from (source_reading t) (opening t input) h ns ≡ r

  abbrev run_if : List Stamp → ℕ → List ℕ → Bool → Option Event → Ran
  run_if h n ns trapped next =
      elim trapped [
        | true ↦ refused (suc (length h))
        | false ↦ elim next [
          | None ↦ refused (suc (length h))
          | Some e ↦ elim (answer_of (h ++ opening t input) n e) [ None ↦ invalid_only h ns | Some a ↦ run_from (source_reading t) (opening t input) (by n e a ∷ h) ns ]
        ]
      ]

  abbrev answer_if : List Stamp → ℕ → List ℕ → Event → Option SrcAnswer → Ran
  answer_if h n ns e o = elim o [ None ↦ invalid_only h ns | Some a ↦ run_from (source_reading t) (opening t input) (by n e a ∷ h) ns ]

  step : (h : List Stamp) (n : ℕ) (ns : List ℕ) → run_from (source_reading t) (opening t input) h (n ∷ ns) ≡ run_if h n ns (has_trapped h) (next_of (source_reading t) h n)
  unfolding run_from
  step h n ns = refl

  last_step : (h : List Stamp) → run_from (source_reading t) (opening t input) h [] ≡ ran h (or_cut (end_of (source_reading t) h))
  unfolding run_from
  last_step h = refl

  no_zero_now : (s : Stamp) (h : List Stamp) → All (λ x. is_zero x.event ≡ false) h → has_trapped h ≡ false
  no_zero_now s [] none = refl
  no_zero_now s (x ∷ h) none = All-head (λ z. is_zero z.event ≡ false) x h none

  reach : (h : List Stamp) (more : List ℕ) → Past h → run_from (source_reading t) (opening t input) [] (named h ++ more) ≡ run_from (source_reading t) (opening t input) h more
  unfolding IsGrown
  reach [] more p = refl
  reach (x ∷ h) more p =
      let before = go_back t input (x ∷ []) h p in
      let g = (histories_read.grown t input (x ∷ h) p).0 in
      let event = g.fits.event in
      let next : next_of (source_reading t) h x.name.0 ≡ Some x.event = next_told (source_reading t) h x.name.0 g.start x.event (few_of h before) (subst (λ e. IsNextLife (source_threads t) h x.name.0 g.start e) event g.next) in
      ap (run_from (source_reading t) (opening t input) []) (names_more h x more)
      ∙ (reach h (x.name.0 ∷ more) before
      ∙ (step h x.name.0 more
      ∙ (ap (λ b. run_if h x.name.0 more b (next_of (source_reading t) h x.name.0)) (no_zero_now x h p.no_zero)
      ∙ (ap (run_if h x.name.0 more false) next ∙ ap (answer_if h x.name.0 more x.event) g.fits.answer))))

  ended_found : (h : List Stamp) (e : SrcEnd) → Past h → Ends t input h [] e → run_from (source_reading t) (opening t input) h [] ≡ ran h e
  ended_found h e p (Ends.returns v back) = last_step h ∙ ap (λ z. ran h (or_cut z)) (end_returned h v p (returned_alive h v back) back)
  ended_found h e p (Ends.traps trapped) = last_step h ∙ ap (λ z. ran h (or_cut z)) (end_trapped h (trapped_is h trapped))
  ended_found h e p (Ends.is_cut going) = last_step h ∙ ap (λ z. ran h (or_cut z)) (end_going h p (going_alive h going) (λ v back. going (inl (v, back))))

  wrong_found : (h : List Stamp) (n : ℕ) (ns : List ℕ) (e : Event) → Past h → IsNext t h n e → answer_of (h ++ opening t input) n e ≡ None
      → run_from (source_reading t) (opening t input) h (n ∷ ns) ≡ invalid_only h ns
  wrong_found h n ns e p next none =
      step h n ns
      ∙ (ap (λ b. run_if h n ns b (next_of (source_reading t) h n)) (going_alive h next.going)
      ∙ (ap (run_if h n ns false) (next_computed h n e p next) ∙ ap (answer_if h n ns e) none))

  none_found : (h : List Stamp) (n : ℕ) (ns : List ℕ) → Past h → (has_trapped h ≡ true) ⊎ (IsRunnable t h n → ⊥) → run_from (source_reading t) (opening t input) h (n ∷ ns) ≡ refused (suc (length h))
  none_found h n ns p why = step h n ns ∙ go (has_trapped h) refl (next_of (source_reading t) h n) refl
    where
      go : (b : Bool) → has_trapped h ≡ b → (o : Option Event) → next_of (source_reading t) h n ≡ o → run_if h n ns b o ≡ refused (suc (length h))
      go true trapped o is = refl
      go false alive None is = refl
      go false alive (Some e) is = absurd (by_reason why)
        where
          by_reason : (has_trapped h ≡ true) ⊎ (IsRunnable t h n → ⊥) → ⊥
          by_reason (inl trapped) = not_both_ways (has_trapped h) trapped alive
          by_reason (inr never) = never (e, computed_next h n e p alive is)

  pub run_found : (names : List ℕ) (r : SrcRun) → IsRunAlong t input names r → run_along (source_reading t) (opening t input) names ≡ ran (reverse r.events) r.end
  run_found names r run =
      ap (run_from (source_reading t) (opening t input) []) (run.along ∙ ap (λ z. names_of z ++ run.more) (sym (reverse-reverse r.events)))
      ∙ (reach (reverse r.events) run.more run.history ∙ by_end run.more r.end run.ends)
    where
      by_end : (more : List ℕ) (e : SrcEnd) → Ends t input (reverse r.events) more e → run_from (source_reading t) (opening t input) (reverse r.events) more ≡ ran (reverse r.events) e
      by_end more e (Ends.returns v back) = ended_found (reverse r.events) (end_by v) run.history (Ends.returns v back)
      by_end more e (Ends.traps trapped) = ended_found (reverse r.events) SrcEnd.Trap run.history (Ends.traps trapped)
      by_end more e (Ends.is_cut going) = ended_found (reverse r.events) SrcEnd.Cut run.history (Ends.is_cut going)
      by_end more e (Ends.goes_wrong n w next none) = wrong_found (reverse r.events) n [] w run.history next none

  pub refusal_found : (names : List ℕ) (k : ℕ) → IsRefusedAt t input names k → run_along (source_reading t) (opening t input) names ≡ refused k
  refusal_found names k f =
      let r = f.run in
      let g = reverse r.events in
      ap (run_from (source_reading t) (opening t input) [])
      (f.split ∙ (ap (λ z. z ++ f.name ∷ f.rest) (f.runs.along ∙ ap (λ z. names_of z ++ f.runs.more) (sym (reverse-reverse r.events))) ∙ append_assoc (named g) f.runs.more (f.name ∷ f.rest)))
      ∙ (reach g (f.runs.more ++ f.name ∷ f.rest) f.runs.history ∙ (by_end f.runs.more r.end f.runs.ends f.refused ∙ ap refused (place f.runs.more f.runs.along)))
    where
      -- the place of the refused name
      behind : List ℕ → ℕ
      behind more = suc (length more + length (reverse f.run.events))

      place : (more : List ℕ) → f.before ≡ names_of f.run.events ++ more → behind more ≡ k
      place more along =
          let one = ap length along in
          let two = length-append (names_of f.run.events) more in
          let three = length-map f.run.events (λ s. s.name.0) in
          let four = length-reverse f.run.events in
          let five = f.place in
          omega (arith, one, two, three, four, five)

      refused_by : (e : SrcEnd) → (e ≢ SrcEnd.Cut) ⊎ (IsRunnable t (reverse f.run.events) f.name → ⊥) → e ≡ SrcEnd.Cut → IsRunnable t (reverse f.run.events) f.name → ⊥
      refused_by e (inl differs) same r = differs same
      refused_by e (inr never) same r = never r

      by_end : (more : List ℕ) (e : SrcEnd) → Ends t input (reverse f.run.events) more e → (e ≢ SrcEnd.Cut) ⊎ (IsRunnable t (reverse f.run.events) f.name → ⊥)
          → run_from (source_reading t) (opening t input) (reverse f.run.events) (more ++ f.name ∷ f.rest) ≡ refused (behind more)
      by_end more e (Ends.returns v back) why =
          none_found (reverse f.run.events) f.name f.rest f.runs.history (inr (λ r. r.1.going (inl (v, back)))) ∙ ap refused (let z : suc (length (reverse f.run.events)) ≡ suc (0 + length (reverse f.run.events)) = omega arith in z)
      by_end more e (Ends.traps trapped) why =
          none_found (reverse f.run.events) f.name f.rest f.runs.history (inl (trapped_is (reverse f.run.events) trapped)) ∙ ap refused (let z : suc (length (reverse f.run.events)) ≡ suc (0 + length (reverse f.run.events)) = omega arith in z)
      by_end more e (Ends.is_cut going) why =
          none_found (reverse f.run.events) f.name f.rest f.runs.history (inr (refused_by SrcEnd.Cut why refl)) ∙ ap refused (let z : suc (length (reverse f.run.events)) ≡ suc (0 + length (reverse f.run.events)) = omega arith in z)
      by_end more e (Ends.goes_wrong n w next none) why =
          wrong_found (reverse f.run.events) n (f.name ∷ f.rest) w f.runs.history next none
          ∙ ap refused (let z : suc (suc (length (reverse f.run.events))) ≡ suc (1 + length (reverse f.run.events)) = omega arith in z)

  pub each_found : (names : List ℕ) → Past [] → ((r : SrcRun) × IsRunAlong t input names r) ⊎ ((k : ℕ) × IsRefusedAt t input names k)
  each_found names first = go (run_along (source_reading t) (opening t input) names) (sound [] names first)
    where
      go : (r : Ran) → Shown names r → ((r : SrcRun) × IsRunAlong t input names r) ⊎ ((k : ℕ) × IsRefusedAt t input names k)
      go r (shown_run g e run) = inl (run_by g e, run)
      go r (shown_refused k f) = inr (k, f)
