-- A fork is well-formed where its branches stand behind it, each with its `end`.
use Rattle.std.proofs.Common.{◌≡◌, ℕ, ◌+◌, ◌-◌, ◌<◌, ◌≤◌, Bool, true, List, [], ◌∷◌, ◌++◌, map, drop, length, Some, refl, ap, sym, ◌∙◌, subst, arith, append-nil}
use Rattle.std.specs.Prelude.{slice_get}
use Rattle.std.proofs.lemmas.List.{length-append}
use Rattle.c_typed.specs.declared.stmt.Branch.{Branch}
use Rattle.tac_ir.specs.declared.code.Instr.{Instr}
use Rattle.tac_ir.specs.Regions.{Region}
use Rattle.tac_ir.specs.GoodForm.{IsEnd}
use Rattle.tac_lower.specs.declared.draft.Numbers.{Numbers}
use Rattle.tac_lower.specs.declared.draft.Draft.{Draft}
use Rattle.tac_lower.specs.declared.draft.Ends.{Ends}
use Rattle.tac_lower.specs.Parts.{Part, in_turn, behind}
use Rattle.tac_lower.specs.Instrs.{draft, no_number}
use Rattle.tac_lower.specs.Stmts.{stop, ended, entries}
use Rattle.tac_lower.specs.CodeOf.{finished}
use Rattle.tac_lower.proofs.form.Each.{Each, each_append, each_by, each_both, all_each}
use Rattle.tac_lower.proofs.form.Zones.{Apart, apart_level, Off, Top, top_before, top_behind, Zone}
use Rattle.tac_lower.proofs.form.Holds.{World, regions, Forked, Fit, Sits, own, Keeps, sits_split, own_append, keeps_chained}
use Rattle.tac_lower.proofs.form.ExprParts.{Piece}
use Rattle.tac_lower.proofs.form.Branches.{body_of, total, turn_points, entries_length, fork_regions, entries_within, Closed, closed_entries, closed_high, chain_entries}

-- nothing leaves a branch
abbrev pub Nowhere : Ends → ℕ → Type 0
Nowhere ends t = ⊥

module _ (w : World) where
  -- The counts of branches, and their bodies.
  abbrev pub Bodies : List (Branch (Part ℕ)) → Type 0
  Bodies [] = Unit {0}
  Bodies (b ∷ bs) = Piece w true Nowhere (body_of b) × Bodies bs

  pub stop_keeps : (line : ℕ) → Keeps w (stop line)
  stop_keeps line = record { drafts = λ ends n. refl; at = λ ends n. refl; held = λ ends n. tt; objects = λ ends n. (tt, tt) }

  pub ended_keeps : (b : Branch (Part ℕ)) → Piece w true Nowhere (body_of b) → Keeps w (ended b)
  ended_keeps b is = keeps_chained w 0 (body_of b) (λ a. stop b.close.0) is.keeps (λ ends n. stop_keeps b.close.0) (λ ends n. refl)

  pub turn_keeps : (bs : List (Branch (Part ℕ))) → Bodies bs → Keeps w (in_turn (map ended bs))
  turn_keeps [] all = record { drafts = λ ends n. refl; at = λ ends n. omega arith; held = λ ends n. tt; objects = λ ends n. tt }
  turn_keeps (b ∷ bs) all = keeps_chained w 0 (ended b) (λ a. in_turn (map ended bs)) (ended_keeps b all.0) (λ ends n. turn_keeps bs all.1) (λ ends n. refl)

  abbrev pub made_drafts : (ends : Ends) → Numbers → List (Branch (Part ℕ)) → List Draft
  made_drafts ends n bs = ((in_turn (map ended bs)).make ends n).drafts

  -- the numbers behind a branch
  abbrev pub past_branch : (ends : Ends) → Numbers → Branch (Part ℕ) → Numbers
  past_branch ends n b = behind no_number ((body_of b).make ends n).next

  pub past_at : (ends : Ends) (n : Numbers) (b : Branch (Part ℕ)) → Piece w true Nowhere (body_of b) → (past_branch ends n b).at ≡ n.at + ((body_of b).points + 1)
  past_at ends n b is = (let at = is.keeps.at ends n in omega arith)

  -- the regions of a branch's own, and those of the others
  pub own_parts : (ends : Ends) (n : Numbers) (b : Branch (Part ℕ)) (bs : List (Branch (Part ℕ))) → Piece w true Nowhere (body_of b)
      → own w n.at (made_drafts ends n (b ∷ bs)) ≡ own w n.at ((body_of b).make ends n).drafts ++ own w (past_branch ends n b).at (made_drafts ends (past_branch ends n b) bs)
  own_parts ends n b bs is =
      let a = (body_of b).make ends n in
      let end = draft b.close.0 Instr.End in
      let next = past_branch ends n b in
      let rest = made_drafts ends next bs in
      own_append w n.at next.at (a.drafts ++ end ∷ []) rest
      (omega (arith, is.keeps.at ends n, is.keeps.drafts ends n, length-append a.drafts (end ∷ [])))
      ∙ ap (λ rs. rs ++ own w next.at rest)
      (own_append w n.at a.next.at a.drafts (end ∷ []) (omega (arith, is.keeps.at ends n, is.keeps.drafts ends n)) ∙ append-nil (own w n.at a.drafts))

  -- No entry, and not the join, is in a region of a branch's own.
  entries_top : (bs : List (Branch (Part ℕ))) (ends : Ends) (n : Numbers) (e : ℕ) → e ≡ n.at → Bodies bs → Each (λ t. Top t (own w n.at (made_drafts ends n bs))) (entries e (map ended bs))
  entries_top [] ends n e at all = tt
  entries_top (b ∷ bs) ends n e at all =
      let next = past_branch ends n b in
      let here = past_at ends n b all.0 in
      let keeps = turn_keeps (b ∷ bs) all in
      let xs = own w n.at ((body_of b).make ends n).drafts in
      let ys = own w next.at (made_drafts ends next bs) in
      let step = e + ((body_of b).points + 1) in (
        top_before n.at (n.at + (in_turn (map ended (b ∷ bs))).points) e (own w n.at (made_drafts ends n (b ∷ bs))) (omega arith) (keeps.held ends n),
        each_both (λ t. (step ≤ t) × (t < step + total bs)) (λ t. Top t ys) (λ t. Top t (own w n.at (made_drafts ends n (b ∷ bs)))) (entries step (map ended bs))
            (λ t low top. (let l = low.0 in subst (λ rs. Top t rs) (sym (own_parts ends n b bs all.0)) (each_append (Off t) xs ys (top_behind n.at (n.at + (body_of b).points) t xs (omega arith) (all.0.keeps.held ends n)) top)))
            (entries_within step step (step + total bs) bs (omega arith) (omega arith)) (entries_top bs ends next step (omega arith) all.1),
      )

  -- Before each later entry, and before the join, stands an `end`.
  pub record First (ends : Ends) (n : Numbers) (e : ℕ) (b : Branch (Part ℕ)) (bs : List (Branch (Part ℕ))) : Type 0 where
    pub body : Sits w n.at ((body_of b).make ends n).drafts
    pub end : IsEnd w.lines (e + ((body_of b).points + 1) - 1)
    pub rest : Sits w (past_branch ends n b).at (made_drafts ends (past_branch ends n b) bs)

  pub first_of : (ends : Ends) (n : Numbers) (e : ℕ) (b : Branch (Part ℕ)) (bs : List (Branch (Part ℕ))) → e ≡ n.at → Piece w true Nowhere (body_of b) → Sits w n.at (made_drafts ends n (b ∷ bs)) → First ends n e b bs
  first_of ends n e b bs at is sits =
      let a = (body_of b).make ends n in
      let end = draft b.close.0 Instr.End in
      let next = past_branch ends n b in
      let here = is.keeps.at ends n in
      let count = is.keeps.drafts ends n in
      let halves = sits_split w n.at next.at (a.drafts ++ end ∷ []) (made_drafts ends next bs) (omega (arith, length-append a.drafts (end ∷ []))) sits in
      let parts = sits_split w n.at a.next.at a.drafts (end ∷ []) (omega arith) halves.0 in
      let index : a.next.at ≡ e + ((body_of b).points + 1) - 1 = omega arith in
      record { body = parts.0; end = subst (λ k. IsEnd w.lines k) index (finished w.shape end, parts.1.0, refl); rest = halves.1 }

  ends_before : (bs : List (Branch (Part ℕ))) (b : Branch (Part ℕ)) (ends : Ends) (n : Numbers) (e join : ℕ) → e ≡ n.at → Bodies (b ∷ bs) → join ≡ e + total (b ∷ bs) → Sits w n.at (made_drafts ends n (b ∷ bs))
      → Each (λ t. IsEnd w.lines (t - 1)) (entries (e + ((body_of b).points + 1)) (map ended bs) ++ join ∷ [])
  ends_before [] b ends n e join at all is sits =
      let same : e + ((body_of b).points + 1) ≡ join = omega arith in
      (subst (λ k. IsEnd w.lines (k - 1)) same (first_of ends n e b [] at all.0 sits).end, tt)
  ends_before (c ∷ bs) b ends n e join at all is sits =
      let first = first_of ends n e b (c ∷ bs) at all.0 sits in
      let here = past_at ends n b all.0 in
      (first.end, ends_before bs c ends (past_branch ends n b) (e + ((body_of b).points + 1)) join (omega arith) all.1 (omega arith) first.rest)

  -- The fork.
  pub fork_fit : (b : Bool) (bs : List (Branch (Part ℕ))) (ends : Ends) (n : Numbers) (f join : ℕ) → n.at ≡ f + 1 → join ≡ n.at + total bs → Bodies bs → 2 ≤ length bs → length bs ≤ 15
      → Zone (regions w) b f join (fork_regions f n.at bs ++ own w n.at (made_drafts ends n bs)) → join < length w.lines → Sits w n.at (made_drafts ends n bs)
      → Fit w f (Instr.Fork join (entries (f + 1) (map ended bs)))
  fork_fit b bs ends n f join at is all some few zone below sits = record {
    names = tt;
    aims = tt;
    forked = each_append (Forked w f) (entries (f + 1) (map ended bs)) (join ∷ [])
        (each_both (λ t. (f + 1 ≤ t) × (t < join)) (λ t. Each (Closed f t) (regions w)) (Forked w f) (entries (f + 1) (map ended bs))
        (λ t low closed. (let l = low.0 in let h = low.1 in record { inside = omega arith; onward = omega arith; closed = closed })) (entries_within (f + 1) (f + 1) join bs (omega arith) (omega arith)) closed_each)
        (record { inside = below; onward = omega arith; closed = closed_at join (omega arith) (omega arith) (closed_high f n.at join bs (omega arith)) (top_behind n.at (n.at + (in_turn (map ended bs)).points) join ys (omega (arith, turn_points bs)) (keeps.held ends n)) }, tt);
    fork = record {
      some = omega (arith, entries_length (f + 1) bs);
      count = omega (arith, entries_length (f + 1) bs);
      first = starts bs some;
      ascends = chain_entries (f + 1) join bs (omega arith);
      ends = all_each (λ t. IsEnd w.lines (t - 1)) (drop 1 (entries (f + 1) (map ended bs)) ++ join ∷ []) (closes bs some all sits is);
    };
    ret = λ here. absurd here;
    end = λ e. cc;
  }
    where
      ys : List Region
      ys = own w n.at (made_drafts ends n bs)

      keeps : Keeps w (in_turn (map ended bs))
      keeps = turn_keeps bs all

      off_closed : (t : ℕ) (r : Region) → Off t r → Closed f t r
      off_closed t r out = λ off inside. absurd (out inside)

      apart_closed : (t : ℕ) → f ≤ t → t ≤ join → (r : Region) → Apart b f join r → Closed f t r
      apart_closed t l h r is = λ off inside. absurd (off ((apart_level b f join f t r (omega arith) (omega arith) l h is).1 inside))

      closed_at : (t : ℕ) → f ≤ t → t ≤ join → Each (Closed f t) (fork_regions f n.at bs) → Top t ys → Each (Closed f t) (regions w)
      closed_at t l h made top =
          subst (λ rs. Each (Closed f t) rs) (sym zone.split)
          (each_append (Closed f t) zone.pre ((fork_regions f n.at bs ++ ys) ++ zone.post) (each_by (Apart b f join) (Closed f t) zone.pre (apart_closed t l h) zone.first)
          (each_append (Closed f t) (fork_regions f n.at bs ++ ys) zone.post (each_append (Closed f t) (fork_regions f n.at bs) ys made (each_by (Off t) (Closed f t) ys (off_closed t) top))
          (each_by (Apart b f join) (Closed f t) zone.post (apart_closed t l h) zone.last)))

      made_each : Each (λ t. Each (Closed f t) (fork_regions f n.at bs)) (entries (f + 1) (map ended bs))
      made_each = subst (λ k. Each (λ t. Each (Closed f t) (fork_regions f n.at bs)) (entries k (map ended bs))) at (closed_entries f n.at bs)

      closed_each : Each (λ t. Each (Closed f t) (regions w)) (entries (f + 1) (map ended bs))
      closed_each =
          each_both (λ t. ((f + 1 ≤ t) × (t < join)) × Each (Closed f t) (fork_regions f n.at bs)) (λ t. Top t ys) (λ t. Each (Closed f t) (regions w)) (entries (f + 1) (map ended bs))
          (λ t made top. (let l = made.0.0 in let h = made.0.1 in closed_at t (omega arith) (omega arith) made.1 top))
          (each_both (λ t. (f + 1 ≤ t) × (t < join)) (λ t. Each (Closed f t) (fork_regions f n.at bs)) (λ t. ((f + 1 ≤ t) × (t < join)) × Each (Closed f t) (fork_regions f n.at bs)) (entries (f + 1) (map ended bs))
          (λ t x y. (x, y)) (entries_within (f + 1) (f + 1) join bs (omega arith) (omega arith)) made_each)
          (entries_top bs ends n (f + 1) (sym at) all)

      starts : (bs : List (Branch (Part ℕ))) → 2 ≤ length bs → slice_get (entries (f + 1) (map ended bs)) 0 ≡ Some (f + 1)
      starts [] h = absurd (omega arith)
      starts (b ∷ bs) h = refl

      closes : (bs : List (Branch (Part ℕ))) → 2 ≤ length bs → Bodies bs → Sits w n.at (made_drafts ends n bs) → join ≡ n.at + total bs
          → Each (λ t. IsEnd w.lines (t - 1)) (drop 1 (entries (f + 1) (map ended bs)) ++ join ∷ [])
      closes [] h all sits is = absurd (omega arith)
      closes (b ∷ bs) h all sits is = ends_before bs b ends n (f + 1) join (sym at) all (omega arith) sits
