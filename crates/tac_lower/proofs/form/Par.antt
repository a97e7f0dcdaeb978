-- A `par` holds where the bodies of its branches do.
use Rattle.std.proofs.Common.{◌≡◌, ◌≢◌, ℕ, suc, ◌+◌, ◌<◌, ◌≤◌, Bool, true, nat_eq, List, [], ◌∷◌, ◌++◌, map, sum, length, refl, ap, sym, ◌∙◌, subst, arith, append_assoc}
use Rattle.std.specs.Prelude.{count_by}
use Rattle.std.specs.List.{sum_by}
use Rattle.std.proofs.lemmas.List.{length-append}
use Rattle.std.proofs.lemmas.List.Sums.{sum_by-append, sum_by-cons}
use Rattle.c_typed.specs.declared.stmt.Branch.{Branch}
use Rattle.tac_ir.specs.declared.code.Instr.{Instr}
use Rattle.tac_ir.specs.Regions.{Region}
use Rattle.tac_lower.specs.declared.draft.Numbers.{Numbers}
use Rattle.tac_lower.specs.declared.draft.Draft.{Draft}
use Rattle.tac_lower.specs.declared.draft.Ends.{Ends}
use Rattle.tac_lower.specs.Parts.{Made, Part, in_turn, behind}
use Rattle.tac_lower.specs.Instrs.{draft, no_number}
use Rattle.tac_lower.specs.Stmts.{ended, branches}
use Rattle.tac_lower.proofs.form.Each.{Each, each_append, each_by}
use Rattle.tac_lower.proofs.form.Zones.{Held, Apart, round, before, behind as after, apart_narrow, held_wide, Zone}
use Rattle.tac_lower.proofs.form.Holds.{World, regions, AllFit, Sits, own, Keeps, fit_append}
use Rattle.tac_lower.proofs.form.ExprParts.{Piece}
use Rattle.tac_lower.proofs.form.Forks.{Bodies, turn_keeps, made_drafts, past_branch, past_at, own_parts, First, first_of, fork_fit}
use Rattle.tac_lower.proofs.form.Branches.{body_of, total, total_is, turn_points, fork_regions, regions_are, IsBranch, fork_branches, ends_at, ends_none, ends_one, apart_ends}

module _ (w : World) where
  -- The branches.
  in_branch : (b : Bool) (lo hi low high : ℕ) (r : Region) → lo ≤ low → high ≤ hi → Apart b lo hi r → Apart true low high r
  in_branch b lo hi low high r l h (round is below above) = round refl (omega arith) (omega arith)
  in_branch b lo hi low high r l h (before is) = before (omega arith)
  in_branch b lo hi low high r l h (after is also) = after (omega arith) (omega arith)

  branch_after : (f mid high : ℕ) (r : Region) (last : ℕ) (low : ℕ) → last < mid → IsBranch f mid high r → Apart true low last r
  branch_after f mid high r last low h is = (let e = is.entry in let o = is.order in after (omega arith) (omega arith))

  -- all regions: those of before, of the branches still to come, of the bodies before, of the bodies to come, and the others
  record Around (b : Bool) (f join : ℕ) (bs : List (Branch (Part ℕ))) (ends : Ends) (n : Numbers) : Type 0 where
    outer : List Region
    inner : List Region
    others : List Region
    split : regions w ≡ outer ++ (fork_regions f n.at bs ++ (inner ++ (own w n.at (made_drafts w ends n bs) ++ others)))
    outer_apart : Each (Apart b n.at join) outer
    inner_apart : Each (Apart b n.at join) inner
    others_apart : Each (Apart b n.at join) others

  bodies_fit : (b : Bool) (f join : ℕ) (bs : List (Branch (Part ℕ))) (ends : Ends) (n : Numbers) → f < n.at → join ≡ n.at + total bs → join < length w.lines → Bodies w bs
      → Around b f join bs ends n → Sits w n.at (made_drafts w ends n bs) → AllFit w n.at (made_drafts w ends n bs)
  bodies_fit b f join [] ends n low is below all z sits = tt
  bodies_fit b f join (c ∷ bs) ends n low is below all z sits =
      fit_append w n.at next.at (a.drafts ++ end ∷ []) (made_drafts w ends next bs) (omega (arith, length-append a.drafts (end ∷ [])))
      (fit_append w n.at a.next.at a.drafts (end ∷ []) (omega arith)
      (all.0.fits ends n (record {
        sits = first.body;
        zone = record { pre = z.outer ++ (r ∷ more) ++ z.inner; post = ys ++ z.others; split = body_split; first = pre_apart; last = post_apart };
        below = omega arith;
        reaches = λ t o. absurd o;
      })) (record { names = tt; aims = tt; forked = tt; fork = tt; ret = λ here. absurd here; end = λ e. once }, tt))
      (bodies_fit b f join bs ends next (omega arith) (omega arith) below all.1 (record {
        outer = z.outer ++ r ∷ [];
        inner = z.inner ++ xs;
        others = z.others;
        split = rest_split;
        outer_apart = each_append (Apart b next.at join) z.outer (r ∷ []) (each_by (Apart b n.at join) (Apart b next.at join) z.outer narrow z.outer_apart) (before (omega arith), tt);
        inner_apart = each_append (Apart b next.at join) z.inner xs (each_by (Apart b n.at join) (Apart b next.at join) z.inner narrow z.inner_apart)
            (each_by (Held n.at (n.at + (body_of c).points)) (Apart b next.at join) xs (λ x h. (let l = h.last in before (omega arith))) held_x);
        others_apart = each_by (Apart b n.at join) (Apart b next.at join) z.others narrow z.others_apart;
      }) first.rest)
    where
      a : Made ℕ
      a = (body_of c).make ends n

      end : Draft
      end = draft c.close.0 Instr.End

      next : Numbers
      next = past_branch w ends n c

      at : a.next.at ≡ n.at + (body_of c).points
      at = all.0.keeps.at ends n

      count : length a.drafts ≡ (body_of c).points
      count = all.0.keeps.drafts ends n

      here : next.at ≡ n.at + ((body_of c).points + 1)
      here = past_at w ends n c all.0

      first : First w ends n n.at c bs
      first = first_of w ends n n.at c bs refl all.0 sits

      r : Region
      r = record { fork = f; entry = n.at; last = n.at + (body_of c).points }

      more : List Region
      more = fork_regions f (n.at + ((body_of c).points + 1)) bs

      xs : List Region
      xs = own w n.at a.drafts

      ys : List Region
      ys = own w next.at (made_drafts w ends next bs)

      held_x : Each (Held n.at (n.at + (body_of c).points)) xs
      held_x = all.0.keeps.held ends n

      held_y : Each (Held next.at (next.at + (in_turn (map ended bs)).points)) ys
      held_y = (turn_keeps w bs all.1).held ends next

      branches_y : Each (IsBranch f (n.at + ((body_of c).points + 1)) join) more
      branches_y = fork_branches f (n.at + ((body_of c).points + 1)) (n.at + ((body_of c).points + 1)) join bs (omega arith) (omega arith)

      narrow : (x : Region) → Apart b n.at join x → Apart b next.at join x
      narrow x h = apart_narrow b n.at join next.at join x (omega arith) (omega arith) h

      last : ℕ
      last = n.at + (body_of c).points

      inside : (x : Region) → Apart b n.at join x → Apart true n.at last x
      inside x h = in_branch b n.at join n.at last x (omega arith) (omega arith) h

      whole : regions w ≡ z.outer ++ ((r ∷ more) ++ (z.inner ++ ((xs ++ ys) ++ z.others)))
      whole = z.split ∙ ap (λ rs. z.outer ++ ((r ∷ more) ++ (z.inner ++ (rs ++ z.others)))) (own_parts w ends n c bs all.0)

      body_split : regions w ≡ (z.outer ++ (r ∷ more) ++ z.inner) ++ (xs ++ (ys ++ z.others))
      body_split = whole ∙ sym (simp append_assoc)

      rest_split : regions w ≡ (z.outer ++ r ∷ []) ++ (fork_regions f next.at bs ++ ((z.inner ++ xs) ++ (ys ++ z.others)))
      rest_split =
          whole ∙ sym (simp append_assoc) ∙ ap (λ k. (z.outer ++ r ∷ []) ++ (fork_regions f k bs ++ ((z.inner ++ xs) ++ (ys ++ z.others)))) (sym here)

      pre_apart : Each (Apart true n.at last) (z.outer ++ (r ∷ more) ++ z.inner)
      pre_apart =
          each_append (Apart true n.at last) (z.outer ++ (r ∷ more)) z.inner
          (each_append (Apart true n.at last) z.outer (r ∷ more) (each_by (Apart b n.at join) (Apart true n.at last) z.outer inside z.outer_apart)
          (round refl (omega arith) (omega arith), each_by (IsBranch f (n.at + ((body_of c).points + 1)) join) (Apart true n.at last) more (λ x h. branch_after f (n.at + ((body_of c).points + 1)) join x last n.at (omega arith) h) branches_y))
          (each_by (Apart b n.at join) (Apart true n.at last) z.inner inside z.inner_apart)

      post_apart : Each (Apart true n.at last) (ys ++ z.others)
      post_apart =
          each_append (Apart true n.at last) ys z.others (each_by (Held next.at (next.at + (in_turn (map ended bs)).points)) (Apart true n.at last) ys (λ x h. (let p = h.fork in let q = h.entry in let o = h.order in after (omega arith) (omega arith))) held_y)
          (each_by (Apart b n.at join) (Apart true n.at last) z.others inside z.others_apart)

      once : count_by (λ (x : Region). nat_eq x.last a.next.at) (regions w) ≡ 1
      once =
          let k = a.next.at in
          let apart = λ (x : Region) (h : Apart b n.at join x). apart_ends b n.at join k x (omega arith) (omega arith) h in
          let none = λ (x : Region). x.last ≢ k in
          let others = (xs ++ ys) ++ z.others in
          subst (λ rs. sum_by (ends_at k) rs ≡ 1) (sym whole)
          (omega (
            arith,
            sum_by-append (ends_at k) z.outer ((r ∷ more) ++ (z.inner ++ others)),
            sum_by-append (ends_at k) (r ∷ more) (z.inner ++ others),
            sum_by-append (ends_at k) z.inner others,
            sum_by-append (ends_at k) (xs ++ ys) z.others,
            sum_by-append (ends_at k) xs ys,
            sum_by-cons (ends_at k) r more,
            ends_one k r (sym at),
            ends_none k z.outer (each_by (Apart b n.at join) none z.outer apart z.outer_apart),
            ends_none k more (each_by (IsBranch f (n.at + ((body_of c).points + 1)) join) none more (λ x h. (let e = h.entry in let o = h.order in omega arith)) branches_y),
            ends_none k z.inner (each_by (Apart b n.at join) none z.inner apart z.inner_apart),
            ends_none k xs (each_by (Held n.at (n.at + (body_of c).points)) none xs (λ x h. (let l = h.last in omega arith)) held_x),
            ends_none k ys (each_by (Held next.at (next.at + (in_turn (map ended bs)).points)) none ys (λ x h. (let p = h.fork in let q = h.entry in let o = h.order in omega arith)) held_y),
            ends_none k z.others (each_by (Apart b n.at join) none z.others apart z.others_apart),
          ))

  -- The whole of a `par`.

  own_whole : (ends : Ends) (n : Numbers) (line : ℕ) (bs : List (Branch (Part ℕ)))
      → own w n.at ((branches line (map ended bs)).make ends n).drafts ≡ fork_regions n.at (n.at + 1) bs ++ own w (n.at + 1) (made_drafts w ends (behind no_number n) bs)
  own_whole ends n line bs =
      let join = n.at + 1 + sum (map (λ (p : Part ℕ). p.points) (map ended bs)) in
      let ds = made_drafts w ends (behind no_number n) bs in
      let next : suc n.at ≡ n.at + 1 = omega arith in
      ap (λ rs. rs ++ own w (suc n.at) ds) (regions_are n.at (n.at + 1) join bs (omega (arith, total_is bs))) ∙ ap (λ k. fork_regions n.at (n.at + 1) bs ++ own w k ds) next

  branches_keeps : (line : ℕ) (bs : List (Branch (Part ℕ))) → Bodies w bs → Keeps w (branches line (map ended bs))
  branches_keeps line bs all =
      let keeps = turn_keeps w bs all in
      record {
        drafts = λ ends n. omega (arith, keeps.drafts ends (behind no_number n));
        at = λ ends n. omega (arith, keeps.at ends (behind no_number n));
        held = λ ends n.
            let high = n.at + (1 + (in_turn (map ended bs)).points) in
            let ys = own w (n.at + 1) (made_drafts w ends (behind no_number n) bs) in
            let size = turn_points bs in
            subst (λ rs. Each (Held n.at high) rs) (sym (own_whole ends n line bs))
            (each_append (Held n.at high) (fork_regions n.at (n.at + 1) bs) ys
            (each_by (IsBranch n.at (n.at + 1) high) (Held n.at high) (fork_regions n.at (n.at + 1) bs)
            (λ r h. (let f = h.fork in let e = h.entry in record { fork = omega arith; entry = omega arith; order = h.order; last = h.last })) (fork_branches n.at (n.at + 1) (n.at + 1) high bs (omega arith) (omega arith)))
            (each_by (Held (n.at + 1) (n.at + 1 + (in_turn (map ended bs)).points)) (Held n.at high) ys (λ r h. held_wide (n.at + 1) (n.at + 1 + (in_turn (map ended bs)).points) n.at high r (omega arith) (omega arith) h)
            (keeps.held ends (behind no_number n))));
        objects = λ ends n. (tt, keeps.objects ends (behind no_number n));
      }

  -- before the first branch
  around_all : (b : Bool) (f join : ℕ) (bs : List (Branch (Part ℕ))) (ends : Ends) (n : Numbers) → f ≤ n.at → Zone (regions w) b f join (fork_regions f n.at bs ++ own w n.at (made_drafts w ends n bs)) → Around b f join bs ends n
  around_all b f join bs ends n low zone =
      let narrow = λ (r : Region) (h : Apart b f join r). apart_narrow b f join n.at join r low (omega arith) h in
      record {
        outer = zone.pre;
        inner = [];
        others = zone.post;
        split = zone.split ∙ ap (λ rs. zone.pre ++ rs) (append_assoc (fork_regions f n.at bs) (own w n.at (made_drafts w ends n bs)) zone.post);
        outer_apart = each_by (Apart b f join) (Apart b n.at join) zone.pre narrow zone.first;
        inner_apart = tt;
        others_apart = each_by (Apart b f join) (Apart b n.at join) zone.post narrow zone.last;
      }

  pub branches_holds : (b : Bool) (outs : Ends → ℕ → Type 0) (line : ℕ) (bs : List (Branch (Part ℕ))) → Bodies w bs → 2 ≤ length bs → length bs ≤ 15 → Piece w b outs (branches line (map ended bs))
  branches_holds b outs line bs all some few = record {
    keeps = branches_keeps line bs all;
    fits = λ ends n s.
        let first = behind no_number n in
        let ds = made_drafts w ends first bs in
        let ys = own w (n.at + 1) ds in
        let made = fork_regions n.at (n.at + 1) bs in
        let join = n.at + 1 + sum (map (λ (p : Part ℕ). p.points) (map ended bs)) in
        let sum_is = total_is bs in
        let size = turn_points bs in
        let high : n.at + (1 + (in_turn (map ended bs)).points) ≡ join = omega arith in
        let next : suc n.at ≡ n.at + 1 = omega arith in
        let zone : Zone (regions w) b n.at join (made ++ ys) = subst (λ k. Zone (regions w) b n.at k (made ++ ys)) high
        (subst (λ rs. Zone (regions w) b n.at (n.at + (1 + (in_turn (map ended bs)).points)) rs) (own_whole ends n line bs) s.zone) in
        let sits : Sits w (n.at + 1) ds = subst (λ k. Sits w k ds) next s.sits.2 in
        let stands : n.at + (1 + (in_turn (map ended bs)).points) < length w.lines = s.below in
        let below : join < length w.lines = omega arith in
        let bodies : AllFit w (n.at + 1) ds = bodies_fit b n.at join bs ends first (omega arith) (omega arith) below all (around_all b n.at join bs ends first (omega arith) zone) sits in
        (fork_fit w b bs ends first n.at join refl (omega arith) all some few zone below sits, subst (λ k. AllFit w k ds) (sym next) bodies);
  }
