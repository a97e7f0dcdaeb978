-- What follows an answer, a fork or an end is one, over any values.
use mathlib.Core.Path.{fun_ext}
use Rattle.std.proofs.Common.{◌≡◌, ℕ, suc, ◌+◌, ◌/◌, ◌<◌, List, [], ◌∷◌, length, refl, Option, Some, None, arith, sym, ◌∙◌, ap, subst}
use Rattle.std.specs.Prelude.{slice_get}
use Rattle.std.proofs.lemmas.Option.{slice_get_within}
use Rattle.tac_ir.specs.declared.code.Code.{Code}
use Rattle.tac_thread.specs.declared.want.ReplyOf.{ReplyOf}
use Rattle.tac_thread.specs.Meaning.{Meaning}
use Rattle.tac_thread.specs.Life.{Life}
use Rattle.tac_thread.specs.Answered.{answered, joined}
use Rattle.tac_thread.specs.Begun.{root_of, branch_of}
use Rattle.tac_thread.specs.RunsOn.{RunsOn}
use Rattle.tac_thread.specs.Threads.{Lives, changed, HasBranch, ended_of, main_value, Settles, Resumes, IsBegun, IsFed, IsForked, IsStuck, at_fork, nobody, planted}
use Rattle.tac_thread.specs.Threads.Settles.{goes_on, main_ends, others_live, joins}
use Rattle.tac_thread.specs.Threads.Resumes.{some_live, none_lives}
use Rattle.tree_law.proofs.trees.Changed.{some_at}

-- the same threads, and the same value of main
abbrev pub Same : {V S : Type 0} → Lives V S → Option V → Lives V S → Option V → Type 0
Same g e h b = (g ≡ h) × (e ≡ b)

module _ {V S : Type 0} (m : Meaning V S) (c : Code) where
  pub runs_one : (l k q : Life V S) → RunsOn m c l k → RunsOn m c l q → k ≡ q
  runs_one l k q (RunsOn.rests one rest) (RunsOn.rests other also) = refl
  runs_one l k q (RunsOn.rests one rest) (RunsOn.runs first next last step on) = (let clash : None ≡ Some next = sym rest ∙ step in cc)
  runs_one l k q (RunsOn.runs first next last step on) (RunsOn.rests other rest) = (let clash : None ≡ Some next = sym rest ∙ step in cc)
  runs_one l k q (RunsOn.runs first next last step on) (RunsOn.runs first2 next2 last2 step2 on2) =
      let both : Some next2 ≡ Some next = sym step2 ∙ step in
      let same : next2 ≡ next = cc in
      runs_one next k q on (subst (λ z. RunsOn m c z q) same on2)

  pub one_life : (f : Lives V S) (n : ℕ) (p q : Life V S) → f n ≡ Some p → f n ≡ Some q → p ≡ q
  one_life f n p q x y = (let both : Some p ≡ Some q = sym x ∙ y in cc)

  one_end : (f : Lives V S) (n : ℕ) (v w : Option V) → ended_of m c (f n) ≡ Some v → ended_of m c (f n) ≡ Some w → v ≡ w
  one_end f n v w x y = (let both : Some v ≡ Some w = sym x ∙ y in cc)

  same_lives : (f g h : Lives V S) → ((k : ℕ) → g k ≡ f k) → ((k : ℕ) → h k ≡ f k) → g ≡ h
  same_lives f g h x y = fun_ext (λ k. x k ∙ sym (y k))

  ended_clash : {A : Type 0} (n : ℕ) (f : Lives V S) (v : Option V) → ended_of m c (f n) ≡ None → ended_of m c (f n) ≡ Some v → A
  ended_clash n f v none some = (let clash : None ≡ Some v = sym none ∙ some in cc)

  -- where nobody has ended
  settles_none : (n : ℕ) (f h : Lives V S) (d b : Option V) → ended_of m c (f n) ≡ None → Settles m c n f d h b → Same f d h b
  settles_none n f h d b none (goes_on n2 f2 d2 going) = (refl, refl)
  settles_none n f h d b none (main_ends f2 g2 d2 v ends is) = ended_clash 1 f v none ends
  settles_none n f h d b none (others_live n2 f2 g2 d2 v other ends is more) = ended_clash n f v none ends
  settles_none n f h d b none (joins n2 f2 g2 h2 last d2 v e p q other ends is gone lives on changes settles) = ended_clash n f v none ends

  -- where main has ended
  settles_main : (n : ℕ) (f g h : Lives V S) (d b : Option V) (v : Option V) → n ≡ 1 → ended_of m c (f 1) ≡ Some v → ((k : ℕ) → g k ≡ changed f 1 None k) → Settles m c n f d h b
      → Same g (Some (main_value m v)) h b
  settles_main n f g h d b v one ends is (goes_on n2 f2 d2 going) = ended_clash n f v going (ap (λ k. ended_of m c (f k)) one ∙ ends)
  settles_main n f g h d b v one ends is (main_ends f2 g2 d2 w ends2 is2) = (same_lives (changed f 1 None) g h is is2, ap (λ x. Some (main_value m x)) (one_end f 1 v w ends ends2))
  settles_main n f g h d b v one ends is (others_live n2 f2 g2 d2 w other ends2 is2 more) = absurd (other one)
  settles_main n f g h d b v one ends is (joins n2 f2 g2 h2 last d2 w e p q other ends2 is2 gone lives on changes settles) = absurd (other one)

  -- where another has ended, and branches of its parent live
  settles_others : (n : ℕ) (f g h : Lives V S) (d b : Option V) (v : Option V) → (n ≡ 1 → ⊥) → ended_of m c (f n) ≡ Some v → ((k : ℕ) → g k ≡ changed f n None k) → HasBranch g (n / 16)
      → Settles m c n f d h b → Same g d h b
  settles_others n f g h d b v other ends is more (goes_on n2 f2 d2 going) = ended_clash n f v going ends
  settles_others n f g h d b v other ends is more (main_ends f2 g2 d2 w ends2 is2) = absurd (other refl)
  settles_others n f g h d b v other ends is more (others_live n2 f2 g2 d2 w other2 ends2 is2 more2) = (same_lives (changed f n None) g h is is2, refl)
  settles_others n f g h d b v other ends is more (joins n2 f2 g2 h2 last d2 w e p q other2 ends2 is2 gone lives on changes settles) =
      absurd (gone (subst (λ z. HasBranch z (n / 16)) (same_lives (changed f n None) g g2 is is2) more))

  pub settles_one : (n : ℕ) (f g h : Lives V S) (d e b : Option V) → Settles m c n f d g e → Settles m c n f d h b → Same g e h b
  settles_one n f g h d e b (goes_on n2 f2 d2 going) q = settles_none n f h d b going q
  settles_one n f g h d e b (main_ends f2 g2 d2 v ends is) q = settles_main 1 f g h d b v refl ends is q
  settles_one n f g h d e b (others_live n2 f2 g2 d2 v other ends is more) q = settles_others n f g h d b v other ends is more q
  settles_one n f last h d e b (joins n2 f2 g j last2 d2 v e2 p q other ends is gone lives on changes settles) (goes_on n3 f3 d3 going) = ended_clash n f v going ends
  settles_one n f last h d e b (joins n2 f2 g j last2 d2 v e2 p q other ends is gone lives on changes settles) (main_ends f3 g3 d3 w ends2 is2) = absurd (other refl)
  settles_one n f last h d e b (joins n2 f2 g j last2 d2 v e2 p q other ends is gone lives on changes settles) (others_live n3 f3 g3 d3 w other2 ends2 is2 more) =
      absurd (gone (subst (λ z. HasBranch z (n / 16)) (same_lives (changed f n None) g3 g is2 is) more))
  settles_one n f last h d e b (joins n2 f2 g j last2 d2 v e2 p q other ends is gone lives on changes settles) (joins n3 f3 g3 j3 last3 d3 w e3 p3 q3 other2 ends2 is2 gone2 lives2 on2 changes2 settles2) =
      let same_g : g3 ≡ g = same_lives (changed f n None) g3 g is2 is in
      let same_p : p3 ≡ p = one_life g (n / 16) p3 p (subst (λ (z : Lives V S). z (n / 16) ≡ Some p3) same_g lives2) lives in
      let same_q : q3 ≡ q = runs_one (joined c p) q3 q (subst (λ z. RunsOn m c (joined c z) q3) same_p on2) on in
      let same_j : j3 ≡ j = same_lives (changed g (n / 16) (Some q)) j3 j
      (λ k. changes2 k ∙ ap (λ z. changed z (n / 16) (Some q3) k) same_g ∙ ap (λ z. changed g (n / 16) (Some z) k) same_q) changes in
      settles_one (n / 16) j last h d e b settles (subst (λ z. Settles m c (n / 16) z d h b) same_j settles2)

  pub resumes_one : (n : ℕ) (f g h : Lives V S) (d e b : Option V) → Resumes m c n f d g e → Resumes m c n f d h b → Same g e h b
  resumes_one n f g h d e b (some_live n2 f2 d2 more) (some_live n3 f3 d3 more2) = (refl, refl)
  resumes_one n f g h d e b (some_live n2 f2 d2 more) (none_lives n3 f3 j3 last d3 e3 p q gone lives on changes settles) = absurd (gone more)
  resumes_one n f g h d e b (none_lives n2 f2 j last d2 e2 p q gone lives on changes settles) (some_live n3 f3 d3 more) = absurd (gone more)
  resumes_one n f g h d e b (none_lives n2 f2 j last d2 e2 p q gone lives on changes settles) (none_lives n3 f3 j3 last3 d3 e3 p3 q3 gone3 lives3 on3 changes3 settles3) =
      let same_p : p3 ≡ p = one_life f n p3 p lives3 lives in
      let same_q : q3 ≡ q = runs_one (joined c p) q3 q (subst (λ z. RunsOn m c (joined c z) q3) same_p on3) on in
      let same_j : j3 ≡ j = same_lives (changed f n (Some q)) j3 j (λ k. changes3 k ∙ ap (λ z. changed f n (Some z) k) same_q) changes in
      settles_one n j g h d e b settles (subst (λ z. Settles m c n z d h b) same_j settles3)

  pub fed_one : (f g h : Lives V S) (d e b : Option V) (n : ℕ) (reply : ReplyOf V S) → IsFed m c f d n reply g e → IsFed m c f d n reply h b → Same g e h b
  fed_one f g h d e b n reply x y =
      let same_l : y.life ≡ x.life = one_life f n y.life x.life y.lived x.lived in
      let same_next : y.next ≡ x.next = runs_one (answered m c x.life reply) y.next x.next (subst (λ z. RunsOn m c (answered m c z reply) y.next) same_l y.runs) x.runs in
      let same : y.lives ≡ x.lives = same_lives (changed f n (Some x.next)) y.lives x.lives (λ k. y.changes k ∙ ap (λ z. changed f n (Some z) k) same_next) x.changes in
      settles_one n x.lives g h d e b x.settles (subst (λ z. Settles m c n z d h b) same y.settles)

  pub stuck_one : (f g h : Lives V S) (d e b : Option V) (n : ℕ) → IsStuck f d n g e → IsStuck f d n h b → Same g e h b
  stuck_one f g h d e b n x y =
      let same_l : y.life ≡ x.life = one_life f n y.life x.life y.lived x.lived in
      (same_lives (changed f n (Some (at_fork x.life))) g h x.changes (λ k. y.changes k ∙ ap (λ z. changed f n (Some (at_fork z)) k) same_l), x.done ∙ sym y.done)

  pub begun_one : (s : S) (g h : Lives V S) (e b : Option V) → IsBegun m c s g e → IsBegun m c s h b → Same g e h b
  begun_one s g h e b x y =
      let same_root : y.root ≡ x.root = runs_one (root_of m c s) y.root x.root y.runs x.runs in
      let same : y.lives ≡ x.lives = same_lives (changed nobody 1 (Some x.root)) y.lives x.lives (λ k. y.changes k ∙ ap (λ z. changed nobody 1 (Some z) k) same_root) x.changes in
      settles_one 1 x.lives g h None e b x.settles (subst (λ z. Settles m c 1 z None h b) same y.settles)

-- Lists.

pub lists_one : {A : Type 0} (xs ys : List A) → length xs ≡ length ys → ((i : ℕ) (x y : A) → slice_get xs i ≡ Some x → slice_get ys i ≡ Some y → x ≡ y) → xs ≡ ys
lists_one [] [] same each = refl
lists_one [] (y ∷ ys) same each = absurd (omega (arith, same))
lists_one (x ∷ xs) [] same each = absurd (omega (arith, same))
lists_one (x ∷ xs) (y ∷ ys) same each =
    ap (λ z. z ∷ xs) (each 0 x y refl refl) ∙ ap (λ zs. y ∷ zs) (lists_one xs ys (omega (arith, same)) (λ i p q there also. each (suc i) p q there also))

module _ {V S : Type 0} (m : Meaning V S) (c : Code) where
  pub forked_one : (f g h : Lives V S) (d e b : Option V) (n : ℕ) (stacks : List S) → IsForked m c f d n stacks g e → IsForked m c f d n stacks h b → Same g e h b
  forked_one f g h d e b n stacks x y =
      let same_l : y.life ≡ x.life = one_life m c f n y.life x.life y.lived x.lived in
      let same_branches : y.branches ≡ x.branches = lists_one y.branches x.branches (y.begin.count ∙ sym x.begin.count) (λ i p q there also.
      (let within : i < length stacks = subst (λ k. i < k) y.begin.count (slice_get_within y.branches i p there) in
      let s = some_at stacks i within in
      runs_one m c (branch_of m c x.life (i + 1) s.0) p q (subst (λ z. RunsOn m c (branch_of m c z (i + 1) s.0) p) same_l (y.begin.each i s.0 p s.1 there)) (x.begin.each i s.0 q s.1 also))) in
      let same : y.lives ≡ x.lives = same_lives m c (changed (planted m c f n 1 x.branches) n (Some (at_fork x.life))) y.lives x.lives
      (λ k. y.changes k ∙ ap (λ z. changed (planted m c f n 1 z) n (Some (at_fork y.life)) k) same_branches ∙ ap (λ z. changed (planted m c f n 1 x.branches) n (Some (at_fork z)) k) same_l) x.changes in
      resumes_one m c n x.lives g h d e b x.resumes (subst (λ z. Resumes m c n z d h b) same y.resumes)
