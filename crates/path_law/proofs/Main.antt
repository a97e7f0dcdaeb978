-- Main's value, where thread 1 has ended.
use Rattle.std.proofs.Common.{◌≡◌, ℕ, ◌/◌, List, ◌∷◌, false, refl, Option, Some, None, sym, ◌∙◌, ap, subst, ⊎_elim}
use Rattle.std.proofs.lemmas.Bool.{cases_eq}
use Rattle.dfi_base.specs.Lives.{own}
use Rattle.tac_ir.specs.declared.run.Entry.{Entry}
use Rattle.tac_ir.specs.Module.{Module}
use Rattle.tac_ir.specs.Threads.{root_start, threads_of}
use Rattle.tac_ir.proofs.Living.{begins_one}
use Rattle.tac_thread.specs.Threads.{is_waiting, at_fork, main_value, Settles, Resumes}
use Rattle.tac_thread.specs.Threads.Settles.{goes_on, main_ends, others_live, joins}
use Rattle.tac_thread.specs.Threads.Resumes.{some_live, none_lives}
use Rattle.tac_thread.specs.Flat.{flat_meaning}
use Rattle.path_law.specs.Standing.{FlatLife}
use Rattle.path_law.specs.Wants.{EndsWith}
use Rattle.path_law.specs.InPlace.{FlatLives, AreThreads, Waits, AreSettled, IsDone}
use Rattle.path_law.proofs.Wants.{ends}
use Rattle.path_law.proofs.Histories.{Starts, own_other}
use Rattle.path_law.proofs.Settled.{IsChanged, here_is, other_is, HasEnded, has_ended, parent_on, went_on}

-- a change of another thread
pub main_other : (m : Module) (h : List Entry) (f g : FlatLives) (d : Option ℕ) → g 1 ≡ f 1 → IsDone m h f d → IsDone m h g d
main_other m h f g d same main = record {
  lives = λ l there. main.lives l (sym same ∙ there);
  ended = λ none. main.ended (sym same ∙ none);
}

-- thread 1 lives
pub main_lives : (m : Module) (h : List Entry) (g : FlatLives) (d : Option ℕ) (l : FlatLife) → g 1 ≡ Some l → d ≡ None → IsDone m h g d
main_lives m h g d l there none = record {
  lives = λ k at. none;
  ended = λ away. absurd (clash (sym away ∙ there));
}
  where
    clash : None ≡ Some l → ⊥
    clash e = cc

-- another thread goes on, or thread 1
pub main_on : (m : Module) (h : List Entry) (f g : FlatLives) (n : ℕ) (p q : FlatLife) (d : Option ℕ) → f n ≡ Some p → IsChanged f n (Some q) g → IsDone m h f d → IsDone m h g d
main_on m h f g n p q d there changes main =
    ⊎_elim (λ (same : 1 ≡ n). main_lives m h g d q (ap g same ∙ here_is f g n (Some q) changes) (main.lives p (ap f same ∙ there)))
    (λ (apart : 1 ≡ n → ⊥). main_other m h f g d (other_is f g n (Some q) changes 1 apart) main) (cases_eq 1 n)

-- main's value at its end
main_ended : (m : Module) (h : List Entry) (f g : FlatLives) (v : Option ℕ) → AreThreads m h f → HasEnded m f 1 v → IsChanged f 1 None g → IsDone m h g (Some (main_value flat_meaning v))
main_ended m h f g v threads over changes =
    let p = threads.lives 1 over.life over.lived in
    let begins = begins_one m h 1 p.start (root_start m) p.begins threads.root in
    let last = ends m.code p.start (own (threads_of m) 1 h) over.life v p.stands over.want in
    record {
      lives = λ l there. absurd (clash l (sym (here_is f g 1 None changes) ∙ there));
      ended = λ none. record { value = v; ends = subst (λ s. EndsWith m.code s (own (threads_of m) 1 h) v) begins last; is = refl };
    }
  where
    clash : (l : FlatLife) → None ≡ Some l → ⊥
    clash l e = cc

pub settled_main : (m : Module) (h : List Entry) (n : ℕ) (f last : FlatLives) (d e : Option ℕ) → Settles flat_meaning m.code n f d last e → AreSettled m h f → IsDone m h f d → IsDone m h last e
settled_main m h n f last d e (goes_on k g v none) place main = main
settled_main m h n f last d e (main_ends f0 g d0 v over changes) place main = main_ended m h f last v place.threads (has_ended m f 1 v over) changes
settled_main m h n f last d e (others_live k f0 g d0 v one over changes branch) place main =
    main_other m h f last d (other_is f last n None changes 1 (λ same. one (sym same))) main
settled_main m h n f last d e (joins k f0 g h2 last0 d0 v e0 p q one over changes alone there ran on rest) place main =
    settled_main m h (n / 16) h2 last d e rest (parent_on m h n f g h2 v p q place one over changes alone there ran on)
    (main_on m h g h2 (n / 16) p q d there on (main_other m h f g d (other_is f g n None changes 1 (λ same. one (sym same))) main))

-- one entry more: thread 1 ends with the same
pub main_more : (m : Module) (h : List Entry) (e : Entry) (f : FlatLives) (d : Option ℕ) (l : FlatLife) → f e.name.0 ≡ Some l → Starts m 1 e ≡ false → IsDone m h f d → IsDone m (e ∷ h) f d
main_more m h e f d l lives none main = record {
  lives = main.lives;
  ended = λ away. (
      let v = main.ended away in
      let apart : e.name.0 ≡ 1 → ⊥ = λ same. clash (sym away ∙ ap f (sym same) ∙ lives) in
      record { value = v.value; ends = subst (λ o. EndsWith m.code (root_start m) o v.value) (sym (own_other m e h 1 none apart)) v.ends; is = v.is });
}
  where
    clash : None ≡ Some l → ⊥
    clash q = cc

-- a fork leaves thread 1 as it is
pub resumed_main : (m : Module) (h : List Entry) (n : ℕ) (g last : FlatLives) (d b : Option ℕ) (life : FlatLife) → AreThreads m h g → ((k : ℕ) → (k ≡ n → ⊥) → Waits g k) → g n ≡ Some (at_fork life)
    → Resumes flat_meaning m.code n g d last b → IsDone m h g d → IsDone m h last b
resumed_main m h n g last d b life threads waits here (some_live k f d0 has) main = main
resumed_main m h n g last d b life threads waits here (none_lives k f h2 last0 d0 b0 p q alone there ran changes rest) main =
    let found : Some p ≡ Some (at_fork life) = sym there ∙ here in
    let both : p ≡ at_fork life = cc in
    settled_main m h n h2 last d b rest
    (went_on m h g h2 n q threads waits (record { life = p; lived = there; waits = ap (λ (z : FlatLife). is_waiting z.stage) both; runs = ran; alone = alone }) changes)
    (main_on m h g h2 n p q d there changes main)
