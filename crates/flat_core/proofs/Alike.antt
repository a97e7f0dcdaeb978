-- Along given names there is one run, or one place at which they are refused.
use Rattle.std.proofs.Common.{◌≡◌, ℕ, zero, suc, ◌-◌, ◌<◌, ◌≤◌, List, [], ◌∷◌, ◌++◌, length, reverse, take, refl, Some, arith, sym, ◌∙◌, ap, subst, ⊎_elim, inl, inr}
use Rattle.std.specs.Prelude.{ℤ, slice_get}
use Rattle.std.proofs.lemmas.Bool.{cases_lt}
use Rattle.std.proofs.lemmas.List.{map-append, length-map, length-append, length-reverse, length-take-le, append_assoc, reverse-append, reverse-reverse}
use Rattle.std.proofs.lemmas.Option.{slice_get_within}
use Rattle.dfi_base.specs.declared.numbers.Name.{Name}
use Rattle.dfi_base.specs.Lives.{IsRunnable}
use Rattle.tac_ir.specs.declared.run.Entry.{Entry}
use Rattle.tac_ir.specs.Module.{Module}
use Rattle.tac_ir.specs.Threads.{threads_of}
use Rattle.tac_ir.specs.CoreRun.{Follows, IsHistory, IsEnd}
use Rattle.tac_ir.proofs.OneRun.{follows_one, end_one}
use Rattle.flat_core.specs.Runs.{names_of, IsRefused, IsRefusedAt}
use Rattle.flat_core.specs.Laws.{OneEntryFollows, OneRunAlong, OneRefusal, NoRunWhereRefused}

pub one_entry : OneEntryFollows
one_entry m input h d e name a b = follows_one m input h d e (ap (λ (n : Name). n.0) name) a b

-- Lists of names.

names_turned : (h : List Entry) → names_of (reverse h) ≡ reverse (names_of h)
names_turned [] = refl
names_turned (e ∷ h) =
    ap names_of (reverse-append (e ∷ []) h) ∙ map-append (λ (x : Entry). x.name) (reverse h) (e ∷ []) ∙ ap (λ l. l ++ e.name ∷ []) (names_turned h)
    ∙ sym (reverse-append (e.name ∷ []) (names_of h))

front : (xs ys : List Name) → take (length xs) (xs ++ ys) ≡ xs
front [] ys = refl
front (x ∷ xs) ys = ap (λ l. x ∷ l) (front xs ys)

behind : (xs : List Name) (y : Name) (ys : List Name) → slice_get (xs ++ y ∷ ys) (length xs) ≡ Some y
behind [] y ys = refl
behind (x ∷ xs) y ys = behind xs y ys

front_of_front : (n l : ℕ) (xs : List Name) → n ≤ l → take n (take l xs) ≡ take n xs
front_of_front zero l xs h = refl
front_of_front (suc n) zero xs h = absurd (omega (arith, h))
front_of_front (suc n) (suc l) [] h = refl
front_of_front (suc n) (suc l) (x ∷ xs) h = ap (λ r. x ∷ r) (front_of_front n l xs (omega (arith, h)))

in_front : (n l : ℕ) (xs : List Name) → n < l → slice_get (take l xs) n ≡ slice_get xs n
in_front n zero xs h = absurd (omega (arith, h))
in_front n (suc l) [] h = refl
in_front zero (suc l) (x ∷ xs) h = refl
in_front (suc n) (suc l) (x ∷ xs) h = in_front n l xs (omega (arith, h))

-- Histories.

module _ (m : Module) (input : List ℤ) where
  -- histories by the same names are one
  same_names : (xs ys : List Entry) → names_of xs ≡ names_of ys → IsHistory m input xs → IsHistory m input ys → xs ≡ ys
  unfolding IsHistory
  same_names [] [] same hx hy = refl
  same_names [] (y ∷ ys) same hx hy = cc
  same_names (x ∷ xs) [] same hx hy = cc
  same_names (x ∷ xs) (y ∷ ys) same hx hy =
      let rest : names_of xs ≡ names_of ys = cc in
      let name : x.name ≡ y.name = cc in
      let tails = same_names xs ys rest hx.1 hy.1 in
      let heads = follows_one m input ys x y (ap (λ (n : Name). n.0) name) (subst (λ h. Follows m input h x) tails hx.0) hy.0 in
      λ i. heads i ∷ tails i

  same_turned : (xs ys : List Entry) → names_of (reverse xs) ≡ names_of (reverse ys) → IsHistory m input xs → IsHistory m input ys → xs ≡ ys
  same_turned xs ys same =
      let names : reverse (names_of xs) ≡ reverse (names_of ys) = sym (names_turned xs) ∙ same ∙ names_turned ys in
      same_names xs ys (sym (reverse-reverse (names_of xs)) ∙ ap reverse names ∙ reverse-reverse (names_of ys))

  -- an entry of a history, with those before it
  record IsPart (n : ℕ) (h : List Entry) : Type 0 where
    later : List Entry
    entry : Entry
    earlier : List Entry
    parts : h ≡ later ++ entry ∷ earlier
    count : length earlier ≡ n
    follows : Follows m input earlier entry
    history : IsHistory m input earlier

  part : (n : ℕ) (h : List Entry) → n < length h → IsHistory m input h → IsPart n h
  unfolding IsHistory
  part n [] within history = absurd (omega (arith, within))
  part n (e ∷ h) within history = ⊎_elim
      (λ (below : n < length h). (
      let p = part n h below history.1 in
      record { later = e ∷ p.later; entry = p.entry; earlier = p.earlier; parts = ap (λ l. e ∷ l) p.parts; count = p.count; follows = p.follows; history = p.history }))
      (λ (here : length h ≤ n). record { later = []; entry = e; earlier = h; parts = refl; count = omega (arith, here, within); follows = history.0; history = history.1 })
      (cases_lt n (length h))

  -- where names are refused, no history goes on by them
  refused_stops : (budget k : ℕ) (names all : List Name) (h : List Entry) → (r : IsRefusedAt m input budget names k) → IsHistory m input h → names_of (reverse h) ≡ all → length h ≤ budget → k - 1 < length h
      → take (k - 1) all ≡ take (k - 1) names → slice_get all (k - 1) ≡ slice_get names (k - 1) → ⊥
  refused_stops budget k names all h r history made within long same_front same_here =
      let p = part (k - 1) h long history in
      let turned : reverse h ≡ (reverse p.earlier ++ p.entry ∷ []) ++ reverse p.later =
      ap reverse p.parts ∙ reverse-append p.later (p.entry ∷ p.earlier) ∙ ap (λ l. l ++ reverse p.later) (reverse-append (p.entry ∷ []) p.earlier) in
      let xs = names_of (reverse p.earlier) in
      let rest = names_of (reverse p.later) in
      let all_is : all ≡ xs ++ p.entry.name ∷ rest =
      sym made ∙ ap names_of turned ∙ map-append (λ (x : Entry). x.name) (reverse p.earlier ++ p.entry ∷ []) (reverse p.later)
      ∙ ap (λ l. l ++ rest) (map-append (λ (x : Entry). x.name) (reverse p.earlier) (p.entry ∷ [])) ∙ append_assoc xs (p.entry.name ∷ []) rest in
      let size : length xs ≡ k - 1 = length-map (reverse p.earlier) (λ (x : Entry). x.name) ∙ length-reverse p.earlier ∙ p.count in
      let before : xs ≡ take (k - 1) names = sym (front xs (p.entry.name ∷ rest)) ∙ ap (λ l. take (length xs) l) (sym all_is) ∙ ap (λ n. take n all) size ∙ same_front in
      let here : Some p.entry.name ≡ Some r.name = sym (behind xs p.entry.name rest) ∙ ap (λ l. slice_get l (length xs)) (sym all_is) ∙ ap (slice_get all) size ∙ same_here ∙ r.here in
      let one : p.earlier ≡ r.history = same_turned p.earlier r.history (before ∙ sym r.before) p.history r.run in
      let name : p.entry.name ≡ r.name = cc in
      let f = subst (λ l. Follows m input l p.entry) one p.follows in
      by f name (omega (arith, within, ap length p.parts, length-append p.later (p.entry ∷ p.earlier), ap length one)) r.refused
    where
      by : {e : Entry} → Follows m input r.history e → e.name ≡ r.name → length r.history < budget → IsRefused m budget r.history r.name → ⊥
      by f name room (inl (inl stop)) = stop f.going
      by f name room (inl (inr over)) = f.living over
      by f name room (inr (inl spent)) = omega (arith, room, spent)
      by f name room (inr (inr never)) = never (subst (λ (n : Name). IsRunnable (threads_of m) r.history n.0) name (f.start, f.want, f.next))

pub no_run : NoRunWhereRefused
no_run m input budget names k j r run =
    let size : length (reverse j.entries) ≡ length names = length-reverse j.entries ∙ sym (length-map j.entries (λ (x : Entry). x.name)) ∙ ap length run.made in
    let here = slice_get_within names (k - 1) r.name r.here in
    refused_stops m input budget k names names (reverse j.entries) r run.run.history (ap names_of (reverse-reverse j.entries) ∙ run.made) (omega (arith, run.run.within, length-reverse j.entries))
    (omega (arith, size, here)) refl refl

-- names that are refused at k have no run up to a later place
no_later : (m : Module) (input : List ℤ) (budget : ℕ) (names : List Name) (k l : ℕ) → IsRefusedAt m input budget names k → IsRefusedAt m input budget names l → k < l → ⊥
no_later m input budget names k l a b low =
    let within = slice_get_within names (l - 1) b.name b.here in
    let size : length b.history ≡ l - 1 =
    sym (length-reverse b.history) ∙ sym (length-map (reverse b.history) (λ (x : Entry). x.name)) ∙ ap length b.before ∙ length-take-le (l - 1) names (omega (arith, within)) in
    refused_stops m input budget k names (take (l - 1) names) b.history a b.run b.before b.within (omega (arith, size, low, a.low))
    (front_of_front (k - 1) (l - 1) names (omega (arith, low))) (in_front (k - 1) (l - 1) names (omega (arith, low, a.low)))

pub one_refusal : OneRefusal
one_refusal m input budget names k l a b = ⊎_elim
    (λ (below : k < l). absurd (no_later m input budget names k l a b below))
    (λ (high : l ≤ k). ⊎_elim (λ (above : l < k). absurd (no_later m input budget names l k b a above)) (λ (low : k ≤ l). omega (arith, high, low)) (cases_lt l k))
    (cases_lt k l)

pub one_run : OneRunAlong
one_run m input budget names j k a b =
    let same : names_of (reverse (reverse j.entries)) ≡ names_of (reverse (reverse k.entries)) =
    ap names_of (reverse-reverse j.entries) ∙ a.made ∙ sym b.made ∙ sym (ap names_of (reverse-reverse k.entries)) in
    let histories = same_turned m input (reverse j.entries) (reverse k.entries) same a.run.history b.run.history in
    let entries : j.entries ≡ k.entries = sym (reverse-reverse j.entries) ∙ ap reverse histories ∙ reverse-reverse k.entries in
    let ends = end_one m budget (reverse k.entries) j.end k.end (subst (λ h. IsEnd m budget h j.end) histories a.run.end) b.run.end in
    λ i. record { entries = entries i; end = ends i }
