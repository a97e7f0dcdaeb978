-- Opening and closing scopes in the code.
use Rattle.std.proofs.Common.{◌≡◌, ℕ, zero, suc, ◌-◌, ◌<◌, ◌≤◌, List, [], ◌∷◌, ◌++◌, length, take, slice_get, Option, Some, None, MatchOption, refl, ap, sym, ◌∙◌, subst, arith}
use Rattle.c_types.specs.declared.table.Table.{Table}
use Rattle.c_types.specs.declared.scopes.Binding.{Binding}
use Rattle.c_types.specs.declared.scopes.Scopes.{Scopes}
use Rattle.c_types.specs.tools.Tables.{put}
use Rattle.c_types.specs.tools.KnownSteps.{start_of, without_last, restored, bindings_from, closed}
use Rattle.c_types.proofs.TableLaws.{past}

pub start_past : (ns : List ℕ) → slice_get ns (length ns - 1) ≡ None → 0 ≡ start_of ns
start_past ns is = past ns (length ns - 1) 0 is

without_pushed : (ns : List ℕ) (n : ℕ) → without_last (ns ++ n ∷ []) ≡ ns
without_pushed [] n = refl
without_pushed (m ∷ []) n = refl
without_pushed (l ∷ m ∷ ns) n = ap (λ ms. l ∷ ms) (without_pushed (m ∷ ns) n)

pub popped : (r : Option ℕ) (old new : List ℕ) → MatchOption r ((old ≡ []) × (new ≡ [])) (λ last. old ≡ new ++ last ∷ []) → new ≡ without_last old
popped None old new is = is.1 ∙ sym (ap without_last is.0)
popped (Some n) old new is = sym (ap without_last is ∙ without_pushed new n)

pub bindings_more : (n : ℕ) (bs : List Binding) (b : Binding) → n ≤ length bs → bindings_from n (bs ++ b ∷ []) ≡ bindings_from n bs ++ b ∷ []
bindings_more zero bs b le = refl
bindings_more (suc n) [] b le = absurd (omega (arith, le))
bindings_more (suc n) (c ∷ bs) b le = bindings_more n bs b (omega (arith, le))

pub restored_more : (bs : List Binding) (b : Binding) (t : Table) → restored (bs ++ b ∷ []) t ≡ restored bs (put b.name b.hidden t)
restored_more [] b t = refl
restored_more (c ∷ bs) b t = ap (λ t. put c.name c.hidden t) (restored_more bs b t)

bindings_none : (n : ℕ) (bs : List Binding) → length bs ≤ n → bindings_from n bs ≡ []
bindings_none zero [] le = refl
bindings_none zero (b ∷ bs) le = absurd (omega (arith, le))
bindings_none (suc n) [] le = refl
bindings_none (suc n) (b ∷ bs) le = bindings_none n bs (omega (arith, le))

take_whole : (n : ℕ) (bs : List Binding) → length bs ≤ n → take n bs ≡ bs
take_whole zero [] le = refl
take_whole zero (b ∷ bs) le = absurd (omega (arith, le))
take_whole (suc n) [] le = refl
take_whole (suc n) (b ∷ bs) le = ap (λ cs. b ∷ cs) (take_whole n bs (omega (arith, le)))

take_front : (n : ℕ) (bs : List Binding) (b : Binding) → n ≤ length bs → take n (bs ++ b ∷ []) ≡ take n bs
take_front zero bs b le = refl
take_front (suc n) [] b le = absurd (omega (arith, le))
take_front (suc n) (c ∷ bs) b le = ap (λ cs. c ∷ cs) (take_front n bs b (omega (arith, le)))

-- what is left to take away, in the middle of a closing
pub record Closing (n : ℕ) (first now : Scopes) : Type 0 where
  pub restores : restored (bindings_from n now.bindings) now.newest ≡ restored (bindings_from n first.bindings) first.newest
  pub keeps : take n now.bindings ≡ take n first.bindings
  pub opens : now.starts ≡ first.starts

pub closing_starts : (n : ℕ) (s : Scopes) → Closing n s s
closing_starts n s = record { restores = refl; keeps = refl; opens = refl }

pub closing_goes_on : (n : ℕ) (first : Scopes) (bs cs : List Binding) (starts : List ℕ) (t u : Table) (b : Binding) → bs ≡ cs ++ b ∷ [] → n < length bs → u ≡ put b.name b.hidden t
    → Closing n first (record { bindings = bs; starts = starts; newest = t }) → Closing n first (record { bindings = cs; starts = starts; newest = u })
closing_goes_on n first bs cs starts t u b popped less undone is =
    let le : n ≤ length cs = omega (arith, less, ap length popped, long cs b) in
    record {
      restores =
          ap (λ u. restored (bindings_from n cs) u) undone ∙ sym (restored_more (bindings_from n cs) b t) ∙ ap (λ ds. restored ds t) (sym (bindings_more n cs b le))
          ∙ ap (λ ds. restored (bindings_from n ds) t) (sym popped) ∙ is.restores;
      keeps = sym (take_front n cs b le) ∙ ap (λ ds. take n ds) (sym popped) ∙ is.keeps;
      opens = is.opens;
    } where
      long : (cs : List Binding) (b : Binding) → length (cs ++ b ∷ []) ≡ suc (length cs)
      long [] b = refl
      long (c ∷ cs) b = ap suc (long cs b)

pub closing_ends : (s first now : Scopes) → first ≡ record { bindings = s.bindings; starts = without_last s.starts; newest = s.newest }
    → length now.bindings ≤ start_of s.starts → Closing (start_of s.starts) first now → closed s ≡ now
closing_ends s first now begins le is =
    let n = start_of s.starts in
    ap (λ f. record { bindings = take n f.bindings; starts = f.starts; newest = restored (bindings_from n f.bindings) f.newest }) (sym begins)
    ∙ ap (λ bs. record { bindings = bs; starts = first.starts; newest = restored (bindings_from n first.bindings) first.newest }) (sym is.keeps ∙ take_whole n now.bindings le)
    ∙ ap (λ ns. record { bindings = now.bindings; starts = ns; newest = restored (bindings_from n first.bindings) first.newest }) (sym is.opens)
    ∙ ap (λ t. record { bindings = now.bindings; starts = now.starts; newest = t })
    (sym is.restores ∙ ap (λ bs. restored bs now.newest) (bindings_none n now.bindings le))

pub closing_at : (s first now : Scopes) (n : ℕ) → n ≡ start_of s.starts → first ≡ record { bindings = s.bindings; starts = without_last s.starts; newest = s.newest }
    → length now.bindings ≤ n → Closing n first now → closed s ≡ now
closing_at s first now n e begins le is = closing_ends s first now begins (subst (λ m. length now.bindings ≤ m) e le) (subst (λ m. Closing m first now) e is)
