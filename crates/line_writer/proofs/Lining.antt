-- Lines are put behind a text.
use Rattle.std.proofs.Common.{◌≡◌, ℕ, suc, ◌+◌, ◌<◌, ◌≤◌, false, List, [], ◌∷◌, ◌++◌, length, drop, take, get_or, map, refl, sym, ap, subst, ◌∙◌, append_assoc, length-append, arith}
use Rattle.std.specs.Prelude.{slice_index}
use Rattle.std.specs.List.{All, flat_map}
use Rattle.std.proofs.lemmas.List.{drop_more, take_more}
use Rattle.std.proofs.lemmas.List.Elements.{All-push}
use Rattle.dfi_base.specs.Limits.{file_limit}
use Rattle.line_format.specs.Lines.{greatest, line, lines, Fit}
use Rattle.line_writer.specs.Writes.{Writes}

-- what comes behind a line comes behind its newline
line_ends : (ws : List (List ℕ)) (r : List ℕ) → line ws r ≡ line ws [] ++ r
line_ends [] r = refl
line_ends (w ∷ []) r = sym (append_assoc w (10 ∷ []) r)
line_ends (w ∷ v ∷ ws) r = ap (λ z. w ++ 32 ∷ z) (line_ends (v ∷ ws) r) ∙ sym (append_assoc w (32 ∷ line (v ∷ ws) []) r)

pub line_written : (ws : List (List ℕ)) (old new : List ℕ) → new ≡ old ++ line ws [] → Writes (line ws) old new
line_written ws old new e r =
    ap (λ z. z ++ r) e ∙ (append_assoc old (line ws []) r ∙ ap (λ z. old ++ z) (sym (line_ends ws r)))

-- one piece behind another
pub then_written : (f g : List ℕ → List ℕ) (old mid new : List ℕ) → Writes f old mid → Writes g mid new → Writes (λ r. f (g r)) old new
then_written f g old mid new w v r = v r ∙ w (g r)

-- a line that ends in a list of words
pub listed_line : {A : Type 0} (f : A → List ℕ) (w : List ℕ) (xs : List A) → line (w ∷ map f xs) [] ≡ w ++ (flat_map (λ x. 32 ∷ f x) xs ++ 10 ∷ [])
listed_line f w [] = refl
listed_line f w (x ∷ xs) = ap (λ z. w ++ 32 ∷ z) (listed_line f (f x) xs ∙ sym (append_assoc (f x) (flat_map (λ y. 32 ∷ f y) xs) (10 ∷ [])))

-- one more line of a list
pub line_more : {A : Type 0} (words : A → List (List ℕ)) (xs : List A) (i : ℕ) (x : A) (first now new : List ℕ) → i < length xs → x ≡ get_or xs i x
    → ((rest : List ℕ) → now ++ lines words (drop i xs) rest ≡ first ++ lines words xs rest) → new ≡ now ++ line (words x) []
    → (rest : List ℕ) → new ++ lines words (drop (i + 1) xs) rest ≡ first ++ lines words xs rest
line_more words xs i x first now new within is before e rest =
    let d : drop i xs ≡ x ∷ drop (i + 1) xs = drop_more xs i x within ∙ ap (λ y. y ∷ drop (i + 1) xs) (sym is) in
    line_written (words x) now new e (lines words (drop (i + 1) xs) rest) ∙ (ap (λ l. now ++ lines words l rest) (sym d) ∙ before rest)

-- pieces, and what comes behind them
abbrev pub after : List (List ℕ) → List ℕ → List ℕ
after [] last = last
after (p ∷ ps) last = p ++ after ps last

after_ends : (ps : List (List ℕ)) (last tail : List ℕ) → after ps last ++ tail ≡ after ps (last ++ tail)
after_ends [] last tail = refl
after_ends (p ∷ ps) last tail = append_assoc p (after ps last) tail ∙ ap (λ z. p ++ z) (after_ends ps last tail)

-- pieces are put behind a text, and then the end of the last one
pub joined : (ps : List (List ℕ)) (old last tail mid new all : List ℕ) → mid ≡ old ++ after ps last → new ≡ mid ++ tail → all ≡ last ++ tail → new ≡ old ++ after ps all
joined ps old last tail mid new all e f g =
    f ∙ (ap (λ z. z ++ tail) e ∙ (append_assoc old (after ps last) tail ∙ ap (λ z. old ++ z) (after_ends ps last tail ∙ ap (λ z. after ps z) (sym g))))

-- a line has a byte
pub line_some : (ws : List (List ℕ)) (r : List ℕ) → 0 < length (line ws r)
line_some [] r = omega arith
line_some (w ∷ []) r = omega (arith, length-append w (10 ∷ r))
line_some (w ∷ v ∷ ws) r = omega (arith, length-append w (32 ∷ line (v ∷ ws) r))

-- what stands behind a text that is too long is too long
pub longer : (new tail all : List ℕ) → new ++ tail ≡ all → file_limit < length new → file_limit < length all
longer new tail all e h = omega (arith, h, length-append new tail, ap length e)

-- one more line, and one more value that fits
module _ {A : Type 0} (P : A → Type 0) (xs : List A) (i : ℕ) (x : A) (within : i < length xs) (is : x ≡ get_or xs i x) where
  pub fit_more : All P (take i xs) → P x → All P (take (i + 1) xs)
  fit_more h p = subst (All P) (sym (take_more xs i x within)) (All-push P (take i xs) (get_or xs i x) h (subst P is p))

-- numbers of 32 bits
pub any_fit : (xs : List ℕ) → ((k : ℕ) → slice_index xs k ≤ greatest) → Fit false 0 xs
any_fit [] h = tt
any_fit (x ∷ xs) h = (omega arith, h 0, any_fit xs (λ k. h (suc k)))
