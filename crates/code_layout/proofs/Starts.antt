-- The first words of globals, found in the order of their numbers.
use Rattle.std.proofs.Common.{◌≡◌, ℕ, ◌+◌, ◌<◌, ◌≤◌, List, [], ◌∷◌, ◌++◌, length, get_or, slice_index, take, refl, sym, ap, ◌∙◌, subst, ⊎_elim, arith}
use Rattle.std.proofs.lemmas.List.{get_or-map, get_or_push, get_or_append_left, length_push, take_all, length-map}
use Rattle.std.proofs.lemmas.List.Sums.{sum-map, sum_by_more, sum_by-take-le}
use Rattle.std.proofs.lemmas.Bool.{cases_lt}
use Rattle.std.specs.List.{sum_by}
use Rattle.tac_ir.specs.declared.code.Code.{Code}
use Rattle.tac_ir.specs.declared.code.Global.{Global}
use Rattle.tac_ir.specs.Layout.{shape_words, shapes_of_globals}
use Rattle.code_layout.specs.LaidOut.{global_start}

-- these are the first words of the first n globals, and next is the word behind them
pub record AreStarts (c : Code) (n : ℕ) (starts : List ℕ) (next : ℕ) : Type 0 where
  pub count : length starts ≡ n
  pub each : (g : ℕ) → g < n → slice_index starts g ≡ global_start c g
  pub behind : next ≡ global_start c n

-- a start, by one sum
global_start-sum : (c : Code) (n : ℕ) → global_start c n ≡ 16 + sum_by (shape_words c) (take n (shapes_of_globals c))
global_start-sum c n = ap (λ s. 16 + s) (sum-map (shape_words c) (take n (shapes_of_globals c)))

-- one more global adds the words of its shape
pub global_start-more : (c : Code) (n : ℕ) (d : Global) → n < length c.globals → global_start c (n + 1) ≡ global_start c n + shape_words c (get_or c.globals n d).shape
global_start-more c n d inside =
    let count : length (shapes_of_globals c) ≡ length c.globals = length-map c.globals (λ x. x.shape) in
    let read : get_or (shapes_of_globals c) n 0 ≡ (get_or c.globals n d).shape = get_or-map (λ x. x.shape) c.globals n d 0 inside in
    let more : sum_by (shape_words c) (take (n + 1) (shapes_of_globals c)) ≡ sum_by (shape_words c) (take n (shapes_of_globals c)) + shape_words c (get_or (shapes_of_globals c) n 0) = sum_by_more (shape_words c) (shapes_of_globals c) n 0 (omega arith) in
    let word : shape_words c (get_or (shapes_of_globals c) n 0) ≡ shape_words c (get_or c.globals n d).shape = ap (shape_words c) read in
    omega (arith, more, word, global_start-sum c n, global_start-sum c (n + 1))

-- one more global adds its size, read in a list of sizes
pub global_start-read : (c : Code) (globals : List Global) (n : ℕ) (d : Global) (sizes seen : List ℕ) (size : ℕ) → globals ≡ c.globals → n < length globals → seen ≡ sizes → ((s : ℕ) → slice_index sizes s ≡ shape_words c s) → size ≡ slice_index seen (get_or globals n d).shape → global_start c (n + 1) ≡ global_start c n + size
global_start-read c globals n d sizes seen size same inside copy words is =
    let within : n < length c.globals = subst (λ xs. n < length xs) same inside in
    let word : size ≡ shape_words c (get_or c.globals n d).shape = is ∙ (ap (λ xs. slice_index xs (get_or globals n d).shape) copy ∙ (words (get_or globals n d).shape ∙ ap (λ xs. shape_words c (get_or xs n d).shape) same)) in
    omega (arith, word, global_start-more c n d within)

pub global_start-le : (c : Code) (n : ℕ) → global_start c n ≤ global_start c (length c.globals)
global_start-le c n =
    let count : length (shapes_of_globals c) ≡ length c.globals = length-map c.globals (λ x. x.shape) in
    let all : take (length c.globals) (shapes_of_globals c) ≡ shapes_of_globals c = take_all _ _ (omega arith) in
    let whole : sum_by (shape_words c) (take (length c.globals) (shapes_of_globals c)) ≡ sum_by (shape_words c) (shapes_of_globals c) = ap (sum_by (shape_words c)) all in
    omega (arith, whole, sum_by-take-le (shape_words c) (shapes_of_globals c) n, global_start-sum c n, global_start-sum c (length c.globals))

pub AreStarts-none : (c : Code) → AreStarts c 0 [] 16
AreStarts-none c = record { count = refl; each = λ g h. absurd (omega arith); behind = refl }

-- the starts and the word behind them, in one list
pub AreStarts-push : (c : Code) (n : ℕ) (starts : List ℕ) (next : ℕ) → AreStarts c n starts next → (g : ℕ) → g ≤ n → slice_index (starts ++ next ∷ []) g ≡ global_start c g
AreStarts-push c n starts next so_far g within =
    ⊎_elim
    (λ (low : g < length starts). get_or_append_left starts (next ∷ []) 0 g low ∙ so_far.each g (omega (arith, so_far.count)))
    (λ (high : length starts ≤ g).
    let here : g ≡ n = omega (arith, so_far.count) in
    get_or_push starts next 0 g (omega (arith, so_far.count)) ∙ (so_far.behind ∙ ap (global_start c) (sym here)))
    (cases_lt g (length starts))

pub AreStarts-more : (c : Code) (n : ℕ) (starts : List ℕ) (next after : ℕ) → AreStarts c n starts next → after ≡ global_start c (n + 1) → AreStarts c (n + 1) (starts ++ next ∷ []) after
AreStarts-more c n starts next after so_far is = record {
  count = length_push starts next ∙ ap (λ k. k + 1) so_far.count;
  each = λ g h. AreStarts-push c n starts next so_far g (omega arith);
  behind = is;
}

global_start-up : (c : Code) (g : ℕ) → g < length c.globals → global_start c g ≤ global_start c (g + 1)
global_start-up c g inside =
    let count : length (shapes_of_globals c) ≡ length c.globals = length-map c.globals (λ x. x.shape) in
    omega (arith, sum_by_more (shape_words c) (shapes_of_globals c) g 0 (omega arith), global_start-sum c g, global_start-sum c (g + 1))

pub AreStarts-up : (c : Code) (n : ℕ) (starts : List ℕ) (next : ℕ) → AreStarts c n starts next → n ≡ length c.globals → (g : ℕ) → g < n → slice_index (starts ++ next ∷ []) g ≤ slice_index (starts ++ next ∷ []) (g + 1)
AreStarts-up c n starts next so_far all g inside =
    omega (arith, AreStarts-push c n starts next so_far g (omega arith), AreStarts-push c n starts next so_far (g + 1) (omega arith), global_start-up c g (omega arith))
