-- The words before the first step.
use Rattle.std.proofs.Common.{◌≡◌, ℕ, suc, ◌+◌, ◌-◌, ◌<◌, ◌≤◌, List, [], ◌∷◌, ◌++◌, length, Bool, true, false, refl, arith, sym, ◌∙◌, ap, ⊎_elim}
use Rattle.std.proofs.lemmas.List.Sums.{sum_by-cons}
use Rattle.std.specs.Prelude.{nat_lt, slice_index, replicate, map, sum}
use Rattle.std.proofs.lemmas.Bool.{cases_lt, le-ltb, lt-ltb}
use Rattle.std.proofs.lemmas.List.{length-replicate, length-append, length-map, take_all, get_or_append_left, get_or-append_right, get_or_past, get_or-replicate, append_assoc}
use Rattle.tac_ir.specs.declared.code.Global.{Global}
use Rattle.tac_ir.specs.Module.{Module}
use Rattle.tac_ir.specs.Words.{word_of}
use Rattle.tac_ir.specs.Layout.{shape_words, shapes_of_globals, memory_words}
use Rattle.tac_ir.specs.Last.{Written, unwritten, starting, last_write}
use Rattle.tac_ir.specs.Answers.{class_of}
use Rattle.code_layout.specs.LaidOut.{global_start}
use Rattle.word_table.specs.declared.areas.Area.{Area}
use Rattle.word_table.specs.tools.Areas.{area_at, areas_from, cells_of, area_words, memory_of}
use Rattle.word_table.specs.Words.{Words}
use Rattle.word_table.specs.Holds.{HoldsAfter}
use Rattle.word_table.specs.tools.BitRows.{AreRowsOf}
use Rattle.word_table.specs.Tables.{CanRun}
use Rattle.tac_ir.specs.declared.module.Size.{Size}

-- a run of one value in front of a list
in_run : (n v : ℕ) (rest : List ℕ) (k : ℕ) → k < n → slice_index (replicate n v ++ rest) k ≡ v
in_run n v rest k h =
    get_or_append_left (replicate n v) rest 0 k (omega (arith, h, length-replicate n v)) ∙ get_or-replicate n k v 0 h

behind_run : (n v : ℕ) (rest : List ℕ) (k : ℕ) → n ≤ k → slice_index (replicate n v ++ rest) k ≡ slice_index rest (k - n)
behind_run n v rest k h = get_or-append_right (replicate n v) rest n k 0 (length-replicate n v) h

zeros : (n k : ℕ) → slice_index (replicate n 0) k ≡ 0
zeros n k = ⊎_elim (λ h. get_or-replicate n k 0 0 h) (λ h. get_or_past (replicate n 0) k 0 (omega (arith, h, length-replicate {A = ℕ} n 0))) (cases_lt k n)

abbrev chosen : Bool → Written → Written → Written
chosen b x y = elim b [ true ↦ x | false ↦ y ]

choose_true : (b : Bool) (x y : Written) → b ≡ true → chosen b x y ≡ x
choose_true b x y h = ap (λ c. chosen c x y) h

choose_false : (b : Bool) (x y : Written) → b ≡ false → chosen b x y ≡ y
choose_false b x y h = ap (λ c. chosen c x y) h

module _ (m : Module) (sizes : List ℕ) (sized : (s : ℕ) → slice_index sizes s ≡ shape_words m.code s)
    (held : Area → ℕ) (seen : Written → ℕ) (nothing : seen unwritten ≡ 0)
    (same : (g : ℕ) (x : Global) → held (area_at sizes m (suc g) x) ≡ seen (record { def = suc g; value = word_of x.start })) where
  -- the cells from the first of these globals on are those of their starting definitions
  cells : (globals : List Global) (g at z w : ℕ) → at ≤ w → slice_index (cells_of held (areas_from sizes m g globals) ++ replicate z 0) (w - at) ≡ seen (starting m.code globals g at w)
  unfolding starting
  cells [] g at z w h = zeros z (w - at) ∙ sym nothing
  cells (x ∷ globals) g at z w h =
      let area = area_at sizes m (suc g) x in
      let n = shape_words m.code x.shape in
      let later = cells_of held (areas_from sizes m (suc g) globals) in
      let here : Written = record { def = suc g; value = word_of x.start } in
      let rest = starting m.code globals (suc g) (at + n) w in
      let split : (replicate area.words (held area) ++ later) ++ replicate z 0 ≡ replicate n (held area) ++ (later ++ replicate z 0) =
      append_assoc (replicate area.words (held area)) later (replicate z 0) ∙ ap (λ k. replicate k (held area) ++ (later ++ replicate z 0)) (sized x.shape) in
      let outer = choose_false (nat_lt w at) unwritten (chosen (nat_lt w (at + n)) here rest) (le-ltb w at h) in
      ap (λ l. slice_index l (w - at)) split
      ∙ ⊎_elim
      (λ (low : w < at + n). in_run n (held area) _ (w - at) (omega (arith, low, h)) ∙ same g x ∙ ap seen (sym (outer ∙ choose_true (nat_lt w (at + n)) here rest (lt-ltb w (at + n) low))))
      (λ (high : at + n ≤ w). behind_run n (held area) _ (w - at) (omega (arith, high))
      ∙ ap (λ k. slice_index (later ++ replicate z 0) k) (let e : w - at - n ≡ w - (at + n) = omega arith in e)
      ∙ cells globals (suc g) (at + n) z w high
      ∙ ap seen (sym (outer ∙ choose_false (nat_lt w (at + n)) here rest (le-ltb w (at + n) high))))
      (cases_lt w (at + n))

  reserved : (globals : List Global) (w : ℕ) → w < 16 → seen (starting m.code globals 0 16 w) ≡ 0
  unfolding starting
  reserved [] w h = nothing
  reserved (x ∷ globals) w h = ap seen (choose_true (nat_lt w 16) unwritten _ (lt-ltb w 16 h)) ∙ nothing

  -- so is the whole memory
  pub starts : (size : ℕ) (globals : List Global) (w : ℕ) → slice_index (memory_of held size (areas_from sizes m 0 globals)) w ≡ seen (starting m.code globals 0 16 w)
  starts size globals w =
      let areas = areas_from sizes m 0 globals in
      let z = size - (16 + area_words areas) in
      ap (λ l. slice_index l w) (append_assoc (replicate 16 0) (cells_of held areas) (replicate z 0))
      ∙ ⊎_elim
      (λ (low : w < 16). in_run 16 0 (cells_of held areas ++ replicate z 0) w low ∙ sym (reserved globals w low))
      (λ (high : 16 ≤ w). behind_run 16 0 (cells_of held areas ++ replicate z 0) w high ∙ cells globals 0 16 z w high)
      (cases_lt w 16)

sum-cons : (x : ℕ) (xs : List ℕ) → sum (x ∷ xs) ≡ x + sum xs
sum-cons x xs = sum_by-cons (λ n. n) x xs

length_cells : (held : Area → ℕ) (areas : List Area) → length (cells_of held areas) ≡ area_words areas
length_cells held [] = refl
length_cells held (a ∷ areas) =
    length-append (replicate a.words (held a)) (cells_of held areas) ∙ ap (λ n. n + length (cells_of held areas)) (length-replicate a.words (held a)) ∙ ap (λ n. a.words + n) (length_cells held areas)
    ∙ sym (sum-cons a.words (map (λ b. b.words) areas))

pub length_memory : (held : Area → ℕ) (size : ℕ) (areas : List Area) → 16 + area_words areas ≤ size → length (memory_of held size areas) ≡ size
length_memory held size areas h =
    let z = size - (16 + area_words areas) in
    let zs : List ℕ = replicate z 0 in
    let front : List ℕ = replicate 16 0 in
    let a : length zs ≡ z = length-replicate {A = ℕ} z 0 in
    let b : length front ≡ 16 = length-replicate {A = ℕ} 16 0 in
    omega (arith, h, a, b, length_cells held areas, length-append (front ++ cells_of held areas) zs, length-append front (cells_of held areas))

words_of_areas : (m : Module) (sizes : List ℕ) → ((s : ℕ) → slice_index sizes s ≡ shape_words m.code s) → (g : ℕ) (globals : List Global)
    → area_words (areas_from sizes m g globals) ≡ sum (map (shape_words m.code) (map (λ x. x.shape) globals))
words_of_areas m sizes sized g [] = refl
words_of_areas m sizes sized g (x ∷ globals) =
    sum-cons (slice_index sizes x.shape) (map (λ a. a.words) (areas_from sizes m (suc g) globals))
    ∙ ap (λ n. n + area_words (areas_from sizes m (suc g) globals)) (sized x.shape) ∙ ap (λ n. shape_words m.code x.shape + n) (words_of_areas m sizes sized (suc g) globals)
    ∙ sym (sum-cons (shape_words m.code x.shape) (map (shape_words m.code) (map (λ y. y.shape) globals)))

-- the areas end where the globals end
pub areas_end : (m : Module) (sizes : List ℕ) → ((s : ℕ) → slice_index sizes s ≡ shape_words m.code s) → 16 + area_words (areas_from sizes m 0 m.code.globals) ≡ global_start m.code (length m.code.globals)
areas_end m sizes sized =
    ap (λ n. 16 + n) (words_of_areas m sizes sized 0 m.code.globals
    ∙ ap (λ l. sum (map (shape_words m.code) l)) (sym (take_all (length m.code.globals) (shapes_of_globals m.code) (omega (arith, length-map m.code.globals (λ x. x.shape))))))

pub first_words : (m : Module) (sizes : List ℕ) (t : Words) → ((s : ℕ) → slice_index sizes s ≡ shape_words m.code s) → 16 + area_words (areas_from sizes m 0 m.code.globals) ≤ memory_words m.size
    → t.values ≡ memory_of (λ a. a.value) (memory_words m.size) (areas_from sizes m 0 m.code.globals) → t.classes ≡ memory_of (λ a. a.class) (memory_words m.size) (areas_from sizes m 0 m.code.globals)
    → AreRowsOf m t.rows → HoldsAfter m [] t
unfolding last_write
first_words m sizes t sized fit values classes rows =
    let areas = areas_from sizes m 0 m.code.globals in
    let size = memory_words m.size in
    record {
      values = ap length values ∙ length_memory (λ a. a.value) size areas fit;
      classes = ap length classes ∙ length_memory (λ a. a.class) size areas fit;
      value = λ w low. (ap (λ l. slice_index l w) values ∙ starts m sizes sized (λ a. a.value) (λ l. l.value) refl (λ g x. refl) size m.code.globals w);
      class = λ w low. (ap (λ l. slice_index l w) classes ∙ starts m sizes sized (λ a. a.class) (λ l. class_of m l.def) refl (λ g x. refl) size m.code.globals w);
      rows = rows;
    }

roomy : (size : Size) → 8192 ≤ memory_words size
roomy Size.Small = omega arith
roomy Size.Large = omega arith

abbrev AreSized : Module → List ℕ → Type 0
AreSized m sizes = (s : ℕ) → slice_index sizes s ≡ shape_words m.code s

-- the areas fit into the memory
pub fits : (m : Module) (sizes : List ℕ) (areas : List Area) (size : ℕ) → CanRun m → AreSized m sizes → areas ≡ areas_from sizes m 0 m.code.globals → size ≡ memory_words m.size → 16 + area_words areas ≤ size
fits m sizes areas size can sized is same = omega (arith, same, roomy m.size, can.form.globals.words, areas_end m sizes sized, ap area_words is)

pub begins : (m : Module) (sizes : List ℕ) (areas : List Area) (size : ℕ) (t : Words) → CanRun m → AreSized m sizes → areas ≡ areas_from sizes m 0 m.code.globals → size ≡ memory_words m.size
    → t.values ≡ memory_of (λ a. a.value) size areas → t.classes ≡ memory_of (λ a. a.class) size areas → AreRowsOf m t.rows → HoldsAfter m [] t
begins m sizes areas size t can sized is same values classes rows =
    first_words m sizes t sized (fits m sizes (areas_from sizes m 0 m.code.globals) (memory_words m.size) can sized refl refl)
    (values ∙ ap (λ n. memory_of (λ a. a.value) n areas) same ∙ ap (memory_of (λ a. a.value) (memory_words m.size)) is)
    (classes ∙ ap (λ n. memory_of (λ a. a.class) n areas) same ∙ ap (memory_of (λ a. a.class) (memory_words m.size)) is)
    rows
