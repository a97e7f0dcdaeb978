-- The last writer of a word, in a history and among globals.
use Rattle.std.proofs.Common.{◌≡◌, ℕ, zero, suc, ◌+◌, ◌<◌, ◌≤◌, Bool, cond, List, [], ◌∷◌, ◌++◌, length, get_or, slice_index, take, map, reverse, Option, Some, None, refl, sym, ap, ◌∙◌, ⊎_elim, arith, zero-add}
use Rattle.std.specs.Prelude.{nat_lt, not, unwrap_or}
use Rattle.std.specs.Option.{option_map}
use Rattle.std.proofs.lemmas.List.{reverse-append}
use Rattle.std.specs.List.{prefix_len, position_or_len, position, sum_by}
use Rattle.std.proofs.lemmas.List.Sums.{sum-map, sum_by-cons}
use Rattle.std.proofs.lemmas.Bool.{cases_lt, lt-ltb, le-ltb}
use Rattle.std.proofs.lemmas.Grind.{same_number_lists}
use Rattle.tac_ir.specs.declared.code.Code.{Code}
use Rattle.tac_ir.specs.declared.code.Global.{Global}
use Rattle.tac_ir.specs.declared.run.Entry.{Entry}
use Rattle.tac_ir.specs.Layout.{shape_words, globals_from, shapes_of_globals}
use Rattle.tac_ir.specs.Last.{Written, last_write, starting, write_to}
use Rattle.code_layout.specs.LaidOut.{global_start}
use Rattle.alarm_report.specs.Writers.{writer_in}

pick : (o : Option Written) (x : Written) (y : Option ℕ) (start : ℕ) → x.def ≡ unwrap_or y start
    → (let last : Written = elim o [ Some written ↦ written | None ↦ x ] in last.def) ≡ unwrap_or (elim o [ Some written ↦ Some written.def | None ↦ y ]) start
pick (Some written) x y start h = refl
pick None x y start h = h

-- the last write is in the history, or the word still has its starting definition
pub last_write-def : (c : Code) (h : List Entry) (w : ℕ) → (last_write c h w).def ≡ unwrap_or (writer_in h w) (starting c c.globals 0 globals_from w).def
unfolding last_write writer_in
last_write-def c [] w = refl
last_write-def c (e ∷ h) w = pick (write_to w e.op e.answer) _ _ _ (last_write-def c h w)

taken : (o : Option Written) (later : Option ℕ) (d : ℕ) → Some d ≡ option_map (λ v. v.def) o → (elim o [ Some written ↦ Some written.def | None ↦ later ]) ≡ Some d
taken (Some written) later d is = sym is
taken None later d is = cc

skipped : (o : Option Written) (later : Option ℕ) → None ≡ option_map (λ v. v.def) o → (elim o [ Some written ↦ Some written.def | None ↦ later ]) ≡ later
skipped (Some written) later is = cc
skipped None later is = refl

-- the newest entry writes the word, or it does not
pub writer_in-taken : (entries before : List Entry) (e : Entry) (w d : ℕ) → entries ≡ before ++ e ∷ [] → Some d ≡ option_map (λ v. v.def) (write_to w e.op e.answer) → writer_in (reverse entries) w ≡ Some d
unfolding writer_in
writer_in-taken entries before e w d split is =
    ap (λ xs. writer_in (reverse xs) w) split ∙ (ap (λ h. writer_in h w) (reverse-append before (e ∷ [])) ∙ taken (write_to w e.op e.answer) (writer_in (reverse before) w) d is)

pub writer_in-skipped : (entries before : List Entry) (e : Entry) (w : ℕ) → entries ≡ before ++ e ∷ [] → None ≡ option_map (λ v. v.def) (write_to w e.op e.answer) → writer_in (reverse entries) w ≡ writer_in (reverse before) w
unfolding writer_in
writer_in-skipped entries before e w split is =
    ap (λ xs. writer_in (reverse xs) w) split ∙ (ap (λ h. writer_in h w) (reverse-append before (e ∷ [])) ∙ skipped (write_to w e.op e.answer) (writer_in (reverse before) w) is)

pub writer_in-none : (entries : List Entry) (w : ℕ) → length entries ≡ 0 → writer_in (reverse entries) w ≡ None
unfolding writer_in
writer_in-none [] w h = refl
writer_in-none (e ∷ entries) w h = absurd (omega arith)

-- the starts of globals of which the first stands at a word, and the word behind them
abbrev running : Code → List Global → ℕ → List ℕ
running c [] at = at ∷ []
running c (x ∷ globals) at = at ∷ running c globals (at + shape_words c x.shape)

length-running : (c : Code) (globals : List Global) (at : ℕ) → length (running c globals at) ≡ length globals + 1
length-running c [] at = refl
length-running c (x ∷ globals) at = omega (arith, length-running c globals (at + shape_words c x.shape))

get_or-running : (c : Code) (globals : List Global) (at n : ℕ) → n ≤ length globals
    → get_or (running c globals at) n 0 ≡ at + sum_by (shape_words c) (take n (map (λ g. g.shape) globals))
get_or-running c [] at zero h = omega arith
get_or-running c [] at (suc n) h = absurd (omega arith)
get_or-running c (x ∷ globals) at zero h = omega arith
get_or-running c (x ∷ globals) at (suc n) h =
    omega (arith, get_or-running c globals (at + shape_words c x.shape) n (omega arith), sum_by-cons (shape_words c) x.shape (take n (map (λ g. g.shape) globals)))

running-starts : (c : Code) (starts : List ℕ) → length starts ≡ length c.globals + 1 → ((g : ℕ) → g ≤ length c.globals → slice_index starts g ≡ global_start c g)
    → starts ≡ running c c.globals globals_from
running-starts c starts count each =
    same_number_lists _ _ (count ∙ sym (length-running c c.globals globals_from))
    (λ k h. each k (omega arith) ∙ (ap (λ s. 16 + s) (sum-map (shape_words c) (take k (shapes_of_globals c))) ∙ sym (get_or-running c c.globals globals_from k (omega arith))))

-- whether a start is not above word w
abbrev pub is_reached : ℕ → ℕ → Bool
is_reached w start = not (nat_lt w start)

reached : (w start : ℕ) (rest : List ℕ) → start ≤ w → prefix_len (is_reached w) (start ∷ rest) ≡ 1 + prefix_len (is_reached w) rest
reached w start rest h = rw (le-ltb w start h) refl

unreached : (w start : ℕ) (rest : List ℕ) → w < start → prefix_len (is_reached w) (start ∷ rest) ≡ 0
unreached w start rest h = rw (lt-ltb w start h) refl

-- how many of these starts are reached, and the starting definition of the word
record Found (n count def g : ℕ) : Type 0 where
  among : n < count → def ≡ g + n
  behind : count ≤ n → def ≡ 0

starting-below : (c : Code) (globals : List Global) (g at w : ℕ) → w < at → starting c globals g at w ≡ record { def = 0; value = 0 }
unfolding starting
starting-below c [] g at w h = refl
starting-below c (x ∷ globals) g at w h = rw (lt-ltb w at h, starting) refl

starting-here : (c : Code) (x : Global) (globals : List Global) (g at w : ℕ) → at ≤ w → w < at + shape_words c x.shape → (starting c (x ∷ globals) g at w).def ≡ suc g
unfolding starting
starting-here c x globals g at w low high = rw (le-ltb w at low, lt-ltb w (at + shape_words c x.shape) high, starting) refl

starting-later : (c : Code) (x : Global) (globals : List Global) (g at w : ℕ) → at ≤ w → at + shape_words c x.shape ≤ w → starting c (x ∷ globals) g at w ≡ starting c globals (suc g) (at + shape_words c x.shape) w
unfolding starting
starting-later c x globals g at w low high = rw (le-ltb w at low, le-ltb w (at + shape_words c x.shape) high, starting) refl

unreached-all : (c : Code) (globals : List Global) (at w : ℕ) → w < at → prefix_len (is_reached w) (running c globals at) ≡ 0
unreached-all c [] at w h = unreached w at [] h
unreached-all c (x ∷ globals) at w h = unreached w at _ h

starting-found : (c : Code) (globals : List Global) (g at w : ℕ) → at ≤ w → Found (prefix_len (is_reached w) (running c globals at)) (length globals + 1) (starting c globals g at w).def g
unfolding starting
starting-found c [] g at w low =
    let one = reached w at [] low in
    record { among = λ h. absurd (omega arith); behind = λ h. refl }
starting-found c (x ∷ globals) g at w low =
    let after = at + shape_words c x.shape in
    let first : prefix_len (is_reached w) (running c (x ∷ globals) at) ≡ 1 + prefix_len (is_reached w) (running c globals after) = reached w at (running c globals after) low in
    ⊎_elim
    (λ (here : w < after).
    let none = unreached-all c globals after w here in
    let is = starting-here c x globals g at w low here in
    record { among = λ h. omega arith; behind = λ h. absurd (omega arith) })
    (λ (past : after ≤ w).
    let rest = starting-found c globals (suc g) after w past in
    let is : (starting c (x ∷ globals) g at w).def ≡ (starting c globals (suc g) after w).def = ap (λ v. v.def) (starting-later c x globals g at w low past) in
    record {
      among = λ h. omega (arith, is, rest.among (omega arith));
      behind = λ h. is ∙ rest.behind (omega arith);
    })
    (cases_lt w after)

position-at : (p : ℕ → Bool) (xs : List ℕ) (def : ℕ) → (position_or_len p xs < length xs → def ≡ position_or_len p xs) → (length xs ≤ position_or_len p xs → def ≡ 0) → def ≡ unwrap_or (position p xs) 0
position-at p xs def among behind =
    ⊎_elim
    (λ (inside : position_or_len p xs < length xs). among inside ∙ sym (ap (λ b. unwrap_or (cond b (Some (position_or_len p xs)) None) 0) (lt-ltb (position_or_len p xs) (length xs) inside)))
    (λ (past : length xs ≤ position_or_len p xs). behind past ∙ sym (ap (λ b. unwrap_or (cond b (Some (position_or_len p xs)) None) 0) (le-ltb (position_or_len p xs) (length xs) past)))
    (cases_lt (position_or_len p xs) (length xs))

starting-position : (c : Code) (w : ℕ) → (starting c c.globals 0 globals_from w).def ≡ unwrap_or (position (λ start. nat_lt w start) (running c c.globals globals_from)) 0
starting-position c w =
    let starts = running c c.globals globals_from in
    let count : length starts ≡ length c.globals + 1 = length-running c c.globals globals_from in
    position-at (λ start. nat_lt w start) starts _
    (λ inside. ⊎_elim
    (λ (low : w < globals_from). ap (λ v. v.def) (starting-below c c.globals 0 globals_from w low) ∙ sym (unreached-all c c.globals globals_from w low))
    (λ (high : globals_from ≤ w). (starting-found c c.globals 0 globals_from w high).among (omega arith) ∙ zero-add _)
    (cases_lt w globals_from))
    (λ past. ⊎_elim
    (λ (low : w < globals_from). ap (λ v. v.def) (starting-below c c.globals 0 globals_from w low))
    (λ (high : globals_from ≤ w). (starting-found c c.globals 0 globals_from w high).behind (omega arith))
    (cases_lt w globals_from))

-- the starting definition of a word, by the first start above it
pub starting-def : (c : Code) (starts : List ℕ) (w : ℕ) → length starts ≡ length c.globals + 1 → ((g : ℕ) → g ≤ length c.globals → slice_index starts g ≡ global_start c g)
    → (starting c c.globals 0 globals_from w).def ≡ unwrap_or (position (λ start. nat_lt w start) starts) 0
starting-def c starts w count each =
    starting-position c w ∙ ap (λ xs. unwrap_or (position (λ start. nat_lt w start) xs) 0) (sym (running-starts c starts count each))
