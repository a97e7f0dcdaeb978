-- Counts that stop at the greatest `u32` decide as those that do not.
use Rattle.std.proofs.Common.{◌≡◌, ℕ, ◌+◌, ◌-◌, ◌^◌, ◌<◌, ◌≤◌, min, true, false, List, [], ◌∷◌, ◌++◌, map, sum, take, get_or, slice_index, Option, Some, None, length, reverse, refl, ap, sym, ◌∙◌, inl, inr, arith}
use Rattle.std.specs.Prelude.{is_some}
use Rattle.std.proofs.lemmas.Bool.{lt-ltb, le-ltb, ne_eqb, cases_eq, cases_lt}
use Rattle.std.proofs.Common.{eq-eqb}
use Rattle.std.proofs.lemmas.List.{take_more, length-take-le, length-reverse, length-append, reverse-append, get_or_push, get_or_append_left, get_or_past, map_push, map-append}
use Rattle.std.proofs.lemmas.List.Sums.{sum_by-cons, sum_by_push}
use Rattle.tac_ir.specs.declared.code.Shape.{Shape}
use Rattle.tac_ir.specs.declared.code.Instr.{Instr}
use Rattle.tac_ir.specs.declared.code.Lined.{Lined}
use Rattle.tac_ir.specs.declared.code.Code.{Code}
use Rattle.tac_ir.specs.Counts.{nodes_by, nodes_in, shape_nodes}
use Rattle.tac_ir.specs.Numbers.{new_def, numbers_in}
use Rattle.tac_lower.specs.Limits.{Share, passing, starting_in, defs_in, def_shares, global_nodes, fun_nodes, site_nodes, node_shares}
use Rattle.tac_lower.specs.tools.Counting.{capped, capped_share, AreNodes, is_def}

-- A limit.
pub passing-stops : (limit : ℕ) (s : Share) (rest : List Share) → limit < s.count → passing limit (s ∷ rest) ≡ Some s.line
passing-stops limit s rest lt = rw (lt-ltb limit s.count lt, passing) refl

pub passing-goes : (limit : ℕ) (s : Share) (rest : List Share) → s.count ≤ limit → passing limit (s ∷ rest) ≡ passing (limit - s.count) rest
passing-goes limit s rest le = rw (le-ltb limit s.count le, passing) refl

pub passing-capped : (limit : ℕ) (shares : List Share) → limit < 2 ^ 32 - 1 → passing limit (map capped_share shares) ≡ passing limit shares
passing-capped limit [] small = refl
passing-capped limit (s ∷ shares) small =
    elim (cases_lt limit s.count) [
      | inl lt ↦ passing-stops limit (capped_share s) (map capped_share shares) (omega arith) ∙ sym (passing-stops limit s shares lt)
      | inr le ↦
          let whole : capped s.count ≡ s.count = omega arith in
          passing-goes limit (capped_share s) (map capped_share shares) (omega arith) ∙ ap (λ n. passing (limit - n) (map capped_share shares)) whole
          ∙ passing-capped (limit - s.count) shares (omega arith) ∙ sym (passing-goes limit s shares le)
    ]

-- Sums.
pub capped-add : (a b : ℕ) → min (capped a + b) (2 ^ 32 - 1) ≡ capped (a + b)
capped-add a b = omega arith

capped-sums : (f g : ℕ → ℕ) (parts : List ℕ) → ((s : ℕ) → f s ≡ capped (g s)) → capped (sum (map f parts)) ≡ capped (sum (map g parts))
capped-sums f g [] each = refl
capped-sums f g (s ∷ parts) each =
    let one = sum_by-cons (λ x. x) (f s) (map f parts) in
    let other = sum_by-cons (λ x. x) (g s) (map g parts) in
    let rest : capped (sum (map f parts)) ≡ capped (sum (map g parts)) = capped-sums f g parts each in
    let here = each s in
    omega arith

pub capped-nodes : (f g : ℕ → ℕ) (shape : Shape) → ((s : ℕ) → f s ≡ capped (g s)) → capped (nodes_by f shape) ≡ capped (nodes_by g shape)
capped-nodes f g Shape.Int each = refl
capped-nodes f g Shape.Ptr each = refl
capped-nodes f g (Shape.Array len item) each = (let here = each item in omega arith)
capped-nodes f g (Shape.Struct parts) each = (let all : capped (sum (map f parts)) ≡ capped (sum (map g parts)) = capped-sums f g parts each in omega arith)

pub total_more : (nodes shapes : List ℕ) (i s total : ℕ) → i < length shapes → s ≡ get_or shapes i s → total ≡ capped (sum (map (slice_index nodes) (take i shapes)))
    → min (total + slice_index nodes s) (2 ^ 32 - 1) ≡ capped (sum (map (slice_index nodes) (take (i + 1) shapes)))
total_more nodes shapes i s total lt is so_far =
    let longer : take (i + 1) shapes ≡ take i shapes ++ s ∷ [] = take_more shapes i s lt ∙ ap (λ y. take i shapes ++ y ∷ []) (sym is) in
    let mapped : map (slice_index nodes) (take (i + 1) shapes) ≡ map (slice_index nodes) (take i shapes) ++ slice_index nodes s ∷ []
    = ap (map (slice_index nodes)) longer ∙ map_push (slice_index nodes) (take i shapes) s in
    let all : sum (map (slice_index nodes) (take (i + 1) shapes)) ≡ sum (map (slice_index nodes) (take i shapes)) + slice_index nodes s
    = ap sum mapped ∙ sum_by_push (λ x. x) (map (slice_index nodes) (take i shapes)) (slice_index nodes s) in
    ap (λ n. min (n + slice_index nodes s) (2 ^ 32 - 1)) so_far ∙ capped-add (sum (map (slice_index nodes) (take i shapes))) (slice_index nodes s) ∙ ap capped (sym all)

-- Nodes.
at_last : (shape : Shape) (earlier : List Shape) (s : ℕ) → s ≡ length earlier → nodes_in (shape ∷ earlier) s ≡ nodes_by (nodes_in earlier) shape
unfolding nodes_in
at_last shape earlier s is = rw (eq-eqb s (length earlier) is, nodes_in) refl

at_other : (shape : Shape) (earlier : List Shape) (s : ℕ) → (s ≡ length earlier → ⊥) → nodes_in (shape ∷ earlier) s ≡ nodes_in earlier s
unfolding nodes_in
at_other shape earlier s other = rw (ne_eqb s (length earlier) other, nodes_in) refl

before_push : (nodes : List ℕ) (n s : ℕ) → (s ≡ length nodes → ⊥) → slice_index (nodes ++ n ∷ []) s ≡ slice_index nodes s
before_push nodes n s other =
    elim (cases_lt s (length nodes)) [
      | inl lt ↦ get_or_append_left nodes (n ∷ []) 0 s lt
      | inr le ↦ (let long = length-append nodes (n ∷ []) in
          get_or_past (nodes ++ n ∷ []) s 0 (omega arith) ∙ sym (get_or_past nodes s 0 le))
    ]

pub nodes_more : (shapes : List Shape) (i : ℕ) (shape : Shape) (nodes : List ℕ) (n : ℕ) → i < length shapes → shape ≡ get_or shapes i shape → length nodes ≡ i
    → n ≡ capped (nodes_by (slice_index nodes) shape) → AreNodes (take i shapes) nodes → AreNodes (take (i + 1) shapes) (nodes ++ n ∷ [])
nodes_more shapes i shape nodes n lt is count counted each =
    let earlier = reverse (take i shapes) in
    let longer : take (i + 1) shapes ≡ take i shapes ++ shape ∷ [] = take_more shapes i shape lt ∙ ap (λ y. take i shapes ++ y ∷ []) (sym is) in
    let turned : reverse (take (i + 1) shapes) ≡ shape ∷ earlier = ap reverse longer ∙ reverse-append (take i shapes) (shape ∷ []) in
    let long : length earlier ≡ i = length-reverse (take i shapes) ∙ length-take-le i shapes (omega arith) in
    λ s.
    elim (cases_eq s i) [
      | inl same ↦
          ap (slice_index (nodes ++ n ∷ [])) same ∙ get_or_push nodes n 0 i count ∙ counted ∙ capped-nodes (slice_index nodes) (nodes_in earlier) shape each
          ∙ ap capped (sym (at_last shape earlier s (same ∙ sym long))) ∙ ap (λ xs. capped (nodes_in xs s)) (sym turned)
      | inr other ↦
          before_push nodes n s (λ e. other (e ∙ count)) ∙ each s
          ∙ ap capped (sym (at_other shape earlier s (λ e. other (e ∙ long)))) ∙ ap (λ xs. capped (nodes_in xs s)) (sym turned)
    ]

-- Definitions.
def_is : (i : Instr) → is_def i ≡ is_some (new_def i)
def_is (Instr.Set place a d) = refl
def_is (Instr.Store a b d) = refl
def_is (Instr.Call to f d args) = refl
def_is i = refl

one_more : (l : Lined) (rest : List Lined) (o : Option ℕ) → new_def l.instr ≡ o → length (numbers_in new_def (l ∷ rest)) ≡ elim o [ Some n ↦ 1 + length (numbers_in new_def rest) | None ↦ length (numbers_in new_def rest) ]
one_more l rest (Some n) is = rw (is, numbers_in) (omega arith)
one_more l rest None is = rw (is, numbers_in) refl

numbers-append : (ls ks : List Lined) → length (numbers_in new_def (ls ++ ks)) ≡ length (numbers_in new_def ls) + length (numbers_in new_def ks)
numbers-append [] ks = omega arith
numbers-append (l ∷ ls) ks =
    let rest : length (numbers_in new_def (ls ++ ks)) ≡ length (numbers_in new_def ls) + length (numbers_in new_def ks) = numbers-append ls ks in
    let go : (o : Option ℕ) → new_def l.instr ≡ o → length (numbers_in new_def (l ∷ (ls ++ ks))) ≡ length (numbers_in new_def (l ∷ ls)) + length (numbers_in new_def ks)
    = λ o. elim o as (λ o. new_def l.instr ≡ o → length (numbers_in new_def (l ∷ (ls ++ ks))) ≡ length (numbers_in new_def (l ∷ ls)) + length (numbers_in new_def ks)) [
      | Some n ↦ λ is. (let a = one_more l (ls ++ ks) (Some n) is in let b = one_more l ls (Some n) is in omega arith)
      | None ↦ λ is. (let a = one_more l (ls ++ ks) None is in let b = one_more l ls None is in omega arith)
    ] in
    go (new_def l.instr) refl

defs_push : (lines : List Lined) (i : ℕ) (l : Lined) → i < length lines → l ≡ get_or lines i l
    → length (numbers_in new_def (take (i + 1) lines)) ≡ length (numbers_in new_def (take i lines)) + length (numbers_in new_def (l ∷ []))
defs_push lines i l lt is =
    let longer : take (i + 1) lines ≡ take i lines ++ l ∷ [] = take_more lines i l lt ∙ ap (λ y. take i lines ++ y ∷ []) (sym is) in
    ap (λ ls. length (numbers_in new_def ls)) longer ∙ numbers-append (take i lines) (l ∷ [])

pub defs_one : (lines : List Lined) (i count : ℕ) (l : Lined) → i < length lines → l ≡ get_or lines i l → is_def l.instr ≡ true
    → count ≡ capped (length (numbers_in new_def (take i lines))) → min (count + 1) (2 ^ 32 - 1) ≡ capped (length (numbers_in new_def (take (i + 1) lines)))
defs_one lines i count l lt is defines so_far =
    let more = defs_push lines i l lt is in
    let go : (o : Option ℕ) → new_def l.instr ≡ o → length (numbers_in new_def (l ∷ [])) ≡ 1
    = λ o. elim o as (λ o. new_def l.instr ≡ o → length (numbers_in new_def (l ∷ [])) ≡ 1) [
      | Some n ↦ λ at. one_more l [] (Some n) at
      | None ↦ λ at. absurd (let b : true ≡ false = sym defines ∙ def_is l.instr ∙ ap is_some at in cc)
    ] in
    let one : length (numbers_in new_def (l ∷ [])) ≡ 1 = go (new_def l.instr) refl in
    omega arith

pub defs_same : (lines : List Lined) (i count : ℕ) (l : Lined) → i < length lines → l ≡ get_or lines i l → is_def l.instr ≡ false
    → count ≡ capped (length (numbers_in new_def (take i lines))) → count ≡ capped (length (numbers_in new_def (take (i + 1) lines)))
defs_same lines i count l lt is other so_far =
    let more = defs_push lines i l lt is in
    let go : (o : Option ℕ) → new_def l.instr ≡ o → length (numbers_in new_def (l ∷ [])) ≡ 0
    = λ o. elim o as (λ o. new_def l.instr ≡ o → length (numbers_in new_def (l ∷ [])) ≡ 0) [
      | Some n ↦ λ at. absurd (let b : false ≡ true = sym other ∙ def_is l.instr ∙ ap is_some at in cc)
      | None ↦ λ at. one_more l [] None at
    ] in
    let none : length (numbers_in new_def (l ∷ [])) ≡ 0 = go (new_def l.instr) refl in
    so_far ∙ ap capped (let e : length (numbers_in new_def (take i lines)) ≡ length (numbers_in new_def (take (i + 1) lines)) = omega arith in e)

pub no_nodes : AreNodes [] []
unfolding nodes_in
no_nodes = λ s. ap capped (get_or_past [] s 0 (omega arith))

-- Shares.
map_map : {A B C : Type 0} (f : A → B) (g : B → C) (xs : List A) → map g (map f xs) ≡ map (λ x. g (f x)) xs
map_map f g [] = refl
map_map f g (x ∷ xs) = ap (λ ys. g (f x) ∷ ys) (map_map f g xs)

map_same : {A B : Type 0} (f g : A → B) → ((x : A) → f x ≡ g x) → (xs : List A) → map f xs ≡ map g xs
map_same f g same [] = refl
map_same f g same (x ∷ xs) = ap (λ y. y ∷ map f xs) (same x) ∙ ap (λ ys. g x ∷ ys) (map_same f g same xs)

-- the shares of one kind
shares_of : {A : Type 0} (f g : A → Share) (xs : List A) → ((x : A) → f x ≡ capped_share (g x)) → map f xs ≡ map capped_share (map g xs)
shares_of f g xs same = map_same f (λ x. capped_share (g x)) same xs ∙ sym (map_map g capped_share xs)

pub def_shares-capped : (c : Code) → map (λ g. capped_share (starting_in g)) c.globals ++ map (λ f. capped_share (defs_in f)) c.funs ≡ map capped_share (def_shares c)
def_shares-capped c =
    ap (λ xs. xs ++ map (λ f. capped_share (defs_in f)) c.funs) (sym (map_map starting_in capped_share c.globals))
    ∙ ap (λ xs. map capped_share (map starting_in c.globals) ++ xs) (sym (map_map defs_in capped_share c.funs))
    ∙ sym (map-append capped_share (map starting_in c.globals) (map defs_in c.funs))

pub node_shares-capped : (c : Code) (nodes : List ℕ) → AreNodes c.shapes nodes
    → map (λ g. record { count = slice_index nodes g.shape; line = g.line }) c.globals
    ++ map (λ f. record { count = capped (sum (map (slice_index nodes) f.vars)); line = f.line }) c.funs
    ++ map (λ s. record { count = slice_index nodes s.shape; line = s.line }) c.sites ≡ map capped_share (node_shares c)
node_shares-capped c nodes each =
    let last : List Share = map capped_share (map (site_nodes c) c.sites) in
    let one = shares_of (λ g. record { count = slice_index nodes g.shape; line = g.line }) (global_nodes c) c.globals (λ g. ap (λ n. record { count = n; line = g.line }) (each g.shape)) in
    let two = shares_of (λ f. record { count = capped (sum (map (slice_index nodes) f.vars)); line = f.line }) (fun_nodes c) c.funs
    (λ f. ap (λ n. record { count = n; line = f.line }) (capped-sums (slice_index nodes) (shape_nodes c) f.vars each)) in
    let three = shares_of (λ s. record { count = slice_index nodes s.shape; line = s.line }) (site_nodes c) c.sites (λ s. ap (λ n. record { count = n; line = s.line }) (each s.shape)) in
    (λ j. one j ++ two j ++ three j)
    ∙ ap (λ xs. xs ++ last) (sym (map-append capped_share (map (global_nodes c) c.globals) (map (fun_nodes c) c.funs)))
    ∙ sym (map-append capped_share (map (global_nodes c) c.globals ++ map (fun_nodes c) c.funs) (map (site_nodes c) c.sites))
