-- Keys of rows rise, and leave room for those that are owed.
use Rattle.std.proofs.Common.{◌≡◌, ℕ, suc, ◌+◌, ◌-◌, ◌^◌, ◌<◌, ◌≤◌, ◌⊎◌, inl, inr, Bool, true, false, List, [], ◌∷◌, ◌++◌, length, refl, sym, ap, subst, ◌∙◌, length-append, arith}
use Rattle.std.specs.Prelude.{codes, nat_le, nat_lt, if◌then◌else◌}
use Rattle.std.specs.Fmt.{decimal}
use Rattle.std.proofs.lemmas.Bool.{leb-true, leb-false}
use Rattle.dfi_base.specs.declared.numbers.Point.{Point}
use Rattle.tac_ir.specs.declared.module.Key.{Key}
use Rattle.line_format.specs.Lines.{greatest}
use Rattle.line_format.specs.tools.Format.{chain, Has}
use Rattle.line_format.specs.tools.Number.{number_and}
use Rattle.line_format.specs.tools.Words.{Table, one_of, are_distinct}
use Rattle.line_format.specs.tools.Keys.{Pair, after_pair, most_first, most_second, least_second, pair_key}
use Rattle.line_format.proofs.Formats.{Good}
use Rattle.line_format.proofs.Digits.{false_true}
use Rattle.line_format.proofs.Tables.{Begins, In, one_is, one_good}
use Rattle.line_format.proofs.OneWord.{has_of}
use Rattle.line_format.proofs.Pairs.{From, Room, Open, Before, from_after, next_open, pair_good, first_range, second_range, key_in, in_key, after_by}
use Rattle.line_format.proofs.Spells.{Spells, number_spells, behind, mapped}
use Rattle.line_format.proofs.Spelling.{and_text, and_is, word_text, word_is, word_good}
use Rattle.line_format.proofs.Keyed.{AreKeys}
use Rattle.text_law.specs.tools.Keys as form
use Rattle.text_law.specs.tools.Keys.{NextKey, temps, nodes}
use Rattle.text_law.proofs.Basics.{in_nth, Rows, row_in}

-- ---- pairs of numbers

abbrev pair_text : Pair → List ℕ → List ℕ
pair_text k r = decimal k.0 ++ 32 ∷ (decimal k.1 ++ 32 ∷ r)

pub pairs : (least : Pair) (owed : ℕ) → Open least owed → Spells (pair_key least owed) (λ k. From least k × Room k owed) pair_text
pairs least owed way = record {
  good = pair_good least owed way;
  has = λ (f, i) (from, room) r.
      let (a, b, c, d) = in_key least owed way f i from room in
      let x : List ℕ = decimal i ++ 32 ∷ r in
      (f, x, and_text 32 least.0 (most_first least owed) refl small_first f a b x, (i, r, and_text 32 (least_second least f) (most_second f owed) refl (small_second f a b) i c d r, (refl, refl)));
  is = λ ts k r (f, m, h, (i, n, g, (e, w))). pair_is ts k r f m i n h g e w;
}
  where
    small_first : most_first least owed < 2 ^ 64
    small_first = omega (arith, (first_range least owed way).1)

    small_second : (f : ℕ) → least.0 ≤ f → f ≤ most_first least owed → most_second f owed < 2 ^ 64
    small_second f a b = omega (arith, (second_range least owed way f a b).1)

    pair_is : (ts : List ℕ) (k : Pair) (r : List ℕ) (f : ℕ) (m : List ℕ) (i : ℕ) (n : List ℕ) → Has (number_and 32 least.0 (most_first least owed)) ts f m
        → Has (number_and 32 (least_second least f) (most_second f owed)) m i n → ◌≡◌ {A = Pair} (f, i) k → n ≡ r → (From least k × Room k owed) × (ts ≡ pair_text k r)
    pair_is ts k r f m i n h g e w =
        let (a, b, t) = and_is 32 least.0 (most_first least owed) refl small_first ts f m h in
        let (c, d, u) = and_is 32 (least_second least f) (most_second f owed) refl (small_second f a b) m i n g in
        subst (λ z. (From least z × Room z owed) × (ts ≡ pair_text z r)) e
        (key_in least owed way f i a b c d, t ∙ ap (λ z. decimal f ++ 32 ∷ z) (u ∙ ap (λ z. decimal i ++ 32 ∷ z) w))

pair_takes : (k : Pair) (r : List ℕ) → length r < length (pair_text k r)
pair_takes k r = omega (arith, length-append (decimal k.0) (32 ∷ (decimal k.1 ++ 32 ∷ r)), length-append (decimal k.1) (32 ∷ r))

before_room : (k j : Pair) (n : ℕ) → n < greatest → j.0 ≤ greatest → Before k j → Room j n → Room k (suc n)
before_room k j n few high before room = grind (arith, few, high, before, room)

-- ---- points

abbrev pub FromPoint : Pair → Point → Type 0
FromPoint least p = From least (p.fun, p.at)

abbrev pub PointRoom : Point → ℕ → Type 0
PointRoom p n = Room (p.fun, p.at) n

abbrev pub point_text : Point → List ℕ → List ℕ
point_text p r = codes "at " ++ pair_text (p.fun, p.at) r

pub points : AreKeys form.point_key form.next_point Open FromPoint PointRoom point_text
points = record {
  spells = λ s owed way.
      mapped (behind (pairs s owed way) (codes "at ")) (λ p. FromPoint s p × PointRoom p owed) (λ k. record { fun = k.0; at = k.1 }) (λ p. (p.fun, p.at)) (λ p i. (i, refl)) (λ k i. (i, refl));
  next_open = λ s p n way from room. next_open (p.fun, p.at) n from.1 from.2 way.1 room;
  takes = λ p r. omega (arith, pair_takes (p.fun, p.at) r);
  none_owed = λ s p from. inr (omega (arith, from.2));
  room_before = λ s p q n few i j room. before_room (p.fun, p.at) (q.fun, q.at) n few j.1 (from_after (p.fun, p.at) (q.fun, q.at) i.2 j.2 j) room;
}

-- ---- temporaries and nodes

abbrev pub OpenKey : NextKey → ℕ → Type 0
OpenKey (temps least) owed = (least.1 ≤ greatest) × (owed ≤ greatest)
OpenKey (nodes least) owed = least + owed ≤ greatest

abbrev pub FromKey : NextKey → Key → Type 0
FromKey (temps least) (Key.Temp f t) = From least (f, t)
FromKey (temps least) (Key.Node n) = n ≤ greatest
FromKey (nodes least) (Key.Temp f t) = ⊥
FromKey (nodes least) (Key.Node n) = (least ≤ n) × (n ≤ greatest)

abbrev pub KeyRoom : Key → ℕ → Type 0
KeyRoom (Key.Temp f t) owed = owed ≤ greatest
KeyRoom (Key.Node n) owed = n + owed ≤ greatest

abbrev pub key_text : Key → List ℕ → List ℕ
key_text (Key.Temp f t) r = codes "temp " ++ pair_text (f, t) r
key_text (Key.Node n) r = codes "node " ++ (decimal n ++ 32 ∷ r)

abbrev letter : Bool → List ℕ
letter temp = elim temp [ true ↦ codes "temp " | false ↦ codes "node " ]

node_spells : (least owed : ℕ) → least + owed ≤ greatest → Spells (form.node_key least owed) (λ k. FromKey (nodes least) k × KeyRoom k owed)
    (λ k r. elim k as (λ p. List ℕ) [ Key.Temp f t ↦ r | Key.Node n ↦ decimal n ++ 32 ∷ r ])
node_spells least owed way =
    let s = number_spells 32 least (greatest - owed) refl (omega arith) (omega arith) in
    record {
      good = (s.good, λ n g. tt);
      has = node_has;
      is = λ ts k r (n, m, h, (e, w)).
          let ((low, high), t) = s.is ts n m h in
          subst (λ z. (FromKey (nodes least) z × KeyRoom z owed) × (ts ≡ elim z as (λ p. List ℕ) [ Key.Temp f t ↦ r | Key.Node n ↦ decimal n ++ 32 ∷ r ])) e
          (((low, omega arith), omega arith), t ∙ ap (λ z. decimal n ++ 32 ∷ z) w);
    }
  where
    node_has : (k : Key) → FromKey (nodes least) k × KeyRoom k owed → (r : List ℕ) → Has (form.node_key least owed) (elim k as (λ p. List ℕ) [ Key.Temp f t ↦ r | Key.Node n ↦ decimal n ++ 32 ∷ r ]) k r
    node_has (Key.Temp f t) (i, j) r = absurd i
    node_has (Key.Node n) ((low, high), room) r = (n, r, and_text 32 least (greatest - owed) refl (omega arith) n low (omega arith) r, (refl, refl))

-- which words may come
abbrev Letters : Bool → Table Bool
Letters any = if any then (codes "temp ", true) ∷ (codes "node ", false) ∷ [] else (codes "node ", false) ∷ []

abbrev IsLetter : Bool → List ℕ → Bool → Type 0
IsLetter any w temp = (w ≡ letter temp) × (0 < length w) × (temp ≡ true → any ≡ true)

letters : (any : Bool) → Rows (IsLetter any) (Letters any)
letters true = ((refl, omega arith, λ e. refl), ((refl, omega arith, λ e. refl), tt))
letters false = ((refl, omega arith, λ e. e), tt)

letters_some : (any : Bool) → Begins (Letters any)
letters_some true = tt
letters_some false = tt

letters_apart : (any : Bool) → are_distinct (Letters any) ≡ true
letters_apart true = refl
letters_apart false = refl

letter_in : (any temp : Bool) → (temp ≡ true → any ≡ true) → In (letter temp) temp (Letters any)
letter_in true true i = in_nth 0 refl
letter_in true false i = in_nth 1 refl
letter_in false true i = false_true (i refl)
letter_in false false i = in_nth 0 refl

letter_has : (any temp : Bool) → (temp ≡ true → any ≡ true) → (x : List ℕ) → Has (one_of (Letters any)) (letter temp ++ x) temp x
letter_has any temp i x = has_of (letter temp) temp (Letters any) (letters_apart any) (λ w b j. (row_in (IsLetter any) (letters any) j).1) (letter_in any temp i) x

temps_way : (least : Pair) (owed : ℕ) → OpenKey (temps least) owed → nat_le least.0 greatest ≡ true → Open least 0
temps_way least owed way e =
    let h : least.0 ≤ greatest = leb-true least.0 greatest e in
    let l : least.1 ≤ greatest = way.0 in
    grind (arith, h, l)

temp_spells : (least : Pair) → Open least 0 → Spells (form.temp_key least) (λ k. FromKey (temps least) k × elim k as (λ p. Type 0) [ Key.Temp f t ↦ Unit {0} | Key.Node n ↦ ⊥ ])
    (λ k r. elim k as (λ p. List ℕ) [ Key.Temp f t ↦ pair_text (f, t) r | Key.Node n ↦ r ])
temp_spells least way =
    let s = pairs least 0 way in
    record {
      good = (s.good, λ k g. tt);
      has = temp_has;
      is = λ ts k r (p, m, h, (e, w)).
          let ((from, room), t) = s.is ts p m h in
          subst (λ z. (FromKey (temps least) z × elim z as (λ p. Type 0) [ Key.Temp f t ↦ Unit {0} | Key.Node n ↦ ⊥ ]) × (ts ≡ elim z as (λ p. List ℕ) [ Key.Temp f t ↦ pair_text (f, t) r | Key.Node n ↦ r ])) e
          ((from, tt), t ∙ ap (λ z. pair_text p z) w);
    }
  where
    temp_has : (k : Key) → FromKey (temps least) k × elim k as (λ p. Type 0) [ Key.Temp f t ↦ Unit {0} | Key.Node n ↦ ⊥ ] → (r : List ℕ)
        → Has (form.temp_key least) (elim k as (λ p. List ℕ) [ Key.Temp f t ↦ pair_text (f, t) r | Key.Node n ↦ r ]) k r
    temp_has (Key.Node n) (i, j) r = absurd j
    temp_has (Key.Temp f t) (i, j) r = ((f, t), r, (pairs least 0 way).has (f, t) (i, inr (omega (arith, i.2))) r, (refl, refl))

-- a temporary from the least on, or any node
temps_has : (least : Pair) (owed : ℕ) (any : Bool) → nat_le least.0 greatest ≡ any → OpenKey (temps least) owed → (k : Key) → FromKey (temps least) k × KeyRoom k owed → (r : List ℕ)
    → Has (chain (one_of (Letters any)) (form.key_body least owed)) (key_text k r) k r
temps_has least owed true e way (Key.Temp f t) (i, j) r =
    (true, pair_text (f, t) r, letter_has true true (λ x. refl) (pair_text (f, t) r), (temp_spells least (temps_way least owed way e)).has (Key.Temp f t) (i, tt) r)
temps_has least owed false e way (Key.Temp f t) (i, j) r = absurd (grind (arith, leb-false least.0 greatest e, i))
temps_has least owed any e way (Key.Node n) (i, j) r =
    (false, decimal n ++ 32 ∷ r, letter_has any false (λ x. false_true x) (decimal n ++ 32 ∷ r), (node_spells 0 owed (omega (arith, way))).has (Key.Node n) ((omega arith, i), j) r)

node_from : (least : Pair) (owed : ℕ) (k : Key) → FromKey (nodes 0) k × KeyRoom k owed → FromKey (temps least) k × KeyRoom k owed
node_from least owed (Key.Temp f t) (i, j) = absurd i
node_from least owed (Key.Node n) (i, j) = (i.1, j)

temps_is : (least : Pair) (owed : ℕ) (any temp : Bool) → nat_le least.0 greatest ≡ any → (temp ≡ true → any ≡ true) → OpenKey (temps least) owed → (ts m : List ℕ) (k : Key) (r : List ℕ)
    → ts ≡ letter temp ++ m → Has (form.key_body least owed temp) m k r → (FromKey (temps least) k × KeyRoom k owed) × (ts ≡ key_text k r)
temps_is least owed any true e may way ts m (Key.Temp f t) r w h =
    let (i, u) = (temp_spells least (temps_way least owed way (e ∙ may refl))).is m (Key.Temp f t) r h in
    ((i.0, way.1), w ∙ ap (λ z. codes "temp " ++ z) u)
temps_is least owed any true e may way ts m (Key.Node n) r w h =
    let (i, u) = (temp_spells least (temps_way least owed way (e ∙ may refl))).is m (Key.Node n) r h in
    absurd i.1
temps_is least owed any false e may way ts m (Key.Temp f t) r w h =
    let (i, u) = (node_spells 0 owed (omega (arith, way))).is m (Key.Temp f t) r h in
    absurd i.0
temps_is least owed any false e may way ts m (Key.Node n) r w h =
    let (i, u) = (node_spells 0 owed (omega (arith, way))).is m (Key.Node n) r h in
    (node_from least owed (Key.Node n) i, w ∙ ap (λ z. codes "node " ++ z) u)

temps_good : (least : Pair) (owed : ℕ) (any : Bool) → nat_le least.0 greatest ≡ any → OpenKey (temps least) owed → Good (chain (one_of (Letters any)) (form.key_body least owed))
temps_good least owed any e way = (one_good (Letters any) (letters_some any), λ temp (ts, r, h). let (w, i, t) = one_is h in by temp (row_in (IsLetter any) (letters any) i).2)
  where
    by : (temp : Bool) → (temp ≡ true → any ≡ true) → Good (form.key_body least owed temp)
    by true may = (temp_spells least (temps_way least owed way (e ∙ may refl))).good
    by false may = (node_spells 0 owed (omega (arith, way))).good

temps_spells : (least : Pair) (owed : ℕ) (any : Bool) → nat_le least.0 greatest ≡ any → OpenKey (temps least) owed
    → Spells (chain (one_of (Letters any)) (form.key_body least owed)) (λ k. FromKey (temps least) k × KeyRoom k owed) key_text
temps_spells least owed any e way = record {
  good = temps_good least owed any e way;
  has = temps_has least owed any e way;
  is = λ ts k r (temp, m, h, g).
      let (w, i, t) = one_is h in
      let row = row_in (IsLetter any) (letters any) i in
      temps_is least owed any temp e row.2 way ts m k r (t ∙ ap (λ z. z ++ m) row.0) g;
}

nodes_is : (least owed : ℕ) (k : Key) (ts m r : List ℕ) → FromKey (nodes least) k × KeyRoom k owed → ts ≡ codes "node " ++ m
    → m ≡ elim k as (λ p. List ℕ) [ Key.Temp f t ↦ r | Key.Node n ↦ decimal n ++ 32 ∷ r ] → (FromKey (nodes least) k × KeyRoom k owed) × (ts ≡ key_text k r)
nodes_is least owed (Key.Temp f t) ts m r (i, j) w u = absurd i
nodes_is least owed (Key.Node n) ts m r i w u = (i, w ∙ ap (λ z. codes "node " ++ z) u)

nodes_has : (least owed : ℕ) → least + owed ≤ greatest → (k : Key) → FromKey (nodes least) k × KeyRoom k owed → (r : List ℕ) → Has (form.key (nodes least) owed) (key_text k r) k r
nodes_has least owed way (Key.Temp f t) (i, j) r = absurd i
nodes_has least owed way (Key.Node n) i r = (tt, decimal n ++ 32 ∷ r, word_text (codes "node ") (decimal n ++ 32 ∷ r), (node_spells least owed way).has (Key.Node n) i r)

key_spells : (s : NextKey) (owed : ℕ) → OpenKey s owed → Spells (form.key s owed) (λ k. FromKey s k × KeyRoom k owed) key_text
key_spells (temps least) owed way = temps_spells least owed (nat_le least.0 greatest) refl way
key_spells (nodes least) owed way = record {
  good = (word_good (codes "node "), λ u g. (node_spells least owed way).good);
  has = nodes_has least owed way;
  is = λ ts k r (u, m, w, h). let (i, t) = (node_spells least owed way).is m k r h in nodes_is least owed k ts m r i (word_is (codes "node ") ts u m w) t;
}

after_small : (k : Pair) → k.1 ≤ greatest → (after_pair k).1 ≤ greatest
after_small k le = by (after_by k (nat_lt k.1 greatest) refl)
  where
    by : ((k.1 < greatest) × (after_pair k ≡ (k.0, suc k.1))) ⊎ ((greatest ≤ k.1) × (after_pair k ≡ (suc k.0, 0))) → (after_pair k).1 ≤ greatest
    by (inl (h, e)) = subst (λ z. z.1 ≤ greatest) (sym e) (omega arith)
    by (inr (h, e)) = subst (λ z. z.1 ≤ greatest) (sym e) (omega arith)

key_open : (s : NextKey) (k : Key) (n : ℕ) → OpenKey s (suc n) → FromKey s k → KeyRoom k (suc n) → OpenKey (form.next_key k) n
key_open (temps least) (Key.Temp f t) n way from room = (after_small (f, t) from.2, omega arith)
key_open (temps least) (Key.Node m) n way from room = omega (arith, room)
key_open (nodes least) (Key.Temp f t) n way from room = absurd from
key_open (nodes least) (Key.Node m) n way from room = omega (arith, room)

key_takes : (k : Key) (r : List ℕ) → length r < length (key_text k r)
key_takes (Key.Temp f t) r = omega (arith, pair_takes (f, t) r)
key_takes (Key.Node n) r = omega (arith, length-append (decimal n) (32 ∷ r))

key_none : (s : NextKey) (k : Key) → FromKey s k → KeyRoom k 0
key_none (temps least) (Key.Temp f t) from = omega arith
key_none (temps least) (Key.Node n) from = omega (arith, from)
key_none (nodes least) (Key.Temp f t) from = absurd from
key_none (nodes least) (Key.Node n) from = omega (arith, from.1)

key_before : (s : NextKey) (k j : Key) (n : ℕ) → n < greatest → FromKey s k → FromKey (form.next_key k) j → KeyRoom j n → KeyRoom k (suc n)
key_before s (Key.Temp f t) j n few from next room = omega arith
key_before s (Key.Node m) (Key.Temp f t) n few from next room = absurd next
key_before s (Key.Node m) (Key.Node k) n few from next room = omega (arith, next.0, room)

pub keys : AreKeys form.key form.next_key OpenKey FromKey KeyRoom key_text
keys = record { spells = key_spells; next_open = key_open; takes = key_takes; none_owed = key_none; room_before = key_before }
