-- Turns, as long as the next token passes a test.
use Rattle.std.proofs.Common.{◌≡◌, ℕ, zero, suc, ◌+◌, ◌<◌, ◌≤◌, ◌⊎◌, inl, inr, Bool, true, false, if◌then◌else◌, nat_lt, Option, Some, None, List, [], ◌∷◌, ◌++◌, length, refl, sym, ap, subst, ◌∙◌, append_assoc, append-nil, length-append, arith}
use Rattle.parse_law.specs.tools.Parsing.{unexpected, deep, Answer, done, fault, and_then, Parser, ◌>>=◌, ◌<$>◌, pure, peek, turns, repeat, expect, accept, accept_by, level, rising, refuse, many, found_and}
use Rattle.parse_law.specs.Nesting.{May, Anywhere}
use Rattle.parse_law.proofs.Forms.{Form, Follow, Fits, Completes, Done, Judge, Law}
use Rattle.parse_law.proofs.Bind.{Seq, Leads, bind_at, alike_self}
use Rattle.parse_law.proofs.Steps.{nil_cons, head_is, false_true, convert, Map, map_law}
use Rattle.parse_law.proofs.Carry.{fits_fewer}
use Rattle.parse_law.proofs.FirstTokens.{kept_at, stopped, done_fault}

-- ---- p takes a token where it is done

abbrev pub Takes : {T A : Type 0} → Parser T A → Type 0
Takes {T} {A} p = (ts : List T) (a : A) (r : List T) → p ts ≡ done a r → length r < length ts

done_rest : {T A : Type 0} {a b : A} {x y : List T} → ◌≡◌ {A = Answer T A} (done a x) (done b y) → x ≡ y
done_rest e = cc

-- each law gives tokens back from the end
pub gives_back : {T A : Type 0} (limit : ℕ) (p : Parser T A) (D : Form T A) (S : Follow T A) → Law limit p D S → (ts : List T) (a : A) (r : List T)
    → p ts ≡ done a r → length r ≤ length ts
gives_back limit p D S law ts a r e =
    let d : Done limit p D S ts a r = subst (Judge limit p D S ts) e (law.at ts) in
    let h : length ts ≡ length (d.front ++ r) = ap length d.whole in
    let i : length (d.front ++ r) ≡ length d.front + length r = length-append d.front r in
    omega arith

-- where q takes over behind a token
pub takes_token : {T A : Type 0} (limit : ℕ) (q : Parser T A) (D : Form T A) (S : Follow T A) → Law limit q D S
    → (t : T) (us : List T) (a : A) (r : List T) → q us ≡ done a r → length r < length (t ∷ us)
takes_token limit q D S law t us a r e = let h = gives_back limit q D S law us a r e in omega arith

takes_then : {T A B : Type 0} (f : A → Parser T B) → ((a : A) (us : List T) (b : B) (r : List T) → f a us ≡ done b r → length r ≤ length us)
    → (ts : List T) (o : Answer T A) → ((a : A) (r : List T) → o ≡ done a r → length r < length ts) → (b : B) (r : List T) → and_then o f ≡ done b r
    → length r < length ts
takes_then f back ts (done a m) h b r e = let i : length m < length ts = h a m refl in let j = back a m b r e in omega arith
takes_then f back ts (fault k n) h b r e = done_fault (sym e)

-- where the first part takes one
pub takes_first : {T A B : Type 0} (limit : ℕ) (p : Parser T A) (f : A → Parser T B) (E : A → Form T B) (F : Follow T B) → Takes p
    → ((a : A) → Law limit (f a) (E a) F) → Takes (p >>= f)
takes_first limit p f E F takes law ts b r e = takes_then f (λ a us b r. gives_back limit (f a) (E a) F (law a) us b r) ts (p ts) (λ a m. takes ts a m) b r e

takes_after : {T A B : Type 0} (f : A → Parser T B) → ((a : A) → Takes (f a)) → (ts : List T) (o : Answer T A)
    → ((a : A) (r : List T) → o ≡ done a r → length r ≤ length ts)
    → (b : B) (r : List T) → and_then o f ≡ done b r → length r < length ts
takes_after f takes ts (done a m) h b r e = let i : length m ≤ length ts = h a m refl in let j : length r < length m = takes a m b r e in omega arith
takes_after f takes ts (fault k n) h b r e = done_fault (sym e)

-- where the second takes one
pub takes_second : {T A B : Type 0} (limit : ℕ) (p : Parser T A) (D : Form T A) (S : Follow T A) (f : A → Parser T B) → Law limit p D S
    → ((a : A) → Takes (f a)) → Takes (p >>= f)
takes_second limit p D S f law takes ts b r e = takes_after f takes ts (p ts) (λ a m. gives_back limit p D S law ts a m) b r e

pub takes_map : {T A B : Type 0} (g : A → B) (p : Parser T A) → Takes p → Takes (g <$> p)
takes_map g p takes ts b r e =
    takes_then (λ a. pure (g a)) (λ a us b r f. let h : length us ≡ length r = ap length (done_rest f) in omega arith) ts (p ts) (λ a m. takes ts a m) b r e

accepted_rest : {T A : Type 0} (us : List T) (o : Option A) (a : A) (r : List T) → accept_by us o ≡ done a r → us ≡ r
accepted_rest us (Some b) a r e = done_rest e
accepted_rest us None a r e = done_fault (sym e)

pub takes_accept : {T A : Type 0} (value : T → Option A) → Takes (accept value)
unfolding accept
takes_accept value [] a r e = done_fault (sym e)
takes_accept value (t ∷ us) a r e = let h : length us ≡ length r = ap length (accepted_rest us (value t) a r e) in omega arith

expected_rest : {T : Type 0} (us : List T) (n : ℕ) (b : Bool) (u : Unit {0}) (r : List T) → (if b then done tt us else fault unexpected n) ≡ done u r → us ≡ r
expected_rest us n true u r e = done_rest e
expected_rest us n false u r e = done_fault (sym e)

pub takes_expect : {T : Type 0} (test : T → Bool) → Takes (expect test)
unfolding expect
takes_expect test [] a r e = done_fault (sym e)
takes_expect test (t ∷ us) a r e = let h : length us ≡ length r = ap length (expected_rest us (suc (length us)) (test t) a r e) in omega arith

pub takes_rising : {T A : Type 0} (limit c : ℕ) (q : ℕ → Parser T A) → Takes (q (suc c)) → Takes (rising limit c q)
takes_rising limit c q takes ts a r e = rising_by (nat_lt c limit) e
  where
    rising_by : (b : Bool) → (if b then q (suc c) ts else fault deep (length ts)) ≡ done a r → length r < length ts
    rising_by true e = takes ts a r e
    rising_by false e = done_fault (sym e)

pub takes_level : {T A : Type 0} (begins : T → Bool) (limit c : ℕ) (q : ℕ → Parser T A) → Takes (q (suc c)) → Takes (level begins limit c q)
unfolding peek
takes_level begins limit c q takes [] a r e = done_fault (sym e)
takes_level begins limit c q takes (t ∷ us) a r e = level_by (begins t) e
  where
    level_by : (b : Bool) → (if b then rising limit c q else refuse unexpected) (t ∷ us) ≡ done a r → length r < length (t ∷ us)
    level_by true e = takes_rising limit c q takes (t ∷ us) a r e
    level_by false e = done_fault (sym e)

-- ---- the law

module _ {T X : Type 0} (limit : ℕ) (goes : T → Bool) (part : X → Parser T X) (Part More : X → Form T X) (S F : Follow T X)
    (stop : (M : May T) (x : X) (ts : List T) → More x M ts x ts)
    (go : (M : May T) (x y z : X) (ts m r : List T) → Part x M ts y m → More y M m z r → More x M ts z r)
    (split : (M : May T) (x z : X) (ts r : List T) → More x M ts z r → ((x ≡ z) × (ts ≡ r)) ⊎ Seq (Part x) More M ts z r)
    (starts : (M : May T) (x y : X) (ts m : List T) → Part x M ts y m → (t : T) × (us : List T) × (ts ≡ t ∷ us) × (goes t ≡ true))
    (apart : (x : X) (t : T) → F x t → goes t ≡ false)
    (leads : (x : X) → Leads (More x) F (S x))
    -- what the turns keep
    (Good : X → Type 0) (good : (M : May T) (x y : X) (ts m : List T) → Good x → Part x M ts y m → Good y)
    (part_law : (x : X) → Good x → (t : T) (us : List T) → goes t ≡ true → Judge limit (part x) (Part x) S (t ∷ us) (part x (t ∷ us)))
    (takes : (x : X) → Good x → Takes (part x)) where
  -- a turn keeps what it keeps
  part_good : (x y : X) (t : T) (us r : List T) → Good x → goes t ≡ true → part x (t ∷ us) ≡ done y r → Good y
  part_good x y t us r gx e f =
      let d : Done limit (part x) (Part x) S (t ∷ us) y r = subst (Judge limit (part x) (Part x) S (t ∷ us)) f (part_law x gx t us e) in
      good Anywhere x y _ r gx (d.derived r (alike_self (S y) r) Anywhere (λ c vs l. tt))

  -- ---- the turns are enough

  abbrev turn_by : (X → Parser T X) → X → List T → Bool → Answer T X
  turn_by again x ts b = (if b then part x >>= again else pure x) ts

  same_by : (f g : X → Parser T X) → (o : Answer T X) → ((y : X) (r : List T) → o ≡ done y r → f y r ≡ g y r) → and_then o f ≡ and_then o g
  same_by f g (done y r) h = h y r refl
  same_by f g (fault k i) h = refl

  same_turn : (f g : X → Parser T X) (x : X) (ts : List T) (b : Bool) → (b ≡ true → and_then (part x ts) f ≡ and_then (part x ts) g)
      → turn_by f x ts b ≡ turn_by g x ts b
  same_turn f g x ts true h = h refl
  same_turn f g x ts false h = refl

  enough : (m n : ℕ) (x : X) → Good x → (ts : List T) → length ts < m → length ts < n → turns goes part m x ts ≡ turns goes part n x ts
  unfolding turns peek
  enough zero n x gx ts h i = absurd (omega arith)
  enough (suc m) zero x gx ts h i = absurd (omega arith)
  enough (suc m) (suc n) x gx [] h i = refl
  enough (suc m) (suc n) x gx (t ∷ us) h i =
      same_turn (turns goes part m) (turns goes part n) x (t ∷ us) (goes t) (λ e.
      same_by (turns goes part m) (turns goes part n) (part x (t ∷ us)) (λ y r f.
      let l : length r < length (t ∷ us) = takes x gx (t ∷ us) y r f in
      enough m n y (part_good x y t us r gx e f) r (omega arith) (omega arith)))

  -- ---- one turn

  repeat_end : (x : X) → done x [] ≡ repeat goes part x []
  unfolding repeat turns peek
  repeat_end x = refl

  repeat_stops : (x : X) (t : T) (us : List T) → goes t ≡ false → done x (t ∷ us) ≡ repeat goes part x (t ∷ us)
  unfolding repeat turns peek
  repeat_stops x t us e = ap (turn_by (turns goes part (suc (length us))) x (t ∷ us)) (sym e)

  repeat_goes : (x : X) → Good x → (t : T) (us : List T) → goes t ≡ true → (part x >>= repeat goes part) (t ∷ us) ≡ repeat goes part x (t ∷ us)
  unfolding repeat turns peek
  repeat_goes x gx t us e =
      same_by (repeat goes part) (turns goes part (suc (length us))) (part x (t ∷ us)) (λ y r f.
      enough (suc (length r)) (suc (length us)) y (part_good x y t us r gx e f) r (omega arith) (takes x gx (t ∷ us) y r f))
      ∙ ap (turn_by (turns goes part (suc (length us))) x (t ∷ us)) (sym e)

  -- ---- the law

  more_completes : (x : X) → Completes limit (More x) F [] []
  more_completes x = record { tokens = []; value = x; holds = λ M l r free h. stop M x r }

  not_going : {Q : Type 0} (z : X) (x : List T) → Fits (F z) x → (t : T) (us : List T) → x ≡ t ∷ us → goes t ≡ true → Q
  not_going z [] h t us e g = nil_cons e
  not_going z (v ∷ x) h t us e g = false_true (sym (apart z v h) ∙ (ap goes (head_is e) ∙ g))

  only_stop : (x : X) (ts : List T) → ((t : T) (us : List T) → ts ≡ t ∷ us → goes t ≡ true → ⊥) → (M : May T) (b : X) (m : List T) → More x M ts b m
      → (x ≡ b) × (ts ≡ m)
  only_stop x ts never M b m d = only_by (split M x b ts m d)
    where
      only_by : ((x ≡ b) × (ts ≡ m)) ⊎ Seq (Part x) More M ts b m → (x ≡ b) × (ts ≡ m)
      only_by (inl e) = e
      only_by (inr (y, n, d, e)) = let (t, us, f, g) = starts M x y ts n d in absurd (never t us f g)

  repeat_fits : (x : X) (ts : List T) → Fits (F x) ts → repeat goes part x ts ≡ done x ts
  repeat_fits x [] h = sym (repeat_end x)
  repeat_fits x (t ∷ us) h = sym (repeat_stops x t us (apart x t h))

  judge_end : (x : X) → Judge limit (repeat goes part x) (More x) F [] (repeat goes part x [])
  judge_end x =
      let j : Done limit (repeat goes part x) (More x) F [] x [] = record {
        front = [];
        whole = refl;
        stays = λ y al. repeat_fits x y al;
        derived = λ y al M l. stop M x y;
        only = λ y al M b m d h. only_stop x y (λ t us. not_going x y al t us) M b m d;
      } in
      subst (Judge limit (repeat goes part x) (More x) F []) (repeat_end x) j

  judge_stop : (x : X) (t : T) (us : List T) → goes t ≡ false → Judge limit (repeat goes part x) (More x) F (t ∷ us) (repeat goes part x (t ∷ us))
  judge_stop x t us e =
      stopped limit (repeat goes part x) (More x) F t x (λ vs. repeat_stops x t vs e) (λ M vs. stop M x (t ∷ vs))
      (λ M vs b m d h. only_stop x (t ∷ vs) (λ u ws f g. false_true (sym e ∙ (ap goes (head_is f) ∙ g))) M b m d) us

  judge_go : (x : X) → Good x → (t : T) (us : List T) → goes t ≡ true
      → ((y : X) → Good y → (r : List T) → length r < length (t ∷ us) → Judge limit (repeat goes part y) (More y) F r (repeat goes part y r))
      → Judge limit (repeat goes part x) (More x) F (t ∷ us) (repeat goes part x (t ∷ us))
  judge_go x gx t us e again =
      kept_at limit (repeat goes part x) (part x >>= repeat goes part) (More x) (Seq (Part x) More) F t
      (λ M l vs z r (y, m, d, ds). go M x y z (t ∷ vs) m r d ds)
      (λ M vs z r d h. went (split M x z (t ∷ vs) r d) h)
      (λ vs. repeat_goes x gx t vs e) us
      (bind_at limit (part x) (Part x) S (repeat goes part) More F leads more_completes (t ∷ us) (part_law x gx t us e)
      (λ y r f. again y (part_good x y t us r gx e f) r (takes x gx (t ∷ us) y r f)))
    where
      went : {M : May T} {vs : List T} {z : X} {r : List T} → ((x ≡ z) × ((t ∷ vs) ≡ r)) ⊎ Seq (Part x) More M (t ∷ vs) z r → Fits (F z) r
          → Seq (Part x) More M (t ∷ vs) z r
      went {vs = vs} {z = z} {r = r} (inl q) h = not_going z r h t vs (sym q.1) e
      went (inr d) h = d

  judge_by : (x : X) → Good x → (t : T) (us : List T) (b : Bool) → goes t ≡ b
      → ((y : X) → Good y → (r : List T) → length r < length (t ∷ us) → Judge limit (repeat goes part y) (More y) F r (repeat goes part y r))
      → Judge limit (repeat goes part x) (More x) F (t ∷ us) (repeat goes part x (t ∷ us))
  judge_by x gx t us false e again = judge_stop x t us e
  judge_by x gx t us true e again = judge_go x gx t us e again

  repeat_at : (n : ℕ) (x : X) → Good x → (ts : List T) → length ts < n → Judge limit (repeat goes part x) (More x) F ts (repeat goes part x ts)
  repeat_at zero x gx ts h = absurd (omega arith)
  repeat_at (suc n) x gx [] h = judge_end x
  repeat_at (suc n) x gx (t ∷ us) h = judge_by x gx t us (goes t) refl (λ y gy r l. repeat_at n y gy r (omega arith))

  pub repeat_law : (x : X) → Good x → Law limit (repeat goes part x) (More x) F
  repeat_law x gx = record { at = λ ts. repeat_at (suc (length ts)) x gx ts (omega arith) }

-- ---- a list of equal parts, each of which begins with a token that passes the test

module _ {T A : Type 0} (limit : ℕ) (goes : T → Bool) (item : Parser T A) (Item : Form T A) (Many : Form T (List A)) (S : Follow T A) (F : Follow T (List A))
    (none : (M : May T) (ts : List T) → Many M ts [] ts)
    (more : (M : May T) (ts m r : List T) (a : A) (others : List A) → Item M ts a m → Many M m others r → Many M ts (a ∷ others) r)
    (split : (M : May T) (ts r : List T) (all : List A) → Many M ts all r
    → ((all ≡ []) × (ts ≡ r)) ⊎ ((a : A) × (others : List A) × (m : List T) × (all ≡ a ∷ others) × Item M ts a m × Many M m others r))
    (starts : (M : May T) (ts m : List T) (a : A) → Item M ts a m → (t : T) × (us : List T) × (ts ≡ t ∷ us) × (goes t ≡ true) × ((b : A) → S b t))
    (apart : (all : List A) (t : T) → F all t → goes t ≡ false)
    (wide : (all : List A) (t : T) → F all t → (b : A) → S b t)
    (law : Law limit item Item S) (takes : Takes item) where
  -- what may come behind any part
  abbrev Then : Follow T (List A)
  Then found t = (b : A) → S b t

  -- the parts behind those that were found
  abbrev pub Found : List A → Form T (List A)
  Found found M ts all r = (others : List A) × Many M ts others r × (all ≡ found ++ others)

  abbrev Added : List A → Form T (List A)
  Added found = Map (found_and found) Item

  found_go : (M : May T) (x y z : List A) (ts m r : List T) → Added x M ts y m → Found y M m z r → Found x M ts z r
  found_go M x y z ts m r (a, e, d) (others, ds, f) =
      (a ∷ others, more M ts m r a others d ds, f ∙ (ap (λ w. w ++ others) (sym e) ∙ append_assoc x (a ∷ []) others))

  found_split : (M : May T) (x z : List A) (ts r : List T) → Found x M ts z r → ((x ≡ z) × (ts ≡ r)) ⊎ Seq (Added x) Found M ts z r
  found_split M x z ts r (others, ds, f) = by_split (split M ts r others ds)
    where
      by_split : ((others ≡ []) × (ts ≡ r)) ⊎ ((a : A) × (rest : List A) × (m : List T) × (others ≡ a ∷ rest) × Item M ts a m × Many M m rest r)
          → ((x ≡ z) × (ts ≡ r)) ⊎ Seq (Added x) Found M ts z r
      by_split (inl (e, g)) = inl (sym (f ∙ (ap (λ w. x ++ w) e ∙ append-nil x)), g)
      by_split (inr (a, rest, m, e, d, ds')) =
          inr (x ++ a ∷ [], m, (a, refl, d), (rest, ds', f ∙ (ap (λ w. x ++ w) e ∙ sym (append_assoc x (a ∷ []) rest))))

  found_leads : (x : List A) → Leads (Found x) F (Then x)
  found_leads x M ts z r (others, ds, f) h = by_split (split M ts r others ds)
    where
      by_split : ((others ≡ []) × (ts ≡ r)) ⊎ ((a : A) × (rest : List A) × (m : List T) × (others ≡ a ∷ rest) × Item M ts a m × Many M m rest r)
          → Fits (Then x) ts
      by_split (inl (e, g)) = subst (Fits (Then x)) (sym g) (fits_fewer (wide z) r h)
      by_split (inr (a, rest, m, e, d, ds')) = let (t, us, g, i, s) = starts M ts m a d in subst (Fits (Then x)) (sym g) s

  behind_any : Law limit item Item (λ a t. (b : A) → S b t)
  behind_any = convert limit item Item S Item (λ a t. (b : A) → S b t) (λ M ts a r d. d) (λ M ts a r d h. d) (λ a t h. h a) law

  -- the list behind those that were found
  pub found_law : (found : List A) → Law limit (many goes item found) (Found found) F
  found_law found =
      repeat_law limit goes (λ x. found_and x <$> item) Added Found Then F
      (λ M x ts. ([], none M ts, sym (append-nil x))) found_go found_split
      (λ M x y ts m (a, e, d). let (t, us, g, i, s) = starts M ts m a d in (t, us, g, i)) apart found_leads
      (λ x. Unit {0}) (λ M x y ts m g d. tt)
      (λ x g t us e. (map_law limit (found_and x) item Item Then behind_any).at (t ∷ us)) (λ x g. takes_map (found_and x) item takes) found tt

  pub many_law : Law limit (many goes item []) Many F
  many_law =
      convert limit (many goes item []) (Found []) F Many F
      (λ M ts all r (others, d, e). subst (λ z. Many M ts z r) (sym e) d) (λ M ts all r d h. (all, d, refl)) (λ all t h. h) (found_law [])

  pub many_leads : Leads Many F (λ t. (b : A) → S b t)
  many_leads M ts all r d h = found_leads [] M ts all r (all, d, refl) h

  pub many_completes : Completes limit Many F [] []
  many_completes = record { tokens = []; value = []; holds = λ M l r free h. none M r }
