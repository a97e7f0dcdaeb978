-- Pieces whose instructions are good where they stand in the code of a function.
use Rattle.std.proofs.Common.{◌≡◌, ℕ, suc, ◌+◌, ◌<◌, ◌≤◌, ◌⊎◌, inl, inr, Bool, List, [], ◌∷◌, ◌++◌, map, length, Option, Some, None, refl, ap, sym, ◌∙◌, subst, arith, append_assoc}
use Rattle.std.specs.Prelude.{slice_get, nat_eq, count_by}
use Rattle.std.proofs.lemmas.List.{length-append}
use Rattle.c_typed.specs.declared.types.ObjectType.{ObjectType}
use Rattle.c_typed.specs.declared.program.Struct.{Struct}
use Rattle.c_typed.specs.IsWell.{IsObject}
use Rattle.tac_ir.specs.declared.code.Code.{Code}
use Rattle.tac_ir.specs.declared.code.Instr.{Instr}
use Rattle.tac_ir.specs.declared.code.Lined.{Lined}
use Rattle.tac_ir.specs.Regions.{Region, regions_by, regions_from, regions_in, IsInside}
use Rattle.tac_ir.specs.GoodForm.{targets_of, fork_targets_of, NamesExist, IsTurn, ForksWell, IsRet}
use Rattle.tac_lower.specs.declared.draft.Numbers.{Numbers}
use Rattle.tac_lower.specs.declared.draft.Draft.{Draft}
use Rattle.tac_lower.specs.declared.draft.Ends.{Ends}
use Rattle.tac_lower.specs.Parts.{Part, given, chained, from_here, within, ◌▷◌, ◌⨟◌}
use Rattle.tac_lower.specs.Shapes.{entry}
use Rattle.tac_lower.specs.CodeOf.{shaped, finished}
use Rattle.tac_lower.proofs.form.Each.{Each, each_append, each_by}
use Rattle.tac_lower.proofs.form.Parted.{Parted}
use Rattle.tac_lower.proofs.form.Zones.{Held, held_wide, Off, Top, top_before, top_behind, Level, Zone, zone_level, zone_left, zone_right}

-- the whole code, and a function of it
pub record World : Type 0 where
  pub structs : List Struct
  -- what is declared
  pub types : List ObjectType
  pub code : Code
  pub fun : ℕ
  pub lines : List Lined
  pub shape : ObjectType → ℕ

abbrev pub regions : World → List Region
regions w = regions_in w.lines

-- entering the type adds no shape
abbrev pub Known : World → ObjectType → Type 0
Known w t = (entry w.structs t w.code.shapes).shapes ≡ w.code.shapes

abbrev pub KnownThere : World → Option ObjectType → Type 0
KnownThere w None = Unit {0}
KnownThere w (Some t) = Known w t

-- what an instruction names exists (heap sites are seen to elsewhere)
abbrev pub Named : World → Instr → Type 0
Named w (Instr.New to a site) = Unit {0}
Named w i = NamesExist w.code w.fun i

pub record Aim (w : World) (at t : ℕ) : Type 0 where
  pub inside : t < length w.lines
  pub onward : (at < t) ⊎ IsTurn w.lines t
  pub level : Each (Level at t) (regions w)

-- of an entry and the join of a fork
pub record Forked (w : World) (at t : ℕ) : Type 0 where
  pub inside : t < length w.lines
  pub onward : at < t
  pub closed : Each (λ r. Off at r → IsInside r t → (t ≡ r.entry) × (at ≡ r.fork)) (regions w)

pub record Fit (w : World) (at : ℕ) (i : Instr) : Type 0 where
  pub names : Named w i
  pub aims : Each (Aim w at) (targets_of i)
  pub forked : Each (Forked w at) (fork_targets_of i)
  pub fork : ForksWell w.lines at i
  pub ret : IsRet i → Top at (regions w)
  pub end : i ≡ Instr.End → count_by (λ (r : Region). nat_eq r.last at) (regions w) ≡ 1

abbrev pub instr_of : World → Draft → Instr
instr_of w d = shaped w.shape d.instr d.object

abbrev pub AllFit : World → ℕ → List Draft → Type 0
AllFit w at [] = Unit {0}
AllFit w at (d ∷ ds) = Fit w at (instr_of w d) × AllFit w (suc at) ds

-- the drafts are lines of the code from this index on, and the types that they name are known
abbrev pub Sits : World → ℕ → List Draft → Type 0
Sits w at [] = Unit {0}
Sits w at (d ∷ ds) = (slice_get w.lines at ≡ Some (finished w.shape d)) × KnownThere w d.object × Sits w (suc at) ds

-- the regions of their forks
abbrev pub own : World → ℕ → List Draft → List Region
own w at ds = regions_from at (map (finished w.shape) ds)

-- a type that is well-formed, with its arrays among those that are declared
abbrev pub IsDeclared : World → ObjectType → Type 0
IsDeclared w t = IsObject w.structs t × Parted w.types t

abbrev pub IsDeclaredThere : World → Option ObjectType → Type 0
IsDeclaredThere w None = Unit {0}
IsDeclaredThere w (Some t) = IsDeclared w t

-- targets that do not hang on where the piece stands
abbrev pub Anywhere : (Ends → ℕ → Type 0) → Ends → ℕ → ℕ → Type 0
Anywhere outs ends lo t = outs ends t

module _ (w : World) where
  pub fit_append : (at mid : ℕ) (ds es : List Draft) → mid ≡ at + length ds → AllFit w at ds → AllFit w mid es → AllFit w at (ds ++ es)
  fit_append at mid [] es e is that = subst (λ k. AllFit w k es) (let k : mid ≡ at = omega arith in k) that
  fit_append at mid (d ∷ ds) es e is that = (is.0, fit_append (suc at) mid ds es (omega arith) is.1 that)

  pub sits_split : (at mid : ℕ) (ds es : List Draft) → mid ≡ at + length ds → Sits w at (ds ++ es) → Sits w at ds × Sits w mid es
  sits_split at mid [] es e is = (tt, subst (λ k. Sits w k es) (let k : at ≡ mid = omega arith in k) is)
  sits_split at mid (d ∷ ds) es e is = (let rest = sits_split (suc at) mid ds es (omega arith) is.2 in ((is.0, is.1, rest.0), rest.1))

  pub own_append : (at mid : ℕ) (ds es : List Draft) → mid ≡ at + length ds → own w at (ds ++ es) ≡ own w at ds ++ own w mid es
  own_append at mid [] es e = ap (λ k. own w k es) (let k : at ≡ mid = omega arith in k)
  own_append at mid (d ∷ ds) es e =
      ap (λ rs. regions_by at (instr_of w d) ++ rs) (own_append (suc at) mid ds es (omega arith)) ∙ sym (append_assoc (regions_by at (instr_of w d)) (own w (suc at) ds) (own w mid es))

  -- A piece keeps to its count, its regions lie within it, and its types are well-formed.
  pub record Keeps {A : Type 0} (p : Part A) : Type 0 where
    pub drafts : (ends : Ends) (n : Numbers) → length (p.make ends n).drafts ≡ p.points
    pub at : (ends : Ends) (n : Numbers) → (p.make ends n).next.at ≡ n.at + p.points
    pub held : (ends : Ends) (n : Numbers) → Each (Held n.at (n.at + p.points)) (own w n.at (p.make ends n).drafts)
    pub objects : (ends : Ends) (n : Numbers) → Each (λ (d : Draft). IsDeclaredThere w d.object) (p.make ends n).drafts

  -- a target outside a stretch: it lies behind, or is the head of a loop
  pub record Reaches (lo hi : ℕ) (rs : List Region) (t : ℕ) : Type 0 where
    pub inside : t < length w.lines
    pub onward : (hi ≤ t) ⊎ IsTurn w.lines t
    pub level : (i : ℕ) → lo ≤ i → i < hi → Top i rs → Each (Level i t) (regions w)

  -- a piece's drafts where they stand, with an instruction behind them; it may go to these targets outside
  pub record Stands (branched : Bool) (outs : ℕ → Type 0) (lo hi : ℕ) (ds : List Draft) : Type 0 where
    pub sits : Sits w lo ds
    pub zone : Zone (regions w) branched lo hi (own w lo ds)
    pub below : hi < length w.lines
    pub reaches : (t : ℕ) → outs t → Reaches lo hi (own w lo ds) t

  pub record Holds {A : Type 0} (branched : Bool) (outs : Ends → ℕ → ℕ → Type 0) (p : Part A) : Type 0 where
    pub keeps : Keeps p
    pub fits : (ends : Ends) (n : Numbers) → Stands branched (outs ends n.at) n.at (n.at + p.points) (p.make ends n).drafts → AllFit w n.at (p.make ends n).drafts

  pub keeps_chained : {A B : Type 0} (any : A) (p : Part A) (q : A → Part B) → Keeps p → ((ends : Ends) (n : Numbers) → Keeps (q (p.make ends n).result))
      → ((ends : Ends) (n : Numbers) → (q (p.make ends n).result).points ≡ (q any).points) → Keeps (chained any p q)
  keeps_chained any p q is that same = record {
    drafts = λ ends n.
        let a = p.make ends n in
        let b = (q a.result).make ends a.next in
        omega (arith, length-append a.drafts b.drafts, is.drafts ends n, (that ends n).drafts ends a.next, same ends n);
    at = λ ends n. (let a = p.make ends n in omega (arith, is.at ends n, (that ends n).at ends a.next, same ends n));
    held = λ ends n.
        let a = p.make ends n in
        let b = (q a.result).make ends a.next in
        let at = is.at ends n in
        let count = is.drafts ends n in
        let equal = same ends n in
        let low = n.at in
        let high = n.at + (p.points + (q any).points) in
        subst (λ rs. Each (Held low high) rs) (sym (own_append n.at a.next.at a.drafts b.drafts (omega arith)))
        (each_append (Held low high) (own w n.at a.drafts) (own w a.next.at b.drafts)
        (each_by (Held n.at (n.at + p.points)) (Held low high) (own w n.at a.drafts) (λ r h. held_wide n.at (n.at + p.points) low high r (omega arith) (omega arith) h) (is.held ends n))
        (each_by (Held a.next.at (a.next.at + (q a.result).points)) (Held low high) (own w a.next.at b.drafts)
        (λ r h. held_wide a.next.at (a.next.at + (q a.result).points) low high r (omega arith) (omega arith) h) ((that ends n).held ends a.next)));
    objects = λ ends n.
        let a = p.make ends n in
        each_append (λ (d : Draft). IsDeclaredThere w d.object) a.drafts ((q a.result).make ends a.next).drafts (is.objects ends n) ((that ends n).objects ends a.next);
  }

  -- a target of the first piece: in the second, or outside both
  abbrev pub Resolved : {A B : Type 0} → (Ends → ℕ → ℕ → Type 0) → Part A → (A → Part B) → Ends → Numbers → ℕ → Type 0
  Resolved outs p q ends n t =
      let a = p.make ends n in
      (((a.next.at ≤ t) × (t ≤ a.next.at + (q a.result).points) × Top t (own w a.next.at ((q a.result).make ends a.next).drafts)) ⊎ outs ends n.at t)

  above : (k hi t : ℕ) → k ≤ hi → (hi ≤ t) ⊎ IsTurn w.lines t → (k ≤ t) ⊎ IsTurn w.lines t
  above k hi t h (inl up) = inl (omega arith)
  above k hi t h (inr turn) = inr turn

  reaches_second : (lo mid hi end : ℕ) (xs ys : List Region) (t : ℕ) → lo ≤ mid → end ≡ hi → Each (Held lo mid) xs → Reaches lo hi (xs ++ ys) t → Reaches mid end ys t
  reaches_second lo mid hi end xs ys t l e held r = record {
    inside = r.inside;
    onward = above end hi t (omega arith) r.onward;
    level = λ i low high top. r.level i (omega arith) (omega arith) (each_append (Off i) xs ys (top_behind lo mid i xs low held) top);
  }

  -- the end of the first part is mid, in two spellings
  reaches_first : (b : Bool) (lo stop mid hi end : ℕ) (xs ys : List Region) (t : ℕ) (out : Type 0) → mid ≡ stop → end ≡ hi → lo ≤ mid → mid ≤ hi → hi < length w.lines
      → (out → Reaches lo hi (xs ++ ys) t) → Zone (regions w) b lo hi (xs ++ ys) → Each (Held lo mid) xs → Each (Held mid end) ys
      → ((mid ≤ t) × (t ≤ end) × Top t ys) ⊎ out → Reaches lo stop xs t
  reaches_first b lo stop mid hi end xs ys t out m e l h below outside zone held_x held_y (inl (low, high, top)) = record {
    inside = omega arith;
    onward = inl (omega arith);
    level = λ i from to top_i.
        zone_level (regions w) b lo hi (xs ++ ys) i t zone from (omega arith) (omega arith) (omega arith)
        (each_append (Off i) xs ys top_i (top_before mid end i ys (omega arith) held_y)) (each_append (Off t) xs ys (top_behind lo mid t xs low held_x) top);
  }
  reaches_first b lo stop mid hi end xs ys t out m e l h below outside zone held_x held_y (inr o) =
      let r = outside o in
      record {
        inside = r.inside;
        onward = above stop hi t (omega arith) r.onward;
        level = λ i from to top_i. r.level i from (omega arith) (each_append (Off i) xs ys top_i (top_before mid end i ys (omega arith) held_y));
      }

  pub holds_chained : {A B : Type 0} (b : Bool) (outs_p outs_q outs : Ends → ℕ → ℕ → Type 0) (any : A) (p : Part A) (q : A → Part B)
      → Holds b outs_p p → ((ends : Ends) (n : Numbers) → Holds b outs_q (q (p.make ends n).result))
      → ((ends : Ends) (n : Numbers) → (q (p.make ends n).result).points ≡ (q any).points)
      → ((ends : Ends) (n : Numbers) (t : ℕ) → outs_p ends n.at t → Resolved outs p q ends n t)
      → ((ends : Ends) (n : Numbers) (t : ℕ) → outs_q ends (p.make ends n).next.at t → outs ends n.at t)
      → Holds b outs (chained any p q)
  holds_chained b outs_p outs_q outs any p q is that same resolve pass = record {
    keeps = keeps_chained any p q is.keeps (λ ends n. (that ends n).keeps) same;
    fits = λ ends n s.
        let a = p.make ends n in
        let c = (q a.result).make ends a.next in
        let mid = a.next.at in
        let at : mid ≡ n.at + p.points = is.keeps.at ends n in
        let count : length a.drafts ≡ p.points = is.keeps.drafts ends n in
        let equal : (q a.result).points ≡ (q any).points = same ends n in
        let here : mid ≡ n.at + length a.drafts = omega arith in
        let xs = own w n.at a.drafts in
        let ys = own w mid c.drafts in
        let high = n.at + (p.points + (q any).points) in
        let end = mid + (q a.result).points in
        let both : own w n.at (a.drafts ++ c.drafts) ≡ xs ++ ys = own_append n.at mid a.drafts c.drafts here in
        let zone : Zone (regions w) b n.at high (xs ++ ys) = subst (λ rs. Zone (regions w) b n.at high rs) both s.zone in
        let held_x : Each (Held n.at mid) xs = subst (λ k. Each (Held n.at k) xs) (sym at) (is.keeps.held ends n) in
        let held_y : Each (Held mid end) ys = (that ends n).keeps.held ends a.next in
        let below : high < length w.lines = s.below in
        let split = sits_split n.at mid a.drafts c.drafts here s.sits in
        let outs_of : (t : ℕ) → outs ends n.at t → Reaches n.at high (xs ++ ys) t = λ t o. subst (λ rs. Reaches n.at high rs t) both (s.reaches t o) in
        fit_append n.at mid a.drafts c.drafts here
        (is.fits ends n (record {
          sits = split.0;
          zone = subst (λ k. Zone (regions w) b n.at k xs) at (zone_left (regions w) b n.at mid high end xs ys (omega arith) held_y zone);
          below = omega arith;
          reaches = λ t o.
              reaches_first b n.at (n.at + p.points) mid high end xs ys t (outs ends n.at t) at (omega arith) (omega arith) (omega arith) below (outs_of t) zone held_x held_y
              (resolve ends n t o);
        }))
        ((that ends n).fits ends a.next (record {
          sits = split.1;
          zone = zone_right (regions w) b n.at mid high end xs ys (omega arith) (omega arith) held_x zone;
          below = omega arith;
          reaches = λ t o. reaches_second n.at mid high end xs ys t (omega arith) (omega arith) held_x (outs_of t (pass ends n t o));
        }));
  }

  pub holds_more : {A : Type 0} (b : Bool) (few many : Ends → ℕ → ℕ → Type 0) (p : Part A) → ((ends : Ends) (lo t : ℕ) → few ends lo t → many ends lo t) → Holds b few p → Holds b many p
  holds_more b few many p all is = record {
    keeps = is.keeps;
    fits = λ ends n s. is.fits ends n (record { sits = s.sits; zone = s.zone; below = s.below; reaches = λ t o. s.reaches t (all ends n.at t o) });
  }

  pub holds_seq : {A B : Type 0} (b : Bool) (outs : Ends → ℕ → Type 0) (any : A) (p : Part A) (q : A → Part B) → Holds b (Anywhere outs) p
      → ((ends : Ends) (n : Numbers) → Holds b (Anywhere outs) (q (p.make ends n).result)) → ((ends : Ends) (n : Numbers) → (q (p.make ends n).result).points ≡ (q any).points)
      → Holds b (Anywhere outs) (chained any p q)
  holds_seq b outs any p q is that same =
      holds_chained b (Anywhere outs) (Anywhere outs) (Anywhere outs) any p q is that same (λ ends n t o. inr o) (λ ends n t o. o)

  pub holds_then : {B : Type 0} (b : Bool) (outs : Ends → ℕ → Type 0) (p : Part ℕ) (q : ℕ → Part B) → Holds b (Anywhere outs) p → ((a : ℕ) → Holds b (Anywhere outs) (q a))
      → ((a : ℕ) → (q a).points ≡ (q 0).points) → Holds b (Anywhere outs) (p ▷ q)
  holds_then b outs p q is that same = holds_seq b outs 0 p q is (λ ends n. that (p.make ends n).result) (λ ends n. same (p.make ends n).result)

  pub holds_next : {B : Type 0} (b : Bool) (outs : Ends → ℕ → Type 0) (p : Part ℕ) (q : Part B) → Holds b (Anywhere outs) p → Holds b (Anywhere outs) q → Holds b (Anywhere outs) (p ⨟ q)
  holds_next b outs p q is that = holds_then b outs p (λ a. q) is (λ a. that) (λ a. refl)

  -- an index that is in no region of either part
  pub top_chained : {A B : Type 0} (any : A) (p : Part A) (q : A → Part B) (ends : Ends) (n : Numbers) (t : ℕ) → Keeps p → Top t (own w n.at (p.make ends n).drafts)
      → Top t (own w (p.make ends n).next.at ((q (p.make ends n).result).make ends (p.make ends n).next).drafts) → Top t (own w n.at ((chained any p q).make ends n).drafts)
  top_chained any p q ends n t is first second =
      let a = p.make ends n in
      let c = (q a.result).make ends a.next in
      subst (λ rs. Top t rs) (sym (own_append n.at a.next.at a.drafts c.drafts (omega (arith, is.at ends n, is.drafts ends n))))
      (each_append (Off t) (own w n.at a.drafts) (own w a.next.at c.drafts) first second)

  pub holds_given : {A : Type 0} (b : Bool) (outs : Ends → ℕ → ℕ → Type 0) (a : A) → Holds b outs (given a)
  holds_given b outs a = record {
    keeps = record { drafts = λ ends n. refl; at = λ ends n. omega arith; held = λ ends n. tt; objects = λ ends n. tt };
    fits = λ ends n s. tt;
  }

  pub holds_within : {A : Type 0} (b : Bool) (outs : Ends → ℕ → ℕ → Type 0) (ends : Ends) (p : Part A) → Holds b outs p → Holds b (λ outer lo t. outs ends lo t) (within ends p)
  holds_within b outs ends p is = record {
    keeps = record { drafts = λ outer n. is.keeps.drafts ends n; at = λ outer n. is.keeps.at ends n; held = λ outer n. is.keeps.held ends n; objects = λ outer n. is.keeps.objects ends n };
    fits = λ outer n s. is.fits ends n (record { sits = s.sits; zone = s.zone; below = s.below; reaches = s.reaches });
  }

  -- the same piece where its count is another's
  holds_count : {A : Type 0} (b : Bool) (outs : Ends → ℕ → ℕ → Type 0) (p : Part A) (k : ℕ) → p.points ≡ k → Holds b outs p → Holds b outs (record { points = k; make = p.make })
  holds_count b outs p k e is = subst (λ k. Holds b outs (record { points = k; make = p.make })) e is

  pub holds_from_here : {A : Type 0} (b : Bool) (outs : ℕ → Ends → ℕ → ℕ → Type 0) (p : ℕ → Part A) → ((at : ℕ) → Holds b (outs at) (p at)) → ((at : ℕ) → (p at).points ≡ (p 0).points)
      → Holds b (λ ends lo t. outs lo ends lo t) (from_here p)
  holds_from_here b outs p is same = record {
    keeps = record {
      drafts = λ ends n. (at n.at).keeps.drafts ends n;
      at = λ ends n. (at n.at).keeps.at ends n;
      held = λ ends n. (at n.at).keeps.held ends n;
      objects = λ ends n. (at n.at).keeps.objects ends n;
    };
    fits = λ ends n s. (at n.at).fits ends n (record { sits = s.sits; zone = s.zone; below = s.below; reaches = s.reaches });
  }
    where
      at : (k : ℕ) → Holds b (outs k) (record { points = (p 0).points; make = (p k).make })
      at k = holds_count b (outs k) (p k) (p 0).points (same k) (is k)
