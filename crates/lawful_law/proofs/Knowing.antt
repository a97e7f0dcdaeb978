-- What is known in front of an unchecked read, at each kind of step.
use Rattle.std.proofs.Common.{◌≡◌, ℕ, zero, suc, ◌+◌, ◌-◌, ◌≤◌, ◌<◌, List, [], ◌∷◌, Bool, true, false, refl, Option, Some, None, arith, sym, ◌∙◌, ap, subst}
use Rattle.std.specs.Prelude.{nat_eq, nat_le, ◌&&◌, not, slice_get, Contains}
use Rattle.std.proofs.lemmas.Bool.{eq-eqb, leb-true, leb-false, ne_eqb}
use Rattle.dfi_base.specs.declared.numbers.Point.{Point}
use Rattle.tac_ir.specs.declared.code.Code.{Code}
use Rattle.tac_ir.specs.declared.code.Instr.{Instr}
use Rattle.tac_ir.specs.declared.code.Lined.{Lined}
use Rattle.tac_ir.specs.declared.code.Place.{Place}
use Rattle.tac_ir.specs.declared.run.Entry.{Entry}
use Rattle.tac_ir.specs.declared.run.Answer.{Answer}
use Rattle.tac_ir.specs.declared.run.Op.{Op}
use Rattle.tac_ir.specs.Module.{Module}
use Rattle.tac_ir.specs.Layout.{lines_of, place_word}
use Rattle.tac_ir.specs.Last.{Written, last_write, write_to}
use Rattle.tac_ir.specs.Path.{region_in}
use Rattle.tac_ir.specs.Edges.{calls_fun}
use Rattle.tac_ir.specs.Regions.{Region, regions_in}
use Rattle.tac_ir.specs.Bodies.{InBody, Parallel}
use Rattle.tac_ir.specs.Bodies.InBody.{inside, called}
use Rattle.tac_ir.specs.Answers.{has, set_of, is_allowed}
use Rattle.tac_ir.specs.GoodForm.{GoodForm}
use Rattle.tac_ir.proofs.regions.Nested.{same_inside}
use Rattle.tac_thread.specs.tools.Fetched.{instr_in}
use Rattle.tree_law.proofs.lives.Lines.{there, good_code, behind, is_passed}
use Rattle.lawful_law.specs.Covered.{Breaks, IsNamed, IsLoud, Covers, IsCovered}
use Rattle.lawful_law.specs.tools.Knows.{Knows, Does}

-- a thread that comes to a named index, or to the first, knows nothing
pub at_target : (m : Module) (h : List Entry) (f base now : ℕ) → IsNamed (lines_of m.code f) now → Knows m h f base now
at_target m h f base now named b at r place e low high = absurd (e.straight.named now low high named)

pub at_first : (m : Module) (h : List Entry) (f base : ℕ) → Knows m h f base 0
at_first m h f base b at r place e low high = absurd (omega (arith, low))

is_same : (b at : ℕ) → b < at + 1 → (b < at → ⊥) → b ≡ at
is_same b at low past = omega (arith, low, past)

cover_no_call : (m : Module) (place : Place) (r g : ℕ) (i : Instr) → calls_fun g i ≡ true → Covers m place r i → ⊥
cover_no_call m place r g (Instr.Call to h def args) call cover = cover
cover_no_call m place r g i call cover = cc

call_is_loud : (g : ℕ) (i : Instr) → calls_fun g i ≡ true → IsLoud i
call_is_loud g (Instr.Call to h def args) call = tt
call_is_loud g i call = cc

pick_less : (P : Type 0) (b at : ℕ) (z : Bool) → nat_le at b ≡ z → (b < at → P) → ((b < at → ⊥) → P) → P
pick_less P b at true is less rest = rest (λ l. let ge = leb-true at b is in omega (arith, l, ge))
pick_less P b at false is less rest = less (leb-false at b is)

by_less : {P : Type 0} (b at : ℕ) → (b < at → P) → ((b < at → ⊥) → P) → P
by_less {P} b at less rest = pick_less P b at (nat_le at b) refl less rest

-- behind a call
pub behind_call : (m : Module) (h : List Entry) (f base now g : ℕ) → calls_fun g (instr_in (lines_of m.code f) now) ≡ true → Knows m h f base (now + 1)
behind_call m h f base now g call b at r place e low high =
    absurd (by_less b now
    (λ less. e.quiet now less (omega (arith, high)) (call_is_loud g (instr_in (lines_of m.code f) now) call))
    (λ past. cover_no_call m place r g (instr_in (lines_of m.code f) now) call (subst (λ k. Covers m place r (instr_in (lines_of m.code f) k)) (is_same b now low past) e.cover)))

-- a silent instruction
pub behind_silent : (m : Module) (h : List Entry) (f base now : ℕ) → ((place : Place) (r : ℕ) → Covers m place r (instr_in (lines_of m.code f) now) → ⊥) → Knows m h f base now → Knows m h f base (now + 1)
behind_silent m h f base now no_cover knows b at r place e low high =
    by_less b now
    (λ less. knows b at r place e less (omega (arith, high)))
    (λ past. absurd (no_cover place r (subst (λ k. Covers m place r (instr_in (lines_of m.code f) k)) (is_same b now low past) e.cover)))

-- an entry that writes nothing
last_kept : (c : Code) (h : List Entry) (e : Entry) (w : ℕ) → write_to w e.op e.answer ≡ None → last_write c (e ∷ h) w ≡ last_write c h w
unfolding last_write
last_kept c h e w none = ap (λ o. elim o [ Some written ↦ written | None ↦ last_write c h w ]) none

written_here : (e : Entry) (w d v : ℕ) → e.op ≡ Op.Write (record { 0 = d }) w v → e.answer ≡ Answer.Unit → write_to w e.op e.answer ≡ Some (record { def = d; value = v })
written_here e w d v op answer =
    ap (λ o. write_to w o e.answer) op ∙ ap (λ a. write_to w (Op.Write (record { 0 = d }) w v) a) answer
    ∙ ap (λ (b : Bool). elim b [ true ↦ Some (record { def = d; value = v }) | false ↦ None ]) (eq-eqb w w refl)

last_written : (c : Code) (h : List Entry) (e : Entry) (w d v : ℕ) → e.op ≡ Op.Write (record { 0 = d }) w v → e.answer ≡ Answer.Unit → last_write c (e ∷ h) w ≡ record { def = d; value = v }
unfolding last_write
last_written c h e w d v op answer = ap (λ o. elim o [ Some written ↦ written | None ↦ last_write c h w ]) (written_here e w d v op answer)

pub allowed_kept : (m : Module) (h : List Entry) (e : Entry) (r w : ℕ) → write_to w e.op e.answer ≡ None → is_allowed m r (last_write m.code h w) ≡ true → is_allowed m r (last_write m.code (e ∷ h) w) ≡ true
allowed_kept m h e r w none ok = subst (λ z. is_allowed m r z ≡ true) (sym (last_kept m.code h e w none)) ok

both : (a b : Bool) → a ≡ true → b ≡ true → (a && b) ≡ true
both true b x y = y
both false b x y = cc

second : (a b : Bool) → (a && b) ≡ true → (a ≡ true) × (b ≡ true)
second true b x = (refl, x)
second false b x = cc

wider : (m : Module) (r r2 : ℕ) (z : Written) → ((d : ℕ) → has (set_of m r2) d ≡ true → has (set_of m r) d ≡ true) → is_allowed m r2 z ≡ true → is_allowed m r z ≡ true
wider m r r2 z sub ok = (let s = second (not (nat_eq z.def 0)) (has (set_of m r2) z.def) ok in both (not (nat_eq z.def 0)) (has (set_of m r) z.def) s.0 (sub z.def s.1))

-- the thread's own entry, at an instruction that is passed
pub own_entry : (m : Module) (h : List Entry) (f base now : ℕ) (e : Entry) (i : Instr) → instr_in (lines_of m.code f) now ≡ i → Does m h f base e i → Knows m h f base now → Knows m (e ∷ h) f base (now + 1)
own_entry m h f base now e i is does knows b at r place el low high =
    by_less b now (λ less. old i is does less) (λ past. new i is does (subst (λ k. Covers m place r (instr_in (lines_of m.code f) k)) (is_same b now low past) el.cover))
  where
    w : ℕ
    w = place_word m.code f base place

    noisy : (i : Instr) → instr_in (lines_of m.code f) now ≡ i → IsLoud i → b < now → ⊥
    noisy i is loud less = el.quiet now less (omega (arith, high)) (subst IsLoud (sym is) loud)

    before : b < now → is_allowed m r (last_write m.code h w) ≡ true
    before less = knows b at r place el less (omega (arith, high))

    old : (i : Instr) → instr_in (lines_of m.code f) now ≡ i → Does m h f base e i → b < now → is_allowed m r (last_write m.code (e ∷ h) w) ≡ true
    old (Instr.Get to other r2) is does less = allowed_kept m h e r w (does.0 w) (before less)
    old (Instr.Set other a d) is does less = absurd (noisy (Instr.Set other a d) is tt less)
    old (Instr.Store a x d) is does less = absurd (noisy (Instr.Store a x d) is tt less)
    old (Instr.Free a) is does less = absurd (noisy (Instr.Free a) is tt less)
    old (Instr.Call to g def args) is does less = absurd (noisy (Instr.Call to g def args) is tt less)
    old (Instr.Fork join entries) is does less = absurd (noisy (Instr.Fork join entries) is tt less)
    old i is does less = allowed_kept m h e r w (does w) (before less)

    new : (i : Instr) → instr_in (lines_of m.code f) now ≡ i → Does m h f base e i → Covers m place r (instr_in (lines_of m.code f) now) → is_allowed m r (last_write m.code (e ∷ h) w) ≡ true
    new (Instr.Get to other r2) is does cover =
        let c : Covers m place r (Instr.Get to other r2) = subst (Covers m place r) is cover in
        let ok : is_allowed m r2 (last_write m.code h w) ≡ true = subst (λ p. is_allowed m r2 (last_write m.code h (place_word m.code f base p)) ≡ true) c.0 does.1 in
        allowed_kept m h e r w (does.0 w) (wider m r r2 (last_write m.code h w) c.1 ok)
    new (Instr.Set other a d) is does cover =
        let c : Covers m place r (Instr.Set other a d) = subst (Covers m place r) is cover in
        let op : e.op ≡ Op.Write (record { 0 = d }) w does.0 = does.1 ∙ ap (λ p. Op.Write (record { 0 = d }) (place_word m.code f base p) does.0) c.0 in
        let last = last_written m.code h e w d does.0 op does.2 in
        let some : not (nat_eq d 0) ≡ true = ap not (ne_eqb d 0 (λ z. let one = does.3 in omega (arith, z, one))) in
        subst (λ z. is_allowed m r z ≡ true) (sym last) (both (not (nat_eq d 0)) (has (set_of m r) d) some c.1)
    new i is does cover = absurd (subst (Covers m place r) is cover)

-- Another thread's entry: there is none, because the stretch has no parallel point.

pub same_body : (c : Code) (g f a b : ℕ) (r : Region) → GoodForm c → (at_line : (l : Lined) × (slice_get (lines_of c f) a ≡ Some l)) → region_in (lines_of c f) a ≡ region_in (lines_of c f) b
    → InBody c g r (record { fun = f; at = a }) → Contains (regions_in (lines_of c g)) r → InBody c g r (record { fun = f; at = b })
same_body c g f a b r good line same (inside p fun within) listed =
    let fine = good_code c good f a line.0 line.1 in
    inside (record { fun = f; at = b }) fun (same_inside c f (lines_of c f) fine r a b (subst (λ z. Contains (regions_in (lines_of c z)) r) (sym fun) listed) same within)
same_body c g f a b r good line same (called q p body call) listed = called q (record { fun = f; at = b }) body call

-- In front of a removed read.

unbroken : (i : Instr) → (Breaks i → ⊥) → is_passed i ≡ true
unbroken (Instr.Jump t) none = absurd (none tt)
unbroken (Instr.Test x a b) none = absurd (none tt)
unbroken (Instr.Ret x r) none = absurd (none tt)
unbroken (Instr.Fork join entries) none = absurd (none tt)
unbroken Instr.End none = absurd (none tt)
unbroken (Instr.Const to k) none = refl
unbroken (Instr.Null to) none = refl
unbroken (Instr.Un to op a) none = refl
unbroken (Instr.Bin to op a b) none = refl
unbroken (Instr.Addr to place) none = refl
unbroken (Instr.Field to a shape k) none = refl
unbroken (Instr.Decay to a shape) none = refl
unbroken (Instr.Index to a b words) none = refl
unbroken (Instr.Get to place r) none = refl
unbroken (Instr.Load to a r) none = refl
unbroken (Instr.Set place a d) none = refl
unbroken (Instr.Store a b d) none = refl
unbroken (Instr.Same to ne a b) none = refl
unbroken (Instr.New to a site) none = refl
unbroken (Instr.Free a) none = refl
unbroken (Instr.In to) none = refl
unbroken (Instr.Left to) none = refl
unbroken (Instr.Out a) none = refl
unbroken (Instr.Call to f def args) none = refl
unbroken Instr.Turn none = refl

-- the stretch in front of it stands in its regions
stretch : (m : Module) → GoodForm m.code → (f b at r : ℕ) (place : Place) → IsCovered m f b at r place → (k now : ℕ) → b < now → now + k ≡ at
    → (region_in (lines_of m.code f) now ≡ region_in (lines_of m.code f) at) × ((l : Lined) × (slice_get (lines_of m.code f) now ≡ Some l))
stretch m good f b at r place e zero now low is =
    let same : now ≡ at = omega (arith, is) in
    let t = there (lines_of m.code f) at (Instr.Get e.to place r) e.read (λ z. cc) in
    (ap (region_in (lines_of m.code f)) same, (t.line, ap (slice_get (lines_of m.code f)) same ∙ t.found))
stretch m good f b at r place e (suc k) now low is =
    let passed = unbroken (instr_in (lines_of m.code f) now) (e.straight.broken now (omega (arith, low)) (omega (arith, is))) in
    let step = behind m.code good f now (instr_in (lines_of m.code f) now) refl passed in
    let rest = stretch m good f b at r place e k (now + 1) (omega (arith, low)) (omega (arith, is)) in
    let t = there (lines_of m.code f) now (instr_in (lines_of m.code f) now) refl (λ z. let clash : true ≡ false = sym passed ∙ ap is_passed z in cc) in
    (sym step ∙ rest.0, (t.line, t.found))

-- no other thread runs while a thread stands there
pub nobody_else : (m : Module) → GoodForm m.code → (f b at r : ℕ) (place : Place) → IsCovered m f b at r place → (now : ℕ) → b < now → now ≤ at → (q : Point) → Parallel m.code (record { fun = f; at = now }) q → ⊥
nobody_else m good f b at r place e now low high q p =
    let s = stretch m good f b at r place e (at - now) now low (omega (arith, high)) in
    e.alone q (record {
      fun = p.fun;
      left = p.left;
      right = p.right;
      left_region = p.left_region;
      right_region = p.right_region;
      one_fork = p.one_fork;
      apart = p.apart;
      left_body = same_body m.code p.fun f now at p.left good s.1 s.0 p.left_body p.left_region;
      right_body = p.right_body;
    })
