-- What the event of a life writes: a call's definition is written by the link write of that call alone.
use Rattle.std.proofs.Common.{◌≡◌, ℕ, length, Bool, true, false, refl, Option, Some, None, sym, ◌∙◌, ap, subst}
use Rattle.std.specs.Prelude.{nat_eq, not, ◌&&◌}
use Rattle.dfi_base.specs.declared.numbers.Point.{Point}
use Rattle.tac_ir.specs.declared.code.Code.{Code}
use Rattle.tac_ir.specs.declared.code.BinOp.{BinOp}
use Rattle.tac_ir.specs.declared.code.Instr.{Instr}
use Rattle.tac_ir.specs.declared.run.Answer.{Answer}
use Rattle.tac_ir.specs.declared.run.Op.{Op}
use Rattle.tac_ir.specs.Words.{int_of}
use Rattle.tac_ir.specs.Layout.{instr_at}
use Rattle.tac_ir.specs.Numbers.{new_def}
use Rattle.tac_ir.specs.GoodForm.{GoodForm}
use Rattle.tac_ir.specs.NumberLaws.{new_call, is_calls}
use Rattle.tac_ir.proofs.Numbering.{calls_make_theirs}
use Rattle.tac_thread.specs.declared.flat.FlatStack.{FlatStack}
use Rattle.tac_thread.specs.declared.guest.Stage.{Stage}
use Rattle.tac_thread.specs.declared.doing.Doing.{Doing}
use Rattle.tac_thread.specs.declared.want.Want.{Want}
use Rattle.tac_thread.specs.Meaning.{divides_by_zero}
use Rattle.tac_thread.specs.Flat.{flat_meaning}
use Rattle.tac_thread.specs.Life.{instr_of, temp}
use Rattle.tac_thread.specs.Doing.{doing, asked, given, divided, tested, link_write, want_at}
use Rattle.path_law.specs.Asked.{op_of}
use Rattle.path_law.specs.Standing.{FlatActivation, point_of}
use Rattle.link_law.specs.tools.Links.{link_to}

abbrev pub op_in : Option (Want ℕ) → Option Op
op_in None = None
op_in (Some w) = op_of w

-- it writes by no call's definition
abbrev pub IsNoLinkOp : Code → Op → Type 0
IsNoLinkOp c (Op.Write d w v) = is_calls c d.0 ≡ false
IsNoLinkOp c op = Unit {0}

-- it writes the link of this frame, by the call at which the life stands
pub record IsLinkOp (c : Code) (x callee : FlatActivation) (op : Op) : Type 0 where
  pub def : ℕ
  pub call : new_call (instr_of c x) ≡ Some def
  pub is : op ≡ Op.Write (record { 0 = def }) callee.stack.base def
  pub calls : is_calls c def ≡ true

no_calls : (c : Code) → GoodForm c → (p : Point) (i : Instr) (d : ℕ) → instr_at c p ≡ i → new_def i ≡ Some d → new_call i ≡ None → is_calls c d ≡ false
no_calls c good p i d is makes none = by (is_calls c d) refl
  where
    by : (b : Bool) → is_calls c d ≡ b → is_calls c d ≡ false
    by false e = e
    by true e = (let clash : None ≡ Some d = sym none ∙ ap new_call (sym is) ∙ (calls_make_theirs c good p d (ap new_def is ∙ makes)).0 e in cc)

no_link_in : (c : Code) (op : Op) (d : ℕ) → is_calls c d ≡ false → (w v : ℕ) → Some (Op.Write (record { 0 = d }) w v) ≡ Some op → IsNoLinkOp c op
no_link_in c op d none w v is = (let one : Op.Write (record { 0 = d }) w v ≡ op = cc in subst (IsNoLinkOp c) one none)

no_divided : (c : Code) (to : ℕ) (o : BinOp) (x y : ℕ) (op : Op) → op_in (asked (divided flat_meaning to o x y)) ≡ Some op → IsNoLinkOp c op
no_divided c to o x y op is = by (divides_by_zero flat_meaning o y) is
  where
    by : (b : Bool) → op_in (asked (elim b [ true ↦ Doing.Asks Want.Zero | false ↦ given to (flat_meaning.bin o x y) ])) ≡ Some op → IsNoLinkOp c op
    by true z = (let one : Op.Zero ≡ op = cc in subst (IsNoLinkOp c) one tt)
    by false z = cc

no_tested : (c : Code) (a b : ℕ) (o : Bool) (op : Op) → op_in (asked (tested {V = ℕ} a b (Some o))) ≡ Some op → IsNoLinkOp c op
no_tested c a b true op is = cc
no_tested c a b false op is = cc

first_op : (c : Code) → GoodForm c → (x : FlatActivation) (i : Instr) (op : Op) → instr_of c x ≡ i → op_in (asked (doing flat_meaning c x i)) ≡ Some op → IsNoLinkOp c op
first_op c good x (Instr.Set place a d) op at is = no_link_in c op d (no_calls c good (point_of x) (Instr.Set place a d) d at refl refl) (flat_meaning.place c x.fun x.stack place) (temp flat_meaning x a) is
first_op c good x (Instr.Store a b d) op at is = no_link_in c op d (no_calls c good (point_of x) (Instr.Store a b d) d at refl refl) (temp flat_meaning x a) (temp flat_meaning x b) is
first_op c good x (Instr.Bin to o a b) op at is = no_divided c to o (temp flat_meaning x a) (temp flat_meaning x b) op is
first_op c good x (Instr.Test a one other) op at is = no_tested c one other (not (nat_eq (temp flat_meaning x a) 0)) op is
first_op c good x (Instr.Get to place r) op at is = (let one : Op.Read (record { 0 = r }) (flat_meaning.place c x.fun x.stack place) ≡ op = cc in subst (IsNoLinkOp c) one tt)
first_op c good x (Instr.Load to a r) op at is = (let one : Op.Read (record { 0 = r }) (temp flat_meaning x a) ≡ op = cc in subst (IsNoLinkOp c) one tt)
first_op c good x (Instr.Same to ne a b) op at is = (let one : Op.Same (temp flat_meaning x a) (temp flat_meaning x b) ne ≡ op = cc in subst (IsNoLinkOp c) one tt)
first_op c good x (Instr.New to a site) op at is = (let one : Op.New site (int_of (temp flat_meaning x a)) ≡ op = cc in subst (IsNoLinkOp c) one tt)
first_op c good x (Instr.Free a) op at is = (let one : Op.Free (temp flat_meaning x a) ≡ op = cc in subst (IsNoLinkOp c) one tt)
first_op c good x (Instr.In to) op at is = (let one : Op.In ≡ op = cc in subst (IsNoLinkOp c) one tt)
first_op c good x (Instr.Left to) op at is = (let one : Op.Left ≡ op = cc in subst (IsNoLinkOp c) one tt)
first_op c good x (Instr.Out a) op at is = (let one : Op.Out (int_of (temp flat_meaning x a)) ≡ op = cc in subst (IsNoLinkOp c) one tt)
first_op c good x (Instr.Call to g d args) op at is = (let one : Op.Call g ≡ op = cc in subst (IsNoLinkOp c) one tt)
first_op c good x (Instr.Ret a (Some r)) op at is = (let one : Op.Read (record { 0 = r }) x.stack.base ≡ op = cc in subst (IsNoLinkOp c) one tt)
first_op c good x Instr.Turn op at is = (let one : Op.Turn ≡ op = cc in subst (IsNoLinkOp c) one tt)
first_op c good x (Instr.Fork join entries) op at is = (let one : Op.Fork (length entries) ≡ op = cc in subst (IsNoLinkOp c) one tt)
first_op c good x i op at is = cc

-- the second step of a call
second_op : (c : Code) → GoodForm c → (x callee : FlatActivation) (i : Instr) (op : Op) → instr_of c x ≡ i → op_in (link_write i (Some callee.stack.base)) ≡ Some op → IsLinkOp c x callee op
second_op c good x callee (Instr.Call to g d args) op at is =
    let one : Op.Write (record { 0 = d }) callee.stack.base d ≡ op = cc in
    record { def = d; call = ap new_call at; is = sym one; calls = (calls_make_theirs c good (point_of x) d (ap new_def at)).1 (ap new_call at) }
second_op c good x callee i op at is = cc

-- by what is done of the instruction
abbrev pub WritesIn : Code → FlatActivation → Op → Stage ℕ FlatStack → Type 0
WritesIn c x op (Stage.Entering callee) = IsLinkOp c x callee op
WritesIn c x op stage = IsNoLinkOp c op

pub writes_in : (c : Code) → GoodForm c → (x : FlatActivation) (stage : Stage ℕ FlatStack) (op : Op) → op_in (want_at flat_meaning c x stage) ≡ Some op → WritesIn c x op stage
writes_in c good x Stage.Ready op is = first_op c good x (instr_of c x) op refl is
writes_in c good x (Stage.Entering callee) op is = second_op c good x callee (instr_of c x) op refl is
writes_in c good x (Stage.Leaving link) op is = (let one : Op.Ret ≡ op = cc in subst (IsNoLinkOp c) one tt)
writes_in c good x Stage.Waiting op is = cc

-- what such an op does to links

pub no_link_to : (c : Code) (op : Op) (answer : Answer) → IsNoLinkOp c op → (w : ℕ) → link_to c w op answer ≡ None
no_link_to c (Op.Write d at v) Answer.Unit none w = ap (λ b. pick (nat_eq at w && b)) none ∙ never (nat_eq at w)
  where
    pick : Bool → Option ℕ
    pick b = elim b [ true ↦ Some d.0 | false ↦ None ]

    never : (b : Bool) → pick (b && false) ≡ None
    never true = refl
    never false = refl
no_link_to c op answer none w = refl

abbrev def_in : Op → ℕ
def_in (Op.Write d w v) = d.0
def_in op = 0

abbrev value_in : Op → ℕ
value_in (Op.Write d w v) = v
value_in op = 0

-- a call's definition writes its own number
pub itself : (c : Code) (x : FlatActivation) (op : Op) (stage : Stage ℕ FlatStack) → WritesIn c x op stage → (w d v : ℕ) → op ≡ Op.Write (record { 0 = d }) w v → is_calls c d ≡ true → v ≡ d
itself c x op (Stage.Entering callee) t w d v is calls = sym (ap value_in is) ∙ ap value_in t.is ∙ sym (ap def_in t.is) ∙ ap def_in is
itself c x op Stage.Ready none w d v is calls = (let n : is_calls c d ≡ false = subst (IsNoLinkOp c) is none in let clash : true ≡ false = sym calls ∙ n in cc)
itself c x op (Stage.Leaving link) none w d v is calls = (let n : is_calls c d ≡ false = subst (IsNoLinkOp c) is none in let clash : true ≡ false = sym calls ∙ n in cc)
itself c x op Stage.Waiting none w d v is calls = (let n : is_calls c d ≡ false = subst (IsNoLinkOp c) is none in let clash : true ≡ false = sym calls ∙ n in cc)
