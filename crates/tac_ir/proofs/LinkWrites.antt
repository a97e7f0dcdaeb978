-- A call's definition is written by the link write of that call alone, and stands in no word at the start.
use Rattle.std.proofs.Common.{◌≡◌, ℕ, suc, ◌+◌, ◌≤◌, Bool, true, false, List, [], ◌∷◌, length, refl, sym, ap, ◌∙◌, arith, Option, Some, None}
use Rattle.std.specs.Prelude.{nat_lt, nat_eq, ◌&&◌, if◌then◌else◌}
use Rattle.dfi_base.specs.declared.numbers.Point.{Point}
use Rattle.dfi_base.specs.declared.numbers.DefNo.{DefNo}
use Rattle.tac_ir.specs.declared.code.BinOp.{BinOp}
use Rattle.tac_ir.specs.declared.code.Code.{Code}
use Rattle.tac_ir.specs.declared.code.Global.{Global}
use Rattle.tac_ir.specs.declared.code.Instr.{Instr}
use Rattle.tac_ir.specs.declared.run.Op.{Op}
use Rattle.tac_ir.specs.Words.{word_of}
use Rattle.tac_ir.specs.Layout.{instr_at, shape_words, globals_from}
use Rattle.tac_ir.specs.Effect.{Effect, effect_of, calls, writes_link, reads_link, returns, divides, zero_divisor}
use Rattle.tac_ir.specs.Last.{Written, unwritten, starting}
use Rattle.tac_ir.specs.Numbers.{new_def}
use Rattle.tac_ir.specs.GoodForm.{GoodForm}
use Rattle.tac_ir.specs.NumberLaws.{new_call, is_calls, WordsStartWithNoCalls, WritesLink, CallsWriteLinks}
use Rattle.tac_ir.proofs.Numbering.{calls_make_theirs, starts_are_no_calls}

-- Words at the start.

starts_low : (c : Code) (globals : List Global) (g at w : ℕ) → (starting c globals g at w).def ≤ g + length globals
unfolding starting
starts_low c [] g at w = omega arith
starts_low c (x ∷ globals) g at w = by (nat_lt w at) (nat_lt w (at + shape_words c x.shape)) (starts_low c globals (suc g) (at + shape_words c x.shape) w)
  where
    by : (a b : Bool) → (starting c globals (suc g) (at + shape_words c x.shape) w).def ≤ suc g + length globals
        → (elim a as (λ z. Written) [ true ↦ unwritten | false ↦ elim b [ true ↦ record { def = suc g; value = word_of x.start } | false ↦ starting c globals (suc g) (at + shape_words c x.shape) w ] ]).def ≤ g + suc (length globals)
    by true b rest = omega arith
    by false true rest = omega arith
    by false false rest = omega (arith, rest)

pub words_start_with_no_calls : WordsStartWithNoCalls
words_start_with_no_calls c good w =
    starts_are_no_calls c good (starting c c.globals 0 globals_from w).def (let low = starts_low c c.globals 0 globals_from w in omega (arith, low))

-- Writes.

abbrev def_of : Op → ℕ
def_of (Op.Write d w v) = d.0
def_of op = 0

abbrev word_in : Op → ℕ
word_in (Op.Write d w v) = w
word_in op = 0

abbrev value_in : Op → ℕ
value_in (Op.Write d w v) = v
value_in op = 0

abbrev told : (Op → ℕ) → Option Op → ℕ
told f o = elim o [ None ↦ 0 | Some op ↦ f op ]

-- no other event is a write
no_division : (op : BinOp) (b : ℕ) (d : DefNo) (w v : ℕ) → zero_divisor op b ≡ Some (Op.Write d w v) → ⊥
no_division op b d w v is = by (divides op && nat_eq b 0) is
  where
    by : (x : Bool) → (if x then Some Op.Zero else None) ≡ Some (Op.Write d w v) → ⊥
    by true is = cc
    by false is = cc

-- a definition that is no call's
no_call : (c : Code) → GoodForm c → (p : Point) (i : Instr) (k d : ℕ) → instr_at c p ≡ i → new_def i ≡ Some k → new_call i ≡ None → d ≡ k → is_calls c d ≡ true → ⊥
no_call c good p i k d is makes none same calls =
    let here = (calls_make_theirs c good p d (ap new_def is ∙ makes ∙ ap Some (sym same))).0 calls in
    let clash : None ≡ Some d = sym none ∙ ap new_call (sym is) ∙ here in cc

pub calls_write_links : CallsWriteLinks
calls_write_links c good here val d w v event calls_is = by (instr_at c here.spot.point) refl event
  where
    call : (f k : ℕ) (args : List ℕ) (to : ℕ) (second : Bool) → here.spot.second ≡ second
        → (elim second as (λ z. Effect) [ false ↦ calls here f args | true ↦ writes_link here f k ]).event val ≡ Some (Op.Write d w v) → WritesLink (Instr.Call to f k args) here d w v
    call f k args to false is event = cc
    call f k args to true is event =
        let def : k ≡ d.0 = ap (told def_of) event in
        let word : here.newest_base ≡ w = ap (told word_in) event in
        let value : k ≡ v = ap (told value_in) event in
        record { call = ap Some def; second = is; word = sym word; value = sym value ∙ def }

    return : (a r : ℕ) (second : Bool) → (elim second as (λ z. Effect) [ false ↦ reads_link here r | true ↦ returns c here a ]).event val ≡ Some (Op.Write d w v) → ⊥
    return a r false event = cc
    return a r true event = cc

    by : (i : Instr) → instr_at c here.spot.point ≡ i → (effect_of c here i).event val ≡ Some (Op.Write d w v) → WritesLink i here d w v
    by (Instr.Set place a k) is event = (let def : k ≡ d.0 = ap (told def_of) event in absurd (no_call c good here.spot.point (Instr.Set place a k) k d.0 is refl refl (sym def) calls_is))
    by (Instr.Store a b k) is event = (let def : k ≡ d.0 = ap (told def_of) event in absurd (no_call c good here.spot.point (Instr.Store a b k) k d.0 is refl refl (sym def) calls_is))
    by (Instr.Call to f k args) is event = call f k args to here.spot.second refl event
    by (Instr.Ret a (Some r)) is event = absurd (return a r here.spot.second event)
    by (Instr.Bin to op a b) is event = absurd (no_division op (val b) d w v event)
    by i is event = cc
