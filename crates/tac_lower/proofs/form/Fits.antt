-- Pieces of one instruction hold where they stand.
use Rattle.std.proofs.Common.{◌≡◌, ℕ, ℤ, ◌+◌, ◌<◌, ◌≤◌, ◌⊎◌, inl, inr, Bool, true, false, pos, List, [], length, refl, sym, subst, arith}
use Rattle.c_typed.specs.declared.types.ObjectType.{ObjectType}
use Rattle.tac_ir.specs.declared.code.Instr.{Instr}
use Rattle.tac_ir.specs.declared.code.BinOp.{BinOp}
use Rattle.tac_ir.specs.declared.code.UnOp.{UnOp}
use Rattle.tac_ir.specs.declared.code.Place.{Place}
use Rattle.tac_ir.specs.Layout.{parts_of}
use Rattle.tac_ir.specs.Places.{IsPlace, IsLeafPlace, is_array}
use Rattle.tac_ir.specs.Regions.{Region, regions_by}
use Rattle.tac_ir.specs.GoodForm.{IsGoodCall, IsTurn}
use Rattle.tac_lower.specs.declared.draft.Numbers.{Numbers}
use Rattle.tac_lower.specs.declared.draft.Taken.{Taken}
use Rattle.tac_lower.specs.declared.draft.Draft.{Draft}
use Rattle.tac_lower.specs.declared.draft.Ends.{Ends}
use Rattle.tac_lower.specs.Parts.{one}
use Rattle.tac_lower.specs.Instrs.{draft, draft_of, no_number, a_temp, a_def, a_temp_and_def, a_temp_and_read, fresh, quiet, constant, null, prefixed, computed, address, field, decay, index, get, load, set, store, same, new, call, test, test_past}
use Rattle.tac_lower.specs.Stmts.{leaving, returned, turn}
use Rattle.tac_lower.proofs.form.Each.{Each, each_append, each_by}
use Rattle.tac_lower.proofs.form.Zones.{Held, Apart, round, before, behind, Off, Top, Zone, zone_level}
use Rattle.tac_lower.proofs.form.Holds.{Keeps, AllFit, World, regions, Known, KnownThere, IsDeclared, IsDeclaredThere, Named, Aim, Fit, instr_of, own, Reaches, Holds}

-- neither a target, nor the end of a branch or a function
abbrev pub is_plain : Instr → Bool
is_plain (Instr.Jump target) = false
is_plain (Instr.Test a at_other at_zero) = false
is_plain (Instr.Fork join entries) = false
is_plain Instr.End = false
is_plain (Instr.Ret a r) = false
is_plain i = true

plain_fit : (w : World) (at : ℕ) (i : Instr) → is_plain i ≡ true → Named w i → Fit w at i
plain_fit w at (Instr.Jump target) h names = cc
plain_fit w at (Instr.Test a at_other at_zero) h names = cc
plain_fit w at (Instr.Fork join entries) h names = cc
plain_fit w at Instr.End h names = cc
plain_fit w at (Instr.Ret a r) h names = cc
plain_fit w at i h names = record { names = names; aims = tt; forked = tt; fork = tt; ret = λ is. absurd is; end = λ e. cc }

plain_regions : (at : ℕ) (i : Instr) → is_plain i ≡ true → regions_by at i ≡ []
plain_regions at (Instr.Fork join entries) h = cc
plain_regions at i h = refl

module _ (w : World) (b : Bool) (outs : Ends → ℕ → ℕ → Type 0) where
  plain_one : (k : Taken) (make : Numbers → Draft) → ((n : Numbers) → is_plain (instr_of w (make n)) ≡ true)
      → ((n : Numbers) → KnownThere w (make n).object → Named w (instr_of w (make n))) → ((n : Numbers) → IsDeclaredThere w (make n).object) → Holds w b outs (one k make)
  plain_one k make plain names objects = record {
    keeps = record {
      drafts = λ ends n. refl;
      at = λ ends n. refl;
      held = λ ends n. each_append (Held n.at (n.at + 1)) (regions_by n.at (instr_of w (make n))) [] (subst (λ rs. Each (Held n.at (n.at + 1)) rs) (sym (plain_regions n.at (instr_of w (make n)) (plain n))) tt) tt;
      objects = λ ends n. (objects n, tt);
    };
    fits = λ ends n s. (plain_fit w n.at (instr_of w (make n)) (plain n) (names n s.sits.1), tt);
  }

  pub constant_holds : (line : ℕ) (k : ℤ) → Holds w b outs (constant line k)
  constant_holds line k = plain_one a_temp (λ n. draft line (Instr.Const n.temp k)) (λ n. refl) (λ n known. tt) (λ n. tt)

  pub null_holds : (line : ℕ) → Holds w b outs (null line)
  null_holds line = plain_one a_temp (λ n. draft line (Instr.Null n.temp)) (λ n. refl) (λ n known. tt) (λ n. tt)

  pub prefixed_holds : (line : ℕ) (op : UnOp) (a : ℕ) → Holds w b outs (prefixed line op a)
  prefixed_holds line op a = plain_one a_temp (λ n. draft line (Instr.Un n.temp op a)) (λ n. refl) (λ n known. tt) (λ n. tt)

  pub computed_holds : (line : ℕ) (op : BinOp) (x y : ℕ) → Holds w b outs (computed line op x y)
  computed_holds line op x y = plain_one a_temp (λ n. draft line (Instr.Bin n.temp op x y)) (λ n. refl) (λ n known. tt) (λ n. tt)

  pub address_holds : (line : ℕ) (p : Place) → IsPlace w.code w.fun p → Holds w b outs (address line p)
  address_holds line p is = plain_one a_temp (λ n. draft line (Instr.Addr n.temp p)) (λ n. refl) (λ n known. is) (λ n. tt)

  pub field_holds : (line : ℕ) (t : ObjectType) (k a : ℕ) → IsDeclared w t → (Known w t → k < length (parts_of w.code (w.shape t))) → Holds w b outs (field line t k a)
  field_holds line t k a object is = plain_one a_temp (λ n. draft_of line (Instr.Field n.temp a 0 k) t) (λ n. refl) (λ n known. is known) (λ n. object)

  pub decay_holds : (line : ℕ) (t : ObjectType) (a : ℕ) → IsDeclared w t → (Known w t → is_array w.code (w.shape t) ≡ true) → Holds w b outs (decay line t a)
  decay_holds line t a object is = plain_one a_temp (λ n. draft_of line (Instr.Decay n.temp a 0) t) (λ n. refl) (λ n known. is known) (λ n. object)

  pub index_holds : (line words x y : ℕ) → 1 ≤ words → Holds w b outs (index line words x y)
  index_holds line words x y some = plain_one a_temp (λ n. draft line (Instr.Index n.temp x y words)) (λ n. refl) (λ n known. some) (λ n. tt)

  pub get_holds : (line : ℕ) (p : Place) → IsLeafPlace w.code w.fun p → Holds w b outs (get line p)
  get_holds line p is = plain_one a_temp_and_read (λ n. draft line (Instr.Get n.temp p n.read)) (λ n. refl) (λ n known. is) (λ n. tt)

  pub load_holds : (line a : ℕ) → Holds w b outs (load line a)
  load_holds line a = plain_one a_temp_and_read (λ n. draft line (Instr.Load n.temp a n.read)) (λ n. refl) (λ n known. tt) (λ n. tt)

  pub set_holds : (line : ℕ) (p : Place) (a : ℕ) → IsLeafPlace w.code w.fun p → Holds w b outs (set line p a)
  set_holds line p a is = plain_one a_def (λ n. draft line (Instr.Set p a n.def)) (λ n. refl) (λ n known. is) (λ n. tt)

  pub store_holds : (line x y : ℕ) → Holds w b outs (store line x y)
  store_holds line x y = plain_one a_def (λ n. draft line (Instr.Store x y n.def)) (λ n. refl) (λ n known. tt) (λ n. tt)

  pub same_holds : (line : ℕ) (ne : Bool) (x y : ℕ) → Holds w b outs (same line ne x y)
  same_holds line ne x y = plain_one a_temp (λ n. draft line (Instr.Same n.temp ne x y)) (λ n. refl) (λ n known. tt) (λ n. tt)

  pub new_holds : (line site : ℕ) (t : ObjectType) (a : ℕ) → IsDeclared w t → Holds w b outs (new line site t a)
  new_holds line site t a object = plain_one a_temp (λ n. draft_of line (Instr.New n.temp a site) t) (λ n. refl) (λ n known. tt) (λ n. object)

  pub call_holds : (line f : ℕ) (args : List ℕ) → IsGoodCall w.code f args → Holds w b outs (call line f args)
  call_holds line f args is = plain_one a_temp_and_def (λ n. draft line (Instr.Call n.temp f n.def args)) (λ n. refl) (λ n known. is) (λ n. tt)

  pub in_holds : (line : ℕ) → Holds w b outs (fresh line (λ t. Instr.In t))
  in_holds line = plain_one a_temp (λ n. draft line (Instr.In n.temp)) (λ n. refl) (λ n known. tt) (λ n. tt)

  pub left_holds : (line : ℕ) → Holds w b outs (fresh line (λ t. Instr.Left t))
  left_holds line = plain_one a_temp (λ n. draft line (Instr.Left n.temp)) (λ n. refl) (λ n known. tt) (λ n. tt)

  pub out_holds : (line a : ℕ) → Holds w b outs (quiet line (λ at. Instr.Out a))
  out_holds line a = plain_one no_number (λ n. draft line (Instr.Out a)) (λ n. refl) (λ n known. tt) (λ n. tt)

  pub free_holds : (line a : ℕ) → Holds w b outs (quiet line (λ at. Instr.Free a))
  free_holds line a = plain_one no_number (λ n. draft line (Instr.Free a)) (λ n. refl) (λ n known. tt) (λ n. tt)

  pub turn_holds : (line : ℕ) → Holds w b outs (turn line)
  turn_holds line = plain_one no_number (λ n. draft line Instr.Turn) (λ n. refl) (λ n known. tt) (λ n. tt)

  pub zero_holds : (line t : ℕ) → Holds w b outs (quiet line (λ at. Instr.Const t (pos 0)))
  zero_holds line t = plain_one no_number (λ n. draft line (Instr.Const t (pos 0))) (λ n. refl) (λ n known. tt) (λ n. tt)

-- Targets.
reach_aim : (w : World) (lo hi i t : ℕ) → lo ≤ i → i < hi → Reaches w lo hi [] t → Aim w i t
reach_aim w lo hi i t low high r = record { inside = r.inside; onward = up r.onward; level = r.level i low high tt }
  where
    up : (hi ≤ t) ⊎ IsTurn w.lines t → (i < t) ⊎ IsTurn w.lines t
    up (inl h) = inl (omega arith)
    up (inr is) = inr is

-- the next instruction
next_aim : (w : World) (b : Bool) (lo : ℕ) → lo + 1 < length w.lines → Zone (regions w) b lo (lo + 1) [] → Aim w lo (lo + 1)
next_aim w b lo below z = record {
  inside = below;
  onward = inl (omega arith);
  level = zone_level (regions w) b lo (lo + 1) [] lo (lo + 1) z (omega arith) (omega arith) (omega arith) (omega arith) tt tt;
}

module _ (w : World) (b : Bool) where
  pub goto_holds : (line : ℕ) (target : ℕ → ℕ) → Holds w b (λ ends lo t. t ≡ target lo) (quiet line (λ at. Instr.Jump (target at)))
  goto_holds line target = record {
    keeps = record { drafts = λ ends n. refl; at = λ ends n. refl; held = λ ends n. tt; objects = λ ends n. (tt, tt) };
    fits = λ ends n s. (
      record {
        names = tt;
        aims = (reach_aim w n.at (n.at + 1) n.at (target n.at) (omega arith) (omega arith) (s.reaches (target n.at) refl), tt);
        forked = tt;
        fork = tt;
        ret = λ is. absurd is;
        end = λ e. cc;
      },
      tt,
    );
  }

  pub leaving_holds : (line : ℕ) (end : Ends → ℕ) → Holds w b (λ ends lo t. t ≡ end ends) (leaving line end)
  leaving_holds line end = record {
    keeps = record { drafts = λ ends n. refl; at = λ ends n. refl; held = λ ends n. tt; objects = λ ends n. (tt, tt) };
    fits = λ ends n s. (goto_holds line (λ at. end ends)).fits ends n (record { sits = s.sits; zone = s.zone; below = s.below; reaches = s.reaches });
  }

  pub test_holds : (line a past : ℕ) → Holds w b (λ ends lo t. t ≡ lo + 1 + past) (test line a past)
  test_holds line a past = record {
    keeps = record { drafts = λ ends n. refl; at = λ ends n. refl; held = λ ends n. tt; objects = λ ends n. (tt, tt) };
    fits = λ ends n s. (
      record {
        names = tt;
        aims = (next_aim w b n.at s.below s.zone, (reach_aim w n.at (n.at + 1) n.at (n.at + 1 + past) (omega arith) (omega arith) (s.reaches (n.at + 1 + past) refl), tt));
        forked = tt;
        fork = tt;
        ret = λ is. absurd is;
        end = λ e. cc;
      },
      tt,
    );
  }

  pub test_past_holds : (line a past : ℕ) → Holds w b (λ ends lo t. t ≡ lo + 1 + past) (test_past line a past)
  test_past_holds line a past = record {
    keeps = record { drafts = λ ends n. refl; at = λ ends n. refl; held = λ ends n. tt; objects = λ ends n. (tt, tt) };
    fits = λ ends n s. (
      record {
        names = tt;
        aims = (reach_aim w n.at (n.at + 1) n.at (n.at + 1 + past) (omega arith) (omega arith) (s.reaches (n.at + 1 + past) refl), (next_aim w b n.at s.below s.zone, tt));
        forked = tt;
        fork = tt;
        ret = λ is. absurd is;
        end = λ e. cc;
      },
      tt,
    );
  }

-- Returns stand in no branch.
pub zone_clear : (all : List Region) (lo hi i : ℕ) → lo ≤ i → i ≤ hi → Zone all false lo hi [] → Top i all
zone_clear all lo hi i low high z =
    subst (λ rs. Top i rs) (sym z.split)
    (each_append (Off i) z.pre z.post (each_by (Apart false lo hi) (Off i) z.pre (λ r is. off r is) z.first) (each_by (Apart false lo hi) (Off i) z.post (λ r is. off r is) z.last))
  where
    off : (r : Region) → Apart false lo hi r → Off i r
    off r (round is below above) = λ inside. cc
    off r (before is) = λ inside. omega arith
    off r (behind is also) = λ inside. omega arith

-- whether the function is `main`
abbrev pub IsMainBy : World → Bool → Type 0
IsMainBy w true = w.fun ≡ w.code.main
IsMainBy w false = w.fun ≡ w.code.main → ⊥

pub returned_fit : (w : World) (main : Bool) (line a : ℕ) (ends : Ends) (n : Numbers) → IsMainBy w main → Top n.at (regions w)
    → AllFit w n.at ((returned main line a).make ends n).drafts
returned_fit w true line a ends n is top = (record { names = is; aims = tt; forked = tt; fork = tt; ret = λ here. top; end = λ e. cc }, tt)
returned_fit w false line a ends n is top = (record { names = is; aims = tt; forked = tt; fork = tt; ret = λ here. top; end = λ e. cc }, tt)

pub returned_keeps : (w : World) (main : Bool) (line a : ℕ) → Keeps w (returned main line a)
returned_keeps w true line a = record { drafts = λ ends n. refl; at = λ ends n. refl; held = λ ends n. tt; objects = λ ends n. (tt, tt) }
returned_keeps w false line a = record { drafts = λ ends n. refl; at = λ ends n. refl; held = λ ends n. tt; objects = λ ends n. (tt, tt) }

pub returned_points : (main : Bool) (line a : ℕ) → (returned main line a).points ≡ 1
returned_points true line a = refl
returned_points false line a = refl

pub returned_own : (w : World) (main : Bool) (line a : ℕ) (ends : Ends) (n : Numbers) → own w n.at ((returned main line a).make ends n).drafts ≡ []
returned_own w true line a ends n = refl
returned_own w false line a ends n = refl

pub returned_holds : (w : World) (outs : Ends → ℕ → ℕ → Type 0) (main : Bool) (line a : ℕ) → IsMainBy w main → Holds w false outs (returned main line a)
returned_holds w outs main line a is = record {
  keeps = returned_keeps w main line a;
  fits = λ ends n s.
      returned_fit w main line a ends n is
      (zone_clear (regions w) n.at (n.at + (returned main line a).points) n.at (omega arith) (omega arith)
      (subst (λ rs. Zone (regions w) false n.at (n.at + (returned main line a).points) rs) (returned_own w main line a ends n) s.zone));
}
