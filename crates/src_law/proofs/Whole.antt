-- The whole program: the trace of main, and the threads of its reader.
use Rattle.std.proofs.Common.{◌≡◌, ℕ, ◌^◌, ◌≤◌, true, List, [], ◌∷◌, ◌++◌, length, reverse, refl, sym, ap, ◌∙◌, subst, Option, Some, None, arith, lit≤}
use Rattle.std.proofs.lemmas.List.{reverse-append, reverse-reverse, append-nil}
use Rattle.dfi_base.specs.Names.Below.{itself}
use Rattle.dfi_base.specs.Lives.{own, BeginsIn, EndedIn, IsNextIn}
use Rattle.dfi_base.specs.Lives.EndedIn.{ended as has_ended}
use Rattle.dfi_base.specs.Grown.{IsGrown, AreFew}
use Rattle.dfi_base.proofs.Names.{low_below}
use Rattle.dfi_base.proofs.Depth.{depth_is_by_name}
use Rattle.dfi_base.proofs.Entries.{first_begins}
use Rattle.c_typed.specs.Typed.{Typed}
use Rattle.obj_mem.specs.declared.value.Value.{Value}
use Rattle.obj_mem.specs.declared.event.Event.{Event}
use Rattle.obj_mem.specs.declared.event.SrcAnswer.{SrcAnswer}
use Rattle.obj_mem.specs.declared.event.Stamp.{Stamp}
use Rattle.obj_mem.specs.Laws.{AreAnswered}
use Rattle.src_law.specs.Acts.{Kind, a_value, Result, Act}
use Rattle.src_law.specs.Traces.{Trace, by}
use Rattle.src_law.specs.Program.{body, main_act}
use Rattle.src_law.specs.Starts.{opening}
use Rattle.src_law.specs.Runs.{Does, HasReturned}
use Rattle.src_law.specs.tools.Heard.{Heard, Res, got, off, Reads}
use Rattle.src_law.specs.tools.Reader.{reads, source_reading}
use Rattle.src_law.specs.tools.Threads.{depth, at, wanted, is_settled, life_of}
use Rattle.src_law.specs.tools.ReaderLaws.{source_threads, IsAnswered, HistoriesAreRead}
use Rattle.src_law.proofs.Fuel.{Bodies, same_reads, bind_got}
use Rattle.src_law.proofs.First.{is_fit}
use Rattle.src_law.proofs.Answering.{answer_fits, some_fit}
use Rattle.src_law.proofs.Places.{AnyFits, Place, now_heard, at_place}
use Rattle.src_law.proofs.Going.{BranchIsDeeper, Here, Went, went}
use Rattle.src_law.proofs.Ending.{done_by}
use Rattle.src_law.proofs.Extending.{Longer, longer, through, long_by, want_is}
use Rattle.src_law.proofs.Lives.{begun_start}

pub deeper : BranchIsDeeper
deeper n i known shallow low few =
    let small = depth_is_by_name.small n known shallow in
    let some = low_below 1 n known in
    let wide : 2 ^ 57 ≤ 2 ^ 64 = lit≤ tt in
    depth_is_by_name.branch n i (omega (arith, some)) (omega (arith, small, wide)) few

-- A part that is alone, read by its one thread.
module _ (b : Bodies) (k : Kind) (a : Act k) where
  abbrev pub alone : Reads (Result k)
  alone l = reads b (length l) k a l

  pub first_place : Place alone 1 [] []
  unfolding IsGrown AreFew BeginsIn own depth
  first_place = record {
    known = itself 1 refl;
    depth_is = refl;
    shallow = lit≤ tt;
    grown = tt;
    few = tt;
    all_over = λ q s begins differs. absurd (differs begins.0);
    joined = λ i low high. absurd (omega (arith, low, high));
  }

  pub first_here : Here alone b deeper 1 [] [] k a got
  unfolding own
  first_here = record { reads_on = λ l past f more. same_reads b (length l) f k a l (omega arith) more ∙ sym (bind_got (reads b f k a l)) }

  -- it has gone along its trace
  pub gone : (u : List Stamp) (r : Option (Result k)) → Trace b 1 k a u r → Went alone b deeper 1 [] u (reverse u ++ []) k got r
  gone u r trace = went alone b deeper 1 [] [] k a got u r first_place first_here trace

  pub come_to : (u : List Stamp) (x : Result k) → Trace b 1 k a u (Some x) → alone (now_heard alone 1 [] (reverse u ++ [])) ≡ got x []
  come_to u x trace = ap alone (sym (append-nil (now_heard alone 1 [] (reverse u ++ [])))) ∙ (gone u (Some x) trace).on x refl [] tt

same_got : {B : Type 0} (x y : B) → got x [] ≡ got y [] → x ≡ y
same_got x y same = cc

-- a trace comes to one result
pub one_result : (b : Bodies) (k : Kind) (a : Act k) (u : List Stamp) (x y : Result k) → Trace b 1 k a u (Some x) → Trace b 1 k a u (Some y) → x ≡ y
one_result b k a u x y left right = same_got x y (sym (come_to b k a u x left) ∙ come_to b k a u y right)

-- Main.

back_again : (h : List Stamp) → reverse (reverse h) ++ [] ≡ h
back_again h = append-nil (reverse (reverse h)) ∙ reverse-reverse h

module _ (t : Typed) where
  abbrev Lived : List Stamp → ℕ → List Heard → Event → Type 0
  Lived h n s e = IsNextIn (source_threads t) 1 [] h n s e

  pub main_gone : (h : List Stamp) (r : Option Value) → Does t h r → Went (source_reading t) (body t) deeper 1 [] (reverse h) h a_value got r
  main_gone h r traced = subst (λ z. Went (source_reading t) (body t) deeper 1 [] (reverse h) z a_value got r) (back_again h) (gone (body t) a_value (main_act t) (reverse h) r traced)

  main_longer : (h : List Stamp) (r : Option Value) (n : ℕ) (s : List Heard) (e : Event) (a : SrcAnswer) → Does t h r → Lived h n s e → is_fit e a ≡ true → Does t (by n e a ∷ h) None
  main_longer h r n s e a traced next fits =
      go (long_by (source_reading t) (body t) deeper 1 [] [] a_value (main_act t) got (reverse h) r n s e a (first_place (body t) a_value (main_act t)) (first_here (body t) a_value (main_act t)) traced
      (subst (λ z. Lived z n s e) (sym (back_again h)) next) fits)
    where
      go : Longer (source_reading t) (body t) deeper 1 a_value (main_act t) (reverse h) n (by n e a) → Does t (by n e a ∷ h) None
      go (longer trace) = subst (λ u. Trace (body t) 1 a_value (main_act t) u None) (sym (reverse-append (by n e a ∷ []) h)) trace
      go (through mine v trace) =
          let w = main_gone h (Some v) trace in
          let place = w.place v refl in
          let want = want_is (source_reading t) (body t) deeper 1 [] h n s e place next in
          let reading = ap (source_reading t) (sym (append-nil (now_heard (source_reading t) 1 [] h))) ∙ w.on v refl [] tt in
          absurd (none_wanted (sym (ap wanted reading) ∙ want))
        where
          none_wanted : None ≡ Some e → ⊥
          none_wanted same = cc

  -- histories are grown
  answered_grown : (first h : List Stamp) → IsGrown (source_threads t) AnyFits 1 [] h → AreAnswered first h → IsGrown (source_threads t) (IsAnswered first) 1 [] h
  unfolding IsGrown
  answered_grown first [] grown answered = tt
  answered_grown first (x ∷ h) grown answered =
      (record { start = grown.0.start; want = grown.0.want; next = grown.0.next; fits = record { event = grown.0.fits; answer = answered.0 } }, answered_grown first h grown.1 answered.1)

  grown_answered : (first h : List Stamp) → IsGrown (source_threads t) (IsAnswered first) 1 [] h → AreAnswered first h
  unfolding IsGrown
  grown_answered first [] grown = tt
  grown_answered first (x ∷ h) grown = (grown.0.fits.answer, grown_answered first h grown.1)

  grown_traced : (first h : List Stamp) → IsGrown (source_threads t) (IsAnswered first) 1 [] h → Does t h None
  unfolding IsGrown
  grown_traced first [] grown = Trace.cut_first 1 a_value (main_act t)
  grown_traced first (x ∷ h) grown =
      let g = grown.0 in
      let event = g.fits.event in
      subst (λ z. Does t (z ∷ h) None) (stamp_is x g.want event)
      (main_longer h None x.name.0 g.start g.want x.answer (grown_traced first h grown.1) g.next
      (subst (λ e. is_fit e x.answer ≡ true) (sym event) (answer_fits (h ++ first) x.name.0 x.event x.answer g.fits.answer)))
    where
      stamp_is : (y : Stamp) (w : Event) → w ≡ y.event → by y.name.0 w y.answer ≡ y
      stamp_is y w same = ap (λ e. by y.name.0 e y.answer) same

  returned_ended : (h : List Stamp) (v : Value) → HasReturned t h v → EndedIn (source_threads t) 1 [] h 1 × (life_of (source_reading t) h 1 ≡ got v [])
  returned_ended h v traced =
      let w = main_gone h (Some v) traced in
      let place = w.place v refl in
      let begun = first_begins (source_threads t) 1 [] AnyFits h place.grown in
      let o = own (source_threads t) 1 h in
      let reading : at (source_reading t) [] o ≡ got v [] =
      at_place (source_reading t) 1 [] h place ∙ (ap (source_reading t) (sym (append-nil (now_heard (source_reading t) 1 [] h))) ∙ w.on v refl [] tt) in (
        has_ended 1 [] begun (ap is_settled reading) place.joined,
        ap (λ z. elim z as (λ y. Res Value) [ None ↦ off | Some s ↦ at (source_reading t) s o ]) (begun_start (source_reading t) h 1 [] begun) ∙ reading,
      )

  ended_returned : (h : List Stamp) (r : Option Value) → Does t h r → EndedIn (source_threads t) 1 [] h 1 → (v : Value) × HasReturned t h v
  ended_returned h r traced over =
      let d = done_by (source_reading t) (body t) deeper 1 [] [] a_value (main_act t) got (reverse h) r (first_place (body t) a_value (main_act t)) (first_here (body t) a_value (main_act t)) traced
      (subst (λ z. EndedIn (source_threads t) 1 [] z 1) (sym (back_again h)) over) in
      (d.result, d.trace)

pub histories_read : HistoriesAreRead
unfolding IsGrown
histories_read = record {
  grown = λ t input h history. answered_grown t (opening t input) h ((main_gone t h history.result history.does).grown) history.answered;
  traced = λ t input h grown zeros. record { result = None; does = grown_traced t (opening t input) h grown; answered = grown_answered t (opening t input) h grown; no_zero = zeros };
  next = λ t input h n e history next.
      (let g = (main_gone t (by n e next.answer ∷ h) next.result next.does).grown.0 in
      (g.start, subst (λ w. IsNextIn (source_threads t) 1 [] h n g.start w) g.fits g.next));
  going = λ t input h n s e history next going.
      (let fit = some_fit e in record { answer = fit.0; result = None; does = main_longer t h history.result n s e fit.0 history.does next fit.1; going = going });
  returned = λ t input h v history traced. returned_ended t h v traced;
  ended = λ t input h history over. ended_returned t h history.result history.does over;
}
