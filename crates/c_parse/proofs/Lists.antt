-- Lists of equal parts, and lists with commas between.
use Rattle.std.proofs.Common.{◌≡◌, ℕ, ◌⊎◌, inl, inr, Bool, true, false, List, [], ◌∷◌, refl}
use Rattle.dfi_base.specs.declared.numbers.Line.{Line}
use Rattle.c_lex.specs.declared.token.Mark.{Mark}
use Rattle.parse_law.specs.tools.Parsing.{◌>>=◌, many}
use Rattle.parse_law.specs.Nesting.{May}
use Rattle.parse_law.proofs.Forms.{Form, Follow, Law}
use Rattle.parse_law.proofs.Bind.{Seq}
use Rattle.parse_law.proofs.Carry.{fits_fewer}
use Rattle.parse_law.proofs.Steps.{fits_any}
use Rattle.parse_law.proofs.Repeat.{many_law, many_leads, many_completes, found_law, Takes, takes_first}
use Rattle.c_parse.specs.Symbol.{Symbol, Symbols, mark}
use Rattle.c_parse.specs.tools.Tokens.{P, want, mark_at}
use Rattle.c_parse.specs.tools.TypeParser.{has, after_comma}
use Rattle.c_parse.proofs.Parts.{Part, seq, takes_want}
use Rattle.c_parse.proofs.TokenParts.{MarkAt, marked, mark_part, same_mark_self}

module _ (limit : ℕ) {A : Type 0} (goes : Symbol → Bool) (item : P A) (Item : Form Symbol A) (Many : Form Symbol (List A)) (S : Follow Symbol A) (F : Symbol → Type 0)
    (none : (M : May Symbol) (ts : Symbols) → Many M ts [] ts)
    (more : (M : May Symbol) (ts m r : Symbols) (a : A) (others : List A) → Item M ts a m → Many M m others r → Many M ts (a ∷ others) r)
    (split : (M : May Symbol) (ts r : Symbols) (all : List A) → Many M ts all r
    → ((all ≡ []) × (ts ≡ r)) ⊎ ((a : A) × (others : List A) × (m : Symbols) × (all ≡ a ∷ others) × Item M ts a m × Many M m others r))
    (starts : (M : May Symbol) (ts m : Symbols) (a : A) → Item M ts a m → (t : Symbol) × (us : Symbols) × (ts ≡ t ∷ us) × (goes t ≡ true) × ((b : A) → S b t))
    (apart : (t : Symbol) → F t → goes t ≡ false)
    (wide : (t : Symbol) → F t → (b : A) → S b t)
    (law : Law limit item Item S) (takes : Takes item) where
  pub many_part : Part limit (many goes item []) Many (λ all. F) (λ t. (b : A) → S b t)
  many_part = record {
    law = many_law limit goes item Item Many S (λ all. F) none more split starts (λ all. apart) (λ all. wide) law takes;
    leads = many_leads limit goes item Item Many S (λ all. F) none more split starts (λ all. apart) (λ all. wide) law takes;
    whole = many_completes limit goes item Item Many S (λ all. F) none more split starts (λ all. apart) (λ all. wide) law takes;
  }

-- ---- with commas between

-- a comma and an item, any number of times
pub data Tail {A : Type 0} (Item : Form Symbol A) (M : May Symbol) : Symbols → List A → Symbols → Type 0 where
  no_tail : {ts : Symbols} → Tail Item M ts [] ts
  tail : {l : Line} {a : A} {others : List A} {ts m r : Symbols} → Item M ts a m → Tail Item M m others r → Tail Item M (mark Mark.Comma l ∷ ts) (a ∷ others) r

-- behind the first item
abbrev pub Others : {A : Type 0} → Form Symbol A → A → Form Symbol (List A)
Others {A} Item a M ts all r = (others : List A) × Tail Item M ts others r × (all ≡ a ∷ others)

module _ (limit : ℕ) {A : Type 0} (item : P A) (Item : Form Symbol A) (G F R : Symbol → Type 0)
    (comma : (l : Line) → G (mark Mark.Comma l))
    (apart : (t : Symbol) → F t → has Mark.Comma t ≡ false)
    (wide : (t : Symbol) → F t → G t)
    (part : Part limit item Item (λ a. G) R) where
  abbrev Next : Form Symbol A
  Next = Seq (MarkAt Mark.Comma) (λ l. Item)

  next_part : Part limit (after_comma item) Next (λ a. G) G
  next_part = seq limit (mark_part limit Mark.Comma comma) (λ l. record {
    law = part.law;
    leads = λ M ts a r d h. fits_any {A = A} a ts;
    whole = part.whole;
  })

  tail_more : (M : May Symbol) (ts m r : Symbols) (a : A) (others : List A) → Next M ts a m → Tail Item M m others r → Tail Item M ts (a ∷ others) r
  tail_more M ts m r a others (l, n, marked, d) ds = tail d ds

  tail_split : (M : May Symbol) (ts r : Symbols) (all : List A) → Tail Item M ts all r
      → ((all ≡ []) × (ts ≡ r)) ⊎ ((a : A) × (others : List A) × (m : Symbols) × (all ≡ a ∷ others) × Next M ts a m × Tail Item M m others r)
  tail_split M ts r all no_tail = inl (refl, refl)
  tail_split M ts r all (tail d ds) = inr (_, _, _, refl, (_, _, marked, d), ds)

  tail_starts : (M : May Symbol) (ts m : Symbols) (a : A) → Next M ts a m
      → (t : Symbol) × (us : Symbols) × (ts ≡ t ∷ us) × (has Mark.Comma t ≡ true) × ((b : A) → G t)
  tail_starts M ts m a (l, n, marked, d) = (_, _, refl, same_mark_self Mark.Comma, λ b. comma l)

  tail_takes : Takes (after_comma item)
  tail_takes = takes_first limit (want (mark_at Mark.Comma)) (λ l. item) (λ l. Item) (λ a. G) (takes_want (mark_at Mark.Comma)) (λ l. part.law)

  pub others_part : (a : A) → Part limit (many (has Mark.Comma) (after_comma item) (a ∷ [])) (Others Item a) (λ all. F) G
  others_part a = record {
    law = found_law limit (has Mark.Comma) (after_comma item) Next (Tail Item) (λ b. G) (λ all. F) (λ M ts. no_tail) tail_more tail_split tail_starts (λ all. apart) (λ all t h b. wide t h) next_part.law tail_takes (a ∷ []);
    leads = λ M ts all r (others, d, e) h. fits_fewer (λ t g. g a) ts (
        many_leads limit (has Mark.Comma) (after_comma item) Next (Tail Item) (λ b. G) (λ all. F) (λ M ts. no_tail) tail_more tail_split tail_starts (λ all. apart) (λ all t h b. wide t h) next_part.law tail_takes M ts others r d h);
    whole = record { tokens = []; value = a ∷ []; holds = λ M l r free h. ([], no_tail, refl) };
  }

  -- an item, and then the others
  pub list_part : Part limit (item >>= (λ a. many (has Mark.Comma) (after_comma item) (a ∷ []))) (Seq Item (Others Item)) (λ all. F) R
  list_part = seq limit part others_part
