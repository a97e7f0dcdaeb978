-- Laws of rows of bits. (Exported.)
use Rattle.std.proofs.Common.{◌≡◌, ℕ, zero, suc, ◌+◌, ◌<◌, ◌≤◌, Bool, true, false, ◌&&◌, ◌||◌, List, [], ◌∷◌, length, get_or, replicate, drop, set, refl, sym, ap, ap₂, ◌-◌, get_or-drop, drop-drop, ◌∙◌, arith, inl, inr, ◌⊎◌, IsTrue, true≢false, ext_get_or, Contains, subst}
use Rattle.dfi_base.specs.Bits.{has, IsWithin, by_places, joined, met, members_from, members}

-- Rows by their places.

pub not_had : (row : List Bool) (k : ℕ) → length row ≤ k → has row k ≡ false
not_had [] zero behind = refl
not_had [] (suc k) behind = refl
not_had (x ∷ row) zero behind = absurd (omega (arith, behind))
not_had (x ∷ row) (suc k) behind = not_had row k (omega (arith, behind))

pub same_rows : (row other : List Bool) → length row ≡ length other → ((k : ℕ) → has row k ≡ has other k) → row ≡ other
same_rows row other long same = ext_get_or false row other long (λ k within. same k)

pub no_bits : (len k : ℕ) → has (replicate len false) k ≡ false
no_bits zero zero = refl
no_bits zero (suc k) = refl
no_bits (suc len) zero = refl
no_bits (suc len) (suc k) = no_bits len k

pub long_by_places : (f : Bool → Bool → Bool) (row other : List Bool) → length row ≡ length other → length (by_places f row other) ≡ length row
long_by_places f [] other long = refl
long_by_places f (x ∷ row) [] long = absurd (omega (arith, long))
long_by_places f (x ∷ row) (y ∷ other) long = ap suc (long_by_places f row other (omega (arith, long)))

pub has_by_places : (f : Bool → Bool → Bool) → f false false ≡ false → (row other : List Bool) (k : ℕ) → length row ≡ length other
    → has (by_places f row other) k ≡ f (has row k) (has other k)
has_by_places f none [] [] zero long = sym none
has_by_places f none [] [] (suc k) long = sym none
has_by_places f none [] (y ∷ other) k long = absurd (omega (arith, long))
has_by_places f none (x ∷ row) [] k long = absurd (omega (arith, long))
has_by_places f none (x ∷ row) (y ∷ other) zero long = refl
has_by_places f none (x ∷ row) (y ∷ other) (suc k) long = has_by_places f none row other k (omega (arith, long))

pub length_joined : (row other : List Bool) → length row ≡ length other → length (joined row other) ≡ length row
length_joined row other long = long_by_places (λ x y. x || y) row other long

pub length_met : (row other : List Bool) → length row ≡ length other → length (met row other) ≡ length row
length_met row other long = long_by_places (λ x y. x && y) row other long

pub has_joined : (row other : List Bool) (k : ℕ) → length row ≡ length other → has (joined row other) k ≡ (has row k || has other k)
has_joined row other k long = has_by_places (λ x y. x || y) refl row other k long

pub has_met : (row other : List Bool) (k : ℕ) → length row ≡ length other → has (met row other) k ≡ (has row k && has other k)
has_met row other k long = has_by_places (λ x y. x && y) refl row other k long

pub has_put_same : (row : List Bool) (i : ℕ) (b : Bool) → i < length row → has (set row i b) i ≡ b
has_put_same [] i b within = absurd (omega (arith, within))
has_put_same (x ∷ row) zero b within = refl
has_put_same (x ∷ row) (suc i) b within = has_put_same row i b (omega (arith, within))

pub has_put_other : (row : List Bool) (i k : ℕ) (b : Bool) → (k ≡ i → ⊥) → has (set row i b) k ≡ has row k
has_put_other [] i k b apart = refl
has_put_other (x ∷ row) zero zero b apart = absurd (apart refl)
has_put_other (x ∷ row) zero (suc k) b apart = refl
has_put_other (x ∷ row) (suc i) zero b apart = refl
has_put_other (x ∷ row) (suc i) (suc k) b apart = has_put_other row i k b (λ is. apart (ap suc is))

-- One row within another.

pub within_itself : (row : List Bool) → IsWithin row row
within_itself row k has = has

pub within_through : (row other last : List Bool) → IsWithin row other → IsWithin other last → IsWithin row last
within_through row other last one two k has = two k (one k has)

either : (b c : Bool) → IsTrue (b || c) → IsTrue b ⊎ IsTrue c
either true c is = inl refl
either false c is = inr is

or_left : (b c : Bool) → IsTrue b → IsTrue (b || c)
or_left true c is = refl
or_left false c is = absurd (true≢false (sym is))

or_right : (b c : Bool) → IsTrue c → IsTrue (b || c)
or_right true c is = refl
or_right false c is = is

pub and_parts : (b c : Bool) → IsTrue (b && c) → IsTrue b × IsTrue c
and_parts true c is = (refl, is)
and_parts false c is = absurd (true≢false (sym is))

and_whole : (b c : Bool) → IsTrue b → IsTrue c → IsTrue (b && c)
and_whole true c one two = two
and_whole false c one two = one

-- The join of two rows is the least row that both lie within, and the meet the greatest that lies within both.

pub joined_first : (row other : List Bool) → length row ≡ length other → IsWithin row (joined row other)
joined_first row other long k is = has_joined row other k long ∙ or_left (has row k) (has other k) is

pub joined_second : (row other : List Bool) → length row ≡ length other → IsWithin other (joined row other)
joined_second row other long k is = has_joined row other k long ∙ or_right (has row k) (has other k) is

pub joined_least : (row other bound : List Bool) → length row ≡ length other → IsWithin row bound → IsWithin other bound → IsWithin (joined row other) bound
joined_least row other bound long one two k is =
    elim (either (has row k) (has other k) (sym (has_joined row other k long) ∙ is)) [ inl first ↦ one k first | inr second ↦ two k second ]

pub met_first : (row other : List Bool) → length row ≡ length other → IsWithin (met row other) row
met_first row other long k is = (and_parts (has row k) (has other k) (sym (has_met row other k long) ∙ is)).0

pub met_second : (row other : List Bool) → length row ≡ length other → IsWithin (met row other) other
met_second row other long k is = (and_parts (has row k) (has other k) (sym (has_met row other k long) ∙ is)).1

pub met_greatest : (row other part : List Bool) → length row ≡ length other → IsWithin part row → IsWithin part other → IsWithin part (met row other)
met_greatest row other part long one two k is = has_met row other k long ∙ and_whole (has row k) (has other k) (one k is) (two k is)

same_truth : (b c : Bool) → (IsTrue b → IsTrue c) → (IsTrue c → IsTrue b) → b ≡ c
same_truth true c there back = sym (there refl)
same_truth false true there back = absurd (true≢false (sym (back refl)))
same_truth false false there back = refl

pub within_both : (row other : List Bool) → length row ≡ length other → IsWithin row other → IsWithin other row → row ≡ other
within_both row other long there back = same_rows row other long (λ k. same_truth (has row k) (has other k) (there k) (back k))

-- nothing is new where the other row lies within this
pub joined_nothing : (row other : List Bool) → length row ≡ length other → IsWithin other row → joined row other ≡ row
joined_nothing row other long within =
    within_both (joined row other) row (length_joined row other long) (joined_least row other row long (within_itself row) within) (joined_first row other long)

pub joined_is_within : (row other : List Bool) → length row ≡ length other → joined row other ≡ row → IsWithin other row
joined_is_within row other long same = subst (IsWithin other) same (joined_second row other long)

-- Members.

-- Members.

shifted : (at k : ℕ) → suc at + k ≡ at + suc k
shifted at k = omega arith

pub no_members : (row : List Bool) (at : ℕ) → ((k : ℕ) → has row k ≡ false) → members_from at row ≡ []
no_members [] at none = refl
no_members (true ∷ row) at none = absurd (true≢false (none 0))
no_members (false ∷ row) at none = no_members row (suc at) (λ k. none (suc k))

-- the first one, and those behind it
first_member : (row : List Bool) (at j : ℕ) → has row j ≡ true → ((k : ℕ) → k < j → has row k ≡ false)
    → members_from at row ≡ (at + j) ∷ members_from (suc (at + j)) (drop (suc j) row)
first_member [] at zero is before = absurd (true≢false (sym is))
first_member [] at (suc j) is before = absurd (true≢false (sym is))
first_member (true ∷ row) at zero is before = ap (λ n. n ∷ members_from (suc n) row) (omega arith)
first_member (false ∷ row) at zero is before = absurd (true≢false (sym is))
first_member (true ∷ row) at (suc j) is before = absurd (true≢false (before 0 (omega arith)))
first_member (false ∷ row) at (suc j) is before =
    first_member row (suc at) j is (λ k less. before (suc k) (omega (arith, less)))
    ∙ ap (λ n. n ∷ members_from (suc n) (drop (suc j) row)) (omega arith)

has_behind : (row : List Bool) (from k : ℕ) → has (drop from row) k ≡ has row (from + k)
has_behind row from k = get_or-drop from row k false

pub members_end : (row : List Bool) (from : ℕ) → ((k : ℕ) → from ≤ k → has row k ≡ false) → members_from from (drop from row) ≡ []
members_end row from none = no_members (drop from row) from (λ k. has_behind row from k ∙ none (from + k) (omega arith))

pub members_next : (row : List Bool) (from m : ℕ) → from ≤ m → has row m ≡ true → ((k : ℕ) → from ≤ k → k < m → has row k ≡ false)
    → members_from from (drop from row) ≡ m ∷ members_from (m + 1) (drop (m + 1) row)
members_next row from m low is before =
    let j : ℕ = m - from in
    let place : from + j ≡ m = omega (arith, low) in
    first_member (drop from row) from j (has_behind row from j ∙ ap (has row) place ∙ is)
    (λ k less. has_behind row from k ∙ before (from + k) (omega arith) (omega (arith, less, place)))
    ∙ ap₂ (λ n l. n ∷ members_from (suc n) l) place (drop-drop (suc j) from row ∙ ap (λ n. drop n row) (omega (arith, place)))
    ∙ ap (λ n. m ∷ members_from n (drop (m + 1) row)) (omega arith)

-- each place that a row has is a member
has_member_from : (row : List Bool) (at k : ℕ) → has row k ≡ true → Contains (members_from at row) (at + k)
has_member_from [] at zero is = absurd (true≢false (sym is))
has_member_from [] at (suc k) is = absurd (true≢false (sym is))
has_member_from (true ∷ row) at zero is = (0, omega arith, omega arith)
has_member_from (false ∷ row) at zero is = absurd (true≢false (sym is))
has_member_from (true ∷ row) at (suc k) is =
    let rest = subst (Contains (members_from (suc at) row)) (shifted at k) (has_member_from row (suc at) k is) in
    (suc rest.0, omega (arith, rest.1), rest.2)
has_member_from (false ∷ row) at (suc k) is = subst (Contains (members_from (suc at) row)) (shifted at k) (has_member_from row (suc at) k is)

pub has_member : (row : List Bool) (k : ℕ) → has row k ≡ true → Contains (members row) k
has_member row k is = subst (Contains (members row)) (omega arith) (has_member_from row 0 k is)

-- and each member is such a place
member_has_from : (row : List Bool) (at m x : ℕ) → x < length (members_from at row) → get_or (members_from at row) x m ≡ m
    → (k : ℕ) × (m ≡ at + k) × (has row k ≡ true)
member_has_from [] at m x inside is = absurd (omega (arith, inside))
member_has_from (true ∷ row) at m zero inside is = (0, omega (arith, is), refl)
member_has_from (true ∷ row) at m (suc x) inside is =
    let rest = member_has_from row (suc at) m x (omega (arith, inside)) is in
    (suc rest.0, omega (arith, rest.1), rest.2)
member_has_from (false ∷ row) at m x inside is =
    let rest = member_has_from row (suc at) m x inside is in
    (suc rest.0, omega (arith, rest.1), rest.2)

pub member_has : (row : List Bool) (m : ℕ) → Contains (members row) m → has row m ≡ true
member_has row m is =
    let place = member_has_from row 0 m is.0 is.1 is.2 in
    let same : m ≡ place.0 = omega (arith, place.1) in
    ap (has row) same ∙ place.2
