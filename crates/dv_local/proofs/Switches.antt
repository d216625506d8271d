-- Where switches lead, by the payload in the units.
use Rattle.std.proofs.Common.{◌≡◌, ◌≢◌, ◌<◌, ℕ, zero, suc, ◌+◌, ◌*◌, ◌/◌, ◌^◌, List, [], ◌∷◌, length, take, drop, Bool, true, false, Option, Some, None, ℤ, pos, ◌+ℤ◌, refl, sym, ap, ◌∙◌, subst, arith}
use Rattle.std.specs.Prelude.{◌&&◌, nat_eq, nat_le, slice_get, slice_index}
use Rattle.std.specs.Ordering.{int_eq}
use Rattle.std.proofs.lemmas.Bool.Decides.{Decides-int_eq}
use Rattle.std.proofs.lemmas.Int.{ints}
use Rattle.std.proofs.lemmas.List.{get_or-drop, get_or-take, length-drop, length-take}
use Rattle.std.proofs.lemmas.Option.{same_Some}
use Rattle.dv_defs.specs.declared.code.Payload.{Payload}
use Rattle.dv_defs.specs.declared.code.Payload.TheVariants as payload
use Rattle.dv_defs.specs.Numbers.{jump, signed_at}
use Rattle.dv_defs.specs.Op.{Case, cases_packed, cases_sparse}
use Rattle.dv_defs.specs.Decoding.{Sized, insn_here, is_zero}
use Rattle.std.specs.List.{list_all}
use Rattle.dv_defs.specs.Tiling.{IsInsn, IsPayload, Piece, SizedPayload, begins_payload, bytes_in, data_from, data_in, doubles, insn_piece, is_width, packed_with, payload_of, payload_piece, piece_here, signed_all, sparse_with}
use Rattle.dv_machine.specs.Local.{case_of}
use Rattle.dv_words.specs.Fetching.{IsSpelled}
use Rattle.dv_words.specs.Stepping.{AreRising}
use Rattle.dv_local.specs.Switching.{DoRise, IsCase, IsKeyPlace, IsNoCase, double_at, int_at}

-- ---- cases by their places

-- the keys and the targets of so many cases
pub record AreCases (cases : List Case) (count : ℕ) (key : ℕ → ℤ) (to : ℕ → ℕ) : Type 0 where
  pub count_is : length cases ≡ count
  pub at : (j : ℕ) → j < count → slice_get cases j ≡ Some (let c : Case = record { key = key j; to = to j } in c)

same_case : (c : Case) (key : ℤ) (to : ℕ) → (let o : Option Case = Some c in o) ≡ Some (record { key = key; to = to }) → (c.key ≡ key) × (c.to ≡ to)
same_case c key to e = let s = same_Some c (record { key = key; to = to }) e in (ap (λ (z : Case). z.key) s, ap (λ (z : Case). z.to) s)

later : (c : Case) (cs : List Case) (count : ℕ) (key : ℕ → ℤ) (to : ℕ → ℕ) → AreCases (c ∷ cs) (suc count) key to → AreCases cs count (λ j. key (suc j)) (λ j. to (suc j))
later c cs count key to h = record { count_is = omega (arith, h.count_is); at = λ j l. h.at (suc j) (omega (arith, l)) }

int_eq_true : (x y : ℤ) → x ≡ y → int_eq x y ≡ true
int_eq_true x y e = grind (arith, Decides-int_eq x y)

int_eq_false : (x y : ℤ) → x ≢ y → int_eq x y ≡ false
int_eq_false x y n = grind (arith, Decides-int_eq x y)

abbrev by_test : Bool → ℕ → ℕ → ℕ
by_test b to other = elim b [ true ↦ to | false ↦ other ]

-- a key that none has leads on
pub case_none : (cases : List Case) (count : ℕ) (key : ℕ → ℤ) (to : ℕ → ℕ) (n : ℤ) (next : ℕ) → AreCases cases count key to → ((j : ℕ) → j < count → key j ≢ n) → case_of cases n next ≡ next
case_none [] count key to n next h none = refl
case_none (c ∷ cs) zero key to n next h none = absurd (let l : suc (length cs) ≡ 0 = h.count_is in omega (arith, l))
case_none (c ∷ cs) (suc count) key to n next h none =
    let first = same_case c (key 0) (to 0) (h.at 0 (omega arith)) in
    let other : c.key ≢ n = λ e. none 0 (omega arith) (sym first.0 ∙ e) in
    ap (λ (b : Bool). by_test b c.to (case_of cs n next)) (int_eq_false c.key n other) ∙
    case_none cs count (λ j. key (suc j)) (λ j. to (suc j)) n next (later c cs count key to h) (λ j l. none (suc j) (omega (arith, l)))

-- the first that has the key leads
pub case_found : (cases : List Case) (count : ℕ) (key : ℕ → ℤ) (to : ℕ → ℕ) (n : ℤ) (next i : ℕ) → AreCases cases count key to → i < count → ((j : ℕ) → j < i → key j ≢ n) → key i ≡ n → case_of cases n next ≡ to i
case_found [] count key to n next i h l before e = absurd (let z : 0 ≡ count = h.count_is in omega (arith, z, l))
case_found (c ∷ cs) zero key to n next i h l before e = absurd (omega (arith, l))
case_found (c ∷ cs) (suc count) key to n next zero h l before e =
    let first = same_case c (key 0) (to 0) (h.at 0 (omega arith)) in
    ap (λ (b : Bool). by_test b c.to (case_of cs n next)) (int_eq_true c.key n (first.0 ∙ e)) ∙ first.1
case_found (c ∷ cs) (suc count) key to n next (suc i) h l before e =
    let first = same_case c (key 0) (to 0) (h.at 0 (omega arith)) in
    let other : c.key ≢ n = λ d. before 0 (omega arith) (sym first.0 ∙ d) in
    ap (λ (b : Bool). by_test b c.to (case_of cs n next)) (int_eq_false c.key n other) ∙
    case_found cs count (λ j. key (suc j)) (λ j. to (suc j)) n next i (later c cs count key to h) (omega (arith, l)) (λ j m. before (suc j) (omega (arith, m))) e

-- ---- the cases of lists

plus_zero : (k : ℤ) → k +ℤ pos 0 ≡ k
plus_zero k = omega (arith, ints)

plus_suc : (k : ℤ) (j : ℕ) → (k +ℤ pos 1) +ℤ pos j ≡ k +ℤ pos (suc j)
plus_suc k j = omega (arith, ints)

packed_at : (at : ℕ) (k : ℤ) (xs : List ℕ) (j : ℕ) → j < length xs → slice_get (cases_packed at k (signed_all xs)) j ≡ Some (let c : Case = record { key = k +ℤ pos j; to = jump at (signed_at 32 (slice_index xs j)) } in c)
packed_at at k [] j l = absurd (omega (arith, l))
packed_at at k (x ∷ xs) zero l = ap (λ (m : ℤ). (let o : Option Case = Some (record { key = m; to = jump at (signed_at 32 x) }) in o)) (sym (plus_zero k))
packed_at at k (x ∷ xs) (suc j) l =
    packed_at at (k +ℤ pos 1) xs j (omega (arith, l)) ∙
    ap (λ (m : ℤ). (let o : Option Case = Some (record { key = m; to = jump at (signed_at 32 (slice_index xs j)) }) in o)) (plus_suc k j)

packed_length : (at : ℕ) (k : ℤ) (xs : List ℕ) → length (cases_packed at k (signed_all xs)) ≡ length xs
packed_length at k [] = refl
packed_length at k (x ∷ xs) = ap suc (packed_length at (k +ℤ pos 1) xs)

sparse_at : (at : ℕ) (ks ts : List ℕ) (j : ℕ) → j < length ks → length ks ≡ length ts → slice_get (cases_sparse at (signed_all ks) (signed_all ts)) j ≡ Some (let c : Case = record { key = signed_at 32 (slice_index ks j); to = jump at (signed_at 32 (slice_index ts j)) } in c)
sparse_at at [] ts j l e = absurd (omega (arith, l))
sparse_at at (k ∷ ks) [] j l e = absurd (let m : suc (length ks) ≡ 0 = e in omega (arith, m))
sparse_at at (k ∷ ks) (t ∷ ts) zero l e = refl
sparse_at at (k ∷ ks) (t ∷ ts) (suc j) l e = sparse_at at ks ts j (omega (arith, l)) (let m : suc (length ks) ≡ suc (length ts) = e in omega (arith, m))

sparse_length : (at : ℕ) (ks ts : List ℕ) → length ks ≡ length ts → length (cases_sparse at (signed_all ks) (signed_all ts)) ≡ length ks
sparse_length at [] ts e = refl
sparse_length at (k ∷ ks) [] e = absurd (let m : suc (length ks) ≡ 0 = e in omega (arith, m))
sparse_length at (k ∷ ks) (t ∷ ts) e = ap suc (sparse_length at ks ts (let m : suc (length ks) ≡ suc (length ts) = e in omega (arith, m)))

-- ---- numbers in units

pub record AreDoubles (us xs : List ℕ) (n : ℕ) : Type 0 where
  pub count : length xs ≡ n
  pub at : (j : ℕ) → j < n → slice_index xs j ≡ slice_index us (2 * j) + slice_index us (2 * j + 1) * 2 ^ 16

same_list : (xs ys : List ℕ) → (let o : Option (List ℕ) = Some xs in o) ≡ Some ys → xs ≡ ys
same_list xs ys e = same_Some xs ys e

abbrev with_double : ℕ → ℕ → Option (List ℕ) → Option (List ℕ)
with_double v w o = elim o [ None ↦ None | Some xs ↦ Some ((v + w * 2 ^ 16) ∷ xs) ]

abbrev IsDouble : List ℕ → List ℕ → ℕ → Type 0
IsDouble us xs j = slice_index xs j ≡ slice_index us (2 * j) + slice_index us (2 * j + 1) * 2 ^ 16

more_doubles : (v w : ℕ) (us ys : List ℕ) (n : ℕ) → AreDoubles us ys n → AreDoubles (v ∷ w ∷ us) ((v + w * 2 ^ 16) ∷ ys) (suc n)
more_doubles v w us ys n h = record { count = ap suc h.count; at = at }
  where
    at : (j : ℕ) → j < suc n → IsDouble (v ∷ w ∷ us) ((v + w * 2 ^ 16) ∷ ys) j
    at zero l = refl
    at (suc j) l =
        let even : 2 * suc j ≡ suc (suc (2 * j)) = omega arith in
        let odd : 2 * suc j + 1 ≡ suc (suc (2 * j + 1)) = omega arith in
        h.at j (omega (arith, l)) ∙ ap (λ (k : ℕ). slice_index (v ∷ w ∷ us) k + slice_index us (2 * j + 1) * 2 ^ 16) (sym even) ∙
        ap (λ (k : ℕ). slice_index (v ∷ w ∷ us) (2 * suc j) + slice_index (v ∷ w ∷ us) k * 2 ^ 16) (sym odd)

pub doubles_at : (n : ℕ) (us xs : List ℕ) → doubles n us ≡ Some xs → AreDoubles us xs n
doubles_at zero us xs e = subst (λ (ys : List ℕ). AreDoubles us ys 0) (same_list [] xs e) (record { count = refl; at = λ j l. absurd (omega (arith, l)) })
doubles_at (suc n) [] xs e = absurd (cc)
doubles_at (suc n) (v ∷ []) xs e = absurd (cc)
doubles_at (suc n) (v ∷ w ∷ us) xs e = by (doubles_at n us) (doubles n us) refl e
  where
    by : ((ys : List ℕ) → doubles n us ≡ Some ys → AreDoubles us ys n) → (o : Option (List ℕ)) → doubles n us ≡ o → with_double v w o ≡ Some xs → AreDoubles (v ∷ w ∷ us) xs (suc n)
    by more None d f = absurd (cc)
    by more (Some ys) d f = subst (λ (zs : List ℕ). AreDoubles (v ∷ w ∷ us) zs (suc n)) (same_list _ xs f) (more_doubles v w us ys n (more ys d))

-- ---- payloads in units

-- the units of a payload: one that says what it is, and the others
pub record Begins (us : List ℕ) (p : Payload) (size : ℕ) : Type 0 where
  pub kind : ℕ
  pub rest : List ℕ
  pub units : us ≡ kind ∷ rest
  pub of : payload_of (kind / 256) rest ≡ Some (let z : SizedPayload = record { payload = p; size = size } in z)

payloads_same : (x : SizedPayload) (p : Payload) (size : ℕ) → payload_piece (Some x) ≡ Some (let z : Piece = record { item = IsPayload p; size = size } in z) → x ≡ (let z : SizedPayload = record { payload = p; size = size } in z)
payloads_same x p size e =
    let q = same_Some (let z : Piece = record { item = IsPayload x.payload; size = x.size } in z) (record { item = IsPayload p; size = size }) e in
    let items : IsPayload x.payload ≡ IsPayload p = ap (λ (z : Piece). z.item) q in
    let a : x.payload ≡ p = cc items in
    let b : x.size ≡ size = ap (λ (z : Piece). z.size) q in
    rw (sym a, sym b) refl

abbrev by_begin : Bool → ℕ → List ℕ → Option Piece
by_begin b u us = elim b [ true ↦ payload_piece (payload_of (u / 256) us) | false ↦ insn_piece (insn_here (u ∷ us)) ]

pub begins : (us : List ℕ) (p : Payload) (size : ℕ) → piece_here us ≡ Some (let z : Piece = record { item = IsPayload p; size = size } in z) → Begins us p size
begins [] p size e = absurd (cc)
begins (u ∷ us) p size e = by (begins_payload u) e
  where
    from_payload : (o : Option SizedPayload) → payload_of (u / 256) us ≡ o → payload_piece o ≡ Some (let z : Piece = record { item = IsPayload p; size = size } in z) → Begins (u ∷ us) p size
    from_payload None d f = absurd (cc)
    from_payload (Some x) d f = record { kind = u; rest = us; units = refl; of = d ∙ ap Some (payloads_same x p size f) }

    from_insn : (o : Option Sized) → insn_piece o ≡ Some (let z : Piece = record { item = IsPayload p; size = size } in z) → Begins (u ∷ us) p size
    from_insn None f = absurd (cc)
    from_insn (Some x) f = absurd (let d : IsInsn x.insn ≡ IsPayload p = ap (λ (z : Piece). z.item) (same_Some (let z : Piece = record { item = IsInsn x.insn; size = x.size } in z) (record { item = IsPayload p; size = size }) f) in cc d)

    by : (b : Bool) → by_begin b u us ≡ Some (let z : Piece = record { item = IsPayload p; size = size } in z) → Begins (u ∷ us) p size
    by true f = from_payload _ refl f
    by false f = from_insn _ f

-- what kind of payload it is
abbrev is_packed : Payload → ℕ
is_packed (payload.Packed k ts) = 1
is_packed (payload.Sparse ks ts) = 2
is_packed (payload.Data w bs) = 3

abbrev Kinds : ℕ → Option SizedPayload → Type 0
Kinds k None = Unit {0}
Kinds k (Some z) = is_packed z.payload ≡ k

by_zero : (width count units : ℕ) (bytes : List ℕ) (b : Bool) → Kinds 3 (elim b [ true ↦ Some (record { payload = payload.Data width (take count bytes); size = units + 4 }) | false ↦ None ])
by_zero width count units bytes true = refl
by_zero width count units bytes false = tt

by_width : (width count units : ℕ) (us : List ℕ) (b : Bool) → Kinds 3 (elim b [ true ↦ data_in width count (bytes_in (take units us)) units | false ↦ None ])
by_width width count units us true = by_zero width count units (bytes_in (take units us)) (list_all is_zero (drop count (bytes_in (take units us))))
by_width width count units us false = tt

data_kind : (width : ℕ) (us : List ℕ) → Kinds 3 (data_from width us)
data_kind width [] = tt
data_kind width (lo ∷ []) = tt
data_kind width (lo ∷ hi ∷ us) = by_width width ((lo + hi * 2 ^ 16) * width) (((lo + hi * 2 ^ 16) * width + 1) / 2) us (is_width width && nat_le (((lo + hi * 2 ^ 16) * width + 1) / 2) (length us))

sparse_kind : (n : ℕ) (o : Option (List ℕ)) → Kinds 2 (sparse_with n o)
sparse_kind n None = tt
sparse_kind n (Some xs) = refl

packed_kind : (n : ℕ) (o : Option (List ℕ)) → Kinds 1 (packed_with n o)
packed_kind n None = tt
packed_kind n (Some []) = tt
packed_kind n (Some (k ∷ ts)) = refl

kind_is : (k : ℕ) (o : Option SizedPayload) (p : Payload) (size : ℕ) → Kinds k o → o ≡ Some (let z : SizedPayload = record { payload = p; size = size } in z) → is_packed p ≡ k
kind_is k o p size h e = let m : Kinds k (Some (let z : SizedPayload = record { payload = p; size = size } in z)) = subst (Kinds k) e h in m

-- a packed switch's payload
pub record PackedUnits (rest : List ℕ) (first : ℤ) (targets : List ℤ) : Type 0 where
  pub count : ℕ
  pub numbers : List ℕ
  pub key : ℕ
  pub cases : List ℕ
  pub units : rest ≡ count ∷ numbers
  pub doubles_are : doubles (suc count) numbers ≡ Some (key ∷ cases)
  pub first_is : first ≡ signed_at 32 key
  pub targets_are : targets ≡ signed_all cases

-- a sparse switch's payload
pub record SparseUnits (rest : List ℕ) (keys targets : List ℤ) : Type 0 where
  pub count : ℕ
  pub numbers : List ℕ
  pub all : List ℕ
  pub units : rest ≡ count ∷ numbers
  pub doubles_are : doubles (count + count) numbers ≡ Some all
  pub keys_are : keys ≡ signed_all (take count all)
  pub targets_are : targets ≡ signed_all (drop count all)

abbrev IsSized : Payload → ℕ → Option SizedPayload → Type 0
IsSized p size o = o ≡ Some (let z : SizedPayload = record { payload = p; size = size } in z)

abbrev by_kinds : ℕ → List ℕ → Bool → Bool → Option SizedPayload
by_kinds n vs b d = elim b [ true ↦ packed_with n (doubles (suc n) vs) | false ↦ elim d [ true ↦ sparse_with n (doubles (n + n) vs) | false ↦ data_from n vs ] ]

pub packed_units : (kind : ℕ) (rest : List ℕ) (first : ℤ) (targets : List ℤ) (size : ℕ) → payload_of kind rest ≡ Some (let z : SizedPayload = record { payload = payload.Packed first targets; size = size } in z) → PackedUnits rest first targets
packed_units kind [] first targets size e = absurd (cc)
packed_units kind (n ∷ vs) first targets size e = by (nat_eq kind 1) (nat_eq kind 2) e
  where
    from : (o : Option (List ℕ)) → doubles (suc n) vs ≡ o → IsSized (payload.Packed first targets) size (packed_with n o) → PackedUnits (n ∷ vs) first targets
    from None d f = absurd (cc)
    from (Some []) d f = absurd (cc)
    from (Some (k ∷ ts)) d f =
        let same : payload.Packed (signed_at 32 k) (signed_all ts) ≡ payload.Packed first targets = ap (λ (z : SizedPayload). z.payload) (same_Some (let z : SizedPayload = record { payload = payload.Packed (signed_at 32 k) (signed_all ts); size = n * 2 + 4 } in z) (record { payload = payload.Packed first targets; size = size }) f) in
        record { count = n; numbers = vs; key = k; cases = ts; units = refl; doubles_are = d; first_is = cc same; targets_are = cc same }

    by : (b d : Bool) → IsSized (payload.Packed first targets) size (by_kinds n vs b d) → PackedUnits (n ∷ vs) first targets
    by true d f = from (doubles (suc n) vs) refl f
    by false true f = absurd (let z : 1 ≡ 2 = kind_is 2 _ _ size (sparse_kind n (doubles (n + n) vs)) f in omega (arith, z))
    by false false f = absurd (let z : 1 ≡ 3 = kind_is 3 _ _ size (data_kind n vs) f in omega (arith, z))

pub sparse_units : (kind : ℕ) (rest : List ℕ) (keys targets : List ℤ) (size : ℕ) → payload_of kind rest ≡ Some (let z : SizedPayload = record { payload = payload.Sparse keys targets; size = size } in z) → SparseUnits rest keys targets
sparse_units kind [] keys targets size e = absurd (cc)
sparse_units kind (n ∷ vs) keys targets size e = by (nat_eq kind 1) (nat_eq kind 2) e
  where
    from : (o : Option (List ℕ)) → doubles (n + n) vs ≡ o → IsSized (payload.Sparse keys targets) size (sparse_with n o) → SparseUnits (n ∷ vs) keys targets
    from None d f = absurd (cc)
    from (Some xs) d f =
        let same : payload.Sparse (signed_all (take n xs)) (signed_all (drop n xs)) ≡ payload.Sparse keys targets = ap (λ (z : SizedPayload). z.payload) (same_Some (let z : SizedPayload = record { payload = payload.Sparse (signed_all (take n xs)) (signed_all (drop n xs)); size = n * 4 + 2 } in z) (record { payload = payload.Sparse keys targets; size = size }) f) in
        record { count = n; numbers = vs; all = xs; units = refl; doubles_are = d; keys_are = cc same; targets_are = cc same }

    by : (b d : Bool) → IsSized (payload.Sparse keys targets) size (by_kinds n vs b d) → SparseUnits (n ∷ vs) keys targets
    by true d f = absurd (let z : 2 ≡ 1 = kind_is 1 _ _ size (packed_kind n (doubles (suc n) vs)) f in omega (arith, z))
    by false true f = from (doubles (n + n) vs) refl f
    by false false f = absurd (let z : 2 ≡ 3 = kind_is 3 _ _ size (data_kind n vs) f in omega (arith, z))

-- ---- where the switches of these units lead

-- a unit and a number of 32 bits some way behind a place
unit_behind : (units us : List ℕ) (place k : ℕ) → drop place units ≡ us → slice_index units (place + k) ≡ slice_index us k
unit_behind units us place k e = sym (get_or-drop place units k 0) ∙ ap (λ (zs : List ℕ). slice_index zs k) e

double_behind : (units us : List ℕ) (place k from : ℕ) → drop place units ≡ us → from ≡ place + k → double_at units from ≡ slice_index us k + slice_index us (k + 1) * 2 ^ 16
double_behind units us place k from e f =
    let next : from + 1 ≡ place + (k + 1) = omega (arith, f) in
    ap (λ (m : ℕ). slice_index units m + slice_index units (from + 1) * 2 ^ 16) f ∙
    ap (λ (m : ℕ). slice_index units (place + k) + slice_index units m * 2 ^ 16) next ∙
    ap (λ (m : ℕ). m + slice_index units (place + (k + 1)) * 2 ^ 16) (unit_behind units us place k e) ∙
    ap (λ (m : ℕ). slice_index us k + m * 2 ^ 16) (unit_behind units us place (k + 1) e)

-- the k-th of the numbers that begin at the third unit
number_behind : (units : List ℕ) (kind n : ℕ) (vs xs : List ℕ) (m : ℕ) (place j from : ℕ) → drop place units ≡ kind ∷ n ∷ vs → AreDoubles vs xs m → j < m → from ≡ place + 2 + 2 * j → slice_index xs j ≡ double_at units from
number_behind units kind n vs xs m place j from e d l f =
    let h : from ≡ place + suc (suc (2 * j)) = omega (arith, f) in
    let b = double_behind units (kind ∷ n ∷ vs) place (suc (suc (2 * j))) from e h in
    let s : suc (suc (2 * j)) + 1 ≡ suc (suc (2 * j + 1)) = omega arith in
    d.at j l ∙ ap (λ (k : ℕ). slice_index vs (2 * j) + slice_index (kind ∷ n ∷ vs) k * 2 ^ 16) (sym s) ∙ sym b

-- the cases of a packed switch, by the units from its payload's place on
pub packed_cases : (units : List ℕ) (at place : ℕ) (first : ℤ) (targets : List ℤ) → IsSpelled units place (payload.Packed first targets) →
    (first ≡ int_at units (place + 2)) × AreCases (cases_packed at first targets) (slice_index units (place + 1)) (λ j. first +ℤ pos j) (λ j. jump at (int_at units (place + 4 + 2 * j)))
packed_cases units at place first targets s =
    let b = begins (drop place units) (payload.Packed first targets) s.size s.read in
    let p = packed_units (b.kind / 256) b.rest first targets s.size b.of in
    let us : drop place units ≡ b.kind ∷ p.count ∷ p.numbers = b.units ∙ ap (λ (zs : List ℕ). b.kind ∷ zs) p.units in
    let d = doubles_at (suc p.count) p.numbers (p.key ∷ p.cases) p.doubles_are in
    let count : slice_index units (place + 1) ≡ p.count = unit_behind units _ place 1 us in
    let many : length p.cases ≡ slice_index units (place + 1) = omega (arith, d.count, count) in
    let key : p.key ≡ double_at units (place + 2) = number_behind units b.kind p.count p.numbers (p.key ∷ p.cases) (suc p.count) place 0 (place + 2) us d (omega arith) (omega arith) in
    let is_first : first ≡ int_at units (place + 2) = p.first_is ∙ ap (signed_at 32) key in
    let cases : List Case = cases_packed at first targets in
    let same : cases_packed at first (signed_all p.cases) ≡ cases_packed at first targets = ap (cases_packed at first) (sym p.targets_are) in (
      is_first,
      subst (λ (cs : List Case). AreCases cs (slice_index units (place + 1)) (λ j. first +ℤ pos j) (λ j. jump at (int_at units (place + 4 + 2 * j)))) same
          (record {
            count_is = packed_length at first p.cases ∙ many;
            at = λ j l. packed_at at first p.cases j (omega (arith, l, many)) ∙
                ap (λ (x : ℕ). (let o : Option Case = Some (record { key = first +ℤ pos j; to = jump at (signed_at 32 x) }) in o))
                (number_behind units b.kind p.count p.numbers (p.key ∷ p.cases) (suc p.count) place (suc j) (place + 4 + 2 * j) us d (omega (arith, l, count)) (omega arith));
          }),
    )

-- the cases of a sparse switch
pub sparse_cases : (units : List ℕ) (at place : ℕ) (keys targets : List ℤ) → IsSpelled units place (payload.Sparse keys targets) →
    AreCases (cases_sparse at keys targets) (slice_index units (place + 1)) (λ j. int_at units (place + 2 + 2 * j)) (λ j. jump at (int_at units (place + 2 + 2 * (slice_index units (place + 1) + j))))
sparse_cases units at place keys targets s =
    let b = begins (drop place units) (payload.Sparse keys targets) s.size s.read in
    let p = sparse_units (b.kind / 256) b.rest keys targets s.size b.of in
    let us : drop place units ≡ b.kind ∷ p.count ∷ p.numbers = b.units ∙ ap (λ (zs : List ℕ). b.kind ∷ zs) p.units in
    let d = doubles_at (p.count + p.count) p.numbers p.all p.doubles_are in
    let count : slice_index units (place + 1) ≡ p.count = unit_behind units _ place 1 us in
    let n : ℕ = slice_index units (place + 1) in
    let ks : List ℕ = take p.count p.all in
    let ts : List ℕ = drop p.count p.all in
    let many : length (take p.count p.all) ≡ p.count = omega (arith, length-take p.count p.all, d.count) in
    let others : length (take p.count p.all) ≡ length (drop p.count p.all) = omega (arith, length-take p.count p.all, length-drop p.count p.all, d.count) in
    let same : cases_sparse at (signed_all (take p.count p.all)) (signed_all (drop p.count p.all)) ≡ cases_sparse at keys targets = ap (λ (zs : List ℤ). cases_sparse at zs (signed_all (drop p.count p.all))) (sym p.keys_are) ∙ ap (cases_sparse at keys) (sym p.targets_are) in
    subst (λ (cs : List Case). AreCases cs (slice_index units (place + 1)) (λ j. int_at units (place + 2 + 2 * j)) (λ j. jump at (int_at units (place + 2 + 2 * (slice_index units (place + 1) + j))))) same
    (record {
      count_is = sparse_length at (take p.count p.all) (drop p.count p.all) others ∙ many ∙ sym count;
      at = λ j l.
          let few : j < p.count = omega (arith, l, count) in
          let key : slice_index (take p.count p.all) j ≡ double_at units (place + 2 + 2 * j) = get_or-take p.count p.all j 0 few ∙ number_behind units b.kind p.count p.numbers p.all (p.count + p.count) place j (place + 2 + 2 * j) us d (omega (arith, few)) refl in
          let to : slice_index (drop p.count p.all) j ≡ double_at units (place + 2 + 2 * (slice_index units (place + 1) + j)) = get_or-drop p.count p.all j 0 ∙ number_behind units b.kind p.count p.numbers p.all (p.count + p.count) place (p.count + j) (place + 2 + 2 * (slice_index units (place + 1) + j)) us d (omega (arith, few)) (omega (arith, count)) in
          sparse_at at (take p.count p.all) (drop p.count p.all) j (omega (arith, few, many)) others ∙
          ap (λ (x : ℕ). (let o : Option Case = Some (record { key = signed_at 32 x; to = jump at (signed_at 32 (slice_index (drop p.count p.all) j)) }) in o)) key ∙
          ap (λ (x : ℕ). (let o : Option Case = Some (record { key = int_at units (place + 2 + 2 * j); to = jump at (signed_at 32 x) }) in o)) to;
    })

-- ---- ... and the target

-- keys that follow one another are apart
apart : (first : ℤ) (j k : ℕ) (number : ℤ) → j < k → first +ℤ pos k ≡ number → first +ℤ pos j ≢ number
apart first j k number l e d = omega (arith, ints, l, e, d)

pub packed_found : (units : List ℕ) (at place : ℕ) (first : ℤ) (targets : List ℤ) (number : ℤ) (next case : ℕ) → IsSpelled units place (payload.Packed first targets) → IsCase (int_at units (place + 2)) (slice_index units (place + 1)) number case → jump at (int_at units (place + 4 + 2 * case)) ≡ case_of (cases_packed at first targets) number next
packed_found units at place first targets number next case s c =
    let (f, h) = packed_cases units at place first targets s in
    let key : first +ℤ pos case ≡ number = ap (λ (k : ℤ). k +ℤ pos case) f ∙ c.there in
    sym (case_found (cases_packed at first targets) (slice_index units (place + 1)) (λ j. first +ℤ pos j) (λ j. jump at (int_at units (place + 4 + 2 * j))) number next case h c.within (λ j l. apart first j case number l key) key)

pub packed_none : (units : List ℕ) (at place : ℕ) (first : ℤ) (targets : List ℤ) (number : ℤ) (next : ℕ) → IsSpelled units place (payload.Packed first targets) → IsNoCase (int_at units (place + 2)) (slice_index units (place + 1)) number → next ≡ case_of (cases_packed at first targets) number next
packed_none units at place first targets number next s c =
    let (f, h) = packed_cases units at place first targets s in
    sym (case_none (cases_packed at first targets) (slice_index units (place + 1)) (λ j. first +ℤ pos j) (λ j. jump at (int_at units (place + 4 + 2 * j))) number next h (λ j l e. c j l (ap (λ (k : ℤ). k +ℤ pos j) (sym f) ∙ e)))

-- the keys in the units rise with those of the cases
do_rise : (units : List ℕ) (at place : ℕ) (keys targets : List ℤ) → IsSpelled units place (payload.Sparse keys targets) → AreRising (cases_sparse at keys targets) → DoRise units (place + 2) (slice_index units (place + 1))
do_rise units at place keys targets s rise j k l m =
    let h = sparse_cases units at place keys targets s in
    rise j k (record { key = int_at units (place + 2 + 2 * j); to = jump at (int_at units (place + 2 + 2 * (slice_index units (place + 1) + j))) })
    (record { key = int_at units (place + 2 + 2 * k); to = jump at (int_at units (place + 2 + 2 * (slice_index units (place + 1) + k))) }) l
    (h.at j (omega (arith, l, m))) (h.at k m)

-- what a search among them found
pub key_found : (units : List ℕ) (at place : ℕ) (keys targets : List ℤ) (count : ℕ) (value number : ℤ) (case : ℕ) → count ≡ slice_index units (place + 1) → value ≡ number → IsSpelled units place (payload.Sparse keys targets) → AreRising (cases_sparse at keys targets)
    → (DoRise units (place + 2) count → IsKeyPlace units (place + 2) count value case) → IsKeyPlace units (place + 2) (slice_index units (place + 1)) number case
key_found units at place keys targets count value number case counted same s rise search_gives =
    let by : IsKeyPlace units (place + 2) count value case = search_gives (subst (DoRise units (place + 2)) (sym counted) (do_rise units at place keys targets s rise)) in
    subst (λ (n : ℕ). IsKeyPlace units (place + 2) n number case) counted (subst (λ (v : ℤ). IsKeyPlace units (place + 2) count v case) same by)

pub sparse_found : (units : List ℕ) (at place : ℕ) (keys targets : List ℤ) (number : ℤ) (next case : ℕ) → IsSpelled units place (payload.Sparse keys targets) → IsKeyPlace units (place + 2) (slice_index units (place + 1)) number case → case < slice_index units (place + 1) → jump at (int_at units (place + 2 + 2 * (slice_index units (place + 1) + case))) ≡ case_of (cases_sparse at keys targets) number next
sparse_found units at place keys targets number next case s c l =
    sym (case_found (cases_sparse at keys targets) (slice_index units (place + 1)) (λ j. int_at units (place + 2 + 2 * j)) (λ j. jump at (int_at units (place + 2 + 2 * (slice_index units (place + 1) + j)))) number next case (sparse_cases units at place keys targets s) l c.before (c.there l))

pub sparse_none : (units : List ℕ) (at place : ℕ) (keys targets : List ℤ) (number : ℤ) (next case : ℕ) → IsSpelled units place (payload.Sparse keys targets) → IsKeyPlace units (place + 2) (slice_index units (place + 1)) number case → case ≡ slice_index units (place + 1) → next ≡ case_of (cases_sparse at keys targets) number next
sparse_none units at place keys targets number next case s c e =
    sym (case_none (cases_sparse at keys targets) (slice_index units (place + 1)) (λ j. int_at units (place + 2 + 2 * j)) (λ j. jump at (int_at units (place + 2 + 2 * (slice_index units (place + 1) + j)))) number next (sparse_cases units at place keys targets s) (λ j l. c.before j (omega (arith, l, e))))
