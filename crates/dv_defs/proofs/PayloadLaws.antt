-- `payload_here` is the inverse of `payload_spelling`.
use Rattle.std.proofs.Common.{◌≡◌, ℕ, ◌+◌, ◌*◌, ◌/◌, ◌%◌, ◌<◌, ◌≤◌, ◌^◌, zero, suc, ℤ, Bool, true, false, ◌&&◌, ◌⊎◌, inl, inr, List, [], ◌∷◌, ◌++◌, length, take, drop, map, Option, Some, None, refl, ap, sym, ◌∙◌, subst, arith, length-append, length-drop}
use Rattle.std.specs.Prelude.{nat_eq, nat_le}
use Rattle.std.specs.List.{list_all}
use Rattle.std.proofs.lemmas.Bool.{and_parts, ltb-true, lt-ltb, leb-true, eqb-true}
use Rattle.std.proofs.lemmas.Bool.Decides.{nat_tests}
use Rattle.std.proofs.lemmas.List.{length-take-le, take-append-drop, length-map, map-append, take-map}
use Rattle.std.proofs.lemmas.List.Folds.{list_all-append}
use Rattle.std.proofs.Math.Seq.{take-append_seam, drop-append_seam}
use Rattle.std.proofs.Math.Nat.{mul-div_cancel, mul-mod_left}
use Rattle.dv_defs.specs.declared.code.Payload.{Payload}
use Rattle.dv_defs.specs.declared.code.Payload.TheVariants as payload
use Rattle.dv_defs.specs.Numbers.{signed_at}
use Rattle.dv_defs.specs.Spelling.{two_units, all_fit, fits_in, fits_signed, complement}
use Rattle.dv_defs.specs.Decoding.{is_zero}
use Rattle.dv_defs.specs.Tiling.{SizedPayload, doubles, signed_all, bytes_in, packed_with, sparse_with, is_width, data_in, data_of, data_from, payload_of, begins_payload}
use Rattle.dv_defs.specs.Payloads.{numbers_spelling, bytes_spelling, all_fit_signed, where_fits, data_spelling, payload_spelling, payload_here}
use Rattle.dv_defs.proofs.DecodingFormats.{unit_parts}
use Rattle.dv_defs.proofs.PayloadNumbers.{length_numbers, numbers_append, doubles_of, signed_back, AreRead, read_numbers}
use Rattle.dv_defs.proofs.PayloadBytes.{padding, padding_is_zero, length_bytes, bytes_back, length_bytes_in, bytes_fit, fit_taken, units_back}

abbrev sized_payload : Payload → ℕ → Option SizedPayload
sized_payload p n = Some (record { payload = p; size = n })

same_sized : (p q : Payload) (m n : ℕ) → p ≡ q → m ≡ n → sized_payload p m ≡ sized_payload q n
same_sized p q m n e h = cc

pub where_fits_is : (t : Bool) (us vs : List ℕ) → where_fits t us ≡ Some vs → (t ≡ true) × (us ≡ vs)
where_fits_is true us vs e = (refl, cc)
where_fits_is false us vs e = absurd (cc)

-- packed
packed_here : (first : ℤ) (targets : List ℤ) (rest : List ℕ) → fits_signed 32 first ≡ true → all_fit_signed targets ≡ true → payload_here (0x0100 ∷ length targets ∷ (numbers_spelling (first ∷ targets) ++ rest)) ≡ sized_payload (payload.Packed first targets) (length targets * 2 + 4)
packed_here first targets rest f t =
    let s : signed_all (map (complement 32) (first ∷ targets)) ≡ first ∷ targets = signed_back (first ∷ targets) (cc (f, t)) in
    let k : signed_at 32 (complement 32 first) ≡ first = cc s in
    let ts : signed_all (map (complement 32) targets) ≡ targets = cc s in
    ap (packed_with (length targets)) (doubles_of (first ∷ targets) rest) ∙
    same_sized (payload.Packed (signed_at 32 (complement 32 first)) (signed_all (map (complement 32) targets))) (payload.Packed first targets) _ _ (cc (k, ts)) refl

packed_size : (first : ℤ) (targets : List ℤ) → length (0x0100 ∷ length targets ∷ numbers_spelling (first ∷ targets)) ≡ length targets * 2 + 4
packed_size first targets = omega (arith, length_numbers targets)

-- sparse
keys_of : (keys targets : List ℤ) → all_fit_signed keys ≡ true → signed_all (take (length keys) (map (complement 32) (keys ++ targets))) ≡ keys
keys_of keys targets t =
    let e : take (length keys) (map (complement 32) (keys ++ targets)) ≡ map (complement 32) keys =
    take-map (complement 32) (length keys) (keys ++ targets) ∙ ap (map (complement 32)) (take-append_seam keys targets) in
    ap signed_all e ∙ signed_back keys t

targets_of : (keys targets : List ℤ) → all_fit_signed targets ≡ true → signed_all (drop (length keys) (map (complement 32) (keys ++ targets))) ≡ targets
targets_of keys targets t =
    let size : length (map (complement 32) keys) ≡ length keys = length-map keys (complement 32) in
    let e : drop (length keys) (map (complement 32) (keys ++ targets)) ≡ map (complement 32) targets =
    ap (drop (length keys)) (map-append (complement 32) keys targets) ∙
    (ap (λ n. drop n (map (complement 32) keys ++ map (complement 32) targets)) (sym size) ∙ drop-append_seam (map (complement 32) keys) (map (complement 32) targets)) in
    ap signed_all e ∙ signed_back targets t

sparse_here : (keys targets : List ℤ) (rest : List ℕ) → length targets ≡ length keys → all_fit_signed keys ≡ true → all_fit_signed targets ≡ true → payload_here (0x0200 ∷ length keys ∷ ((numbers_spelling keys ++ numbers_spelling targets) ++ rest)) ≡ sized_payload (payload.Sparse keys targets) (length keys * 4 + 2)
sparse_here keys targets rest e f t =
    let size : length (keys ++ targets) ≡ length keys + length keys = omega (arith, length-append keys targets, e) in
    let read : doubles (length keys + length keys) ((numbers_spelling keys ++ numbers_spelling targets) ++ rest) ≡ Some (map (complement 32) (keys ++ targets)) =
    ap (λ n. doubles n ((numbers_spelling keys ++ numbers_spelling targets) ++ rest)) (sym size) ∙
    (ap (λ us. doubles (length (keys ++ targets)) (us ++ rest)) (sym (numbers_append keys targets)) ∙ doubles_of (keys ++ targets) rest) in
    let k = keys_of keys targets f in
    let ts = targets_of keys targets t in
    ap (sparse_with (length keys)) read ∙
    same_sized (payload.Sparse (signed_all (take (length keys) (map (complement 32) (keys ++ targets)))) (signed_all (drop (length keys) (map (complement 32) (keys ++ targets))))) (payload.Sparse keys targets) _ _ (cc (k, ts)) refl

sparse_size : (keys targets : List ℤ) → length targets ≡ length keys → length (0x0200 ∷ length keys ∷ (numbers_spelling keys ++ numbers_spelling targets)) ≡ length keys * 4 + 2
sparse_size keys targets e = omega (arith, length-append (numbers_spelling keys) (numbers_spelling targets), length_numbers keys, length_numbers targets, e)

-- data
pub data_fits : (b : Bool) (width m : ℕ) (us : List ℕ) (units : ℕ) → b ≡ true → elim b [ true ↦ data_in width m (bytes_in (take units us)) units | false ↦ None ] ≡ data_in width m (bytes_in (take units us)) units
data_fits true width m us units e = refl
data_fits false width m us units e = absurd (cc)

pub data_taken : (width count : ℕ) (all bytes : List ℕ) (units : ℕ) → list_all is_zero (drop count all) ≡ true → take count all ≡ bytes → data_in width count all units ≡ sized_payload (payload.Data width bytes) (units + 4)
data_taken width count all bytes units z e =
    let P : Bool → Option SizedPayload = λ b. elim b [ true ↦ Some (record { payload = payload.Data width (take count all); size = units + 4 }) | false ↦ None ] in
    ap P z ∙ same_sized (payload.Data width (take count all)) (payload.Data width bytes) _ _ (cc e) refl

pub both : (a b : Bool) → a ≡ true → b ≡ true → (a && b) ≡ true
both a b h k = cc

data_of_bytes : (width : ℕ) (bytes rest : List ℕ) → is_width width ≡ true → all_fit 8 bytes ≡ true → data_of width (length bytes) ((length bytes + 1) / 2) (bytes_spelling bytes ++ rest) ≡ sized_payload (payload.Data width bytes) ((length bytes + 1) / 2 + 4)
data_of_bytes width bytes rest w t =
    let units : ℕ = (length bytes + 1) / 2 in
    let us : List ℕ = bytes_spelling bytes ++ rest in
    let room : nat_le units (length us) ≡ true = grind (arith, nat_tests, length-append (bytes_spelling bytes) rest, length_bytes bytes) in
    let front : take units us ≡ bytes_spelling bytes = ap (λ n. take n us) (sym (length_bytes bytes)) ∙ take-append_seam (bytes_spelling bytes) rest in
    let all : bytes_in (take units us) ≡ bytes ++ padding bytes = ap bytes_in front ∙ bytes_back bytes t in
    let zeros : list_all is_zero (drop (length bytes) (bytes_in (take units us))) ≡ true =
    ap (λ xs. list_all is_zero (drop (length bytes) xs)) all ∙ (ap (list_all is_zero) (drop-append_seam bytes (padding bytes)) ∙ padding_is_zero bytes) in
    let taken : take (length bytes) (bytes_in (take units us)) ≡ bytes = ap (take (length bytes)) all ∙ take-append_seam bytes (padding bytes) in
    data_fits (is_width width && nat_le units (length us)) width (length bytes) us units (both _ _ w room) ∙
    data_taken width (length bytes) (bytes_in (take units us)) bytes units zeros taken

whole_count : (width m : ℕ) → nat_eq (m % width) 0 ≡ true → m / width * width ≡ m
whole_count width m e = let z : m % width ≡ 0 = eqb-true _ _ e in omega (arith, z)

data_here : (width : ℕ) (bytes rest : List ℕ) → is_width width ≡ true → nat_eq (length bytes % width) 0 ≡ true → all_fit 8 bytes ≡ true → payload_here (0x0300 ∷ width ∷ ((two_units (length bytes / width) ++ bytes_spelling bytes) ++ rest)) ≡ sized_payload (payload.Data width bytes) ((length bytes + 1) / 2 + 4)
data_here width bytes rest w e t =
    let k : ℕ = length bytes / width in
    let low : k % 2 ^ 16 + k / 2 ^ 16 * 2 ^ 16 ≡ k = omega arith in
    let m : (k % 2 ^ 16 + k / 2 ^ 16 * 2 ^ 16) * width ≡ length bytes = ap (λ n. n * width) low ∙ whole_count width (length bytes) e in
    ap (λ n. data_of width n ((n + 1) / 2) (bytes_spelling bytes ++ rest)) m ∙ data_of_bytes width bytes rest w t

data_size : (width : ℕ) (bytes : List ℕ) → length (0x0300 ∷ width ∷ (two_units (length bytes / width) ++ bytes_spelling bytes)) ≡ (length bytes + 1) / 2 + 4
data_size width bytes = omega (arith, length_bytes bytes)

-- a spelling with anything after it
pub spelled_payload_reads : (p : Payload) (us rest : List ℕ) → payload_spelling p ≡ Some us → payload_here (us ++ rest) ≡ sized_payload p (length us)
spelled_payload_reads (payload.Packed first targets) us rest e =
    let s = where_fits_is _ _ us e in
    let t = and_parts _ _ s.0 in
    let u = and_parts _ _ t.1 in
    ap (λ xs. payload_here (xs ++ rest)) (sym s.1) ∙ (packed_here first targets rest u.0 u.1 ∙ ap (sized_payload (payload.Packed first targets)) (sym (packed_size first targets) ∙ ap length s.1))
spelled_payload_reads (payload.Sparse keys targets) us rest e =
    let s = where_fits_is _ _ us e in
    let t = and_parts _ _ s.0 in
    let u = and_parts _ _ t.1 in
    let v = and_parts _ _ u.1 in
    let n : length targets ≡ length keys = eqb-true _ _ u.0 in
    ap (λ xs. payload_here (xs ++ rest)) (sym s.1) ∙ (sparse_here keys targets rest n v.0 v.1 ∙ ap (sized_payload (payload.Sparse keys targets)) (sym (sparse_size keys targets n) ∙ ap length s.1))
spelled_payload_reads (payload.Data width bytes) us rest e =
    let s = where_fits_is _ _ us e in
    let t = and_parts _ _ s.0 in
    let u = and_parts _ _ t.1 in
    let v = and_parts _ _ u.1 in
    ap (λ xs. payload_here (xs ++ rest)) (sym s.1) ∙ (data_here width bytes rest t.0 u.0 v.1 ∙ ap (sized_payload (payload.Data width bytes)) (sym (data_size width bytes) ∙ ap length s.1))

-- what `payload_here` says of units
abbrev pub IsPayloadHere : List ℕ → Option SizedPayload → Type 0
IsPayloadHere us (Some s) = (s.size ≤ length us) × (payload_spelling s.payload ≡ Some (take s.size us))
IsPayloadHere us None = Unit {0}

pub where_it_fits : (t : Bool) (us vs : List ℕ) → t ≡ true → us ≡ vs → where_fits t us ≡ Some vs
where_it_fits t us vs e h = cc

packed_stands : (n : ℕ) (us : List ℕ) (o : Option (List ℕ)) → n < 2 ^ 16 → ((xs : List ℕ) → o ≡ Some xs → AreRead (suc n) us xs) → IsPayloadHere (0x0100 ∷ n ∷ us) (packed_with n o)
packed_stands n us None b r = tt
packed_stands n us (Some []) b r = tt
packed_stands n us (Some (k ∷ ts)) b r =
    let a = r (k ∷ ts) refl in
    let count : length (signed_all ts) ≡ n = length-map ts (signed_at 32) ∙ cc (a.count) in
    let more : suc (suc (suc n * 2)) ≡ n * 2 + 4 = omega arith in
    let fit : (fits_in 16 (length (signed_all ts)) && all_fit_signed (signed_all (k ∷ ts))) ≡ true = both _ _ (lt-ltb _ _ (omega (arith, count, b))) a.fit in
    let units : (0x0100 ∷ length (signed_all ts) ∷ numbers_spelling (signed_all (k ∷ ts))) ≡ take (n * 2 + 4) (0x0100 ∷ n ∷ us) =
    cc (count, a.units) ∙ ap (λ m. take m (0x0100 ∷ n ∷ us)) more in
    (omega (arith, a.room), where_it_fits _ _ _ fit units)

sparse_stands : (n : ℕ) (us : List ℕ) (o : Option (List ℕ)) → n < 2 ^ 16 → ((xs : List ℕ) → o ≡ Some xs → AreRead (n + n) us xs) → IsPayloadHere (0x0200 ∷ n ∷ us) (sparse_with n o)
sparse_stands n us None b r = tt
sparse_stands n us (Some xs) b r =
    let a = r xs refl in
    let keys : List ℤ = signed_all (take n xs) in
    let targets : List ℤ = signed_all (drop n xs) in
    let parts : signed_all xs ≡ keys ++ targets = ap signed_all (sym (take-append-drop n xs)) ∙ map-append (signed_at 32) (take n xs) (drop n xs) in
    let count : length keys ≡ n = length-map (take n xs) (signed_at 32) ∙ length-take-le n xs (omega (arith, a.count)) in
    let rest : length targets ≡ n = length-map (drop n xs) (signed_at 32) ∙ omega (arith, length-drop n xs, a.count) in
    let fits_both : (all_fit_signed keys && all_fit_signed targets) ≡ true = sym (list_all-append (λ x. fits_signed 32 x) keys targets) ∙ (ap all_fit_signed (sym parts) ∙ a.fit) in
    let small : fits_in 16 (length keys) ≡ true = lt-ltb _ _ (omega (arith, count, b)) in
    let same : nat_eq (length targets) (length keys) ≡ true = grind (arith, nat_tests, count, rest) in
    let more : suc (suc ((n + n) * 2)) ≡ n * 4 + 2 = omega arith in
    let numbers : numbers_spelling keys ++ numbers_spelling targets ≡ take ((n + n) * 2) us = sym (numbers_append keys targets) ∙ (ap numbers_spelling (sym parts) ∙ a.units) in
    let units : (0x0200 ∷ length keys ∷ (numbers_spelling keys ++ numbers_spelling targets)) ≡ take (n * 4 + 2) (0x0200 ∷ n ∷ us) =
    cc (count, numbers) ∙ ap (λ m. take m (0x0200 ∷ n ∷ us)) more in
    (omega (arith, a.room), where_it_fits _ _ _ (both _ _ small (both _ _ same fits_both)) units)

is_width_positive : (w : ℕ) → is_width w ≡ true → 0 < w
is_width_positive w e = grind (arith, nat_tests)

of_multiple : (k w m : ℕ) → 0 < w → m ≡ k * w → (m / w ≡ k) × (nat_eq (m % w) 0 ≡ true)
of_multiple k w m h e =
    let d : m / w ≡ k = ap (λ n. n / w) e ∙ mul-div_cancel k h in
    let z : m % w ≡ 0 = ap (λ n. n % w) e ∙ mul-mod_left k w in
    (d, ap (λ n. nat_eq n 0) z)

data_units : (width lo hi k units : ℕ) (bytes us : List ℕ) → k ≡ lo + hi * 2 ^ 16 → lo < 2 ^ 16 → hi < 2 ^ 16 → bytes_spelling bytes ≡ take units us → (0x0300 ∷ width ∷ (two_units k ++ bytes_spelling bytes)) ≡ take (units + 4) (0x0300 ∷ width ∷ lo ∷ hi ∷ us)
data_units width lo hi k units bytes us e bl bh h =
    let low : k % 2 ^ 16 ≡ lo = omega arith in
    let high : k / 2 ^ 16 ≡ hi = omega arith in
    let more : suc (suc (suc (suc units))) ≡ units + 4 = omega arith in
    let front : (0x0300 ∷ width ∷ (two_units k ++ bytes_spelling bytes)) ≡ take (suc (suc (suc (suc units)))) (0x0300 ∷ width ∷ lo ∷ hi ∷ us) = cc (low, high, h) in
    front ∙ ap (λ m. take m (0x0300 ∷ width ∷ lo ∷ hi ∷ us)) more

pub data_spelled : (width lo hi k m units : ℕ) (us : List ℕ) → k ≡ lo + hi * 2 ^ 16 → m ≡ k * width → units ≡ (m + 1) / 2 → lo < 2 ^ 16 → hi < 2 ^ 16 → all_fit 16 (take units us) ≡ true → is_width width ≡ true → units ≤ length us → list_all is_zero (drop m (bytes_in (take units us))) ≡ true → data_spelling width (take m (bytes_in (take units us))) ≡ Some (take (units + 4) (0x0300 ∷ width ∷ lo ∷ hi ∷ us))
data_spelled width lo hi k m units us e d h bl bh t w room z =
    let vs : List ℕ = take units us in
    let bytes : List ℕ = take m (bytes_in vs) in
    let size : length vs ≡ units = length-take-le units us room in
    let count : length bytes ≡ m = length-take-le m (bytes_in vs) (omega (arith, length_bytes_in vs, size, h)) in
    let q = of_multiple k width (length bytes) (is_width_positive width w) (count ∙ d) in
    let back : bytes_spelling bytes ≡ vs = units_back vs m (size ∙ h) z in
    let small : fits_in 32 (length bytes / width) ≡ true = lt-ltb _ _ (omega (arith, q.0, e, bl, bh)) in
    let fit : all_fit 8 bytes ≡ true = fit_taken m (bytes_in vs) (bytes_fit vs t) in
    where_it_fits _ _ _ (both _ _ w (both _ _ q.1 (both _ _ small fit))) (data_units width lo hi (length bytes / width) units bytes us (q.0 ∙ e) bl bh back)

fit_units_taken : (n : ℕ) (us : List ℕ) → all_fit 16 us ≡ true → all_fit 16 (take n us) ≡ true
fit_units_taken zero us t = refl
fit_units_taken (suc n) [] t = refl
fit_units_taken (suc n) (u ∷ us) t = let p = and_parts _ _ t in both _ _ p.0 (fit_units_taken n us p.1)

data_stands_at : (b : Bool) (width lo hi m units : ℕ) (us : List ℕ) → m ≡ (lo + hi * 2 ^ 16) * width → units ≡ (m + 1) / 2 → lo < 2 ^ 16 → hi < 2 ^ 16 → all_fit 16 us ≡ true → is_width width ≡ true → units ≤ length us → list_all is_zero (drop m (bytes_in (take units us))) ≡ b → IsPayloadHere (0x0300 ∷ width ∷ lo ∷ hi ∷ us) (elim b [ true ↦ Some (record { payload = payload.Data width (take m (bytes_in (take units us))); size = units + 4 }) | false ↦ None ])
data_stands_at true width lo hi m units us d h bl bh t w room z = (omega arith, data_spelled width lo hi (lo + hi * 2 ^ 16) m units us refl d h bl bh (fit_units_taken units us t) w room z)
data_stands_at false width lo hi m units us d h bl bh t w room z = tt

data_stands_by : (b : Bool) (width lo hi m units : ℕ) (us : List ℕ) → m ≡ (lo + hi * 2 ^ 16) * width → units ≡ (m + 1) / 2 → lo < 2 ^ 16 → hi < 2 ^ 16 → all_fit 16 us ≡ true → (is_width width && nat_le units (length us)) ≡ b → IsPayloadHere (0x0300 ∷ width ∷ lo ∷ hi ∷ us) (elim b [ true ↦ data_in width m (bytes_in (take units us)) units | false ↦ None ])
data_stands_by true width lo hi m units us d h bl bh t e =
    let p = and_parts _ _ e in
    data_stands_at (list_all is_zero (drop m (bytes_in (take units us)))) width lo hi m units us d h bl bh t p.0 (leb-true _ _ p.1) refl
data_stands_by false width lo hi m units us d h bl bh t e = tt

data_stands : (width : ℕ) (us : List ℕ) → all_fit 16 us ≡ true → IsPayloadHere (0x0300 ∷ width ∷ us) (data_from width us)
data_stands width [] t = tt
data_stands width (lo ∷ []) t = tt
data_stands width (lo ∷ hi ∷ us) t =
    let p = unit_parts lo (hi ∷ us) t in
    let q = unit_parts hi us p.1 in
    let m : ℕ = (lo + hi * 2 ^ 16) * width in
    let units : ℕ = (m + 1) / 2 in
    data_stands_by (is_width width && nat_le units (length us)) width lo hi m units us refl refl p.0 q.0 q.1 refl

kinds : (k u : ℕ) → u ≡ k * 256 → 0 < k → k < 4 → ((u ≡ 0x0100) ⊎ (u ≡ 0x0200)) ⊎ (u ≡ 0x0300)
kinds zero u e h l = absurd (omega arith)
kinds (suc zero) u e h l = inl (inl (omega arith))
kinds (suc (suc zero)) u e h l = inl (inr (omega arith))
kinds (suc (suc (suc zero))) u e h l = inr (omega arith)
kinds (suc (suc (suc (suc k)))) u e h l = absurd (omega arith)

pub kind_of : (u : ℕ) → begins_payload u ≡ true → ((u ≡ 0x0100) ⊎ (u ≡ 0x0200)) ⊎ (u ≡ 0x0300)
kind_of u e =
    let p = and_parts _ _ e in
    let q = and_parts _ _ p.0 in
    let z : u % 256 ≡ 0 = eqb-true _ _ q.0 in
    kinds (u / 256) u (omega (arith, z)) (ltb-true _ _ q.1) (ltb-true _ _ p.1)

packed_from : (us : List ℕ) → all_fit 16 us ≡ true → IsPayloadHere (0x0100 ∷ us) (payload_of 1 us)
packed_from [] t = tt
packed_from (n ∷ us) t = let p = unit_parts n us t in packed_stands n us (doubles (suc n) us) p.0 (λ xs e. read_numbers (suc n) us xs p.1 e)

sparse_from : (us : List ℕ) → all_fit 16 us ≡ true → IsPayloadHere (0x0200 ∷ us) (payload_of 2 us)
sparse_from [] t = tt
sparse_from (n ∷ us) t = let p = unit_parts n us t in sparse_stands n us (doubles (n + n) us) p.0 (λ xs e. read_numbers (n + n) us xs p.1 e)

data_at : (us : List ℕ) → all_fit 16 us ≡ true → IsPayloadHere (0x0300 ∷ us) (payload_of 3 us)
data_at [] t = tt
data_at (width ∷ us) t = data_stands width us (unit_parts width us t).1

begun : (u : ℕ) (us : List ℕ) → all_fit 16 us ≡ true → ((u ≡ 0x0100) ⊎ (u ≡ 0x0200)) ⊎ (u ≡ 0x0300) → IsPayloadHere (u ∷ us) (payload_of (u / 256) us)
begun u us t k =
    let P : ℕ → Type 0 = λ w. IsPayloadHere (w ∷ us) (payload_of (w / 256) us) in
    elim k [
      | inl (inl e) ↦ subst P (sym e) (packed_from us t)
      | inl (inr e) ↦ subst P (sym e) (sparse_from us t)
      | inr e ↦ subst P (sym e) (data_at us t)
    ]

stands_by : (b : Bool) (u : ℕ) (us : List ℕ) → all_fit 16 us ≡ true → begins_payload u ≡ b → IsPayloadHere (u ∷ us) (elim b [ true ↦ payload_of (u / 256) us | false ↦ None ])
stands_by true u us t e = begun u us t (kind_of u e)
stands_by false u us t e = tt

pub payload_stands : (us : List ℕ) → all_fit 16 us ≡ true → IsPayloadHere us (payload_here us)
payload_stands [] t = tt
payload_stands (u ∷ us) t = stands_by (begins_payload u) u us (unit_parts u us t).1 refl

pub payload_here_spelled : (us : List ℕ) (p : Payload) (n : ℕ) → all_fit 16 us ≡ true → payload_here us ≡ Some (record { payload = p; size = n }) → (n ≤ length us) × (payload_spelling p ≡ Some (take n us))
payload_here_spelled us p n t e = (let P : Option SizedPayload → Type 0 = λ o. IsPayloadHere us o in subst P e (payload_stands us t))

pub spelled_payload_here : (us : List ℕ) (p : Payload) (n : ℕ) → n ≤ length us → payload_spelling p ≡ Some (take n us) → payload_here us ≡ Some (record { payload = p; size = n })
spelled_payload_here us p n h e =
    ap payload_here (sym (take-append-drop n us)) ∙ (spelled_payload_reads p (take n us) (drop n us) e ∙ ap (sized_payload p) (length-take-le n us h))
