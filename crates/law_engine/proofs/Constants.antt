-- What a const-wide at an address has is a long.
use Rattle.std.proofs.Common.{◌≡◌, ℕ, zero, suc, ◌-◌, ◌*◌, ◌/◌, ◌%◌, ◌+◌, ◌^◌, ◌<◌, ◌≤◌, Bool, true, false, Option, Some, None, Ok, Err, List, [], ◌∷◌, drop, pos, negsuc, refl, subst, arith}
use Rattle.std.specs.Prelude.{nat_eq, nat_lt, slice_get}
use Rattle.std.proofs.lemmas.Bool.Decides.{nat_tests}
use Rattle.std.proofs.lemmas.Option.{same_Some}
use Rattle.dv_defs.specs.declared.code.Insn.{Insn}
use Rattle.dv_defs.specs.declared.code.Payload.{Payload}
use Rattle.dv_defs.specs.declared.code.Payload.TheVariants as payload
use Rattle.dv_defs.specs.declared.faults.Rule.TheVariants as rule
use Rattle.dv_defs.specs.declared.names.Ty.{Ty}
use Rattle.dv_defs.specs.Decoding.{Sized, high_literal, insn_here, read_by, read_in, sized, where_valid}
use Rattle.dv_defs.specs.Families.{Family, family_at}
use Rattle.dv_defs.specs.Formats.{Format, F10x, F12x, F11n, F11x, F10t, F20t, F22x, F21t, F21s, F21h, F21c, F23x, F22b, F22t, F22s, F22c, F30t, F32x, F31i, F31t, F31c, F35c, F3rc, F51l, format_at}
use Rattle.dv_defs.specs.Images.{Image}
use Rattle.dv_defs.specs.Numbers.{signed_at}
use Rattle.dv_defs.specs.Op.{Arg, Code, ConstLong, IntDivide, IntOp, LongDivide, LongOp, LongShift, New, Op, Resolved, class_of_base, code_at, fill_op, int_op, long_op, move_op, new_op, on_pool, packed_op, reg, resolve, resolve_by, result_op, sparse_op}
use Rattle.dv_defs.specs.Parts.{Bin, Width, is_division, is_shift}
use Rattle.dv_typing.specs.Statics.{At, fetch, fetch_in}
use Rattle.dv_defs.specs.Types.{is_array}
use Rattle.dv_words.specs.Fetching.{StandsAt}
use Rattle.law_words.proofs.Fetching.{fetched_is_decoded, fetched_is_there}
use Rattle.law_engine.proofs.Bits.{IsLong}

-- ---- the literal of an instruction

signed_by : (half whole m : ℕ) → half ≤ 2 ^ 63 → whole ≡ 2 * half → 0 < half → IsLong (elim (nat_lt m half) [ true ↦ pos m | false ↦ negsuc (whole - suc m) ])
signed_by half whole m few twice some = by (nat_lt m half) refl
  where
    by : (c : Bool) → nat_lt m half ≡ c → IsLong (elim c [ true ↦ pos m | false ↦ negsuc (whole - suc m) ])
    by true is = let l : m < half = grind (arith, nat_tests, is) in record { few = omega (arith, l, few) }
    by false is = let l : half ≤ m = grind (arith, nat_tests, is) in record { few = omega (arith, l, few, twice, some) }

signed_4 : (m : ℕ) → IsLong (signed_at 4 m)
signed_4 m = signed_by 8 16 m (omega arith) refl (omega arith)

signed_8 : (m : ℕ) → IsLong (signed_at 8 m)
signed_8 m = signed_by 128 256 m (omega arith) refl (omega arith)

signed_16 : (m : ℕ) → IsLong (signed_at 16 m)
signed_16 m = signed_by 32768 65536 m (omega arith) refl (omega arith)

signed_32 : (m : ℕ) → IsLong (signed_at 32 m)
signed_32 m = signed_by 2147483648 4294967296 m (omega arith) refl (omega arith)

signed_64 : (m : ℕ) → IsLong (signed_at 64 m)
signed_64 m = signed_by 9223372036854775808 18446744073709551616 m (omega arith) refl (omega arith)

nought : IsLong (pos 0)
nought = record { few = omega arith }

high_is : (op v : ℕ) → IsLong (high_literal op v)
high_is op v = by (nat_eq op 0x15)
  where
    by : (b : Bool) → IsLong (elim b [ true ↦ signed_at 32 (v * 2 ^ 16) | false ↦ signed_at 64 (v * 2 ^ 48) ])
    by true = signed_32 (v * 2 ^ 16)
    by false = signed_64 (v * 2 ^ 48)

of_read : (i : Insn) (size : ℕ) (x : Sized) → IsLong i.lit → (let o : Option Sized = Some (record { insn = i; size = size }) in o) ≡ Some x → IsLong x.insn.lit
of_read i size x fits e = subst (λ (y : Sized). IsLong y.insn.lit) (same_Some (record { insn = i; size = size }) x e) fits

of_valid : (i : Insn) (size : ℕ) (x : Sized) (b : Bool) → IsLong i.lit → where_valid b (sized size i) ≡ Some x → IsLong x.insn.lit
of_valid i size x true fits e = of_read i size x fits e
of_valid i size x false fits e = absurd (cc)

read_literal : (f : Format) (op a : ℕ) (us : List ℕ) (x : Sized) → read_in f op a us ≡ Some x → IsLong x.insn.lit
read_literal F10x op zero us x e = of_read _ _ x nought e
read_literal F10x op (suc a) us x e = absurd (cc)
read_literal F12x op a us x e = of_read _ _ x nought e
read_literal F11n op a us x e = of_read _ _ x (signed_4 (a / 16)) e
read_literal F11x op a us x e = of_read _ _ x nought e
read_literal F10t op a us x e = of_read _ _ x nought e
read_literal F20t op zero (v ∷ us) x e = of_read _ _ x nought e
read_literal F20t op (suc a) (v ∷ us) x e = absurd (cc)
read_literal F22x op a (v ∷ us) x e = of_read _ _ x nought e
read_literal F21t op a (v ∷ us) x e = of_read _ _ x nought e
read_literal F21s op a (v ∷ us) x e = of_read _ _ x (signed_16 v) e
read_literal F21h op a (v ∷ us) x e = of_read _ _ x (high_is op v) e
read_literal F21c op a (v ∷ us) x e = of_read _ _ x nought e
read_literal F23x op a (v ∷ us) x e = of_read _ _ x nought e
read_literal F22b op a (v ∷ us) x e = of_read _ _ x (signed_8 (v / 256)) e
read_literal F22t op a (v ∷ us) x e = of_read _ _ x nought e
read_literal F22s op a (v ∷ us) x e = of_read _ _ x (signed_16 v) e
read_literal F22c op a (v ∷ us) x e = of_read _ _ x nought e
read_literal F30t op zero (v ∷ w ∷ us) x e = of_read _ _ x nought e
read_literal F30t op (suc a) (v ∷ w ∷ us) x e = absurd (cc)
read_literal F32x op zero (v ∷ w ∷ us) x e = of_read _ _ x nought e
read_literal F32x op (suc a) (v ∷ w ∷ us) x e = absurd (cc)
read_literal F31i op a (v ∷ w ∷ us) x e = of_read _ _ x (signed_32 (v + w * 2 ^ 16)) e
read_literal F31t op a (v ∷ w ∷ us) x e = of_read _ _ x nought e
read_literal F31c op a (v ∷ w ∷ us) x e = of_read _ _ x nought e
read_literal F35c op a (v ∷ w ∷ us) x e = of_valid _ _ x _ nought e
read_literal F3rc op a (v ∷ w ∷ us) x e = of_valid _ _ x _ nought e
read_literal F51l op a (v ∷ w ∷ y ∷ z ∷ us) x e = of_read _ _ x (signed_64 (v + w * 2 ^ 16 + y * 2 ^ 32 + z * 2 ^ 48)) e
read_literal f op a us x e = absurd (cc)

-- an instruction that is read
literal_is : (us : List ℕ) (x : Sized) → insn_here us ≡ Some x → IsLong x.insn.lit
literal_is [] x e = absurd (cc)
literal_is (u ∷ us) x e = by (format_at (u % 256)) e
  where
    by : (o : Option Format) → read_by o (u % 256) (u / 256) us ≡ Some x → IsLong x.insn.lit
    by None read = absurd (cc)
    by (Some f) read = read_literal f (u % 256) (u / 256) us x read

-- ---- the operation

-- of const-wide
abbrev pub HasLong : Op → Type 0
HasLong (ConstLong a n) = IsLong n
HasLong op = Unit {0}

plain : (a op : Op) → (let r : Resolved = Ok a in r) ≡ Ok op → HasLong a → HasLong op
plain a op e has = let same : a ≡ op = cc in subst HasLong same has

module _ (image : Image) (code : Code) (at : ℕ) (i : Insn) (op : Op) (literal : IsLong i.lit) where
  abbrev Is : Resolved → Type 0
  Is r = r ≡ Ok op

  pooled : {A : Type 0} (o : Option A) (go : A → Resolved) → ((u : A) → Is (go u) → HasLong op) → Is (on_pool o go) → HasLong op
  pooled None go has e = absurd (cc)
  pooled (Some u) go has e = has u e

  moved : (x : Width) (a b : ℕ) → HasLong (move_op x a b)
  moved Width.Narrow a b = tt
  moved Width.Wide a b = tt
  moved Width.Reference a b = tt

  resulted : (x : Width) (a : ℕ) → HasLong (result_op x a)
  resulted Width.Narrow a = tt
  resulted Width.Wide a = tt
  resulted Width.Reference a = tt

  of_ints : (o : Bin) (a b : ℕ) (c : Arg) → HasLong (int_op o a b c)
  of_ints o a b c = by (is_division o)
    where
      by : (d : Bool) → HasLong (elim d [ true ↦ IntDivide o a b c | false ↦ IntOp o a b c ])
      by true = tt
      by false = tt

  of_longs : (o : Bin) (a b c : ℕ) → HasLong (long_op o a b c)
  of_longs o a b c = by (is_division o) (is_shift o)
    where
      by : (d e : Bool) → HasLong (elim d [ true ↦ LongDivide o a b c | false ↦ elim e [ true ↦ LongShift o a b c | false ↦ LongOp o a b c ] ])
      by true e = tt
      by false true = tt
      by false false = tt

  filled : (a : ℕ) (p : Option Payload) → Is (fill_op a p) → HasLong op
  filled a (Some (payload.Data width bytes)) e = plain _ op e tt
  filled a p e = absurd (cc)

  packed : (a : ℕ) (p : Option Payload) → Is (packed_op at a p) → HasLong op
  packed a (Some (payload.Packed k ts)) e = plain _ op e tt
  packed a p e = absurd (cc)

  sparse : (a : ℕ) (p : Option Payload) → Is (sparse_op at a p) → HasLong op
  sparse a (Some (payload.Sparse ks ts)) e = plain _ op e tt
  sparse a p e = absurd (cc)

  made : (a : ℕ) (t : Ty) → Is (new_op image a t) → HasLong op
  made a t e = by_array (is_array t) (class_of_base image t.base) e
    where
      by_array : (b : Bool) (c : Option ℕ) → Is (elim b [ true ↦ Err (rule.S 16) | false ↦ elim c [ None ↦ Err (rule.S 16) | Some k ↦ Ok (New a k) ] ]) → HasLong op
      by_array true c d = absurd (cc)
      by_array false None d = absurd (cc)
      by_array false (Some k) d = plain (New a k) op d tt

  of_family : (f : Family) → Is (resolve image code at i f) → HasLong op
  of_family (Family.Move x) e = plain _ op e (moved x _ _)
  of_family (Family.MoveResult x) e = plain _ op e (resulted x _)
  of_family Family.ConstWide e = plain _ op e literal
  of_family Family.ConstString e = pooled _ _ (λ s d. plain _ op d tt) e
  of_family Family.ConstClass e = pooled _ _ (λ t d. plain _ op d tt) e
  of_family Family.CheckCast e = pooled _ _ (λ t d. plain _ op d tt) e
  of_family Family.InstanceOf e = pooled _ _ (λ t d. plain _ op d tt) e
  of_family Family.NewInstance e = pooled (slice_get code.method.info.types i.index) (new_op image (reg i 0)) (made (reg i 0)) e
  of_family Family.NewArray e = pooled _ _ (λ t d. plain _ op d tt) e
  of_family Family.FilledNewArray e = pooled _ _ (λ t d. plain _ op d tt) e
  of_family Family.FillArrayData e = filled _ _ e
  of_family Family.PackedSwitch e = packed _ _ e
  of_family Family.SparseSwitch e = sparse _ _ e
  of_family (Family.FieldGet s) e = pooled _ _ (λ x d. plain _ op d tt) e
  of_family (Family.FieldPut s) e = pooled _ _ (λ x d. plain _ op d tt) e
  of_family (Family.StaticGet s) e = pooled _ _ (λ x d. plain _ op d tt) e
  of_family (Family.StaticPut s) e = pooled _ _ (λ x d. plain _ op d tt) e
  of_family (Family.Invoke c) e = pooled _ _ (λ g d. plain _ op d tt) e
  of_family (Family.IntBinary o) e = plain _ op e (of_ints o _ _ _)
  of_family (Family.IntTwo o) e = plain _ op e (of_ints o _ _ _)
  of_family (Family.IntLiteral o) e = plain _ op e (of_ints o _ _ _)
  of_family (Family.LongBinary o) e = plain _ op e (of_longs o _ _ _)
  of_family (Family.LongTwo o) e = plain _ op e (of_longs o _ _ _)
  of_family f e = plain _ op e tt

  resolved_is : (o : Option Family) → Is (resolve_by image code at i o) → HasLong op
  resolved_is None e = absurd (cc)
  resolved_is (Some f) e = of_family f e

-- what is fetched
pub long_there : (image : Image) (n at : ℕ) (x : At) → fetch image n at ≡ Some x → HasLong x.op
unfolding fetch
long_there image n at x found = by (code_at image n) refl found
  where
    fetched : fetch image n at ≡ Some x
    fetched = found

    by : (c : Option Code) → code_at image n ≡ c → fetch_in image at c ≡ Some x → HasLong x.op
    by None is e = absurd (cc)
    by (Some code) is e =
        let stands : StandsAt image n code.body.units at x = record { code = code; has_code = is; same_units = refl; has_at = fetched } in
        let there = fetched_is_there image n at code.body.units x stands in
        let decoded = fetched_is_decoded image n at code there.insn there.size x is fetched there.read in
        let literal = literal_is (drop at code.body.units) (record { insn = there.insn; size = there.size }) there.read in
        resolved_is image code at there.insn x.op literal (family_at there.insn.op) decoded.op
