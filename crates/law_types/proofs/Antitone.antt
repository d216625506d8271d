-- Demands of each sort that registers above meet are met by registers below them.
use Rattle.std.proofs.Common.{◌≡◌, inl, inr, ℕ, suc, List, [], ◌∷◌, Bool, true, false, ◌&&◌, ◌||◌, Option, Some, None, refl, subst}
use Rattle.std.specs.Prelude.{nat_eq}
use Rattle.std.proofs.lemmas.Bool.{and_parts, and_from, or_cases, or_left, or_right, eqb-true}
use Rattle.dv_defs.specs.declared.names.Ty.{Ty}
use Rattle.dv_defs.specs.declared.faults.Rule.TheVariants as rule
use Rattle.dv_defs.specs.Images.{Image}
use Rattle.dv_typing.specs.declared.typing.RegType.{RegType}
use Rattle.dv_typing.specs.declared.typing.RegType.TheVariants as ty
use Rattle.dv_defs.specs.Parts.{Test, Suffix, Call, is_equality}
use Rattle.dv_defs.specs.Types.{is_long}
use Rattle.dv_defs.specs.Pools.{Method, Field, is_static, is_constructor, own_type, class_type}
use Rattle.dv_defs.specs.Op.{Arg, Reg, Lit}
use Rattle.dv_typing.specs.RegTypes.{Types, type_at, under}
use Rattle.dv_typing.specs.Demands.{Demand, first, demand, is_int, is_ref, is_assignable, int, long, ref, ref_to, single_for, args_for, receiver_for, super_for, instance_call, invoke_for, value_returned, arg_int, both_for, zero_for, put_for, each_for, is_own_field, put_receiver}
use Rattle.law_types.specs.Hierarchy.{IsHierarchy}
use Rattle.law_types.proofs.Facts.{no}
use Rattle.law_types.proofs.Regs.{AreBelow}
use Rattle.law_types.proofs.Demands.{Along, first_along, demand_along, same_along, int_along, int_met, long_met, is_ref_met, ref_met, ref_to_met, single_met, value_met}
use Rattle.law_types.proofs.Demanded.{first_none, demanded}

-- an argument of two words, and one of one
abbrev wide_args : Image → Types → List Ty → ℕ → List ℕ → Demand
wide_args image ts ps k ks = elim ks [ [] ↦ Some (rule.S 15) | j ∷ js ↦ first (long ts k) (first (demand (nat_eq j (suc k)) (rule.V 3)) (args_for image ts ps js)) ]

abbrev args_by : Image → Types → Ty → List Ty → ℕ → List ℕ → Bool → Demand
args_by image ts p ps k ks w = elim w [ true ↦ elim ks [ [] ↦ Some (rule.S 15) | j ∷ js ↦ first (long ts k) (first (demand (nat_eq j (suc k)) (rule.V 3)) (args_for image ts ps js)) ] | false ↦ first (single_for image ts k p) (args_for image ts ps ks) ]

module _ (image : Image) (h : IsHierarchy image) (ss ts : Types) (b : AreBelow image ss ts) where
  -- ---- arguments

  wide_met : (ps : List Ty) (k : ℕ) (ks : List ℕ) → ((js : List ℕ) → Along (args_for image ts ps js) (args_for image ss ps js)) → Along (wide_args image ts ps k ks) (wide_args image ss ps k ks)
  wide_met ps k [] more = same_along (Some (rule.S 15))
  wide_met ps k (j ∷ js) more =
      first_along (long ts k) (first (demand (nat_eq j (suc k)) (rule.V 3)) (args_for image ts ps js)) (long ss k) (first (demand (nat_eq j (suc k)) (rule.V 3)) (args_for image ss ps js)) (long_met image h ss ts b k)
      (first_along (demand (nat_eq j (suc k)) (rule.V 3)) (args_for image ts ps js) (demand (nat_eq j (suc k)) (rule.V 3)) (args_for image ss ps js) (same_along (demand (nat_eq j (suc k)) (rule.V 3))) (more js))

  arg_met : (p : Ty) (ps : List Ty) (k : ℕ) (ks : List ℕ) (w : Bool) → ((js : List ℕ) → Along (args_for image ts ps js) (args_for image ss ps js)) → Along (args_by image ts p ps k ks w) (args_by image ss p ps k ks w)
  arg_met p ps k ks true more = wide_met ps k ks more
  arg_met p ps k ks false more = first_along (single_for image ts k p) (args_for image ts ps ks) (single_for image ss k p) (args_for image ss ps ks) (single_met image h ss ts b k p) (more ks)

  args_met : (ps : List Ty) (ks : List ℕ) → Along (args_for image ts ps ks) (args_for image ss ps ks)
  args_met [] ks = same_along None
  args_met (p ∷ ps) [] = same_along (Some (rule.S 15))
  args_met (p ∷ ps) (k ∷ ks) = arg_met p ps k ks (is_long p) (λ js. args_met ps js)

  -- ---- calls

  receiver_met : (own m : Method) (t s : RegType) → under image s t ≡ true → Along (receiver_for image own m t) (receiver_for image own m s)
  receiver_met own m (ty.Uninit a) (ty.Uninit c) e = subst (λ (z : ℕ). Along (receiver_for image own m (ty.Uninit z)) (receiver_for image own m (ty.Uninit c))) (eqb-true c a e) (same_along (receiver_for image own m (ty.Uninit c)))
  receiver_met own m (ty.Uninit a) s e = no e
  receiver_met own m ty.UninitThis ty.UninitThis e = same_along (receiver_for image own m ty.UninitThis)
  receiver_met own m ty.UninitThis s e = no e
  receiver_met own m t s e = λ g. absurd (cc)

  super_met : (own : Method) (k : ℕ) (c : Call) → Along (super_for image own ts k c) (super_for image own ss k c)
  super_met own k Call.Super = ref_to_met image h ss ts b k (own_type image own)
  super_met own k c = same_along None

  object_met : (own m : Method) (c : Call) (k : ℕ) (made : Bool) → Along (elim made [ true ↦ receiver_for image own m (type_at ts k) | false ↦ first (ref_to image ts k (own_type image m)) (super_for image own ts k c) ]) (elim made [ true ↦ receiver_for image own m (type_at ss k) | false ↦ first (ref_to image ss k (own_type image m)) (super_for image own ss k c) ])
  object_met own m c k true = receiver_met own m (type_at ts k) (type_at ss k) (b.each k)
  object_met own m c k false = first_along (ref_to image ts k (own_type image m)) (super_for image own ts k c) (ref_to image ss k (own_type image m)) (super_for image own ss k c) (ref_to_met image h ss ts b k (own_type image m)) (super_met own k c)

  instance_met : (own : Method) (c : Call) (ks : List ℕ) (m : Method) → Along (instance_call image own ts c ks m) (instance_call image own ss c ks m)
  instance_met own c [] m = same_along (Some (rule.S 15))
  instance_met own c (k ∷ ks) m =
      let before : Types → Demand = λ rs. elim (is_constructor m) [ true ↦ receiver_for image own m (type_at rs k) | false ↦ first (ref_to image rs k (own_type image m)) (super_for image own rs k c) ] in
      first_along (before ts) (args_for image ts m.def.proto.params ks) (before ss) (args_for image ss m.def.proto.params ks) (object_met own m c k (is_constructor m)) (args_met m.def.proto.params ks)

  pub invoke_met : (own : Method) (c : Call) (ks : List ℕ) (m : Method) → Along (invoke_for image own ts c ks m) (invoke_for image own ss c ks m)
  invoke_met own c ks m = by_sort (is_static m)
    where
      by_sort : (w : Bool) → Along (elim w [ true ↦ args_for image ts m.def.proto.params ks | false ↦ instance_call image own ts c ks m ]) (elim w [ true ↦ args_for image ss m.def.proto.params ks | false ↦ instance_call image own ss c ks m ])
      by_sort true = args_met m.def.proto.params ks
      by_sort false = instance_met own c ks m

  -- ---- other operands

  int_of : (k : ℕ) → is_int (type_at ts k) ≡ true → is_int (type_at ss k) ≡ true
  int_of k = int_along image (type_at ts k) (type_at ss k) (b.each k)

  operand_met : (c : Arg) → Along (arg_int ts c) (arg_int ss c)
  operand_met (Reg r) = int_met image h ss ts b r
  operand_met (Lit n) = same_along None

  two_ints : (j k : ℕ) → Along (first (int ts j) (int ts k)) (first (int ss j) (int ss k))
  two_ints j k = first_along (int ts j) (int ts k) (int ss j) (int ss k) (int_met image h ss ts b j) (int_met image h ss ts b k)

  pub two_longs : (j k : ℕ) → Along (first (long ts j) (long ts k)) (first (long ss j) (long ss k))
  two_longs j k = first_along (long ts j) (long ts k) (long ss j) (long ss k) (long_met image h ss ts b j) (long_met image h ss ts b k)

  pub int_and : (j : ℕ) (c : Arg) → Along (first (int ts j) (arg_int ts c)) (first (int ss j) (arg_int ss c))
  int_and j c = first_along (int ts j) (arg_int ts c) (int ss j) (arg_int ss c) (int_met image h ss ts b j) (operand_met c)

  alike : (j k : ℕ) → ((is_int (type_at ts j) && is_int (type_at ts k)) || (is_ref (type_at ts j) && is_ref (type_at ts k))) ≡ true → ((is_int (type_at ss j) && is_int (type_at ss k)) || (is_ref (type_at ss j) && is_ref (type_at ss k))) ≡ true
  alike j k e = elim (or_cases (is_int (type_at ts j) && is_int (type_at ts k)) (is_ref (type_at ts j) && is_ref (type_at ts k)) e) [
    | inl x ↦ (let p = and_parts (is_int (type_at ts j)) (is_int (type_at ts k)) x in
        or_left (is_int (type_at ss j) && is_int (type_at ss k)) (is_ref (type_at ss j) && is_ref (type_at ss k)) (and_from (is_int (type_at ss j)) (is_int (type_at ss k)) (int_of j p.0) (int_of k p.1)))
    | inr x ↦ (let p = and_parts (is_ref (type_at ts j)) (is_ref (type_at ts k)) x in
        or_right (is_int (type_at ss j) && is_int (type_at ss k)) (is_ref (type_at ss j) && is_ref (type_at ss k)) (and_from (is_ref (type_at ss j)) (is_ref (type_at ss k)) (is_ref_met image h ss ts b j p.0) (is_ref_met image h ss ts b k p.1)))
  ]

  pub both_met : (t : Test) (j k : ℕ) → Along (both_for t ts j k) (both_for t ss j k)
  both_met t j k = by_test (is_equality t)
    where
      by_test : (w : Bool) → Along (elim w [ true ↦ demand ((is_int (type_at ts j) && is_int (type_at ts k)) || (is_ref (type_at ts j) && is_ref (type_at ts k))) (rule.V 9) | false ↦ first (int ts j) (int ts k) ]) (elim w [ true ↦ demand ((is_int (type_at ss j) && is_int (type_at ss k)) || (is_ref (type_at ss j) && is_ref (type_at ss k))) (rule.V 9) | false ↦ first (int ss j) (int ss k) ])
      by_test true = demand_along ((is_int (type_at ts j) && is_int (type_at ts k)) || (is_ref (type_at ts j) && is_ref (type_at ts k))) ((is_int (type_at ss j) && is_int (type_at ss k)) || (is_ref (type_at ss j) && is_ref (type_at ss k))) (rule.V 9) (alike j k)
      by_test false = two_ints j k

  int_or_ref : (k : ℕ) → (is_int (type_at ts k) || is_ref (type_at ts k)) ≡ true → (is_int (type_at ss k) || is_ref (type_at ss k)) ≡ true
  int_or_ref k e = elim (or_cases (is_int (type_at ts k)) (is_ref (type_at ts k)) e) [
    | inl x ↦ or_left (is_int (type_at ss k)) (is_ref (type_at ss k)) (int_of k x)
    | inr x ↦ or_right (is_int (type_at ss k)) (is_ref (type_at ss k)) (is_ref_met image h ss ts b k x)
  ]

  pub zero_met : (t : Test) (k : ℕ) → Along (zero_for t ts k) (zero_for t ss k)
  zero_met t k = by_test (is_equality t)
    where
      by_test : (w : Bool) → Along (elim w [ true ↦ demand (is_int (type_at ts k) || is_ref (type_at ts k)) (rule.V 9) | false ↦ int ts k ]) (elim w [ true ↦ demand (is_int (type_at ss k) || is_ref (type_at ss k)) (rule.V 9) | false ↦ int ss k ])
      by_test true = demand_along (is_int (type_at ts k) || is_ref (type_at ts k)) (is_int (type_at ss k) || is_ref (type_at ss k)) (rule.V 9) (int_or_ref k)
      by_test false = int_met image h ss ts b k

  pub put_met : (k : ℕ) (x : Suffix) → Along (put_for ts k x) (put_for ss k x)
  put_met k Suffix.Long = long_met image h ss ts b k
  put_met k Suffix.Object = ref_met image h ss ts b k
  put_met k x = int_met image h ss ts b k

  pub each_met : (ks : List ℕ) (f : Ty) → Along (each_for image ts ks f) (each_for image ss ks f)
  each_met [] f = same_along None
  each_met (k ∷ ks) f = first_along (single_for image ts k f) (each_for image ts ks f) (single_for image ss k f) (each_for image ss ks f) (single_met image h ss ts b k f) (each_met ks f)

  pub returned_met : (k : ℕ) (t : Option Ty) → Along (value_returned image ts k t) (value_returned image ss k t)
  returned_met k None = same_along None
  returned_met k (Some t) = value_met image h ss ts b k t

  -- ---- the receiver of a put

  is_ref_of : (k : ℕ) (f : Ty) → ref_to image ts k f ≡ None → is_ref (type_at ts k) ≡ true
  is_ref_of k f g = demanded (is_ref (type_at ts k)) (rule.V 4) (first_none (ref ts k) (demand (is_assignable image (type_at ts k) f) (rule.V 5)) g).0

  put_of_ref : (m : Method) (k : ℕ) (x : Field) (u : RegType) → is_ref u ≡ true → ref_to image ss k (class_type image x.info.class.0) ≡ None → put_receiver image m ss k x u ≡ None
  put_of_ref m k x ty.UninitThis r e = no r
  put_of_ref m k x u r e = e

  put_by : (m : Method) (k : ℕ) (x : Field) (w u : RegType) → under image u w ≡ true → type_at ss k ≡ u → Along (put_receiver image m ts k x w) (put_receiver image m ss k x u)
  put_by m k x ty.UninitThis ty.UninitThis e q = same_along (demand (is_own_field m x) (rule.V 14))
  put_by m k x ty.UninitThis u e q = no e
  put_by m k x w u e q = λ g. (let r : is_ref (type_at ts k) ≡ true = is_ref_of k (class_type image x.info.class.0) g in
      put_of_ref m k x u (subst (λ (z : RegType). is_ref z ≡ true) q (is_ref_met image h ss ts b k r)) (ref_to_met image h ss ts b k (class_type image x.info.class.0) g))

  pub put_receiver_met : (m : Method) (k : ℕ) (x : Field) → Along (put_receiver image m ts k x (type_at ts k)) (put_receiver image m ss k x (type_at ss k))
  put_receiver_met m k x = put_by m k x (type_at ts k) (type_at ss k) (b.each k) refl
