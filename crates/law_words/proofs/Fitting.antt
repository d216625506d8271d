-- What is fetched has operands that fit.
use Rattle.std.proofs.Common.{◌≡◌, ◌≢◌, ◌⊎◌, inl, inr, ℕ, zero, suc, ◌+◌, ◌*◌, ◌/◌, ◌++◌, Bool, true, false, ◌&&◌, not, Option, Some, None, Ok, Err, List, [], ◌∷◌, All, length, take, drop, refl, sym, ap, ◌∙◌, subst, arith}
use Rattle.std.specs.Prelude.{nat_eq, nat_le, slice_get}
use Rattle.std.proofs.lemmas.Bool.{and_parts, cases_eq}
use Rattle.std.proofs.lemmas.Bool.Decides.{nat_tests}
use Rattle.std.proofs.lemmas.List.Elements.{All-cons, All-nil}
use Rattle.std.proofs.lemmas.Option.{same_Some}
use Rattle.dv_defs.specs.declared.code.Insn.{Insn}
use Rattle.dv_defs.specs.declared.code.Payload.{Payload}
use Rattle.dv_defs.specs.declared.code.Payload.TheVariants as payload
use Rattle.dv_defs.specs.declared.faults.Rule.{Rule}
use Rattle.dv_defs.specs.declared.faults.Rule.TheVariants as rule
use Rattle.dv_defs.specs.declared.names.FieldId.{FieldId}
use Rattle.dv_defs.specs.declared.names.MethodId.{MethodId}
use Rattle.dv_defs.specs.declared.names.Ty.{Ty}
use Rattle.std.specs.List.{list_all}
use Rattle.dv_defs.specs.Decoding.{Sized, insn_here, is_zero}
use Rattle.dv_defs.specs.Families.{Family, family_at}
use Rattle.dv_defs.specs.Images.{Image}
use Rattle.dv_defs.specs.Numbers.{elements, jump, low_first, signed_at}
use Rattle.dv_defs.specs.Op.{Arg, class_of_base, Code, Op, Resolved, IntDivide, IntOp, LongDivide, LongOp, LongShift, New, StaticGet, StaticPut, ConstString, FieldGet, FieldPut, Fill, Invoke, code_at, fill_op, int_op, long_op, move_op, new_op, on_pool, op_of, packed_op, resolve, resolve_by, resolved_field, resolved_method, result_op, sparse_op}
use Rattle.dv_defs.specs.Parts.{Bin, Call, Suffix, Width, is_division, is_shift}
use Rattle.dv_defs.specs.Pools.{Field, Method, field_at, is_interface, is_static_field, method_at}
use Rattle.dv_typing.specs.Statics.{arg_words, fetch, fetch_in, fits_call, fits_instance_field, insn_rules, is_of_suffix, moves_on, op_rules, referred, registers_below, resolved_rules, unless}
use Rattle.dv_defs.specs.Tiling.{IsInsn, IsPayload, Piece, SizedPayload, begins_payload, bytes_in, data_in, data_of, data_from, doubles, insn_piece, is_width, packed_with, payload_at, payload_of, payload_piece, piece_here, sparse_with}
use Rattle.dv_defs.specs.Types.{is_array}
use Rattle.dv_words.specs.Standing.{FitsInt}
use Rattle.dv_words.specs.Fetching.{StandsAt}
use Rattle.law_words.specs.Laws.{ArgFits, OperandsFit}
use Rattle.law_words.specs.StepLaws.{CallFits, FetchedOperandsFit, ImageFits, StringsFit}
use Rattle.law_words.proofs.Fetching.{fetched_is_decoded, fetched_is_there, payloads_are_there, tiles_are}
use Rattle.law_words.proofs.Operands.{has_literal, literal_fits, signed_16, signed_32, signed_8}

abbrev Fit : Image → Op → Type 0
Fit image op = OperandsFit image op × CallFits image op

plain : (image : Image) (a op : Op) → (let r : Resolved = Ok a in r) ≡ Ok op → Fit image a → Fit image op
plain image a op e fit = let same : a ≡ op = cc in subst (Fit image) same fit

-- ---- rules that aren't broken

none_left : (xs ys : List Rule) → xs ++ ys ≡ [] → ys ≡ []
none_left [] ys e = e
none_left (x ∷ xs) ys e = absurd (cc)

kept_to : (b : Bool) (r : Rule) → unless b r ≡ [] → b ≡ true
kept_to true r e = refl
kept_to false r e = absurd (cc)

no_fault : (image : Image) (code : Code) (at : ℕ) (i : Insn) (op : Op) → op_of image code at i ≡ Ok op → insn_rules image code at i ≡ [] → op_rules image code (referred code i) op ≡ []
no_fault image code at i op is rules =
    sym (ap (resolved_rules image code (referred code i)) is) ∙ none_left (unless (moves_on i) (rule.S 5) ++ unless (registers_below code.body.registers i) (rule.S 11)) (resolved_rules image code (referred code i) (op_of image code at i)) rules

-- ---- payloads

widths : (w : ℕ) → is_width w ≡ true → (w ≡ 8) ⊎ ((w ≡ 1) ⊎ ((w ≡ 2) ⊎ (w ≡ 4)))
widths w is = by (cases_eq w 8) (cases_eq w 1) (cases_eq w 2) (cases_eq w 4)
  where
    by : (w ≡ 8) ⊎ (w ≢ 8) → (w ≡ 1) ⊎ (w ≢ 1) → (w ≡ 2) ⊎ (w ≢ 2) → (w ≡ 4) ⊎ (w ≢ 4) → (w ≡ 8) ⊎ ((w ≡ 1) ⊎ ((w ≡ 2) ⊎ (w ≡ 4)))
    by (inl e) b c d = inl e
    by (inr a) (inl e) c d = inr (inl e)
    by (inr a) (inr b) (inl e) d = inr (inr (inl e))
    by (inr a) (inr b) (inr c) (inl e) = inr (inr (inr e))
    by (inr a) (inr b) (inr c) (inr d) = absurd (grind (arith, nat_tests, is, a, b, c, d))

elements_by : (width : ℕ) → ((n : ℕ) → FitsInt (signed_at (8 * width) n)) → (n : ℕ) (bs : List ℕ) → All FitsInt (elements n width bs)
elements_by width small zero bs = All-nil FitsInt
elements_by width small (suc n) bs = All-cons FitsInt _ _ (small (low_first (take width bs))) (elements_by width small n (drop width bs))

elements_fit : (width : ℕ) (n : ℕ) (bs : List ℕ) → is_width width ≡ true → (width ≡ 8) ⊎ All FitsInt (elements n width bs)
elements_fit width n bs is = by (widths width is)
  where
    at_width : (w : ℕ) → width ≡ w → ((k : ℕ) → FitsInt (signed_at (8 * w) k)) → All FitsInt (elements n width bs)
    at_width w e small = subst (λ (v : ℕ). All FitsInt (elements n v bs)) (sym e) (elements_by w small n bs)

    by : (width ≡ 8) ⊎ ((width ≡ 1) ⊎ ((width ≡ 2) ⊎ (width ≡ 4))) → (width ≡ 8) ⊎ All FitsInt (elements n width bs)
    by (inl e) = inl e
    by (inr (inl e)) = inr (at_width 1 e signed_8)
    by (inr (inr (inl e))) = inr (at_width 2 e signed_16)
    by (inr (inr (inr e))) = inr (at_width 4 e signed_32)

-- the width of a payload of data is one that may be
abbrev RightWidth : Payload → Type 0
RightWidth (payload.Data w bs) = is_width w ≡ true
RightWidth p = Unit {0}

-- so of an item, and of what is read
abbrev RightSized : Option SizedPayload → Type 0
RightSized None = Unit {0}
RightSized (Some x) = RightWidth x.payload

packed_right : (n : ℕ) (ks : Option (List ℕ)) → RightSized (packed_with n ks)
packed_right n None = tt
packed_right n (Some []) = tt
packed_right n (Some (k ∷ ts)) = tt

sparse_right : (n : ℕ) (ks : Option (List ℕ)) → RightSized (sparse_with n ks)
sparse_right n None = tt
sparse_right n (Some ks) = tt

data_right : (w count units : ℕ) (us : List ℕ) → RightSized (data_of w count units us)
data_right w count units us = by (is_width w && nat_le units (length us)) refl
  where
    inside : (b : Bool) → is_width w ≡ true → RightSized (elim b [ true ↦ Some (record { payload = payload.Data w (take count (bytes_in (take units us))); size = units + 4 }) | false ↦ None ])
    inside true is = is
    inside false is = tt

    by : (b : Bool) → (is_width w && nat_le units (length us)) ≡ b → RightSized (elim b [ true ↦ data_in w count (bytes_in (take units us)) units | false ↦ None ])
    by true is = inside (list_all is_zero (drop count (bytes_in (take units us)))) (and_parts (is_width w) (nat_le units (length us)) is).0
    by false is = tt

from_right : (w : ℕ) (us : List ℕ) → RightSized (data_from w us)
from_right w [] = tt
from_right w (a ∷ []) = tt
from_right w (a ∷ b ∷ us) = data_right w _ _ us

payload_right : (kind : ℕ) (us : List ℕ) → RightSized (payload_of kind us)
payload_right kind [] = tt
payload_right kind (n ∷ us) = by (nat_eq kind 1) (nat_eq kind 2)
  where
    by : (a b : Bool) → RightSized (elim a [ true ↦ packed_with n (doubles (suc n) us) | false ↦ elim b [ true ↦ sparse_with n (doubles (n + n) us) | false ↦ data_from n us ] ])
    by true b = packed_right n (doubles (suc n) us)
    by false true = sparse_right n (doubles (n + n) us)
    by false false = from_right n us

piece_right : (o : Option SizedPayload) (p : Payload) (size : ℕ) → RightSized o → payload_piece o ≡ Some (record { item = IsPayload p; size = size }) → RightWidth p
piece_right None p size right e = absurd (cc)
piece_right (Some x) p size right e =
    let same : IsPayload x.payload ≡ IsPayload p = ap (λ (z : Piece). z.item) (same_Some (record { item = IsPayload x.payload; size = x.size }) (record { item = IsPayload p; size = size }) e) in
    let payloads : x.payload ≡ p = cc in
    subst RightWidth payloads right

not_insn : (o : Option Sized) (p : Payload) (size : ℕ) → insn_piece o ≡ Some (record { item = IsPayload p; size = size }) → ⊥
not_insn None p size e = cc
not_insn (Some x) p size e =
    let same : IsInsn x.insn ≡ IsPayload p = ap (λ (z : Piece). z.item) (same_Some (record { item = IsInsn x.insn; size = x.size }) (record { item = IsPayload p; size = size }) e) in
    cc same

abbrev marked : Bool → Option SizedPayload → Option Sized → Option Piece
marked b p i = elim b [ true ↦ payload_piece p | false ↦ insn_piece i ]

here_right : (us : List ℕ) (p : Payload) (size : ℕ) → piece_here us ≡ Some (record { item = IsPayload p; size = size }) → RightWidth p
here_right [] p size e = absurd (cc)
here_right (u ∷ us) p size e = by (begins_payload u) e
  where
    by : (b : Bool) → marked b (payload_of (u / 256) us) (insn_here (u ∷ us)) ≡ Some (record { item = IsPayload p; size = size }) → RightWidth p
    by true is = piece_right (payload_of (u / 256) us) p size (payload_right (u / 256) us) is
    by false is = absurd (not_insn (insn_here (u ∷ us)) p size is)

payload_fits : (image : Image) (n : ℕ) (code : Code) (at : ℕ) (p : Payload) → code_at image n ≡ Some code → payload_at code.tiles at ≡ Some p → RightWidth p
payload_fits image n code at p has e =
    let spelled = payloads_are_there code.body.units at p (ap (λ ts. payload_at ts at) (sym (tiles_are image n code has)) ∙ e) in
    here_right (drop at code.body.units) p spelled.size spelled.read

-- ---- each family

module _ (image : Image) (n : ℕ) (code : Code) (at : ℕ) (i : Insn) (op : Op) (image_fits : ImageFits image) (strings : StringsFit image) (has : code_at image n ≡ Some code) (rules : op_rules image code (referred code i) op ≡ []) (literal : has_literal (family_at i.op) ≡ true → FitsInt i.lit) where
  abbrev Is : Resolved → Type 0
  Is r = r ≡ Ok op

  moved : (x : Width) (a b : ℕ) → Fit image (move_op x a b)
  moved Width.Narrow a b = (tt, tt)
  moved Width.Wide a b = (tt, tt)
  moved Width.Reference a b = (tt, tt)

  resulted : (x : Width) (a : ℕ) → Fit image (result_op x a)
  resulted Width.Narrow a = (tt, tt)
  resulted Width.Wide a = (tt, tt)
  resulted Width.Reference a = (tt, tt)

  calculated : (o : Bin) (a b : ℕ) (c : Arg) → ArgFits c → Fit image (int_op o a b c)
  calculated o a b c fits = by (is_division o)
    where
      by : (d : Bool) → Fit image (elim d [ true ↦ IntDivide o a b c | false ↦ IntOp o a b c ])
      by true = (fits, tt)
      by false = (fits, tt)

  calculated_long : (o : Bin) (a b c : ℕ) → Fit image (long_op o a b c)
  calculated_long o a b c = by (is_division o) (is_shift o)
    where
      by : (d e : Bool) → Fit image (elim d [ true ↦ LongDivide o a b c | false ↦ elim e [ true ↦ LongShift o a b c | false ↦ LongOp o a b c ] ])
      by true e = (tt, tt)
      by false true = (tt, tt)
      by false false = (tt, tt)

  string_by : (a : ℕ) (s : Option (List ℕ)) → slice_get code.body.strings i.index ≡ s → Is (on_pool s (λ u. Ok (ConstString a u))) → Fit image op
  string_by a None is e = absurd (cc)
  string_by a (Some u) is e = plain image (ConstString a u) op e (strings n code i.index u has is, tt)

  type_by : (t : Option Ty) (go : Ty → Resolved) → ((u : Ty) → Is (go u) → Fit image op) → Is (on_pool t go) → Fit image op
  type_by None go fit e = absurd (cc)
  type_by (Some u) go fit e = fit u e

  filled_by : (a : ℕ) (p : Option Payload) → payload_at code.tiles (jump at i.off) ≡ p → Is (fill_op a p) → Fit image op
  filled_by a None is e = absurd (cc)
  filled_by a (Some (payload.Packed k ts)) is e = absurd (cc)
  filled_by a (Some (payload.Sparse ks ts)) is e = absurd (cc)
  filled_by a (Some (payload.Data width bytes)) is e =
      plain image (Fill a width (elements (length bytes / width) width bytes)) op e
      (elements_fit width (length bytes / width) bytes (payload_fits image n code (jump at i.off) (payload.Data width bytes) has is), tt)

  packed_by : (a : ℕ) (p : Option Payload) → Is (packed_op at a p) → Fit image op
  packed_by a (Some (payload.Packed k ts)) e = plain image _ op e (tt, tt)
  packed_by a p e = absurd (cc)

  sparse_by : (a : ℕ) (p : Option Payload) → Is (sparse_op at a p) → Fit image op
  sparse_by a (Some (payload.Sparse ks ts)) e = plain image _ op e (tt, tt)
  sparse_by a p e = absurd (cc)

  same_op : (a b : Op) → (let r : Resolved = Ok a in r) ≡ Ok b → a ≡ b
  same_op a b e = cc

  -- of an instance field, which no interface declares
  instance_field : (s : Suffix) (x : Field) → unless (fits_instance_field image s x) (rule.S 13) ≡ [] → (is_static_field x ≡ false) × (is_interface image x.info.class.0 ≡ false)
  instance_field s x none =
      let fits = and_parts (not (is_static_field x) && is_of_suffix s x.def.ty) (not (is_interface image x.info.class.0)) (kept_to (fits_instance_field image s x) (rule.S 13) none) in
      let instance = and_parts (not (is_static_field x)) (is_of_suffix s x.def.ty) fits.0 in
      (not_true (is_static_field x) instance.0, not_true (is_interface image x.info.class.0) fits.1)
    where
      not_true : (b : Bool) → not b ≡ true → b ≡ false
      not_true true e = absurd (cc)
      not_true false e = refl

  field_by : (go : Field → Op) (f : Option FieldId) → ((x : Field) (k : ℕ) → field_at image k ≡ Some x → go x ≡ op → Fit image op) → Is (on_pool (resolved_field image f) (λ x. Ok (go x))) → Fit image op
  field_by go None fit e = absurd (cc)
  field_by go (Some f) fit e = by (field_at image f.0) refl e
    where
      by : (o : Option Field) → field_at image f.0 ≡ o → Is (on_pool o (λ x. Ok (go x))) → Fit image op
      by None is d = absurd (cc)
      by (Some x) is d = fit x f.0 is (same_op (go x) op d)

  got_field : (s : Suffix) (a b k : ℕ) (x : Field) → field_at image k ≡ Some x → FieldGet s a b x ≡ op → Fit image op
  got_field s a b k x there same =
      let none : op_rules image code (referred code i) (FieldGet s a b x) ≡ [] = ap (op_rules image code (referred code i)) same ∙ rules in
      let (instance, concrete) = instance_field s x none in
      subst (Fit image) same (image_fits.no_strings k x there instance concrete, tt)

  put_field : (s : Suffix) (a b k : ℕ) (x : Field) → field_at image k ≡ Some x → FieldPut s a b x ≡ op → Fit image op
  put_field s a b k x there same =
      let none : op_rules image code (referred code i) (FieldPut s a b x) ≡ [] = ap (op_rules image code (referred code i)) same ∙ rules in
      let (instance, concrete) = instance_field s x none in
      subst (Fit image) same (image_fits.no_strings k x there instance concrete, tt)

  method_by : (c : Call) (ks : List ℕ) (m : Option MethodId) → Is (on_pool (resolved_method image m) (λ g. Ok (Invoke c ks g))) → Fit image op
  method_by c ks None e = absurd (cc)
  method_by c ks (Some m) e = by (method_at image m.0) refl e
    where
      by : (o : Option Method) → method_at image m.0 ≡ o → Is (on_pool o (λ g. Ok (Invoke c ks g))) → Fit image op
      by None is d = absurd (cc)
      by (Some g) is d =
          let same = same_op (Invoke c ks g) op d in
          let none : op_rules image code (referred code i) (Invoke c ks g) ≡ [] = ap (op_rules image code (referred code i)) same ∙ rules in
          let count = kept_to (nat_eq (length ks) (arg_words g)) (rule.S 15) (none_left (unless (fits_call image code.method (referred code i) c g) (rule.S 14)) (unless (nat_eq (length ks) (arg_words g)) (rule.S 15)) none) in
          let words : length ks ≡ arg_words g = grind (arith, nat_tests, count) in
          let own : method_at image g.id ≡ Some g = ap (method_at image) (image_fits.finds.methods m.0 g is) ∙ is in
          subst (Fit image) same (tt, (words, own))

  class_by : (a : ℕ) (t : Ty) → Is (new_op image a t) → Fit image op
  class_by a t e = by_array (is_array t) e
    where
      by_class : (c : Option ℕ) → Is (elim c [ None ↦ Err (rule.S 16) | Some k ↦ Ok (New a k) ]) → Fit image op
      by_class None d = absurd (cc)
      by_class (Some k) d = plain image (New a k) op d (tt, tt)

      by_array : (b : Bool) → Is (elim b [ true ↦ Err (rule.S 16) | false ↦ elim (class_of_base image t.base) [ None ↦ Err (rule.S 16) | Some k ↦ Ok (New a k) ] ]) → Fit image op
      by_array true d = absurd (cc)
      by_array false d = by_class (class_of_base image t.base) d

  pub fits_of : (f : Family) → (has_literal (Some f) ≡ true → FitsInt i.lit) → Is (resolve image code at i f) → Fit image op
  fits_of (Family.Move x) l e = plain image _ op e (moved x _ _)
  fits_of (Family.MoveResult x) l e = plain image _ op e (resulted x _)
  fits_of Family.Const l e = plain image _ op e (l refl, tt)
  fits_of Family.ConstString l e = string_by _ (slice_get code.body.strings i.index) refl e
  fits_of Family.ConstClass l e = type_by (slice_get code.method.info.types i.index) _ (λ t d. plain image _ op d (tt, tt)) e
  fits_of Family.CheckCast l e = type_by (slice_get code.method.info.types i.index) _ (λ t d. plain image _ op d (tt, tt)) e
  fits_of Family.InstanceOf l e = type_by (slice_get code.method.info.types i.index) _ (λ t d. plain image _ op d (tt, tt)) e
  fits_of Family.NewInstance l e = type_by (slice_get code.method.info.types i.index) _ (λ t d. class_by _ t d) e
  fits_of Family.NewArray l e = type_by (slice_get code.method.info.types i.index) _ (λ t d. plain image _ op d (tt, tt)) e
  fits_of Family.FilledNewArray l e = type_by (slice_get code.method.info.types i.index) _ (λ t d. plain image _ op d (tt, tt)) e
  fits_of Family.FillArrayData l e = filled_by _ (payload_at code.tiles (jump at i.off)) refl e
  fits_of Family.PackedSwitch l e = packed_by _ (payload_at code.tiles (jump at i.off)) e
  fits_of Family.SparseSwitch l e = sparse_by _ (payload_at code.tiles (jump at i.off)) e
  fits_of (Family.FieldGet s) l e = field_by (FieldGet s _ _) (slice_get code.method.info.fields i.index) (λ x k there same. got_field s _ _ k x there same) e
  fits_of (Family.FieldPut s) l e = field_by (FieldPut s _ _) (slice_get code.method.info.fields i.index) (λ x k there same. put_field s _ _ k x there same) e
  fits_of (Family.StaticGet s) l e = field_by (StaticGet s _) (slice_get code.method.info.fields i.index) (λ x k there same. subst (Fit image) same (tt, tt)) e
  fits_of (Family.StaticPut s) l e = field_by (StaticPut s _) (slice_get code.method.info.fields i.index) (λ x k there same. subst (Fit image) same (tt, tt)) e
  fits_of (Family.Invoke c) l e = method_by c _ (slice_get code.method.info.methods i.index) e
  fits_of (Family.IntBinary o) l e = plain image _ op e (calculated o _ _ _ tt)
  fits_of (Family.IntTwo o) l e = plain image _ op e (calculated o _ _ _ tt)
  fits_of (Family.IntLiteral o) l e = plain image _ op e (calculated o _ _ _ (l refl))
  fits_of (Family.LongBinary o) l e = plain image _ op e (calculated_long o _ _ _)
  fits_of (Family.LongTwo o) l e = plain image _ op e (calculated_long o _ _ _)
  fits_of f l e = plain image _ op e (tt, tt)

  pub fits_by : (o : Option Family) → family_at i.op ≡ o → Is (resolve_by image code at i o) → Fit image op
  fits_by None is e = absurd (cc)
  fits_by (Some f) is e = fits_of f (λ h. literal (ap has_literal is ∙ h)) e

pub fetched_operands_fit : FetchedOperandsFit
unfolding fetch
fetched_operands_fit image fits strings n at x found = by (code_at image n) refl found
  where
    fetched : fetch image n at ≡ Some x
    fetched = found

    by : (c : Option Code) → code_at image n ≡ c → fetch_in image at c ≡ Some x → Fit image x.op
    by None is e = absurd (cc)
    by (Some code) is e =
        let stands : StandsAt image n code.body.units at x = record { code = code; has_code = is; same_units = refl; has_at = fetched } in
        let there = fetched_is_there image n at code.body.units x stands in
        let decoded = fetched_is_decoded image n at code there.insn there.size x is fetched there.read in
        fits_by image n code at there.insn x.op fits strings is (no_fault image code at there.insn x.op decoded.op decoded.rules)
        (λ has. literal_fits (drop at code.body.units) (record { insn = there.insn; size = there.size }) there.read has) (family_at there.insn.op) refl decoded.op
