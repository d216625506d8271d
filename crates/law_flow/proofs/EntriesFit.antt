-- The state on entry to a method fits, and so do the states of handlers.
use Rattle.std.proofs.Common.{◌≡◌, ◌≤◌, ℕ, ◌+◌, ◌-◌, List, [], ◌∷◌, ◌++◌, length, replicate, Bool, true, false, Option, Some, None, refl, ap, ◌∙◌, arith}
use Rattle.std.specs.Prelude.{All, IfSome, slice_get}
use Rattle.std.proofs.lemmas.List.{length-append, length-replicate}
use Rattle.std.proofs.lemmas.List.Elements.{All-nil, All-cons, All-append, All-replicate}
use Rattle.dv_defs.specs.declared.names.Ty.{Ty}
use Rattle.dv_typing.specs.declared.typing.RegType.{RegType}
use Rattle.dv_typing.specs.declared.typing.RegType.TheVariants as ty
use Rattle.dv_typing.specs.declared.typing.RegState.{RegState}
use Rattle.dv_defs.specs.Images.{Image}
use Rattle.dv_defs.specs.Names.{throwable_name}
use Rattle.dv_defs.specs.Types.{is_reference, is_long, words_of, words_of_all}
use Rattle.dv_defs.specs.Pools.{Method, is_static, own_type, name_at}
use Rattle.dv_defs.specs.Op.{Code}
use Rattle.dv_typing.specs.Statics.{receiver_words, arg_words}
use Rattle.dv_typing.specs.RegTypes.{Types, single_type, reg_types, all_types}
use Rattle.dv_typing.specs.Transfer.{begins_uninitialised, receiver_type, arg_types}
use Rattle.dv_typing.specs.Flow.{Catcher, caught_as, caught_state}
use Rattle.law_flow.specs.Clean.{IsHandler}
use Rattle.law_flow.specs.Fitting.{TypeFits, RegFits, StateFits, dims_of, dims_met}
use Rattle.law_flow.specs.Laws.{EntriesFit, CaughtStatesFit}
use Rattle.law_flow.proofs.DimsMet.{body_met, params_met}
use Rattle.law_flow.proofs.Written.{class_fits, single_fits}

-- ---- how many registers arguments take

word_count : (t : Ty) → length (reg_types t) ≡ words_of t
word_count t = by_width (is_long t)
  where
    by_width : (w : Bool) → ◌≡◌ {A = ℕ} (length (elim w as (λ v. Types) [ true ↦ ty.LongLo ∷ ty.LongHi ∷ [] | false ↦ single_type t ∷ [] ])) (elim w as (λ v. ℕ) [ true ↦ 2 | false ↦ 1 ])
    by_width true = refl
    by_width false = refl

words_count : (ts : List Ty) → length (all_types ts) ≡ words_of_all ts
words_count [] = refl
words_count (t ∷ ts) =
    let here : length (reg_types t) ≡ words_of t = word_count t in
    let later : length (all_types ts) ≡ words_of_all ts = words_count ts in
    let both : length (reg_types t ++ all_types ts) ≡ length (reg_types t) + length (all_types ts) = length-append (reg_types t) (all_types ts) in
    omega arith

receiver_count : (image : Image) (m : Method) → length (receiver_type image m) ≡ receiver_words m
receiver_count image m = by_sort (is_static m) (begins_uninitialised image m)
  where
    by_sort : (b d : Bool) → ◌≡◌ {A = ℕ} (length (elim b as (λ w. Types) [ true ↦ [] | false ↦ elim d as (λ w. Types) [ true ↦ ty.UninitThis ∷ [] | false ↦ ty.Class (own_type image m) ∷ [] ] ])) (elim b as (λ w. ℕ) [ true ↦ 0 | false ↦ 1 ])
    by_sort true d = refl
    by_sort false true = refl
    by_sort false false = refl

arg_count : (image : Image) (m : Method) → length (arg_types image m) ≡ arg_words m
arg_count image m =
    let first : length (receiver_type image m) ≡ receiver_words m = receiver_count image m in
    let rest : length (all_types m.def.proto.params) ≡ words_of_all m.def.proto.params = words_count m.def.proto.params in
    let both : length (receiver_type image m ++ all_types m.def.proto.params) ≡ length (receiver_type image m) + length (all_types m.def.proto.params) = length-append (receiver_type image m) (all_types m.def.proto.params) in
    omega arith

-- ---- arguments fit

module _ (most : ℕ) (code : Code) where
  abbrev Fit : Types → Type 0
  Fit ts = All (RegFits most code) ts

  one_fits : (t : RegType) → RegFits most code t → Fit (t ∷ [])
  one_fits t f = All-cons (RegFits most code) t [] f (All-nil (RegFits most code))

  parts_fit : (t : Ty) → t.dims ≤ most → Fit (reg_types t)
  parts_fit t l = by_width (is_long t)
    where
      by_width : (w : Bool) → Fit (elim w as (λ v. Types) [ true ↦ ty.LongLo ∷ ty.LongHi ∷ [] | false ↦ single_type t ∷ [] ])
      by_width true = All-cons (RegFits most code) ty.LongLo (ty.LongHi ∷ []) tt (one_fits ty.LongHi tt)
      by_width false = one_fits (single_type t) (single_fits most code t l)

  params_fit : (ts : List Ty) → dims_of ts ≤ most → Fit (all_types ts)
  params_fit [] l = All-nil (RegFits most code)
  params_fit (t ∷ ts) l = All-append (RegFits most code) (reg_types t) (all_types ts) (parts_fit t (omega arith)) (params_fit ts (omega arith))

  receiver_fits : (image : Image) (m : Method) → Fit (receiver_type image m)
  receiver_fits image m = by_sort (is_static m) (begins_uninitialised image m)
    where
      by_sort : (b d : Bool) → Fit (elim b as (λ w. Types) [ true ↦ [] | false ↦ elim d as (λ w. Types) [ true ↦ ty.UninitThis ∷ [] | false ↦ ty.Class (own_type image m) ∷ [] ] ])
      by_sort true d = All-nil (RegFits most code)
      by_sort false true = one_fits ty.UninitThis tt
      by_sort false false = one_fits (ty.Class (own_type image m)) (class_fits most (name_at image m.info.class.0))

  entry_regs_fit : (image : Image) (m : Method) (n : ℕ) → dims_of m.def.proto.params ≤ most → Fit (replicate n ty.Conflict ++ arg_types image m)
  entry_regs_fit image m n l =
      All-append (RegFits most code) (replicate n ty.Conflict) (arg_types image m) (All-replicate (RegFits most code) n ty.Conflict tt)
      (All-append (RegFits most code) (receiver_type image m) (all_types m.def.proto.params) (receiver_fits image m) (params_fit m.def.proto.params l))

pub entries_fit : EntriesFit
entries_fit image code has clean = record {
  count = room code.body.registers clean.room;
  regs = entry_regs_fit (dims_met image code) code image code.method (code.body.registers - length (arg_types image code.method)) (params_met image code);
  result = tt;
  caught = tt;
}
  where
    room : (n : ℕ) → arg_words code.method ≤ n → length (replicate (n - length (arg_types image code.method)) ty.Conflict ++ arg_types image code.method) ≡ n
    room n l =
        let args : length (arg_types image code.method) ≡ arg_words code.method = arg_count image code.method in
        length-append (replicate (n - length (arg_types image code.method)) ty.Conflict) (arg_types image code.method) ∙
        (ap (λ (k : ℕ). k + length (arg_types image code.method)) (length-replicate (n - length (arg_types image code.method)) ty.Conflict) ∙ omega arith)

-- ---- handlers

module _ (image : Image) (code : Code) where
  caught_type_fits : (o : Option Ty) → IfSome o (λ t. is_reference t ≡ true) → IfSome o (λ t. (k : ℕ) × (slice_get code.body.types k ≡ Some t)) → TypeFits (dims_met image code) (caught_as o)
  caught_type_fits None r m = class_fits (dims_met image code) throwable_name
  caught_type_fits (Some t) r m = record { reference = r; dims = body_met image code m.0 t m.1 }

  handler_fits : (s : RegState) (h : Catcher) → StateFits image code s → IsHandler code h → IfSome h.ty (λ t. (k : ℕ) × (slice_get code.body.types k ≡ Some t)) → StateFits image code (caught_state s h)
  handler_fits s h f leads met = record { count = f.count; regs = f.regs; result = tt; caught = caught_type_fits h.ty leads.catches met }

pub caught_states_fit : CaughtStatesFit
caught_states_fit image code has clean at s f = λ k h l. handler_fits image code s _ f (clean.handlers_lead at k h l) (clean.handlers_met at k h l)
