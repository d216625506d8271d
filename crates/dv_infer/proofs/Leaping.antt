-- A conflict in place of a class that no closed assignment has is under each closed assignment.
use Rattle.std.proofs.Common.{◌≡◌, ℕ, length, Bool, true, false, List, Option, Some, None, refl, sym, ap, ◌∙◌, subst, inl, inr}
use Rattle.std.specs.Prelude.{All, IfSome, map, nat_lt, slice_get, slice_set}
use Rattle.std.specs.Option.{option_map}
use Rattle.std.proofs.lemmas.Option.{slice_get-map, get_or_from_slice_get}
use Rattle.std.proofs.lemmas.Bool.{cases_eq}
use Rattle.std.proofs.lemmas.List.{length-set, get_or-set_other, map-set}
use Rattle.std.proofs.lemmas.List.Elements.{All-set}
use Rattle.dv_defs.specs.declared.names.Ty.{Ty}
use Rattle.dv_defs.specs.Images.{Image}
use Rattle.dv_defs.specs.Op.{Code}
use Rattle.dv_typing.specs.declared.typing.RegType.{RegType}
use Rattle.dv_typing.specs.declared.typing.RegType.TheVariants as ty
use Rattle.dv_typing.specs.declared.typing.RegState.{RegState}
use Rattle.dv_typing.specs.RegTypes.{IsBelow, type_at, under}
use Rattle.dv_types.proofs.Below.{below_from, below_to}
use Rattle.law_flow.specs.Fitting.{RegFits, StateFits, dims_met}
use Rattle.dv_worklist.specs.Flow.{Assignment, IsClosed, IsImplied}
use Rattle.dv_worklist.specs.Beside.{Kept, kept, flow_beside, fits_beside}
use Rattle.dv_worklist.proofs.Beside.{implied_beside}
use Rattle.law_infer.specs.Flowing.{IsReady}
use Rattle.law_gather.specs.Gathered.{addresses, fits_by, gathered_flow}
use Rattle.law_blocks.specs.Blocks.{Before, AreBefore, blocks_flow, fits_blocks, filled}
use Rattle.law_blocks.proofs.Filled.{IsFilled, filled_from}
use Rattle.law_blocks.proofs.Closed.{closed_filled}
use Rattle.law_levels.specs.Levels.{HasNoClass}
use Rattle.dv_bases.specs.declared.words.Part.{Part}
use Rattle.dv_bases.specs.declared.words.Part.TheVariants as part
use Rattle.dv_bases.specs.Words.{part_in}
use Rattle.dv_bases.specs.Bases.{Names, type_in, type_of, word_type, IsPart, IsWord}
use Rattle.dv_plan.specs.declared.marks.Mark.{Mark}
use Rattle.dv_plan.specs.Marks.{before_by}
use Rattle.dv_infer.specs.Owned.{NamedCode}
use Rattle.dv_infer.specs.Leaps.{HasClass, IsLeap, IsWithoutClass, is_class, with_conflict}

no : {A : Type 0} → false ≡ true → A
no e = absurd (cc)

-- ---- words of classes and conflicts

class_by : (names : Names) (p : Part) → is_class p ≡ true → HasClass (type_in names p)
class_by names (part.Class r) e = (type_of names r, refl)
class_by names p e = no e

pub class_at : (names : Names) (ws : List ℕ) (k w : ℕ) → slice_get ws k ≡ Some w → is_class (part_in w) ≡ true → HasClass (type_at (map (word_type names) ws) k)
class_at names ws k w there e =
    let has = class_by names (part_in w) e in
    let says = get_or_from_slice_get (map (word_type names) ws) k (word_type names w) ty.Conflict (slice_get-map (word_type names) ws k ∙ ap (option_map (word_type names)) there) in
    (has.0, says ∙ has.1)

pub conflict_said : (names : Names) (ws vs : List ℕ) (k w : ℕ) → part_in w ≡ part.Conflict → vs ≡ slice_set ws k w → map (word_type names) vs ≡ slice_set (map (word_type names) ws) k ty.Conflict
conflict_said names ws vs k w e is = ap (map (word_type names)) is ∙ (map-set (word_type names) ws k w ∙ ap (slice_set (map (word_type names) ws) k) (ap (type_in names) e))

pub conflict_words : (names : Names) (ws vs : List ℕ) (k w : ℕ) → part_in w ≡ part.Conflict → vs ≡ slice_set ws k w → All (IsWord names) ws → All (IsWord names) vs
conflict_words names ws vs k w e is all = subst (All (IsWord names)) (sym is) (All-set (IsWord names) ws k w (subst (IsPart names) (sym e) tt) all)

module _ (image : Image) (code : Code) where
  -- ---- it fits

  conflict_fits : (s : RegState) (k : ℕ) → StateFits image code s → StateFits image code (with_conflict s k)
  conflict_fits s k f = record {
    count = length-set s.regs k ty.Conflict ∙ f.count;
    regs = All-set (RegFits (dims_met image code) code) s.regs k ty.Conflict tt f.regs;
    result = f.result;
    caught = f.caught;
  }

  conflict_fits_by : (place : ℕ) (s : RegState) (k : ℕ) (b : Bool) → fits_by image code place s b → fits_by image code place (with_conflict s k) b
  conflict_fits_by place s k true f = (f.0, conflict_fits s k f.1)
  conflict_fits_by place s k false f = (f.0, conflict_fits s k f.1)

  -- ---- it is under each closed assignment

  module _ (place : ℕ) (s u : RegState) (k : ℕ) (b : Assignment RegState) (closed : IsClosed (gathered_flow image code) b) (there : b place ≡ Some u) (none : HasNoClass image code place k) where
    -- what is above a class, and no class
    only_conflict : (c : Ty) (t : RegType) → type_at u.regs k ≡ t → under image (ty.Class c) t ≡ true → t ≡ ty.Conflict
    only_conflict c ty.Conflict e above = refl
    only_conflict c (ty.Class d) e above = absurd (none b closed u there d e)
    only_conflict c t e above = no above

    conflict_each : (c : Ty) → type_at s.regs k ≡ ty.Class c → IsBelow image s u → (j : ℕ) → under image (type_at (with_conflict s k).regs j) (type_at u.regs j) ≡ true
    conflict_each c is below j =
        elim (cases_eq j k) [
          | inl same ↦
              let class_under : under image (ty.Class c) (type_at u.regs k) ≡ true = subst (λ (t : RegType). under image t (type_at u.regs k) ≡ true) is (below.each k) in
              let top : type_at u.regs k ≡ ty.Conflict = only_conflict c (type_at u.regs k) refl class_under in
              subst (λ (t : RegType). under image (type_at (with_conflict s k).regs j) t ≡ true) (sym (ap (type_at u.regs) same ∙ top)) refl
          | inr other ↦
              subst (λ (t : RegType). under image t (type_at u.regs j) ≡ true) (sym (get_or-set_other s.regs k j ty.Conflict ty.Conflict other)) (below.each j)
        ]

    conflict_below : (c : Ty) → type_at s.regs k ≡ ty.Class c → IsBelow image s u → IsBelow image (with_conflict s k) u
    conflict_below c is below = record {
      each = conflict_each c is below;
      count = length-set s.regs k ty.Conflict ∙ below.count;
      result = below.result;
      caught = below.caught;
      this_pending = below.this_pending;
    }

  module _ (before : Before) (ready : IsReady image code) (are : AreBefore image code before) where
    conflict_implied : (place : ℕ) (s t : RegState) (k : ℕ) → fits_blocks image code before place s → IsWithoutClass image code place s k →
        IsImplied (blocks_flow image code before) (fits_blocks image code before) place s t (with_conflict s k)
    conflict_implied place s t k fits without = record {
      fit = (conflict_fits_by place s k (nat_lt place (addresses code)) fits.0, fits.1);
      bound = λ b closed first second.
          let c : Assignment RegState = filled image code before b in
          let is : IsFilled image code before b c = filled_from image code before are b c (λ at. refl) in
          let gathered : IsClosed (gathered_flow image code) c = closed_filled image code before ready are b c is closed in
          let there : c place ≡ Some first.state = is.head place fits.1 ∙ first.there in
          let below : IsBelow image s first.state = below_from image s first.state first.above in
          record {
            state = first.state;
            there = first.there;
            above = below_to image (with_conflict s k) first.state (conflict_below place s first.state k c gathered there without.none without.class.0 without.class.1 below);
          };
    }

-- ---- of rows

abbrev pub named : Names → Code → List Mark → NamedCode
named names code marks = record { names = names; code = code; marks = marks }

abbrev pub IsLeapt : (place : ℕ) (row by more : Kept RegState Names) → NamedCode → Type 0
IsLeapt place row by more m =
    IsImplied (flow_beside m.names (blocks_flow m.names.image m.code (before_by m.marks))) (fits_beside m.names (fits_blocks m.names.image m.code (before_by m.marks))) place row by more

module _ (names : Names) (code : Code) (marks : List Mark) (ready : IsReady names.image code) (are : AreBefore names.image code (before_by marks)) where
  leapt_named : (place : ℕ) (row by more : Kept RegState Names) → fits_beside names (fits_blocks names.image code (before_by marks)) place row → IsLeap names code place row more → IsLeapt place row by more (named names code marks)
  leapt_named place row by more fits leap =
      let high : Kept RegState Names = kept names (with_conflict row.state leap.register) in
      let is : IsLeapt place row by high (named names code marks) =
      implied_beside names (blocks_flow names.image code (before_by marks)) (fits_blocks names.image code (before_by marks)) place row by high refl
      (conflict_implied names.image code (before_by marks) ready are place row.state by.state leap.register fits.1 leap.without) in
      subst (λ (x : Kept RegState Names). IsLeapt place row by x (named names code marks)) (sym leap.is) is

  -- the flow of a method
  pub leapt : (m : NamedCode) → m ≡ named names code marks → (place : ℕ) (row by more : Kept RegState Names) → fits_beside names (fits_blocks names.image code (before_by marks)) place row → IsLeap names code place row more → IsLeapt place row by more m
  leapt m e place row by more fits leap = subst (IsLeapt place row by more) (sym e) (leapt_named place row by more fits leap)

  -- where there is one
  pub leaps : (m : NamedCode) → m ≡ named names code marks → (place : ℕ) (row by : Kept RegState Names) → fits_beside names (fits_blocks names.image code (before_by marks)) place row →
      (more : Option (Kept RegState Names)) → IfSome more (IsLeap names code place row) → IfSome more (λ x. IsLeapt place row by x m)
  leaps m e place row by fits None leap = tt
  leaps m e place row by fits (Some more) leap = leapt m e place row by more fits leap

-- all states of a body have its registers
count_by : (image : Image) (code : Code) (place : ℕ) (s : RegState) (b : Bool) → fits_by image code place s b → length s.regs ≡ code.body.registers
count_by image code place s true f = f.1.count
count_by image code place s false f = f.1.count

pub counted : (names : Names) (code : Code) (marks : List Mark) (place : ℕ) (row : Kept RegState Names) → fits_beside names (fits_blocks names.image code (before_by marks)) place row →
    length row.state.regs ≡ code.body.registers
counted names code marks place row fits = count_by names.image code place row.state (nat_lt place (addresses code)) fits.1.0
